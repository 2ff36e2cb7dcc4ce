-- An annulus that passes has the least difference of squared radii around its points.
use Rattle.std.proofs.Common.{◌≡◌, ℤ, pos, negsuc, ◌+ℤ◌, ◌-ℤ◌, ◌*ℤ◌, neg_ℤ, ◌≤ℤ◌, List, [], ◌∷◌}
use Rattle.std.specs.Prelude.{All, slice_index_or}
use Rattle.integers.proofs.Identities.{den-ring, read, polys, lits, below_lits}
use Rattle.integers.proofs.Order.{nonneg_mul, nonneg_add, positive_mul, positive_from_one, at_least_one, le_by, le_of_mul_le, same_of_mul, nonneg_difference, combine1, combine2, combine3, nonneg_from_one}
use Rattle.integers.proofs.Sums.{total_weighted_le, total_positive}
use Rattle.integers.proofs.Extremes.{below_greatest, above_least}
use Rattle.integers.specs.Extremes.{greatest, least}
use Rattle.bounds_model.specs.Plane.{PlanePoint, PlaneRatio, origin, point_at, squared_length}
use Rattle.bounds_model.specs.Fractions.{IsAtMost}
use Rattle.bounds_model.specs.Best.{IsPrintedSize}
use Rattle.bounds_model.specs.Annulus.{Annulus, FitsAnnulus, squared_distance, annulus_size}
use Rattle.bounds_model.specs.AnnulusAnswer.{WeightedPair, AnnulusAnswer, annulus_of, power, pair_sum, weighted_differences, PassesAnnulus}
use Rattle.model_laws.proofs.SizeDenominators.{annulus_denominator}
use Rattle.optimality.specs.Laws.{PassingAnnuliAreBest}
use Rattle.optimality.proofs.PrintedSizes.{smallest_by_printed}

-- ---- the annulus of an answer holds the points: |w p - c|² is w times the power of p, and |c|²

-- a point whose power is at most M is at most the outer radius away
inside_outer : (n d w x y M px py : ℤ) → pos 0 ≤ℤ d → pos 0 ≤ℤ w → n *ℤ (w *ℤ w) ≡ (w *ℤ M +ℤ (x *ℤ x +ℤ y *ℤ y)) *ℤ d
    → (w *ℤ (px *ℤ px +ℤ py *ℤ py) -ℤ pos 2 *ℤ (x *ℤ px +ℤ y *ℤ py)) ≤ℤ M
    → (d *ℤ ((w *ℤ px -ℤ x) *ℤ (w *ℤ px -ℤ x) +ℤ (w *ℤ py -ℤ y) *ℤ (w *ℤ py -ℤ y))) ≤ℤ (n *ℤ (w *ℤ w))
inside_outer n d w x y M px py pd pw e l =
    le_by (nonneg_mul (nonneg_mul pd pw) (nonneg_difference l))
    (combine1 (pos 1) e (read (n ∷ d ∷ w ∷ x ∷ y ∷ M ∷ px ∷ py ∷ []) (λ xs a b c d e f g h. simp (a, b, c, d, e, f, g, h, polys, lits xs) (den-ring xs _ _ tt))))

-- a point whose power is at least m is at least the inner radius away
outside_inner : (n d w x y m px py : ℤ) → pos 0 ≤ℤ d → pos 0 ≤ℤ w → n *ℤ (w *ℤ w) ≡ (w *ℤ m +ℤ (x *ℤ x +ℤ y *ℤ y)) *ℤ d
    → m ≤ℤ (w *ℤ (px *ℤ px +ℤ py *ℤ py) -ℤ pos 2 *ℤ (x *ℤ px +ℤ y *ℤ py))
    → (n *ℤ (w *ℤ w)) ≤ℤ (d *ℤ ((w *ℤ px -ℤ x) *ℤ (w *ℤ px -ℤ x) +ℤ (w *ℤ py -ℤ y) *ℤ (w *ℤ py -ℤ y)))
outside_inner n d w x y m px py pd pw e l =
    le_by (nonneg_mul (nonneg_mul pd pw) (nonneg_difference l))
    (combine1 (negsuc 0) e (read (n ∷ d ∷ w ∷ x ∷ y ∷ m ∷ px ∷ py ∷ []) (λ xs a b c d e f g h. simp (a, b, c, d, e, f, g, h, polys, lits xs, below_lits xs) (den-ring xs _ _ tt))))

-- the annulus of the answer fits
annulus_fits : (points : List PlanePoint) (a : AnnulusAnswer) → PassesAnnulus points a → FitsAnnulus points (annulus_of a)
annulus_fits points a h =
    let c = a.centre in
    let w = nonneg_from_one h.ranges.centre.denominator in
    record {
      denominator = h.ranges.centre.denominator;
      inner = h.ranges.inner.lowest.not_negative;
      outer = h.ranges.outer.lowest.not_negative;
      inside = λ i d l.
          let p = slice_index_or points i d in
          record {
            outside_inner = outside_inner a.inner.n a.inner.d c.w c.x c.y (least (power c) points) p.x p.y (nonneg_from_one h.ranges.inner.lowest.not_negative.denominator) w h.inner (above_least (power c) points i d l);
            inside_outer = inside_outer a.outer.n a.outer.d c.w c.x c.y (greatest (power c) points) p.x p.y (nonneg_from_one h.ranges.outer.lowest.not_negative.denominator) w h.outer (below_greatest (power c) points i d l);
          };
    }

-- the difference of the radii at the powers M and m is (M - m)/w: g stands for |c|²
radii_difference : (N D w M m g outer_n outer_d inner_n inner_d : ℤ) → pos 1 ≤ℤ w → N *ℤ w ≡ (M -ℤ m) *ℤ D
    → outer_n *ℤ (w *ℤ w) ≡ (w *ℤ M +ℤ g) *ℤ outer_d → inner_n *ℤ (w *ℤ w) ≡ (w *ℤ m +ℤ g) *ℤ inner_d
    → N *ℤ (outer_d *ℤ inner_d) ≡ (outer_n *ℤ inner_d -ℤ inner_n *ℤ outer_d) *ℤ D
radii_difference N D w M m g outer_n outer_d inner_n inner_d pw h ho hi =
    same_of_mul (w *ℤ w) (positive_mul (positive_from_one pw) (positive_from_one pw))
    (combine3 (w *ℤ (outer_d *ℤ inner_d)) (neg_ℤ (inner_d *ℤ D)) (outer_d *ℤ D) h ho hi
    (read (N ∷ D ∷ w ∷ M ∷ m ∷ g ∷ outer_n ∷ outer_d ∷ inner_n ∷ inner_d ∷ []) (λ xs a b c d e f g h i j. simp (a, b, c, d, e, f, g, h, i, j, polys) (den-ring xs _ _ tt))))

-- so the answer prints its size
annulus_prints : (points : List PlanePoint) (a : AnnulusAnswer) → PassesAnnulus points a → IsPrintedSize (annulus_size (annulus_of a)) a.size
annulus_prints points a h =
    let c = a.centre in
    record {
      lowest = h.ranges.size.lowest;
      same = radii_difference a.size.n a.size.d c.w (greatest (power c) points) (least (power c) points) (c.x *ℤ c.x +ℤ c.y *ℤ c.y) a.outer.n a.outer.d a.inner.n a.inner.d h.ranges.centre.denominator h.size h.outer h.inner;
    }

-- ---- every centre has the same weighted differences of squared distances

-- one more pair of weight a: T, X, Y and Z are the weighted differences so far
one_more_pair : (k cx cy a px py qx qy T X Y Z : ℤ) → T ≡ k *ℤ k *ℤ Z -ℤ pos 2 *ℤ (k *ℤ (cx *ℤ X +ℤ cy *ℤ Y))
    → a *ℤ (((k *ℤ px -ℤ cx) *ℤ (k *ℤ px -ℤ cx) +ℤ (k *ℤ py -ℤ cy) *ℤ (k *ℤ py -ℤ cy)) -ℤ ((k *ℤ qx -ℤ cx) *ℤ (k *ℤ qx -ℤ cx) +ℤ (k *ℤ qy -ℤ cy) *ℤ (k *ℤ qy -ℤ cy))) +ℤ T
    ≡ k *ℤ k *ℤ (a *ℤ ((px *ℤ px +ℤ py *ℤ py) -ℤ (qx *ℤ qx +ℤ qy *ℤ qy)) +ℤ Z) -ℤ pos 2 *ℤ (k *ℤ (cx *ℤ (a *ℤ (px -ℤ qx) +ℤ X) +ℤ cy *ℤ (a *ℤ (py -ℤ qy) +ℤ Y)))
one_more_pair k cx cy a px py qx qy T X Y Z h =
    combine1 (pos 1) h
    (read (k ∷ cx ∷ cy ∷ a ∷ px ∷ py ∷ qx ∷ qy ∷ T ∷ X ∷ Y ∷ Z ∷ []) (λ xs a b c d e f g h i j k l. simp (a, b, c, d, e, f, g, h, i, j, k, l, polys, lits xs) (den-ring xs _ _ tt)))

-- the weighted differences of the squared distances from a centre, by those of the squared lengths and of the coordinates
differences_of_distances : (points : List PlanePoint) (c : PlaneRatio) (pairs : List WeightedPair)
    → weighted_differences points (squared_distance c) pairs
    ≡ c.w *ℤ c.w *ℤ weighted_differences points squared_length pairs -ℤ pos 2 *ℤ (c.w *ℤ (c.x *ℤ weighted_differences points (λ p. p.x) pairs +ℤ c.y *ℤ weighted_differences points (λ p. p.y) pairs))
differences_of_distances points c [] = nothing c.w c.x c.y
  where
    nothing : (k x y : ℤ) → pos 0 ≡ k *ℤ k *ℤ pos 0 -ℤ pos 2 *ℤ (k *ℤ (x *ℤ pos 0 +ℤ y *ℤ pos 0))
    nothing k x y = read (k ∷ x ∷ y ∷ []) (λ xs a b c. simp (a, b, c, polys, lits xs) (den-ring xs _ _ tt))
differences_of_distances points c (pair ∷ rest) =
    let p = point_at points pair.first in
    let q = point_at points pair.second in
    one_more_pair c.w c.x c.y pair.weight p.x p.y q.x q.y (weighted_differences points (squared_distance c) rest) (weighted_differences points (λ p. p.x) rest) (weighted_differences points (λ p. p.y) rest) (weighted_differences points squared_length rest) (differences_of_distances points c rest)

-- so for balanced pairs they do not depend on the centre
balanced : (k cx cy T X Y Z : ℤ) → T ≡ k *ℤ k *ℤ Z -ℤ pos 2 *ℤ (k *ℤ (cx *ℤ X +ℤ cy *ℤ Y)) → X ≡ pos 0 → Y ≡ pos 0 → T ≡ k *ℤ k *ℤ Z
balanced k cx cy T X Y Z h hx hy =
    combine3 (pos 1) (neg_ℤ (pos 2 *ℤ (k *ℤ cx))) (neg_ℤ (pos 2 *ℤ (k *ℤ cy))) h hx hy
    (read (k ∷ cx ∷ cy ∷ T ∷ X ∷ Y ∷ Z ∷ []) (λ xs a b c d e f g. simp (a, b, c, d, e, f, g, polys, lits xs) (den-ring xs _ _ tt)))

-- ---- no annulus that fits is smaller

-- the squared distances f and g of two points of an annulus differ by at most the squared radii
pair_in_annulus : (inner_n inner_d outer_n outer_d kk f g : ℤ) → pos 0 ≤ℤ inner_d → pos 0 ≤ℤ outer_d → (outer_d *ℤ f) ≤ℤ (outer_n *ℤ kk) → (inner_n *ℤ kk) ≤ℤ (inner_d *ℤ g)
    → (outer_d *ℤ inner_d *ℤ (f -ℤ g)) ≤ℤ ((outer_n *ℤ inner_d -ℤ inner_n *ℤ outer_d) *ℤ kk)
pair_in_annulus inner_n inner_d outer_n outer_d kk f g pi po h k =
    le_by (nonneg_add (nonneg_mul pi (nonneg_difference h)) (nonneg_mul po (nonneg_difference k)))
    (read (inner_n ∷ inner_d ∷ outer_n ∷ outer_d ∷ kk ∷ f ∷ g ∷ []) (λ xs a b c d e f g. simp (a, b, c, d, e, f, g, polys) (den-ring xs _ _ tt)))

-- N/D is the mean Z/A of the differences of squared lengths, and the mean T/A of the differences of squared distances is at most S/E
mean_at_most : (N D A Z T k S E : ℤ) → pos 1 ≤ℤ A → pos 1 ≤ℤ k → pos 1 ≤ℤ D → N *ℤ A ≡ Z *ℤ D → T ≡ k *ℤ k *ℤ Z → (E *ℤ T) ≤ℤ (A *ℤ (S *ℤ (k *ℤ k))) → (N *ℤ E) ≤ℤ (S *ℤ D)
mean_at_most N D A Z T k S E pa pk pd h e l =
    le_of_mul_le (A *ℤ (k *ℤ k)) (positive_mul (positive_from_one pa) (positive_mul (positive_from_one pk) (positive_from_one pk)))
    (le_by (nonneg_mul (nonneg_from_one pd) (nonneg_difference l))
    (combine2 (neg_ℤ (k *ℤ k *ℤ E)) (E *ℤ D) h e
    (read (N ∷ D ∷ A ∷ Z ∷ T ∷ k ∷ S ∷ E ∷ []) (λ xs a b c d e f g h. simp (a, b, c, d, e, f, g, h, polys) (den-ring xs _ _ tt)))))

-- no annulus that fits is smaller than the size
none_smaller : (points : List PlanePoint) (a : AnnulusAnswer) → PassesAnnulus points a → (other : Annulus) → FitsAnnulus points other → IsAtMost a.size (annulus_size other)
none_smaller points a h other fits =
    let c = other.centre in
    let difference = λ (pair : WeightedPair). squared_distance c (point_at points pair.first) -ℤ squared_distance c (point_at points pair.second) in
    let S = other.outer.n *ℤ other.inner.d -ℤ other.inner.n *ℤ other.outer.d in
    let E = other.outer.d *ℤ other.inner.d in
    let each : All (λ (pair : WeightedPair). (E *ℤ difference pair) ≤ℤ (S *ℤ (c.w *ℤ c.w))) a.pairs
    = λ i d l.
    let pair = slice_index_or a.pairs i d in
    pair_in_annulus other.inner.n other.inner.d other.outer.n other.outer.d (c.w *ℤ c.w) (squared_distance c (point_at points pair.first)) (squared_distance c (point_at points pair.second)) (nonneg_from_one fits.inner.denominator) (nonneg_from_one fits.outer.denominator)
    (fits.inside pair.first origin (h.numbers i d l).0).inside_outer (fits.inside pair.second origin (h.numbers i d l).1).outside_inner in
    let bound = total_weighted_le (λ (pair : WeightedPair). pair.weight) difference E (S *ℤ (c.w *ℤ c.w)) a.pairs (λ i d l. nonneg_from_one (h.weights i d l)) each in
    let same = balanced c.w c.x c.y (weighted_differences points (squared_distance c) a.pairs) (weighted_differences points (λ p. p.x) a.pairs) (weighted_differences points (λ p. p.y) a.pairs) (weighted_differences points squared_length a.pairs) (differences_of_distances points c a.pairs) h.balanced_x h.balanced_y in
    let weight = at_least_one (total_positive (λ (pair : WeightedPair). pair.weight) a.pairs h.ranges.count.at_least (λ i d l. positive_from_one (h.weights i d l))) in
    mean_at_most a.size.n a.size.d (pair_sum a.pairs) (weighted_differences points squared_length a.pairs) (weighted_differences points (squared_distance c) a.pairs) c.w S E weight fits.denominator h.ranges.size.lowest.not_negative.denominator h.least_size same bound

-- an annulus that passes has the least difference of squared radii
pub annulus_law : PassingAnnuliAreBest
annulus_law points a h =
    smallest_by_printed (FitsAnnulus points) annulus_size (annulus_denominator points) (annulus_of a) a.size (annulus_fits points a h) (annulus_prints points a h) (none_smaller points a h)
