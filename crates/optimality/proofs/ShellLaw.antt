-- A shell that passes has the least difference of squared radii around its points.
use Rattle.std.proofs.Common.{◌≡◌, subst, sym, ◌∙◌, ℕ, ◌<◌, ◌≤◌, ℤ, pos, ◌+ℤ◌, ◌-ℤ◌, ◌*ℤ◌, neg_ℤ, ◌≤ℤ◌, List, [], ◌∷◌, length, arith}
use Rattle.std.specs.Prelude.{All, slice_index_or}
use Rattle.std.proofs.lemmas.Int.{ints}
use Rattle.integers.proofs.Identities.{den-ring, read, polys, lits}
use Rattle.integers.proofs.Order.{nonneg_mul, nonneg_add, positive_mul, positive_from_one, at_least_one, le_by, le_of_mul_le, nonneg_difference, square_nonneg, combine1, combine2, combine3, nonneg_from_one}
use Rattle.integers.proofs.Sums.{total_weighted_le, total_positive}
use Rattle.integers.proofs.Extremes.{below_greatest, above_least, has_least}
use Rattle.bounds_model.specs.Space.{SpacePoint, SpaceRatio, origin, point_at, squared_length}
use Rattle.bounds_model.specs.Fractions.{IsAtMost}
use Rattle.bounds_model.specs.Best.{IsPrintedSize}
use Rattle.bounds_model.specs.AnnulusAnswer.{WeightedPair, pair_sum}
use Rattle.bounds_model.specs.Shell.{Shell, FitsShell, squared_distance, shell_size}
use Rattle.bounds_model.specs.ShellAnswer.{ShellAnswer, shell_of, power, squared_radius_at, weighted_differences, PassesShell}
use Rattle.model_laws.proofs.SizeDenominators.{shell_denominator}
use Rattle.optimality.specs.Laws.{PassingShellsAreBest}
use Rattle.optimality.proofs.PrintedSizes.{smallest_by_printed}

-- ---- the shell of an answer holds the points: |w p - c|² is w times the level of p, and |c|²

-- written out in coordinates
plain_distance : (w x y z px py pz : ℤ)
    → (w *ℤ px -ℤ x) *ℤ (w *ℤ px -ℤ x) +ℤ (w *ℤ py -ℤ y) *ℤ (w *ℤ py -ℤ y) +ℤ (w *ℤ pz -ℤ z) *ℤ (w *ℤ pz -ℤ z)
    ≡ w *ℤ (w *ℤ (px *ℤ px +ℤ py *ℤ py +ℤ pz *ℤ pz) -ℤ pos 2 *ℤ (x *ℤ px +ℤ y *ℤ py +ℤ z *ℤ pz)) +ℤ (x *ℤ x +ℤ y *ℤ y +ℤ z *ℤ z)
plain_distance w x y z px py pz = read (w ∷ x ∷ y ∷ z ∷ px ∷ py ∷ pz ∷ []) (λ xs a b c d e f g. simp (a, b, c, d, e, f, g, polys, lits xs) (den-ring xs _ _ tt))

-- the squared distance from the centre of a point is the squared radius at its level, over w²
distance_is : (c : SpaceRatio) (p : SpacePoint) → squared_distance c p ≡ (squared_radius_at c (power c p)).n
distance_is c p = plain_distance c.w c.x c.y c.z p.x p.y p.z

-- the sphere of a level that is at least that of some point has a squared radius that is not below 0
radius_nonneg : (c : SpaceRatio) (p : SpacePoint) (h : ℤ) → pos 1 ≤ℤ c.w → power c p ≤ℤ h → pos 0 ≤ℤ (squared_radius_at c h).n
radius_nonneg c p h some above = raise c.w (power c p) h _ (nonneg_from_one some) above (subst (λ z. pos 0 ≤ℤ z) (distance_is c p) (squares (c.w *ℤ p.x -ℤ c.x) (c.w *ℤ p.y -ℤ c.y) (c.w *ℤ p.z -ℤ c.z)))
  where
    squares : (x y z : ℤ) → pos 0 ≤ℤ (x *ℤ x +ℤ y *ℤ y +ℤ z *ℤ z)
    squares x y z = nonneg_add (nonneg_add (square_nonneg x) (square_nonneg y)) (square_nonneg z)

    raise : (w q h g : ℤ) → pos 0 ≤ℤ w → q ≤ℤ h → pos 0 ≤ℤ (w *ℤ q +ℤ g) → pos 0 ≤ℤ (w *ℤ h +ℤ g)
    raise w q h g pw above some = sum (w *ℤ q) (w *ℤ h) g (le_by (nonneg_mul pw (nonneg_difference above)) (read (w ∷ q ∷ h ∷ []) (λ xs a b c. simp (a, b, c, polys) (den-ring xs _ _ tt)))) some
      where
        sum : (a b g : ℤ) → a ≤ℤ b → pos 0 ≤ℤ (a +ℤ g) → pos 0 ≤ℤ (b +ℤ g)
        sum a b g h k = omega (arith, ints)

-- the square of a denominator is one
square_positive : {w : ℤ} → pos 1 ≤ℤ w → pos 1 ≤ℤ (w *ℤ w)
square_positive h = at_least_one (positive_mul (positive_from_one h) (positive_from_one h))

-- a point whose level q is at most h is inside the sphere of the level h: g stands for |c|²
plain_inside : (w q h g : ℤ) → pos 0 ≤ℤ w → q ≤ℤ h → (w *ℤ w *ℤ (w *ℤ q +ℤ g)) ≤ℤ ((w *ℤ h +ℤ g) *ℤ (w *ℤ w))
plain_inside w q h g pw l =
    le_by (nonneg_mul (nonneg_mul (nonneg_mul pw pw) pw) (nonneg_difference l)) (read (w ∷ q ∷ h ∷ g ∷ []) (λ xs a b c d. simp (a, b, c, d, polys) (den-ring xs _ _ tt)))

-- one whose level is at least h is outside of it
plain_outside : (w q h g : ℤ) → pos 0 ≤ℤ w → h ≤ℤ q → ((w *ℤ h +ℤ g) *ℤ (w *ℤ w)) ≤ℤ (w *ℤ w *ℤ (w *ℤ q +ℤ g))
plain_outside w q h g pw l =
    le_by (nonneg_mul (nonneg_mul (nonneg_mul pw pw) pw) (nonneg_difference l)) (read (w ∷ q ∷ h ∷ g ∷ []) (λ xs a b c d. simp (a, b, c, d, polys) (den-ring xs _ _ tt)))

-- there are points, since a pair names one
some_points : (points : List SpacePoint) (a : ShellAnswer) → PassesShell points a → 0 < length points
some_points points a h = some (h.numbers 0 (record { first = 0; second = 0; weight = pos 0 }) (count h.ranges.count.at_least)).0
  where
    count : {n : ℕ} → 1 ≤ n → 0 < n
    count h = omega arith

    some : {i n : ℕ} → i < n → 0 < n
    some h = omega arith

-- the shell of the answer fits
shell_fits : (points : List SpacePoint) (a : ShellAnswer) → PassesShell points a → FitsShell points (shell_of a)
shell_fits points a h =
    let c = a.centre in
    let w = nonneg_from_one h.ranges.centre.denominator in
    let reached = has_least (power c) points (some_points points a h) in
    let low_is : power c reached.0 ≡ a.low = sym (reached.2) ∙ sym h.low in
    let nearest : power c reached.0 ≤ℤ a.low = same_le low_is in
    record {
      denominator = h.ranges.centre.denominator;
      inner = record { numerator = radius_nonneg c reached.0 a.low h.ranges.centre.denominator nearest; denominator = square_positive h.ranges.centre.denominator };
      outer = record {
        numerator = radius_nonneg c (slice_index_or points 0 origin) a.high h.ranges.centre.denominator (subst (λ z. power c (slice_index_or points 0 origin) ≤ℤ z) (sym h.high) (below_greatest (power c) points 0 origin (some_points points a h)));
        denominator = square_positive h.ranges.centre.denominator;
      };
      inside = λ i d l.
          let p = slice_index_or points i d in
          record {
            outside_inner = subst (λ z. ((squared_radius_at c a.low).n *ℤ (c.w *ℤ c.w)) ≤ℤ (c.w *ℤ c.w *ℤ z)) (sym (distance_is c p)) (plain_outside c.w (power c p) a.low _ w (subst (λ z. z ≤ℤ power c p) (sym h.low) (above_least (power c) points i d l)));
            inside_outer = subst (λ z. (c.w *ℤ c.w *ℤ z) ≤ℤ ((squared_radius_at c a.high).n *ℤ (c.w *ℤ c.w))) (sym (distance_is c p)) (plain_inside c.w (power c p) a.high _ w (subst (λ z. power c p ≤ℤ z) (sym h.high) (below_greatest (power c) points i d l)));
          };
    }
  where
    same_le : {a b : ℤ} → a ≡ b → a ≤ℤ b
    same_le e = omega (arith, ints)

-- the difference of the radii at the levels M and m is (M - m)/w: g stands for |c|²
radii_difference : (N D w M m g : ℤ) → N *ℤ w ≡ (M -ℤ m) *ℤ D
    → N *ℤ (w *ℤ w *ℤ (w *ℤ w)) ≡ ((w *ℤ M +ℤ g) *ℤ (w *ℤ w) -ℤ (w *ℤ m +ℤ g) *ℤ (w *ℤ w)) *ℤ D
radii_difference N D w M m g h =
    combine1 (w *ℤ w *ℤ w) h (read (N ∷ D ∷ w ∷ M ∷ m ∷ g ∷ []) (λ xs a b c d e f. simp (a, b, c, d, e, f, polys) (den-ring xs _ _ tt)))

-- so the answer prints its size
shell_prints : (points : List SpacePoint) (a : ShellAnswer) → PassesShell points a → IsPrintedSize (shell_size (shell_of a)) a.size
shell_prints points a h =
    let c = a.centre in
    record {
      lowest = h.ranges.size.lowest;
      same = radii_difference a.size.n a.size.d c.w a.high a.low (c.x *ℤ c.x +ℤ c.y *ℤ c.y +ℤ c.z *ℤ c.z) h.size;
    }

-- ---- every centre has the same weighted differences of squared distances

-- one more pair of weight a: T, X, Y, Z and U are the weighted differences so far
one_more_pair : (k cx cy cz a px py pz qx qy qz T X Y Z U : ℤ) → T ≡ k *ℤ k *ℤ U -ℤ pos 2 *ℤ (k *ℤ (cx *ℤ X +ℤ cy *ℤ Y +ℤ cz *ℤ Z))
    → a *ℤ (((k *ℤ px -ℤ cx) *ℤ (k *ℤ px -ℤ cx) +ℤ (k *ℤ py -ℤ cy) *ℤ (k *ℤ py -ℤ cy) +ℤ (k *ℤ pz -ℤ cz) *ℤ (k *ℤ pz -ℤ cz)) -ℤ ((k *ℤ qx -ℤ cx) *ℤ (k *ℤ qx -ℤ cx) +ℤ (k *ℤ qy -ℤ cy) *ℤ (k *ℤ qy -ℤ cy) +ℤ (k *ℤ qz -ℤ cz) *ℤ (k *ℤ qz -ℤ cz))) +ℤ T
    ≡ k *ℤ k *ℤ (a *ℤ ((px *ℤ px +ℤ py *ℤ py +ℤ pz *ℤ pz) -ℤ (qx *ℤ qx +ℤ qy *ℤ qy +ℤ qz *ℤ qz)) +ℤ U) -ℤ pos 2 *ℤ (k *ℤ (cx *ℤ (a *ℤ (px -ℤ qx) +ℤ X) +ℤ cy *ℤ (a *ℤ (py -ℤ qy) +ℤ Y) +ℤ cz *ℤ (a *ℤ (pz -ℤ qz) +ℤ Z)))
one_more_pair k cx cy cz a px py pz qx qy qz T X Y Z U h =
    combine1 (pos 1) h
    (read (k ∷ cx ∷ cy ∷ cz ∷ a ∷ px ∷ py ∷ pz ∷ qx ∷ qy ∷ qz ∷ T ∷ X ∷ Y ∷ Z ∷ U ∷ []) (λ xs a b c d e f g h i j k l m n o p. simp (a, b, c, d, e, f, g, h, i, j, k, l, m, n, o, p, polys, lits xs) (den-ring xs _ _ tt)))

-- the weighted differences of the squared distances from a centre, by those of the squared lengths and of the coordinates
differences_of_distances : (points : List SpacePoint) (c : SpaceRatio) (pairs : List WeightedPair)
    → weighted_differences points (squared_distance c) pairs
    ≡ c.w *ℤ c.w *ℤ weighted_differences points squared_length pairs -ℤ pos 2 *ℤ (c.w *ℤ (c.x *ℤ weighted_differences points (λ p. p.x) pairs +ℤ c.y *ℤ weighted_differences points (λ p. p.y) pairs +ℤ c.z *ℤ weighted_differences points (λ p. p.z) pairs))
differences_of_distances points c [] = nothing c.w c.x c.y c.z
  where
    nothing : (k x y z : ℤ) → pos 0 ≡ k *ℤ k *ℤ pos 0 -ℤ pos 2 *ℤ (k *ℤ (x *ℤ pos 0 +ℤ y *ℤ pos 0 +ℤ z *ℤ pos 0))
    nothing k x y z = read (k ∷ x ∷ y ∷ z ∷ []) (λ xs a b c d. simp (a, b, c, d, polys, lits xs) (den-ring xs _ _ tt))
differences_of_distances points c (pair ∷ rest) =
    let p = point_at points pair.first in
    let q = point_at points pair.second in
    one_more_pair c.w c.x c.y c.z pair.weight p.x p.y p.z q.x q.y q.z (weighted_differences points (squared_distance c) rest) (weighted_differences points (λ p. p.x) rest) (weighted_differences points (λ p. p.y) rest) (weighted_differences points (λ p. p.z) rest) (weighted_differences points squared_length rest) (differences_of_distances points c rest)

-- so for balanced pairs they do not depend on the centre
balanced : (k cx cy cz T X Y Z U : ℤ) → T ≡ k *ℤ k *ℤ U -ℤ pos 2 *ℤ (k *ℤ (cx *ℤ X +ℤ cy *ℤ Y +ℤ cz *ℤ Z)) → X ≡ pos 0 → Y ≡ pos 0 → Z ≡ pos 0 → T ≡ k *ℤ k *ℤ U
balanced k cx cy cz T X Y Z U h hx hy hz =
    h ∙ combine3 (neg_ℤ (pos 2 *ℤ (k *ℤ cx))) (neg_ℤ (pos 2 *ℤ (k *ℤ cy))) (neg_ℤ (pos 2 *ℤ (k *ℤ cz))) hx hy hz
    (read (k ∷ cx ∷ cy ∷ cz ∷ X ∷ Y ∷ Z ∷ U ∷ []) (λ xs a b c d e f g h. simp (a, b, c, d, e, f, g, h, polys, lits xs) (den-ring xs _ _ tt)))

-- ---- no shell that fits is smaller

-- the squared distances f and g of two points of a shell differ by at most the squared radii
pair_in_shell : (inner_n inner_d outer_n outer_d kk f g : ℤ) → pos 0 ≤ℤ inner_d → pos 0 ≤ℤ outer_d → (outer_d *ℤ f) ≤ℤ (outer_n *ℤ kk) → (inner_n *ℤ kk) ≤ℤ (inner_d *ℤ g)
    → (outer_d *ℤ inner_d *ℤ (f -ℤ g)) ≤ℤ ((outer_n *ℤ inner_d -ℤ inner_n *ℤ outer_d) *ℤ kk)
pair_in_shell inner_n inner_d outer_n outer_d kk f g pi po h k =
    le_by (nonneg_add (nonneg_mul pi (nonneg_difference h)) (nonneg_mul po (nonneg_difference k)))
    (read (inner_n ∷ inner_d ∷ outer_n ∷ outer_d ∷ kk ∷ f ∷ g ∷ []) (λ xs a b c d e f g. simp (a, b, c, d, e, f, g, polys) (den-ring xs _ _ tt)))

-- N/D is the mean Z/A of the differences of squared lengths, and the mean T/A of the differences of squared distances is at most S/E
mean_at_most : (N D A Z T k S E : ℤ) → pos 1 ≤ℤ A → pos 1 ≤ℤ k → pos 1 ≤ℤ D → N *ℤ A ≡ Z *ℤ D → T ≡ k *ℤ k *ℤ Z → (E *ℤ T) ≤ℤ (A *ℤ (S *ℤ (k *ℤ k))) → (N *ℤ E) ≤ℤ (S *ℤ D)
mean_at_most N D A Z T k S E pa pk pd h e l =
    le_of_mul_le (A *ℤ (k *ℤ k)) (positive_mul (positive_from_one pa) (positive_mul (positive_from_one pk) (positive_from_one pk)))
    (le_by (nonneg_mul (nonneg_from_one pd) (nonneg_difference l))
    (combine2 (neg_ℤ (k *ℤ k *ℤ E)) (E *ℤ D) h e
    (read (N ∷ D ∷ A ∷ Z ∷ T ∷ k ∷ S ∷ E ∷ []) (λ xs a b c d e f g h. simp (a, b, c, d, e, f, g, h, polys) (den-ring xs _ _ tt)))))

-- no shell that fits is smaller than the size
none_smaller : (points : List SpacePoint) (a : ShellAnswer) → PassesShell points a → (other : Shell) → FitsShell points other → IsAtMost a.size (shell_size other)
none_smaller points a h other fits =
    let c = other.centre in
    let difference = λ (pair : WeightedPair). squared_distance c (point_at points pair.first) -ℤ squared_distance c (point_at points pair.second) in
    let S = other.outer.n *ℤ other.inner.d -ℤ other.inner.n *ℤ other.outer.d in
    let E = other.outer.d *ℤ other.inner.d in
    let each : All (λ (pair : WeightedPair). (E *ℤ difference pair) ≤ℤ (S *ℤ (c.w *ℤ c.w))) a.pairs
    = λ i d l.
    let pair = slice_index_or a.pairs i d in
    pair_in_shell other.inner.n other.inner.d other.outer.n other.outer.d (c.w *ℤ c.w) (squared_distance c (point_at points pair.first)) (squared_distance c (point_at points pair.second)) (nonneg_from_one fits.inner.denominator) (nonneg_from_one fits.outer.denominator)
    (fits.inside pair.first origin (h.numbers i d l).0).inside_outer (fits.inside pair.second origin (h.numbers i d l).1).outside_inner in
    let bound = total_weighted_le (λ (pair : WeightedPair). pair.weight) difference E (S *ℤ (c.w *ℤ c.w)) a.pairs (λ i d l. nonneg_from_one (h.weights i d l)) each in
    let same = balanced c.w c.x c.y c.z (weighted_differences points (squared_distance c) a.pairs) (weighted_differences points (λ p. p.x) a.pairs) (weighted_differences points (λ p. p.y) a.pairs) (weighted_differences points (λ p. p.z) a.pairs) (weighted_differences points squared_length a.pairs) (differences_of_distances points c a.pairs) h.balanced_x h.balanced_y h.balanced_z in
    let weight = at_least_one (total_positive (λ (pair : WeightedPair). pair.weight) a.pairs h.ranges.count.at_least (λ i d l. positive_from_one (h.weights i d l))) in
    mean_at_most a.size.n a.size.d (pair_sum a.pairs) (weighted_differences points squared_length a.pairs) (weighted_differences points (squared_distance c) a.pairs) c.w S E weight fits.denominator h.ranges.size.lowest.not_negative.denominator h.least_size same bound

-- a shell that passes has the least difference of squared radii
pub shell_law : PassingShellsAreBest
shell_law points a h =
    smallest_by_printed (FitsShell points) shell_size (shell_denominator points) (shell_of a) a.size (shell_fits points a h) (shell_prints points a h) (none_smaller points a h)
