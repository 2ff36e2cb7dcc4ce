-- Squares of one side that cover the points make an answer whose numbers are in their ranges, and whose squares cover the points.
use Rattle.std.proofs.Common.{◌≡◌, ◌⊎◌, sym, subst, ap, ◌∙◌, ℕ, ◌<◌, ◌≤◌, ℤ, pos, ◌+ℤ◌, ◌-ℤ◌, ◌*ℤ◌, ◌≤ℤ◌, neg_ℤ, nat_abs, List, [], ◌∷◌, length, get_or, map, All, Any, IsTrue, arith}
use Rattle.std.proofs.lemmas.Int.{ints}
use Rattle.std.proofs.lemmas.List.{get_or-map, length-map}
use Rattle.std.proofs.lemmas.List.Elements.{All-map, All-append, All-contains}
use Rattle.integers.proofs.Identities.{den-ring, read, polys, lits, below_lits}
use Rattle.integers.proofs.Order.{nonneg_mul, le_by, nonneg_difference, combine1}
use Rattle.bounds_model.specs.Plane.{PlanePoint}
use Rattle.bounds_model.specs.Ranges.{IsFraction, IsPlaneRatio}
use Rattle.bounds_model.specs.Centres.{IsNear, FitsCentres}
use Rattle.bounds_model.specs.CentresAnswer as model
use Rattle.corner_squares.specs.declared.square.Square.{Square}
use Rattle.corner_squares.specs.Squares.{square_of, IsCovered}
use Rattle.corner_squares.specs.Covers.{IsPlaced, IsCover, IsFilledUp}
use Rattle.corner_squares.specs.AnswerSquares.{half_of, centre_of, centres_of_squares}
use Rattle.corner_squares.proofs.Covering.{between_sides}
use Rattle.corner_squares.proofs.Halves.{IsLowest-half, half-twice, half-denominator, half-numbers, fraction_in_range}
use Rattle.corner_squares.proofs.Ranges.{centre_near, centre_in_range}
use Rattle.corner_squares.proofs.Placing.{covered_by_more}

-- ---- a point of a square is near its centre

-- a number between -n and n has at most n as its size
size_at_most : (z n : ℤ) → neg_ℤ n ≤ℤ z → z ≤ℤ n → pos (nat_abs z) ≤ℤ n
size_at_most z n low high = grind (arith, ints)

-- a coordinate from x to x + side is near the middle
near_middle : (x v side n d : ℤ) → pos 0 ≤ℤ d → side *ℤ d ≡ pos 2 *ℤ n → x ≤ℤ v → v ≤ℤ (x +ℤ side) → (pos (nat_abs (d *ℤ v -ℤ ((x *ℤ d) +ℤ n))) *ℤ d) ≤ℤ (n *ℤ d)
near_middle x v side n d positive half low high =
    let z : ℤ = d *ℤ v -ℤ ((x *ℤ d) +ℤ n) in
    let above : neg_ℤ n ≤ℤ z = le_by (nonneg_mul positive (nonneg_difference low)) (read (x ∷ v ∷ n ∷ d ∷ []) (λ xs p q r s. simp (p, q, r, s, polys) (den-ring xs _ _ tt))) in
    let below : z ≤ℤ n = le_by (nonneg_mul positive (nonneg_difference high)) (combine1 (neg_ℤ (pos 1)) half (read (x ∷ v ∷ side ∷ n ∷ d ∷ []) (λ xs p q r s t. simp (p, q, r, s, t, polys, lits xs, below_lits xs) (den-ring xs _ _ tt)))) in
    let size = size_at_most z n above below in
    le_by (nonneg_mul positive (nonneg_difference size)) (product (pos (nat_abs z)) n d)
  where
    product : (a n d : ℤ) → n *ℤ d -ℤ a *ℤ d ≡ d *ℤ (n -ℤ a)
    product a n d = read (a ∷ n ∷ d ∷ []) (λ xs p q r. simp (p, q, r, polys) (den-ring xs _ _ tt))

near_its_centre : (side : ℕ) (s : Square) (p : PlanePoint) → s.side ≡ side → IsTrue (model.contains (square_of s) p) → IsNear (half_of side) p (centre_of s (half_of side))
near_its_centre side s p wide covered =
    let inside = (between_sides (square_of s) p).0 covered in
    record {
      in_x = near_middle s.left p.x (pos side) (half_of side).n (half_of side).d positive (half-twice side) inside.0.0 (subst (λ w. p.x ≤ℤ (s.left +ℤ pos w)) wide inside.0.1);
      in_y = near_middle s.bottom p.y (pos side) (half_of side).n (half_of side).d positive (half-twice side) inside.1.0 (subst (λ w. p.y ≤ℤ (s.bottom +ℤ pos w)) wide inside.1.1);
    }
  where
    positive : pos 0 ≤ℤ (half_of side).d
    positive = let h = (IsLowest-half side).not_negative.denominator in omega (arith, ints, h)

near_some : (side : ℕ) (squares : List Square) (p : PlanePoint) → All (IsPlaced side) squares → IsCovered squares p → Any (IsNear (half_of side) p) (map (λ s. centre_of s (half_of side)) squares)
near_some side squares p placed (k, s, below, is, covered) =
    let wide : s.side ≡ side = subst (λ t. t.side ≡ side) is (placed k s below).wide in (
      k,
      centre_of s (half_of side),
      subst (λ n. k < n) (sym (length-map squares (λ s. centre_of s (half_of side)))) below,
      get_or-map (λ s. centre_of s (half_of side)) squares k s (centre_of s (half_of side)) below ∙ ap (λ t. centre_of t (half_of side)) is,
      near_its_centre side s p wide covered,
    )

-- ---- as many squares as are asked for

pub filled_cover : (points : List PlanePoint) (side count : ℕ) (old new : List Square) → IsCover points side count old → IsFilledUp count old new → IsCover points side count new
filled_cover points side count old new h filled = record {
  few = (let e = filled.as_many in omega (arith, e));
  placed = subst (All (IsPlaced side)) (sym filled.appended) (All-append (IsPlaced side) old filled.again h.placed (λ k d below. All-contains (IsPlaced side) old (get_or filled.again k d) h.placed (filled.old_ones k d below)));
  covered = λ k d below. subst (λ ss. IsCovered ss (get_or points k d)) (sym filled.appended) (covered_by_more old filled.again (get_or points k d) (h.covered k d below));
}

-- some square covers a point
pub some_square : (points : List PlanePoint) (side count : ℕ) (squares : List Square) → 1 ≤ length points → IsCover points side count squares → 0 < length squares
some_square points side count squares some h =
    let covered = h.covered 0 (record { x = pos 0; y = pos 0 }) (omega (arith, some)) in
    let below = covered.2 in omega (arith, below)

-- ---- the answer

-- what a checker asks of an answer's size and squares
pub record AreSound (count : ℕ) (points : List PlanePoint) (a : model.CentresAnswer) : Type 0 where
  pub size : IsFraction a.size
  pub halves : (a.size.d ≡ pos 1) ⊎ (a.size.d ≡ pos 2)
  pub size_limit : a.size.n ≤ℤ pos 1000000
  pub squares : All IsPlaneRatio a.squares
  pub centres : All model.IsCentreWithinLimits a.squares
  pub covers : FitsCentres count points (model.cover_of a)

-- so many squares of a side that cover the points have it
pub squares_sound : (count : ℕ) (points : List PlanePoint) (side : ℕ) (squares : List Square) (leaves : List model.Leaf) → side ≤ 400000 → IsCover points side count squares → length squares ≡ count
    → AreSound count points (record { size = half_of side; squares = centres_of_squares side squares; leaves = leaves })
squares_sound count points side squares leaves limit cover as_many = record {
  size = fraction_in_range side limit;
  halves = half-denominator side;
  size_limit = let n = (half-numbers side limit).0.high in omega (arith, ints, n);
  squares = All-map IsPlaneRatio (λ s. centre_of s (half_of side)) squares (λ k d below. centre_in_range side (get_or squares k d) (cover.placed k d below) limit);
  centres = All-map model.IsCentreWithinLimits (λ s. centre_of s (half_of side)) squares (λ k d below. centre_near side (get_or squares k d) (cover.placed k d below) limit);
  covers = record {
    as_many = length-map squares (λ s. centre_of s (half_of side)) ∙ as_many;
    denominators = All-map (λ c. pos 1 ≤ℤ c.w) (λ s. centre_of s (half_of side)) squares (λ k d below. (centre_in_range side (get_or squares k d) (cover.placed k d below) limit).denominator);
    radius = (IsLowest-half side).not_negative;
    near = λ k d below. near_some side squares (get_or points k d) cover.placed (cover.covered k d below);
  };
}
