-- What passes names the furthest corners, and its size is the diameter.
use Rattle.std.proofs.Common.{◌≡◌, sym, ap, subst, ◌∙◌, ℕ, ◌<◌, ℤ, pos, ◌*ℤ◌, ◌≤ℤ◌, List, [], ◌∷◌, length, get_or, arith}
use Rattle.std.specs.Prelude.{Contains, slice_index_or}
use Rattle.std.proofs.lemmas.List.{get_or_default}
use Rattle.std.proofs.lemmas.List.Elements.{All-contains, All-get_or, Contains-get_or}
use Rattle.integers.specs.Extremes.{greatest}
use Rattle.integers.proofs.Extremes.{below_greatest, has_greatest}
use Rattle.integers.proofs.Order.{le_trans_ℤ, le_by, nonneg_mul, nonneg_difference, nonneg_from_one, combine1}
use Rattle.integers.proofs.Identities.{den-ring, read, polys, lits}
use Rattle.bounds_model.specs.Plane.{PlanePoint, point_at, origin, squared_distance}
use Rattle.bounds_model.specs.Hull.{AreCorners}
use Rattle.model_laws.proofs.CornerLaw.{passing_corners, named_points}
use Rattle.bounds_model.specs.Furthest.{IsFurthest}
use Rattle.bounds_model.specs.FurthestAnswer.{FurthestAnswer, PassesFurthest, corner_numbers, entry_points, far_at, far_distance}
use Rattle.optimality.specs.Laws.{PassingAnswersAreFurthest, IsFurthestOfAll}
use Rattle.model_laws.proofs.EntryPoints.{none, corner_count, far_is}
use Rattle.furthest_laws.proofs.Diameters.{corner_as_far, same_distance}

-- what a passing answer shows of a corner's furthest one
as_far : (points corners : List PlanePoint) (i far : ℕ) → AreCorners points corners → IsFurthest corners i far → IsFurthestOfAll points corners i far
as_far points corners i far hull f = λ k d low.
    let found = corner_as_far points corners (point_at corners i) (get_or points k d) hull (Contains-get_or points k d low) in
    le_trans_ℤ found.2 (f.furthest found.0 origin found.1)

-- no two points are farther apart than the greatest distance of an entry
within : (points : List PlanePoint) (a : FurthestAnswer) → PassesFurthest points a → AreCorners points (entry_points points a.entries) → (p q : PlanePoint) → Contains points p → Contains points q
    → squared_distance p q ≤ℤ greatest (far_distance points a.entries) a.entries
within points a passes hull p q listed_p listed_q =
    let corners = entry_points points a.entries in
    let found = corner_as_far points corners p q hull listed_q in
    let low : found.0 < length a.entries = subst (λ n. found.0 < n) (corner_count points a.entries) found.1 in
    le_trans_ℤ found.2
    (subst (λ z. z ≤ℤ greatest (far_distance points a.entries) a.entries) (same_distance (point_at corners found.0) p)
    (le_trans_ℤ (All-contains (λ z. squared_distance (point_at corners found.0) z ≤ℤ squared_distance (point_at corners found.0) (point_at corners (far_at a.entries found.0))) points p
    (as_far points corners found.0 (far_at a.entries found.0) hull (passes.furthest found.0 low)) listed_p)
    (subst (λ z. z ≤ℤ greatest (far_distance points a.entries) a.entries) (far_is points a.entries found.0 low) (below_greatest (far_distance points a.entries) a.entries found.0 none low))))

-- the size over its denominator is the greatest distance
size_is : (points : List PlanePoint) (a : FurthestAnswer) → PassesFurthest points a → a.size.n ≡ greatest (far_distance points a.entries) a.entries *ℤ a.size.d
size_is points a passes = plain a.size.n a.size.d (greatest (far_distance points a.entries) a.entries) passes.size
  where
    plain : (n d g : ℤ) → n *ℤ pos 1 ≡ g *ℤ d → n ≡ g *ℤ d
    plain n d g e = combine1 (pos 1) e (read (n ∷ d ∷ g ∷ []) (λ xs u v w. simp (u, v, w, polys, lits xs) (den-ring xs _ _ tt)))

over : (points : List PlanePoint) (a : FurthestAnswer) → PassesFurthest points a → (z : ℤ) → z ≤ℤ greatest (far_distance points a.entries) a.entries → (z *ℤ a.size.d) ≤ℤ a.size.n
over points a passes z h =
    subst (λ n. (z *ℤ a.size.d) ≤ℤ n) (sym (size_is points a passes)) (times a.size.d z (greatest (far_distance points a.entries) a.entries)
    (nonneg_from_one passes.ranges.size.lowest.not_negative.denominator) h)
  where
    times : (d x y : ℤ) → pos 0 ≤ℤ d → x ≤ℤ y → (x *ℤ d) ≤ℤ (y *ℤ d)
    times d x y p h = le_by (nonneg_mul p (nonneg_difference h)) (read (d ∷ x ∷ y ∷ []) (λ xs u v w. simp (u, v, w, polys) (den-ring xs _ _ tt)))

-- two points are so far apart
both : (points : List PlanePoint) (a : FurthestAnswer) → PassesFurthest points a → (p : PlanePoint) × (q : PlanePoint) × Contains points p × Contains points
    q × (a.size.n ≡ squared_distance p q *ℤ a.size.d)
both points a passes =
    let corners = entry_points points a.entries in
    let listed = named_points points (corner_numbers a.entries) passes.numbers in
    let top = has_greatest (far_distance points a.entries) a.entries (omega (arith, passes.ranges.count.at_least)) in
    let i = top.1.0 in
    let low = top.1.1 in
    let is : slice_index_or a.entries i none ≡ top.0 = get_or_default a.entries i none top.0 low ∙ top.1.2 in
    let f = passes.furthest i low in (
      point_at corners i,
      point_at corners (far_at a.entries i),
      All-get_or (Contains points) corners i origin (subst (λ n. i < n) (sym (corner_count points a.entries)) low) listed,
      All-get_or (Contains points) corners (far_at a.entries i) origin f.in_range listed,
      size_is points a passes ∙ ap (λ g. g *ℤ a.size.d) (top.2 ∙ ap (far_distance points a.entries) (sym is) ∙ far_is points a.entries i low),
    )

pub passing_furthest : PassingAnswersAreFurthest
passing_furthest points a p =
    let hull = passing_corners points (entry_points points a.entries) (named_points points (corner_numbers a.entries) p.numbers) p.corners in
    record {
      corners = hull;
      first = p.furthest;
      of_all = λ i low. as_far points (entry_points points a.entries) i (far_at a.entries i) hull (p.furthest i low);
      diameter = record {
        above = λ k d low l e low'. over points a p (squared_distance (get_or points k d) (get_or points l e))
            (within points a p hull (get_or points k d) (get_or points l e) (Contains-get_or points k d low) (Contains-get_or points l e low'));
        reached = both points a p;
      };
    }
