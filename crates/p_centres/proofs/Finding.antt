-- What a pass has found, point by point.
use Rattle.std.proofs.Common.{◌≡◌, ◌⊎◌, inl, inr, sym, subst, ap, ℕ, ◌+◌, ◌<◌, ◌≤◌, ℤ, pos, nat_abs, ◌+ℤ◌, ◌-ℤ◌, ◌≤ℤ◌, ◌<ℤ◌, List, length, All, Some, None, arith}
use Rattle.std.specs.Prelude.{slice_get, Option, max}
use Rattle.std.proofs.lemmas.Int.{ints}
use Rattle.std.proofs.lemmas.List.{get_or_default}
use Rattle.bounds_model.specs.Plane.{PlanePoint, point_at, origin, IsInPlane}
use Rattle.answers.specs.declared.centres.Leaf.{Leaf}
use Rattle.answers.specs.Answers.{leaf_of}
use Rattle.corner_squares.specs.declared.square.Square.{Square}
use Rattle.corner_squares.specs.declared.extent.Extent.{Extent}
use Rattle.corner_squares.specs.declared.bounds.Bounds.{Bounds}
use Rattle.corner_squares.specs.Squares.{IsCovered}
use Rattle.corner_squares.specs.Extents as boxes
use Rattle.corner_squares.specs.Extents.{Sees, HasAt, IsRestBox, IsNoLonger, IsExtent, IsBox, Adds}
use Rattle.corner_squares.proofs.Boxes as same
use Rattle.corner_squares.proofs.Boxes.{rest_box}
use Rattle.bounds_model.specs.CentresAnswer.{AreFar}
use Rattle.p_centres.specs.Leaves.{later}
use Rattle.p_centres.specs.Surveys.{IsFound, AreEnds, AreNear, AreFirstEnds, IsFirstFarIn, IsFirstFar, IsFirstPair}

-- what was found, without its limit
found : (points : List PlanePoint) (squares : List Square) (limit i : ℕ) (b : Option Bounds) → IsFound points squares limit i b → boxes.IsFound points squares i b
found points squares limit i None h = h
found points squares limit i (Some b) h = h.0

-- the box with a point more that no square contains
pub box_next : (points : List PlanePoint) (squares : List Square) (limit i : ℕ) (p : PlanePoint) (b : Option Bounds) (new : Bounds)
    → slice_get points i ≡ Some p → ¬ IsCovered squares p → IsInPlane p → IsFound points squares limit i b → Adds b p i new → IsBox points squares (i + 1) new
box_next points squares limit i p b new there free plane was = same.box_more points squares i p b new there free plane (found points squares limit i b was)

-- nothing new where a square contains the point
pub found_same : (points : List PlanePoint) (squares : List Square) (limit i : ℕ) (p : PlanePoint) (b : Option Bounds)
    → slice_get points i ≡ Some p → IsCovered squares p → IsFound points squares limit i b → IsFound points squares limit (i + 1) b
found_same points squares limit i p None there covered was = same.found_same points squares i p None there covered was
found_same points squares limit i p (Some b) there covered was = (same.found_same points squares i p (Some b) there covered was.0, was.1)

-- points at the ends of an extent that is longer than the limit are far apart
far_ends : (of : PlanePoint → ℤ) (points : List PlanePoint) (squares : List Square) (i limit : ℕ) (e : Extent) (leaf : Leaf) → IsExtent of points squares i e → AreEnds limit e leaf
    → (HasAt of points squares leaf.first e.low) × (HasAt of points squares leaf.second e.high) × (limit < nat_abs (of (point_at points leaf.second) -ℤ of (point_at points leaf.first))) × (limit < 400000)
far_ends of points squares i limit e leaf h ends =
    let low = subst (λ k. HasAt of points squares k e.low) (sym ends.first) h.low_at in
    let high = subst (λ k. HasAt of points squares k e.high) (sym ends.second) h.high_at in
    (low, high, apart (of (point_at points leaf.first)) (of (point_at points leaf.second)) low.has high.has, short)
  where
    apart : (a b : ℤ) → a ≡ e.low → b ≡ e.high → limit < nat_abs (b -ℤ a)
    apart a b is_a is_b = let l = ends.longer in grind (arith, ints, l)

    short : limit < 400000
    short = let l = ends.longer in let low = h.plane.low.low in let high = h.plane.high.high in omega (arith, ints, l, low, high)

-- what lies in an extent that is no longer than the limit is near
near_inside : (of : PlanePoint → ℤ) (points : List PlanePoint) (squares : List Square) (limit i : ℕ) (e : Extent) → IsExtent of points squares i e → e.high ≤ℤ (e.low +ℤ pos limit) → AreNear of points squares limit i
near_inside of points squares limit i e h no_longer j k j_seen k_seen = elim (h.inside j j_seen) [
  | inl covered ↦ inl covered
  | inr j_in ↦ elim (h.inside k k_seen) [ inl covered ↦ inr (inl covered) | inr k_in ↦ inr (inr (apart (of (point_at points j)) (of (point_at points k)) j_in k_in)) ]
]
  where
    apart : (a b : ℤ) → (e.low ≤ℤ a) × (a ≤ℤ e.high) → (e.low ≤ℤ b) × (b ≤ℤ e.high) → b ≤ℤ (a +ℤ pos limit)
    apart a b a_in b_in = omega (arith, ints, no_longer, a_in.0, b_in.1)

-- so the points of a pass that goes on are near each other
near_found : (points : List PlanePoint) (squares : List Square) (limit i : ℕ) (found : Option Bounds) → IsFound points squares limit i found → AreNear (λ p. p.x) points squares limit i × AreNear (λ p. p.y) points squares limit i
near_found points squares limit i None h = (λ j k j_seen k_seen. inl (h j j_seen), λ j k j_seen k_seen. inl (h j j_seen))
near_found points squares limit i (Some b) h = (near_inside (λ p. p.x) points squares limit i b.across h.0.across h.1.in_x, near_inside (λ p. p.y) points squares limit i b.up h.0.up h.1.in_y)

-- where an extent gets longer than the limit, it does so at the point that it sees
seen_now : (limit i : ℕ) (old new : Extent) (value : ℤ) → old.low_at < i → old.high_at < i → old.high ≤ℤ (old.low +ℤ pos limit) → (new.low +ℤ pos limit) <ℤ new.high → Sees old value i new → max new.low_at new.high_at ≡ i
seen_now limit i old new value low high no_longer longer sees = elim sees.low [
  | inl keeps ↦ elim sees.high [ inl stays ↦ absurd (omega (arith, ints, no_longer, longer, keeps.1, stays.1)) | inr takes ↦ omega (arith, low, keeps.2, takes.2) ]
  | inr lowers ↦ elim sees.high [ inl stays ↦ omega (arith, high, lowers.2, stays.2) | inr takes ↦ omega (arith, lowers.2, takes.2) ]
]

later_is_now : (leaf : Leaf) (e : Extent) (limit i : ℕ) → AreEnds limit e leaf → max e.low_at e.high_at ≡ i → later (leaf_of leaf) ≡ i
later_is_now leaf e limit i ends now = let a = ends.first in let b = ends.second in omega (arith, a, b, now)

at_first : (e : Extent) (value : ℤ) (i : ℕ) → e ≡ record { low = value; high = value; low_at = i; high_at = i } → max e.low_at e.high_at ≡ i
at_first e value i is = omega (arith, ap (λ e. e.low_at) is, ap (λ e. e.high_at) is)

later_found : (points : List PlanePoint) (squares : List Square) (limit i : ℕ) (p : PlanePoint) (found : Option Bounds) (b : Bounds) (leaf : Leaf)
    → IsFound points squares limit i found → Adds found p i b → (AreEnds limit b.across leaf → later (leaf_of leaf) ≡ i) × (AreEnds limit b.up leaf → later (leaf_of leaf) ≡ i)
later_found points squares limit i p None b leaf was adds = (λ ends. later_is_now leaf b.across limit i ends (at_first b.across p.x i adds.0), λ ends. later_is_now leaf b.up limit i ends (at_first b.up p.y i adds.1))
later_found points squares limit i p (Some old) b leaf was adds = (
  λ ends. later_is_now leaf b.across limit i ends (seen_now limit i old.across b.across p.x was.0.across.low_seen was.0.across.high_seen was.1.in_x ends.longer adds.0),
  λ ends. later_is_now leaf b.up limit i ends (seen_now limit i old.up b.up p.y was.0.up.low_seen was.0.up.high_seen was.1.in_y ends.longer adds.1),
)

-- the points at the ends of an extent are the first ones there
first_ends : (of : PlanePoint → ℤ) (points : List PlanePoint) (squares : List Square) (i limit : ℕ) (e : Extent) (leaf : Leaf) → IsExtent of points squares i e → AreEnds limit e leaf → AreFirstEnds of points squares i (leaf_of leaf)
first_ends of points squares i limit e leaf h ends =
    let far = far_ends of points squares i limit e leaf h ends in
    record {
      least = λ k seen. elim (h.inside k seen) [ inl covered ↦ inl covered | inr inside ↦ inr (subst (λ v. v ≤ℤ of (point_at points k)) (sym far.0.has) inside.0) ];
      first_least = λ k sooner. subst (λ v. IsCovered squares (point_at points k) ⊎ (v <ℤ of (point_at points k))) (sym far.0.has) (h.low_first k (subst (λ n. k < n) ends.first sooner));
      greatest = λ k seen. elim (h.inside k seen) [ inl covered ↦ inl covered | inr inside ↦ inr (subst (λ v. of (point_at points k) ≤ℤ v) (sym far.1.has) inside.1) ];
      first_greatest = λ k sooner. subst (λ v. IsCovered squares (point_at points k) ⊎ (of (point_at points k) <ℤ v)) (sym far.1.has) (h.high_first k (subst (λ n. k < n) ends.second sooner));
    }

-- so they are the first two that are far apart
first_far : (of beside : PlanePoint → ℤ) (points : List PlanePoint) (squares : List Square) (limit i n : ℕ) (e : Extent) (leaf : Leaf) → IsExtent of points squares (i + 1) e → AreEnds limit e leaf → later (leaf_of leaf) ≡ i
    → AreNear of points squares limit i → AreNear beside points squares limit n → IsFirstFarIn of beside points squares limit n (leaf_of leaf)
first_far of beside points squares limit i n e leaf h ends now before others =
    let far = far_ends of points squares (i + 1) limit e leaf h ends in
    record {
      ends = subst (λ n. AreFirstEnds of points squares (n + 1) (leaf_of leaf)) (sym now) (first_ends of points squares (i + 1) limit e leaf h ends);
      apart = apart (of (point_at points leaf.first)) (of (point_at points leaf.second)) far.0.has far.1.has;
      before = subst (AreNear of points squares limit) (sym now) before;
      others = others;
    }
  where
    apart : (a b : ℤ) → a ≡ e.low → b ≡ e.high → (a +ℤ pos limit) <ℤ b
    apart a b is_a is_b = let l = ends.longer in omega (arith, ints, l, is_a, is_b)

pair_of_ends : (of : PlanePoint → ℤ) (points : List PlanePoint) (squares : List Square) (i limit : ℕ) (e : Extent) (leaf : Leaf) → IsExtent of points squares i e → AreEnds limit e leaf
    → (limit < nat_abs (of (point_at points leaf.second) -ℤ of (point_at points leaf.first)) → AreFar limit (point_at points leaf.first) (point_at points leaf.second)) → IsFirstFar points squares limit (leaf_of leaf) → IsFirstPair points squares limit leaf
pair_of_ends of points squares i limit e leaf h ends apart earliest =
    let far = far_ends of points squares i limit e leaf h ends in
    record {
      pair = record { first = far.0.below; second = far.1.below; first_free = far.0.free; second_free = far.1.free; far = apart far.2 };
      earliest = earliest;
      short = far.3;
    }

pub far_pair : (points : List PlanePoint) (squares : List Square) (i limit : ℕ) (p : PlanePoint) (found : Option Bounds) (b : Bounds) (leaf : Leaf) → IsFound points squares limit i found → Adds found p i b
    → IsBox points squares (i + 1) b → AreEnds limit b.across leaf ⊎ (AreEnds limit b.up leaf × (b.across.high ≤ℤ (b.across.low +ℤ pos limit))) → IsFirstPair points squares limit leaf
far_pair points squares i limit p found b leaf was adds box (inl ends) =
    let near = near_found points squares limit i found was in
    let now = (later_found points squares limit i p found b leaf was adds).0 ends in
    pair_of_ends (λ p. p.x) points squares (i + 1) limit b.across leaf box.across ends inl
    (inl (first_far (λ p. p.x) (λ p. p.y) points squares limit i (later (leaf_of leaf)) b.across leaf box.across ends now near.0 (subst (AreNear (λ p. p.y) points squares limit) (sym now) near.1)))
far_pair points squares i limit p found b leaf was adds box (inr ends) =
    let near = near_found points squares limit i found was in
    let now = (later_found points squares limit i p found b leaf was adds).1 ends.0 in
    let beside = near_inside (λ p. p.x) points squares limit (i + 1) b.across box.across ends.1 in
    pair_of_ends (λ p. p.y) points squares (i + 1) limit b.up leaf box.up ends.0 inr
    (inr (first_far (λ p. p.y) (λ p. p.x) points squares limit i (later (leaf_of leaf) + 1) b.up leaf box.up ends.0 now near.1 (subst (λ n. AreNear (λ p. p.x) points squares limit (n + 1)) (sym now) beside)))

-- all points are seen
pub all_covered : (points : List PlanePoint) (squares : List Square) (i : ℕ) → length points ≤ i → ((k : ℕ) → k < i → IsCovered squares (point_at points k)) → All (IsCovered squares) points
all_covered points squares i all h = λ k d below. subst (IsCovered squares) (get_or_default points k origin d below) (h k (seen below))
  where
    seen : {k : ℕ} → k < length points → k < i
    seen l = omega arith

pub found_all : (points : List PlanePoint) (squares : List Square) (limit i : ℕ) (found : Option Bounds) (b : Bounds) → length points ≤ i → found ≡ Some b → IsFound points squares limit i found
    → IsRestBox points squares b × IsNoLonger limit b
found_all points squares limit i found b all is h =
    let some = subst (IsFound points squares limit i) is h in
    (rest_box points squares i b all some.0, some.1)

pub found_none : (points : List PlanePoint) (squares : List Square) (limit i : ℕ) (found : Option Bounds) → length points ≤ i → found ≡ None → IsFound points squares limit i found → All (IsCovered squares) points
found_none points squares limit i found all is h = all_covered points squares i all (subst (IsFound points squares limit i) is h)
