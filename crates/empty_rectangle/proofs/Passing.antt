-- A restricted rectangle that no gap exceeds passes the checker.
use Rattle.std.proofs.Common.{◌≡◌, ◌⊎◌, inl, inr, refl, sym, ap, ◌∙◌, subst, ℕ, ◌-◌, ◌^◌, ◌≤◌, eqb, IsTrue, eq-eqb, eqb-true, le_refl, le_antisymm, ℤ, pos, ◌+ℤ◌, ◌*ℤ◌, ◌↔◌, List, length, All, Option, Some, None, arith}
use Rattle.std.proofs.lemmas.Int.{ints}
use Rattle.std.proofs.lemmas.Nat.{mul-le}
use Rattle.std.proofs.lemmas.List.Elements.{All-contains}
use Rattle.std.proofs.Math.Nat.{eq-one_of_dvd-one}
use Rattle.std.proofs.Math.IntN.{+ℤ_idr}
use Rattle.bounds_model.specs.Numbers.{IsWithin}
use Rattle.bounds_model.specs.Plane.{PlanePoint}
use Rattle.bounds_model.specs.Fractions.{Fraction}
use Rattle.bounds_model.specs.Ranges.{IsFraction}
use Rattle.bounds_model.specs.EmptyRectangle.{Box, IsFrame}
use Rattle.bounds_model.specs.EmptyAnswer as model
use Rattle.bounded_coords.specs.declared.cloud.Cloud.{Cloud}
use Rattle.bounded_coords.proofs.Ranges.{within_more}
use Rattle.bounds_model.specs.EmptyAnswer.{EmptyRanges, IsBlockerBelow, NamesBlockers, BlocksVertical, BlocksLevel, AreBlocked, NoneLarger, PassesEmpty}
use Rattle.empty_rectangle.specs.declared.obstacles.Obstacle.{Obstacle}
use Rattle.empty_rectangle.specs.declared.obstacles.Extent.{Extent}
use Rattle.empty_rectangle.specs.declared.rectangles.RestingSide.{RestingSide}
use Rattle.empty_rectangle.specs.declared.rectangles.Rectangle.{Rectangle}
use Rattle.empty_rectangle.specs.Rectangles.{IsExtent, side, RestsVertical, RestsLevel, IsRestricted}
use Rattle.empty_rectangle.specs.Seeds.{NoneExceeds}
use Rattle.empty_rectangle.specs.Points.{points_in, IsExtentOf, IsObstacleOf, AreObstacles}
use Rattle.answers.specs.Answers.{blocker_of}
use Rattle.empty_rectangle.specs.Answers.{answer_of}
use Rattle.empty_rectangle.proofs.Frames.{empty_from_free, area_at, NoneLarger-gaps, restricted_not_larger}

-- ---- ranges

-- the area of a rectangle in the frame is not great
area_below : (obstacles : List Obstacle) (extent : Extent) (h : Rectangle) → IsExtent extent → IsRestricted obstacles extent h → h.area ≤ 160000000000
area_below obstacles extent h is restricted =
    let most = mul-le (h.right.at - h.left.at) (h.top.at - h.bottom.at) 400000 400000 (omega (arith, restricted.in_right, is.width)) (omega (arith, restricted.in_top, is.height)) in
    omega (arith, most, restricted.area)

-- a whole number is a fraction in lowest terms
pub whole_fraction : (n : ℕ) → n ≤ 2 ^ 64 → IsFraction (record { n = pos n; d = pos 1 })
whole_fraction n most = record {
  numerator = within_more {m = 2 ^ 64} (record { low = omega (arith, ints); high = omega (arith, ints, most) }) tt;
  denominator = within_more {m = 1} (record { low = omega (arith, ints); high = omega (arith, ints) }) tt;
  lowest = record { not_negative = record { numerator = omega (arith, ints); denominator = omega (arith, ints) }; lowest = λ k h. eq-one_of_dvd-one (h 1 (pos 1) (omega arith)) };
}

-- a side of a rectangle in the frame is not far out
side_within : (start : ℤ) (at : ℕ) → IsWithin 200000 start → at ≤ 400000 → IsWithin (2 ^ 126) (start +ℤ pos at)
side_within start at is most = within_more {m = 600000} (record { low = omega (arith, ints, is.low); high = omega (arith, ints, is.high, most) }) tt

-- ---- blockers

-- the number of an obstacle on which a vertical side rests is below a bound
vertical_number : (frame : Box) (points : List PlanePoint) (obstacles : List Obstacle) (low high e bound : ℕ) (resting_side : RestingSide) → All (IsObstacleOf frame points) obstacles → length points ≤ bound → (resting_side ≡ side e) ⊎ RestsVertical obstacles low high resting_side → IsBlockerBelow bound (blocker_of resting_side.by)
vertical_number frame points obstacles low high e bound resting_side each few (inl is) = subst (λ (w : RestingSide). IsBlockerBelow bound (blocker_of w.by)) (sym is) tt
vertical_number frame points obstacles low high e bound resting_side each few (inr r) = subst (λ (w : RestingSide). IsBlockerBelow bound (blocker_of w.by)) (sym r.is) (omega (arith, few, (All-contains (IsObstacleOf frame points) obstacles r.obstacle each r.listed).below))

-- likewise of a level side
level_number : (frame : Box) (points : List PlanePoint) (obstacles : List Obstacle) (low high e bound : ℕ) (resting_side : RestingSide) → All (IsObstacleOf frame points) obstacles → length points ≤ bound → (resting_side ≡ side e) ⊎ RestsLevel obstacles low high resting_side → IsBlockerBelow bound (blocker_of resting_side.by)
level_number frame points obstacles low high e bound resting_side each few (inl is) = subst (λ (w : RestingSide). IsBlockerBelow bound (blocker_of w.by)) (sym is) tt
level_number frame points obstacles low high e bound resting_side each few (inr r) = subst (λ (w : RestingSide). IsBlockerBelow bound (blocker_of w.by)) (sym r.is) (omega (arith, few, (All-contains (IsObstacleOf frame points) obstacles r.obstacle each r.listed).below))

-- a vertical side rests on the frame's side or on a point
vertical_blocked : (frame : Box) (points : List PlanePoint) (obstacles : List Obstacle) (low high e : ℕ) (frame_x : ℤ) (resting_side : RestingSide) → All (IsObstacleOf frame points) obstacles → frame_x ≡ (frame.left +ℤ pos e) → (resting_side ≡ side e) ⊎ RestsVertical obstacles low high resting_side
    → BlocksVertical points frame_x (frame.left +ℤ pos resting_side.at) (frame.bottom +ℤ pos low) (frame.bottom +ℤ pos high) (blocker_of resting_side.by)
vertical_blocked frame points obstacles low high e frame_x resting_side each at_side (inl is) = subst (λ (w : RestingSide). BlocksVertical points frame_x (frame.left +ℤ pos w.at) (frame.bottom +ℤ pos low) (frame.bottom +ℤ pos high) (blocker_of w.by)) (sym is) (sym at_side)
vertical_blocked frame points obstacles low high e frame_x resting_side each at_side (inr r) =
    let at = (All-contains (IsObstacleOf frame points) obstacles r.obstacle each r.listed).at in
    subst (λ (w : RestingSide). BlocksVertical points frame_x (frame.left +ℤ pos w.at) (frame.bottom +ℤ pos low) (frame.bottom +ℤ pos high) (blocker_of w.by)) (sym r.is) (at.x, omega (arith, ints, at.y, r.after), omega (arith, ints, at.y, r.before))

-- and a level one
level_blocked : (frame : Box) (points : List PlanePoint) (obstacles : List Obstacle) (low high e : ℕ) (frame_y : ℤ) (resting_side : RestingSide) → All (IsObstacleOf frame points) obstacles → frame_y ≡ (frame.bottom +ℤ pos e) → (resting_side ≡ side e) ⊎ RestsLevel obstacles low high resting_side
    → BlocksLevel points frame_y (frame.bottom +ℤ pos resting_side.at) (frame.left +ℤ pos low) (frame.left +ℤ pos high) (blocker_of resting_side.by)
level_blocked frame points obstacles low high e frame_y resting_side each at_side (inl is) = subst (λ (w : RestingSide). BlocksLevel points frame_y (frame.bottom +ℤ pos w.at) (frame.left +ℤ pos low) (frame.left +ℤ pos high) (blocker_of w.by)) (sym is) (sym at_side)
level_blocked frame points obstacles low high e frame_y resting_side each at_side (inr r) =
    let at = (All-contains (IsObstacleOf frame points) obstacles r.obstacle each r.listed).at in
    subst (λ (w : RestingSide). BlocksLevel points frame_y (frame.bottom +ℤ pos w.at) (frame.left +ℤ pos low) (frame.left +ℤ pos high) (blocker_of w.by)) (sym r.is) (at.y, omega (arith, ints, at.x, r.after), omega (arith, ints, at.x, r.before))

-- ---- the answer

-- a cloud has few points, and where there is none, there are none
pub few_points : (cloud : Option (Cloud PlanePoint)) → length (points_in cloud) ≤ 10000
few_points None = omega arith
few_points (Some cloud) = cloud.limited

-- an answer by its parts
pub answer_parts : (frame : Box) (h : Rectangle) (size : Fraction) (l b r t : ℤ) → size ≡ record { n = pos h.area; d = pos 1 } → l ≡ (frame.left +ℤ pos h.left.at) → b ≡ (frame.bottom +ℤ pos h.bottom.at) → r ≡ (frame.left +ℤ pos h.right.at) → t ≡ (frame.bottom +ℤ pos h.top.at)
    → ◌≡◌ {A = model.EmptyAnswer} (record { size = size; box = record { left = l; bottom = b; right = r; top = t }; left = blocker_of h.left.by; bottom = blocker_of h.bottom.by; right = blocker_of h.right.by; top = blocker_of h.top.by }) (answer_of frame h)
answer_parts frame h size l b r t is is_l is_b is_r is_t = cc

pub restricted_passes : (frame : Box) (points : List PlanePoint) (extent : Extent) (obstacles : List Obstacle) (h : Rectangle) → IsFrame frame → IsExtent extent → IsExtentOf frame extent → length points ≤ 10000 → AreObstacles frame points points obstacles → IsRestricted obstacles extent h → NoneExceeds obstacles extent h.area
    → PassesEmpty frame points (answer_of frame h)
restricted_passes frame points extent obstacles h is_frame is of few are restricted none = record {
  ranges = record {
    size = whole_fraction h.area (omega (arith, area_below obstacles extent h is restricted));
    box_left = side_within frame.left h.left.at is_frame.left (omega (arith, restricted.wide, restricted.in_right, is.width));
    box_bottom = side_within frame.bottom h.bottom.at is_frame.bottom (omega (arith, restricted.high, restricted.in_top, is.height));
    box_right = side_within frame.left h.right.at is_frame.left (omega (arith, restricted.in_right, is.width));
    box_top = side_within frame.bottom h.top.at is_frame.bottom (omega (arith, restricted.in_top, is.height));
    left = vertical_number frame points obstacles h.bottom.at h.top.at 0 10000 h.left are.each few restricted.left;
    bottom = level_number frame points obstacles h.left.at h.right.at 0 10000 h.bottom are.each few restricted.bottom;
    right = vertical_number frame points obstacles h.bottom.at h.top.at extent.width 10000 h.right are.each few restricted.right;
    top = level_number frame points obstacles h.left.at h.right.at extent.height 10000 h.top are.each few restricted.top;
  };
  numbers = record {
    left = vertical_number frame points obstacles h.bottom.at h.top.at 0 (length points) h.left are.each (le_refl (length points)) restricted.left;
    bottom = level_number frame points obstacles h.left.at h.right.at 0 (length points) h.bottom are.each (le_refl (length points)) restricted.bottom;
    right = vertical_number frame points obstacles h.bottom.at h.top.at extent.width (length points) h.right are.each (le_refl (length points)) restricted.right;
    top = level_number frame points obstacles h.left.at h.right.at extent.height (length points) h.top are.each (le_refl (length points)) restricted.top;
  };
  in_left = omega (arith, ints);
  wide = omega (arith, ints, restricted.wide);
  in_right = omega (arith, ints, restricted.in_right, of.width);
  in_bottom = omega (arith, ints);
  high = omega (arith, ints, restricted.high);
  in_top = omega (arith, ints, restricted.in_top, of.height);
  empty = empty_from_free frame points extent obstacles h.left.at h.bottom.at h.right.at h.top.at of restricted.in_right restricted.in_top are.every restricted.free;
  size = ap (λ z. z *ℤ pos 1) (ap pos restricted.area ∙ sym (area_at frame h.left.at h.bottom.at h.right.at h.top.at (omega (arith, restricted.wide)) (omega (arith, restricted.high))));
  blocked = record {
    left = vertical_blocked frame points obstacles h.bottom.at h.top.at 0 frame.left h.left are.each (sym (+ℤ_idr frame.left)) restricted.left;
    bottom = level_blocked frame points obstacles h.left.at h.right.at 0 frame.bottom h.bottom are.each (sym (+ℤ_idr frame.bottom)) restricted.bottom;
    right = vertical_blocked frame points obstacles h.bottom.at h.top.at extent.width frame.right h.right are.each of.width restricted.right;
    top = level_blocked frame points obstacles h.left.at h.right.at extent.height frame.top h.top are.each of.height restricted.top;
  };
  none_larger = NoneLarger-gaps frame points extent obstacles h.area is_frame of are none;
}

-- the least gap, in the corner of the frame, has the area 1
one_at_least : (obstacles : List Obstacle) (extent : Extent) (most : ℕ) → IsExtent extent → NoneExceeds obstacles extent most → 1 ≤ most
one_at_least obstacles extent most is none = none 0 0 1 1 (record {
  wide = omega arith;
  in_right = omega (arith, is.some_width);
  high = omega arith;
  in_top = omega (arith, is.some_height);
  free = λ k d below between. omega (arith, between.enters.after_left, between.enters.before_right);
  start = inl refl;
})

-- a rectangle that a search from no area finds is not great
area_small : (obstacles : List Obstacle) (extent : Extent) (start h : Rectangle) → IsExtent extent → start.area ≡ 0 → (h ≡ start) ⊎ IsRestricted obstacles extent h → h.area ≤ 2 ^ 64 - 1
area_small obstacles extent start h is zero (inl e) = omega (arith, ap (λ (r : Rectangle). r.area) e, zero)
area_small obstacles extent start h is zero (inr restricted) = omega (arith, area_below obstacles extent h is restricted)

-- the search that starts from no area, and that no area ends, finds a restricted rectangle
pub found_passes : (frame : Box) (points : List PlanePoint) (extent : Extent) (obstacles : List Obstacle) (start h : Rectangle) → IsFrame frame → IsExtent extent → IsExtentOf frame extent → length points ≤ 10000 → AreObstacles frame points points obstacles → start.area ≡ 0 → (h ≡ start) ⊎ IsRestricted obstacles extent h
    → (h.area ≤ 2 ^ 64 - 1 → NoneExceeds obstacles extent h.area) → PassesEmpty frame points (answer_of frame h)
found_passes frame points extent obstacles start h is_frame is of few are zero found most = passes found
  where
    none : NoneExceeds obstacles extent h.area
    none = most (area_small obstacles extent start h is zero found)

    passes : (h ≡ start) ⊎ IsRestricted obstacles extent h → PassesEmpty frame points (answer_of frame h)
    passes (inl e) = absurd (omega (arith, one_at_least obstacles extent h.area is none, ap (λ (r : Rectangle). r.area) e, zero))
    passes (inr restricted) = restricted_passes frame points extent obstacles h is_frame is of few are restricted none

-- the search that starts from an area, and that any greater one ends, finds no other one exactly where none is larger
pub most_decides : (frame : Box) (points : List PlanePoint) (extent : Extent) (obstacles : List Obstacle) (start h : Rectangle) (area : ℕ) → IsFrame frame → IsExtentOf frame extent → AreObstacles frame points points obstacles → start.area ≡ area → start.area ≤ h.area
    → (h ≡ start) ⊎ IsRestricted obstacles extent h → (h.area ≤ area → NoneExceeds obstacles extent h.area) → IsTrue (eqb h.area area) ↔ NoneLarger frame points (record { n = pos area; d = pos 1 })
most_decides frame points extent obstacles start h area is_frame of are is kept found most = (to, from found)
  where
    to : IsTrue (eqb h.area area) → NoneLarger frame points (record { n = pos area; d = pos 1 })
    to e =
        let same = eqb-true h.area area e in
        NoneLarger-gaps frame points extent obstacles area is_frame of are (subst (NoneExceeds obstacles extent) same (most (omega (arith, same))))

    from : (h ≡ start) ⊎ IsRestricted obstacles extent h → NoneLarger frame points (record { n = pos area; d = pos 1 }) → IsTrue (eqb h.area area)
    from (inl e) not_larger = eq-eqb h.area area (ap (λ (r : Rectangle). r.area) e ∙ is)
    from (inr restricted) not_larger = eq-eqb h.area area (le_antisymm (restricted_not_larger frame points extent obstacles area h of are restricted not_larger) (omega (arith, kept, is)))
