-- Rectangles between obstacles, measured as the frame is: what the search says of the points of the list.
use Rattle.std.proofs.Common.{◌≡◌, ◌⊎◌, inl, inr, refl, sym, ap, ap₂, ◌∙◌, subst, ℕ, ◌-◌, ◌*◌, ◌≤◌, ◌<◌, ℤ, pos, ◌+ℤ◌, ◌-ℤ◌, ◌*ℤ◌, ◌≤ℤ◌, ◌<ℤ◌, nat_abs, List, get_or, All, Any, Contains, arith}
use Rattle.std.proofs.lemmas.Int.{ints}
use Rattle.std.proofs.lemmas.List.Elements.{All-contains}
use Rattle.std.specs.Int.Signed.{≤ℤ_refl}
use Rattle.std.proofs.Math.IntN.{+ℤ_idr}
use Rattle.bounds_model.specs.Plane.{PlanePoint, origin}
use Rattle.bounds_model.specs.Fractions.{Fraction}
use Rattle.bounds_model.specs.EmptyRectangle.{Box, IsFrame, IsStrictlyInside, area}
use Rattle.bounds_model.specs.EmptyAnswer.{EachY, EachX, IsEmpty, IsNotLarger, NoneLargerInBand, NoneLarger}
use Rattle.empty_rectangle.specs.declared.obstacles.Obstacle.{Obstacle}
use Rattle.empty_rectangle.specs.declared.obstacles.Extent.{Extent}
use Rattle.empty_rectangle.specs.declared.rectangles.RestingSide.{RestingSide}
use Rattle.empty_rectangle.specs.declared.rectangles.Rectangle.{Rectangle}
use Rattle.empty_rectangle.specs.Rectangles.{IsBetween, IsFree, side, RestsVertical, RestsLevel, IsRestricted}
use Rattle.empty_rectangle.specs.Seeds.{IsGap, NoneExceeds}
use Rattle.empty_rectangle.specs.Points.{IsExtentOf, IsObstacleAt, IsObstacleOf, AreObstacles}
use Rattle.empty_rectangle.specs.Answers.{box_of}

-- ---- distances

-- how far a number is above another
distance : (a b : ℤ) → a ≤ℤ b → (n : ℕ) × (b ≡ (a +ℤ pos n))
distance a b h = (nat_abs (b -ℤ a), grind (arith, ints))

-- the box from two distances to two others
abbrev box_at : Box → ℕ → ℕ → ℕ → ℕ → Box
box_at frame l b r t = record { left = frame.left +ℤ pos l; bottom = frame.bottom +ℤ pos b; right = frame.left +ℤ pos r; top = frame.bottom +ℤ pos t }

-- its area
pub area_at : (frame : Box) (l b r t : ℕ) → l ≤ r → b ≤ t → area (box_at frame l b r t) ≡ pos ((r - l) * (t - b))
area_at frame l b r t wide high = ap₂ ◌*ℤ◌ (length_at frame.left l r wide) (length_at frame.bottom b t high)
  where
    length_at : (start : ℤ) (a c : ℕ) → a ≤ c → (start +ℤ pos c) -ℤ (start +ℤ pos a) ≡ pos (c - a)
    length_at start a c h = omega (arith, ints)

-- a box with no point strictly inside it has no obstacle strictly inside it
free_from_empty : (frame : Box) (points : List PlanePoint) (obstacles : List Obstacle) (l b r t : ℕ) → All (IsObstacleOf frame points) obstacles → IsEmpty points (box_at frame l b r t) → IsFree obstacles l b r t
free_from_empty frame points obstacles l b r t each empty k d below between =
    let is = each k d below in
    empty (get_or obstacles k d).number origin is.below (record {
      after_left = omega (arith, ints, is.at.x, between.enters.after_left);
      before_right = omega (arith, ints, is.at.x, between.enters.before_right);
      above_bottom = omega (arith, ints, is.at.y, between.enters.above);
      below_top = omega (arith, ints, is.at.y, between.below);
    })

-- and the other way, where the box is in the frame
pub empty_from_free : (frame : Box) (points : List PlanePoint) (extent : Extent) (obstacles : List Obstacle) (l b r t : ℕ) → IsExtentOf frame extent → r ≤ extent.width → t ≤ extent.height → All (λ p. IsStrictlyInside frame p → Any (IsObstacleAt frame p) obstacles) points → IsFree obstacles l b r t
    → IsEmpty points (box_at frame l b r t)
empty_from_free frame points extent obstacles l b r t of in_right in_top every free k d below inside =
    let in_frame : IsStrictlyInside frame (get_or points k d) = record {
      after_left = omega (arith, ints, inside.after_left);
      before_right = omega (arith, ints, inside.before_right, of.width);
      above_bottom = omega (arith, ints, inside.above_bottom);
      below_top = omega (arith, ints, inside.below_top, of.height);
    } in
    let s = every k d below in_frame in
    let at : IsObstacleAt frame (get_or points k d) s.1 = s.4 in
    All-contains (λ q. ¬ IsBetween l b r t q) obstacles s.1 free (s.0, s.2, s.3) (record {
      enters = record {
        after_left = omega (arith, ints, inside.after_left, at.x);
        before_right = omega (arith, ints, inside.before_right, at.x);
        above = omega (arith, ints, inside.above_bottom, at.y);
      };
      below = omega (arith, ints, inside.below_top, at.y);
    })

-- ---- none larger

-- a may_be_left for the left side: the frame's, or the x of an obstacle between the ends of the side
abbrev MayBeLeft : Box → List Obstacle → ℤ → ℤ → ℤ → Type 0
MayBeLeft frame obstacles left bottom top = (left ≡ frame.left) ⊎ ((s : Obstacle) × Contains obstacles s × (left ≡ (frame.left +ℤ pos s.x)) × (bottom <ℤ (frame.bottom +ℤ pos s.y)) × ((frame.bottom +ℤ pos s.y) <ℤ top))

-- no box in the frame with such a left side is larger than what no gap exceeds
box_not_larger : (frame : Box) (points : List PlanePoint) (extent : Extent) (obstacles : List Obstacle) (most : ℕ) → IsExtentOf frame extent → All (IsObstacleOf frame points) obstacles → NoneExceeds obstacles extent most
    → (left bottom right top : ℤ) → frame.left ≤ℤ left → right ≤ℤ frame.right → frame.bottom ≤ℤ bottom → top ≤ℤ frame.top → bottom <ℤ top → MayBeLeft frame obstacles left bottom top
    → IsNotLarger points (record { n = pos most; d = pos 1 }) (record { left = left; bottom = bottom; right = right; top = top })
box_not_larger frame points extent obstacles most of each none left bottom right top from_left to_right from_bottom to_top high may_be_left wide empty =
    let l = distance frame.left left from_left in
    let b = distance frame.bottom bottom from_bottom in
    let r = distance frame.left right (omega (arith, ints)) in
    let t = distance frame.bottom top (omega (arith, ints)) in
    measured l.0 b.0 r.0 t.0 l.1 b.1 r.1 t.1
  where
    measured : (l b r t : ℕ) → left ≡ (frame.left +ℤ pos l) → bottom ≡ (frame.bottom +ℤ pos b) → right ≡ (frame.left +ℤ pos r) → top ≡ (frame.bottom +ℤ pos t)
        → (area (record { left = left; bottom = bottom; right = right; top = top }) *ℤ pos 1) ≤ℤ pos most
    measured l b r t at_l at_b at_r at_t =
        let same : ◌≡◌ {A = Box} (record { left = left; bottom = bottom; right = right; top = top }) (box_at frame l b r t) = cc in
        let l_r : l < r = omega (arith, ints, at_l, at_r, wide) in
        let b_t : b < t = omega (arith, ints, at_b, at_t, high) in
        let gap : IsGap obstacles extent l b r t = record {
          wide = l_r;
          in_right = omega (arith, ints, at_r, to_right, of.width);
          high = b_t;
          in_top = omega (arith, ints, at_t, to_top, of.height);
          free = free_from_empty frame points obstacles l b r t each (subst (IsEmpty points) same empty);
          start = elim may_be_left [
            | inl e ↦ inl (omega (arith, ints, e, at_l))
            | inr s ↦ inr (s.0, s.1, omega (arith, ints, s.2, at_l), omega (arith, ints, s.3, at_b), omega (arith, ints, s.4, at_t))
          ];
        } in
        let most_is = none l b r t gap in
        let is : area (record { left = left; bottom = bottom; right = right; top = top }) ≡ pos ((r - l) * (t - b)) = ap area same ∙ area_at frame l b r t (omega arith) (omega arith) in
        subst (λ z. (z *ℤ pos 1) ≤ℤ pos most) (sym is) (omega (arith, ints, most_is))

-- what holds from the bottom to the top holds of each height
each_y : (frame : Box) (points : List PlanePoint) (P : ℤ → Type 0) → frame.bottom ≤ℤ frame.top → ((y : ℤ) → frame.bottom ≤ℤ y → y ≤ℤ frame.top → P y) → EachY frame points P
each_y frame points P high holds = record {
  bottom = holds frame.bottom (≤ℤ_refl frame.bottom) high;
  top = holds frame.top high (≤ℤ_refl frame.top);
  inside = λ k d below inside. holds (get_or points k d).y (omega (arith, ints, inside.above_bottom)) (omega (arith, ints, inside.below_top));
}

-- what holds from the left to the right holds of each may_be_left
each_x : (band : Box) (points : List PlanePoint) (P : ℤ → Type 0) → band.left ≤ℤ band.right → ((x : ℤ) → x ≤ℤ band.right → P x) → EachX band points P
each_x band points P wide holds = record {
  left = holds band.left wide;
  right = holds band.right (≤ℤ_refl band.right);
  inside = λ k d below inside. holds (get_or points k d).x (omega (arith, ints, inside.before_right));
}

-- no box between two heights from one may_be_left to the next is larger
pub NoneLarger-gaps : (frame : Box) (points : List PlanePoint) (extent : Extent) (obstacles : List Obstacle) (most : ℕ) → IsFrame frame → IsExtentOf frame extent → AreObstacles frame points points obstacles → NoneExceeds obstacles extent most → NoneLarger frame points (record { n = pos most; d = pos 1 })
NoneLarger-gaps frame points extent obstacles most is of are none =
    each_y frame points (λ bottom. EachY frame points (λ top. bottom <ℤ top → NoneLargerInBand points size (record frame { bottom = bottom; top = top }))) (omega (arith, ints, is.high)) (λ bottom from_bottom _.
    each_y frame points (λ top. bottom <ℤ top → NoneLargerInBand points size (record frame { bottom = bottom; top = top })) (omega (arith, ints, is.high)) (λ top _ to_top high. in_band bottom top from_bottom to_top high))
  where
    size : Fraction
    size = record { n = pos most; d = pos 1 }

    to_each_left : (bottom top left : ℤ) → frame.bottom ≤ℤ bottom → top ≤ℤ frame.top → bottom <ℤ top → frame.left ≤ℤ left → MayBeLeft frame obstacles left bottom top
        → EachX (record frame { bottom = bottom; top = top }) points (λ right. IsNotLarger points size (record { left = left; bottom = bottom; right = right; top = top }))
    to_each_left bottom top left from_bottom to_top high from_left may_be_left =
        each_x (record frame { bottom = bottom; top = top }) points (λ right. IsNotLarger points size (record { left = left; bottom = bottom; right = right; top = top })) (omega (arith, ints, is.wide))
        (λ right to_right. box_not_larger frame points extent obstacles most of are.each none left bottom right top from_left to_right from_bottom to_top high may_be_left)

    in_band : (bottom top : ℤ) → frame.bottom ≤ℤ bottom → top ≤ℤ frame.top → bottom <ℤ top → NoneLargerInBand points size (record frame { bottom = bottom; top = top })
    in_band bottom top from_bottom to_top high = record {
      left = to_each_left bottom top frame.left from_bottom to_top high (≤ℤ_refl frame.left) (inl refl);
      right = each_x (record frame { bottom = bottom; top = top }) points (λ right. IsNotLarger points size (record { left = frame.right; bottom = bottom; right = right; top = top })) (omega (arith, ints, is.wide))
          (λ right to_right wide. absurd (omega (arith, ints, to_right, wide)));
      inside = λ k d below inside.
          let in_frame : IsStrictlyInside frame (get_or points k d) = record { after_left = inside.after_left; before_right = inside.before_right; above_bottom = omega (arith, ints, inside.above_bottom); below_top = omega (arith, ints, inside.below_top) } in
          let s = are.every k d below in_frame in
          let at : IsObstacleAt frame (get_or points k d) s.1 = s.4 in
          to_each_left bottom top (get_or points k d).x from_bottom to_top high (omega (arith, ints, inside.after_left)) (inr (s.1, (s.0, s.2, s.3), at.x, omega (arith, ints, inside.above_bottom, at.y), omega (arith, ints, inside.below_top, at.y)));
    }

-- ---- a restricted rectangle is not larger than what none exceeds

-- the height of a level side
height_of : (frame : Box) (points : List PlanePoint) (obstacles : List Obstacle) (low high e : ℕ) (resting_side : RestingSide) (P : ℤ → Type 0) → All (IsObstacleOf frame points) obstacles → (resting_side ≡ side e) ⊎ RestsLevel obstacles low high resting_side → P (frame.bottom +ℤ pos e)
    → All (λ p. IsStrictlyInside frame p → P p.y) points → P (frame.bottom +ℤ pos resting_side.at)
height_of frame points obstacles low high e resting_side P each (inl is) at_side inside = subst (λ (w : RestingSide). P (frame.bottom +ℤ pos w.at)) (sym is) at_side
height_of frame points obstacles low high e resting_side P each (inr r) at_side inside =
    let is = All-contains (IsObstacleOf frame points) obstacles r.obstacle each r.listed in
    subst (λ (w : RestingSide). P (frame.bottom +ℤ pos w.at)) (sym r.is) (subst P is.at.y (inside r.obstacle.number origin is.below is.inside))

-- the may_be_left of a vertical side of a band
x_of : (frame : Box) (points : List PlanePoint) (obstacles : List Obstacle) (low high e : ℕ) (resting_side : RestingSide) (P : ℤ → Type 0) → All (IsObstacleOf frame points) obstacles → (resting_side ≡ side e) ⊎ RestsVertical obstacles low high resting_side → P (frame.left +ℤ pos e)
    → All (λ p. IsStrictlyInside (record frame { bottom = frame.bottom +ℤ pos low; top = frame.bottom +ℤ pos high }) p → P p.x) points → P (frame.left +ℤ pos resting_side.at)
x_of frame points obstacles low high e resting_side P each (inl is) at_side inside = subst (λ (w : RestingSide). P (frame.left +ℤ pos w.at)) (sym is) at_side
x_of frame points obstacles low high e resting_side P each (inr r) at_side inside =
    let is = All-contains (IsObstacleOf frame points) obstacles r.obstacle each r.listed in
    subst (λ (w : RestingSide). P (frame.left +ℤ pos w.at)) (sym r.is) (subst P is.at.x (inside r.obstacle.number origin is.below (record {
      after_left = is.inside.after_left;
      before_right = is.inside.before_right;
      above_bottom = omega (arith, ints, is.at.y, r.after);
      below_top = omega (arith, ints, is.at.y, r.before);
    })))

pub restricted_not_larger : (frame : Box) (points : List PlanePoint) (extent : Extent) (obstacles : List Obstacle) (most : ℕ) (h : Rectangle) → IsExtentOf frame extent → AreObstacles frame points points obstacles → IsRestricted obstacles extent h → NoneLarger frame points (record { n = pos most; d = pos 1 }) → h.area ≤ most
restricted_not_larger frame points extent obstacles most h of are restricted none =
    let small = in_box (omega (arith, ints, restricted.wide)) (empty_from_free frame points extent obstacles h.left.at h.bottom.at h.right.at h.top.at of restricted.in_right restricted.in_top are.every restricted.free) in
    let is = area_at frame h.left.at h.bottom.at h.right.at h.top.at (omega (arith, restricted.wide)) (omega (arith, restricted.high)) in
    let below : (pos ((h.right.at - h.left.at) * (h.top.at - h.bottom.at)) *ℤ pos 1) ≤ℤ pos most = subst (λ z. (z *ℤ pos 1) ≤ℤ pos most) is small in
    omega (arith, ints, below, restricted.area)
  where
    size : Fraction
    size = record { n = pos most; d = pos 1 }

    from_bottom : EachY frame points (λ t. (frame.bottom +ℤ pos h.bottom.at) <ℤ t → NoneLargerInBand points size (record frame { bottom = frame.bottom +ℤ pos h.bottom.at; top = t }))
    from_bottom =
        let P = λ (b : ℤ). EachY frame points (λ t. b <ℤ t → NoneLargerInBand points size (record frame { bottom = b; top = t })) in
        height_of frame points obstacles h.left.at h.right.at 0 h.bottom P are.each restricted.bottom (subst P (sym (+ℤ_idr frame.bottom)) none.bottom) none.inside

    in_band : NoneLargerInBand points size (record frame { bottom = frame.bottom +ℤ pos h.bottom.at; top = frame.bottom +ℤ pos h.top.at })
    in_band =
        let P = λ (t : ℤ). (frame.bottom +ℤ pos h.bottom.at) <ℤ t → NoneLargerInBand points size (record frame { bottom = frame.bottom +ℤ pos h.bottom.at; top = t }) in
        height_of frame points obstacles h.left.at h.right.at extent.height h.top P are.each restricted.top (subst P of.height from_bottom.top) from_bottom.inside (omega (arith, ints, restricted.high))

    from_left : EachX (record frame { bottom = frame.bottom +ℤ pos h.bottom.at; top = frame.bottom +ℤ pos h.top.at }) points (λ right. IsNotLarger points size (record (box_of frame h) { right = right }))
    from_left =
        let P = λ (left : ℤ). EachX (record frame { bottom = frame.bottom +ℤ pos h.bottom.at; top = frame.bottom +ℤ pos h.top.at }) points (λ right. IsNotLarger points size (record (box_of frame h) { left = left; right = right })) in
        x_of frame points obstacles h.bottom.at h.top.at 0 h.left P are.each restricted.left (subst P (sym (+ℤ_idr frame.left)) in_band.left) in_band.inside

    in_box : IsNotLarger points size (box_of frame h)
    in_box =
        let P = λ (right : ℤ). IsNotLarger points size (record (box_of frame h) { right = right }) in
        x_of frame points obstacles h.bottom.at h.top.at extent.width h.right P are.each restricted.right (subst P of.width from_left.right) from_left.inside
