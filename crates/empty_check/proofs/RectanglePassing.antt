-- What is left to ask of an empty rectangle once it is all right for itself.
use Rattle.std.proofs.Common.{◌≡◌, sym, ap, ◌∙◌, subst, refl, ◌↔◌, ℕ, ◌+◌, ◌^◌, ◌<◌, ◌≤◌, ℤ, pos, ◌≤ℤ◌, ◌*ℤ◌, List, length, Bool, IsTrue, Option, Some, None, IsSome, IfSome, MatchOption, Result, Ok, Err, IfOk, arith}
use Rattle.std.proofs.lemmas.Int.{ints}
use Rattle.bounds_model.specs.Numbers.{IsWithin}
use Rattle.bounds_model.specs.Plane.{PlanePoint}
use Rattle.bounds_model.specs.Fractions.{Fraction, SameValue}
use Rattle.bounds_model.specs.Ranges.{IsFraction, IsNumber, point_limit}
use Rattle.bounds_model.specs.EmptyRectangle.{Box, IsFrame, area, empty_size}
use Rattle.bounds_model.specs.EmptyAnswer.{Blocker, EmptyAnswer, IsBlockerBelow, NoneLarger, PassesEmpty, empty_of}
use Rattle.bounds_model.specs.EmptyAnswer.Blocker.{side, point}
use Rattle.bounds_model.specs.Asks.{ask_empty}
use Rattle.bounds_model.specs.Answers.{Passes, empty}
use Rattle.bounded_coords.specs.declared.cloud.Cloud.{Cloud}
use Rattle.bounded_coords.proofs.Ranges.{within_more}
use Rattle.empty_rectangle.specs.Points.{points_in}
use Rattle.empty_rectangle.proofs.Passing.{whole_fraction}
use Rattle.empty_check.specs.RestrictedRectangles.{sets_of, LiesIn, IsRestricted}
use Rattle.exact_fractions.proofs.UniqueForms.{fraction_unique}

-- ---- a rectangle in a frame

-- a number between two others, as the code has them
pub between : {low high z left right v : ℤ} → low ≡ left → high ≡ right → z ≡ v → left ≤ℤ v → v ≤ℤ right → (low ≤ℤ z) × (z ≤ℤ high)
between e f g h k = (omega (arith, ints), omega (arith, ints))

-- and the other way: what the code keeps of such a number
pub inside : {f low high w z left right v : ℤ} → f ≡ w → w ≡ z → z ≡ v → low ≡ left → high ≡ right → low ≤ℤ z → z ≤ℤ high → (f ≡ v) × (left ≤ℤ v) × (v ≤ℤ right)
inside e g h i j a b = (e ∙ g ∙ h, omega (arith, ints), omega (arith, ints))

-- a box between the sides of a frame is made where it lies in the frame
pub frame_made : (frame box built : Box) (made : Option Box) → IsFrame frame → built ≡ box → frame.left ≤ℤ box.left → box.left ≤ℤ frame.right → frame.left ≤ℤ box.right → box.right ≤ℤ frame.right → frame.bottom ≤ℤ box.bottom → box.bottom ≤ℤ frame.top → frame.bottom ≤ℤ box.top → box.top ≤ℤ frame.top
    → (IsSome made ↔ IsFrame built) → IfSome made (λ f. f ≡ built) → MatchOption made (LiesIn frame box → ⊥) (λ rectangle. LiesIn frame box × (rectangle ≡ box))
frame_made frame box built None is same l l2 r r2 b b2 t t2 decides value = λ lies. absurd (cc (decides.1 (subst IsFrame (sym same) (record {
  left = record { low = omega (arith, ints, is.left.low); high = omega (arith, ints, is.right.high) };
  bottom = record { low = omega (arith, ints, is.bottom.low); high = omega (arith, ints, is.top.high) };
  right = record { low = omega (arith, ints, is.left.low); high = omega (arith, ints, is.right.high) };
  top = record { low = omega (arith, ints, is.bottom.low); high = omega (arith, ints, is.top.high) };
  wide = lies.wide;
  high = lies.high;
}))))
frame_made frame box built (Some f) is same l l2 r r2 b b2 t t2 decides value =
    let made = subst IsFrame same (decides.0 refl) in
    (record { in_left = l; wide = made.wide; in_right = r2; in_bottom = b; high = made.high; in_top = t2 }, value ∙ same)

-- ---- the size

-- a size in lowest terms is the area where it has its value
pub area_printed : (a : EmptyAnswer) (m : ℕ) → m < 2 ^ 64 → pos m ≡ area a.box → IsFraction a.size → SameValue a.size (empty_size (empty_of a)) → a.size ≡ record { n = pos m; d = pos 1 }
area_printed a m below is range same =
    let whole = whole_fraction m (omega (arith, below)) in
    fraction_unique a.size (record { n = pos m; d = pos 1 }) range.lowest whole.lowest (subst (λ z. SameValue a.size (record { n = z; d = pos 1 })) (sym is) same)

-- and has its value where it is the area
pub area_valued : (a : EmptyAnswer) (m : ℕ) → m < 2 ^ 64 → pos m ≡ area a.box → a.size ≡ record { n = pos m; d = pos 1 } → IsFraction a.size × SameValue a.size (empty_size (empty_of a))
area_valued a m below is printed = (
  subst IsFraction (sym printed) (whole_fraction m (omega (arith, below))),
  subst (λ (f : Fraction). SameValue f (empty_size (empty_of a))) (sym printed) (ap (λ z. z *ℤ pos 1) is),
)

-- ---- the conditions

-- the number of a point is in its range
blocker_in_range : (count : ℕ) (by : Blocker) → count ≤ 10000 → IsBlockerBelow count by → IsBlockerBelow (point_limit + 1) by
blocker_in_range count side few below = tt
blocker_in_range count (point number) few below = omega (arith, few, below)

-- a coordinate in a frame is in its range
number_in : {z low high : ℤ} → IsWithin 200000 low → IsWithin 200000 high → low ≤ℤ z → z ≤ℤ high → IsNumber z
number_in {z} {low} {high} h k a b = within_more {m = 200000} (record { low = omega (arith, ints, h.low); high = omega (arith, ints, k.high) }) tt

-- a rectangle that is all right for itself passes where none is larger
pub restricted_passes : (frame : Box) (points : List PlanePoint) (a : EmptyAnswer) → IsFrame frame → length points ≤ 10000 → IsRestricted frame points a → PassesEmpty frame points a ↔ NoneLarger frame points a.size
restricted_passes frame points a is few r = (
  λ p. p.none_larger,
  λ none. record {
    ranges = record {
      size = r.size_in_range;
      box_left = number_in is.left is.right r.inside.in_left (omega (arith, ints, r.inside.wide, r.inside.in_right));
      box_bottom = number_in is.bottom is.top r.inside.in_bottom (omega (arith, ints, r.inside.high, r.inside.in_top));
      box_right = number_in is.left is.right (omega (arith, ints, r.inside.in_left, r.inside.wide)) r.inside.in_right;
      box_top = number_in is.bottom is.top (omega (arith, ints, r.inside.in_bottom, r.inside.high)) r.inside.in_top;
      left = blocker_in_range (length points) a.left few r.numbers.left;
      bottom = blocker_in_range (length points) a.bottom few r.numbers.bottom;
      right = blocker_in_range (length points) a.right few r.numbers.right;
      top = blocker_in_range (length points) a.top few r.numbers.top;
    };
    numbers = r.numbers;
    in_left = r.inside.in_left;
    wide = r.inside.wide;
    in_right = r.inside.in_right;
    in_bottom = r.inside.in_bottom;
    high = r.inside.high;
    in_top = r.inside.in_top;
    empty = r.empty;
    size = r.size;
    blocked = r.blocked;
    none_larger = none;
  },
)

-- ---- clouds

-- what is asked of the points of a cloud, or of none
pub passes_in : (cloud : Option (Cloud PlanePoint)) (frame : Box) (a : EmptyAnswer) → Passes (ask_empty frame) (sets_of cloud) (empty a) ↔ PassesEmpty frame (points_in cloud) a
passes_in None frame a = (λ p. p, λ p. p)
passes_in (Some cloud) frame a = (λ p. p, λ p. p)

-- what is true of a result's value, by what was shown of it
pub if_ok : {T E : Type 0} {P Q : T → Type 0} (r : Result T E) → ((x : T) → P x → Q x) → IfOk r P → IfOk r Q
if_ok (Ok x) f h = f x h
if_ok (Err e) f h = h

-- the last test decides
pub decided : {yes : Bool} (cloud : Option (Cloud PlanePoint)) (frame : Box) (a : EmptyAnswer) (m : ℕ) → IsFrame frame → length (points_in cloud) ≤ 10000 → IsRestricted frame (points_in cloud) a → a.size ≡ record { n = pos m; d = pos 1 }
    → (IsTrue yes ↔ NoneLarger frame (points_in cloud) (record { n = pos m; d = pos 1 })) → IsTrue yes ↔ Passes (ask_empty frame) (sets_of cloud) (empty a)
decided {yes} cloud frame a m is few r printed last =
    let asked = passes_in cloud frame a in
    let passes = restricted_passes frame (points_in cloud) a is few r in
    let decides : IsTrue yes ↔ NoneLarger frame (points_in cloud) a.size = subst (λ f. IsTrue yes ↔ NoneLarger frame (points_in cloud) f) (sym printed) last in
    (λ t. asked.1 (passes.1 (decides.0 t)), λ p. decides.1 (passes.0 (asked.0 p)))
