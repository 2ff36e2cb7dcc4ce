-- An empty rectangle that passes has the greatest area in its frame.
use Rattle.std.proofs.Common.{◌≡◌, sym, subst, ℤ, pos, ◌-ℤ◌, ◌*ℤ◌, ◌≤ℤ◌, ◌<ℤ◌, List, [], ◌∷◌, arith}
use Rattle.std.specs.Prelude.{slice_index_or}
use Rattle.std.proofs.lemmas.Int.{ints, by_lt_z}
use Rattle.std.specs.Int.Signed.{≤ℤ_refl, <ℤ-≤ℤ_trans}
use Rattle.integers.proofs.Identities.{den-ring, read, polys, lits}
use Rattle.integers.proofs.Order.{nonneg_mul, nonneg_add, square_nonneg, positive_from_one, le_by, lt_of_mul_lt, mul_le_both, nonneg_difference, nonneg_from_one, le_from_lt, le_lt_trans_ℤ}
use Rattle.bounds_model.specs.Plane.{PlanePoint, times}
use Rattle.bounds_model.specs.Fractions.{Fraction, IsAtMost}
use Rattle.bounds_model.specs.EmptyRectangle.{Box, EmptyRectangle, IsStrictlyInside, FitsEmpty, area, empty_size}
use Rattle.bounds_model.specs.EmptyAnswer.{EmptyAnswer, EachY, EachX, IsEmpty, IsNotLarger, NoneLargerInBand, NoneLarger, PassesEmpty, empty_of}
use Rattle.model_laws.proofs.DecideEmpty.{strictly_inside}
use Rattle.model_laws.proofs.SizeDenominators.{empty_denominator}
use Rattle.optimality.specs.Laws.{PassingEmptyRectanglesAreBest}
use Rattle.optimality.proofs.Bounds.{not_above, one-times}
use Rattle.optimality.proofs.PrintedSizes.{greatest_by_printed}
use Rattle.optimality.proofs.ClosestValues.{ClosestBelow, ClosestAbove, closest_below, closest_above, value_has}

-- ---- the gap around an open rectangle

-- the heights closest to the rectangle from below and from above, and between them the ranges closest to it from the left and from the right
record Gap (frame : Box) (points : List PlanePoint) (other : EmptyRectangle) : Type 0 where
  bottom : ClosestBelow points (IsStrictlyInside frame) (λ p. p.y) other.w other.box.bottom frame.bottom
  top : ClosestAbove points (IsStrictlyInside frame) (λ p. p.y) other.w other.box.top frame.top
  left : ClosestBelow points (IsStrictlyInside (record frame { bottom = bottom.value; top = top.value })) (λ p. p.x) other.w other.box.left frame.left
  right : ClosestAbove points (IsStrictlyInside (record frame { bottom = bottom.value; top = top.value })) (λ p. p.x) other.w other.box.right frame.right

-- the band between the two heights
abbrev band_of : {points : List PlanePoint} {other : EmptyRectangle} (frame : Box) → Gap frame points other → Box
band_of frame gap = record frame { bottom = gap.bottom.value; top = gap.top.value }

-- the box of all four
abbrev box_of : {frame : Box} {points : List PlanePoint} {other : EmptyRectangle} → Gap frame points other → Box
box_of gap = record { left = gap.left.value; bottom = gap.bottom.value; right = gap.right.value; top = gap.top.value }

-- there is one around each rectangle in the frame
gap_around : (frame : Box) (points : List PlanePoint) (other : EmptyRectangle) → FitsEmpty frame points other → Gap frame points other
gap_around frame points other fits =
    let low = closest_below points (IsStrictlyInside frame) (strictly_inside frame) (λ p. p.y) other.w other.box.bottom frame.bottom fits.bottom in
    let high = closest_above points (IsStrictlyInside frame) (strictly_inside frame) (λ p. p.y) other.w other.box.top frame.top fits.top in
    let band : Box = record frame { bottom = low.value; top = high.value } in
    record {
      bottom = low;
      top = high;
      left = closest_below points (IsStrictlyInside band) (strictly_inside band) (λ p. p.x) other.w other.box.left frame.left fits.left;
      right = closest_above points (IsStrictlyInside band) (strictly_inside band) (λ p. p.x) other.w other.box.right frame.right fits.right;
    }

-- no point is strictly inside its box: it would be strictly inside the rectangle
gap_is_empty : (frame : Box) (points : List PlanePoint) (other : EmptyRectangle) → FitsEmpty frame points other → (gap : Gap frame points other) → IsEmpty points (box_of gap)
gap_is_empty frame points other fits gap i d l inside =
    let p = slice_index_or points i d in
    let in_frame : IsStrictlyInside frame p = record {
      after_left = le_lt_trans_ℤ gap.left.from_start inside.after_left;
      before_right = <ℤ-≤ℤ_trans inside.before_right gap.right.to_start;
      above_bottom = le_lt_trans_ℤ gap.bottom.from_start inside.above_bottom;
      below_top = <ℤ-≤ℤ_trans inside.below_top gap.top.to_start;
    } in
    let in_band : IsStrictlyInside (band_of frame gap) p = record { after_left = in_frame.after_left; before_right = in_frame.before_right; above_bottom = inside.above_bottom; below_top = inside.below_top } in
    fits.empty i d l (record {
      after_left = by_lt_z other.box.left (other.w *ℤ p.x) (λ h. h) (λ h. not_above (gap.left.greatest i d l in_band h) inside.after_left);
      before_right = by_lt_z (other.w *ℤ p.x) other.box.right (λ h. h) (λ h. not_above (gap.right.least i d l in_band h) inside.before_right);
      above_bottom = by_lt_z other.box.bottom (other.w *ℤ p.y) (λ h. h) (λ h. not_above (gap.bottom.greatest i d l in_frame h) inside.above_bottom);
      below_top = by_lt_z (other.w *ℤ p.y) other.box.top (λ h. h) (λ h. not_above (gap.top.least i d l in_frame h) inside.below_top);
    })

-- the checker has asked that the gap's box is no larger than the size
gap_not_larger : (frame : Box) (points : List PlanePoint) (size : Fraction) → NoneLarger frame points size → (other : EmptyRectangle) (gap : Gap frame points other) → gap.bottom.value <ℤ gap.top.value → IsNotLarger points size (box_of gap)
gap_not_larger frame points size none other gap rises =
    let band = band_of frame gap in
    let In_band = λ (bottom top : ℤ). bottom <ℤ top → NoneLargerInBand points size (record frame { bottom = bottom; top = top }) in
    let from_bottom = value_has points (IsStrictlyInside frame) (λ p. p.y) frame.bottom gap.bottom.value (λ bottom. EachY frame points (In_band bottom)) gap.bottom.source none.bottom none.inside in
    let in_band = value_has points (IsStrictlyInside frame) (λ p. p.y) frame.top gap.top.value (In_band gap.bottom.value) gap.top.source from_bottom.top from_bottom.inside rises in
    let In_box = λ (left right : ℤ). IsNotLarger points size (record band { left = left; right = right }) in
    let from_left = value_has points (IsStrictlyInside band) (λ p. p.x) frame.left gap.left.value (λ left. EachX band points (In_box left)) gap.left.source in_band.left in_band.inside in
    value_has points (IsStrictlyInside band) (λ p. p.x) frame.right gap.right.value (In_box gap.left.value) gap.right.source from_left.right from_left.inside

-- a box inside another, w times, has at most its area, w² times
area_in_box : (w D N x1 x2 y1 y2 l r b t : ℤ) → pos 0 ≤ℤ D → pos 0 ≤ℤ w → (w *ℤ x1) ≤ℤ l → r ≤ℤ (w *ℤ x2) → (w *ℤ y1) ≤ℤ b → t ≤ℤ (w *ℤ y2) → l ≤ℤ r → b ≤ℤ t
    → ((x2 -ℤ x1) *ℤ (y2 -ℤ y1) *ℤ D) ≤ℤ N → ((r -ℤ l) *ℤ (t -ℤ b) *ℤ D) ≤ℤ (N *ℤ (w *ℤ w))
area_in_box w D N x1 x2 y1 y2 l r b t pD pw hl hr hb ht width height h =
    let product = mul_le_both (nonneg_difference width) (nonneg_difference height) (side x1 x2 l r hl hr) (side y1 y2 b t hb ht) in
    le_by (nonneg_add (nonneg_mul pD (nonneg_difference product)) (nonneg_mul (square_nonneg w) (nonneg_difference h)))
    (read (w ∷ D ∷ N ∷ x1 ∷ x2 ∷ y1 ∷ y2 ∷ l ∷ r ∷ b ∷ t ∷ []) (λ xs a b c d e f g h i j k. simp (a, b, c, d, e, f, g, h, i, j, k, polys) (den-ring xs _ _ tt)))
  where
    side : (v1 v2 l r : ℤ) → (w *ℤ v1) ≤ℤ l → r ≤ℤ (w *ℤ v2) → (r -ℤ l) ≤ℤ (w *ℤ (v2 -ℤ v1))
    side v1 v2 l r hl hr = le_by (nonneg_add (nonneg_difference hl) (nonneg_difference hr)) (read (w ∷ v1 ∷ v2 ∷ l ∷ r ∷ []) (λ xs a b c d e. simp (a, b, c, d, e, polys) (den-ring xs _ _ tt)))

-- so a rectangle with a width and a height is no larger than the size
open_not_larger : (frame : Box) (points : List PlanePoint) (size : Fraction) → pos 0 ≤ℤ size.d → NoneLarger frame points size → (other : EmptyRectangle) → FitsEmpty frame points other
    → other.box.left <ℤ other.box.right → other.box.bottom <ℤ other.box.top → (area other.box *ℤ size.d) ≤ℤ (size.n *ℤ (other.w *ℤ other.w))
open_not_larger frame points size pD none other fits wide high =
    let w = positive_from_one fits.denominator in
    let gap = gap_around frame points other fits in
    let rises = lt_of_mul_lt other.w w (<ℤ-≤ℤ_trans (le_lt_trans_ℤ gap.bottom.under high) gap.top.over) in
    let goes_right = lt_of_mul_lt other.w w (<ℤ-≤ℤ_trans (le_lt_trans_ℤ gap.left.under wide) gap.right.over) in
    area_in_box other.w size.d size.n gap.left.value gap.right.value gap.bottom.value gap.top.value other.box.left other.box.right other.box.bottom other.box.top pD (nonneg_from_one fits.denominator) gap.left.under gap.right.over gap.bottom.under gap.top.over fits.width fits.height
    (gap_not_larger frame points size none other gap rises goes_right (gap_is_empty frame points other fits gap))

-- ---- an answer that passes

-- a box without a width or a height has no area
flat_not_larger : (D B s t : ℤ) → pos 0 ≤ℤ B → s ≡ pos 0 → ((s *ℤ t *ℤ D) ≤ℤ B) × ((t *ℤ s *ℤ D) ≤ℤ B)
flat_not_larger D B s t h e = (subst (λ v. (v *ℤ t *ℤ D) ≤ℤ B) (sym e) (le_by h (read (B ∷ t ∷ D ∷ []) (λ xs a b c. simp (a, b, c, polys, lits xs) (den-ring xs _ _ tt)))), subst (λ v. (t *ℤ v *ℤ D) ≤ℤ B) (sym e) (le_by h (read (B ∷ t ∷ D ∷ []) (λ xs a b c. simp (a, b, c, polys, lits xs) (den-ring xs _ _ tt)))))

-- no rectangle that fits is larger than the size
none_larger : (frame : Box) (points : List PlanePoint) (a : EmptyAnswer) → PassesEmpty frame points a → (other : EmptyRectangle) → FitsEmpty frame points other → IsAtMost (empty_size other) a.size
none_larger frame points a h other fits =
    let size = h.ranges.size.lowest.not_negative in
    let bound = nonneg_mul size.numerator (square_nonneg other.w) in
    by_lt_z other.box.left other.box.right
    (λ wide. by_lt_z other.box.bottom other.box.top
    (λ high. open_not_larger frame points a.size (nonneg_from_one size.denominator) h.none_larger other fits wide high)
    (λ flat. (flat_not_larger a.size.d (a.size.n *ℤ (other.w *ℤ other.w)) (other.box.top -ℤ other.box.bottom) (other.box.right -ℤ other.box.left) bound (no_extent fits.height flat)).1))
    (λ flat. (flat_not_larger a.size.d (a.size.n *ℤ (other.w *ℤ other.w)) (other.box.right -ℤ other.box.left) (other.box.top -ℤ other.box.bottom) bound (no_extent fits.width flat)).0)
  where
    no_extent : {l r : ℤ} → l ≤ℤ r → r ≤ℤ l → r -ℤ l ≡ pos 0
    no_extent h k = omega (arith, ints)

-- the rectangle of the answer fits
empty_fits : (frame : Box) (points : List PlanePoint) (a : EmptyAnswer) → PassesEmpty frame points a → FitsEmpty frame points (empty_of a)
empty_fits frame points a h = record {
  denominator = ≤ℤ_refl (pos 1);
  width = le_from_lt h.wide;
  height = le_from_lt h.high;
  left = subst (λ v. v ≤ℤ a.box.left) (one-times frame.left) h.in_left;
  right = subst (λ v. a.box.right ≤ℤ v) (one-times frame.right) h.in_right;
  bottom = subst (λ v. v ≤ℤ a.box.bottom) (one-times frame.bottom) h.in_bottom;
  top = subst (λ v. a.box.top ≤ℤ v) (one-times frame.top) h.in_top;
  empty = λ i d l. subst (λ p. ¬ IsStrictlyInside a.box p) (same_point (slice_index_or points i d)) (h.empty i d l);
}
  where
    same_point : (p : PlanePoint) → p ≡ times (pos 1) p
    same_point p = λ i. record { x = one-times p.x i; y = one-times p.y i }

-- an empty rectangle that passes has the greatest area
pub empty_law : PassingEmptyRectanglesAreBest
empty_law frame points a h =
    greatest_by_printed (FitsEmpty frame points) empty_size (empty_denominator frame points) (empty_of a) a.size (empty_fits frame points a h) (record { lowest = h.ranges.size.lowest; same = h.size }) (none_larger frame points a h)
