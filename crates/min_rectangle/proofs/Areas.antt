-- The areas in the directions of a fan, and the rectangle that passes.
use Rattle.std.proofs.Common.{◌≡◌, sym, ◌∙◌, ap, ap₂, subst, ℕ, ◌+◌, ◌*◌, ◌<◌, ◌≤◌, ◌⊎◌, inl, inr, ℤ, pos, ◌*ℤ◌, ◌≤ℤ◌, ◌<ℤ◌, List, length, arith}
use Rattle.std.specs.Prelude.{slice_index_or}
use Rattle.std.proofs.lemmas.Int.{ints}
use Rattle.integers.proofs.Order.{positive_from_one}
use Rattle.integers.proofs.Fractions.{fraction_equal, fraction_lt_equal, fraction_le_trans, fraction_lt_le_trans}
use Rattle.bounds_model.specs.Plane.{PlanePoint, point_at, squared_length, quarter_turn}
use Rattle.bounds_model.specs.Fractions.{Fraction, SameValue}
use Rattle.bounds_model.specs.Ranges.{IsFraction}
use Rattle.bounds_model.specs.Strip.{Span, extent}
use Rattle.bounds_model.specs.Fans.{QuarterFan, QuarterCone, quarter_directions, IsReduced}
use Rattle.bounds_model.specs.RectangleAnswer.{PassesRectangle, IsNotSmaller, IsLarger, reached_area}
use Rattle.directions.proofs.Reaches.{long_some}
use Rattle.directions.proofs.SpanBounds.{short_span, AreBounds, bounds_tight, extent_is}
use Rattle.min_rectangle.specs.PlainFan.{IsPlainFan, cone_at}
use Rattle.min_rectangle.specs.Areas.{IsArea, IsSmaller, IsNotLarger}
use Rattle.min_rectangle.specs.declared.smallest.Area.{Area}
use Rattle.min_rectangle.proofs.Cones.{cone_any, direction_is, is_cone, HasSame, same_at_start, same_at_end}
use Rattle.model_laws.proofs.CornerLaw.{cross_self}
use Rattle.bounded_coords.proofs.Ranges.{direction_of_short}

-- the area in the direction of this number is not below the best
pub record IsNotLargerAt (points : List PlanePoint) (fan : QuarterFan) (best : Area) (i : ℕ) : Type 0 where
  pub at_least : (pos best.product *ℤ squared_length (cone_at fan i).direction) ≤ℤ (reached_area points (cone_at fan i).direction (cone_at fan i) *ℤ pos best.length)

-- what is not larger than the area there is not
pub not_larger_there : (points : List PlanePoint) (fan : QuarterFan) (best a : Area) → IsArea points fan a → IsNotLarger best a → IsNotLargerAt points fan best a.direction
not_larger_there points fan best a h n = record {
  at_least = subst (λ l. (pos best.product *ℤ l) ≤ℤ (reached_area points (cone_at fan a.direction).direction (cone_at fan a.direction) *ℤ pos best.length)) h.is_length
      (subst (λ r. (pos best.product *ℤ pos a.length) ≤ℤ (r *ℤ pos best.length)) h.is_product (plain best.product best.length a.product a.length n));
}
  where
    plain : (a b c d : ℕ) → a * d ≤ c * b → (pos a *ℤ pos d) ≤ℤ (pos c *ℤ pos b)
    plain a b c d h = omega (arith, ints)

-- the area in the direction of this number is above the best
pub record IsLargerAt (points : List PlanePoint) (fan : QuarterFan) (best : Area) (i : ℕ) : Type 0 where
  pub above : (pos best.product *ℤ squared_length (cone_at fan i).direction) <ℤ (reached_area points (cone_at fan i).direction (cone_at fan i) *ℤ pos best.length)

-- what is not below an area is above a smaller one
pub larger_than_smaller : (points : List PlanePoint) (fan : QuarterFan) (best better : Area) (i : ℕ) → IsPlainFan points fan → IsArea points fan best → IsArea points fan better → IsSmaller better best → i < length fan.cones → IsNotLargerAt points fan best i → IsLargerAt points fan better i
larger_than_smaller points fan best better i plain_fan is_best is_better n l h = record {
  above = fraction_lt_le_trans (pos better.product) (pos better.length) (pos best.product) (pos best.length) (reached_area points (cone_at fan i).direction (cone_at fan i)) (squared_length (cone_at fan i).direction)
      (positive is_better.some) (positive is_best.some) (is_cone points fan plain_fan i l).long (plain better.product better.length best.product best.length n) h.at_least;
}
  where
    positive : {n : ℕ} → 0 < n → pos 0 <ℤ pos n
    positive h = omega (arith, ints)

    plain : (a b c d : ℕ) → a * d < c * b → (pos a *ℤ pos d) <ℤ (pos c *ℤ pos b)
    plain a b c d h = omega (arith, ints)

-- and so is it for a better one
pub not_larger_more : (points : List PlanePoint) (fan : QuarterFan) (best better : Area) (i : ℕ) → IsPlainFan points fan → IsArea points fan best → IsArea points fan better → IsNotLarger better best → i < length fan.cones → IsNotLargerAt points fan best i → IsNotLargerAt points fan better i
not_larger_more points fan best better i plain_fan is_best is_better n l h = record {
  at_least = fraction_le_trans (pos better.product) (pos better.length) (pos best.product) (pos best.length) (reached_area points (cone_at fan i).direction (cone_at fan i)) (squared_length (cone_at fan i).direction)
      (positive is_better.some) (positive is_best.some) (is_cone points fan plain_fan i l).long (plain better.product better.length best.product best.length n) h.at_least;
}
  where
    positive : {n : ℕ} → 0 < n → pos 0 <ℤ pos n
    positive h = omega (arith, ints)

    plain : (a b c d : ℕ) → a * d ≤ c * b → (pos a *ℤ pos d) ≤ℤ (pos c *ℤ pos b)
    plain a b c d h = omega (arith, ints)

-- one of two areas is an area
pub one_area : (points : List PlanePoint) (fan : QuarterFan) (a b c : Area) → IsArea points fan a → IsArea points fan b → (c ≡ a) ⊎ ((c ≡ b) × IsSmaller b a) → IsArea points fan c
one_area points fan a b c ha hb one = elim one [ inl e ↦ subst (IsArea points fan) (sym e) ha | inr e ↦ subst (IsArea points fan) (sym e.0) hb ]

-- all areas before the first of the least are above it, with one more that was looked at
pub larger_before : (points : List PlanePoint) (fan : QuarterFan) (best next better : Area) (j : ℕ) → IsPlainFan points fan → IsArea points fan best → IsArea points fan next → next.direction ≡ j
    → ((k : ℕ) → k < j → IsNotLargerAt points fan best k) → ((k : ℕ) → k < best.direction → IsLargerAt points fan best k) → (better ≡ best) ⊎ ((better ≡ next) × IsSmaller next best) → (k : ℕ) → k < better.direction → IsLargerAt points fan better k
larger_before points fan best next better j h is_best is_next at_j seen before one k l = elim one [
  | inl e ↦ subst (λ x. IsLargerAt points fan x k) (sym e) (before k (subst (λ (x : Area). k < x.direction) e l))
  | inr e ↦
      let low : k < next.direction = subst (λ (x : Area). k < x.direction) e.0 l in
      subst (λ x. IsLargerAt points fan x k) (sym e.0) (larger_than_smaller points fan best next k h is_best is_next e.1 (lower low is_next.listed) (seen k (subst (λ n. k < n) at_j low)))
]
  where
    lower : {k i n : ℕ} → k < i → i < n → k < n
    lower h g = omega arith

-- the rectangle with the least area of all directions passes
pub rectangle_passes : (points : List PlanePoint) (fan : QuarterFan) (best : Area) (size : Fraction) (along across : Span) → IsPlainFan points fan → IsArea points fan best → ((k : ℕ) → k < length fan.cones → IsNotLargerAt points fan best k) → ((k : ℕ) → k < best.direction → IsLargerAt points fan best k)
    → IsFraction size → SameValue size (record { n = pos best.product; d = pos best.length })
    → AreBounds points (cone_at fan best.direction).direction (cone_at fan best.direction).high (cone_at fan best.direction).low along
    → AreBounds points (quarter_turn (cone_at fan best.direction).direction) (cone_at fan best.direction).over (cone_at fan best.direction).under across
    → PassesRectangle points (record { size = size; direction = (cone_at fan best.direction).direction; along = along; across = across; fan = fan })
rectangle_passes points fan best size along across h is_best seen before fraction same bounds bounds_across =
    let cone = cone_at fan best.direction in
    let d = cone.direction in
    let own = is_cone points fan h best.direction is_best.listed in
    record {
      ranges = record {
        size = fraction;
        direction = direction_of_short d own.short;
        along = short_span along bounds.short;
        across = short_span across bounds_across.short;
        fan = h.ranges;
      };
      short_directions = h.short;
      short_direction = own.short;
      short_along = bounds.short;
      short_across = bounds_across.short;
      normal = long_some d own.long;
      fan = h.holds;
      not_smaller = λ i e l. (
        by_same (point_at (quarter_directions fan) i) (slice_index_or fan.cones i e) (subst (HasSame points fan (point_at (quarter_directions fan) i)) (sym (cone_any fan i e l)) (same_at_start points fan i l)),
        by_same (point_at (quarter_directions fan) (i + 1)) (slice_index_or fan.cones i e) (subst (HasSame points fan (point_at (quarter_directions fan) (i + 1))) (sym (cone_any fan i e l)) (same_at_end points fan h i l)),
      );
      first = (
        best.direction,
        is_best.listed,
        record {
          reduced = subst (λ v. IsReduced v d) (sym (direction_is fan best.direction is_best.listed)) (record { parallel = cross_self d; ahead = own.long; lowest = own.lowest });
          before = λ j e l m. larger_there j e l (before j m);
        },
      );
      tight_along = bounds_tight points d cone.high cone.low along own.named.high own.named.low own.along bounds;
      tight_across = bounds_tight points (quarter_turn d) cone.over cone.under across own.named.over own.named.under own.across bounds_across;
      size = same_size;
    }
  where
    positive : {n : ℕ} → 0 < n → pos 0 <ℤ pos n
    positive h = omega (arith, ints)

    larger_there : (j : ℕ) (e : QuarterCone) → j < length fan.cones → IsLargerAt points fan best j → IsLarger points size (point_at (quarter_directions fan) j) (slice_index_or fan.cones j e)
    larger_there j e l above =
        subst (λ v. IsLarger points size v (slice_index_or fan.cones j e)) (sym (direction_is fan j l))
        (subst (λ c. IsLarger points size (cone_at fan j).direction c) (sym (cone_any fan j e l))
        (fraction_lt_equal (pos best.product) (pos best.length) size.n size.d (reached_area points (cone_at fan j).direction (cone_at fan j)) (squared_length (cone_at fan j).direction)
        (positive is_best.some) (positive_from_one fraction.lowest.not_negative.denominator) (sym same) above.above))

    by_same : (d : PlanePoint) (cone : QuarterCone) → HasSame points fan d cone → IsNotSmaller points size d cone
    by_same d cone s =
        subst (λ l. (size.n *ℤ l) ≤ℤ (reached_area points d cone *ℤ size.d)) s.same_length
        (subst (λ r. (size.n *ℤ squared_length (cone_at fan s.number).direction) ≤ℤ (r *ℤ size.d)) s.same_area
        (fraction_equal (pos best.product) (pos best.length) size.n size.d (reached_area points (cone_at fan s.number).direction (cone_at fan s.number)) (squared_length (cone_at fan s.number).direction)
        (positive is_best.some) (positive_from_one fraction.lowest.not_negative.denominator) (sym same) (seen s.number s.listed).at_least))

    same_size : size.n *ℤ (pos 1 *ℤ pos 1 *ℤ squared_length (cone_at fan best.direction).direction) ≡ (extent along *ℤ extent across) *ℤ size.d
    same_size =
        ap (λ x. size.n *ℤ x) (once (squared_length (cone_at fan best.direction).direction) ∙ sym is_best.is_length) ∙ same
        ∙ ap (λ x. x *ℤ size.d) (is_best.is_product ∙ sym (ap₂ (λ x y. x *ℤ y)
        (extent_is points (cone_at fan best.direction).direction (cone_at fan best.direction).high (cone_at fan best.direction).low along bounds)
        (extent_is points (quarter_turn (cone_at fan best.direction).direction) (cone_at fan best.direction).over (cone_at fan best.direction).under across bounds_across)))
      where
        once : (x : ℤ) → pos 1 *ℤ pos 1 *ℤ x ≡ x
        once x = omega (arith, ints)
