-- A rectangle that passes has the least area around its points.
use Rattle.std.proofs.Common.{◌≡◌, sym, subst, ℕ, ◌+◌, ◌<◌, ℤ, pos, ◌+ℤ◌, ◌*ℤ◌, neg_ℤ, ◌≤ℤ◌, List, [], ◌∷◌, length}
use Rattle.std.specs.Prelude.{slice_index_or}
use Rattle.std.specs.Int.Signed.{≤ℤ_refl}
use Rattle.integers.proofs.Identities.{den-ring, read, polys}
use Rattle.integers.proofs.Order.{le_by, nonneg_difference, nonneg_from_one}
use Rattle.bounds_model.specs.Plane.{PlanePoint, origin, point_at, vector, dot, squared_length, quarter_turn}
use Rattle.bounds_model.specs.Fractions.{Fraction, IsAtMost}
use Rattle.bounds_model.specs.Strip.{extent}
use Rattle.bounds_model.specs.Rectangle.{Rectangle, FitsRectangle, rectangle_size}
use Rattle.bounds_model.specs.Fans.{QuarterCone, quarter_directions, reach}
use Rattle.bounds_model.specs.RectangleAnswer.{RectangleAnswer, rectangle_of, PassesRectangle}
use Rattle.model_laws.proofs.SizeDenominators.{rectangle_denominator}
use Rattle.model_laws.proofs.Reaches.{reach_nonneg}
use Rattle.optimality.specs.Laws.{PassingRectanglesAreBest}
use Rattle.optimality.proofs.PrintedSizes.{smallest_by_printed}
use Rattle.optimality.proofs.FanCones.{quarter_cone_around, up_to_quarter_turns, turned_right}
use Rattle.optimality.proofs.Reaches.{dot_between, product_between, reach-opposite, reach_in_span, span_in_order, inside_over_one, extents_at_least}

-- four points reach as far along u and across it as the size asks of a rectangle in this direction
record IsLarge (points : List PlanePoint) (size : Fraction) (u : PlanePoint) : Type 0 where
  high : ℕ
  low : ℕ
  over : ℕ
  under : ℕ
  in_high : high < length points
  in_low : low < length points
  in_over : over < length points
  in_under : under < length points
  along : pos 0 ≤ℤ reach points u high low
  across : pos 0 ≤ℤ reach points (quarter_turn u) over under
  large : (size.n *ℤ squared_length u) ≤ℤ (reach points u high low *ℤ reach points (quarter_turn u) over under *ℤ size.d)

-- any cone, for reading past the end of a list
pub no_cone : QuarterCone
no_cone = record { direction = origin; high = 0; low = 0; over = 0; under = 0 }

-- the product with a direction that was turned to the left
pub dot-turned : (d k : PlanePoint) → dot (quarter_turn d) k ≡ dot d (turned_right k)
dot-turned d k = plain d.x d.y k.x k.y
  where
    plain : (x y kx ky : ℤ) → neg_ℤ y *ℤ kx +ℤ x *ℤ ky ≡ x *ℤ ky +ℤ y *ℤ neg_ℤ kx
    plain x y kx ky = read (x ∷ y ∷ kx ∷ ky ∷ []) (λ xs a b c d. simp (a, b, c, d, polys) (den-ring xs _ _ tt))

-- so it is along a direction that points neither down nor to the left, by the cone that it lies in
first_is_large : (points : List PlanePoint) (a : RectangleAnswer) → PassesRectangle points a → (u : PlanePoint) → pos 0 ≤ℤ u.x → pos 0 ≤ℤ u.y → IsLarge points a.size u
first_is_large points a h u right up =
    let around = quarter_cone_around points a.fan h.ranges.fan.count.at_least h.fan u right up in
    let i = around.number in
    let cone = slice_index_or a.fan.cones i no_cone in
    let d = point_at (quarter_directions a.fan) i in
    let e = point_at (quarter_directions a.fan) (i + 1) in
    let names = h.fan.numbers i no_cone around.listed in
    let extreme = h.fan.extremes i no_cone around.listed in
    let small = h.not_smaller i no_cone around.listed in
    let long = vector (point_at points cone.low) (point_at points cone.high) in
    let broad = vector (point_at points cone.under) (point_at points cone.over) in
    let Not_below : ℤ → Type 0 = λ z. pos 0 ≤ℤ z in
    let Reaches = λ (v : PlanePoint) (z : ℤ). (a.size.n *ℤ squared_length v) ≤ℤ (dot v long *ℤ z *ℤ a.size.d) in
    let long_d = reach_nonneg points d cone.high cone.low names.1 extreme.0.0 in
    let long_e = reach_nonneg points e cone.high cone.low names.1 extreme.1.0 in
    let broad_d = subst Not_below (dot-turned d broad) (reach_nonneg points (quarter_turn d) cone.over cone.under names.3 extreme.0.1) in
    let broad_e = subst Not_below (dot-turned e broad) (reach_nonneg points (quarter_turn e) cone.over cone.under names.3 extreme.1.1) in
    record {
      high = cone.high;
      low = cone.low;
      over = cone.over;
      under = cone.under;
      in_high = names.0;
      in_low = names.1;
      in_over = names.2;
      in_under = names.3;
      along = dot_between d e u long around.between long_d long_e;
      across = subst Not_below (sym (dot-turned u broad)) (dot_between d e u (turned_right broad) around.between broad_d broad_e);
      large = subst (Reaches u) (sym (dot-turned u broad))
          (product_between a.size.n a.size.d d e u long (turned_right broad) h.ranges.size.lowest.not_negative.numerator (nonneg_from_one h.ranges.size.lowest.not_negative.denominator) around.between long_d broad_d long_e broad_e (subst (Reaches d) (dot-turned d broad) small.0) (subst (Reaches e) (dot-turned e broad) small.1));
    }

-- turned by a right angle, the four points change their parts
turned : (points : List PlanePoint) (size : Fraction) (v : PlanePoint) → IsLarge points size v → IsLarge points size (quarter_turn v)
turned points size v w =
    let back = reach-opposite points v w.low w.high in
    record {
      high = w.over;
      low = w.under;
      over = w.low;
      under = w.high;
      in_high = w.in_over;
      in_low = w.in_under;
      in_over = w.in_low;
      in_under = w.in_high;
      along = w.across;
      across = subst (λ r. pos 0 ≤ℤ r) (sym back) w.along;
      large = subst (λ r. (size.n *ℤ squared_length (quarter_turn v)) ≤ℤ (reach points (quarter_turn v) w.over w.under *ℤ r *ℤ size.d)) (sym back) (exchanged size.n size.d v.x v.y (reach points v w.high w.low) (reach points (quarter_turn v) w.over w.under) w.large);
    }
  where
    exchanged : (N D x y A B : ℤ) → (N *ℤ (x *ℤ x +ℤ y *ℤ y)) ≤ℤ (A *ℤ B *ℤ D) → (N *ℤ (neg_ℤ y *ℤ neg_ℤ y +ℤ x *ℤ x)) ≤ℤ (B *ℤ A *ℤ D)
    exchanged N D x y A B h = le_by (nonneg_difference h) (read (N ∷ D ∷ x ∷ y ∷ A ∷ B ∷ []) (λ xs a b c d e f. simp (a, b, c, d, e, f, polys) (den-ring xs _ _ tt)))

-- and so it is along every direction
each_is_large : (points : List PlanePoint) (a : RectangleAnswer) → PassesRectangle points a → (u : PlanePoint) → IsLarge points a.size u
each_is_large points a h u = up_to_quarter_turns (IsLarge points a.size) (turned points a.size) (first_is_large points a h) u

-- no rectangle that fits is smaller than the size
none_smaller : (points : List PlanePoint) (a : RectangleAnswer) → PassesRectangle points a → (other : Rectangle) → FitsRectangle points other → IsAtMost a.size (rectangle_size other)
none_smaller points a h other fits =
    let u = other.direction in
    let w = each_is_large points a h u in
    extents_at_least a.size.n a.size.d (squared_length u) (reach points u w.high w.low) (reach points (quarter_turn u) w.over w.under) (extent other.along) (extent other.across) other.w (nonneg_from_one h.ranges.size.lowest.not_negative.denominator) (nonneg_from_one fits.denominator) w.along w.across
    (reach_in_span points other.w u other.along fits.inside_along w.high w.low w.in_high w.in_low)
    (reach_in_span points other.w (quarter_turn u) other.across fits.inside_across w.over w.under w.in_over w.in_under) w.large

-- the rectangle of the answer fits
pub rectangle_fits : (points : List PlanePoint) (a : RectangleAnswer) → PassesRectangle points a → FitsRectangle points (rectangle_of a)
rectangle_fits points a h =
    let w = each_is_large points a h a.direction in
    record {
      direction = h.normal;
      along = span_in_order (h.tight_along.inside w.high origin w.in_high);
      across = span_in_order (h.tight_across.inside w.high origin w.in_high);
      denominator = ≤ℤ_refl (pos 1);
      inside_along = inside_over_one points a.direction a.along h.tight_along.inside;
      inside_across = inside_over_one points (quarter_turn a.direction) a.across h.tight_across.inside;
    }

-- a rectangle that passes has the least area
pub rectangle_law : PassingRectanglesAreBest
rectangle_law points a h =
    smallest_by_printed (FitsRectangle points) rectangle_size (rectangle_denominator points) (rectangle_of a) a.size (rectangle_fits points a h) (record { lowest = h.ranges.size.lowest; same = h.size }) (none_smaller points a h)
