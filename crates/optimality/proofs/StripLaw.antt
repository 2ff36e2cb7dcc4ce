-- A strip that passes is the thinnest around its points.
use Rattle.std.proofs.Common.{subst, ℕ, ◌+◌, ◌<◌, ℤ, pos, ◌+ℤ◌, ◌*ℤ◌, neg_ℤ, ◌≤ℤ◌, List, [], ◌∷◌, length}
use Rattle.std.specs.Prelude.{slice_index_or}
use Rattle.std.specs.Int.Signed.{≤ℤ_refl}
use Rattle.integers.proofs.Identities.{den-ring, read, polys}
use Rattle.integers.proofs.Order.{le_by, nonneg_difference, nonneg_from_one}
use Rattle.bounds_model.specs.Plane.{PlanePoint, origin, point_at, vector, squared_length}
use Rattle.bounds_model.specs.Fractions.{Fraction, IsAtMost}
use Rattle.bounds_model.specs.Strip.{Strip, FitsStrip, strip_size, extent}
use Rattle.bounds_model.specs.Fans.{half_directions, reach}
use Rattle.bounds_model.specs.StripAnswer.{StripAnswer, strip_of, PassesStrip}
use Rattle.model_laws.proofs.SizeDenominators.{strip_denominator}
use Rattle.model_laws.proofs.Reaches.{reach_nonneg, no_cone}
use Rattle.optimality.specs.Laws.{PassingStripsAreBest}
use Rattle.optimality.proofs.PrintedSizes.{smallest_by_printed}
use Rattle.optimality.proofs.FanCones.{half_cone_around, up_to_sign, opposite}
use Rattle.optimality.proofs.Reaches.{dot_between, product_between, reach-opposite, reach_in_span, span_in_order, inside_over_one, extents_at_least}

-- two points reach as far along u as the size asks of a strip with this normal
record IsWide (points : List PlanePoint) (size : Fraction) (u : PlanePoint) : Type 0 where
  high : ℕ
  low : ℕ
  in_high : high < length points
  in_low : low < length points
  forward : pos 0 ≤ℤ reach points u high low
  wide : (size.n *ℤ squared_length u) ≤ℤ (reach points u high low *ℤ reach points u high low *ℤ size.d)

-- so it is along a direction that does not point down, by the cone that it lies in
upper_is_wide : (points : List PlanePoint) (a : StripAnswer) → PassesStrip points a → (u : PlanePoint) → pos 0 ≤ℤ u.y → IsWide points a.size u
upper_is_wide points a h u up =
    let around = half_cone_around points a.fan h.ranges.fan.count.at_least h.fan u up in
    let i = around.number in
    let cone = slice_index_or a.fan.cones i no_cone in
    let d = point_at (half_directions a.fan) i in
    let e = point_at (half_directions a.fan) (i + 1) in
    let names = h.fan.numbers i no_cone around.listed in
    let extreme = h.fan.extremes i no_cone around.listed in
    let thin = h.not_thinner i no_cone around.listed in
    let across = vector (point_at points cone.low) (point_at points cone.high) in
    let at_d = reach_nonneg points d cone.high cone.low names.1 extreme.0 in
    let at_e = reach_nonneg points e cone.high cone.low names.1 extreme.1 in
    record {
      high = cone.high;
      low = cone.low;
      in_high = names.0;
      in_low = names.1;
      forward = dot_between d e u across around.between at_d at_e;
      wide = product_between a.size.n a.size.d d e u across across h.ranges.size.lowest.not_negative.numerator (nonneg_from_one h.ranges.size.lowest.not_negative.denominator) around.between at_d at_d at_e at_e thin.0 thin.1;
    }

-- along the opposite direction the same two points reach as far
turned_back : (points : List PlanePoint) (size : Fraction) (u : PlanePoint) → IsWide points size (opposite u) → IsWide points size u
turned_back points size u w = record {
  high = w.low;
  low = w.high;
  in_high = w.in_low;
  in_low = w.in_high;
  forward = subst (λ r. pos 0 ≤ℤ r) (reach-opposite points u w.high w.low) w.forward;
  wide = subst (λ r. (size.n *ℤ squared_length u) ≤ℤ (r *ℤ r *ℤ size.d)) (reach-opposite points u w.high w.low) (same_length size.n u.x u.y _ w.wide);
}
  where
    same_length : (N x y r : ℤ) → (N *ℤ (neg_ℤ x *ℤ neg_ℤ x +ℤ neg_ℤ y *ℤ neg_ℤ y)) ≤ℤ r → (N *ℤ (x *ℤ x +ℤ y *ℤ y)) ≤ℤ r
    same_length N x y r h = le_by (nonneg_difference h) (read (N ∷ x ∷ y ∷ r ∷ []) (λ xs a b c d. simp (a, b, c, d, polys) (den-ring xs _ _ tt)))

-- and so it is along every direction
each_is_wide : (points : List PlanePoint) (a : StripAnswer) → PassesStrip points a → (u : PlanePoint) → IsWide points a.size u
each_is_wide points a h u = up_to_sign (IsWide points a.size) (turned_back points a.size) (upper_is_wide points a h) u

-- no strip that fits is thinner than the size
none_thinner : (points : List PlanePoint) (a : StripAnswer) → PassesStrip points a → (other : Strip) → FitsStrip points other → IsAtMost a.size (strip_size other)
none_thinner points a h other fits =
    let w = each_is_wide points a h other.normal in
    let within = reach_in_span points other.w other.normal other.bounds fits.inside w.high w.low w.in_high w.in_low in
    extents_at_least a.size.n a.size.d (squared_length other.normal) (reach points other.normal w.high w.low) (reach points other.normal w.high w.low) (extent other.bounds) (extent other.bounds) other.w (nonneg_from_one h.ranges.size.lowest.not_negative.denominator) (nonneg_from_one fits.denominator) w.forward w.forward within within w.wide

-- the strip of the answer fits
pub strip_fits : (points : List PlanePoint) (a : StripAnswer) → PassesStrip points a → FitsStrip points (strip_of a)
strip_fits points a h =
    let w = each_is_wide points a h a.direction in
    record {
      normal = h.normal;
      bounds = span_in_order (h.tight.inside w.high origin w.in_high);
      denominator = ≤ℤ_refl (pos 1);
      inside = inside_over_one points a.direction a.bounds h.tight.inside;
    }

-- a strip that passes is the thinnest
pub strip_law : PassingStripsAreBest
strip_law points a h =
    smallest_by_printed (FitsStrip points) strip_size (strip_denominator points) (strip_of a) a.size (strip_fits points a h) (record { lowest = h.ranges.size.lowest; same = h.size }) (none_thinner points a h)
