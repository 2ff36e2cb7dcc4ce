-- What is asked of each cone where it begins and where it ends, with each direction looked at once.
use Rattle.std.proofs.Common.{◌≡◌, subst, ℕ, ◌+◌, ◌<◌, ◌⊎◌, inl, inr, ◌*ℤ◌, ◌≤ℤ◌, List, length, arith}
use Rattle.std.specs.Prelude.{slice_index_or}
use Rattle.bounds_model.specs.Numbers.{AllNumbered}
use Rattle.bounds_model.specs.Plane.{PlanePoint, point_at, quarter_turn, squared_length}
use Rattle.bounds_model.specs.Fractions.{Fraction}
use Rattle.bounds_model.specs.Fans.{HalfFan, HalfCone, QuarterFan, QuarterCone, half_directions, quarter_directions, HoldsHalf, HoldsQuarter, reach, AtBothEnds}
use Rattle.bounds_model.specs.StripAnswer.{IsNotThinner}
use Rattle.bounds_model.specs.RectangleAnswer.{IsNotSmaller}
use Rattle.directions.proofs.Reaches.{reach_same}

-- it is asked at both ends, if it is asked where each cone begins and where the last one ends, and a cone has at its end what the next one has there
both_ends : {M : Type 0} (P : ℕ → M → Type 0) (cones : List M) → ((k : ℕ) (d : M) → k + 1 < length cones → k < length cones → P (k + 1) (slice_index_or cones (k + 1) d) → P (k + 1) (slice_index_or cones k d))
    → ((k : ℕ) (d : M) → k < length cones → P k (slice_index_or cones k d)) → ((k : ℕ) (d : M) → k + 1 ≡ length cones → P (k + 1) (slice_index_or cones k d)) → AllNumbered (λ i cone. P i cone × P (i + 1) cone) cones
both_ends P cones shared begins ends k d below = (
  begins k d below,
  elim (next_or_last k (length cones) below) [ inl next ↦ shared k d next below (begins (k + 1) d next) | inr last ↦ ends k d last ],
)
  where
    next_or_last : (k n : ℕ) → k < n → (k + 1 < n) ⊎ (k + 1 ≡ n)
    next_or_last k n h = grind arith

-- strips: the points of neighbours reach as far at the direction that they share
pub strip_ends : (points : List PlanePoint) (size : Fraction) (fan : HalfFan) → HoldsHalf points fan → ((k : ℕ) (d : HalfCone) → k < length fan.cones → IsNotThinner points size (point_at (half_directions fan) k) (slice_index_or fan.cones k d))
    → ((k : ℕ) (d : HalfCone) → k + 1 ≡ length fan.cones → IsNotThinner points size (point_at (half_directions fan) (k + 1)) (slice_index_or fan.cones k d)) → AtBothEnds (half_directions fan) (IsNotThinner points size) fan.cones
strip_ends points size fan holds = both_ends (λ i cone. IsNotThinner points size (point_at (half_directions fan) i) cone) fan.cones
    (λ k d next below h.
    let u = point_at (half_directions fan) (k + 1) in
    let here = slice_index_or fan.cones k d in
    let there = slice_index_or fan.cones (k + 1) d in
    let named = holds.numbers k d below in
    let named' = holds.numbers (k + 1) d next in
    subst (λ r. (size.n *ℤ squared_length u) ≤ℤ (r *ℤ r *ℤ size.d))
    (reach_same points u there.high there.low here.high here.low named'.0 named'.1 named.0 named.1 (holds.extremes (k + 1) d next).0 (holds.extremes k d below).1) h)

-- rectangles: so they do along it and across it
pub rectangle_ends : (points : List PlanePoint) (size : Fraction) (fan : QuarterFan) → HoldsQuarter points fan → ((k : ℕ) (d : QuarterCone) → k < length fan.cones → IsNotSmaller points size (point_at (quarter_directions fan) k) (slice_index_or fan.cones k d))
    → ((k : ℕ) (d : QuarterCone) → k + 1 ≡ length fan.cones → IsNotSmaller points size (point_at (quarter_directions fan) (k + 1)) (slice_index_or fan.cones k d)) → AtBothEnds (quarter_directions fan) (IsNotSmaller points size) fan.cones
rectangle_ends points size fan holds = both_ends (λ i cone. IsNotSmaller points size (point_at (quarter_directions fan) i) cone) fan.cones
    (λ k d next below h.
    let u = point_at (quarter_directions fan) (k + 1) in
    let here = slice_index_or fan.cones k d in
    let there = slice_index_or fan.cones (k + 1) d in
    let named = holds.numbers k d below in
    let named' = holds.numbers (k + 1) d next in
    let extreme = (holds.extremes k d below).1 in
    let extreme' = (holds.extremes (k + 1) d next).0 in
    subst (λ r. (size.n *ℤ squared_length u) ≤ℤ (reach points u here.high here.low *ℤ r *ℤ size.d))
    (reach_same points (quarter_turn u) there.over there.under here.over here.under named'.2 named'.3 named.2 named.3 extreme'.1 extreme.1)
    (subst (λ r. (size.n *ℤ squared_length u) ≤ℤ (r *ℤ reach points (quarter_turn u) there.over there.under *ℤ size.d))
    (reach_same points u there.high there.low here.high here.low named'.0 named'.1 named.0 named.1 extreme'.0 extreme.0) h))
