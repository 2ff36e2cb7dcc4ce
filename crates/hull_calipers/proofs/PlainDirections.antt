-- Which directions a fan has between its ends.
use Rattle.std.proofs.Common.{◌≡◌, ◌⊎◌, inl, inr, ◌+◌, ◌-◌, pos, ◌≤ℤ◌, ◌<ℤ◌, List, length, subst, sym, arith}
use Rattle.std.specs.Prelude.{All, SomeIndex}
use Rattle.std.proofs.lemmas.Int.{ints}
use Rattle.bounds_model.specs.Plane.{PlanePoint, point_at, cross}
use Rattle.bounds_model.specs.Fans.{IsShort, HalfCone, HalfFan, QuarterCone, QuarterFan, half_directions, quarter_directions, NamesPoints, NamesAllPoints, HoldsHalf, HoldsQuarter, east, west, north}
use Rattle.bounds_model.specs.PlainFans.{edge, IsNormal, IsNormalOrParallel, EachInner, AreLowest}
use Rattle.hull_calipers.specs.Fans.{path, IsHalfPath, IsExtremeHalfCone, IsHalfDirection, IsQuarterPath, IsExtremeQuarterCone, IsQuarterDirection}
use Rattle.hull_calipers.proofs.Paths.{length_path, path_turns, path_each}

cross-east : (p : PlanePoint) → pos 0 ≤ℤ p.y → pos 0 <ℤ cross p east → ⊥
cross-east p low turns = omega (arith, ints)

west-cross : (n : PlanePoint) → pos 0 ≤ℤ n.y → pos 0 <ℤ cross west n → ⊥
west-cross n low turns = omega (arith, ints)

north-cross : (n : PlanePoint) → pos 0 ≤ℤ n.x → pos 0 <ℤ cross north n → ⊥
north-cross n low turns = omega (arith, ints)

-- ---- half a turn

above_half : (corners : List PlanePoint) (d : PlanePoint) → IsHalfDirection corners d → pos 0 ≤ℤ d.y
above_half corners d h = elim h.kind [
  | inl is ↦ subst (λ v. pos 0 ≤ℤ v.y) (sym is) (omega (arith, ints))
  | inr rest ↦ elim rest [
    | inl is ↦ subst (λ v. pos 0 ≤ℤ v.y) (sym is) (omega (arith, ints))
    | inr inner ↦ let up = inner.0 in omega (arith, ints, up)
  ]
]

between_half : (corners : List PlanePoint) (p d n : PlanePoint) → IsHalfDirection corners p → IsHalfDirection corners d → IsHalfDirection corners n → pos 0 <ℤ cross p d → pos 0 <ℤ cross d n
    → (pos 0 <ℤ d.y) × ((d ≡ north) ⊎ SomeIndex corners (λ i. IsNormal (edge corners i) d))
between_half corners p d n hp hd hn pd dn = elim hd.kind [
  | inl is ↦ absurd (cross-east p (above_half corners p hp) (subst (λ v. pos 0 <ℤ cross p v) is pd))
  | inr rest ↦ elim rest [
    | inl is ↦ absurd (west-cross n (above_half corners n hn) (subst (λ v. pos 0 <ℤ cross v n) is dn))
    | inr inner ↦ inner
  ]
]

pub inner_half : (points corners : List PlanePoint) (cones : List HalfCone) (last : PlanePoint) → IsHalfPath points corners cones last
    → EachInner (path (λ c. c.direction) cones last) (λ d. (pos 0 <ℤ d.y) × ((d ≡ north) ⊎ SomeIndex corners (λ i. IsNormal (edge corners i) d)))
inner_half points corners cones last h = λ i some below.
    let count : length (path (λ c. c.direction) cones last) ≡ length cones + 1 = length_path (λ c. c.direction) cones last in
    let back : i - 1 + 1 ≡ i = omega arith in
    between_half corners (point_at (path (λ c. c.direction) cones last) (i - 1)) (point_at (path (λ c. c.direction) cones last) i) (point_at (path (λ c. c.direction) cones last) (i + 1))
    (path_each (λ c. c.direction) (IsExtremeHalfCone points) (IsHalfDirection corners) cones last (i - 1) h (omega arith))
    (path_each (λ c. c.direction) (IsExtremeHalfCone points) (IsHalfDirection corners) cones last i h (omega arith))
    (path_each (λ c. c.direction) (IsExtremeHalfCone points) (IsHalfDirection corners) cones last (i + 1) h below)
    (subst (λ j. pos 0 <ℤ cross (point_at (path (λ c. c.direction) cones last) (i - 1)) (point_at (path (λ c. c.direction) cones last) j)) back (h.turns (i - 1) (omega (arith, count))))
    (h.turns i (omega (arith, count)))

-- the cones of a path name points
half_names : (points corners : List PlanePoint) (fan : HalfFan) → IsHalfPath points corners fan.cones fan.last → NamesPoints points fan
half_names points corners fan h = λ i c l. let s = (h.extremes i c l).0 in (s.high, s.low)

-- a path to the left is a fan that holds
pub half_holds : (points corners : List PlanePoint) (fan : HalfFan) → IsHalfPath points corners fan.cones fan.last → fan.last ≡ west → HoldsHalf points fan
half_holds points corners fan h is = record {
  numbers = half_names points corners fan h;
  directions = path_turns (λ c. c.direction) (IsExtremeHalfCone points) (IsHalfDirection corners) fan.cones fan.last west h is;
  extremes = λ i c l. ((h.extremes i c l).0.extreme, (h.extremes i c l).1.extreme);
}

pub half_lowest : (points corners : List PlanePoint) (fan : HalfFan) → IsHalfPath points corners fan.cones fan.last → AreLowest (half_directions fan)
half_lowest points corners fan h = λ i d l. (h.each i d l).lowest

-- ---- a quarter turn

above_quarter : (corners : List PlanePoint) (d : PlanePoint) → IsQuarterDirection corners d → (pos 0 ≤ℤ d.x) × (pos 0 ≤ℤ d.y)
above_quarter corners d h = elim h.kind [
  | inl is ↦ subst (λ v. (pos 0 ≤ℤ v.x) × (pos 0 ≤ℤ v.y)) (sym is) (omega (arith, ints), omega (arith, ints))
  | inr rest ↦ elim rest [
    | inl is ↦ subst (λ v. (pos 0 ≤ℤ v.x) × (pos 0 ≤ℤ v.y)) (sym is) (omega (arith, ints), omega (arith, ints))
    | inr inner ↦ let right = inner.0.0 in let up = inner.0.1 in (omega (arith, ints, right), omega (arith, ints, up))
  ]
]

between_quarter : (corners : List PlanePoint) (p d n : PlanePoint) → IsQuarterDirection corners p → IsQuarterDirection corners d → IsQuarterDirection corners n → pos 0 <ℤ cross p d → pos 0 <ℤ cross d n
    → ((pos 0 <ℤ d.x) × (pos 0 <ℤ d.y)) × SomeIndex corners (λ i. IsNormalOrParallel (edge corners i) d)
between_quarter corners p d n hp hd hn pd dn = elim hd.kind [
  | inl is ↦ absurd (cross-east p (above_quarter corners p hp).1 (subst (λ v. pos 0 <ℤ cross p v) is pd))
  | inr rest ↦ elim rest [
    | inl is ↦ absurd (north-cross n (above_quarter corners n hn).0 (subst (λ v. pos 0 <ℤ cross v n) is dn))
    | inr inner ↦ inner
  ]
]

pub inner_quarter : (points corners : List PlanePoint) (cones : List QuarterCone) (last : PlanePoint) → IsQuarterPath points corners cones last
    → EachInner (path (λ c. c.direction) cones last) (λ d. ((pos 0 <ℤ d.x) × (pos 0 <ℤ d.y)) × SomeIndex corners (λ i. IsNormalOrParallel (edge corners i) d))
inner_quarter points corners cones last h = λ i some below.
    let count : length (path (λ c. c.direction) cones last) ≡ length cones + 1 = length_path (λ c. c.direction) cones last in
    let back : i - 1 + 1 ≡ i = omega arith in
    between_quarter corners (point_at (path (λ c. c.direction) cones last) (i - 1)) (point_at (path (λ c. c.direction) cones last) i) (point_at (path (λ c. c.direction) cones last) (i + 1))
    (path_each (λ c. c.direction) (IsExtremeQuarterCone points) (IsQuarterDirection corners) cones last (i - 1) h (omega arith))
    (path_each (λ c. c.direction) (IsExtremeQuarterCone points) (IsQuarterDirection corners) cones last i h (omega arith))
    (path_each (λ c. c.direction) (IsExtremeQuarterCone points) (IsQuarterDirection corners) cones last (i + 1) h below)
    (subst (λ j. pos 0 <ℤ cross (point_at (path (λ c. c.direction) cones last) (i - 1)) (point_at (path (λ c. c.direction) cones last) j)) back (h.turns (i - 1) (omega (arith, count))))
    (h.turns i (omega (arith, count)))

-- the cones of a path name points
quarter_names : (points corners : List PlanePoint) (fan : QuarterFan) → IsQuarterPath points corners fan.cones fan.last → NamesAllPoints points fan
quarter_names points corners fan h = λ i c l. let s = (h.extremes i c l).0 in (s.high, s.low, s.over, s.under)

-- a path upwards is a fan that holds
pub quarter_holds : (points corners : List PlanePoint) (fan : QuarterFan) → IsQuarterPath points corners fan.cones fan.last → fan.last ≡ north → HoldsQuarter points fan
quarter_holds points corners fan h is = record {
  numbers = quarter_names points corners fan h;
  directions = path_turns (λ c. c.direction) (IsExtremeQuarterCone points) (IsQuarterDirection corners) fan.cones fan.last north h is;
  extremes = λ i c l. ((h.extremes i c l).0.extreme, (h.extremes i c l).1.extreme);
}

pub quarter_lowest : (points corners : List PlanePoint) (fan : QuarterFan) → IsQuarterPath points corners fan.cones fan.last → AreLowest (quarter_directions fan)
quarter_lowest points corners fan h = λ i d l. (h.each i d l).lowest

pub quarter_short : (points corners : List PlanePoint) (fan : QuarterFan) → IsQuarterPath points corners fan.cones fan.last → All IsShort (quarter_directions fan)
quarter_short points corners fan h = λ i d l. (h.each i d l).short
