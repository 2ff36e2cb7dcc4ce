-- Directions in turning order, with points that are extreme for all directions between two neighbours.
use Rattle.std.specs.Prelude.{◌≡◌, ℕ, ◌+◌, ◌-◌, ◌^◌, ◌<◌, ◌≤◌, ℤ, pos, negsuc, ◌≤ℤ◌, ◌<ℤ◌, List, [], ◌∷◌, ◌++◌, length, map, All, SomeIndex}
use Rattle.bounds_model.specs.Numbers.{AllNumbered, EachBelow, IsWithin, HasCount}
use Rattle.bounds_model.specs.Plane.{PlanePoint, point_at, vector, dot, cross, quarter_turn}
use Rattle.bounds_model.specs.Fractions.{HaveNoCommonFactor}
use Rattle.bounds_model.specs.Ranges.{IsDirection, fan_limit, point_limit}

-- from a direction to the next, with the numbers of a highest and a lowest point
pub record HalfCone : Type 0 where
  pub direction : PlanePoint
  pub high : ℕ
  pub low : ℕ

-- cones over half a turn, and the last direction
pub record HalfFan : Type 0 where
  pub cones : List HalfCone
  pub last : PlanePoint

-- from a direction to the next, with the numbers of a highest and a lowest point for it, and for it turned by a right angle
pub record QuarterCone : Type 0 where
  pub direction : PlanePoint
  pub high : ℕ
  pub low : ℕ
  pub over : ℕ
  pub under : ℕ

-- cones over a quarter turn, and the last direction
pub record QuarterFan : Type 0 where
  pub cones : List QuarterCone
  pub last : PlanePoint

-- all directions in order, the last included
abbrev pub half_directions : HalfFan → List PlanePoint
half_directions fan = map (λ cone. cone.direction) fan.cones ++ fan.last ∷ []

-- all directions in order, the last included
abbrev pub quarter_directions : QuarterFan → List PlanePoint
quarter_directions fan = map (λ cone. cone.direction) fan.cones ++ fan.last ∷ []

-- the points of these numbers are highest and lowest in this direction
pub record AreExtreme (points : List PlanePoint) (direction : PlanePoint) (high low : ℕ) : Type 0 where
  pub highest : All (λ p. dot direction p ≤ℤ dot direction (point_at points high)) points
  pub lowest : All (λ p. dot direction (point_at points low) ≤ℤ dot direction p) points

-- how far the points reach in this direction, by two of them
abbrev pub reach : List PlanePoint → PlanePoint → ℕ → ℕ → ℤ
reach points direction high low = dot direction (vector (point_at points low) (point_at points high))

-- the directions lead from first to last, each to the left of the one before
pub record TurnLeft (first last : PlanePoint) (directions : List PlanePoint) : Type 0 where
  pub begins : point_at directions 0 ≡ first
  pub ends : point_at directions (length directions - 1) ≡ last
  pub turns : EachBelow (length directions - 1) (λ i. pos 0 <ℤ cross (point_at directions i) (point_at directions (i + 1)))

-- the direction to the right
abbrev pub east : PlanePoint
east = record { x = pos 1; y = pos 0 }

-- the direction upwards
abbrev pub north : PlanePoint
north = record { x = pos 0; y = pos 1 }

-- the direction to the left
abbrev pub west : PlanePoint
west = record { x = negsuc 0; y = pos 0 }

-- P holds of each cone with the direction that it begins at, and with the one that it ends at
abbrev pub AtBothEnds : {Cone : Type 0} → List PlanePoint → (PlanePoint → Cone → Type 0) → List Cone → Type 0
AtBothEnds directions P cones = AllNumbered (λ i cone. P (point_at directions i) cone × P (point_at directions (i + 1)) cone) cones

-- a cone's points are extreme in this direction
abbrev pub IsHalfExtreme : List PlanePoint → PlanePoint → HalfCone → Type 0
IsHalfExtreme points d cone = AreExtreme points d cone.high cone.low

-- a cone's points are extreme in this direction, and in it turned by a right angle
abbrev pub IsQuarterExtreme : List PlanePoint → PlanePoint → QuarterCone → Type 0
IsQuarterExtreme points d cone = AreExtreme points d cone.high cone.low × AreExtreme points (quarter_turn d) cone.over cone.under

-- the numbers of a fan are numbers of points
abbrev pub NamesPoints : List PlanePoint → HalfFan → Type 0
NamesPoints points fan = All (λ cone. (cone.high < length points) × (cone.low < length points)) fan.cones

-- a fan over half a turn holds for points
pub record HoldsHalf (points : List PlanePoint) (fan : HalfFan) : Type 0 where
  pub numbers : NamesPoints points fan
  pub directions : TurnLeft east west (half_directions fan)
  pub extremes : AtBothEnds (half_directions fan) (IsHalfExtreme points) fan.cones

-- the numbers of a fan over a quarter turn are numbers of points
abbrev pub NamesAllPoints : List PlanePoint → QuarterFan → Type 0
NamesAllPoints points fan = All (λ cone. (cone.high < length points) × (cone.low < length points) × (cone.over < length points) × (cone.under < length points)) fan.cones

-- a fan over a quarter turn holds for points
pub record HoldsQuarter (points : List PlanePoint) (fan : QuarterFan) : Type 0 where
  pub numbers : NamesAllPoints points fan
  pub directions : TurnLeft east north (quarter_directions fan)
  pub extremes : AtBothEnds (quarter_directions fan) (IsQuarterExtreme points) fan.cones

-- u is v divided by the common factor of its entries
pub record IsReduced (v u : PlanePoint) : Type 0 where
  pub parallel : cross v u ≡ pos 0
  pub ahead : pos 0 <ℤ dot v u
  pub lowest : HaveNoCommonFactor (u.x ∷ u.y ∷ [])

-- u is the reduced direction of this number, and P holds of each cone before with the direction that it begins at
pub record IsFirstAt {Cone : Type 0} (directions : List PlanePoint) (P : PlanePoint → Cone → Type 0) (cones : List Cone) (u : PlanePoint) (number : ℕ) : Type 0 where
  pub reduced : IsReduced (point_at directions number) u
  pub before : AllNumbered (λ j cone. j < number → P (point_at directions j) cone) cones

-- u is the reduced direction at which some cone begins, and P holds of each cone before
abbrev pub IsFirst : {Cone : Type 0} → List PlanePoint → (PlanePoint → Cone → Type 0) → List Cone → PlanePoint → Type 0
IsFirst directions P cones u = SomeIndex cones (λ i. IsFirstAt directions P cones u i)

-- how large a coordinate of a direction may be
abbrev pub direction_limit : ℕ
direction_limit = 400000

-- how large a bound may be
abbrev pub span_limit : ℕ
span_limit = 2 ^ 40

-- a direction within the checker's limit
pub record IsShort (direction : PlanePoint) : Type 0 where
  pub x : IsWithin direction_limit direction.x
  pub y : IsWithin direction_limit direction.y

-- all numbers of a fan are in their ranges
pub record HalfRanges (fan : HalfFan) : Type 0 where
  pub count : HasCount 1 (fan_limit - 1) fan.cones
  pub directions : All IsDirection (half_directions fan)
  pub points : All (λ cone. (cone.high ≤ point_limit) × (cone.low ≤ point_limit)) fan.cones

-- all numbers of a fan are in their ranges
pub record QuarterRanges (fan : QuarterFan) : Type 0 where
  pub count : HasCount 1 (fan_limit - 1) fan.cones
  pub directions : All IsDirection (quarter_directions fan)
  pub points : All (λ cone. (cone.high ≤ point_limit) × (cone.low ≤ point_limit) × (cone.over ≤ point_limit) × (cone.under ≤ point_limit)) fan.cones
