-- The two ends in a direction, and the numbers of a fan's points at them.
use Rattle.std.specs.Prelude.{neg_ℤ, ℕ, ◌+◌, Bool, true, false, slice_index_or, List}
use Rattle.bounds_model.specs.Numbers.{EachBelow}
use Rattle.bounds_model.specs.Plane.{PlanePoint, origin, quarter_turn}
use Rattle.bounds_model.specs.Fans.{HalfCone, HalfFan, QuarterCone, QuarterFan, AreExtreme}
use Rattle.fan_test.specs.declared.ends.End.{End}
use Rattle.fan_test.specs.declared.ends.End.TheVariants.{High, Low}

-- the vector turned around
abbrev pub opposite : PlanePoint → PlanePoint
opposite d = record { x = neg_ℤ d.x; y = neg_ℤ d.y }

-- the direction in which this end is furthest out
abbrev pub aimed : End → PlanePoint → PlanePoint
aimed High d = d
aimed Low d = opposite d

-- one of two numbers
abbrev pub chosen : End → ℕ → ℕ → ℕ
chosen High high low = high
chosen Low high low = low

-- the points of these numbers are highest and lowest, in both directions that each cone is between
abbrev pub AreEnds : List PlanePoint → (ℕ → PlanePoint) → (ℕ → ℕ) → (ℕ → ℕ) → ℕ → Type 0
AreEnds cloud directions high low cones = EachBelow cones (λ i. AreExtreme cloud (directions i) (high i) (low i) × AreExtreme cloud (directions (i + 1)) (high i) (low i))

-- a cone of a fan over half a turn
abbrev pub half_cone_at : HalfFan → ℕ → HalfCone
half_cone_at fan i = slice_index_or fan.cones i (record { direction = origin; high = 0; low = 0 })

-- the number of its point at this end
abbrev pub half_number : End → HalfFan → ℕ → ℕ
half_number end fan i = chosen end (half_cone_at fan i).high (half_cone_at fan i).low

-- a cone of a fan over a quarter turn
abbrev pub quarter_cone_at : QuarterFan → ℕ → QuarterCone
quarter_cone_at fan i = slice_index_or fan.cones i (record { direction = origin; high = 0; low = 0; over = 0; under = 0 })

-- the direction itself, or turned by a right angle
abbrev pub turned : Bool → PlanePoint → PlanePoint
turned false d = d
turned true d = quarter_turn d

-- the number of a cone's point at this end, for the direction itself or turned by a right angle
abbrev pub quarter_end : Bool → End → QuarterCone → ℕ
quarter_end false end cone = chosen end cone.high cone.low
quarter_end true end cone = chosen end cone.over cone.under

-- the number of its point at this end
abbrev pub quarter_number : Bool → End → QuarterFan → ℕ → ℕ
quarter_number across end fan i = quarter_end across end (quarter_cone_at fan i)
