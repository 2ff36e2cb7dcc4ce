-- The ranges of the numbers that stand in an answer: its ranges.
use Rattle.std.specs.Prelude.{ℕ, ◌^◌, ℤ, pos, ◌≤ℤ◌, [], ◌∷◌}
use Rattle.bounds_model.specs.Numbers.{IsWithin}
use Rattle.bounds_model.specs.Plane.{PlanePoint, PlaneRatio}
use Rattle.bounds_model.specs.Space.{SpaceRatio}
use Rattle.bounds_model.specs.Fractions.{Fraction, IsLowest, HaveNoCommonFactor}
use Rattle.bounds_model.specs.Strip.{Span}

-- the greatest magnitude of a number in an answer
abbrev pub number_limit : ℕ
number_limit = 2 ^ 126

-- the greatest number of a point
abbrev pub point_limit : ℕ
point_limit = 9999

-- the most directions of a fan
abbrev pub fan_limit : ℕ
fan_limit = 10003

-- a number of an answer
abbrev pub IsNumber : ℤ → Type 0
IsNumber z = IsWithin number_limit z

-- a number of an answer that is not below 0
pub record IsNatural (z : ℤ) : Type 0 where
  pub low : pos 0 ≤ℤ z
  pub high : z ≤ℤ pos number_limit

-- a direction, of two numbers
pub record IsDirection (v : PlanePoint) : Type 0 where
  pub x : IsNumber v.x
  pub y : IsNumber v.y

-- two bounds
pub record IsSpan (span : Span) : Type 0 where
  pub low : IsNumber span.low
  pub high : IsNumber span.high

-- a fraction in lowest terms that is not below 0
pub record IsFraction (a : Fraction) : Type 0 where
  pub numerator : IsNumber a.n
  pub denominator : IsNumber a.d
  pub lowest : IsLowest a

-- a point of the plane over a denominator, in lowest terms
pub record IsPlaneRatio (c : PlaneRatio) : Type 0 where
  pub x : IsNumber c.x
  pub y : IsNumber c.y
  pub w : IsNumber c.w
  pub denominator : pos 1 ≤ℤ c.w
  pub lowest : HaveNoCommonFactor (c.x ∷ c.y ∷ c.w ∷ [])

-- a point of space over a denominator, in lowest terms
pub record IsSpaceRatio (c : SpaceRatio) : Type 0 where
  pub x : IsNumber c.x
  pub y : IsNumber c.y
  pub z : IsNumber c.z
  pub w : IsNumber c.w
  pub denominator : pos 1 ≤ℤ c.w
  pub lowest : HaveNoCommonFactor (c.x ∷ c.y ∷ c.z ∷ c.w ∷ [])
