-- What is asked of the numbers of an answer on centres, before anything is computed with them.
use Rattle.std.specs.Prelude.{◌≡◌, ◌⊎◌, ℕ, ◌<◌, pos, ◌≤ℤ◌, List, length, All}
use Rattle.bounds_model.specs.Plane.{PlanePoint, PlaneRatio}
use Rattle.bounds_model.specs.Fractions.{Fraction}
use Rattle.bounds_model.specs.Ranges.{IsFraction, IsPlaneRatio}
use Rattle.bounds_model.specs.CentresAnswer.{CentresAnswer, Leaf, IsCentreWithinLimits, AreFar}
use Rattle.corner_squares.specs.declared.square.Square.{Square}
use Rattle.corner_squares.specs.Squares.{IsCovered}

-- a radius in its range, a whole number or a half one, with a numerator of at most a million
pub record IsSmallRadius (radius : Fraction) : Type 0 where
  pub range : IsFraction radius
  pub halves : (radius.d ≡ pos 1) ⊎ (radius.d ≡ pos 2)
  pub limit : radius.n ≤ℤ pos 1000000

-- a centre in its range, with numbers within the checker's limits
pub record IsSmallCentre (c : PlaneRatio) : Type 0 where
  pub range : IsPlaneRatio c
  pub near : IsCentreWithinLimits c

-- the leaf names two of so many points
abbrev pub NamesPoints : ℕ → Leaf → Type 0
NamesPoints count leaf = (leaf.first < count) × (leaf.second < count)

-- so many squares, and all numbers within their limits
pub record IsWithinLimits (count : ℕ) (points : List PlanePoint) (a : CentresAnswer) : Type 0 where
  pub as_many : length a.squares ≡ count
  pub radius : IsSmallRadius a.size
  pub centres : All IsSmallCentre a.squares
  pub numbers : All (NamesPoints (length points)) a.leaves

-- none of the squares contains one of the points, and they differ by more than a side
pub record IsFreePair (side : ℕ) (squares : List Square) (p q : PlanePoint) : Type 0 where
  pub first : ¬ IsCovered squares p
  pub second : ¬ IsCovered squares q
  pub far : AreFar side p q
