-- The heights at which the first square can stand, found one after another.
use Rattle.std.specs.Prelude.{◌≡◌, ◌⊎◌, ◌<◌, ◌*◌, take, drop, ℕ, ℤ, ◌≤ℤ◌, ◌<ℤ◌, List, length, Option, Some, None}
use Rattle.bounds_model.specs.Plane.{PlanePoint, point_at}
use Rattle.bounds_model.specs.CentresAnswer.{Leaf}

-- the value is in the range
pub record IsBetween (from to value : ℤ) : Type 0 where
  pub from_below : from ≤ℤ value
  pub to_above : value ≤ℤ to

-- of the first so many points, one has this y, which is in the range, and none in the range is lower
pub record IsLowestOf (points : List PlanePoint) (count : ℕ) (from to lowest : ℤ) : Type 0 where
  pub between : IsBetween from to lowest
  pub number : ℕ
  pub below : number < count
  pub meets : (point_at points number).y ≡ lowest
  pub least : (k : ℕ) → k < count → IsBetween from to (point_at points k).y → lowest ≤ℤ (point_at points k).y

-- none of the first so many points is in the range, or this is the lowest y there
abbrev pub IsLowestUpTo : List PlanePoint → ℕ → ℤ → ℤ → Option ℤ → Type 0
IsLowestUpTo points count from to None = (k : ℕ) → k < count → ¬ IsBetween from to (point_at points k).y
IsLowestUpTo points count from to (Some lowest) = IsLowestOf points count from to lowest

-- of all points
abbrev pub IsLowestFrom : List PlanePoint → ℤ → ℤ → Option ℤ → Type 0
IsLowestFrom points from to found = IsLowestUpTo points (length points) from to found

-- the lower one of what was found, if anything, and the value
abbrev pub TakesLower : Option ℤ → ℤ → Option ℤ → Type 0
TakesLower None value new = new ≡ Some value
TakesLower (Some lowest) value new = ((value <ℤ lowest) × (new ≡ Some value)) ⊎ ((lowest ≤ℤ value) × (new ≡ Some lowest))

-- a value in the range is taken where it is lower, and another is not
abbrev pub IsLower : Option ℤ → ℤ → ℤ → ℤ → Option ℤ → Type 0
IsLower found value from to new = ((¬ IsBetween from to value) × (new ≡ found)) ⊎ (IsBetween from to value × TakesLower found value new)

-- the sixteen leaves of this height
abbrev pub sixteen_from : ℕ → List Leaf → List Leaf
sixteen_from k leaves = take 16 (drop (16 * k) leaves)
