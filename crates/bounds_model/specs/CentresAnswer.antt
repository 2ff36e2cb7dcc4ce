-- The answers on centres, and what a checker asks of them.
use Rattle.std.specs.Prelude.{◌≡◌, ◌⊎◌, ℕ, suc, zero, ◌-◌, ◌*◌, ◌/◌, ◌%◌, ◌^◌, ◌<◌, ◌≤◌, Bool, not, ◌&&◌, int_le, ◌==◌, if◌then◌else◌, ℤ, pos, nat_abs, ◌+ℤ◌, ◌-ℤ◌, ◌≤ℤ◌, List, [], ◌∷◌, length, filter, All, Contains}
use Rattle.integers.specs.Extremes.{greatest, least}
use Rattle.bounds_model.specs.Numbers.{AllNumbered, IsWithin, HasCount}
use Rattle.bounds_model.specs.Plane.{PlanePoint, PlaneRatio, point_at}
use Rattle.bounds_model.specs.Fractions.{Fraction}
use Rattle.bounds_model.specs.Centres.{Cover, FitsCentres}
use Rattle.bounds_model.specs.Ranges.{IsFraction, IsPlaneRatio, point_limit}

-- the numbers of two points that are far apart
pub record Leaf : Type 0 where
  pub first : ℕ
  pub second : ℕ

-- squares of one size, and leaves which show that no smaller ones cover the points
pub record CentresAnswer : Type 0 where
  pub size : Fraction
  pub squares : List PlaneRatio
  pub leaves : List Leaf

-- the squares' centres with the size as their radius
abbrev pub cover_of : CentresAnswer → Cover
cover_of a = record { centres = a.squares; radius = a.size }

-- all numbers are in their ranges
pub record CentresRanges (a : CentresAnswer) : Type 0 where
  pub size : IsFraction a.size
  pub square_count : HasCount 1 3 a.squares
  pub squares : All IsPlaneRatio a.squares
  pub leaf_count : HasCount 0 16 a.leaves
  pub leaves : All (λ leaf. (leaf.first ≤ point_limit) × (leaf.second ≤ point_limit)) a.leaves

-- the numbers of a square's centre are within the checker's limits: w is 1 or 2, x and y are at most a million in magnitude
pub record IsCentreWithinLimits (c : PlaneRatio) : Type 0 where
  pub halves : (c.w ≡ pos 1) ⊎ (c.w ≡ pos 2)
  pub x : IsWithin 1000000 c.x
  pub y : IsWithin 1000000 c.y

-- the side of the squares: twice the radius
abbrev pub side : Fraction → ℕ
side radius = 2 * nat_abs radius.n / nat_abs radius.d

-- a closed square by its lower left corner
pub record Square : Type 0 where
  pub left : ℤ
  pub bottom : ℤ
  pub side : ℕ

-- whether the square contains the point
abbrev pub contains : Square → PlanePoint → Bool
contains square p =
    int_le square.left p.x && int_le p.x (square.left +ℤ pos square.side) && int_le square.bottom p.y && int_le p.y (square.bottom +ℤ pos square.side)

-- the points that the square does not contain
abbrev pub outside : Square → List PlanePoint → List PlanePoint
outside square points = filter (λ p. not (contains square p)) points

-- the square in a corner of the points' bounding box, with its own same corner there: 0 is lower left, 1 lower right, 2 upper left, 3 upper right
abbrev pub corner_square : ℕ → ℕ → List PlanePoint → Square
corner_square side corner points = record {
  left = if corner % 2 == 0 then least (λ p. p.x) points else (greatest (λ p. p.x) points -ℤ pos side);
  bottom = if corner / 2 == 0 then least (λ p. p.y) points else (greatest (λ p. p.y) points -ℤ pos side);
  side = side;
}

-- so many digits of a number to the base 4, the most significant first
abbrev pub digits : ℕ → ℕ → List ℕ
digits zero number = []
digits (suc count) number = (number / 4 ^ count % 4) ∷ digits count number

-- the point is left when a square is placed into each of these corners in turn, each in the bounding box of the points left by those before
abbrev pub IsLeftOver : ℕ → List ℕ → List PlanePoint → PlanePoint → Type 0
IsLeftOver side [] points p = Contains points p
IsLeftOver side (corner ∷ rest) points p = IsLeftOver side rest (outside (corner_square side corner points) points) p

-- the points differ by more than a side in x or in y
abbrev pub AreFar : ℕ → PlanePoint → PlanePoint → Type 0
AreFar side p q = (side < nat_abs (q.x -ℤ p.x)) ⊎ (side < nat_abs (q.y -ℤ p.y))

-- of the points that are left when some squares are placed already: after so many more squares, in the corners that the leaf's number names, its two points are left over and far apart
pub record IsLeafBelow (side count : ℕ) (points rest : List PlanePoint) (number : ℕ) (leaf : Leaf) : Type 0 where
  pub first : IsLeftOver side (digits count number) rest (point_at points leaf.first)
  pub second : IsLeftOver side (digits count number) rest (point_at points leaf.second)
  pub far : AreFar side (point_at points leaf.first) (point_at points leaf.second)

-- a leaf of so many centres, where no square is placed before: one square less than centres shows it
abbrev pub IsLeaf : ℕ → ℕ → List PlanePoint → ℕ → Leaf → Type 0
IsLeaf side count points = IsLeafBelow side (count - 1) points points

-- none where the side is 0, else one for each list of corners, with squares of a side less by 1
abbrev pub AreLeaves : ℕ → ℕ → List PlanePoint → List Leaf → Type 0
AreLeaves zero count points leaves = leaves ≡ []
AreLeaves (suc side) count points leaves = (length leaves ≡ 4 ^ (count - 1)) × AllNumbered (IsLeaf side count points) leaves

-- what a checker asks of centres
pub record PassesCentres (count : ℕ) (points : List PlanePoint) (a : CentresAnswer) : Type 0 where
  pub ranges : CentresRanges a
  pub numbers : All (λ leaf. (leaf.first < length points) × (leaf.second < length points)) a.leaves
  pub halves : (a.size.d ≡ pos 1) ⊎ (a.size.d ≡ pos 2)
  pub size_limit : a.size.n ≤ℤ pos 1000000
  pub centres : All IsCentreWithinLimits a.squares
  pub covers : FitsCentres count points (cover_of a)
  pub leaves : AreLeaves (side a.size) count points a.leaves
