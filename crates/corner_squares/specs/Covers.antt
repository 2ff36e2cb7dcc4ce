-- Squares of one side that cover points, and leaves which show that none do.
use Rattle.std.specs.Prelude.{◌≡◌, ℕ, ◌<◌, ◌≤◌, List, ◌++◌, length, map, All, Contains, pos, neg_ℤ, ◌+ℤ◌, ◌≤ℤ◌}
use Rattle.bounds_model.specs.Plane.{PlanePoint, point_at}
use Rattle.bounds_model.specs.CentresAnswer.{AreFar}
use Rattle.answers.specs.declared.centres.Leaf.{Leaf}
use Rattle.answers.specs.Answers.{leaf_of}
use Rattle.corner_squares.specs.declared.square.Square.{Square}
use Rattle.corner_squares.specs.Squares.{IsCovered, left_over}
use Rattle.corner_squares.specs.Trees.{AreLeavesAt}

-- a square of this side that reaches into the bounds of points
pub record IsPlaced (side : ℕ) (s : Square) : Type 0 where
  pub wide : s.side ≡ side
  pub left : s.left ≤ℤ pos 200000
  pub right : neg_ℤ (pos 200000) ≤ℤ (s.left +ℤ pos side)
  pub bottom : s.bottom ≤ℤ pos 200000
  pub top : neg_ℤ (pos 200000) ≤ℤ (s.bottom +ℤ pos side)

-- at most so many squares, which contain all points
pub record IsCover (points : List PlanePoint) (side most : ℕ) (squares : List Square) : Type 0 where
  pub few : length squares ≤ most
  pub placed : All (IsPlaced side) squares
  pub covered : All (IsCovered squares) points

-- the squares are the old ones, and then others
abbrev pub AreMore : List Square → List Square → Type 0
AreMore old new = (others : List Square) × (new ≡ old ++ others)

-- two points that no square contains and that are far apart
pub record IsFarPair (points : List PlanePoint) (squares : List Square) (limit : ℕ) (leaf : Leaf) : Type 0 where
  pub first : leaf.first < length points
  pub second : leaf.second < length points
  pub first_free : ¬ IsCovered squares (point_at points leaf.first)
  pub second_free : ¬ IsCovered squares (point_at points leaf.second)
  pub far : AreFar limit (point_at points leaf.first) (point_at points leaf.second)

-- the leaves below the placed squares are appended, and the squares stay
pub record IsRefuted (points : List PlanePoint) (side depth : ℕ) (placed placed_then : List Square) (leaves leaves_then : List Leaf) : Type 0 where
  pub stays : placed_then ≡ placed
  pub own : List Leaf
  pub appended : leaves_then ≡ leaves ++ own
  pub refuted : AreLeavesAt side depth points (left_over placed points) (map leaf_of own)

-- so many squares, which are the old ones, and then some of them again
pub record IsFilledUp (count : ℕ) (old new : List Square) : Type 0 where
  pub as_many : length new ≡ count
  pub again : List Square
  pub appended : new ≡ old ++ again
  pub old_ones : All (Contains old) again
