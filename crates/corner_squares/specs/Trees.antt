-- The tree of corners: each node puts a square into one of the four corners of the bounding box of what is left over, and a leaf names two points that are left and far apart.
use Rattle.std.specs.Prelude.{◌≡◌, ℕ, zero, suc, ◌+◌, ◌*◌, ◌^◌, ◌<◌, List, length}
use Rattle.bounds_model.specs.Numbers.{AllNumbered}
use Rattle.bounds_model.specs.Plane.{PlanePoint}
use Rattle.bounds_model.specs.CentresAnswer.{Leaf, IsLeafBelow}

-- the leaf names two of the points
pub record NamesPoints (points : List PlanePoint) (leaf : Leaf) : Type 0 where
  pub first : leaf.first < length points
  pub second : leaf.second < length points

-- a leaf below a node that has these points left, so many squares above it, names two of the points
pub record IsLeafAt (side depth : ℕ) (points rest : List PlanePoint) (number : ℕ) (leaf : Leaf) : Type 0 where
  pub names : NamesPoints points leaf
  pub below : IsLeafBelow side depth points rest number leaf

-- all leaves below a node
pub record AreLeavesAt (side depth : ℕ) (points rest : List PlanePoint) (leaves : List Leaf) : Type 0 where
  pub as_many : length leaves ≡ 4 ^ depth
  pub each : AllNumbered (IsLeafAt side depth points rest) leaves

-- how many nodes a tree of this depth has, its leaves too
abbrev pub nodes : ℕ → ℕ
nodes zero = 1
nodes (suc depth) = 1 + 4 * nodes depth
