-- Leaves which show that no squares cover the points: the one of no square names the first two points far apart.
use Rattle.std.specs.Prelude.{◌≡◌, ℕ, List, ◌++◌, map, All}
use Rattle.bounds_model.specs.Plane.{PlanePoint}
use Rattle.answers.specs.declared.centres.Leaf.{Leaf}
use Rattle.answers.specs.Answers.{leaf_of}
use Rattle.corner_squares.specs.declared.square.Square.{Square}
use Rattle.corner_squares.specs.Covers.{IsRefuted}
use Rattle.p_centres.specs.Surveys.{IsFirstFar}

-- the leaves below the placed squares are appended, and the squares stay; one right below them names the first two points far apart
pub record IsFirstRefuted (points : List PlanePoint) (side depth : ℕ) (placed placed_then : List Square) (leaves leaves_then : List Leaf) : Type 0 where
  pub refuted : IsRefuted points side depth placed placed_then leaves leaves_then
  pub earliest : depth ≡ 0 → (own : List Leaf) × (leaves_then ≡ leaves ++ own) × All (IsFirstFar points placed side) (map leaf_of own)
