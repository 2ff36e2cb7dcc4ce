-- The search for the least side.
use Rattle.std.specs.Prelude.{◌≡◌, ◌⊎◌, ℕ, ◌+◌, ◌-◌, ◌≤◌, List, [], ◌∷◌, map, All}
use Rattle.bounds_model.specs.Plane.{PlanePoint}
use Rattle.bounds_model.specs.CentresAnswer.{AreLeaves}
use Rattle.answers.specs.Answers.{leaf_of}
use Rattle.corner_squares.specs.declared.bounds.Bounds.{Bounds}
use Rattle.corner_squares.specs.Extents.{IsNoLonger}
use Rattle.corner_squares.specs.Trees.{NamesPoints}
use Rattle.corner_squares.specs.Covers.{IsCover}
use Rattle.p_centres.specs.declared.sides.Bracket.{Bracket}
use Rattle.p_centres.specs.Surveys.{IsFirstFar}

-- so many squares of the high side cover the points, and the leaves show that none of a side below the low one do; that of one square names the first two so far apart
pub record IsBracket (points : List PlanePoint) (count : ℕ) (b : Bracket) : Type 0 where
  pub order : b.low ≤ b.high
  pub limit : b.high ≤ 400000
  pub cover : IsCover points b.high count b.squares.items
  pub names : All (NamesPoints points) (map leaf_of b.leaves.items)
  pub leaves : AreLeaves b.low count points (map leaf_of b.leaves.items)
  pub earliest : count ≡ 1 → All (IsFirstFar points [] (b.low - 1)) (map leaf_of b.leaves.items)

-- one square in the lower left corner of the box, which is no longer than it
pub record IsStart (bounds : Bounds) (b : Bracket) : Type 0 where
  pub low : b.low ≡ 0
  pub limit : b.high ≤ 400000
  pub squares : b.squares.items ≡ record { left = bounds.across.low; bottom = bounds.up.low; side = b.high } ∷ []
  pub no_longer : IsNoLonger b.high bounds
  pub leaves : b.leaves.items ≡ []

-- the side is the new high one, or the new low one is one more
pub record IsTried (side : ℕ) (old new : Bracket) : Type 0 where
  pub half : ((new.low ≡ old.low) × (new.high ≡ side)) ⊎ ((new.low ≡ side + 1) × (new.high ≡ old.high))
