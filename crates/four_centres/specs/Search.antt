-- What a trial shows, and the smallest squares so far.
use Rattle.std.specs.Prelude.{◌≡◌, ⊤, ℕ, zero, suc, ◌+◌, ◌-◌, ◌*◌, ◌/◌, ◌%◌, ◌<◌, ◌≤◌, ℤ, pos, List, [], ◌∷◌, length, map, All, slice_index_or, ◌≤ℤ◌}
use Rattle.bounds_model.specs.Numbers.{IsWithin, AllNumbered}
use Rattle.bounds_model.specs.Plane.{PlanePoint, plane_limit}
use Rattle.bounds_model.specs.CentresAnswer as model
use Rattle.bounds_model.specs.CentresAnswer.{outside, IsLeafBelow}
use Rattle.bounds_model.specs.FourAnswer.{first_square, AreFourLeaves}
use Rattle.answers.specs.Answers.{leaf_of}
use Rattle.corner_squares.specs.declared.square.Square.{Square}
use Rattle.corner_squares.specs.Squares.{square_of}
use Rattle.corner_squares.specs.LeastPoints.{point_of}
use Rattle.corner_squares.specs.Trees.{NamesPoints, AreLeavesAt}
use Rattle.corner_squares.specs.Covers.{IsCover, AreMore}
use Rattle.corner_squares.specs.declared.least.Least.{Least}
use Rattle.four_centres.specs.declared.trials.Trial.{Trial}
use Rattle.four_centres.specs.declared.trials.Trial.TheVariants.{Covered, Refuted}
use Rattle.four_centres.specs.declared.search.Best.{Best}
use Rattle.four_centres.specs.Heights.{CanFollow, IsDone, IsBeyond}

-- squares that cover the points, the first of them among these, or the leaves of the tree below it
abbrev pub IsTrial : List PlanePoint → Square → Trial → Type 0
IsTrial points first (Covered squares) = IsCover points first.side 4 squares.items × AreMore (first ∷ []) squares.items
IsTrial points first (Refuted leaves) = AreLeavesAt first.side 2 points (outside (square_of first) points) (map leaf_of leaves.items)

-- at most four squares of the side cover the points
pub record IsBestSoFar (points : List PlanePoint) (best : Best) : Type 0 where
  pub limit : best.side ≤ 400000
  pub cover : IsCover points best.side 4 best.squares.items

-- the height is in bounds, and not above the least point
pub record IsAtMost (least : Least) (height : ℤ) : Type 0 where
  pub plane : IsWithin plane_limit height
  pub to : height ≤ℤ least.y

-- squares of this side with the first one at this height are now the best ones
pub record IsTaken (points : List PlanePoint) (side : ℕ) (new : Best) : Type 0 where
  pub wide : new.side ≡ side
  pub best : IsBestSoFar points new

-- no such squares cover the points, and the best ones stay
pub record IsLeft (points : List PlanePoint) (least : Least) (height : ℤ) (side : ℕ) (old new : Best) : Type 0 where
  pub same : new ≡ old
  pub refuted : ¬ CanFollow points (first_square side (point_of least) height)

-- no height is left at which smaller squares cover the points
abbrev pub AreDone : List PlanePoint → Least → List ℤ → ℕ → ℕ → Type 0
AreDone points least heights count side = (k : ℕ) (d : ℤ) → k < count → IsDone points least (slice_index_or heights k d) side

-- the first height that is not beyond the least point
pub record IsFirstReaching (least : Least) (heights : List ℤ) (side from : ℕ) : Type 0 where
  pub within : from ≤ length heights
  pub before : (k : ℕ) (d : ℤ) → k < from → IsBeyond least (slice_index_or heights k d) side
  pub reaches : (d : ℤ) → from < length heights → ¬ IsBeyond least (slice_index_or heights from d) side

-- sixteen leaves for each of so many heights from this one on
pub record AreLeavesFrom (side : ℕ) (points : List PlanePoint) (least : Least) (heights : List ℤ) (from count : ℕ) (leaves : List model.Leaf) : Type 0 where
  pub as_many : length leaves ≡ 16 * count
  pub names : All (NamesPoints points) leaves
  pub each : AllNumbered (λ n leaf. IsLeafBelow side 2 points (outside (first_square side (point_of least) (slice_index_or heights (from + n / 16) (pos 0))) points) (n % 16) leaf) leaves

-- the leaves of those heights from an index up to another that are not beyond the least point
pub record AreLeavesSince (side : ℕ) (points : List PlanePoint) (least : Least) (heights : List ℤ) (since i : ℕ) (leaves : List model.Leaf) : Type 0 where
  pub from : ℕ
  pub since_from : since ≤ from
  pub to_i : from ≤ i
  pub before : (k : ℕ) (d : ℤ) → since ≤ k → k < from → IsBeyond least (slice_index_or heights k d) side
  pub reach : (k : ℕ) (d : ℤ) → from ≤ k → k < i → ¬ IsBeyond least (slice_index_or heights k d) side
  pub are : AreLeavesFrom side points least heights from (i - from) leaves

-- the leaves at a side less by 1, where there is one
abbrev pub AreKept : ℕ → List PlanePoint → Least → List ℤ → ℕ → ℕ → List model.Leaf → Type 0
AreKept zero points least heights since i leaves = ⊤
AreKept (suc side) points least heights since i leaves = AreLeavesSince side points least heights since i leaves

-- the leaves at a side less by 1, at most sixteen for each of a thousand heights, and all of them name points
pub record AreFourLeavesOf (side : ℕ) (points : List PlanePoint) (leaves : List model.Leaf) : Type 0 where
  pub refute : AreFourLeaves side points leaves
  pub names : All (NamesPoints points) leaves
  pub few : length leaves ≤ 16000
