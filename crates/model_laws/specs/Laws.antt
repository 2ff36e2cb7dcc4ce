-- What shows that the definitions are the right ones: statements on the definitions alone.
use Rattle.std.specs.Prelude.{◌≡◌, ⊤, ℕ, ◌+◌, ◌≤◌, List, length, All, Contains, IsPermutation}
use Rattle.bounds_model.specs.Plane.{PlanePoint, IsInPlane}
use Rattle.bounds_model.specs.Fractions.{Fraction}
use Rattle.bounds_model.specs.Hull.{AreCorners}
use Rattle.bounds_model.specs.Fans.{IsShort}
use Rattle.bounds_model.specs.PlainFans.{IsPlainHalf, IsPlainQuarter}
use Rattle.bounds_model.specs.CornerTest.{CornersPass}
use Rattle.bounds_model.specs.KgonAnswer.{KgonAnswer, corner_points, PassesKgon}
use Rattle.bounds_model.specs.Asks.{Ask, Sets, Suits}
use Rattle.bounds_model.specs.Asks.Ask.{ask_kgon, ask_distance, ask_furthest}
use Rattle.bounds_model.specs.Asks.Sets.{plane, space, two, bare}
use Rattle.bounds_model.specs.Answers.{Answer, size_of, KeepsRanges, Fits, IsBest, Passes, IsOptimum}

-- an answer that passes has all its numbers in their ranges
abbrev pub PassingAnswersKeepRanges : Type 0
PassingAnswersKeepRanges = (ask : Ask) (sets : Sets) (answer : Answer) → Passes ask sets answer → KeepsRanges answer

-- an answer fits only points of the kind that is asked of
abbrev pub FittingPointsSuit : Type 0
FittingPointsSuit = (ask : Ask) (sets : Sets) (answer : Answer) → Fits ask sets answer → Suits ask sets

-- the corners that a checker accepts are the corners of the hull
abbrev pub PassingCornersAreCorners : Type 0
PassingCornersAreCorners = (points corners : List PlanePoint) → All (Contains points) corners → CornersPass points corners → AreCorners points corners

-- so the corners that a passing polygon lists are the corners of the hull
abbrev pub PassingKgonsListCorners : Type 0
PassingKgonsListCorners = (k : ℕ) (points : List PlanePoint) (answer : KgonAnswer) → PassesKgon k points answer → AreCorners points (corner_points points answer)

-- points have at most one list of corners
abbrev pub CornersAreUnique : Type 0
CornersAreUnique = (points first second : List PlanePoint) → AreCorners points first → AreCorners points second → first ≡ second

-- the same points in another order
abbrev pub ArePermuted : Sets → Sets → Type 0
ArePermuted (plane first) (plane second) = IsPermutation first second
ArePermuted (space first) (space second) = IsPermutation first second
ArePermuted (two ps qs) (two ps' qs') = IsPermutation ps ps' × IsPermutation qs qs'
ArePermuted bare bare = ⊤
ArePermuted first second = ⊥

-- there is one best size at most
abbrev pub BestSizeIsUnique : Type 0
BestSizeIsUnique = (ask : Ask) (sets : Sets) (first second : Answer) → IsBest ask sets first → IsBest ask sets second → size_of first ≡ size_of second

-- so a fraction that is the optimum is the only one
abbrev pub OptimumIsUnique : Type 0
OptimumIsUnique = (ask : Ask) (sets : Sets) (first second : Fraction) → IsOptimum ask sets first → IsOptimum ask sets second → first ≡ second

-- points in another order have the same best size
abbrev pub BestSizeHasNoOrder : Type 0
BestSizeHasNoOrder = (ask : Ask) (sets other : Sets) (first second : Answer) → ArePermuted sets other → IsBest ask sets first → IsBest ask other second → size_of first ≡ size_of second

-- the object of an answer is given by numbers of points
abbrev pub NamesNumbers : Ask → Type 0
NamesNumbers (ask_kgon k) = ⊤
NamesNumbers ask_distance = ⊤
NamesNumbers ask_furthest = ⊤
NamesNumbers ask = ⊥

-- where the object is not given by numbers of points, a best answer stays best for the points in another order
abbrev pub BestAnswersHaveNoOrder : Type 0
BestAnswersHaveNoOrder = (ask : Ask) (sets other : Sets) (answer : Answer) → ¬ NamesNumbers ask → ArePermuted sets other → IsBest ask sets answer → IsBest ask other answer

-- a plain fan over half a turn has at most three directions more than the hull has corners
abbrev pub PlainHalfFansAreFew : Type 0
PlainHalfFansAreFew = (corners directions : List PlanePoint) → IsPlainHalf corners directions
    → length directions ≤ length corners + 3

-- and one over a quarter turn at most two
abbrev pub PlainQuarterFansAreFew : Type 0
PlainQuarterFansAreFew = (corners directions : List PlanePoint) → IsPlainQuarter corners directions
    → length directions ≤ length corners + 2

-- where the corners are in bounds, no coordinate of a plain fan's direction is past the checker's limit
abbrev pub PlainHalfFansAreShort : Type 0
PlainHalfFansAreShort = (corners directions : List PlanePoint) → All IsInPlane corners → IsPlainHalf corners directions → All IsShort directions

abbrev pub PlainQuarterFansAreShort : Type 0
PlainQuarterFansAreShort = (corners directions : List PlanePoint) → All IsInPlane corners → IsPlainQuarter corners directions → All IsShort directions
