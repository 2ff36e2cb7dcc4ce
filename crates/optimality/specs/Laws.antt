-- What passes is best: the laws of the ten kinds, over the definitions alone.
use Rattle.std.specs.Prelude.{◌≡◌, ℕ, ◌<◌, ◌≤◌, List, length, All, ◌*ℤ◌, ◌≤ℤ◌, Contains}
use Rattle.bounds_model.specs.Numbers.{EachBelow}
use Rattle.bounds_model.specs.Plane.{PlanePoint, point_at, squared_distance}
use Rattle.bounds_model.specs.Space.{SpacePoint}
use Rattle.bounds_model.specs.Fractions.{Fraction}
use Rattle.bounds_model.specs.Best.{IsSmallest, IsGreatest, IsPrintedSize}
use Rattle.bounds_model.specs.Hull.{AreCorners}
use Rattle.bounds_model.specs.Ball.{FitsCircle, FitsBall, ball_size}
use Rattle.bounds_model.specs.Strip.{Strip, FitsStrip, strip_size}
use Rattle.bounds_model.specs.Rectangle.{Rectangle, FitsRectangle, rectangle_size}
use Rattle.bounds_model.specs.Parallelogram.{FitsParallelogram, parallelogram_size}
use Rattle.bounds_model.specs.Annulus.{FitsAnnulus, annulus_size}
use Rattle.bounds_model.specs.Shell.{FitsShell, shell_size}
use Rattle.bounds_model.specs.EmptyRectangle.{Box, FitsEmpty, empty_size}
use Rattle.bounds_model.specs.Kgon.{FitsKgon, kgon_size}
use Rattle.bounds_model.specs.Distance.{FitsDistance, distance_size}
use Rattle.bounds_model.specs.Centres.{FitsCentres, centres_size}
use Rattle.bounds_model.specs.BallAnswer.{CircleAnswer, SphereAnswer, circle_of, sphere_of, PassesCircle, PassesSphere}
use Rattle.bounds_model.specs.StripAnswer.{StripAnswer, strip_of, PassesStrip}
use Rattle.bounds_model.specs.RectangleAnswer.{RectangleAnswer, rectangle_of, PassesRectangle}
use Rattle.bounds_model.specs.ParallelogramAnswer.{ParallelogramAnswer, parallelogram_of, PassesParallelogram}
use Rattle.bounds_model.specs.AnnulusAnswer.{AnnulusAnswer, annulus_of, PassesAnnulus}
use Rattle.bounds_model.specs.ShellAnswer.{ShellAnswer, shell_of, PassesShell}
use Rattle.bounds_model.specs.EmptyAnswer.{EmptyAnswer, empty_of, PassesEmpty}
use Rattle.bounds_model.specs.KgonAnswer.{KgonAnswer, corner_points, PassesKgon}
use Rattle.bounds_model.specs.DistanceAnswer.{DistanceAnswer, weights_of, PassesDistance}
use Rattle.bounds_model.specs.CentresAnswer.{CentresAnswer, cover_of, PassesCentres}
use Rattle.bounds_model.specs.FourAnswer.{PassesFour}
use Rattle.bounds_model.specs.Furthest.{IsFurthest}
use Rattle.bounds_model.specs.FurthestAnswer.{FurthestAnswer, PassesFurthest, entry_points, far_at}
use Rattle.bounds_model.specs.Firsts.{IsFirstStrip, IsFirstRectangle, IsFirstKgon}
use Rattle.bounds_model.specs.Asks.{Ask, Sets, IsValid}
use Rattle.bounds_model.specs.Answers.{Answer, IsBest, IsFirstOfBest, Passes}

-- the object fits, no object that fits is smaller, and its size is printed in lowest terms
pub record IsSmallestPrinted {Object : Type 0} (Fits : Object → Type 0) (size : Object → Fraction) (object : Object) (printed : Fraction) : Type 0 where
  pub smallest : IsSmallest Fits size object
  pub is_printed : IsPrintedSize (size object) printed

-- the object fits, no object that fits is greater, and its size is printed in lowest terms
pub record IsGreatestPrinted {Object : Type 0} (Fits : Object → Type 0) (size : Object → Fraction) (object : Object) (printed : Fraction) : Type 0 where
  pub greatest : IsGreatest Fits size object
  pub is_printed : IsPrintedSize (size object) printed

-- a circle that passes is the smallest around its points
abbrev pub PassingCirclesAreBest : Type 0
PassingCirclesAreBest = (points : List PlanePoint) (a : CircleAnswer) → PassesCircle points a → IsSmallestPrinted (FitsCircle points) ball_size (circle_of a) a.size

-- a sphere that passes is the smallest around its points
abbrev pub PassingSpheresAreBest : Type 0
PassingSpheresAreBest = (points : List SpacePoint) (a : SphereAnswer) → PassesSphere points a → IsSmallestPrinted (FitsBall points) ball_size (sphere_of a) a.size

-- a strip that passes is the thinnest around its points
abbrev pub PassingStripsAreBest : Type 0
PassingStripsAreBest = (points : List PlanePoint) (a : StripAnswer) → PassesStrip points a → IsSmallestPrinted (FitsStrip points) strip_size (strip_of a) a.size

-- a rectangle that passes has the least area around its points
abbrev pub PassingRectanglesAreBest : Type 0
PassingRectanglesAreBest = (points : List PlanePoint) (a : RectangleAnswer) → PassesRectangle points a → IsSmallestPrinted (FitsRectangle points) rectangle_size (rectangle_of a) a.size

-- a parallelogram that passes has the least area around its points
abbrev pub PassingParallelogramsAreBest : Type 0
PassingParallelogramsAreBest =
    (points : List PlanePoint) (a : ParallelogramAnswer) → PassesParallelogram points a → IsSmallestPrinted (FitsParallelogram points) parallelogram_size (parallelogram_of a) a.size

-- an annulus that passes has the least difference of squared radii around its points
abbrev pub PassingAnnuliAreBest : Type 0
PassingAnnuliAreBest = (points : List PlanePoint) (a : AnnulusAnswer) → PassesAnnulus points a → IsSmallestPrinted (FitsAnnulus points) annulus_size (annulus_of a) a.size

-- a shell that passes has the least difference of squared radii around its points
abbrev pub PassingShellsAreBest : Type 0
PassingShellsAreBest = (points : List SpacePoint) (a : ShellAnswer) → PassesShell points a → IsSmallestPrinted (FitsShell points) shell_size (shell_of a) a.size

-- an empty rectangle that passes has the greatest area in its frame
abbrev pub PassingEmptyRectanglesAreBest : Type 0
PassingEmptyRectanglesAreBest =
    (frame : Box) (points : List PlanePoint) (a : EmptyAnswer) → PassesEmpty frame points a → IsGreatestPrinted (FitsEmpty frame points) empty_size (empty_of a) a.size

-- a polygon that passes lists the hull's corners by their numbers, and has the greatest area of all with at most k of them
abbrev pub PassingKgonsAreBest : Type 0
PassingKgonsAreBest =
    (k : ℕ) (points : List PlanePoint) (a : KgonAnswer) → PassesKgon k points a
    → All (λ number. number < length points) a.corners
    × AreCorners points (corner_points points a)
    × IsGreatestPrinted (FitsKgon k (corner_points points a)) (kgon_size (corner_points points a)) a.chosen a.size

-- a distance that passes is the least between weighted means of the two sets
abbrev pub PassingDistancesAreBest : Type 0
PassingDistancesAreBest = (ps qs : List SpacePoint) (a : DistanceAnswer) → PassesDistance ps qs a → IsSmallestPrinted (FitsDistance ps qs) (distance_size ps qs) (weights_of ps qs a) a.size

-- centres that pass have the least radius of all covers by as many squares
abbrev pub PassingCentresAreBest : Type 0
PassingCentresAreBest = (count : ℕ) (points : List PlanePoint) (a : CentresAnswer) → PassesCentres count points a → IsSmallestPrinted (FitsCentres count points) centres_size (cover_of a) a.size

-- four centres that pass have the least radius of all covers by four squares
abbrev pub PassingFourAreBest : Type 0
PassingFourAreBest = (points : List PlanePoint) (a : CentresAnswer) → PassesFour points a → IsSmallestPrinted (FitsCentres 4 points) centres_size (cover_of a) a.size

-- a strip that passes is the first of the thinnest around its points
abbrev pub PassingStripsAreFirst : Type 0
PassingStripsAreFirst = (points : List PlanePoint) (a : StripAnswer) → PassesStrip points a → IsFirstStrip points (strip_of a)

-- a rectangle that passes is the first of those of least area around its points
abbrev pub PassingRectanglesAreFirst : Type 0
PassingRectanglesAreFirst = (points : List PlanePoint) (a : RectangleAnswer) → PassesRectangle points a → IsFirstRectangle points (rectangle_of a)

-- a polygon that passes, where three corners or more are allowed, is the first of those of greatest area
abbrev pub PassingKgonsAreFirst : Type 0
PassingKgonsAreFirst = (k : ℕ) (points : List PlanePoint) (a : KgonAnswer) → 3 ≤ k → PassesKgon k points a → IsFirstKgon k (corner_points points a) a.chosen

-- two strips that are both first are the same one
abbrev pub FirstStripsAreUnique : Type 0
FirstStripsAreUnique = (points : List PlanePoint) (a b : Strip) → IsFirstStrip points a → IsFirstStrip points b → a ≡ b

-- two rectangles that are both first are the same one
abbrev pub FirstRectanglesAreUnique : Type 0
FirstRectanglesAreUnique = (points : List PlanePoint) (a b : Rectangle) → IsFirstRectangle points a → IsFirstRectangle points b → a ≡ b

-- two lists of positions that are both first are the same one
abbrev pub FirstKgonsAreUnique : Type 0
FirstKgonsAreUnique = (k : ℕ) (corners : List PlanePoint) (a b : List ℕ) → IsFirstKgon k corners a → IsFirstKgon k corners b → a ≡ b

-- no two of the points are farther apart than the size says, and two of them are so far apart
pub record IsDiameter (points : List PlanePoint) (size : Fraction) : Type 0 where
  pub above : All (λ p. All (λ q. (squared_distance p q *ℤ size.d) ≤ℤ size.n) points) points
  pub reached : (p : PlanePoint) × (q : PlanePoint) × Contains points p × Contains points q × (size.n ≡ squared_distance p q *ℤ size.d)

-- no point is farther from a corner than the corner of this position
abbrev pub IsFurthestOfAll : List PlanePoint → List PlanePoint → ℕ → ℕ → Type 0
IsFurthestOfAll points corners i far = All (λ p. squared_distance (point_at corners i) p ≤ℤ squared_distance (point_at corners i) (point_at corners far)) points

-- the hull's corners, the first furthest corner of each, than which no point is farther, and the greatest squared distance of two points
pub record AreFurthest (points : List PlanePoint) (a : FurthestAnswer) : Type 0 where
  pub corners : AreCorners points (entry_points points a.entries)
  pub first : EachBelow (length a.entries) (λ i. IsFurthest (entry_points points a.entries) i (far_at a.entries i))
  pub of_all : EachBelow (length a.entries) (λ i. IsFurthestOfAll points (entry_points points a.entries) i (far_at a.entries i))
  pub diameter : IsDiameter points a.size

-- furthest corners that pass are the first ones of the hull's corners, with the diameter of the points
abbrev pub PassingAnswersAreFurthest : Type 0
PassingAnswersAreFurthest = (points : List PlanePoint) (a : FurthestAnswer) → PassesFurthest points a → AreFurthest points a

-- a corner of a hull has one first furthest corner
abbrev pub FurthestIsUnique : Type 0
FurthestIsUnique = (points corners : List PlanePoint) (i first second : ℕ) → AreCorners points corners → i < length corners → IsFurthest corners i first → IsFurthest corners i second → first ≡ second

-- of every kind: an answer that passes fits, and no object of its kind that fits the points is better
abbrev pub AllPassingAnswersAreBest : Type 0
AllPassingAnswersAreBest = (ask : Ask) (sets : Sets) (answer : Answer) → Passes ask sets answer → IsBest ask sets answer

-- of every kind that may be asked: where an order of objects is stated, an answer that passes is the first of the best ones
abbrev pub AllPassingAnswersAreFirst : Type 0
AllPassingAnswersAreFirst = (ask : Ask) (sets : Sets) (answer : Answer) → IsValid ask → Passes ask sets answer → IsFirstOfBest ask sets answer
