-- The kinds of questions with their answers: when an answer fits, when it is best, the first of the best, and when it passes.
use Rattle.std.specs.Prelude.{◌≡◌, ⊤, ℕ, ◌<◌, List, [], length, All}
use Rattle.std.specs.declared.option.Option.{Option}
use Rattle.std.specs.declared.option.Option.TheVariants.{Some, None}
use Rattle.std.specs.Option.{IsSomeAnd}
use Rattle.bounds_model.specs.Plane.{PlanePoint}
use Rattle.bounds_model.specs.Space.{SpacePoint}
use Rattle.bounds_model.specs.Fractions.{Fraction}
use Rattle.bounds_model.specs.Asks.{Ask, Sets}
use Rattle.bounds_model.specs.Asks.Ask.{ask_circle, ask_sphere, ask_rectangle, ask_parallelogram, ask_strip, ask_annulus, ask_empty, ask_kgon, ask_distance, ask_centres, ask_furthest, ask_four, ask_shell}
use Rattle.bounds_model.specs.Asks.Sets.{plane, space, two, bare}
use Rattle.bounds_model.specs.Best.{IsSmallest, IsGreatest, IsPrintedSize}
use Rattle.bounds_model.specs.Numbers.{EachBelow}
use Rattle.bounds_model.specs.Hull.{AreCorners}
use Rattle.bounds_model.specs.Ball.{FitsCircle, FitsBall, ball_size}
use Rattle.bounds_model.specs.Rectangle.{FitsRectangle, rectangle_size}
use Rattle.bounds_model.specs.Parallelogram.{FitsParallelogram, parallelogram_size}
use Rattle.bounds_model.specs.Strip.{FitsStrip, strip_size}
use Rattle.bounds_model.specs.Annulus.{FitsAnnulus, annulus_size}
use Rattle.bounds_model.specs.EmptyRectangle.{Box, FitsEmpty, empty_size}
use Rattle.bounds_model.specs.Kgon.{FitsKgon, kgon_size}
use Rattle.bounds_model.specs.Distance.{FitsDistance, distance_size}
use Rattle.bounds_model.specs.Centres.{FitsCentres, centres_size}
use Rattle.bounds_model.specs.Furthest.{IsFurthest}
use Rattle.bounds_model.specs.Shell.{FitsShell, shell_size}
use Rattle.bounds_model.specs.Firsts.{IsFirstStrip, IsFirstRectangle, IsFirstKgon}
use Rattle.bounds_model.specs.BallAnswer.{CircleAnswer, SphereAnswer, CircleRanges, SphereRanges, circle_of, sphere_of, PassesCircle, PassesSphere}
use Rattle.bounds_model.specs.RectangleAnswer.{RectangleAnswer, RectangleRanges, rectangle_of, PassesRectangle}
use Rattle.bounds_model.specs.ParallelogramAnswer.{ParallelogramAnswer, ParallelogramRanges, parallelogram_of, PassesParallelogram}
use Rattle.bounds_model.specs.StripAnswer.{StripAnswer, StripRanges, strip_of, PassesStrip}
use Rattle.bounds_model.specs.AnnulusAnswer.{AnnulusAnswer, AnnulusRanges, annulus_of, PassesAnnulus}
use Rattle.bounds_model.specs.EmptyAnswer.{EmptyAnswer, EmptyRanges, empty_of, PassesEmpty}
use Rattle.bounds_model.specs.KgonAnswer.{KgonAnswer, KgonRanges, corner_points, PassesKgon}
use Rattle.bounds_model.specs.DistanceAnswer.{DistanceAnswer, DistanceRanges, weights_of, PassesDistance}
use Rattle.bounds_model.specs.CentresAnswer.{CentresAnswer, CentresRanges, cover_of, PassesCentres}
use Rattle.bounds_model.specs.FurthestAnswer.{FurthestAnswer, FurthestRanges, corner_numbers, entry_points, far_at, furthest_size, PassesFurthest}
use Rattle.bounds_model.specs.FourAnswer.{FourRanges, PassesFour}
use Rattle.bounds_model.specs.ShellAnswer.{ShellAnswer, ShellRanges, shell_of, PassesShell}

-- an answer of each kind
pub data Answer : Type 0 where
  circle : CircleAnswer → Answer
  sphere : SphereAnswer → Answer
  rectangle : RectangleAnswer → Answer
  parallelogram : ParallelogramAnswer → Answer
  strip : StripAnswer → Answer
  annulus : AnnulusAnswer → Answer
  empty : EmptyAnswer → Answer
  kgon : KgonAnswer → Answer
  distance : DistanceAnswer → Answer
  centres : CentresAnswer → Answer
  furthest : FurthestAnswer → Answer
  four : CentresAnswer → Answer
  shell : ShellAnswer → Answer

-- the size that an answer prints
abbrev pub size_of : Answer → Fraction
size_of (circle a) = a.size
size_of (sphere a) = a.size
size_of (rectangle a) = a.size
size_of (parallelogram a) = a.size
size_of (strip a) = a.size
size_of (annulus a) = a.size
size_of (empty a) = a.size
size_of (kgon a) = a.size
size_of (distance a) = a.size
size_of (centres a) = a.size
size_of (furthest a) = a.size
size_of (four a) = a.size
size_of (shell a) = a.size

-- all numbers of an answer are in their ranges
abbrev pub KeepsRanges : Answer → Type 0
KeepsRanges (circle a) = CircleRanges a
KeepsRanges (sphere a) = SphereRanges a
KeepsRanges (rectangle a) = RectangleRanges a
KeepsRanges (parallelogram a) = ParallelogramRanges a
KeepsRanges (strip a) = StripRanges a
KeepsRanges (annulus a) = AnnulusRanges a
KeepsRanges (empty a) = EmptyRanges a
KeepsRanges (kgon a) = KgonRanges a
KeepsRanges (distance a) = DistanceRanges a
KeepsRanges (centres a) = CentresRanges a
KeepsRanges (furthest a) = FurthestRanges a
KeepsRanges (four a) = FourRanges a
KeepsRanges (shell a) = ShellRanges a

-- points and an answer of the kind that is asked
pub data Claim : Type 0 where
  circle_claim : List PlanePoint → CircleAnswer → Claim
  sphere_claim : List SpacePoint → SphereAnswer → Claim
  rectangle_claim : List PlanePoint → RectangleAnswer → Claim
  parallelogram_claim : List PlanePoint → ParallelogramAnswer → Claim
  strip_claim : List PlanePoint → StripAnswer → Claim
  annulus_claim : List PlanePoint → AnnulusAnswer → Claim
  empty_claim : Box → List PlanePoint → EmptyAnswer → Claim
  kgon_claim : ℕ → List PlanePoint → KgonAnswer → Claim
  distance_claim : List SpacePoint → List SpacePoint → DistanceAnswer → Claim
  centres_claim : ℕ → List PlanePoint → CentresAnswer → Claim
  furthest_claim : List PlanePoint → FurthestAnswer → Claim
  four_claim : List PlanePoint → CentresAnswer → Claim
  shell_claim : List SpacePoint → ShellAnswer → Claim

-- the claim that an answer makes, where the points and the answer are of the kind that is asked
abbrev pub claim : Ask → Sets → Answer → Option Claim
claim ask_circle (plane points) (circle a) = Some (circle_claim points a)
claim ask_sphere (space points) (sphere a) = Some (sphere_claim points a)
claim ask_rectangle (plane points) (rectangle a) = Some (rectangle_claim points a)
claim ask_parallelogram (plane points) (parallelogram a) = Some (parallelogram_claim points a)
claim ask_strip (plane points) (strip a) = Some (strip_claim points a)
claim ask_annulus (plane points) (annulus a) = Some (annulus_claim points a)
claim (ask_empty frame) (plane points) (empty a) = Some (empty_claim frame points a)
claim (ask_empty frame) bare (empty a) = Some (empty_claim frame [] a)
claim (ask_kgon k) (plane points) (kgon a) = Some (kgon_claim k points a)
claim ask_distance (two ps qs) (distance a) = Some (distance_claim ps qs a)
claim (ask_centres count) (plane points) (centres a) = Some (centres_claim count points a)
claim ask_furthest (plane points) (furthest a) = Some (furthest_claim points a)
claim ask_four (plane points) (four a) = Some (four_claim points a)
claim ask_shell (space points) (shell a) = Some (shell_claim points a)
claim ask sets answer = None

-- the object fits the points, and the answer prints its size
abbrev pub ClaimFits : Claim → Type 0
ClaimFits (circle_claim points a) = FitsCircle points (circle_of a) × IsPrintedSize (ball_size (circle_of a)) a.size
ClaimFits (sphere_claim points a) = FitsBall points (sphere_of a) × IsPrintedSize (ball_size (sphere_of a)) a.size
ClaimFits (rectangle_claim points a) = FitsRectangle points (rectangle_of a) × IsPrintedSize (rectangle_size (rectangle_of a)) a.size
ClaimFits (parallelogram_claim points a) = FitsParallelogram points (parallelogram_of a) × IsPrintedSize (parallelogram_size (parallelogram_of a)) a.size
ClaimFits (strip_claim points a) = FitsStrip points (strip_of a) × IsPrintedSize (strip_size (strip_of a)) a.size
ClaimFits (annulus_claim points a) = FitsAnnulus points (annulus_of a) × IsPrintedSize (annulus_size (annulus_of a)) a.size
ClaimFits (empty_claim frame points a) = FitsEmpty frame points (empty_of a) × IsPrintedSize (empty_size (empty_of a)) a.size
ClaimFits (kgon_claim k points a) = All (λ number. number < length points) a.corners × AreCorners points (corner_points points a) × FitsKgon k (corner_points points a) a.chosen × IsPrintedSize (kgon_size (corner_points points a) a.chosen) a.size
ClaimFits (distance_claim ps qs a) = FitsDistance ps qs (weights_of ps qs a) × IsPrintedSize (distance_size ps qs (weights_of ps qs a)) a.size
ClaimFits (centres_claim count points a) = FitsCentres count points (cover_of a) × IsPrintedSize (centres_size (cover_of a)) a.size
ClaimFits (furthest_claim points a) = All (λ number. number < length points) (corner_numbers a.entries) × AreCorners points (entry_points points a.entries) × IsPrintedSize (furthest_size points a.entries) a.size
ClaimFits (four_claim points a) = FitsCentres 4 points (cover_of a) × IsPrintedSize (centres_size (cover_of a)) a.size
ClaimFits (shell_claim points a) = FitsShell points (shell_of a) × IsPrintedSize (shell_size (shell_of a)) a.size

-- no object that fits the points is better; of furthest corners, each is the first of those that are furthest
abbrev pub ClaimIsBest : Claim → Type 0
ClaimIsBest (circle_claim points a) = IsSmallest (FitsCircle points) ball_size (circle_of a)
ClaimIsBest (sphere_claim points a) = IsSmallest (FitsBall points) ball_size (sphere_of a)
ClaimIsBest (rectangle_claim points a) = IsSmallest (FitsRectangle points) rectangle_size (rectangle_of a)
ClaimIsBest (parallelogram_claim points a) = IsSmallest (FitsParallelogram points) parallelogram_size (parallelogram_of a)
ClaimIsBest (strip_claim points a) = IsSmallest (FitsStrip points) strip_size (strip_of a)
ClaimIsBest (annulus_claim points a) = IsSmallest (FitsAnnulus points) annulus_size (annulus_of a)
ClaimIsBest (empty_claim frame points a) = IsGreatest (FitsEmpty frame points) empty_size (empty_of a)
ClaimIsBest (kgon_claim k points a) = IsGreatest (FitsKgon k (corner_points points a)) (kgon_size (corner_points points a)) a.chosen
ClaimIsBest (distance_claim ps qs a) = IsSmallest (FitsDistance ps qs) (distance_size ps qs) (weights_of ps qs a)
ClaimIsBest (centres_claim count points a) = IsSmallest (FitsCentres count points) centres_size (cover_of a)
ClaimIsBest (furthest_claim points a) = EachBelow (length a.entries) (λ i. IsFurthest (entry_points points a.entries) i (far_at a.entries i))
ClaimIsBest (four_claim points a) = IsSmallest (FitsCentres 4 points) centres_size (cover_of a)
ClaimIsBest (shell_claim points a) = IsSmallest (FitsShell points) shell_size (shell_of a)

-- of all best strips, rectangles and polygons the object is the first; of other kinds nothing is asked
abbrev pub ClaimIsFirst : Claim → Type 0
ClaimIsFirst (rectangle_claim points a) = IsFirstRectangle points (rectangle_of a)
ClaimIsFirst (strip_claim points a) = IsFirstStrip points (strip_of a)
ClaimIsFirst (kgon_claim k points a) = IsFirstKgon k (corner_points points a) a.chosen
ClaimIsFirst claim = ⊤

-- what a checker asks of the claim
abbrev pub ClaimPasses : Claim → Type 0
ClaimPasses (circle_claim points a) = PassesCircle points a
ClaimPasses (sphere_claim points a) = PassesSphere points a
ClaimPasses (rectangle_claim points a) = PassesRectangle points a
ClaimPasses (parallelogram_claim points a) = PassesParallelogram points a
ClaimPasses (strip_claim points a) = PassesStrip points a
ClaimPasses (annulus_claim points a) = PassesAnnulus points a
ClaimPasses (empty_claim frame points a) = PassesEmpty frame points a
ClaimPasses (kgon_claim k points a) = PassesKgon k points a
ClaimPasses (distance_claim ps qs a) = PassesDistance ps qs a
ClaimPasses (centres_claim count points a) = PassesCentres count points a
ClaimPasses (furthest_claim points a) = PassesFurthest points a
ClaimPasses (four_claim points a) = PassesFour points a
ClaimPasses (shell_claim points a) = PassesShell points a

-- the answer is of the kind that is asked, its object fits the points, and its size is that object's size in lowest terms
abbrev pub Fits : Ask → Sets → Answer → Type 0
Fits ask sets answer = IsSomeAnd (claim ask sets answer) ClaimFits

-- the answer fits, and no object of the kind that fits the points is better
pub record IsBest (ask : Ask) (sets : Sets) (answer : Answer) : Type 0 where
  pub fits : Fits ask sets answer
  pub best : IsSomeAnd (claim ask sets answer) ClaimIsBest

-- the answer is of the kind that is asked, and its object is the first of the best ones, where an order is stated
abbrev pub IsFirstOfBest : Ask → Sets → Answer → Type 0
IsFirstOfBest ask sets answer = IsSomeAnd (claim ask sets answer) ClaimIsFirst

-- the answer is of the kind that is asked, and meets what a checker asks
abbrev pub Passes : Ask → Sets → Answer → Type 0
Passes ask sets answer = IsSomeAnd (claim ask sets answer) ClaimPasses

-- the fraction is the size of a best answer, in lowest terms
pub record IsOptimum (ask : Ask) (sets : Sets) (size : Fraction) : Type 0 where
  pub answer : Answer
  pub best : IsBest ask sets answer
  pub printed : size_of answer ≡ size
