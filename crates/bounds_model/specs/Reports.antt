-- Answers at the scale of a point file: the size in whole units, when a report fits the true points, when it is best, and when it passes.
-- The true points are those of the file over its scale; an object of them fits where the object grown by the scale fits the points of the file.
use Rattle.std.specs.Prelude.{◌≡◌, ℕ, ◌*◌, ◌^◌, ◌<◌, ◌≤◌, length, All}
use Rattle.std.specs.Option.{IsSomeAnd}
use Rattle.bounds_model.specs.Numbers.{EachBelow}
use Rattle.bounds_model.specs.Fractions.{Fraction, lowest_form, over}
use Rattle.bounds_model.specs.Best.{IsSmallest, IsGreatest, IsPrintedSize}
use Rattle.bounds_model.specs.Asks.{Ask, PointFile, scale_limit}
use Rattle.bounds_model.specs.Ranges.{IsFraction}
use Rattle.bounds_model.specs.Scaled.{grown_ball, grown_rectangle, grown_parallelogram, grown_strip, grown_annulus, grown_empty, grown_cover, grown_shell}
use Rattle.bounds_model.specs.Scaled.{SameBall, SameRectangle, SameParallelogram, SameStrip, SameAnnulus, SameEmpty, SameCover, SameShell}
use Rattle.bounds_model.specs.Hull.{AreCorners}
use Rattle.bounds_model.specs.Ball.{FitsCircle, FitsBall, ball_size}
use Rattle.bounds_model.specs.Rectangle.{FitsRectangle, rectangle_size}
use Rattle.bounds_model.specs.Parallelogram.{FitsParallelogram, parallelogram_size}
use Rattle.bounds_model.specs.Strip.{FitsStrip, strip_size}
use Rattle.bounds_model.specs.Annulus.{FitsAnnulus, annulus_size}
use Rattle.bounds_model.specs.EmptyRectangle.{FitsEmpty, empty_size}
use Rattle.bounds_model.specs.Kgon.{FitsKgon, kgon_size}
use Rattle.bounds_model.specs.Distance.{FitsDistance, distance_size}
use Rattle.bounds_model.specs.Centres.{FitsCentres, centres_size}
use Rattle.bounds_model.specs.Furthest.{IsFurthest}
use Rattle.bounds_model.specs.Shell.{FitsShell, shell_size}
use Rattle.bounds_model.specs.BallAnswer.{circle_of, sphere_of}
use Rattle.bounds_model.specs.RectangleAnswer.{rectangle_of}
use Rattle.bounds_model.specs.ParallelogramAnswer.{parallelogram_of}
use Rattle.bounds_model.specs.StripAnswer.{strip_of}
use Rattle.bounds_model.specs.AnnulusAnswer.{annulus_of}
use Rattle.bounds_model.specs.EmptyAnswer.{empty_of}
use Rattle.bounds_model.specs.KgonAnswer.{corner_points}
use Rattle.bounds_model.specs.DistanceAnswer.{weights_of}
use Rattle.bounds_model.specs.CentresAnswer.{cover_of}
use Rattle.bounds_model.specs.FurthestAnswer.{corner_numbers, entry_points, far_at, furthest_size}
use Rattle.bounds_model.specs.ShellAnswer.{shell_of}
use Rattle.bounds_model.specs.Answers.{Answer, centres, four, size_of, KeepsRanges, Passes, claim}
use Rattle.bounds_model.specs.Answers.{Claim, circle_claim, sphere_claim, rectangle_claim, parallelogram_claim, strip_claim, annulus_claim, empty_claim, kgon_claim, distance_claim, centres_claim, furthest_claim, four_claim, shell_claim}

-- an answer in units of a file, of which so many make a whole one
pub record Report : Type 0 where
  pub scale : ℕ
  pub answer : Answer

-- ---- the size in whole units

-- of which power of a length the size is: the radius of squares is a length, areas and squared lengths are second powers
abbrev pub power : Answer → ℕ
power (centres a) = 1
power (four a) = 1
power answer = 2

-- how many units of the size make a whole one
abbrev pub size_units : Report → ℕ
size_units r = r.scale ^ power r.answer

-- the size in whole units, in lowest terms
abbrev pub full_size : Report → Fraction
full_size r = lowest_form (over (size_units r) (size_of r.answer))

-- the scale, the answer and the size in whole units are in their ranges
pub record ReportRanges (r : Report) : Type 0 where
  pub scale_from : 1 ≤ r.scale
  pub scale_to : r.scale ≤ scale_limit
  pub answer : KeepsRanges r.answer
  pub size : IsFraction (full_size r)

-- ---- fits and best at a scale

-- an object of the true points that an answer's object names: it is that object once it is grown, it fits, and the fraction is its size in lowest terms
pub record IsNamed {Object : Type 0} (Fits : Object → Type 0) (Same : Object → Object → Type 0) (size : Object → Fraction) (grown : Object → Object) (object : Object) (full : Fraction) (true_object : Object) : Type 0 where
  pub same : Same (grown true_object) object
  pub fits : Fits (grown true_object)
  pub printed : IsPrintedSize (size true_object) full

-- the answer's object names one of the true points that fits and has this size
abbrev pub FitsGrown : {Object : Type 0} → (Object → Type 0) → (Object → Object → Type 0) → (Object → Fraction) → (Object → Object) → Object → Fraction → Type 0
FitsGrown {Object} Fits Same size grown object printed = (true_object : Object) × IsNamed Fits Same size grown object printed true_object

-- the answer's object names one of the true points that has the least size of all that fit
abbrev pub IsSmallestGrown : {Object : Type 0} → (Object → Type 0) → (Object → Object → Type 0) → (Object → Fraction) → (Object → Object) → Object → Type 0
IsSmallestGrown {Object} Fits Same size grown object = (true_object : Object) × Same (grown true_object) object × IsSmallest (λ o. Fits (grown o)) size true_object

-- the answer's object names one of the true points that has the greatest size of all that fit
abbrev pub IsGreatestGrown : {Object : Type 0} → (Object → Type 0) → (Object → Object → Type 0) → (Object → Fraction) → (Object → Object) → Object → Type 0
IsGreatestGrown {Object} Fits Same size grown object = (true_object : Object) × Same (grown true_object) object × IsGreatest (λ o. Fits (grown o)) size true_object

-- the object of a claim fits at this scale, and the fraction is its size; positions of corners and weights stay as they are, and their sizes are over the units
abbrev pub ClaimFitsAt : ℕ → Fraction → Claim → Type 0
ClaimFitsAt scale size (circle_claim points a) = FitsGrown (FitsCircle points) SameBall ball_size (grown_ball scale) (circle_of a) size
ClaimFitsAt scale size (sphere_claim points a) = FitsGrown (FitsBall points) SameBall ball_size (grown_ball scale) (sphere_of a) size
ClaimFitsAt scale size (rectangle_claim points a) = FitsGrown (FitsRectangle points) SameRectangle rectangle_size (grown_rectangle scale) (rectangle_of a) size
ClaimFitsAt scale size (parallelogram_claim points a) = FitsGrown (FitsParallelogram points) SameParallelogram parallelogram_size (grown_parallelogram scale) (parallelogram_of a) size
ClaimFitsAt scale size (strip_claim points a) = FitsGrown (FitsStrip points) SameStrip strip_size (grown_strip scale) (strip_of a) size
ClaimFitsAt scale size (annulus_claim points a) = FitsGrown (FitsAnnulus points) SameAnnulus annulus_size (grown_annulus scale) (annulus_of a) size
ClaimFitsAt scale size (empty_claim frame points a) = FitsGrown (FitsEmpty frame points) SameEmpty empty_size (grown_empty scale) (empty_of a) size
ClaimFitsAt scale size (kgon_claim k points a) =
    All (λ number. number < length points) a.corners × AreCorners points (corner_points points a) × FitsKgon k (corner_points points a) a.chosen
    × IsPrintedSize (over (scale * scale) (kgon_size (corner_points points a) a.chosen)) size
ClaimFitsAt scale size (distance_claim ps qs a) = FitsDistance ps qs (weights_of ps qs a) × IsPrintedSize (over (scale * scale) (distance_size ps qs (weights_of ps qs a))) size
ClaimFitsAt scale size (centres_claim count points a) = FitsGrown (FitsCentres count points) SameCover centres_size (grown_cover scale) (cover_of a) size
ClaimFitsAt scale size (furthest_claim points a) =
    All (λ number. number < length points) (corner_numbers a.entries) × AreCorners points (entry_points points a.entries)
    × IsPrintedSize (over (scale * scale) (furthest_size points a.entries)) size
ClaimFitsAt scale size (four_claim points a) = FitsGrown (FitsCentres 4 points) SameCover centres_size (grown_cover scale) (cover_of a) size
ClaimFitsAt scale size (shell_claim points a) = FitsGrown (FitsShell points) SameShell shell_size (grown_shell scale) (shell_of a) size

-- no object of the kind that fits at this scale is better
abbrev pub ClaimIsBestAt : ℕ → Claim → Type 0
ClaimIsBestAt scale (circle_claim points a) = IsSmallestGrown (FitsCircle points) SameBall ball_size (grown_ball scale) (circle_of a)
ClaimIsBestAt scale (sphere_claim points a) = IsSmallestGrown (FitsBall points) SameBall ball_size (grown_ball scale) (sphere_of a)
ClaimIsBestAt scale (rectangle_claim points a) = IsSmallestGrown (FitsRectangle points) SameRectangle rectangle_size (grown_rectangle scale) (rectangle_of a)
ClaimIsBestAt scale (parallelogram_claim points a) = IsSmallestGrown (FitsParallelogram points) SameParallelogram parallelogram_size (grown_parallelogram scale) (parallelogram_of a)
ClaimIsBestAt scale (strip_claim points a) = IsSmallestGrown (FitsStrip points) SameStrip strip_size (grown_strip scale) (strip_of a)
ClaimIsBestAt scale (annulus_claim points a) = IsSmallestGrown (FitsAnnulus points) SameAnnulus annulus_size (grown_annulus scale) (annulus_of a)
ClaimIsBestAt scale (empty_claim frame points a) = IsGreatestGrown (FitsEmpty frame points) SameEmpty empty_size (grown_empty scale) (empty_of a)
ClaimIsBestAt scale (kgon_claim k points a) = IsGreatest (FitsKgon k (corner_points points a)) (λ positions. over (scale * scale) (kgon_size (corner_points points a) positions)) a.chosen
ClaimIsBestAt scale (distance_claim ps qs a) = IsSmallest (FitsDistance ps qs) (λ weights. over (scale * scale) (distance_size ps qs weights)) (weights_of ps qs a)
ClaimIsBestAt scale (centres_claim count points a) = IsSmallestGrown (FitsCentres count points) SameCover centres_size (grown_cover scale) (cover_of a)
ClaimIsBestAt scale (furthest_claim points a) = EachBelow (length a.entries) (λ i. IsFurthest (entry_points points a.entries) i (far_at a.entries i))
ClaimIsBestAt scale (four_claim points a) = IsSmallestGrown (FitsCentres 4 points) SameCover centres_size (grown_cover scale) (cover_of a)
ClaimIsBestAt scale (shell_claim points a) = IsSmallestGrown (FitsShell points) SameShell shell_size (grown_shell scale) (shell_of a)

-- the report is at the file's scale, its answer is of the kind that is asked, its object fits, and its full size is that object's size in lowest terms
pub record FitsAt (ask : Ask) (file : PointFile) (r : Report) : Type 0 where
  pub scale : r.scale ≡ file.scale
  pub fits : IsSomeAnd (claim ask file.sets r.answer) (ClaimFitsAt file.scale (full_size r))

-- the report fits, and no object of the kind that fits at the file's scale is better
pub record IsBestAt (ask : Ask) (file : PointFile) (r : Report) : Type 0 where
  pub fits : FitsAt ask file r
  pub best : IsSomeAnd (claim ask file.sets r.answer) (ClaimIsBestAt file.scale)

-- the fraction is the size of a best report, in lowest terms
pub record IsOptimumAt (ask : Ask) (file : PointFile) (size : Fraction) : Type 0 where
  pub report : Report
  pub best : IsBestAt ask file report
  pub printed : full_size report ≡ size

-- what a checker asks of a report: the scale is that of the file and in its range, and the answer passes for the file's points
pub record PassesAt (ask : Ask) (file : PointFile) (r : Report) : Type 0 where
  pub scale_from : 1 ≤ file.scale
  pub scale_to : file.scale ≤ scale_limit
  pub scale : r.scale ≡ file.scale
  pub passes : Passes ask file.sets r.answer
