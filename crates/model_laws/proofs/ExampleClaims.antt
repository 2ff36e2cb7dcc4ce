-- Answers around points whose object fits and whose size is printed, and some that fail in one condition alone.
use Rattle.std.proofs.Common.{refl, pos}
use Rattle.bounds_model.specs.BallAnswer.{CircleAnswer, SphereAnswer}
use Rattle.bounds_model.specs.StripAnswer.{StripAnswer}
use Rattle.bounds_model.specs.RectangleAnswer.{RectangleAnswer}
use Rattle.bounds_model.specs.ParallelogramAnswer.{ParallelogramAnswer}
use Rattle.bounds_model.specs.AnnulusAnswer.{AnnulusAnswer}
use Rattle.bounds_model.specs.Asks.Ask.{ask_circle, ask_sphere, ask_rectangle, ask_parallelogram, ask_strip, ask_annulus}
use Rattle.bounds_model.specs.Asks.Sets.{plane, space}
use Rattle.bounds_model.specs.Answers.{Fits}
use Rattle.bounds_model.specs.Answers.Answer.{circle, sphere, rectangle, parallelogram, strip, annulus}
use Rattle.model_laws.proofs.Decisions.{Decision, by_test, by_one_failure}
use Rattle.model_laws.proofs.DecideClaims.{fits}
use Rattle.model_laws.proofs.ExampleBalls.{triangle, over_longest, tetrahedron, around_four}
use Rattle.model_laws.proofs.ExampleStrips
use Rattle.model_laws.proofs.ExampleRectangles
use Rattle.model_laws.proofs.ExampleParallelograms
use Rattle.model_laws.proofs.ExampleAnnuli
use Rattle.model_laws.proofs.Literals.{fraction, span}

-- an object that fits need not be best: each size is that of the object, in lowest terms

abbrev CircleFits : CircleAnswer → Type 0
CircleFits a = Fits ask_circle (plane triangle) (circle a)

abbrev circle_test : (a : CircleAnswer) → Decision (CircleFits a)
circle_test a = fits ask_circle (plane triangle) (circle a)

circle_fits : CircleFits over_longest
circle_fits = by_test (circle_test over_longest) refl

circle_unreduced : ¬ CircleFits (record over_longest { size = fraction 50 8 })
circle_unreduced = by_one_failure (circle_test (record over_longest { size = fraction 50 8 })) refl refl

circle_too_small : ¬ CircleFits (record over_longest { size = fraction 6 1 })
circle_too_small = by_one_failure (circle_test (record over_longest { size = fraction 6 1 })) refl refl

abbrev SphereFits : SphereAnswer → Type 0
SphereFits a = Fits ask_sphere (space tetrahedron) (sphere a)

abbrev sphere_test : (a : SphereAnswer) → Decision (SphereFits a)
sphere_test a = fits ask_sphere (space tetrahedron) (sphere a)

sphere_fits : SphereFits (around_four 1)
sphere_fits = by_test (sphere_test (around_four 1)) refl

sphere_unreduced : ¬ SphereFits (record (around_four 1) { size = fraction 6 8 })
sphere_unreduced = by_one_failure (sphere_test (record (around_four 1) { size = fraction 6 8 })) refl refl

sphere_too_small : ¬ SphereFits (record (around_four 1) { size = fraction 2 3 })
sphere_too_small = by_one_failure (sphere_test (record (around_four 1) { size = fraction 2 3 })) refl refl

abbrev StripFits : StripAnswer → Type 0
StripFits a = Fits ask_strip (plane triangle) (strip a)

abbrev strip_test : (a : StripAnswer) → Decision (StripFits a)
strip_test a = fits ask_strip (plane triangle) (strip a)

strip_fits : StripFits ExampleStrips.level
strip_fits = by_test (strip_test ExampleStrips.level) refl

strip_other_size : ¬ StripFits (record ExampleStrips.level { size = fraction 4 1 })
strip_other_size = by_one_failure (strip_test (record ExampleStrips.level { size = fraction 4 1 })) refl refl

strip_unreduced : ¬ StripFits (record ExampleStrips.level { size = fraction 18 2 })
strip_unreduced = by_one_failure (strip_test (record ExampleStrips.level { size = fraction 18 2 })) refl refl

strip_too_narrow : ¬ StripFits (record ExampleStrips.level { size = fraction 4 1; bounds = span (pos 0) (pos 2) })
strip_too_narrow = by_one_failure (strip_test (record ExampleStrips.level { size = fraction 4 1; bounds = span (pos 0) (pos 2) })) refl refl

abbrev RectangleFits : RectangleAnswer → Type 0
RectangleFits a = Fits ask_rectangle (plane ExampleRectangles.diamond) (rectangle a)

abbrev rectangle_test : (a : RectangleAnswer) → Decision (RectangleFits a)
rectangle_test a = fits ask_rectangle (plane ExampleRectangles.diamond) (rectangle a)

rectangle_fits : RectangleFits ExampleRectangles.slanted
rectangle_fits = by_test (rectangle_test ExampleRectangles.slanted) refl

rectangle_other_size : ¬ RectangleFits (record ExampleRectangles.slanted { size = fraction 1 1 })
rectangle_other_size = by_one_failure (rectangle_test (record ExampleRectangles.slanted { size = fraction 1 1 })) refl refl

rectangle_unreduced : ¬ RectangleFits (record ExampleRectangles.slanted { size = fraction 4 2 })
rectangle_unreduced = by_one_failure (rectangle_test (record ExampleRectangles.slanted { size = fraction 4 2 })) refl refl

rectangle_too_narrow : ¬ RectangleFits (record ExampleRectangles.slanted { size = fraction 1 1; along = span (pos 1) (pos 2) })
rectangle_too_narrow =
    by_one_failure (rectangle_test (record ExampleRectangles.slanted { size = fraction 1 1; along = span (pos 1) (pos 2) })) refl refl

abbrev ParallelogramFits : ParallelogramAnswer → Type 0
ParallelogramFits a = Fits ask_parallelogram (plane triangle) (parallelogram a)

abbrev parallelogram_test : (a : ParallelogramAnswer) → Decision (ParallelogramFits a)
parallelogram_test a = fits ask_parallelogram (plane triangle) (parallelogram a)

parallelogram_fits : ParallelogramFits ExampleParallelograms.axis_parallel
parallelogram_fits = by_test (parallelogram_test ExampleParallelograms.axis_parallel) refl

parallelogram_other_size : ¬ ParallelogramFits (record ExampleParallelograms.axis_parallel { size = fraction 11 1 })
parallelogram_other_size = by_one_failure (parallelogram_test (record ExampleParallelograms.axis_parallel { size = fraction 11 1 })) refl refl

parallelogram_unreduced : ¬ ParallelogramFits (record ExampleParallelograms.axis_parallel { size = fraction 24 2 })
parallelogram_unreduced = by_one_failure (parallelogram_test (record ExampleParallelograms.axis_parallel { size = fraction 24 2 })) refl refl

parallelogram_too_narrow : ¬ ParallelogramFits (record ExampleParallelograms.axis_parallel { size = fraction 9 1; first_bounds = span (pos 0) (pos 3) })
parallelogram_too_narrow =
    by_one_failure (parallelogram_test (record ExampleParallelograms.axis_parallel { size = fraction 9 1; first_bounds = span (pos 0) (pos 3) })) refl refl

abbrev AnnulusFits : AnnulusAnswer → Type 0
AnnulusFits a = Fits ask_annulus (plane ExampleAnnuli.four_points) (annulus a)

abbrev annulus_test : (a : AnnulusAnswer) → Decision (AnnulusFits a)
annulus_test a = fits ask_annulus (plane ExampleAnnuli.four_points) (annulus a)

annulus_fits : AnnulusFits ExampleAnnuli.best_annulus
annulus_fits = by_test (annulus_test ExampleAnnuli.best_annulus) refl

annulus_other_size : ¬ AnnulusFits (record ExampleAnnuli.best_annulus { size = fraction 1 1 })
annulus_other_size = by_one_failure (annulus_test (record ExampleAnnuli.best_annulus { size = fraction 1 1 })) refl refl

annulus_unreduced : ¬ AnnulusFits (record ExampleAnnuli.best_annulus { size = fraction 12 10 })
annulus_unreduced = by_one_failure (annulus_test (record ExampleAnnuli.best_annulus { size = fraction 12 10 })) refl refl

annulus_too_narrow : ¬ AnnulusFits (record ExampleAnnuli.best_annulus { size = fraction 1 1; outer = fraction 159 50 })
annulus_too_narrow = by_one_failure (annulus_test (record ExampleAnnuli.best_annulus { size = fraction 1 1; outer = fraction 159 50 })) refl refl
