-- Rectangles that pass, and spoilt ones that do not.
use Rattle.std.proofs.Common.{refl, pos, List, [], ◌∷◌}
use Rattle.bounds_model.specs.Plane.{PlanePoint}
use Rattle.bounds_model.specs.RectangleAnswer.{RectangleAnswer}
use Rattle.bounds_model.specs.Asks.Ask.{ask_rectangle}
use Rattle.bounds_model.specs.Asks.Sets.{plane}
use Rattle.bounds_model.specs.Answers.{Passes}
use Rattle.bounds_model.specs.Answers.Answer.{rectangle}
use Rattle.model_laws.proofs.Decisions.{by_test, by_failed_test, by_one_failure}
use Rattle.model_laws.proofs.DecideAnswers.{passes}
use Rattle.model_laws.proofs.Literals.{minus, at, fraction, span, quarter_cone}

-- a square that stands on a corner
abbrev pub diamond : List PlanePoint
diamond = at 0 1 ∷ at 1 0 ∷ at 2 1 ∷ at 1 2 ∷ []

abbrev pub slanted : RectangleAnswer
slanted = record {
  size = fraction 2 1;
  direction = at 1 1;
  along = span (pos 1) (pos 3);
  across = span (minus 1) (pos 1);
  fan = record { cones = quarter_cone 1 0 2 0 3 1 ∷ quarter_cone 1 1 3 1 0 2 ∷ []; last = at 0 1 };
}

slanted_passes : Passes ask_rectangle (plane diamond) (rectangle slanted)
slanted_passes = by_test (passes ask_rectangle (plane diamond) (rectangle slanted)) refl

-- a point that is not the highest
abbrev not_highest : RectangleAnswer
not_highest = record slanted { fan = record { cones = quarter_cone 1 0 3 0 3 1 ∷ quarter_cone 1 1 3 1 0 2 ∷ []; last = at 0 1 } }

not_highest_fails : ¬ Passes ask_rectangle (plane diamond) (rectangle not_highest)
not_highest_fails = by_failed_test (passes ask_rectangle (plane diamond) (rectangle not_highest)) refl

-- the axis-parallel rectangle, whose area is 4, with a fan of the two directions along the axes alone
abbrev axis_parallel : RectangleAnswer
axis_parallel = record {
  size = fraction 4 1;
  direction = at 1 0;
  along = span (pos 0) (pos 2);
  across = span (pos 0) (pos 2);
  fan = record { cones = quarter_cone 1 0 2 0 3 1 ∷ []; last = at 0 1 };
}

axis_parallel_fails : ¬ Passes ask_rectangle (plane diamond) (rectangle axis_parallel)
axis_parallel_fails = by_failed_test (passes ask_rectangle (plane diamond) (rectangle axis_parallel)) refl

-- the axis-parallel rectangle with the whole fan
abbrev axis_parallel_with_fan : RectangleAnswer
axis_parallel_with_fan = record axis_parallel { fan = slanted.fan }

axis_parallel_with_fan_fails : ¬ Passes ask_rectangle (plane diamond) (rectangle axis_parallel_with_fan)
axis_parallel_with_fan_fails = by_one_failure (passes ask_rectangle (plane diamond) (rectangle axis_parallel_with_fan)) refl refl

-- the two bounds exchanged
abbrev exchanged : RectangleAnswer
exchanged = record slanted { along = span (minus 1) (pos 1); across = span (pos 1) (pos 3) }

exchanged_fails : ¬ Passes ask_rectangle (plane diamond) (rectangle exchanged)
exchanged_fails = by_failed_test (passes ask_rectangle (plane diamond) (rectangle exchanged)) refl

-- three points on a line
abbrev flat_one : RectangleAnswer
flat_one = record {
  size = fraction 0 1;
  direction = at 2 1;
  along = span (pos 0) (pos 10);
  across = span (pos 0) (pos 0);
  fan = record { cones = quarter_cone 1 0 2 0 2 0 ∷ quarter_cone 2 1 2 0 0 2 ∷ []; last = at 0 1 };
}

flat_one_passes : Passes ask_rectangle (plane (at 0 0 ∷ at 2 1 ∷ at 4 2 ∷ [])) (rectangle flat_one)
flat_one_passes = by_test (passes ask_rectangle (plane (at 0 0 ∷ at 2 1 ∷ at 4 2 ∷ [])) (rectangle flat_one)) refl
