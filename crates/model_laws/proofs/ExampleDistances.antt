-- Distances that pass, and spoilt ones that do not.
use Rattle.std.proofs.Common.{refl, List, [], ◌∷◌}
use Rattle.bounds_model.specs.Space.{SpacePoint}
use Rattle.bounds_model.specs.AnnulusAnswer.{WeightedPair}
use Rattle.bounds_model.specs.DistanceAnswer.{DistanceAnswer}
use Rattle.bounds_model.specs.Asks.Ask.{ask_distance}
use Rattle.bounds_model.specs.Asks.Sets.{two}
use Rattle.bounds_model.specs.Answers.{Passes}
use Rattle.bounds_model.specs.Answers.Answer.{distance}
use Rattle.model_laws.proofs.Decisions.{by_test, by_failed_test, by_one_failure}
use Rattle.model_laws.proofs.DecideAnswers.{passes}
use Rattle.model_laws.proofs.Literals.{minus, in_space, space_over, fraction, pair}

-- ---- a point and a triangle

abbrev pub corner : List SpacePoint
corner = in_space 0 0 0 ∷ []

abbrev pub facing : List SpacePoint
facing = in_space 3 0 0 ∷ in_space 0 3 0 ∷ in_space 0 0 3 ∷ []

abbrev pub to_middle : DistanceAnswer
to_middle = record {
  size = fraction 3 1;
  from = space_over 0 0 0 1;
  to = space_over 1 1 1 1;
  direction = record { x = minus 1; y = minus 1; z = minus 1 };
  pairs = pair 0 0 1 ∷ pair 0 1 1 ∷ pair 0 2 1 ∷ [];
}

to_middle_passes : Passes ask_distance (two corner facing) (distance to_middle)
to_middle_passes = by_test (passes ask_distance (two corner facing) (distance to_middle)) refl

-- the direction turned round, not in lowest terms, or 0
abbrev in_direction : SpacePoint → DistanceAnswer
in_direction direction = record to_middle { direction = direction }

turned_fails : ¬ Passes ask_distance (two corner facing) (distance (in_direction (in_space 1 1 1)))
turned_fails = by_one_failure (passes ask_distance (two corner facing) (distance (in_direction (in_space 1 1 1)))) refl refl

unreduced_fails : ¬ Passes ask_distance (two corner facing) (distance (in_direction (record { x = minus 2; y = minus 2; z = minus 2 })))
unreduced_fails =
    by_one_failure (passes ask_distance (two corner facing) (distance (in_direction (record { x = minus 2; y = minus 2; z = minus 2 })))) refl refl

no_direction_fails : ¬ Passes ask_distance (two corner facing) (distance (in_direction (in_space 0 0 0)))
no_direction_fails = by_one_failure (passes ask_distance (two corner facing) (distance (in_direction (in_space 0 0 0)))) refl refl

-- other weights
abbrev lopsided : DistanceAnswer
lopsided = record to_middle { pairs = pair 0 0 2 ∷ pair 0 1 1 ∷ pair 0 2 1 ∷ [] }

lopsided_fails : ¬ Passes ask_distance (two corner facing) (distance lopsided)
lopsided_fails = by_failed_test (passes ask_distance (two corner facing) (distance lopsided)) refl

-- the distance to one of the three, which is not the least
abbrev to_first : DistanceAnswer
to_first = record {
  size = fraction 9 1;
  from = space_over 0 0 0 1;
  to = space_over 3 0 0 1;
  direction = record { x = minus 1; y = minus 0; z = minus 0 };
  pairs = pair 0 0 1 ∷ [];
}

to_first_fails : ¬ Passes ask_distance (two corner facing) (distance to_first)
to_first_fails = by_one_failure (passes ask_distance (two corner facing) (distance to_first)) refl refl

-- a distance of 0, where the hulls do not meet
abbrev nothing : DistanceAnswer
nothing = record to_first { size = fraction 0 1; to = space_over 0 0 0 1; direction = in_space 0 0 0 }

nothing_fails : ¬ Passes ask_distance (two corner facing) (distance nothing)
nothing_fails = by_failed_test (passes ask_distance (two corner facing) (distance nothing)) refl

-- ---- two segments that meet

abbrev first_segment : List SpacePoint
first_segment = in_space 0 0 0 ∷ in_space 2 2 0 ∷ []

abbrev second_segment : List SpacePoint
second_segment = in_space 0 2 0 ∷ in_space 2 0 0 ∷ []

abbrev meeting : List WeightedPair → DistanceAnswer
meeting pairs = record { size = fraction 0 1; from = space_over 1 1 0 1; to = space_over 1 1 0 1; direction = in_space 0 0 0; pairs = pairs }

meeting_passes : Passes ask_distance (two first_segment second_segment) (distance (meeting (pair 0 0 1 ∷ pair 1 1 1 ∷ [])))
meeting_passes = by_test (passes ask_distance (two first_segment second_segment) (distance (meeting (pair 0 0 1 ∷ pair 1 1 1 ∷ [])))) refl

crossed_passes : Passes ask_distance (two first_segment second_segment) (distance (meeting (pair 0 1 1 ∷ pair 1 0 1 ∷ [])))
crossed_passes = by_test (passes ask_distance (two first_segment second_segment) (distance (meeting (pair 0 1 1 ∷ pair 1 0 1 ∷ [])))) refl
