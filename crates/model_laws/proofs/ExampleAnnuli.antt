-- Annuli that pass, and spoilt ones that do not.
use Rattle.std.proofs.Common.{refl, List, [], ◌∷◌}
use Rattle.bounds_model.specs.Plane.{PlanePoint}
use Rattle.bounds_model.specs.AnnulusAnswer.{WeightedPair, AnnulusAnswer}
use Rattle.bounds_model.specs.Asks.Ask.{ask_annulus}
use Rattle.bounds_model.specs.Asks.Sets.{plane}
use Rattle.bounds_model.specs.Answers.{Passes}
use Rattle.bounds_model.specs.Answers.Answer.{annulus}
use Rattle.model_laws.proofs.Decisions.{by_test, by_failed_test, by_one_failure}
use Rattle.model_laws.proofs.DecideAnswers.{passes}
use Rattle.model_laws.proofs.Literals.{at, over, fraction, pair}

abbrev pub four_points : List PlanePoint
four_points = at 0 0 ∷ at 2 0 ∷ at 0 2 ∷ at 2 3 ∷ []

-- their annulus, with these pairs
abbrev with_pairs : List WeightedPair → AnnulusAnswer
with_pairs pairs = record { size = fraction 6 5; centre = over 13 13 10; inner = fraction 109 50; outer = fraction 169 50; pairs = pairs }

abbrev pub best_annulus : AnnulusAnswer
best_annulus = with_pairs (pair 0 2 3 ∷ pair 3 1 2 ∷ [])

best_annulus_passes : Passes ask_annulus (plane four_points) (annulus best_annulus)
best_annulus_passes = by_test (passes ask_annulus (plane four_points) (annulus best_annulus)) refl

-- both weights doubled
doubled_passes : Passes ask_annulus (plane four_points) (annulus (with_pairs (pair 0 2 6 ∷ pair 3 1 4 ∷ [])))
doubled_passes = by_test (passes ask_annulus (plane four_points) (annulus (with_pairs (pair 0 2 6 ∷ pair 3 1 4 ∷ [])))) refl

-- weights whose differences do not balance
unbalanced_fails : ¬ Passes ask_annulus (plane four_points) (annulus (with_pairs (pair 0 2 2 ∷ pair 3 1 3 ∷ [])))
unbalanced_fails = by_failed_test (passes ask_annulus (plane four_points) (annulus (with_pairs (pair 0 2 2 ∷ pair 3 1 3 ∷ [])))) refl

-- a pair of a point with itself shows nothing
idle_fails : ¬ Passes ask_annulus (plane four_points) (annulus (with_pairs (pair 0 0 1 ∷ [])))
idle_fails = by_one_failure (passes ask_annulus (plane four_points) (annulus (with_pairs (pair 0 0 1 ∷ [])))) refl refl

-- a greater outer radius, with the size or without it
abbrev wider : AnnulusAnswer
wider = record best_annulus { outer = fraction 17 5 }

wider_fails : ¬ Passes ask_annulus (plane four_points) (annulus wider)
wider_fails = by_one_failure (passes ask_annulus (plane four_points) (annulus wider)) refl refl

abbrev wider_and_larger : AnnulusAnswer
wider_and_larger = record wider { size = fraction 61 50 }

wider_and_larger_fails : ¬ Passes ask_annulus (plane four_points) (annulus wider_and_larger)
wider_and_larger_fails = by_failed_test (passes ask_annulus (plane four_points) (annulus wider_and_larger)) refl

-- three points on a line
abbrev on_line : AnnulusAnswer
on_line = record { size = fraction 4 1; centre = over 5 0 2; inner = fraction 9 4; outer = fraction 25 4; pairs = pair 0 1 4 ∷ pair 2 1 1 ∷ [] }

on_line_passes : Passes ask_annulus (plane (at 0 0 ∷ at 1 0 ∷ at 5 0 ∷ [])) (annulus on_line)
on_line_passes = by_test (passes ask_annulus (plane (at 0 0 ∷ at 1 0 ∷ at 5 0 ∷ [])) (annulus on_line)) refl

-- four points on a circle
abbrev on_circle : AnnulusAnswer
on_circle = record { size = fraction 0 1; centre = over 1 1 2; inner = fraction 1 2; outer = fraction 1 2; pairs = pair 0 0 1 ∷ [] }

on_circle_passes : Passes ask_annulus (plane (at 0 0 ∷ at 1 0 ∷ at 1 1 ∷ at 0 1 ∷ [])) (annulus on_circle)
on_circle_passes = by_test (passes ask_annulus (plane (at 0 0 ∷ at 1 0 ∷ at 1 1 ∷ at 0 1 ∷ [])) (annulus on_circle)) refl
