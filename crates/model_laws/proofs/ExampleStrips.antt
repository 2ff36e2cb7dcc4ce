-- A strip that passes, and spoilt ones that do not.
use Rattle.std.proofs.Common.{refl, pos, List, [], ◌∷◌}
use Rattle.bounds_model.specs.Plane.{PlanePoint}
use Rattle.bounds_model.specs.Fans.{HalfCone}
use Rattle.bounds_model.specs.StripAnswer.{StripAnswer}
use Rattle.bounds_model.specs.Asks.Ask.{ask_strip}
use Rattle.bounds_model.specs.Asks.Sets.{plane}
use Rattle.bounds_model.specs.Answers.{Passes}
use Rattle.bounds_model.specs.Answers.Answer.{strip}
use Rattle.model_laws.proofs.Decisions.{by_test, by_failed_test, by_one_failure}
use Rattle.model_laws.proofs.DecideAnswers.{passes}
use Rattle.model_laws.proofs.ExampleBalls.{triangle}
use Rattle.model_laws.proofs.Literals.{minus, at, left_at, fraction, span, half_cone}

-- the strip along the longest side of the triangle
abbrev pub along_longest : StripAnswer
along_longest = record {
  size = fraction 144 25;
  direction = at 3 4;
  bounds = span (pos 0) (pos 12);
  fan = record { cones = half_cone 1 0 1 0 ∷ half_cone 3 4 2 0 ∷ half_cone 0 1 2 1 ∷ []; last = left_at 1 0 };
}

along_longest_passes : Passes ask_strip (plane triangle) (strip along_longest)
along_longest_passes = by_test (passes ask_strip (plane triangle) (strip along_longest)) refl

-- the same with another fan
abbrev with_fan : List HalfCone → PlanePoint → StripAnswer
with_fan cones last = record along_longest { fan = record { cones = cones; last = last } }

-- two cones exchanged, so that the fan turns back
abbrev turned_back : StripAnswer
turned_back = with_fan (half_cone 1 0 1 0 ∷ half_cone 0 1 2 1 ∷ half_cone 3 4 2 0 ∷ []) (left_at 1 0)

turned_back_fails : ¬ Passes ask_strip (plane triangle) (strip turned_back)
turned_back_fails = by_failed_test (passes ask_strip (plane triangle) (strip turned_back)) refl

-- the last cone left out, with the fan ending early or on time
abbrev cut : PlanePoint → StripAnswer
cut last = with_fan (half_cone 1 0 1 0 ∷ half_cone 3 4 2 0 ∷ []) last

cut_fails : ¬ Passes ask_strip (plane triangle) (strip (cut (at 0 1)))
cut_fails = by_one_failure (passes ask_strip (plane triangle) (strip (cut (at 0 1)))) refl refl

stretched_fails : ¬ Passes ask_strip (plane triangle) (strip (cut (left_at 1 0)))
stretched_fails = by_failed_test (passes ask_strip (plane triangle) (strip (cut (left_at 1 0)))) refl

-- a bound past 2 ^ 40
abbrev far_bound : StripAnswer
far_bound = record along_longest { bounds = span (minus 1099511627777) (pos 12) }

far_bound_fails : ¬ Passes ask_strip (plane triangle) (strip far_bound)
far_bound_fails = by_failed_test (passes ask_strip (plane triangle) (strip far_bound)) refl

-- the level strip, which is wider than the best
abbrev pub level : StripAnswer
level = record along_longest { size = fraction 9 1; direction = at 0 1; bounds = span (pos 0) (pos 3) }

level_fails : ¬ Passes ask_strip (plane triangle) (strip level)
level_fails = by_failed_test (passes ask_strip (plane triangle) (strip level)) refl

-- a strip with room to spare
abbrev roomy : StripAnswer
roomy = record along_longest { size = fraction 169 25; bounds = span (minus 1) (pos 12) }

roomy_fails : ¬ Passes ask_strip (plane triangle) (strip roomy)
roomy_fails = by_failed_test (passes ask_strip (plane triangle) (strip roomy)) refl

-- no normal at all
abbrev no_normal : StripAnswer
no_normal = record along_longest { size = fraction 0 1; direction = at 0 0; bounds = span (pos 0) (pos 0) }

no_normal_fails : ¬ Passes ask_strip (plane triangle) (strip no_normal)
no_normal_fails = by_failed_test (passes ask_strip (plane triangle) (strip no_normal)) refl

-- one point
abbrev single : StripAnswer
single = record {
  size = fraction 0 1;
  direction = at 1 0;
  bounds = span (pos 7) (pos 7);
  fan = record { cones = half_cone 1 0 0 0 ∷ half_cone 0 1 0 0 ∷ []; last = left_at 1 0 };
}

single_passes : Passes ask_strip (plane (record { x = pos 7; y = minus 2 } ∷ [])) (strip single)
single_passes = by_test (passes ask_strip (plane (record { x = pos 7; y = minus 2 } ∷ [])) (strip single)) refl
