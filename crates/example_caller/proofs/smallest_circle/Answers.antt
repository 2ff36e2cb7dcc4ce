use Rattle.std.proofs.Common.{rules}
use Rattle.std.proofs.lemmas.Result.{IfOk-weaker}
use Rattle.bounds_model.specs.Asks.{ask_circle, plane}
use Rattle.bounds_model.specs.Answers.{Passes}
use Rattle.bounds_model.specs.Answers.Answer.{circle}
use Rattle.bounded_coords.specs.Clouds.{points_of}
use Rattle.answers.specs.Answers.{circle_of}
use Rattle.example_caller.specs.Texts.{SpellsBest}
use Rattle.example_caller.proofs.smallest_circle.Goals as goal

pub returns : goal.returns
returns c =
    let answer = circle (circle_of c.answer.result) in
    let passes : Passes ask_circle (plane (points_of c.args.cloud)) (circle (circle_of c.answer.result)) = search rules in
    IfOk-weaker c.print.result _ (SpellsBest ask_circle (plane (points_of c.args.cloud)))
    (λ text spells. record { answer = answer; spelled = spells; best = c.passing_answers_are_best.ensures ask_circle (plane (points_of c.args.cloud)) answer passes })
    c.print.ensures
