use Rattle.std.proofs.Common.{rules}
use Rattle.bounds_model.specs.EmptyRectangle.{IsFrame}
use Rattle.bounds_model.specs.Asks.{ask_empty}
use Rattle.bounds_model.specs.Answers.{empty}
use Rattle.answers.specs.Answers.{empty_of}
use Rattle.empty_rectangle.proofs.Passing.{few_points}
use Rattle.empty_check.specs.RestrictedRectangles.{sets_of}
use Rattle.empty_check.proofs.RectanglePassing.{decided, if_ok}
use Rattle.empty_check.proofs.empty_rectangles.check_empty.Goals as goal

pub returns-in-Some-clause-passes : goal.returns-in-Some-clause-passes
returns-in-Some-clause-passes c =
    let is : IsFrame c.args.frame = search rules in
    if_ok c.is_none_larger.result (λ yes. decided {yes = yes} c.args.cloud c.args.frame (empty_of c.args.a.now) c.in-Some.area is (few_points c.args.cloud) c.in-Some.ensures.0 c.in-Some.ensures.1) c.is_none_larger.ensures.decides

pub returns-in-Some-clause-best : goal.returns-in-Some-clause-best
returns-in-Some-clause-best c =
    if_ok c.is_none_larger.result (λ yes decides. λ t. c.passing_answers_are_best.ensures (ask_empty c.args.frame) (sets_of c.args.cloud) (empty (empty_of c.args.a.now)) (decides.0 t)) (returns-in-Some-clause-passes c)
