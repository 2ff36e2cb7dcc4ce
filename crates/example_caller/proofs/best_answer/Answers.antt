use Rattle.bounded_coords.specs.Asked.{asked, lent}
use Rattle.answers.specs.Answers.{answer_of}
use Rattle.example_caller.proofs.best_answer.Goals as goal

pub print-requires : goal.print-requires
print-requires g c =
    c.passing_answers_keep_ranges.ensures (asked c.args.ask.now) (lent c.args.sets) (answer_of c.in_ok-answer.answer) c.in_ok-answer.ensures.passes
