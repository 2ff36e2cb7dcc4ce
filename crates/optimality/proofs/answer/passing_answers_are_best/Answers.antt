-- By the kind that is asked.
use Rattle.optimality.proofs.AnswerLaw.{answer_law}
use Rattle.optimality.proofs.answer.passing_answers_are_best.Goals as goal

pub returns : goal.returns
returns c = answer_law
