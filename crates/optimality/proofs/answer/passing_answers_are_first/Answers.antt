-- By the kind that is asked.
use Rattle.optimality.proofs.FirstAnswerLaw.{answer_first_law}
use Rattle.optimality.proofs.answer.passing_answers_are_first.Goals as goal

pub returns : goal.returns
returns c = answer_first_law
