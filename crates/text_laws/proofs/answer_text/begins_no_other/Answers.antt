use Rattle.text_laws.proofs.AnswerTexts.TextLaws.{begins_no_other}
use Rattle.text_laws.proofs.answer_text.begins_no_other.Goals as goal

pub returns : goal.returns
returns c = begins_no_other
