use Rattle.text_laws.proofs.AnswerTexts.TextLaws.{reads_what_is_spelled}
use Rattle.text_laws.proofs.answer_text.reads_what_is_spelled.Goals as goal

pub returns : goal.returns
returns c = reads_what_is_spelled
