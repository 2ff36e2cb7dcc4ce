use Rattle.text_laws.proofs.AnswerTexts.TextLaws.{is_spelled_short}
use Rattle.text_laws.proofs.answer_text.is_spelled_short.Goals as goal

pub returns : goal.returns
returns c = is_spelled_short
