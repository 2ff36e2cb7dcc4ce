use Rattle.text_laws.proofs.AnswerTexts.TextLaws.{are_reports_short}
use Rattle.text_laws.proofs.answer_text.are_reports_short.Goals as goal

pub returns : goal.returns
returns c = are_reports_short
