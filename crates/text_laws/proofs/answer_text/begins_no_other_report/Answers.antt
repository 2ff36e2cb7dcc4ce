use Rattle.text_laws.proofs.AnswerTexts.TextLaws.{begins_no_other_report}
use Rattle.text_laws.proofs.answer_text.begins_no_other_report.Goals as goal

pub returns : goal.returns
returns c = begins_no_other_report
