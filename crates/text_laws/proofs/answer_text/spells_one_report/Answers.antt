use Rattle.text_laws.proofs.AnswerTexts.TextLaws.{spells_one_report}
use Rattle.text_laws.proofs.answer_text.spells_one_report.Goals as goal

pub returns : goal.returns
returns c = spells_one_report
