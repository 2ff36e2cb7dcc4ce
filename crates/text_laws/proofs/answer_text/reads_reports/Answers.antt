use Rattle.text_laws.proofs.AnswerTexts.TextLaws.{reads_reports}
use Rattle.text_laws.proofs.answer_text.reads_reports.Goals as goal

pub returns : goal.returns
returns c = reads_reports
