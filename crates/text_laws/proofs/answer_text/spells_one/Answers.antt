use Rattle.text_laws.proofs.AnswerTexts.TextLaws.{spells_one}
use Rattle.text_laws.proofs.answer_text.spells_one.Goals as goal

pub returns : goal.returns
returns c = spells_one
