use Rattle.bounds_model.specs.AnswerText.Kinds.{kinds}
use Rattle.bounds_model.specs.AnswerText.Reading.{all_lines}
use Rattle.witness_format.specs.Kinds.{TextMayWant}
use Rattle.witness_format.proofs.ReadTexts.{found_is_spelled, spelled_is_found}
use Rattle.witness_format.proofs.reading.read.Goals as goal

pub returns-clause-spelled : goal.returns-clause-spelled
returns-clause-spelled c = found_is_spelled (TextMayWant kinds (all_lines c.args.bytes.now)) c.args.bytes.now c.read_answer.result c.read_answer.ensures

pub returns-clause-found : goal.returns-clause-found
returns-clause-found c = spelled_is_found (TextMayWant kinds (all_lines c.args.bytes.now)) c.args.bytes.now c.read_answer.result c.read_answer.ensures
