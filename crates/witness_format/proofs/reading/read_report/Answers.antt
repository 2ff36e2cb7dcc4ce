use Rattle.std.proofs.Common.{[], ◌∷◌}
use Rattle.bounds_model.specs.AnswerText.Heads.{plain, scaled}
use Rattle.bounds_model.specs.AnswerText.Kinds.{kinds}
use Rattle.bounds_model.specs.AnswerText.Reading.{all_lines}
use Rattle.witness_format.specs.Kinds.{ReportMayWant}
use Rattle.witness_format.proofs.KindTexts.{reads_report}
use Rattle.witness_format.proofs.ReadTexts.{found_report_is_spelled, spelled_report_is_found}
use Rattle.witness_format.proofs.reading.read_report.Goals as goal

pub returns-clause-reading : goal.returns-clause-reading
returns-clause-reading c = reads_report (ReportMayWant (plain ∷ scaled ∷ []) kinds (all_lines c.args.bytes.now)) (plain ∷ scaled ∷ []) kinds c.args.bytes.now c.read_lines.result c.read_lines.ensures

pub returns-clause-spelled : goal.returns-clause-spelled
returns-clause-spelled c =
    let wants = ReportMayWant (plain ∷ scaled ∷ []) kinds (all_lines c.args.bytes.now) in
    found_report_is_spelled wants c.args.bytes.now c.read_lines.result (reads_report wants (plain ∷ scaled ∷ []) kinds c.args.bytes.now c.read_lines.result c.read_lines.ensures)

pub returns-clause-found : goal.returns-clause-found
returns-clause-found c =
    let wants = ReportMayWant (plain ∷ scaled ∷ []) kinds (all_lines c.args.bytes.now) in
    spelled_report_is_found wants c.args.bytes.now c.read_lines.result (reads_report wants (plain ∷ scaled ∷ []) kinds c.args.bytes.now c.read_lines.result c.read_lines.ensures)
