-- By the law of the answer, grown.
use Rattle.scaled_laws.proofs.ReportLaw.{report_law}
use Rattle.scaled_laws.proofs.passing_reports_are_best.Goals as goal

pub returns : goal.returns
returns c = report_law
