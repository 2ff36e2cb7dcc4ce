-- What is read is spelled, and what is spelled is read.
use Rattle.std.proofs.Common.{◌≡◌, subst, ℕ, List, Ok, Err, Result}
use Rattle.std.specs.Prelude.{IfOk}
use Rattle.bounds_model.specs.Answers.{Answer}
use Rattle.bounds_model.specs.Reports.{Report}
use Rattle.bounds_model.specs.AnswerText.Reading.{reading, reading_report}
use Rattle.bounds_model.specs.AnswerText.Spelling.{Spells, SpellsReport}
use Rattle.text_laws.proofs.AnswerTexts.TextLaws.{reads_what_is_spelled, reads_reports}
use Rattle.answers.specs.declared.answer.Answer as code
use Rattle.answers.specs.declared.report.Report as reports
use Rattle.answers.specs.Answers.{answer_of, report_of}
use Rattle.answer_lines.specs.declared.fault.ReadFault.{ReadFault}
use Rattle.answer_lines.specs.declared.fault.ReadFault.TheVariants.{BadAnswer, BigNumber, OutOfMemory}
use Rattle.answer_lines.specs.Outcomes.{ReadsOr, IsFound}

-- an answer that was read is spelled by the text
pub found_is_spelled : (wants : Type 0) (bytes : List ℕ) (result : Result code.Answer ReadFault) → ReadsOr wants answer_of result (reading bytes) → IfOk result (λ answer. Spells bytes (answer_of answer))
found_is_spelled wants bytes (Ok answer) found = reads_what_is_spelled.read_is_spelled bytes (answer_of answer) found
found_is_spelled wants bytes (Err fault) found = tt

-- what was found is what reads so
found_is : (wants : Type 0) (result : Result code.Answer ReadFault) (answer : Answer) → ReadsOr wants answer_of result (Ok answer) → IsFound wants result (λ found. answer_of found ≡ answer)
found_is wants (Ok found) answer reads = cc
found_is wants (Err (BadAnswer line)) answer reads = absurd cc
found_is wants (Err (BigNumber line)) answer reads = absurd cc
found_is wants (Err OutOfMemory) answer reads = reads

-- an answer that is spelled is found
pub spelled_is_found : (wants : Type 0) (bytes : List ℕ) (result : Result code.Answer ReadFault) → ReadsOr wants answer_of result (reading bytes) → (a : Answer) → Spells bytes a
    → IsFound wants result (λ found. answer_of found ≡ a)
spelled_is_found wants bytes result reads a spells = found_is wants result a (subst (ReadsOr wants answer_of result) (reads_what_is_spelled.spelled_is_read bytes a spells) reads)

-- ---- reports

-- a report that was read is spelled by the text
pub found_report_is_spelled : (wants : Type 0) (bytes : List ℕ) (result : Result reports.Report ReadFault) → ReadsOr wants report_of result (reading_report bytes) → IfOk result (λ report. SpellsReport bytes (report_of report))
found_report_is_spelled wants bytes (Ok report) found = reads_reports.read_is_spelled bytes (report_of report) found
found_report_is_spelled wants bytes (Err fault) found = tt

-- what was found is what reads so
found_report_is : (wants : Type 0) (result : Result reports.Report ReadFault) (report : Report) → ReadsOr wants report_of result (Ok report) → IsFound wants result (λ found. report_of found ≡ report)
found_report_is wants (Ok found) report reads = cc
found_report_is wants (Err (BadAnswer line)) report reads = absurd cc
found_report_is wants (Err (BigNumber line)) report reads = absurd cc
found_report_is wants (Err OutOfMemory) report reads = reads

-- a report that is spelled is read, unless memory is wanting
pub spelled_report_is_found : (wants : Type 0) (bytes : List ℕ) (result : Result reports.Report ReadFault) → ReadsOr wants report_of result (reading_report bytes) → (r : Report) → SpellsReport bytes r
    → IsFound wants result (λ found. report_of found ≡ r)
spelled_report_is_found wants bytes result reads r spells = found_report_is wants result r (subst (ReadsOr wants report_of result) (reads_reports.spelled_is_read bytes r spells) reads)
