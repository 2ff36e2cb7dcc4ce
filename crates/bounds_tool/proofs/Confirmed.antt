-- An answer that was written is one that a checker confirms.
use Rattle.std.proofs.Common.{◌≡◌, ◌∙◌, ◌⊎◌, inl, inr, ap, subst, ℕ, ◌^◌, ◌<◌, ◌≤◌, arith, List, length, Ok}
use Rattle.bounds_model.specs.Asks.{Ask, PointFile}
use Rattle.bounds_model.specs.Reports.{Report, PassesAt}
use Rattle.text_laws.proofs.AnswerTexts.TextLaws.{reads_reports, are_reports_short}
use Rattle.bnd_io.specs.Files.{bytes_of}
use Rattle.bounds_tool.specs.declared.status.Status.{Status}
use Rattle.bounds_tool.specs.declared.status.Status.TheVariants.{Done, Memory}
use Rattle.bounds_tool.specs.Judging.{checking, answer_in, read_answer}
use Rattle.bounds_tool.specs.Outputs.{IsSolution}
use Rattle.bounds_tool.specs.Run.{MayEnd}
use Rattle.bounds_tool.specs.Laws.{WrittenIsConfirmed}
use Rattle.bounds_tool.proofs.AnswerFiles.{answer_in-text}
use Rattle.bounds_tool.proofs.Works.{check_work}

-- a spelling is accepted as an answer file
spelled_report : (ask : Ask) (points : PointFile) (bytes : List ℕ) → (solution : IsSolution ask points bytes) → answer_in bytes ≡ Ok solution.report
spelled_report ask points bytes solution =
    answer_in-text bytes (below (length bytes) (are_reports_short bytes solution.report solution.spells)) ∙ ap read_answer (reads_reports.spelled_is_read bytes solution.report solution.spells)
  where
    below : (n : ℕ) → n < 2 ^ 23 → n ≤ 2 ^ 23
    below n h = omega arith

-- an answer that passes is not rejected
passing_ends : (ask : Ask) (points : PointFile) (report : Report) (status : Status) → PassesAt ask points report → MayEnd (Ok (checking ask points report)) status → (status ≡ Done) ⊎ (status ≡ Memory)
passing_ends ask points report status passes (inl h) = inl h.1
passing_ends ask points report status passes (inr (inl h)) = absurd (h.0 passes)
passing_ends ask points report status passes (inr (inr h)) = inr h

pub written_is_confirmed : WrittenIsConfirmed
written_is_confirmed folder ask form points answer whole status accepted solution ends =
    passing_ends ask whole solution.report status solution.passes
    (subst (λ judged. MayEnd judged status) (check_work folder ask form points answer whole solution.report accepted (spelled_report ask whole (bytes_of folder answer) solution)) ends)
