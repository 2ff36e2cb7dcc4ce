-- The work that a task calls for, and its outputs, where the files tell.
use Rattle.std.proofs.Common.{◌≡◌, ◌∙◌, refl, ap, subst, ℕ, Bool, true, false, List, ◌++◌, Option, Some, None, Result, Ok, Err, IfSome, IsTrue, ◌↔◌}
use Rattle.std.specs.Prelude.{IfOk}
use Rattle.bounds_model.specs.Asks.{Ask, PointFile, shape_of, unscaled}
use Rattle.bounds_model.specs.Answers.{IsFirstOfBest}
use Rattle.bounds_model.specs.Reports.{Report, full_size, PassesAt, IsBestAt}
use Rattle.bounds_model.specs.AnswerText.Spelling.{SpellsReport}
use Rattle.bnd_io.specs.Files.{Folder, FilesState, bytes_of}
use Rattle.bounds_model.specs.Demo.{demo_sets}
use Rattle.bounds_model.specs.AnswerText.Written.{size_line}
use Rattle.point_text.specs.declared.text.Form.{Form}
use Rattle.command_line.specs.Words.{solve_task, check_task, demo_task, task_of}
use Rattle.solving.specs.Solving.{AreTooMany}
use Rattle.bounds_tool.specs.Judging.{Work, solving, sizing, checking, demonstrating, wanted, ◌>>=◌, points_in, answer_in, work_of, judge_task, judge}
use Rattle.bounds_tool.specs.Run.{OutputBy}
use Rattle.bounds_tool.specs.declared.cause.Cause.{Cause}
use Rattle.bounds_tool.specs.declared.output.Output.{Output}
use Rattle.bounds_tool.specs.Outputs as outputs
use Rattle.bounds_tool.specs.Outputs.{IsSolution, IsSize, IsDone, IsMeantAs, made_line}
use Rattle.bounds_tool.specs.declared.output.Output.TheVariants.{Verdict}

-- the text of a report that passes is the output of a solving task
pub solved : (told : Option Folder) (ask : Ask) (form : Form) (file : List ℕ) (points : PointFile) (report : Report) (text : List ℕ)
    → IfSome told (λ folder. points_in form ask (bytes_of folder file) ≡ Ok points)
    → PassesAt ask points report → IsBestAt ask points report → IsFirstOfBest ask points.sets report.answer → ¬ AreTooMany ask points.sets → SpellsReport text report
    → IfSome told (λ folder. (work : Work) × (work_of folder (solve_task ask form false file) ≡ Ok work) × IsDone work text)
solved None ask form file points report text read passes best first taken spells = tt
solved (Some folder) ask form file points report text read passes best first taken spells = (
  solving ask points,
  ap (λ r. r >>= λ points. Ok (wanted false ask points)) read,
  record { report = report; spells = spells; passes = passes; best = best; first = first; taken = taken },
)

-- the line of the size of a best report is the output of a task that asks for it alone
pub sized : (told : Option Folder) (ask : Ask) (form : Form) (file : List ℕ) (points : PointFile) (report : Report) (text : List ℕ)
    → IfSome told (λ folder. points_in form ask (bytes_of folder file) ≡ Ok points)
    → IsBestAt ask points report → ¬ AreTooMany ask points.sets → text ≡ size_line (full_size report)
    → IfSome told (λ folder. (work : Work) × (work_of folder (solve_task ask form true file) ≡ Ok work) × IsDone work text)
sized None ask form file points report text read best taken line = tt
sized (Some folder) ask form file points report text read best taken line = (
  sizing ask points,
  ap (λ r. r >>= λ points. Ok (wanted true ask points)) read,
  record { size = full_size report; optimum = record { report = report; best = best; printed = refl }; taken = taken; line = line },
)

-- where a best report to what is asked of made points was found, the two lines of the demonstration are its output
pub made_is_done : (ask : Ask) (count : ℕ) (made points : PointFile) (report : Report) (text : List ℕ)
    → points ≡ made → IsBestAt ask points report → ¬ AreTooMany ask points.sets → text ≡ made_line count ++ size_line (full_size report)
    → IsDone (demonstrating ask count made) text
made_is_done ask count made points report text same best taken lines =
    subst (λ points. IsDone (demonstrating ask count points) text) same
    (record { size = full_size report; optimum = record { report = report; best = best; printed = refl }; taken = taken; lines = lines })

-- where both files are accepted, the report is to be judged
pub check_work : (folder : Folder) (ask : Ask) (form : Form) (points answer : List ℕ) (whole : PointFile) (report : Report) → points_in form ask (bytes_of folder points) ≡ Ok whole → answer_in (bytes_of folder answer) ≡ Ok report
    → work_of folder (check_task ask form points answer) ≡ Ok (checking ask whole report)
check_work folder ask form points answer whole report p q =
    ap (λ r. r >>= λ whole. answer_in (bytes_of folder answer) >>= λ report. Ok (checking ask whole report)) p ∙ ap (λ r. r >>= λ report. Ok (checking ask whole report)) q

-- a test that fails is not true
not_true : IsTrue false → ⊥
not_true e = cc

-- what a checker says is the output of a task that checks
pub checked : (told : Option Folder) (ask : Ask) (form : Form) (points answer : List ℕ) (whole : PointFile) (report : Report) (passing : Bool)
    → IfSome told (λ folder. points_in form ask (bytes_of folder points) ≡ Ok whole)
    → IfSome told (λ folder. answer_in (bytes_of folder answer) ≡ Ok report)
    → (IsTrue passing ↔ PassesAt ask whole report) → (IsTrue passing → IsBestAt ask whole report) → (IsTrue passing → IsFirstOfBest ask whole.sets report.answer)
    → IfSome told (λ folder. (work : Work) × (work_of folder (check_task ask form points answer) ≡ Ok work) × IsMeantAs (Verdict passing) work (outputs.bytes_of (Verdict passing)))
checked None ask form points answer whole report passing p q passes best first = tt
checked (Some folder) ask form points answer whole report true p q passes best first =
    (checking ask whole report, check_work folder ask form points answer whole report p q, record { passes = passes.0 refl; best = best refl; first = first refl; yes = refl })
checked (Some folder) ask form points answer whole report false p q passes best first =
    (checking ask whole report, check_work folder ask form points answer whole report p q, record { fails = λ h. not_true (passes.1 h); no = refl })

-- what is made of a seed is the output of a demonstration
pub demonstrated : (words : List (List ℕ)) (files : FilesState) (ask : Ask) (seed count : ℕ) (result : Result Output Cause) → task_of words ≡ Ok (demo_task ask seed count)
    → IfOk result (λ output. IsMeantAs output (demonstrating ask count (unscaled (demo_sets (shape_of ask) seed count))) (outputs.bytes_of output))
    → IfOk result (λ output. OutputBy (IsMeantAs output) words files (outputs.bytes_of output))
demonstrated words files ask seed count (Err cause) is h = tt
demonstrated words files ask seed count (Ok output) is h = by_told files.told
  where
    by_told : (told : Option Folder) → IfSome told (λ folder. (work : Work) × (judge words folder ≡ Ok work) × IsMeantAs output work (outputs.bytes_of output))
    by_told None = tt
    by_told (Some folder) = (demonstrating ask count (unscaled (demo_sets (shape_of ask) seed count)), ap (judge_task folder) is, h)
