-- What words and files call for: a work to do, or the cause for which there is none.
use Rattle.std.specs.Prelude.{ℕ, Bool, true, false, ◌^◌, nat_le, List, length, if◌then◌else◌}
use Rattle.std.specs.declared.result.Result.{Result}
use Rattle.std.specs.declared.result.Result.TheVariants.{Ok, Err}
use Rattle.bounds_model.specs.Asks.{Ask, PointFile, shape_of, unscaled}
use Rattle.bounds_model.specs.Reports.{Report}
use Rattle.bounds_model.specs.PointText as text
use Rattle.bounds_model.specs.AnswerText.Formats as format
use Rattle.bounds_model.specs.AnswerText.Reading.{reading_report}
use Rattle.bounds_model.specs.Demo.{demo_sets}
use Rattle.bounds_model.specs.ErrorLines.{Cause, InputFile, points_file, answer_file, too_long, bad_line, out_of_range, too_many_points, no_points, wrong_sets, bad_answer, big_number}
use Rattle.point_text.specs.declared.text.Form.{Form}
use Rattle.point_text.specs.Files.{file_of_bytes}
use Rattle.bnd_io.specs.Files.{Folder, bytes_of}
use Rattle.command_line.specs.Words.{Task, solve_task, check_task, demo_task, task_of}

-- one step after another, up to the first cause
infixl 10 ◌>>=◌
abbrev pub ◌>>=◌ : {A B : Type 0} → Result A Cause → (A → Result B Cause) → Result B Cause
(Ok x) >>= f = f x
(Err cause) >>= f = Err cause

-- what is to be done with accepted files
pub data Work : Type 0 where
  solving : Ask → PointFile → Work  -- to answer what is asked of these points at their scale
  sizing : Ask → PointFile → Work  -- to tell the size of an answer alone
  checking : Ask → PointFile → Report → Work  -- to judge this report
  demonstrating : Ask → ℕ → PointFile → Work  -- to answer what is asked of these points, which were made, so many in each set

-- the most bytes of a point file, and of an answer file
abbrev pub limit_of : InputFile → ℕ
limit_of points_file = 2 ^ 21
limit_of answer_file = 2 ^ 23

-- the length of a file is judged before its text
abbrev pub bytes_within : InputFile → List ℕ → Result (List ℕ) Cause
bytes_within file bytes = if nat_le (length bytes) (limit_of file) then Ok bytes else Err (too_long file)

-- why a text of points is refused
abbrev pub points_cause : text.Refusal → Cause
points_cause (text.bad_line line) = bad_line line
points_cause (text.out_of_range line) = out_of_range line
points_cause (text.too_many line) = too_many_points line
points_cause (text.no_points set) = no_points set
points_cause (text.wrong_sets count) = wrong_sets count

abbrev pub read_points : Result PointFile text.Refusal → Result PointFile Cause
read_points (Ok points) = Ok points
read_points (Err refusal) = Err (points_cause refusal)

-- why the text of an answer is refused
abbrev pub answer_cause : format.Refusal → Cause
answer_cause (format.bad_answer line) = bad_answer line
answer_cause (format.big_number line) = big_number line

abbrev pub read_answer : Result Report format.Refusal → Result Report Cause
read_answer (Ok report) = Ok report
read_answer (Err refusal) = Err (answer_cause refusal)

-- the points of a point file in this form with their scale, for what is asked
abbrev pub points_in : Form → Ask → List ℕ → Result PointFile Cause
points_in form ask bytes = do
  whole ← bytes_within points_file bytes
  read_points (file_of_bytes form (shape_of ask) whole)

-- the report of an answer file
abbrev pub answer_in : List ℕ → Result Report Cause
answer_in bytes = do
  whole ← bytes_within answer_file bytes
  read_answer (reading_report whole)

-- the answer is wanted, or its size alone
abbrev pub wanted : Bool → Ask → PointFile → Work
wanted false = solving
wanted true = sizing

-- the work of a task: the point file is judged whole before the answer file
abbrev pub work_of : Folder → Task → Result Work Cause
work_of folder (solve_task ask form brief file) = do
  points ← points_in form ask (bytes_of folder file)
  Ok (wanted brief ask points)
work_of folder (check_task ask form points answer) = do
  whole ← points_in form ask (bytes_of folder points)
  report ← answer_in (bytes_of folder answer)
  Ok (checking ask whole report)
work_of folder (demo_task ask seed count) = Ok (demonstrating ask count (unscaled (demo_sets (shape_of ask) seed count)))

-- the work that the words call for, which are judged before any file
abbrev pub judge_task : Folder → Result Task Cause → Result Work Cause
judge_task folder (Err cause) = Err cause
judge_task folder (Ok task) = work_of folder task

abbrev pub judge : List (List ℕ) → Folder → Result Work Cause
judge words folder = judge_task folder (task_of words)
