-- How a task ends that gives no output.
use Rattle.std.proofs.Common.{◌≡◌, ◌∙◌, ◌⊎◌, inl, inr, refl, sym, ap, subst, is_ok, ℕ, Bool, true, false, List, Option, Some, None, Result, Ok, Err, IfSome, Contains, arith}
use Rattle.bounds_model.specs.Asks.{Ask, Sets, PointFile, shape_of, unscaled}
use Rattle.bounds_model.specs.Demo.{demo_sets}
use Rattle.bounds_model.specs.ErrorLines.{Cause, points_file, answer_file, open_fault, read_fault, too_long, bad_line, out_of_range, too_many_points, no_points, wrong_sets, too_many_corners, too_many_for_four, bad_answer, big_number, out_of_memory}
use Rattle.point_text.specs.declared.text.Form.{Form}
use Rattle.bnd_io.specs.Files.{Folder, FilesState, bytes_of}
use Rattle.command_line.specs.Words.{Task, solve_task, check_task, demo_task, task_of}
use Rattle.bounds_tool.specs.declared.status.Status.{Status}
use Rattle.bounds_tool.specs.declared.status.Status.TheVariants.{Done, Usage, Input, Read, Memory}
use Rattle.bounds_tool.specs.Judging.{Work, solving, sizing, checking, demonstrating, wanted, ◌>>=◌, points_in, answer_in, work_of, judge_task, judge}
use Rattle.bounds_tool.specs.Outputs as outputs
use Rattle.bounds_tool.specs.Outputs.{IsDone, IsMeantAs, IsOutput}
use Rattle.bnd_io.specs.Sinks.{SinkState, Appended, AppendedPrefix}
use Rattle.bounds_tool.specs.declared.output.Output.{Output}
use Rattle.bounds_tool.specs.declared.output.Output.TheVariants.{Solution, Size, Verdict, Demonstration}
use Rattle.solving.specs.Solving.{AreTooMany}
use Rattle.bounds_tool.specs.Run.{MayEnd, IsTooMuch, IsOfLimit, LimitCause, OutputBy, IsRefusal, OpenFault, ReadFault, TaskFault, RefusesPoints, RefusesAnswer, PointsCause, AnswerCause, PointsAccepted, ComesOf, TaskCause, Wrote, WrotePrefix, files_of, cause_status}

-- ---- by its causes

-- by a counted fault of one of its files, by a refusal of one of them where they tell, or for want of memory
pub data Ending (last : Option ℕ) (task : Task) (old new : FilesState) (cause : Cause) : Type 0 where
  by_fault : (name : List ℕ) → Contains (files_of task) name → OpenFault last name old new ⊎ ReadFault last name old new → cause_status cause ≡ Read → Ending last task old new cause
  by_refusal : IfSome old.told (λ folder. work_of folder task ≡ Err cause) → cause_status cause ≡ Input → Ending last task old new cause
  by_limit : IfSome old.told (λ folder. (work : Work) × (work_of folder task ≡ Ok work) × IsTooMuch work) → cause_status cause ≡ Input → Ending last task old new cause
  by_memory : cause_status cause ≡ Memory → Ending last task old new cause

-- a refusal of a file ends a run with its status
points_status : (cause : Cause) → RefusesPoints cause → cause_status cause ≡ Input
points_status (too_long points_file) h = refl
points_status (bad_line line) h = refl
points_status (out_of_range line) h = refl
points_status (too_many_points line) h = refl
points_status (no_points set) h = refl
points_status (wrong_sets count) h = refl
points_status cause h = absurd h

answer_status : (cause : Cause) → RefusesAnswer cause → cause_status cause ≡ Input
answer_status (too_long answer_file) h = refl
answer_status (bad_answer line) h = refl
answer_status (big_number line) h = refl
answer_status cause h = absurd h

-- what follows in each folder follows where the files tell
if_told : {P Q : Folder → Type 0} (told : Option Folder) → ((folder : Folder) → P folder → Q folder) → IfSome told P → IfSome told Q
if_told None f h = tt
if_told (Some folder) f h = f folder h

if_both_told : {P Q R : Folder → Type 0} (told : Option Folder) → ((folder : Folder) → P folder → Q folder → R folder) → IfSome told P → IfSome told Q → IfSome told R
if_both_told None f h k = tt
if_both_told (Some folder) f h k = f folder h k

-- what holds in each folder holds where the files tell
where_told : {P : Folder → Type 0} (told : Option Folder) → ((folder : Folder) → P folder) → IfSome told P
where_told None f = tt
where_told (Some folder) f = f folder

-- where the point file is refused, so is the task
solve_refused : (ask : Ask) (form : Form) (brief : Bool) (file : List ℕ) (cause : Cause) (folder : Folder) → points_in form ask (bytes_of folder file) ≡ Err cause → work_of folder (solve_task ask form brief file) ≡ Err cause
solve_refused ask form brief file cause folder h = ap (λ r. r >>= λ points. Ok (wanted brief ask points)) h

check_refused : (ask : Ask) (form : Form) (points answer : List ℕ) (cause : Cause) (folder : Folder) → points_in form ask (bytes_of folder points) ≡ Err cause → work_of folder (check_task ask form points answer) ≡ Err cause
check_refused ask form points answer cause folder h = ap (λ r. r >>= λ whole. answer_in (bytes_of folder answer) >>= λ report. Ok (checking ask whole report)) h

-- where the point file is accepted, a refusal of the answer file is one of the task
answer_refused : (ask : Ask) (form : Form) (points answer : List ℕ) (cause : Cause) (folder : Folder) → (whole : Result PointFile Cause) → points_in form ask (bytes_of folder points) ≡ whole → is_ok whole ≡ true → answer_in (bytes_of folder answer) ≡ Err cause
    → work_of folder (check_task ask form points answer) ≡ Err cause
answer_refused ask form points answer cause folder (Ok whole) is accepted h =
    ap (λ r. r >>= λ whole. answer_in (bytes_of folder answer) >>= λ report. Ok (checking ask whole report)) is ∙ ap (λ r. r >>= λ report. Ok (checking ask whole report)) h
answer_refused ask form points answer cause folder (Err other) is accepted h = absurd cc

in_points : (last : Option ℕ) (task : Task) (form : Form) (ask : Ask) (name : List ℕ) (old new : FilesState) (cause : Cause) → Contains (files_of task) name
    → ((folder : Folder) → points_in form ask (bytes_of folder name) ≡ Err cause → work_of folder task ≡ Err cause) → PointsCause last form ask name old new cause → Ending last task old new cause
in_points last task form ask name old new (open_fault points_file) there refused h = by_fault name there (inl h) refl
in_points last task form ask name old new (read_fault points_file) there refused h = by_fault name there (inr h) refl
in_points last task form ask name old new out_of_memory there refused h = by_memory refl
in_points last task form ask name old new cause there refused h = by_refusal (if_told old.told refused h.1) (points_status cause h.0)

in_answer : (last : Option ℕ) (ask : Ask) (form : Form) (points answer : List ℕ) (old new : FilesState) (cause : Cause) → PointsAccepted form ask points old → AnswerCause last answer old new cause
    → Ending last (check_task ask form points answer) old new cause
in_answer last ask form points answer old new (open_fault answer_file) accepted h = by_fault answer (1, omega arith, refl) (inl h) refl
in_answer last ask form points answer old new (read_fault answer_file) accepted h = by_fault answer (1, omega arith, refl) (inr h) refl
in_answer last ask form points answer old new out_of_memory accepted h = by_memory refl
in_answer last ask form points answer old new cause accepted h =
    by_refusal (if_both_told old.told (λ folder ok refused. answer_refused ask form points answer cause folder (points_in form ask (bytes_of folder points)) refl ok refused) accepted h.1) (answer_status cause h.0)

-- too many points or corners end a run with the status of input
limit_status : (cause : Cause) → IsOfLimit cause → cause_status cause ≡ Input
limit_status (too_many_corners count) h = refl
limit_status (too_many_for_four count) h = refl
limit_status cause h = absurd h

-- they are too many, whatever their number is
are_too_many : (ask : Ask) (sets : Sets) (cause : Cause) → LimitCause ask sets cause → AreTooMany ask sets
are_too_many ask sets (too_many_corners count) h = inl (count, h)
are_too_many ask sets (too_many_for_four count) h = inr (count, h)
are_too_many ask sets cause h = absurd h

-- the work on them is too much, whether the answer is wanted or its size alone
too_much : (brief : Bool) (ask : Ask) (points : PointFile) → AreTooMany ask points.sets → IsTooMuch (wanted brief ask points)
too_much false ask points h = h
too_much true ask points h = h

limit_work : (folder : Folder) (ask : Ask) (form : Form) (brief : Bool) (file : List ℕ) (cause : Cause) → (points : PointFile) × (points_in form ask (bytes_of folder file) ≡ Ok points) × LimitCause ask points.sets cause
    → (work : Work) × (work_of folder (solve_task ask form brief file) ≡ Ok work) × IsTooMuch work
limit_work folder ask form brief file cause h = (wanted brief ask h.0, ap (λ r. r >>= λ points. Ok (wanted brief ask points)) h.1, too_much brief ask h.0 (are_too_many ask h.0.sets cause h.2))

-- what is made of a seed may be too many, or have too many corners, as well
in_demo : (last : Option ℕ) (ask : Ask) (seed count : ℕ) (old new : FilesState) (cause : Cause) → LimitCause ask (demo_sets (shape_of ask) seed count) cause → Ending last (demo_task ask seed count) old new cause
in_demo last ask seed count old new (too_many_corners n) h = by_limit (where_told old.told (λ folder. (demonstrating ask count (unscaled (demo_sets (shape_of ask) seed count)), refl, inl (n, h)))) refl
in_demo last ask seed count old new (too_many_for_four n) h = by_limit (where_told old.told (λ folder. (demonstrating ask count (unscaled (demo_sets (shape_of ask) seed count)), refl, inr (n, h)))) refl
in_demo last ask seed count old new cause h = absurd h

ending : (last : Option ℕ) (task : Task) (old new : FilesState) (cause : Cause) → ComesOf last task old new cause → Ending last task old new cause
ending last (solve_task ask form brief file) old new cause (inl h) = in_points last (solve_task ask form brief file) form ask file old new cause (0, omega arith, refl) (solve_refused ask form brief file cause) h
ending last (solve_task ask form brief file) old new cause (inr (inl h)) = by_limit (if_told old.told (λ folder c. limit_work folder ask form brief file cause c) h.1) (limit_status cause h.0)
ending last (solve_task ask form brief file) old new cause (inr (inr h)) = by_memory (ap cause_status h.0)
ending last (check_task ask form points answer) old new cause (inl h) = in_points last (check_task ask form points answer) form ask points old new cause (0, omega arith, refl) (check_refused ask form points answer cause) h
ending last (check_task ask form points answer) old new cause (inr h) = in_answer last ask form points answer old new cause h.0 h.1
ending last (demo_task ask seed count) old new cause (inl h) = by_memory (ap cause_status h)
ending last (demo_task ask seed count) old new cause (inr h) = in_demo last ask seed count old new cause h

-- the words are no task, or memory is wanting for them, or the task ends so
pub data RunEnding (last : Option ℕ) (words : List (List ℕ)) (old new : FilesState) (cause : Cause) : Type 0 where
  by_words : task_of words ≡ Err cause → cause_status cause ≡ Usage → RunEnding last words old new cause
  by_want : cause ≡ out_of_memory → RunEnding last words old new cause
  by_task : (task : Task) → task_of words ≡ Ok task → Ending last task old new cause → RunEnding last words old new cause

run_ending : (last : Option ℕ) (words : List (List ℕ)) (old new : FilesState) (cause : Cause) → TaskCause last words old new cause → RunEnding last words old new cause
run_ending last words old new cause (inl h) = by_words h.0 h.1
run_ending last words old new cause (inr (inl h)) = by_want h.0
run_ending last words old new cause (inr (inr h)) = by_task h.0 h.1 (ending last h.0 old new cause h.2)

-- ---- by its status

-- words that are no task
judge-none : (words : List (List ℕ)) (folder : Folder) (cause : Cause) → task_of words ≡ Err cause → judge words folder ≡ Err cause
judge-none words folder cause none = ap (judge_task folder) none

-- words that call for a task
judge-task : (words : List (List ℕ)) (folder : Folder) (task : Task) → task_of words ≡ Ok task → judge words folder ≡ work_of folder task
judge-task words folder task is = ap (judge_task folder) is

-- the status of input comes of a refusal
pub IsRefusal-cause : (last : Option ℕ) (words : List (List ℕ)) (old new : FilesState) (cause : Cause) → TaskCause last words old new cause → cause_status cause ≡ Input → IfSome old.told (λ folder. IsRefusal (judge words folder))
IsRefusal-cause last words old new cause h e = by_ending (run_ending last words old new cause h)
  where
    other : Input ≡ Memory → ⊥
    other f = cc

    by_ending : RunEnding last words old new cause → IfSome old.told (λ folder. IsRefusal (judge words folder))
    by_ending (by_words none usage) = where_told old.told (λ folder. subst IsRefusal (sym (judge-none words folder cause none)) e)
    by_ending (by_want is) = absurd (other (sym e ∙ ap cause_status is))
    by_ending (by_task task is (by_fault name there fault f)) = absurd cc
    by_ending (by_task task is (by_refusal refused f)) = if_told old.told (λ folder r. subst IsRefusal (sym (judge-task words folder task is ∙ r)) e) refused
    by_ending (by_task task is (by_limit many f)) = if_told old.told (λ folder r. subst IsRefusal (sym (judge-task words folder task is ∙ r.1)) r.2) many
    by_ending (by_task task is (by_memory f)) = absurd cc

-- the status of a read fault comes of a fault that was counted
pub TaskFault-cause : (last : Option ℕ) (words : List (List ℕ)) (old new : FilesState) (cause : Cause) → TaskCause last words old new cause → cause_status cause ≡ Read → TaskFault last words old new
TaskFault-cause last words old new cause h e = by_ending (run_ending last words old new cause h)
  where
    no_usage : Usage ≡ Read → ⊥
    no_usage f = cc

    no_memory : Memory ≡ Read → ⊥
    no_memory f = cc

    by_ending : RunEnding last words old new cause → TaskFault last words old new
    by_ending (by_words none usage) = absurd (no_usage (sym usage ∙ e))
    by_ending (by_want is) = absurd (no_memory (sym (ap cause_status is) ∙ e))
    by_ending (by_task task is (by_fault name there fault f)) = (task, name, is, there, fault)
    by_ending (by_task task is (by_refusal refused f)) = absurd cc
    by_ending (by_task task is (by_limit many f)) = absurd cc
    by_ending (by_task task is (by_memory f)) = absurd cc

-- ---- where no fault is counted

-- memory may be wanting for any work
MayEnd-memory : (judged : Result Work Cause) → MayEnd judged Memory
MayEnd-memory (Ok (solving ask points)) = inr (inr refl)
MayEnd-memory (Ok (sizing ask points)) = inr (inr refl)
MayEnd-memory (Ok (checking ask points report)) = inr (inr refl)
MayEnd-memory (Ok (demonstrating ask count points)) = inr (inr refl)
MayEnd-memory (Err cause) = inr refl

-- work that is too much ends with the status of input
MayEnd-limit : (work : Work) → IsTooMuch work → MayEnd (Ok work) Input
MayEnd-limit (solving ask points) many = inr (inl (many, refl))
MayEnd-limit (sizing ask points) many = inr (inl (many, refl))
MayEnd-limit (checking ask points report) many = absurd many
MayEnd-limit (demonstrating ask count points) many = inr (inl (many, refl))

-- a run that ends with a cause
pub MayEnd-cause : (P : Type 0) (last : Option ℕ) (words : List (List ℕ)) (old new : FilesState) (cause : Cause) (status : Status) → TaskCause last words old new cause → status ≡ cause_status cause
    → IfSome old.told (λ folder. (TaskFault last words old new → ⊥) → P → MayEnd (judge words folder) status)
MayEnd-cause P last words old new cause status h e = by_ending (run_ending last words old new cause h)
  where
    wanting : status ≡ Memory → IfSome old.told (λ folder. (TaskFault last words old new → ⊥) → P → MayEnd (judge words folder) status)
    wanting f = where_told old.told (λ folder no_fault p. subst (MayEnd (judge words folder)) (sym f) (MayEnd-memory (judge words folder)))

    by_ending : RunEnding last words old new cause → IfSome old.told (λ folder. (TaskFault last words old new → ⊥) → P → MayEnd (judge words folder) status)
    by_ending (by_words none usage) = where_told old.told (λ folder no_fault p. subst (λ judged. MayEnd judged status) (sym (judge-none words folder cause none)) (inl e))
    by_ending (by_want is) = wanting (e ∙ ap cause_status is)
    by_ending (by_task task is (by_fault name there fault f)) = where_told old.told (λ folder no_fault p. absurd (no_fault (task, name, is, there, fault)))
    by_ending (by_task task is (by_refusal refused f)) = if_told old.told (λ folder r no_fault p. subst (λ judged. MayEnd judged status) (sym (judge-task words folder task is ∙ r)) (inl e)) refused
    by_ending (by_task task is (by_limit many f)) =
        if_told old.told (λ folder r no_fault p. subst (MayEnd (judge words folder)) (sym (e ∙ f)) (subst (λ judged. MayEnd judged Input) (sym (judge-task words folder task is ∙ r.1)) (MayEnd-limit r.0 r.2))) many
    by_ending (by_task task is (by_memory f)) = wanting (e ∙ f)

-- a run that ends with its output
end_of_output : (output : Output) (work : Work) → IsMeantAs output work (outputs.bytes_of output) → MayEnd (Ok work) (outputs.status_of output)
end_of_output (Solution text) (solving ask points) h = inl (h.taken, refl)
end_of_output (Solution text) (sizing ask points) h = inl (h.taken, refl)
end_of_output (Solution text) (checking ask points report) h = inl (h.passes, refl)
end_of_output (Solution text) (demonstrating ask count points) h = inl (h.taken, refl)
end_of_output (Size text) (solving ask points) h = inl (h.taken, refl)
end_of_output (Size text) (sizing ask points) h = inl (h.taken, refl)
end_of_output (Size text) (checking ask points report) h = inl (h.passes, refl)
end_of_output (Size text) (demonstrating ask count points) h = inl (h.taken, refl)
end_of_output (Verdict true) (solving ask points) h = inl (h.taken, refl)
end_of_output (Verdict true) (sizing ask points) h = inl (h.taken, refl)
end_of_output (Verdict true) (checking ask points report) h = inl (h.passes, refl)
end_of_output (Verdict true) (demonstrating ask count points) h = inl (h.taken, refl)
end_of_output (Verdict false) (solving ask points) h = absurd h
end_of_output (Verdict false) (sizing ask points) h = absurd h
end_of_output (Verdict false) (checking ask points report) h = inr (inl (h.fails, refl))
end_of_output (Verdict false) (demonstrating ask count points) h = absurd h
end_of_output (Demonstration text) (solving ask points) h = inl (h.taken, refl)
end_of_output (Demonstration text) (sizing ask points) h = inl (h.taken, refl)
end_of_output (Demonstration text) (checking ask points report) h = inl (h.passes, refl)
end_of_output (Demonstration text) (demonstrating ask count points) h = inl (h.taken, refl)

pub MayEnd-output : (P Q : Type 0) (words : List (List ℕ)) (old : FilesState) (output : Output) (status : Status) → OutputBy (IsMeantAs output) words old (outputs.bytes_of output) → status ≡ outputs.status_of output
    → IfSome old.told (λ folder. P → Q → MayEnd (judge words folder) status)
MayEnd-output P Q words old output status h e =
    if_told old.told (λ folder made p q. subst (λ judged. MayEnd judged status) (sym made.1) (subst (λ s. MayEnd (Ok made.0) s) (sym e) (end_of_output output made.0 made.2))) h

-- ---- what was written

-- what an output is meant as is an output of the work
is_output : (output : Output) (work : Work) (bytes : List ℕ) → IsMeantAs output work bytes → IsOutput work bytes
is_output (Solution text) work bytes h = inl h
is_output (Size text) work bytes h = inl h
is_output (Verdict true) work bytes h = inl h
is_output (Verdict false) work bytes h = inr h
is_output (Demonstration text) work bytes h = inl h

-- a prefix of an output was written
pub wrote_prefix : (words : List (List ℕ)) (old : FilesState) (output : Output) (before now : SinkState) (slice : List ℕ) → slice ≡ outputs.bytes_of output
    → OutputBy (IsMeantAs output) words old (outputs.bytes_of output) → AppendedPrefix before now slice → WrotePrefix words old before now
wrote_prefix words old output before now slice is made prefix =
    if_told old.told (λ folder h. (h.0, outputs.bytes_of output, h.1, is_output output h.0 (outputs.bytes_of output) h.2, subst (AppendedPrefix before now) is prefix)) made

-- what an output is meant as is done, where its status says so
is_done : (output : Output) (work : Work) (bytes : List ℕ) → outputs.status_of output ≡ Done → IsMeantAs output work bytes → IsDone work bytes
is_done (Solution text) work bytes done h = h
is_done (Size text) work bytes done h = h
is_done (Verdict true) work bytes done h = h
is_done (Verdict false) work bytes done h = absurd cc
is_done (Demonstration text) work bytes done h = h

-- the whole output of a work that is done was written
pub wrote_done : (words : List (List ℕ)) (old : FilesState) (output : Output) (before now : SinkState) (slice : List ℕ) (status : Status) → slice ≡ outputs.bytes_of output
    → OutputBy (IsMeantAs output) words old (outputs.bytes_of output) → Appended before now slice → status ≡ outputs.status_of output → status ≡ Done → Wrote IsDone words old before now
wrote_done words old output before now slice status is made all ends done =
    if_told old.told (λ folder h. (h.0, outputs.bytes_of output, h.1, is_done output h.0 (outputs.bytes_of output) (sym ends ∙ done) h.2, subst (Appended before now) is all)) made
