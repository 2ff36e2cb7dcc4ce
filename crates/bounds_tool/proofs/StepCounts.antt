-- How often points are read.
use Rattle.std.proofs.Common.{◌≡◌, refl, sym, subst, ℕ, ◌+◌, ◌≤◌, Bool, List, Option, Some, None, Result, Ok, Err, IfSome, arith}
use Rattle.bounds_model.specs.Asks.{Ask, ask_centres, ask_four, PointFile}
use Rattle.bounds_model.specs.ErrorLines.{Cause}
use Rattle.point_text.specs.declared.text.Form.{Form}
use Rattle.bnd_io.specs.Files.{Folder, FilesState, bytes_of}
use Rattle.command_line.specs.Words.{solve_task}
use Rattle.bounds_tool.specs.Judging.{points_in}
use Rattle.solving.specs.Solving.{point_count, steps_of_four}
use Rattle.bounds_tool.specs.Run.{StepsOfTask, StepsOfPoints, steps_of_centres}

-- the steps for points of a file as told
told_steps : (most : ℕ → ℕ) (form : Form) (ask : Ask) (file : List ℕ) (points : PointFile) (before now : ℕ) (told : Option Folder) → now ≤ before + most (point_count points.sets)
    → IfSome told (λ folder. points_in form ask (bytes_of folder file) ≡ Ok points) → IfSome told (λ folder. StepsOfPoints most (points_in form ask (bytes_of folder file)) before now)
told_steps most form ask file points before now None few e = tt
told_steps most form ask file points before now (Some folder) few e = subst (λ (r : Result PointFile Cause). StepsOfPoints most r before now) (sym e) few

-- the steps of an answer are those of its task
pub file_steps : (ask : Ask) (form : Form) (brief : Bool) (file : List ℕ) (old : FilesState) (points : PointFile) (before now : ℕ) → IfSome old.told (λ folder. points_in form ask (bytes_of folder file) ≡ Ok points)
    → ((p : ℕ) → ask ≡ ask_centres p → now ≤ before + steps_of_centres (point_count points.sets)) → (ask ≡ ask_four → now ≤ before + steps_of_four (point_count points.sets))
    → StepsOfTask (Ok (solve_task ask form brief file)) old before now
file_steps (ask_centres p) form brief file old points before now read few few_for_four = told_steps steps_of_centres form (ask_centres p) file points before now old.told (few p refl) read
file_steps ask_four form brief file old points before now read few few_for_four = told_steps steps_of_four form ask_four file points before now old.told (few_for_four refl) read
file_steps ask form brief file old points before now read few few_for_four = tt

-- no steps are those of any points
no_steps_of : (most : ℕ → ℕ) (r : Result PointFile Cause) (steps : ℕ) → StepsOfPoints most r steps steps
no_steps_of most (Ok points) steps = omega arith
no_steps_of most (Err cause) steps = refl

told_no_steps : (most : ℕ → ℕ) (form : Form) (ask : Ask) (file : List ℕ) (steps : ℕ) (told : Option Folder) → IfSome told (λ folder. StepsOfPoints most (points_in form ask (bytes_of folder file)) steps steps)
told_no_steps most form ask file steps None = tt
told_no_steps most form ask file steps (Some folder) = no_steps_of most (points_in form ask (bytes_of folder file)) steps

-- no steps are those of every task with a file
pub no_steps : (ask : Ask) (form : Form) (brief : Bool) (file : List ℕ) (old : FilesState) (steps : ℕ) → StepsOfTask (Ok (solve_task ask form brief file)) old steps steps
no_steps (ask_centres p) form brief file old steps = told_no_steps steps_of_centres form (ask_centres p) file steps old.told
no_steps ask_four form brief file old steps = told_no_steps steps_of_four form ask_four file steps old.told
no_steps ask form brief file old steps = tt
