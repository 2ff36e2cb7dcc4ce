-- What a run does with a counter of its own.
use Rattle.std.specs.Prelude.{◌≡◌, ◌≢◌, ◌⊎◌, ℕ, ◌≤◌, max, List, [], IfSome, IsErr}
use Rattle.std.specs.declared.option.Option.{Option}
use Rattle.bnd_io.specs.Faults.{Rose}
use Rattle.bnd_io.specs.Files.{FilesState, Continues, NoFault}
use Rattle.bnd_io.specs.Sinks.{SinkState, Appended}
use Rattle.command_line.specs.Words.{task_of}
use Rattle.bounds_tool.specs.Judging.{judge}
use Rattle.bounds_tool.specs.Outputs.{IsDone, IsRejection}
use Rattle.bounds_tool.specs.Run.{IsCheck, IsRefusal, MayEnd, TaskFault, Wrote, WrotePrefix, WroteDemo, ToldWhy, ReadToEnd, ReadsOfTask, most_taken}
use Rattle.bounds_tool.specs.declared.status.Status.{Status}
use Rattle.bounds_tool.specs.declared.status.Status.TheVariants.{Done, No, Usage, Input, Read, Write, Memory}

-- Each clause of the top call, under its name there, but for the counter. It speaks of the words, of the files before and after, of the output and of the
-- sink for error lines before and after, and of the status.
pub record Runs (files_last out_last err_last : Option ℕ) (words : List (List ℕ)) (files files_left : FilesState)
    (out out_left err err_left : SinkState) (status : Status) : Type 0 where
  pub done : status ≡ Done → Wrote IsDone words files out out_left
  pub no : status ≡ No → Wrote IsRejection words files out out_left
  pub to_its_end : (status ≡ Done) ⊎ (status ≡ No) → ReadToEnd (task_of words) files files_left
  pub verdict : status ≡ No → IsCheck (task_of words)
  pub demo : status ≡ Done → WroteDemo (task_of words) out out_left
  pub usage : status ≡ Usage → IsErr (task_of words)
  pub words_refused : IsErr (task_of words) → (status ≡ Usage) ⊎ (status ≡ Memory)
  pub input : status ≡ Input → IfSome files.told (λ folder. IsRefusal (judge words folder))
  pub read : status ≡ Read → TaskFault files_last words files files_left
  pub write : status ≡ Write → Rose out_last out.faults out_left.faults
  pub complete : IfSome files.told (λ folder. (TaskFault files_last words files files_left → ⊥)
      → (Rose out_last out.faults out_left.faults → ⊥) → MayEnd (judge words folder) status)
  pub nothing : status ≢ Done → status ≢ No → status ≢ Write → Appended out out_left []
  pub prefix : status ≡ Write → WrotePrefix words files out out_left
  pub untouched : status ≡ Usage → files_left ≡ files
  pub most : files_left.taken ≤ max files.taken (most_taken (task_of words))
  pub reads : ReadsOfTask (task_of words) files files_left
  pub no_fault : status ≢ Read → NoFault files files_left
  pub no_write_fault : status ≢ Write → out_left.faults ≡ out.faults
  pub continues : Continues files files_left
  pub told : status ≢ Done → status ≢ No → ToldWhy files_last err_last words files files_left status err err_left
  pub silent : (status ≡ Done) ⊎ (status ≡ No) → err_left ≡ err
