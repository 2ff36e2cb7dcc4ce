-- What a function leaves of the files that it reads.
use Rattle.std.specs.Prelude.{◌≡◌, ℕ, ◌≤◌, max, List, [], ◌∷◌, OnOk, IfErr}
use Rattle.std.specs.declared.result.Result.{Result}
use Rattle.bounds_model.specs.ErrorLines as model
use Rattle.bounds_model.specs.ErrorLines.{InputFile}
use Rattle.bnd_io.specs.Files.{FilesState, NoFault}
use Rattle.command_line.specs.Words.{Task}
use Rattle.bounds_tool.specs.declared.cause.Cause.{Cause}
use Rattle.bounds_tool.specs.Causes.{meant}
use Rattle.bounds_tool.specs.Run.{IsOfFault, IsReadToEnd, ReadsOnly, ReadsOfTask, ReadToEnd, most_of, most_taken}

-- no count of faults rose, unless the cause names a fault
abbrev pub NoUnnamedFault : {T : Type 0} → FilesState → FilesState → Result T Cause → Type 0
NoUnnamedFault old new result = IfErr result (λ cause. ¬ IsOfFault (meant cause)) → NoFault old new

-- one file of this name and no other was opened and read, and to its end where that ends well
pub record ReadFrom {T : Type 0} (file : InputFile) (name : List ℕ) (old new : FilesState) (result : Result T Cause) : Type 0 where
  pub reads : ReadsOnly (name ∷ []) (most_of file) old new
  pub most : new.taken ≤ max old.taken (most_of file)
  pub no_fault : NoUnnamedFault old new result
  pub to_its_end : OnOk result (IsReadToEnd name new)

-- the files of a task and no others were, and the last of them to its end where that ends well
pub record LeftBy {T : Type 0} (task : Result Task model.Cause) (old new : FilesState) (result : Result T Cause) : Type 0 where
  pub reads : ReadsOfTask task old new
  pub most : new.taken ≤ max old.taken (most_taken task)
  pub no_fault : NoUnnamedFault old new result
  pub to_its_end : OnOk result (ReadToEnd task old new)
