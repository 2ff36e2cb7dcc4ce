-- What the contract of the top call comes to for two runs.
use Rattle.std.specs.Prelude.{◌≡◌, ◌⊎◌, ℕ, List}
use Rattle.std.specs.declared.result.Result.TheVariants.{Ok}
use Rattle.bounds_model.specs.Asks.{Ask, PointFile}
use Rattle.point_text.specs.declared.text.Form.{Form}
use Rattle.bnd_io.specs.Files.{Folder, bytes_of}
use Rattle.command_line.specs.Words.{check_task}
use Rattle.bounds_tool.specs.declared.status.Status.{Status}
use Rattle.bounds_tool.specs.declared.status.Status.TheVariants.{Done, Memory}
use Rattle.bounds_tool.specs.Judging.{points_in, work_of}
use Rattle.bounds_tool.specs.Outputs.{IsSolution}
use Rattle.bounds_tool.specs.Run.{MayEnd}

-- where the answer file holds what a solving run wrote for the same points, a run that judges it may end with yes, or for want of memory, and in no other way
abbrev pub WrittenIsConfirmed : Type 0
WrittenIsConfirmed =
    (folder : Folder) (ask : Ask) (form : Form) (points answer : List ℕ) (whole : PointFile) (status : Status)
    → points_in form ask (bytes_of folder points) ≡ Ok whole → IsSolution ask whole (bytes_of folder answer)
    → MayEnd (work_of folder (check_task ask form points answer)) status → (status ≡ Done) ⊎ (status ≡ Memory)
