-- Too many points, or corners, as the cause of a run.
use Rattle.std.proofs.Common.{◌≡◌, refl, ◌⊎◌, inl, inr, sym, subst, ℕ, ◌<◌, Bool, List, Option, Some, None, Result, Ok, Err, IfSome}
use Rattle.bounds_model.specs.Asks as model
use Rattle.bounds_model.specs.Asks.{Sets, ask_kgon, ask_four, plane, PointFile}
use Rattle.bounded_coords.specs.declared.ask.Ask.{Ask}
use Rattle.bounded_coords.specs.Asked.{asked}
use Rattle.point_text.specs.declared.text.Form.{Form}
use Rattle.solving.specs.declared.fault.SolveFault.{SolveFault}
use Rattle.solving.specs.declared.fault.SolveFault.TheVariants.{TooManyCorners, TooManyPoints, OutOfMemory}
use Rattle.bnd_io.specs.Files.{Folder, FilesState, bytes_of}
use Rattle.command_line.specs.Words.{solve_task}
use Rattle.bounds_tool.specs.Causes.{unsolved}
use Rattle.bounds_tool.specs.Judging.{points_in}
use Rattle.solving.specs.Solving.{HasTooManyCorners, HasTooManyPoints, IsUnsolved}
use Rattle.bounds_tool.specs.Run.{ComesOf}
use Rattle.bounds_tool.proofs.OpenedFiles.{accepted}

-- more than 128
many : (ask : model.Ask) (sets : Sets) (count : ℕ) → HasTooManyCorners ask sets count → 128 < count
many (ask_kgon k) (plane points) count h = h.too_many
many ask sets count h = absurd h

-- more than 1000
many_points : (ask : model.Ask) (sets : Sets) (count : ℕ) → HasTooManyPoints ask sets count → 1000 < count
many_points ask_four (plane points) count h = subst (λ n. 1000 < n) (sym h.0) h.1
many_points ask sets count h = absurd h

-- what holds of the points in each folder
where_read : (told : Option Folder) (form : Form) (ask : model.Ask) (file : List ℕ) (points : PointFile) (P : PointFile → Type 0) → P points → IfSome told (λ folder. points_in form ask (bytes_of folder file) ≡ Ok points)
    → IfSome told (λ folder. (points : PointFile) × (points_in form ask (bytes_of folder file) ≡ Ok points) × P points)
where_read None form ask file points P p read = tt
where_read (Some folder) form ask file points P p read = (points, read, p)

-- why the points of a file were not answered for
pub unsolved_file : (last : Option ℕ) (ask : Ask) (form : Form) (brief : Bool) (file : List ℕ) (old new : FilesState) (points : PointFile) (fault : SolveFault)
    → IfSome old.told (λ folder. points_in form (asked ask) (bytes_of folder file) ≡ Ok points) → IsUnsolved ask points.sets fault
    → ComesOf last (solve_task (asked ask) form brief file) old new (unsolved fault)
unsolved_file last ask form brief file old new points (TooManyCorners count) read h =
    inr (inl (many (asked ask) points.sets count h, where_read old.told form (asked ask) file points (λ points. HasTooManyCorners (asked ask) points.sets count) h read))
unsolved_file last ask form brief file old new points (TooManyPoints count) read h =
    inr (inl (many_points (asked ask) points.sets count h, where_read old.told form (asked ask) file points (λ points. HasTooManyPoints (asked ask) points.sets count) h read))
unsolved_file last ask form brief file old new points OutOfMemory read h = inr (inr (refl, accepted old.told (λ folder. points_in form (asked ask) (bytes_of folder file)) points read))
