-- Files and sinks in memory that never fail, as contracts see them.
use Rattle.std.specs.Prelude.{ℕ, ◌+◌, ◌^◌, Bool, ◌||◌, nat_lt, List, [], ◌++◌, length, take, if◌then◌else◌}
use Rattle.std.specs.declared.option.Option.TheVariants.{Some, None}
use Rattle.bnd_io.specs.Files.{FilesState}
use Rattle.bnd_io.specs.Folders.{FolderView, told_files}
use Rattle.bnd_io.specs.Sinks.{SinkState}

-- they tell their files, and no fault is ever counted
abbrev pub sure_files : FolderView → FilesState
sure_files f = told_files f 0 0

-- a sink that never fails at one time
pub record SureSinkView : Type 0 where
  -- the first bytes that were written, at most 2^23
  pub bytes : List ℕ
  -- whether more were written, and dropped
  pub dropped : Bool

-- it tells its bytes while none was dropped, and no fault is ever counted
abbrev pub sure_sink : SureSinkView → SinkState
sure_sink s = record { faults = 0; told = if s.dropped then None else Some s.bytes; refused = [] }

-- after these bytes were written
abbrev pub kept_on : SureSinkView → List ℕ → SureSinkView
kept_on s piece = record { bytes = take (2 ^ 23) (s.bytes ++ piece); dropped = s.dropped || nat_lt (2 ^ 23) (length s.bytes + length piece) }
