-- What the fields of named files in memory stand for.
use Rattle.std.specs.Prelude.{⊤, ℕ, ◌<◌, ◌≤◌, Bool, true, false, List, [], map, length, drop, string_bytes, slice_get}
use Rattle.std.specs.declared.option.Option.{Option}
use Rattle.std.specs.declared.option.Option.TheVariants.{Some, None}
use Rattle.bnd_io.specs.Files.{Folder}
use Rattle.bnd_io.specs.Folders.{FolderView}
use Rattle.bnd_io.specs.declared.folder.NamedFile.{NamedFile}
use Rattle.bnd_io.specs.declared.folder.Current.{Current}
use Rattle.bnd_io.specs.declared.folder.Current.TheVariants.{Closed, Absent, File}
use Rattle.bnd_io.specs.declared.folder.OpenFolder.TheInside.{Inside}

-- the files, by name
abbrev pub folder_of : List NamedFile → Folder
folder_of files = map (λ f. (string_bytes f.name, f.bytes.items)) files

-- a file is open
abbrev pub is_open : Current → Bool
is_open Closed = false
is_open Absent = true
is_open (File i) = true

-- the bytes of the file at an index
abbrev pub bytes_at : List NamedFile → ℕ → List ℕ
bytes_at files i = bytes_in (slice_get files i) where
  bytes_in : Option NamedFile → List ℕ
  bytes_in None = []
  bytes_in (Some f) = f.bytes.items

-- the bytes of the open file
abbrev pub open_bytes : List NamedFile → Current → List ℕ
open_bytes files Closed = []
open_bytes files Absent = []
open_bytes files (File i) = bytes_at files i

-- the index of the open file is one of the files
abbrev pub IsOfListedFile : List NamedFile → Current → Type 0
IsOfListedFile files Closed = ⊤
IsOfListedFile files Absent = ⊤
IsOfListedFile files (File i) = i < length files

abbrev pub folder_view : Inside → FolderView
folder_view m = record {
  folder = folder_of m.files.items;
  is_open = is_open m.current;
  left = drop m.at (open_bytes m.files.items m.current);
  taken = m.taken;
  ended = m.ended;
  total = m.total;
}

pub record IsSound (m : Inside) : Type 0 where
  pub current : IsOfListedFile m.files.items m.current
  pub at : m.at ≤ length (open_bytes m.files.items m.current)
