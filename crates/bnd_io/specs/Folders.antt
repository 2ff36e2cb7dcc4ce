-- Named files in memory, of which at most one is open.
use Rattle.std.specs.Prelude.{ℕ, ◌+◌, Bool, true, false, ◌||◌, ◌==◌, List, [], ◌∷◌, drop}
use Rattle.std.specs.declared.option.Option.TheVariants.{Some}
use Rattle.bnd_io.specs.Files.{Folder, FilesState, bytes_of, at_most_u64, grown}

-- named files at one time: their names with their bytes, and the offset in the open one
pub record FolderView : Type 0 where
  pub folder : Folder
  pub is_open : Bool
  pub left : List ℕ
  pub taken : ℕ
  pub ended : Bool
  -- how many bytes the reads gave over all opens
  pub total : ℕ

-- no files
abbrev pub no_files : FolderView
no_files = record { folder = []; is_open = false; left = []; taken = 0; ended = false; total = 0 }

-- with one file more, which goes before those of the same name
abbrev pub with_file : FolderView → List ℕ → List ℕ → FolderView
with_file f name bytes = record f { folder = (name, bytes) ∷ f.folder }

-- the file of this name is open, at its first byte
abbrev pub at_start : FolderView → List ℕ → FolderView
at_start f name = record f { is_open = true; left = bytes_of f.folder name; taken = 0; ended = false }

-- no file is open
abbrev pub closed : FolderView → FolderView
closed f = record f { is_open = false; left = [] }

-- after a read of n bytes
abbrev pub behind : FolderView → ℕ → FolderView
behind f n = record f { left = drop n f.left; taken = at_most_u64 (f.taken + n); ended = f.ended || (n == 0); total = grown f.total n }

-- they tell their files, have one count of each kind of fault for all names, and count no opens
abbrev pub told_files : FolderView → ℕ → ℕ → FilesState
told_files f open_faults read_faults = record {
  is_open = f.is_open;
  is_open_name = λ _. f.is_open;
  open_faults = λ _. open_faults;
  read_faults = λ _. read_faults;
  taken = f.taken;
  ended = f.ended;
  total = f.total;
  opens = λ _. 0;
  told = Some f.folder;
  left = f.left;
}
