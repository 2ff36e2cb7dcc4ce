use Rattle.std.proofs.Common.{◌≡◌, drop}
use Rattle.bnd_io.specs.Files.{bytes_of, has_name}
use Rattle.bnd_io.specs.FolderFields.{folder_of}
use Rattle.bnd_io.proofs.folder.index_of.Given as goal

abbrev pub invariant-loop-i : goal.invariant-loop-i
invariant-loop-i l = record {
  bytes : bytes_of (folder_of (drop l.i l.files)) l.name ≡ bytes_of (folder_of l.files) l.name;
  found : has_name (folder_of (drop l.i l.files)) l.name ≡ has_name (folder_of l.files) l.name;
}
