use Rattle.std.proofs.Common.{◌≡◌, true, false, sym}
use Rattle.bnd_io.specs.FolderFields.{folder_of}
use Rattle.bnd_io.proofs.FileIndices.{no_bytes}
use Rattle.bnd_io.proofs.folder.named.Goals as goal

pub returns-in-None-clause-bytes : goal.returns-in-None-clause-bytes
returns-in-None-clause-bytes c = sym (no_bytes (folder_of c.args.files.now) c.args.name.now (λ there. let no : false ≡ true = c.in-None.ensures.found.1 there in absurd cc))
