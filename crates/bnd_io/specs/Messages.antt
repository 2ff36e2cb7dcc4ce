-- What `{}` prints of an error.
use Rattle.std.specs.Prelude.{ℕ, List, codes}
use Rattle.bnd_io.specs.declared.loading.LoadFault.{LoadFault}
use Rattle.bnd_io.specs.declared.loading.LoadFault.TheVariants.{ReadFailed, TooLong, OutOfMemory}

-- why a file was not loaded
abbrev pub load_message : LoadFault → List ℕ
load_message ReadFailed = codes "the file cannot be read"
load_message TooLong = codes "the file is too long"
load_message OutOfMemory = codes "out of memory"
