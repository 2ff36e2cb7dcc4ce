-- What `{}` prints of an error.
use Rattle.std.specs.Prelude.{ℕ, List, ◌++◌, decimal, codes}
use Rattle.extremal_kgon.specs.declared.polygon.KgonFault.{KgonFault}
use Rattle.extremal_kgon.specs.declared.polygon.KgonFault.TheVariants.{TooManyCorners, OutOfMemory}

-- why a question has no answer
abbrev pub kgon_message : KgonFault → List ℕ
kgon_message (TooManyCorners count) = decimal count ++ codes " corners, at most 128 are taken"
kgon_message OutOfMemory = codes "out of memory"
