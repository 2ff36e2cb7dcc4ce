-- What `{}` prints of an error.
use Rattle.std.specs.Prelude.{ℕ, List, codes}
use Rattle.bounded_coords.specs.declared.points.PushFault.{PushFault}
use Rattle.bounded_coords.specs.declared.points.PushFault.TheVariants.{Full, OutOfMemory}

-- why a point was not added
abbrev pub push_message : PushFault → List ℕ
push_message Full = codes "the list has 10000 points"
push_message OutOfMemory = codes "out of memory"
