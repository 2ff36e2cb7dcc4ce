-- What checking an answer takes.
use Rattle.std.specs.Prelude.{⊤}
use Rattle.bounded_coords.specs.declared.ask.Ask.{Ask}
use Rattle.bounded_coords.specs.declared.ask.Ask.TheVariants.{Empty}

-- the kinds whose answers are not checked without memory
abbrev pub WantsMemory : Ask → Type 0
WantsMemory (Empty frame) = ⊤
WantsMemory ask = ⊥
