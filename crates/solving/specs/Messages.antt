-- What `{}` prints of an error.
use Rattle.std.specs.Prelude.{ℕ, List, ◌++◌, decimal, codes}
use Rattle.solving.specs.declared.fault.SolveFault.{SolveFault}
use Rattle.solving.specs.declared.fault.SolveFault.TheVariants.{TooManyCorners, TooManyPoints, OutOfMemory}

-- why a question has no answer
abbrev pub solve_message : SolveFault → List ℕ
solve_message (TooManyCorners count) = decimal count ++ codes " corners, at most 128 are taken"
solve_message (TooManyPoints count) = decimal count ++ codes " points, at most 1000 are taken for four centres"
solve_message OutOfMemory = codes "out of memory"
