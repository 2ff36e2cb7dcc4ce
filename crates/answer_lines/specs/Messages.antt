-- What `{}` prints of an error.
use Rattle.std.specs.Prelude.{ℕ, List, ◌++◌, decimal, codes}
use Rattle.answer_lines.specs.declared.fault.ReadFault.{ReadFault}
use Rattle.answer_lines.specs.declared.fault.ReadFault.TheVariants.{BadAnswer, BigNumber, OutOfMemory}

-- why an answer text was refused
abbrev pub read_message : ReadFault → List ℕ
read_message (BadAnswer line) = codes "line " ++ (decimal line ++ codes " is not understood")
read_message (BigNumber line) = codes "line " ++ (decimal line ++ codes " has a number past the limit")
read_message OutOfMemory = codes "out of memory"
