-- What `{}` prints of an error.
use Rattle.std.specs.Prelude.{ℕ, List, ◌++◌, decimal, codes}
use Rattle.point_text.specs.declared.text.TextFault.{TextFault}
use Rattle.point_text.specs.declared.text.TextFault.TheVariants.{BadLine, OutOfRange, TooMany, NoPoints, WrongSets, OutOfMemory}

-- why a text was refused
abbrev pub text_message : TextFault → List ℕ
text_message (BadLine line) = codes "line " ++ (decimal line ++ codes " is not a point")
text_message (OutOfRange line) = codes "line " ++ (decimal line ++ codes " is out of range")
text_message (TooMany line) = codes "line " ++ (decimal line ++ codes " is one point too many")
text_message (NoPoints set) = codes "set " ++ (decimal set ++ codes " has no points")
text_message (WrongSets count) = codes "found " ++ (decimal count ++ codes " sets")
text_message OutOfMemory = codes "out of memory"
