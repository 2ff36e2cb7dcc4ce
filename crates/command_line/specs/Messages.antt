-- What `{}` prints of an error.
use Rattle.std.specs.Prelude.{ℕ, List, ◌++◌, codes}
use Rattle.bounds_model.specs.ErrorLines.{option_name}
use Rattle.command_line.specs.Faults.{meant_option}
use Rattle.command_line.specs.declared.fault.UsageFault.{UsageFault}
use Rattle.command_line.specs.declared.fault.UsageFault.TheVariants.{Words, UnknownCommand, FileCount, MissingOption, UnneededOption, BadValue, OutOfMemory}

-- why words are no task
abbrev pub usage_message : UsageFault → List ℕ
usage_message Words = codes "words are not understood"
usage_message UnknownCommand = codes "unknown command"
usage_message FileCount = codes "wrong number of files"
usage_message (MissingOption option) = codes "option --" ++ (option_name (meant_option option) ++ codes " is missing")
usage_message (UnneededOption option) = codes "option --" ++ (option_name (meant_option option) ++ codes " is not used here")
usage_message (BadValue option) = codes "option --" ++ (option_name (meant_option option) ++ codes " has a bad value")
usage_message OutOfMemory = codes "out of memory"
