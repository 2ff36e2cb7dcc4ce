-- Why a run gives no whole output, in the words of the model.
use Rattle.std.specs.declared.option.Option.{Option}
use Rattle.std.specs.declared.option.Option.TheVariants.{Some, None}
use Rattle.bounds_model.specs.PointText.{Refusal}
use Rattle.bounds_model.specs.ErrorLines as model
use Rattle.command_line.specs.Faults.{meant_fault}
use Rattle.point_text.specs.Refusals.{refusal_of}
use Rattle.solving.specs.declared.fault.SolveFault as solving
use Rattle.answer_lines.specs.declared.fault.ReadFault as answer
use Rattle.bounds_tool.specs.declared.cause.InputFile.{InputFile}
use Rattle.bounds_tool.specs.declared.cause.InputFile.TheVariants as input
use Rattle.bounds_tool.specs.Judging.{points_cause}
use Rattle.bounds_tool.specs.declared.cause.Cause.{Cause}
use Rattle.bounds_tool.specs.declared.cause.Cause.TheVariants.{Usage, NotOpened, NotRead, TooLong, Points, Answer, Solving, OutputNotWritten, OutOfMemory}

-- the file
abbrev pub meant_file : InputFile → model.InputFile
meant_file input.Points = model.points_file
meant_file input.Answer = model.answer_file

-- the cause of a text of points without its sets: it is refused, or else memory is wanting
abbrev pub without_sets : Option Refusal → model.Cause
without_sets (Some refusal) = points_cause refusal
without_sets None = model.out_of_memory

-- the cause of a text without its answer
abbrev pub unread : answer.ReadFault → model.Cause
unread (answer.TheVariants.BadAnswer line) = model.bad_answer line
unread (answer.TheVariants.BigNumber line) = model.big_number line
unread answer.TheVariants.OutOfMemory = model.out_of_memory

-- the cause of a question without an answer
abbrev pub unsolved : solving.SolveFault → model.Cause
unsolved (solving.TheVariants.TooManyCorners count) = model.too_many_corners count
unsolved (solving.TheVariants.TooManyPoints count) = model.too_many_for_four count
unsolved solving.TheVariants.OutOfMemory = model.out_of_memory

-- the cause
abbrev pub meant : Cause → model.Cause
meant (Usage fault) = meant_fault fault
meant (NotOpened file) = model.open_fault (meant_file file)
meant (NotRead file) = model.read_fault (meant_file file)
meant (TooLong file) = model.too_long (meant_file file)
meant (Points fault) = without_sets (refusal_of fault)
meant (Answer fault) = unread fault
meant (Solving fault) = unsolved fault
meant OutputNotWritten = model.write_fault
meant OutOfMemory = model.out_of_memory
