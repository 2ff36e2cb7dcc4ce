-- Why a text is refused, in the words of the model.
use Rattle.std.specs.Prelude.{◌≡◌, IfSome}
use Rattle.std.specs.declared.option.Option.{Option}
use Rattle.std.specs.declared.option.Option.TheVariants.{Some, None}
use Rattle.std.specs.declared.result.Result.{Result}
use Rattle.std.specs.declared.result.Result.TheVariants.{Ok, Err}
use Rattle.bounds_model.specs.Asks.{PointFile}
use Rattle.bounds_model.specs.PointText.{Refusal, bad_line, out_of_range, too_many, no_points, wrong_sets}
use Rattle.point_text.specs.declared.text.TextFault.{TextFault}
use Rattle.point_text.specs.declared.text.TextFault.TheVariants.{BadLine, OutOfRange, TooMany, NoPoints, WrongSets, OutOfMemory}

-- the refusal that a fault reports, or none where memory was refused
abbrev pub refusal_of : TextFault → Option Refusal
refusal_of (BadLine line) = Some (bad_line line)
refusal_of (OutOfRange line) = Some (out_of_range line)
refusal_of (TooMany line) = Some (too_many line)
refusal_of (NoPoints set) = Some (no_points set)
refusal_of (WrongSets count) = Some (wrong_sets count)
refusal_of OutOfMemory = None

-- the outcome is what was judged, or memory was refused
abbrev pub Answers : Result PointFile TextFault → Result PointFile Refusal → Type 0
Answers (Ok file) judged = judged ≡ Ok file
Answers (Err fault) judged = IfSome (refusal_of fault) (λ refusal. judged ≡ Err refusal)
