-- What a run may write.
use Rattle.std.specs.Prelude.{◌≡◌, ◌⊎◌, ℕ, true, false, List, ◌++◌, codes, decimal}
use Rattle.bounds_model.specs.Fractions.{Fraction}
use Rattle.bounds_model.specs.Asks.{Ask, PointFile}
use Rattle.bounds_model.specs.Answers.{IsFirstOfBest}
use Rattle.bounds_model.specs.Reports.{Report, PassesAt, IsBestAt, IsOptimumAt}
use Rattle.bounds_model.specs.AnswerText.Written.{size_line}
use Rattle.bounds_model.specs.AnswerText.Spelling.{SpellsReport}
use Rattle.solving.specs.Solving.{AreTooMany}
use Rattle.bounds_tool.specs.Judging.{Work, solving, sizing, checking, demonstrating}
use Rattle.bounds_tool.specs.declared.output.Output.{Output}
use Rattle.bounds_tool.specs.declared.output.Output.TheVariants.{Solution, Size, Verdict, Demonstration}
use Rattle.bounds_tool.specs.declared.status.Status.{Status}
use Rattle.bounds_tool.specs.declared.status.Status.TheVariants.{Done, No}

-- the bytes spell a report that passes the checker at the scale of the points, no object of the kind that fits the true points is better, of all best strips,
-- rectangles and polygons its object is the first, and the points are not too many for what is asked
pub record IsSolution (ask : Ask) (points : PointFile) (bytes : List ℕ) : Type 0 where
  pub report : Report
  pub spells : SpellsReport bytes report
  pub passes : PassesAt ask points report
  pub best : IsBestAt ask points report
  pub first : IsFirstOfBest ask points.sets report.answer
  pub taken : ¬ AreTooMany ask points.sets

-- the line of the size of a best report in lowest terms, for points that are not too many
pub record IsSize (ask : Ask) (points : PointFile) (bytes : List ℕ) : Type 0 where
  pub size : Fraction
  pub optimum : IsOptimumAt ask points size
  pub taken : ¬ AreTooMany ask points.sets
  pub line : bytes ≡ size_line size

-- the report passes the checker at the scale of the points, no object of the kind that fits the true points is better than its object, and of all best strips,
-- rectangles and polygons it is the first
pub record IsYes (ask : Ask) (points : PointFile) (report : Report) (bytes : List ℕ) : Type 0 where
  pub passes : PassesAt ask points report
  pub best : IsBestAt ask points report
  pub first : IsFirstOfBest ask points.sets report.answer
  pub yes : bytes ≡ codes "yes\n"

-- the report does not pass the checker
pub record IsNo (ask : Ask) (points : PointFile) (report : Report) (bytes : List ℕ) : Type 0 where
  pub fails : ¬ PassesAt ask points report
  pub no : bytes ≡ codes "no\n"

-- the line of how many points were made in each set
abbrev pub made_line : ℕ → List ℕ
made_line count = codes "made " ++ (decimal count ++ codes "\n")

-- that line, and the size of a best report in lowest terms, for points that are not too many
pub record IsDemonstration (ask : Ask) (count : ℕ) (points : PointFile) (bytes : List ℕ) : Type 0 where
  pub size : Fraction
  pub optimum : IsOptimumAt ask points size
  pub taken : ¬ AreTooMany ask points.sets
  pub lines : bytes ≡ made_line count ++ size_line size

-- what is written where the work is done and an answer that was to be judged passes
abbrev pub IsDone : Work → List ℕ → Type 0
IsDone (solving ask points) bytes = IsSolution ask points bytes
IsDone (sizing ask points) bytes = IsSize ask points bytes
IsDone (checking ask points report) bytes = IsYes ask points report bytes
IsDone (demonstrating ask count points) bytes = IsDemonstration ask count points bytes

-- what is written where an answer that was to be judged does not pass
abbrev pub IsRejection : Work → List ℕ → Type 0
IsRejection (checking ask points report) bytes = IsNo ask points report bytes
IsRejection work bytes = ⊥

-- either of them
abbrev pub IsOutput : Work → List ℕ → Type 0
IsOutput work bytes = IsDone work bytes ⊎ IsRejection work bytes

-- ---- the outputs of the code

-- the bytes of an output
abbrev pub bytes_of : Output → List ℕ
bytes_of (Solution text) = text
bytes_of (Size text) = text.items
bytes_of (Verdict true) = codes "yes\n"
bytes_of (Verdict false) = codes "no\n"
bytes_of (Demonstration text) = text.items

-- the status that a run ends with which writes it
abbrev pub status_of : Output → Status
status_of (Solution text) = Done
status_of (Size text) = Done
status_of (Verdict true) = Done
status_of (Verdict false) = No
status_of (Demonstration text) = Done

-- what its bytes are to be
abbrev pub IsMeantAs : Output → Work → List ℕ → Type 0
IsMeantAs (Solution text) = IsDone
IsMeantAs (Size text) = IsDone
IsMeantAs (Verdict true) = IsDone
IsMeantAs (Verdict false) = IsRejection
IsMeantAs (Demonstration text) = IsDone
