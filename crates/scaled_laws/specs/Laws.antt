-- What passing implies at the scale of a point file.
use Rattle.std.specs.Prelude.{◌≤◌}
use Rattle.bounds_model.specs.Fractions.{IsNotNegative, over}
use Rattle.bounds_model.specs.Best.{IsPrintedSize}
use Rattle.bounds_model.specs.Asks.{Ask, PointFile}
use Rattle.bounds_model.specs.Answers.{size_of}
use Rattle.bounds_model.specs.Reports.{Report, full_size, size_units, ReportRanges, PassesAt, IsBestAt}

-- a report that passes is best at the file's scale
abbrev pub PassingReportsAreBest : Type 0
PassingReportsAreBest = (ask : Ask) (file : PointFile) (r : Report) → PassesAt ask file r → IsBestAt ask file r

-- the full size has the value of the answer's size over the units of the scale, and is in lowest terms
abbrev pub FullSizesPrint : Type 0
FullSizesPrint = (r : Report) → 1 ≤ r.scale → IsNotNegative (size_of r.answer) → IsPrintedSize (over (size_units r) (size_of r.answer)) (full_size r)

-- a report that passes has all its numbers in their ranges, also its size in whole units
abbrev pub PassingReportsKeepRanges : Type 0
PassingReportsKeepRanges = (ask : Ask) (file : PointFile) (r : Report) → PassesAt ask file r → ReportRanges r
