-- What an answer that passes for the points of a file says at the file's scale.
use Rattle.std.proofs.Common.{◌≡◌, ℕ, ◌≤◌, Bool, Result, Ok, Err}
use Rattle.std.specs.Prelude.{◌↔◌, IsTrue, IfOk}
use Rattle.bounds_model.specs.Asks.{Ask, PointFile, scale_limit}
use Rattle.bounds_model.specs.Answers.{Passes}
use Rattle.bounds_model.specs.Reports.{Report, PassesAt, IsBestAt}
use Rattle.scaled_laws.specs.Laws.{PassingReportsAreBest}

-- a yes for the answer is one for the report, where the scales are the same
pub passing : {E : Type 0} (ask : Ask) (file : PointFile) (r : Report) (result : Result Bool E) → 1 ≤ file.scale → file.scale ≤ scale_limit → r.scale ≡ file.scale
    → IfOk result (λ yes. IsTrue yes ↔ Passes ask file.sets r.answer) → IfOk result (λ yes. IsTrue yes ↔ PassesAt ask file r)
passing ask file r (Err e) low high same judged = tt
passing ask file r (Ok whole) low high same judged =
    (λ is. record { scale_from = low; scale_to = high; scale = same; passes = judged.0 is }, λ passes. judged.1 passes.passes)

-- and such a report is best
pub best : {E : Type 0} (ask : Ask) (file : PointFile) (r : Report) (result : Result Bool E) → PassingReportsAreBest
    → IfOk result (λ yes. IsTrue yes ↔ PassesAt ask file r) → IfOk result (λ yes. IsTrue yes → IsBestAt ask file r)
best ask file r (Err e) law judged = tt
best ask file r (Ok whole) law judged = λ is. law ask file r (judged.0 is)
