-- What a sink for error lines received, by the outcome of its write.
use Rattle.std.proofs.Common.{ℕ, ◌≤◌, List, length, sym, subst, arith}
use Rattle.std.proofs.Math.Seq.{take-length}
use Rattle.std.specs.declared.option.Option.{Option}
use Rattle.std.specs.Prelude.{Result, Ok, Err, OnOk, OnErr}
use Rattle.bnd_io.specs.Faults.{Rose}
use Rattle.bnd_io.specs.Sinks.{SinkState, Appended, AppendedPrefix, RefusedOf}
use Rattle.bounds_tool.specs.Telling.{Told}

-- a line was written, or a prefix of it where the count rose
pub Told-outcome : {T E : Type 0} (last : Option ℕ) (line : List ℕ) (before now : SinkState) (r : Result T E)
    → OnOk r (Appended before now line) → OnErr r (AppendedPrefix before now line) → OnErr r (Rose last before.faults now.faults)
    → RefusedOf before now line → Told last line before now
Told-outcome last line before now (Ok x) written prefix cause refused = record {
  prefix = (length line, omega arith, subst (λ bytes. Appended before now bytes) (sym (take-length line)) written);
  whole = λ none. written;
  refused = refused;
}
Told-outcome last line before now (Err e) written prefix cause refused = record {
  prefix = prefix;
  whole = λ none. absurd (none cause);
  refused = refused;
}
