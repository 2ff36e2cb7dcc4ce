-- What a sink for error lines receives.
use Rattle.std.specs.Prelude.{ℕ, List}
use Rattle.std.specs.declared.option.Option.{Option}
use Rattle.bnd_io.specs.Faults.{Rose}
use Rattle.bnd_io.specs.Sinks.{SinkState, Appended, AppendedPrefix, RefusedOf}

-- it received exactly this line, or a prefix of it where its count of faults rose; each refused piece that it tells is a rest of this line
pub record Told (last : Option ℕ) (line : List ℕ) (before now : SinkState) : Type 0 where
  pub prefix : AppendedPrefix before now line
  pub whole : (Rose last before.faults now.faults → ⊥) → Appended before now line
  pub refused : RefusedOf before now line
