use Rattle.std.specs.Prelude.{IsFalse}
use Rattle.rows.proofs.runs.add_cut.Given as goal

-- no file is open
abbrev pub invariant-loop-file : goal.invariant-loop-file
invariant-loop-file l = IsFalse l.files.files.is_open
