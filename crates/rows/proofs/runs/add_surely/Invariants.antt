use Rattle.std.specs.Prelude.{IsFalse}
use Rattle.rows.proofs.runs.add_surely.Given as goal

-- no file is open
abbrev pub invariant-loop-file : goal.invariant-loop-file
invariant-loop-file l = IsFalse l.files.is_open
