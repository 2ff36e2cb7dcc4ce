use Rattle.std.proofs.Common.{◌≡◌, ◌++◌, drop}
use Rattle.witness_format.proofs.ChordLines.{chord_lines}
use Rattle.witness_format.proofs.chord_lines.push_chorded.Given as goal

abbrev pub invariant-loop-i : goal.invariant-loop-i
invariant-loop-i l = l.text.items ++ chord_lines (drop l.i l.cones) (drop l.i l.chords) ≡ l.fn.text.items ++ chord_lines l.cones l.chords
