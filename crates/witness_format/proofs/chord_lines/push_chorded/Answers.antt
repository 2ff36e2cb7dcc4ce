use Rattle.std.proofs.Common.{◌≡◌, ◌∙◌, sym, ap, [], ◌+◌, ◌<◌, ◌++◌, append_assoc, length, drop, arith}
use Rattle.std.proofs.lemmas.List.{append-nil, drop_all}
use Rattle.witness_format.proofs.ChordLines.{chord_lines, lines_more}
use Rattle.witness_format.proofs.chord_lines.push_chorded.Goals as goal

pub loop-i-preserved : goal.loop-i-preserved
loop-i-preserved c =
    let cones = c.args.cones.now in
    let chords = c.args.chords.now in
    let i = c.loop-i.i in
    let behind = chord_lines (drop (i + 1) cones) (drop (i + 1) chords) in
    let chord-below : i < length chords = omega (arith, c.requires, c.loop-i-test.true) in
    ap (λ x. x ++ behind) c.in_ok-push_line.ensures ∙ append_assoc c.loop-i.text.items _ behind ∙ ap (λ x. c.loop-i.text.items ++ x) (sym (lines_more cones chords i _ _ c.loop-i-test.true chord-below)) ∙ c.loop-i.invariant

pub returns : goal.returns
returns c =
    let none : drop c.loop-i.i c.args.cones.now ≡ [] = drop_all c.loop-i.i c.args.cones.now c.loop-i-test.false in
    sym (append-nil c.loop-i.text.items) ∙ ap (λ cones. c.loop-i.text.items ++ chord_lines cones (drop c.loop-i.i c.args.chords.now)) (sym none) ∙ c.loop-i.invariant
