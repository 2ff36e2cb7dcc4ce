use Rattle.std.proofs.Common.{[], ◌∷◌, ◌∙◌, sym, map, arith}
use Rattle.std.specs.Prelude.{zip}
use Rattle.std.proofs.lemmas.List.{length-append}
use Rattle.std.proofs.lemmas.Result.{err_from_is_err_and}
use Rattle.bounds_model.specs.AnswerText.LineFormats.{untitled}
use Rattle.bounds_model.specs.AnswerText.Formats.{lines_at}
use Rattle.bounds_model.specs.AnswerText.Kinds.{chorded_fields}
use Rattle.witness_format.specs.Bodies.{chorded_values}
use Rattle.answer_lines.specs.Lines.{lines_left}
use Rattle.witness_format.proofs.ChordLines.{zip_push}
use Rattle.answer_lines.proofs.LineReadings.{one_more, lines_refused}
use Rattle.witness_format.proofs.chord_lines.read_chorded.Goals as goal

pub loop-preserved : goal.loop-preserved
loop-preserved c =
    let cone = c.in_ok-line.line.cone in
    let chord = c.in_ok-line.line.chord in
    let total = lines_at c.args.count (untitled chorded_fields) (lines_left c.args.text.now) in
    record {
      so_far = rw (c.in_ok-add.ensures.added, c.in_ok-add-2.ensures.added, zip_push c.loop.cones c.loop.chords cone chord (c.loop.invariant.cones ∙ sym c.loop.invariant.chords))
          (one_more chorded_fields chorded_values (zip c.loop.cones c.loop.chords) c.args.count c.loop.counter (lines_left c.loop.text) (cone, chord) (lines_left c.read_line.new.text) total
          c.loop-test.true c.in_ok-line.ensures c.loop.invariant.so_far);
      cones = rw c.in_ok-add.ensures.added (omega (arith, length-append c.loop.cones (cone ∷ []), c.loop.invariant.cones));
      chords = rw c.in_ok-add-2.ensures.added (omega (arith, length-append c.loop.chords (chord ∷ []), c.loop.invariant.chords));
    }

pub returns-in_err-line-clause-lines : goal.returns-in_err-line-clause-lines
returns-in_err-line-clause-lines c =
    let total = lines_at c.args.count (untitled chorded_fields) (lines_left c.args.text.now) in
    let refused = lines_refused c.in_err-line.field-0.0 chorded_fields (map chorded_values (zip c.loop.cones c.loop.chords)) c.args.count c.loop.counter (lines_left c.loop.text) total c.loop-test.true c.in_err-line.ensures c.loop.invariant.so_far in
    let exit = err_from_is_err_and c.from_residual.result c.from_residual.ensures.1 in
    rw (exit.1, exit.2) refused
