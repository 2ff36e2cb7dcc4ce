use Rattle.std.proofs.Common.{◌≡◌, ◌-◌, length, map}
use Rattle.std.specs.Prelude.{zip}
use Rattle.bounds_model.specs.AnswerText.LineFormats.{untitled}
use Rattle.bounds_model.specs.AnswerText.Formats.{lines_at}
use Rattle.bounds_model.specs.AnswerText.Kinds.{chorded_fields}
use Rattle.witness_format.specs.Bodies.{chorded_values}
use Rattle.answer_lines.specs.Lines.{lines_left}
use Rattle.answer_lines.proofs.LineReadings.{with_front}
use Rattle.witness_format.proofs.chord_lines.read_chorded.Given as goal

abbrev pub invariant-loop : goal.invariant-loop
invariant-loop l = record {
  so_far : with_front (map chorded_values (zip l.cones l.chords)) (lines_at (l.count - l.counter) (untitled chorded_fields) (lines_left l.text)) ≡ lines_at l.count (untitled chorded_fields) (lines_left l.fn.text);
  cones : length l.cones ≡ l.counter;
  chords : length l.chords ≡ l.counter;
}
