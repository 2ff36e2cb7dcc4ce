use Rattle.std.proofs.Common.{map, pos}
use Rattle.answer_lines.specs.Lines.{words_left, lines_left}
use Rattle.witness_format.proofs.RowReadings.{row_reads}
use Rattle.witness_format.proofs.potential_rows.read_row.Goals as goal

pub returns-clause-row : goal.returns-clause-row
returns-clause-row c =
    row_reads (map pos c.args.numbers.now) (map pos c.add_naturals.new.numbers) c.args.width (lines_left c.args.text.now) (words_left c.in_ok-words.words) (lines_left c.next_line.new.self) c.in_ok-says.says c.decide.result c.in_ok-words.ensures
    c.in_ok-says.ensures.says c.decide.ensures.decided
