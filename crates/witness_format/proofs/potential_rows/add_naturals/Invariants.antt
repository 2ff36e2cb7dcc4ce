use Rattle.std.proofs.Common.{◌≡◌, ◌+◌, ◌-◌, ◌≤◌, length, map, pos, Ok}
use Rattle.answer_lines.specs.Judging.{seen}
use Rattle.answer_lines.specs.Lines.{words_left}
use Rattle.witness_format.specs.Rows.{naturals_behind}
use Rattle.witness_format.proofs.potential_rows.add_naturals.Given as goal

abbrev pub invariant-words : goal.invariant-words
invariant-words l = record {
  so_far : naturals_behind (seen (λ u. map pos l.numbers) l.so_far) (l.count - l.counter) (words_left l.left) ≡ naturals_behind (Ok (map pos l.fn.numbers)) l.count (words_left l.words);
  amount : length l.numbers ≤ length l.fn.numbers + l.counter;
}
