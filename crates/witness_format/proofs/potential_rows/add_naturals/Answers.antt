use Rattle.std.proofs.Common.{◌∙◌, ap, ◌+◌, ◌-◌, pos, map, Ok, arith}
use Rattle.answer_lines.specs.Judging.{seen}
use Rattle.answer_lines.specs.Lines.{words_left}
use Rattle.witness_format.specs.Rows.{naturals_behind}
use Rattle.witness_format.proofs.RowReadings.{number_more}
use Rattle.witness_format.proofs.potential_rows.add_naturals.Goals as goal

pub words-preserved : goal.words-preserved
words-preserved c = record {
  so_far = ap (λ j. naturals_behind j (c.args.count - (c.words.counter + 1)) (words_left c.in-Some.others)) c.in_ok-so_far.ensures.says
      ∙ number_more (seen (λ u. map pos c.words.numbers) c.words.so_far) c.args.count c.words.counter (words_left c.words.left) (words_left c.in-Some.others) (seen pos c.in-Some.n)
      (naturals_behind (Ok (map pos c.args.numbers.now)) c.args.count (words_left c.args.words)) c.words-test.true c.in-Some.ensures c.words.invariant.so_far;
  amount = omega (arith, c.in_ok-so_far.ensures.amount, c.words.invariant.amount);
}
