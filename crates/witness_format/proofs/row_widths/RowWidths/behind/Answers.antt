use Rattle.std.proofs.Common.{◌≡◌, arith}
use Rattle.witness_format.proofs.RowReadings.{row_more, row_last}
use Rattle.witness_format.proofs.row_widths.RowWidths.behind.Goals as goal

pub returns-then-self-gt1 : goal.returns-then-self-gt1
returns-then-self-gt1 c = row_more c.args.self.now.width c.args.self.now.left c.args.self.now.layers c.requires c.if-self-gt1.true

pub returns : goal.returns
returns c =
    let last : c.args.self.now.left ≡ 1 = omega (arith, c.args.self.now.some_left, c.if-self-gt1.false) in
    row_last c.args.self.now.width c.args.self.now.left c.args.self.now.layers c.requires last
