use Rattle.std.proofs.Common.{◌<◌, length, arith}
use Rattle.std.proofs.lemmas.Grind.{common_steps}
use Rattle.answer_lines.proofs.LineCuts.{some_lines}
use Rattle.answer_lines.proofs.lines.Unread.end.Goals as goal

pub returns-else-is_empty : goal.returns-else-is_empty
returns-else-is_empty c =
    let some : 0 < length c.args.self.now.bytes.now = grind (arith, common_steps) in
    some_lines c.args.self.now.number c.args.self.now.bytes.now some
