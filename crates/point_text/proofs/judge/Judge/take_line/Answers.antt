use Rattle.std.proofs.Common.{◌∙◌, sym}
use Rattle.point_text.proofs.Refusing.{fault_stays}
use Rattle.point_text.proofs.judge.Judge.take_line.Goals as goal

pub returns-then-is_some-clause-judged : goal.returns-then-is_some-clause-judged
returns-then-is_some-clause-judged g c before judged = fault_stays c.args.self.now.fault before _ _ _ (sym c.is_some.ensures ∙ c.if-is_some.true) judged
