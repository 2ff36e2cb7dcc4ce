use Rattle.std.proofs.Common.{arith, sym, ap, take, ◌≡◌, ◌∙◌, length}
use Rattle.std.proofs.lemmas.Grind.{common_steps}
use Rattle.std.specs.List.{position_or_len}
use Rattle.byte_tools.proofs.FirstIndices.{index_found, index_missing}
use Rattle.byte_tools.proofs.cuts.parted.Goals as goal

pub returns-in-Some-clause-before : goal.returns-in-Some-clause-before
returns-in-Some-clause-before c p is = ap (λ i. take i c.args.text.now) (index_found p c.args.text.now c.in-Some.index (sym c.in-Some.is ∙ is))

pub returns-in-Some-clause-after : goal.returns-in-Some-clause-after
returns-in-Some-clause-after c p is =
    let found : c.in-Some.index ≡ position_or_len p c.args.text.now = index_found p c.args.text.now c.in-Some.index (sym c.in-Some.is ∙ is) in
    rw (← found) (grind (arith, common_steps))

pub returns-in-None-clause-before : goal.returns-in-None-clause-before
returns-in-None-clause-before c p is =
    let missing : position_or_len p c.args.text.now ≡ length c.args.text.now = index_missing p c.args.text.now (sym c.in-None.is ∙ is) in
    rw missing (grind (arith, common_steps))

pub returns-in-None-clause-after : goal.returns-in-None-clause-after
returns-in-None-clause-after c p is =
    let missing : position_or_len p c.args.text.now ≡ length c.args.text.now = index_missing p c.args.text.now (sym c.in-None.is ∙ is) in
    rw missing (grind (arith, common_steps))
