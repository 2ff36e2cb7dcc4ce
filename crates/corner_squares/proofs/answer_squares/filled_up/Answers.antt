use Rattle.std.proofs.Common.{pos, refl, sym, subst, ◌≡◌, arith}
use Rattle.corner_squares.specs.Covers.{IsFilledUp}
use Rattle.corner_squares.proofs.Filling.{not_yet, one_again, first_there}
use Rattle.corner_squares.proofs.answer_squares.filled_up.Goals as goal

pub loop-i-init : goal.loop-i-init
loop-i-init g c = not_yet c.args.squares.items c.len-some.result (sym c.len-some.ensures.value)

pub push-requires : goal.push-requires
push-requires g c = let e = c.loop-i.invariant.as_many in omega (arith, e)

pub loop-i-preserved : goal.loop-i-preserved
loop-i-preserved g c =
    one_again c.loop-i._i c.args.squares.items c.loop-i.filled.items c.push.new.self.items _
    (first_there c.args.squares.items c.as_slice.result.now (record { left = pos 0; bottom = pos 0; side = 0 }) _ c.as_slice.ensures.value c.requires.some refl) c.loop-i.invariant c.push.ensures.items

pub returns : goal.returns
returns g c =
    let end = c.from-i-end.ensures in
    let past = c.loop-i-test.false in
    let within = c.loop-i.auto._i-end in
    let few = c.requires.few in
    let some = c.len-some.ensures.value in
    let all : c.loop-i._i ≡ c.args.count = omega (arith, end, past, within, few, some) in
    subst (λ n. IsFilledUp n c.args.squares.items c.loop-i.filled.items) all c.loop-i.invariant
