use Rattle.std.proofs.Common.{◌↔◌, subst, pos, nat_abs, IsTrue}
use Rattle.integers.proofs.Order.{positive_from_one, le_from_lt}
use Rattle.bounds_model.specs.Fractions.{SameValue}
use Rattle.ring_check.proofs.RingNumbers.{back128, unsigned_is, not_below}
use Rattle.ring_check.proofs.values.has_value.Goals as goal

pub returns : goal.returns
returns c =
    let f = c.args.fraction.now in
    let numerator = unsigned_is c.requires.numerator (not_below c.requires.numerator c.if-n-lt0.false) in
    let denominator = unsigned_is c.requires.denominator (le_from_lt (positive_from_one c.requires.some)) in
    let test = subst (λ z. IsTrue c.is_ratio.result ↔ SameValue f (record { n = c.args.n; d = z })) denominator
    (subst (λ z. IsTrue c.is_ratio.result ↔ SameValue f (record { n = z; d = pos (nat_abs (back128 c.args.d)) })) numerator c.is_ratio.ensures.value) in
    (λ yes. (c.is_ratio.ensures.lowest, test.0 yes), λ h. test.1 h.1)
