use Rattle.exact_fractions.proofs.LowestPlaces.{plane_divisor, PlaneQuotients, plane_quotients}
use Rattle.exact_fractions.proofs.plane.Homog2.new.Goals as goal

pub quotient-requires-clause-divisor : goal.quotient-requires-clause-divisor
quotient-requires-clause-divisor c =
    let r = c.requires in
    (plane_divisor r.x r.y r.w r.some c.unsigned_abs.ensures.value c.unsigned_abs-2.ensures.value c.unsigned_abs-3.ensures.value c.gcd.ensures c.gcd-divisor.ensures).in_x

pub quotient-requires-2-clause-divisor : goal.quotient-requires-2-clause-divisor
quotient-requires-2-clause-divisor c =
    let r = c.requires in
    (plane_divisor r.x r.y r.w r.some c.unsigned_abs.ensures.value c.unsigned_abs-2.ensures.value c.unsigned_abs-3.ensures.value c.gcd.ensures c.gcd-divisor.ensures).in_y

pub quotient-requires-3-clause-divisor : goal.quotient-requires-3-clause-divisor
quotient-requires-3-clause-divisor c =
    let r = c.requires in
    (plane_divisor r.x r.y r.w r.some c.unsigned_abs.ensures.value c.unsigned_abs-2.ensures.value c.unsigned_abs-3.ensures.value c.gcd.ensures c.gcd-divisor.ensures).in_w

-- the place of the three quotients
abbrev place : (c : goal.After-quotient-3) → PlaneQuotients c.args.x c.args.y c.args.w c.quotient.result c.quotient-2.result c.quotient-3.result
place c =
    let r = c.requires in
    let divisor = plane_divisor r.x r.y r.w r.some c.unsigned_abs.ensures.value c.unsigned_abs-2.ensures.value c.unsigned_abs-3.ensures.value c.gcd.ensures c.gcd-divisor.ensures in
    plane_quotients divisor c.quotient.ensures c.quotient-2.ensures c.quotient-3.ensures

pub invariant_of-result : goal.invariant_of-result
invariant_of-result c = (place c).ratio

pub returns-clause-lowest : goal.returns-clause-lowest
returns-clause-lowest c = (place c).ratio

pub returns-clause-place : goal.returns-clause-place
returns-clause-place c = (place c).place

pub returns-clause-kept : goal.returns-clause-kept
returns-clause-kept c lowest = (place c).kept lowest
