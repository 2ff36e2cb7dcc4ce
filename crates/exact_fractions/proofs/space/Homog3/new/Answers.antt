use Rattle.exact_fractions.proofs.LowestPlaces.{space_divisor, SpaceQuotients, space_quotients}
use Rattle.exact_fractions.proofs.space.Homog3.new.Goals as goal

pub quotient-requires-clause-divisor : goal.quotient-requires-clause-divisor
quotient-requires-clause-divisor c =
    let r = c.requires in
    let x = c.unsigned_abs.ensures.value in
    let y = c.unsigned_abs-2.ensures.value in
    let z = c.unsigned_abs-3.ensures.value in
    let w = c.unsigned_abs-4.ensures.value in
    (space_divisor r.x r.y r.z r.w r.some x y z w c.gcd.ensures c.gcd-2.ensures c.gcd-divisor.ensures).in_x

pub quotient-requires-2-clause-divisor : goal.quotient-requires-2-clause-divisor
quotient-requires-2-clause-divisor c =
    let r = c.requires in
    let x = c.unsigned_abs.ensures.value in
    let y = c.unsigned_abs-2.ensures.value in
    let z = c.unsigned_abs-3.ensures.value in
    let w = c.unsigned_abs-4.ensures.value in
    (space_divisor r.x r.y r.z r.w r.some x y z w c.gcd.ensures c.gcd-2.ensures c.gcd-divisor.ensures).in_y

pub quotient-requires-3-clause-divisor : goal.quotient-requires-3-clause-divisor
quotient-requires-3-clause-divisor c =
    let r = c.requires in
    let x = c.unsigned_abs.ensures.value in
    let y = c.unsigned_abs-2.ensures.value in
    let z = c.unsigned_abs-3.ensures.value in
    let w = c.unsigned_abs-4.ensures.value in
    (space_divisor r.x r.y r.z r.w r.some x y z w c.gcd.ensures c.gcd-2.ensures c.gcd-divisor.ensures).in_z

pub quotient-requires-4-clause-divisor : goal.quotient-requires-4-clause-divisor
quotient-requires-4-clause-divisor c =
    let r = c.requires in
    let x = c.unsigned_abs.ensures.value in
    let y = c.unsigned_abs-2.ensures.value in
    let z = c.unsigned_abs-3.ensures.value in
    let w = c.unsigned_abs-4.ensures.value in
    (space_divisor r.x r.y r.z r.w r.some x y z w c.gcd.ensures c.gcd-2.ensures c.gcd-divisor.ensures).in_w

-- the place of the four quotients
abbrev place : (c : goal.After-quotient-4) → SpaceQuotients c.args.x c.args.y c.args.z c.args.w c.quotient.result c.quotient-2.result c.quotient-3.result c.quotient-4.result
place c =
    let r = c.requires in
    let x = c.unsigned_abs.ensures.value in
    let y = c.unsigned_abs-2.ensures.value in
    let z = c.unsigned_abs-3.ensures.value in
    let w = c.unsigned_abs-4.ensures.value in
    let divisor = space_divisor r.x r.y r.z r.w r.some x y z w c.gcd.ensures c.gcd-2.ensures c.gcd-divisor.ensures in
    space_quotients divisor c.quotient.ensures c.quotient-2.ensures c.quotient-3.ensures c.quotient-4.ensures

pub invariant_of-result : goal.invariant_of-result
invariant_of-result c = (place c).ratio

pub returns-clause-lowest : goal.returns-clause-lowest
returns-clause-lowest c = (place c).ratio

pub returns-clause-place : goal.returns-clause-place
returns-clause-place c = (place c).place

pub returns-clause-kept : goal.returns-clause-kept
returns-clause-kept c lowest = (place c).kept lowest
