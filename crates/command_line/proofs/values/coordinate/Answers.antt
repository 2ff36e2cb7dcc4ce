use Rattle.std.proofs.Common.{◌≡◌, nat_abs, ◌≤◌, FitsSigned, rules, arith}
use Rattle.std.specs.Int.{w64, w128}
use Rattle.std.proofs.lemmas.Bool.Decides.{nat_tests}
use Rattle.std.proofs.lemmas.Int.{to_z-of_z}
use Rattle.command_line.proofs.Numbers.{coordinate-past, coordinate-is, coordinate_fits}
use Rattle.command_line.proofs.values.coordinate.Goals as goal

pub returns-then-unsigned_abs-gt200000-clause-number : goal.returns-then-unsigned_abs-gt200000-clause-number
returns-then-unsigned_abs-gt200000-clause-number c =
    let fits : FitsSigned w128 c.in_ok-z.z = search rules in
    let size : c.unsigned_abs.result ≡ nat_abs c.in_ok-z.z = simp to_z-of_z at c.unsigned_abs.ensures.value in
    coordinate-past c.args.word.now c.in_ok-z.z c.in_ok-z.ensures (let past = c.if-unsigned_abs-gt200000.true in grind (arith, nat_tests))

pub returns-clause-number : goal.returns-clause-number
returns-clause-number c =
    let fits : FitsSigned w128 c.in_ok-z.z = search rules in
    let size : c.unsigned_abs.result ≡ nat_abs c.in_ok-z.z = simp to_z-of_z at c.unsigned_abs.ensures.value in
    let small : nat_abs c.in_ok-z.z ≤ 200000 = let small = c.if-unsigned_abs-gt200000.false in grind (arith, nat_tests) in
    let short : FitsSigned w64 c.in_ok-z.z = coordinate_fits c.in_ok-z.z small in
    simp to_z-of_z (coordinate-is c.args.word.now c.in_ok-z.z c.in_ok-z.ensures small)
