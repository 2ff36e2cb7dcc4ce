use Rattle.std.proofs.Common.{◌≡◌, true, false, FitsSigned, w64, rules}
use Rattle.std.proofs.lemmas.Int.{to_z-of_z}
use Rattle.demo_points.proofs.making.Draws.space_point.Goals as goal

pub unreachable-requires : goal.unreachable-requires
unreachable-requires c =
    let x : FitsSigned w64 c.space_coordinate-x.result = search rules in
    let y : FitsSigned w64 c.space_coordinate-y.result = search rules in
    let z : FitsSigned w64 c.space_coordinate-z.result = search rules in
    let there = simp to_z-of_z at c.in-None.ensures.bounds in
    let none : false ≡ true = there.1 (record { x = c.space_coordinate-x.ensures.bounds; y = c.space_coordinate-y.ensures.bounds; z = c.space_coordinate-z.ensures.bounds }) in
    cc

pub returns-clause-point : goal.returns-clause-point
returns-clause-point c =
    let x : FitsSigned w64 c.space_coordinate-x.result = search rules in
    let y : FitsSigned w64 c.space_coordinate-y.result = search rules in
    let z : FitsSigned w64 c.space_coordinate-z.result = search rules in
    let is = simp to_z-of_z at c.in-Some.ensures.point in
    cc
