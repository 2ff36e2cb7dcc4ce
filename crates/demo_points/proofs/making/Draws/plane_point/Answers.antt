use Rattle.std.proofs.Common.{FitsSigned, w64, rules}
use Rattle.std.proofs.lemmas.Int.{to_z-of_z}
use Rattle.demo_points.proofs.making.Draws.plane_point.Goals as goal

pub returns-clause-point : goal.returns-clause-point
returns-clause-point c =
    let x : FitsSigned w64 c.plane_coordinate-x.result = search rules in
    let y : FitsSigned w64 c.plane_coordinate-y.result = search rules in
    let is = simp to_z-of_z at c.in-Some.ensures.point in
    cc
