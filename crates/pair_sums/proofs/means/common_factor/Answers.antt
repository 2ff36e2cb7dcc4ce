use Rattle.std.proofs.Common.{FitsSigned, rules, to_z-of_z}
use mir.Syntax.{w128}
use Rattle.kernel_laws.specs.Vectors.{sum_of}
use Rattle.pair_sums.proofs.Directions.{factor_by}
use Rattle.pair_sums.proofs.means.common_factor.Goals as goal

pub returns : goal.returns
returns c =
    let fits_x : FitsSigned w128 c.args.v.x = search rules in
    let fits_y : FitsSigned w128 c.args.v.y = search rules in
    let fits_z : FitsSigned w128 c.args.v.z = search rules in
    factor_by (sum_of c.args.v) c.unsigned_abs.result c.unsigned_abs-2.result c.unsigned_abs-3.result c.gcd.result c.gcd-2.result
    (simp to_z-of_z at c.unsigned_abs.ensures.value) (simp to_z-of_z at c.unsigned_abs-2.ensures.value) (simp to_z-of_z at c.unsigned_abs-3.ensures.value) c.gcd.ensures c.gcd-2.ensures
