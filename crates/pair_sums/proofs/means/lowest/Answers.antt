use Rattle.std.proofs.Common.{refl, inl, ◌^◌, FitsSigned, rules, to_z-of_z}
use mir.Syntax.{w128}
use Rattle.kernel_laws.specs.Vectors.{sum_of}
use Rattle.pair_sums.proofs.Directions.{zero_vector, divides_each, direction_by}
use Rattle.pair_sums.proofs.SumSizes.{quotients_within}
use Rattle.pair_sums.proofs.means.lowest.Goals as goal

pub returns-then-factor-eq0-clause-direction : goal.returns-then-factor-eq0-clause-direction
returns-then-factor-eq0-clause-direction c = inl (zero_vector (sum_of c.args.v) c.common_factor-factor.result c.common_factor-factor.ensures c.if-factor-eq0.true, refl)

pub quotient-requires-clause-divisor : goal.quotient-requires-clause-divisor
quotient-requires-clause-divisor c =
    let fits : FitsSigned w128 c.args.v.x = search rules in
    simp to_z-of_z (divides_each (sum_of c.args.v) c.common_factor-factor.result c.common_factor-factor.ensures c.requires c.if-factor-eq0.false).0

pub quotient-requires-2-clause-divisor : goal.quotient-requires-2-clause-divisor
quotient-requires-2-clause-divisor c =
    let fits : FitsSigned w128 c.args.v.y = search rules in
    simp to_z-of_z (divides_each (sum_of c.args.v) c.common_factor-factor.result c.common_factor-factor.ensures c.requires c.if-factor-eq0.false).1

pub quotient-requires-3-clause-divisor : goal.quotient-requires-3-clause-divisor
quotient-requires-3-clause-divisor c =
    let fits : FitsSigned w128 c.args.v.z = search rules in
    simp to_z-of_z (divides_each (sum_of c.args.v) c.common_factor-factor.result c.common_factor-factor.ensures c.requires c.if-factor-eq0.false).2

pub returns-clause-direction : goal.returns-clause-direction
returns-clause-direction c =
    let fits_x : FitsSigned w128 c.args.v.x = search rules in
    let fits_y : FitsSigned w128 c.args.v.y = search rules in
    let fits_z : FitsSigned w128 c.args.v.z = search rules in
    let fits_a : FitsSigned w128 c.quotient.result = search rules in
    let fits_b : FitsSigned w128 c.quotient-2.result = search rules in
    let fits_c : FitsSigned w128 c.quotient-3.result = search rules in
    simp to_z-of_z (direction_by (sum_of c.args.v) (record { x = c.quotient.result; y = c.quotient-2.result; z = c.quotient-3.result }) c.common_factor-factor.result c.common_factor-factor.ensures c.if-factor-eq0.false
    (simp to_z-of_z at c.quotient.ensures) (simp to_z-of_z at c.quotient-2.ensures) (simp to_z-of_z at c.quotient-3.ensures))

pub returns-clause-limit : goal.returns-clause-limit
returns-clause-limit c =
    let fits_x : FitsSigned w128 c.args.v.x = search rules in
    let fits_y : FitsSigned w128 c.args.v.y = search rules in
    let fits_z : FitsSigned w128 c.args.v.z = search rules in
    let fits_a : FitsSigned w128 c.quotient.result = search rules in
    let fits_b : FitsSigned w128 c.quotient-2.result = search rules in
    let fits_c : FitsSigned w128 c.quotient-3.result = search rules in
    simp to_z-of_z (quotients_within (2 ^ 80) c.common_factor-factor.result (sum_of c.args.v) (record { x = c.quotient.result; y = c.quotient-2.result; z = c.quotient-3.result }) c.if-factor-eq0.false c.requires
    (simp to_z-of_z at c.quotient.ensures) (simp to_z-of_z at c.quotient-2.ensures) (simp to_z-of_z at c.quotient-3.ensures))
