use Rattle.std.proofs.Common.{arith, rules, FitsSigned, to_z-of_z}
use mir.Syntax.{w64, w128}
use Rattle.ball_sums.proofs.SumSizes.{second_moment_fits, range_more}
use Rattle.ball_sums.proofs.sums.Sums.with.Goals as goal

pub overflow_mul-result : goal.overflow_mul-result
overflow_mul-result g c =
    let fits = second_moment_fits c.args.self.weight c.args.weight c.squared.result c.args.self.second_moment g.met.K.Kernel.two_or_three c.requires.limit c.requires.range.second_moment c.squared.ensures.limit in
    omega arith

pub overflow_add-result-2 : goal.overflow_add-result-2
overflow_add-result-2 g c =
    let fits = second_moment_fits c.args.self.weight c.args.weight c.squared.result c.args.self.second_moment g.met.K.Kernel.two_or_three c.requires.limit c.requires.range.second_moment c.squared.ensures.limit in
    omega arith

pub returns-clause-range : goal.returns-clause-range
returns-clause-range g c =
    let fits_x : FitsSigned w128 c.plus.result = search rules in
    let fits_y : FitsSigned w128 c.plus-2.result = search rules in
    let fits_z : FitsSigned w128 c.plus-3.result = search rules in
    let was_x : FitsSigned w128 c.args.self.pull.x = search rules in
    let was_y : FitsSigned w128 c.args.self.pull.y = search rules in
    let was_z : FitsSigned w128 c.args.self.pull.z = search rules in
    let to_x : FitsSigned w64 c.args.to.x = search rules in
    let to_y : FitsSigned w64 c.args.to.y = search rules in
    let to_z : FitsSigned w64 c.args.to.z = search rules in
    let is_x = simp to_z-of_z at c.plus.ensures in
    let is_y = simp to_z-of_z at c.plus-2.ensures in
    let is_z = simp to_z-of_z at c.plus-3.ensures in
    simp to_z-of_z (range_more c.args.self.weight c.args.weight c.squared.result c.args.self.second_moment c.requires.range c.requires.vector.within c.requires.limit c.squared.ensures.limit is_x is_y is_z)
