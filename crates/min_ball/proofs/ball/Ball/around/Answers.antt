use Rattle.std.proofs.Common.{subst, ◌≤ℤ◌, pos, le_trans}
use Rattle.kernel_laws.specs.Limits.{ball_limit}
use Rattle.ball_sums.proofs.SumSizes.{weight_most, second_moment_most}
use Rattle.ball_sums.proofs.Means.{mean_size_is}
use Rattle.bounds_model.specs.Fractions.{SameValue}
use Rattle.corral.specs.Supported.{supports_of, items_of}
use Rattle.min_ball.specs.Balls.{coordinates, listed}
use Rattle.min_ball.proofs.DeterminedBalls.{mass_is, cloud_items, some_weight, determined_by_supports}
use Rattle.min_ball.proofs.ball.Ball.around.Goals as goal

pub sums_over-sums-requires : goal.sums_over-sums-requires
sums_over-sums-requires g c =
    let items = cloud_items g.row.K.Denot c.args.cloud in
    subst (λ m. m ≤ℤ pos (ball_limit g.K.Kernel.DIM)) (mass_is g.K.Kernel.place items (supports_of c.settle-support.result)) c.settle-support.ensures.limit

pub size-size-requires-clause-some : goal.size-size-requires-clause-some
size-size-requires-clause-some g c =
    let items = cloud_items g.row.K.Denot c.args.cloud in
    some_weight g.K.Kernel.place items (supports_of c.settle-support.result) c.sums_over-sums.result c.settle-support.ensures.supports c.sums_over-sums.ensures.sums.weight

pub size-size-requires-clause-weight : goal.size-size-requires-clause-weight
size-size-requires-clause-weight g c = weight_most g.met.K.Kernel.two_or_three c.sums_over-sums.ensures.range.weight

pub size-size-requires-clause-second_moment : goal.size-size-requires-clause-second_moment
size-size-requires-clause-second_moment g c = le_trans c.sums_over-sums.ensures.range.second_moment (second_moment_most g.met.K.Kernel.two_or_three c.sums_over-sums.ensures.range.weight)

pub invariant_of-result : goal.invariant_of-result
invariant_of-result g c =
    let support = c.settle-support.result in
    let members = supports_of support in
    record {
      determined = determined_by_supports g.row.K.Denot g.K.Kernel.DIM g.K.Kernel.place c.args.cloud (items_of support) members c.size-size.result
          c.settle-support.ensures.items c.settle-support.ensures.members c.settle-support.ensures.supports c.settle-support.ensures.limit c.settle-support.ensures.none_low c.size-size.ensures.lowest
          (subst (SameValue c.size-size.result) (mean_size_is (coordinates g.K.Kernel.place support) (listed support) c.sums_over-sums.result c.sums_over-sums.ensures.sums) c.size-size.ensures.value);
      summed = record {
        some = some_weight g.K.Kernel.place (cloud_items g.row.K.Denot c.args.cloud) members c.sums_over-sums.result c.settle-support.ensures.supports c.sums_over-sums.ensures.sums.weight;
        sums = c.sums_over-sums.ensures;
      };
    }
