use Rattle.std.proofs.Common.{arith}
use Rattle.std.proofs.lemmas.List.{length-map}
use Rattle.corral.specs.Supported.{supports_of, items_of}
use Rattle.corral.specs.Items.{first_points}
use Rattle.kernel_laws.specs.Vectors.{vector_of}
use Rattle.kernel_laws.specs.Limits.{ball_limit}
use Rattle.min_ball.specs.Balls.{listed, coordinates, weighted_point}
use Rattle.min_ball.proofs.SupportSums.{past_the_end, weight_at, point_of_support, sums_of_next, more_within, sums_of_all}
use Rattle.min_ball.proofs.sums.sums_over.Goals as goal

pub with-sums-requires-clause-limit : goal.with-sums-requires-clause-limit
with-sums-requires-clause-limit g c =
    let members = supports_of c.args.support.now in
    let count = c.len-i-end.ensures.count in
    more_within (g.K.Kernel.place c.first-first.result.now) (coordinates g.K.Kernel.place c.args.support.now) members c.add.i c.weight.result (ball_limit g.K.Kernel.DIM) past_the_end c.add.sums
    (omega arith) (weight_at members c.add.i c.weight.result past_the_end c.weight.ensures) c.add.invariant.1 c.requires

pub add-preserved : goal.add-preserved
add-preserved g c =
    let members = supports_of c.args.support.now in
    let points = first_points (items_of c.args.support.now) in
    let from = g.K.Kernel.place c.first-first.result.now in
    let count = c.len-i-end.ensures.count in
    let as_many = length-map members weighted_point in (
      c.with-sums.ensures.range,
      sums_of_next from (g.K.Kernel.place c.first.result.now) (vector_of c.diff-to.result) (coordinates g.K.Kernel.place c.args.support.now) (listed c.args.support.now) c.add.i c.weight.result past_the_end c.add.sums c.with-sums.result
          (omega arith) (weight_at members c.add.i c.weight.result past_the_end c.weight.ensures) (point_of_support g.K.Kernel.place points members c.add.i c.first.result.now past_the_end c.first.ensures) c.add.invariant.1
          c.diff-to.ensures.value c.with-sums.ensures.adds,
    )

pub returns : goal.returns
returns g c =
    let count = c.len-i-end.ensures.count in
    record {
      range = c.add.invariant.0;
      sums = sums_of_all g.K.Kernel.place (first_points (items_of c.args.support.now)) (supports_of c.args.support.now) c.first-first.result.now c.add.i c.add.sums c.first-first.ensures (omega arith) c.add.invariant.1;
    }
