use Rattle.std.proofs.Common.{sym, subst}
use Rattle.bounds_model.specs.DistanceAnswer.{DistanceAnswer, PassesDistance}
use Rattle.bounded_coords.specs.Clouds.{points_of}
use Rattle.kernel_laws.specs.declared.kernels.Space.{Space}
use Rattle.answers.specs.Answers.{space_vector_of}
use Rattle.corral.specs.Supported.{supports_of, items_of}
use Rattle.polytope_distance.specs.Supports.{weighted_pairs}
use Rattle.polytope_distance.proofs.Settled.{weights_by, limit_by, determined_by}
use Rattle.polytope_distance.proofs.Passing.{not_below, passes}
use Rattle.polytope_distance.proofs.nearest.distance.Goals as goal

pub sums_over-sums-requires : goal.sums_over-sums-requires
sums_over-sums-requires c =
    let found = c.settle-support.ensures in
    record { weights = weights_by Space c.args.p c.args.q (supports_of c.settle-support.result) found.supports; limit = limit_by Space c.args.p c.args.q (supports_of c.settle-support.result) found.limit }

pub size-requires-clause-not_below : goal.size-requires-clause-not_below
size-requires-clause-not_below c =
    let found = c.settle-support.ensures in
    let support = c.settle-support.result in
    not_below
    (determined_by Space c.args.p c.args.q (items_of support) (supports_of support) c.sums_over-sums.result c.first.result.now c.second.result.now
    found.items found.members found.supports found.limit found.none_low c.sums_over-sums.ensures.sums c.first.ensures c.second.ensures)

pub returns : goal.returns
returns c =
    let found = c.settle-support.ensures in
    let support = c.settle-support.result in
    let determined = determined_by Space c.args.p c.args.q (items_of support) (supports_of support) c.sums_over-sums.result c.first.result.now c.second.result.now
    found.items found.members found.supports found.limit found.none_low c.sums_over-sums.ensures.sums c.first.ensures c.second.ensures in
    let answer : DistanceAnswer = record { size = c.size.result; from = c.first_mean.result; to = c.second_mean.result; direction = space_vector_of c.direction.result; pairs = weighted_pairs support } in
    subst (λ pairs. PassesDistance (points_of c.args.p) (points_of c.args.q) (record answer { pairs = pairs })) (sym c.listed.ensures)
    (passes answer c.args.p.limited c.args.q.limited determined c.size.ensures.lowest c.size.ensures.value c.first_mean.ensures.lowest c.first_mean.ensures.place c.second_mean.ensures.lowest c.second_mean.ensures.place
    c.direction.ensures.direction c.direction.ensures.limit)
