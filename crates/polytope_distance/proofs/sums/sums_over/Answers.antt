use Rattle.std.proofs.Common.{◌≡◌, ◌^◌, pos, subst, take, arith}
use Rattle.std.proofs.lemmas.List.{length-map, take_all}
use Rattle.corral.specs.Supported.{supports_of, items_of}
use Rattle.corral.specs.Items.{first_points, second_points}
use Rattle.bounds_model.specs.AnnulusAnswer.{pair_sum}
use Rattle.pair_sums.specs.Sums.{AreSums}
use Rattle.pair_sums.proofs.PairWeights.{some_weight}
use Rattle.polytope_distance.specs.Supports.{weighted_pair, weighted_pairs}
use Rattle.polytope_distance.proofs.Listing.{past_the_end}
use Rattle.polytope_distance.proofs.SupportSums.{weight_at, first_at, second_at, sums_of_next, more_within}
use Rattle.polytope_distance.proofs.sums.sums_over.Goals as goal

pub with-sums-requires-clause-limit : goal.with-sums-requires-clause-limit
with-sums-requires-clause-limit c =
    let members = supports_of c.args.support.now in
    let items = items_of c.args.support.now in
    let count = c.len-i-end.ensures.count in
    more_within (first_points items) (second_points items) members c.add.i c.weight.result (2 ^ 66) past_the_end c.add.sums (omega arith) (weight_at members c.add.i c.weight.result past_the_end c.weight.ensures) c.add.invariant.1 c.requires.limit

pub add-preserved : goal.add-preserved
add-preserved c =
    let members = supports_of c.args.support.now in
    let items = items_of c.args.support.now in
    let count = c.len-i-end.ensures.count in
    let as_many = length-map members weighted_pair in (
      c.with-sums.ensures.range,
      sums_of_next (first_points items) (second_points items) (weighted_pairs c.args.support.now) c.add.i c.weight.result c.first.result.now c.second.result.now past_the_end c.add.sums c.with-sums.result (omega arith)
          (weight_at members c.add.i c.weight.result past_the_end c.weight.ensures) (first_at (first_points items) members c.add.i c.first.result.now past_the_end c.first.ensures)
          (second_at (second_points items) members c.add.i c.second.result.now past_the_end c.second.ensures) c.add.invariant.1 c.with-sums.ensures.adds,
    )

pub returns-clause-some : goal.returns-clause-some
returns-clause-some c =
    let pairs = weighted_pairs c.args.support.now in
    let count = c.len-i-end.ensures.count in
    let some = c.len-i-end.ensures.some in
    let as_many = length-map (supports_of c.args.support.now) weighted_pair in
    let whole : take c.add.i pairs ≡ pairs = take_all c.add.i pairs (omega arith) in
    some_weight pairs c.add.sums.weight (omega arith) c.requires.weights (subst (λ pairs. pos c.add.sums.weight ≡ pair_sum pairs) whole c.add.invariant.1.weight)

pub returns-clause-sums : goal.returns-clause-sums
returns-clause-sums c =
    let items = items_of c.args.support.now in
    let pairs = weighted_pairs c.args.support.now in
    let count = c.len-i-end.ensures.count in
    let as_many = length-map (supports_of c.args.support.now) weighted_pair in
    let whole : take c.add.i pairs ≡ pairs = take_all c.add.i pairs (omega arith) in
    subst (λ pairs. AreSums (first_points items) (second_points items) pairs c.add.sums) whole c.add.invariant.1
