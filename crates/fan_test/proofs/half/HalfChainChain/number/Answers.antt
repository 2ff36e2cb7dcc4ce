use Rattle.std.proofs.Common.{sym, ◌∙◌, ap, subst, ◌<◌, length}
use Rattle.std.specs.Prelude.{map}
use Rattle.std.proofs.lemmas.List.{length-map}
use Rattle.bounds_model.specs.Plane.{point_at, origin}
use Rattle.bounds_model.specs.Fans.{HalfCone}
use Rattle.bounded_coords.specs.Clouds.{points_of}
use Rattle.answers.specs.Answers.{half_cone_of}
use Rattle.fan_test.specs.Ends.{chosen}
use Rattle.directions.proofs.FanLists.{cone_at}
use Rattle.fan_test.proofs.HalfFans.{chosen_below}
use Rattle.fan_test.proofs.half.HalfChainChain.number.Goals as goal

pub returns-clause-listed : goal.returns-clause-listed
returns-clause-listed c =
    let chain = c.args.self.now in
    let cones = chain.fan.now.cones in
    let cone = half_cone_of c.at-cone.result in
    let n = length (points_of chain.cloud) in
    let below : c.args.i < length (map half_cone_of cones) = subst (λ k. c.args.i < k) (sym (length-map cones half_cone_of)) c.requires in
    let named : (cone.high < n) × (cone.low < n) = subst (λ m. (m.high < n) × (m.low < n)) (cone_at half_cone_of cones c.args.i c.at-cone.result cone c.at-cone.ensures) (chain.numbers c.args.i cone below) in
    subst (λ k. k < n) (sym c.choose.ensures) (chosen_below chain.end c.at-cone.result.hi c.at-cone.result.lo n named.0 named.1)

pub returns-clause-point : goal.returns-clause-point
returns-clause-point c =
    let chain = c.args.self.now in
    let none : HalfCone = record { direction = origin; high = 0; low = 0 } in
    ap (point_at (points_of chain.cloud)) (c.choose.ensures ∙ sym (ap (λ m. chosen chain.end m.high m.low) (cone_at half_cone_of chain.fan.now.cones c.args.i c.at-cone.result none c.at-cone.ensures)))
