use Rattle.std.proofs.Common.{sym, ◌∙◌, ap, subst, ◌<◌, length}
use Rattle.std.specs.Prelude.{map}
use Rattle.std.proofs.lemmas.List.{length-map}
use Rattle.bounds_model.specs.Plane.{point_at, origin}
use Rattle.bounds_model.specs.Fans.{QuarterCone}
use Rattle.bounded_coords.specs.Clouds.{points_of}
use Rattle.answers.specs.Answers.{quarter_cone_of}
use Rattle.fan_test.specs.Ends.{quarter_end}
use Rattle.directions.proofs.FanLists.{cone_at}
use Rattle.fan_test.proofs.QuarterFans.{quarter_end_below}
use Rattle.fan_test.proofs.quarter.QuarterChainChain.number.Goals as goal

pub returns-clause-listed : goal.returns-clause-listed
returns-clause-listed c =
    let chain = c.args.self.now in
    let cones = chain.fan.now.cones in
    let cone = quarter_cone_of c.at.result in
    let n = length (points_of chain.cloud) in
    let below : c.args.i < length (map quarter_cone_of cones) = subst (λ k. c.args.i < k) (sym (length-map cones quarter_cone_of)) c.requires in
    let named : (cone.high < n) × (cone.low < n) × (cone.over < n) × (cone.under < n)
    = subst (λ m. (m.high < n) × (m.low < n) × (m.over < n) × (m.under < n)) (cone_at quarter_cone_of cones c.args.i c.at.result cone c.at.ensures) (chain.numbers c.args.i cone below) in
    subst (λ k. k < n) (sym c.number.ensures) (quarter_end_below chain.across chain.end cone n named)

pub returns-clause-point : goal.returns-clause-point
returns-clause-point c =
    let chain = c.args.self.now in
    let none : QuarterCone = record { direction = origin; high = 0; low = 0; over = 0; under = 0 } in
    ap (point_at (points_of chain.cloud)) (c.number.ensures ∙ sym (ap (quarter_end chain.across chain.end) (cone_at quarter_cone_of chain.fan.now.cones c.args.i c.at.result none c.at.ensures)))
