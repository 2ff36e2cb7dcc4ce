use Rattle.std.proofs.Common.{◌≡◌, sym, length}
use Rattle.std.proofs.lemmas.List.{length-map}
use Rattle.integers.proofs.Lists.{clash}
use Rattle.bounds_model.specs.Plane.{point_at}
use Rattle.bounds_model.specs.Fans.{quarter_directions}
use Rattle.bounded_coords.specs.Clouds.{points_of}
use Rattle.answers.specs.Answers.{quarter_fan_of, quarter_cone_of}
use Rattle.fan_test.specs.Ends.{quarter_number, turned}
use Rattle.answers.specs.declared.fans.QuarterFan.{QuarterFan}
use Rattle.fan_test.specs.declared.ends.End.TheVariants.{High, Low}
use Rattle.fan_test.proofs.Extremes.{opposite_turns, both_ends, high_end, low_end}
use Rattle.fan_test.proofs.QuarterFans.{quarter_listed, either_turns}
use Rattle.fan_test.proofs.quarter.are_ends.Goals as goal

-- as many cones in the model
count : (fan : QuarterFan) → length fan.cones ≡ length (quarter_fan_of fan).cones
count fan = sym (length-map fan.cones quarter_cone_of)

pub encloses-requires-clause-turns : goal.encloses-requires-clause-turns
encloses-requires-clause-turns c =
    let fan = c.args.fan.now in
    either_turns (point_at (quarter_directions (quarter_fan_of fan))) (length fan.cones) c.requires.turns c.args.across

pub encloses-requires-clause-listed : goal.encloses-requires-clause-listed
encloses-requires-clause-listed c =
    let fan = c.args.fan.now in
    quarter_listed (points_of c.args.cloud) (quarter_fan_of fan) (length fan.cones) (count fan) c.requires.numbers c.args.across High

pub encloses-requires-then-encloses-clause-turns : goal.encloses-requires-then-encloses-clause-turns
encloses-requires-then-encloses-clause-turns c =
    let fan = c.args.fan.now in
    let D = point_at (quarter_directions (quarter_fan_of fan)) in
    opposite_turns (λ i. turned c.args.across (D i)) (length fan.cones) (either_turns D (length fan.cones) c.requires.turns c.args.across)

pub encloses-requires-then-encloses-clause-listed : goal.encloses-requires-then-encloses-clause-listed
encloses-requires-then-encloses-clause-listed c =
    let fan = c.args.fan.now in
    quarter_listed (points_of c.args.cloud) (quarter_fan_of fan) (length fan.cones) (count fan) c.requires.numbers c.args.across Low

pub returns-then-encloses : goal.returns-then-encloses
returns-then-encloses c =
    let fan = c.args.fan.now in
    let f = quarter_fan_of fan in
    let a = c.args.across in
    let cloud = points_of c.args.cloud in (
      λ yes. both_ends cloud (λ i. turned a (point_at (quarter_directions f) i)) (quarter_number a High f) (quarter_number a Low f) (length fan.cones) (c.encloses.ensures.0 c.if-encloses.true) (c.encloses-then-encloses.ensures.0 yes),
      λ ends. c.encloses-then-encloses.ensures.1 (low_end cloud (λ i. turned a (point_at (quarter_directions f) i)) (quarter_number a High f) (quarter_number a Low f) (length fan.cones) ends),
    )

pub returns-else-encloses : goal.returns-else-encloses
returns-else-encloses c =
    let fan = c.args.fan.now in
    let f = quarter_fan_of fan in
    let a = c.args.across in
    let cloud = points_of c.args.cloud in (
      λ yes. absurd (clash yes c.if-encloses.false),
      λ ends. c.encloses.ensures.1 (high_end cloud (λ i. turned a (point_at (quarter_directions f) i)) (quarter_number a High f) (quarter_number a Low f) (length fan.cones) ends),
    )
