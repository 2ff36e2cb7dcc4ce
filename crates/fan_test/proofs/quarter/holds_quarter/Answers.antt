use Rattle.std.proofs.Common.{◌≡◌, sym, length}
use Rattle.std.proofs.lemmas.List.{length-map}
use Rattle.integers.proofs.Lists.{clash}
use Rattle.bounded_coords.specs.Clouds.{points_of}
use Rattle.answers.specs.Answers.{quarter_fan_of, quarter_cone_of}
use Rattle.answers.specs.declared.fans.QuarterFan.{QuarterFan}
use Rattle.fan_test.proofs.QuarterFans.{quarter_leads, quarter_ends, ends_along, ends_across}
use Rattle.fan_test.proofs.quarter.holds_quarter.Goals as goal

-- as many cones in the model
count : (fan : QuarterFan) → length fan.cones ≡ length (quarter_fan_of fan).cones
count fan = sym (length-map fan.cones quarter_cone_of)

pub returns-then-are_ends : goal.returns-then-are_ends
returns-then-are_ends c =
    let fan = c.args.fan.now in
    let f = quarter_fan_of fan in
    let cloud = points_of c.args.cloud in (
      λ yes. record {
        numbers = c.requires.numbers;
        directions = (quarter_leads f (length fan.cones) (count fan)).0 (c.leads.ensures.0 c.if-not-leads.false);
        extremes = quarter_ends cloud f (length fan.cones) (count fan) (c.are_ends.ensures.0 c.if-are_ends.true) (c.are_ends-then-are_ends.ensures.0 yes);
      },
      λ holds. c.are_ends-then-are_ends.ensures.1 (ends_across cloud f (length fan.cones) (count fan) holds.extremes),
    )

pub returns-else-are_ends : goal.returns-else-are_ends
returns-else-are_ends c =
    let fan = c.args.fan.now in (
      λ yes. absurd (clash yes c.if-are_ends.false),
      λ holds. c.are_ends.ensures.1 (ends_along (points_of c.args.cloud) (quarter_fan_of fan) (length fan.cones) (count fan) holds.extremes),
    )
