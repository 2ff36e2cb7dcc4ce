use Rattle.std.proofs.Common.{◌≡◌, sym, length}
use Rattle.std.proofs.lemmas.List.{length-map}
use Rattle.integers.proofs.Lists.{clash}
use Rattle.bounds_model.specs.Plane.{point_at}
use Rattle.bounds_model.specs.Fans.{half_directions}
use Rattle.bounded_coords.specs.Clouds.{points_of}
use Rattle.answers.specs.Answers.{half_fan_of, half_cone_of}
use Rattle.fan_test.specs.Ends.{half_number}
use Rattle.answers.specs.declared.fans.HalfFan.{HalfFan}
use Rattle.fan_test.specs.declared.ends.End.TheVariants.{High, Low}
use Rattle.fan_test.proofs.Extremes.{opposite_turns, both_ends, high_end, low_end}
use Rattle.fan_test.proofs.HalfFans.{half_leads, half_ends, half_listed}
use Rattle.fan_test.proofs.half.holds_half.Goals as goal

-- as many cones in the model
count : (fan : HalfFan) → length fan.cones ≡ length (half_fan_of fan).cones
count fan = sym (length-map fan.cones half_cone_of)

pub encloses-requires-then-encloses-clause-turns : goal.encloses-requires-then-encloses-clause-turns
encloses-requires-then-encloses-clause-turns c =
    let fan = c.args.fan.now in
    opposite_turns (point_at (half_directions (half_fan_of fan))) (length fan.cones) (c.leads.ensures.0 c.if-not-leads.false).turns

pub encloses-requires-then-encloses-clause-listed : goal.encloses-requires-then-encloses-clause-listed
encloses-requires-then-encloses-clause-listed c =
    let fan = c.args.fan.now in
    half_listed (points_of c.args.cloud) (half_fan_of fan) (length fan.cones) (count fan) c.requires.numbers Low

pub returns-then-encloses : goal.returns-then-encloses
returns-then-encloses c =
    let fan = c.args.fan.now in
    let f = half_fan_of fan in
    let cloud = points_of c.args.cloud in
    let ends = half_ends cloud f (length fan.cones) (count fan) in
    let both = both_ends cloud (point_at (half_directions f)) (half_number High f) (half_number Low f) (length fan.cones) (c.encloses.ensures.0 c.if-encloses.true) in (
      λ yes. record {
        numbers = c.requires.numbers;
        directions = (half_leads f (length fan.cones) (count fan)).0 (c.leads.ensures.0 c.if-not-leads.false);
        extremes = ends.0 (both (c.encloses-then-encloses.ensures.0 yes));
      },
      λ holds. c.encloses-then-encloses.ensures.1 (low_end cloud (point_at (half_directions f)) (half_number High f) (half_number Low f) (length fan.cones) (ends.1 holds.extremes)),
    )

pub returns-else-encloses : goal.returns-else-encloses
returns-else-encloses c =
    let fan = c.args.fan.now in
    let f = half_fan_of fan in
    let cloud = points_of c.args.cloud in
    let ends = half_ends cloud f (length fan.cones) (count fan) in (
      λ yes. absurd (clash yes c.if-encloses.false),
      λ holds. c.encloses.ensures.1 (high_end cloud (point_at (half_directions f)) (half_number High f) (half_number Low f) (length fan.cones) (ends.1 holds.extremes)),
    )
