use Rattle.std.proofs.Common.{sym, ap, ◌∙◌, map, length, arith}
use Rattle.std.proofs.lemmas.List.{length-map}
use Rattle.bounds_model.specs.Plane.{point_at}
use Rattle.bounded_coords.specs.Clouds.{points_of}
use Rattle.fan_test.specs.Directions.{direction_of}
use Rattle.hull_test.specs.Outward.{outward}
use Rattle.hull_test.proofs.Edges.{chain_leads, chain_encloses, chain_around, corners_listed}
use Rattle.hull_test.proofs.chain.go_around.Goals as goal

pub returns-then-not-leads : goal.returns-then-not-leads
returns-then-not-leads c =
    let points = points_of c.args.cloud in
    let corners = map (point_at points) c.args.numbers.now in (
      λ yes. absurd (cc yes),
      λ h. let yes = c.leads.ensures.1 (chain_leads points corners (length c.args.numbers.now) (direction_of c.direction-first.result) (direction_of c.direction-last.result)
          (omega (arith, c.requires.numbers.as_many.at_least)) (sym (length-map c.args.numbers.now (point_at points)))
          c.direction-first.ensures.value (c.direction-last.ensures.value ∙ ap (outward corners) c.len.ensures) h) in absurd (cc yes),
    )

pub encloses-requires-clause-turns : goal.encloses-requires-clause-turns
encloses-requires-clause-turns c = (c.leads.ensures.0 c.if-not-leads.false).turns

pub encloses-requires-clause-listed : goal.encloses-requires-clause-listed
encloses-requires-clause-listed c = corners_listed (points_of c.args.cloud) c.args.numbers.now (omega (arith, c.requires.numbers.as_many.at_least)) c.requires.numbers.below

pub returns : goal.returns
returns c =
    let points = points_of c.args.cloud in
    let corners = map (point_at points) c.args.numbers.now in (
      λ yes. chain_around points corners (length c.args.numbers.now) (omega (arith, c.requires.numbers.as_many.at_least)) (sym (length-map c.args.numbers.now (point_at points)))
          (c.leads.ensures.0 c.if-not-leads.false).turns (c.encloses.ensures.0 yes),
      λ h. c.encloses.ensures.1 (chain_encloses points corners (length c.args.numbers.now) (omega (arith, c.requires.numbers.as_many.at_least))
          (sym (length-map c.args.numbers.now (point_at points))) h),
    )
