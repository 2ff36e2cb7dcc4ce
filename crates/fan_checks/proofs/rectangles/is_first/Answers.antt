use Rattle.std.proofs.Common.{refl, sym, subst, ◌+◌, arith}
use Rattle.std.proofs.lemmas.Option.{slice_get_within}
use Rattle.bounds_model.specs.Plane.{point_at}
use Rattle.bounds_model.specs.Fans.{IsShort, IsReduced, IsQuarterExtreme, quarter_directions}
use Rattle.bounds_model.specs.RectangleAnswer.{IsLarger}
use Rattle.bounded_coords.specs.Clouds.{points_of}
use Rattle.answers.specs.Answers.{quarter_fan_of, quarter_cone_of, vector_of}
use Rattle.integers.proofs.Lists.{clash}
use Rattle.fan_checks.proofs.FanLoops.{numbered_at, quarter_first, quarter_short, quarter_names}
use Rattle.fan_checks.proofs.FirstLoops.{first_found, none_first, passed_more, none_more}
use Rattle.fan_checks.proofs.rectangles.is_first.Goals as goal

pub is_along-requires-clause-d : goal.is_along-requires-clause-d
is_along-requires-clause-d c =
    let fan = c.args.fan.now in
    subst IsShort (quarter_first fan c.cones.i c.at-cone.result c.at-cone.ensures) (quarter_short fan c.cones.i (omega (arith, slice_get_within fan.cones c.cones.i c.at-cone.result c.at-cone.ensures)) c.requires.limits.short)

pub returns-then-is_along : goal.returns-then-is_along
returns-then-is_along c =
    let fan = c.args.fan.now in
    let ds = quarter_directions (quarter_fan_of fan) in
    let along = c.is_along.ensures.0 c.if-is_along.true in
    let reduced : IsReduced (vector_of c.at-cone.result.dir) (vector_of c.args.direction) = record { parallel = along.0; ahead = along.1; lowest = c.is_lowest.ensures.0 c.if-not-is_lowest.false } in
    let first = first_found ds (IsLarger (points_of c.args.cloud) c.args.size.now) quarter_cone_of fan.cones (vector_of c.args.direction) c.cones.i c.at-cone.result c.at-cone.ensures c.cones.invariant.before (subst (λ d. IsReduced d (vector_of c.args.direction)) (sym (quarter_first fan c.cones.i c.at-cone.result c.at-cone.ensures)) reduced) in
    (λ _. first, λ _. refl)

pub is_larger-requires-clause-direction : goal.is_larger-requires-clause-direction
is_larger-requires-clause-direction c =
    let fan = c.args.fan.now in
    subst IsShort (quarter_first fan c.cones.i c.at-cone.result c.at-cone.ensures) (quarter_short fan c.cones.i (omega (arith, slice_get_within fan.cones c.cones.i c.at-cone.result c.at-cone.ensures)) c.requires.limits.short)

pub is_larger-requires-clause-named : goal.is_larger-requires-clause-named
is_larger-requires-clause-named c = quarter_names (points_of c.args.cloud) c.args.fan.now c.cones.i c.at-cone.result c.at-cone.ensures c.requires.limits.numbers

pub is_larger-requires-clause-extreme : goal.is_larger-requires-clause-extreme
is_larger-requires-clause-extreme c =
    let fan = c.args.fan.now in
    subst (λ d. IsQuarterExtreme (points_of c.args.cloud) d (quarter_cone_of c.at-cone.result)) (quarter_first fan c.cones.i c.at-cone.result c.at-cone.ensures)
    (numbered_at (λ k cone. IsQuarterExtreme (points_of c.args.cloud) (point_at (quarter_directions (quarter_fan_of fan)) k) cone × IsQuarterExtreme (points_of c.args.cloud) (point_at (quarter_directions (quarter_fan_of fan)) (k + 1)) cone) quarter_cone_of fan.cones c.cones.i c.at-cone.result c.at-cone.ensures c.requires.holds.extremes).0

pub returns-then-not-is_larger : goal.returns-then-not-is_larger
returns-then-not-is_larger c =
    let fan = c.args.fan.now in
    let ds = quarter_directions (quarter_fan_of fan) in
    let P = IsLarger (points_of c.args.cloud) c.args.size.now in
    let here = quarter_first fan c.cones.i c.at-cone.result c.at-cone.ensures in (
      λ same. absurd (clash same refl),
      λ first. absurd (none_first ds P quarter_cone_of fan.cones (vector_of c.args.direction) c.cones.i c.at-cone.result c.at-cone.ensures c.cones.invariant.none
          (λ r. let r' = subst (λ d. IsReduced d (vector_of c.args.direction)) here r in clash (c.is_along.ensures.1 (r'.parallel, r'.ahead)) c.if-is_along.false)
          (λ p. clash (c.is_larger.ensures.1 (subst (λ d. P d (quarter_cone_of c.at-cone.result)) here p)) c.if-not-is_larger.true) first),
    )

pub cones-preserved : goal.cones-preserved
cones-preserved c =
    let fan = c.args.fan.now in
    let ds = quarter_directions (quarter_fan_of fan) in
    let P = IsLarger (points_of c.args.cloud) c.args.size.now in
    let here = quarter_first fan c.cones.i c.at-cone.result c.at-cone.ensures in
    record {
      before = passed_more ds P quarter_cone_of fan.cones c.cones.i c.at-cone.result c.at-cone.ensures c.cones.invariant.before (subst (λ d. P d (quarter_cone_of c.at-cone.result)) (sym here) (c.is_larger.ensures.0 c.if-not-is_larger.false));
      none = none_more ds (vector_of c.args.direction) c.cones.i c.cones.invariant.none (λ r. let r' = subst (λ d. IsReduced d (vector_of c.args.direction)) here r in clash (c.is_along.ensures.1 (r'.parallel, r'.ahead)) c.if-is_along.false);
    }
