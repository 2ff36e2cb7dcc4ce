use Rattle.std.proofs.Common.{refl, sym, subst, arith}
use Rattle.std.proofs.lemmas.Option.{slice_get_within}
use Rattle.bounds_model.specs.Fans.{IsShort, IsReduced, half_directions}
use Rattle.bounds_model.specs.StripAnswer.{IsThicker}
use Rattle.bounded_coords.specs.Clouds.{points_of}
use Rattle.answers.specs.Answers.{half_fan_of, half_cone_of, vector_of}
use Rattle.integers.proofs.Lists.{clash}
use Rattle.fan_checks.proofs.FanLoops.{half_first, half_short, half_names}
use Rattle.fan_checks.proofs.FirstLoops.{first_found, none_first, passed_more, none_more}
use Rattle.fan_checks.proofs.strips.is_first.Goals as goal

pub is_along-requires-clause-d : goal.is_along-requires-clause-d
is_along-requires-clause-d c =
    let fan = c.args.fan.now in
    subst IsShort (half_first fan c.cones.i c.at-cone.result c.at-cone.ensures) (half_short fan c.cones.i (omega (arith, slice_get_within fan.cones c.cones.i c.at-cone.result c.at-cone.ensures)) c.requires.limits.short)

pub returns-then-is_along : goal.returns-then-is_along
returns-then-is_along c =
    let fan = c.args.fan.now in
    let ds = half_directions (half_fan_of fan) in
    let along = c.is_along.ensures.0 c.if-is_along.true in
    let reduced : IsReduced (vector_of c.at-cone.result.dir) (vector_of c.args.normal) = record { parallel = along.0; ahead = along.1; lowest = c.is_lowest.ensures.0 c.if-not-is_lowest.false } in
    let first = first_found ds (IsThicker (points_of c.args.cloud) c.args.size.now) half_cone_of fan.cones (vector_of c.args.normal) c.cones.i c.at-cone.result c.at-cone.ensures c.cones.invariant.before (subst (λ d. IsReduced d (vector_of c.args.normal)) (sym (half_first fan c.cones.i c.at-cone.result c.at-cone.ensures)) reduced) in
    (λ _. first, λ _. refl)

pub is_wider-requires-clause-direction : goal.is_wider-requires-clause-direction
is_wider-requires-clause-direction c =
    let fan = c.args.fan.now in
    subst IsShort (half_first fan c.cones.i c.at-cone.result c.at-cone.ensures) (half_short fan c.cones.i (omega (arith, slice_get_within fan.cones c.cones.i c.at-cone.result c.at-cone.ensures)) c.requires.limits.short)

pub is_wider-requires-clause-hi : goal.is_wider-requires-clause-hi
is_wider-requires-clause-hi c = (half_names (points_of c.args.cloud) c.args.fan.now c.cones.i c.at-cone.result c.at-cone.ensures c.requires.limits.numbers).0

pub is_wider-requires-clause-lo : goal.is_wider-requires-clause-lo
is_wider-requires-clause-lo c = (half_names (points_of c.args.cloud) c.args.fan.now c.cones.i c.at-cone.result c.at-cone.ensures c.requires.limits.numbers).1

pub returns-then-not-is_wider : goal.returns-then-not-is_wider
returns-then-not-is_wider c =
    let fan = c.args.fan.now in
    let ds = half_directions (half_fan_of fan) in
    let P = IsThicker (points_of c.args.cloud) c.args.size.now in
    let here = half_first fan c.cones.i c.at-cone.result c.at-cone.ensures in (
      λ same. absurd (clash same refl),
      λ first. absurd (none_first ds P half_cone_of fan.cones (vector_of c.args.normal) c.cones.i c.at-cone.result c.at-cone.ensures c.cones.invariant.none
          (λ r. let r' = subst (λ d. IsReduced d (vector_of c.args.normal)) here r in clash (c.is_along.ensures.1 (r'.parallel, r'.ahead)) c.if-is_along.false)
          (λ p. clash (c.is_wider.ensures.1 (subst (λ d. P d (half_cone_of c.at-cone.result)) here p)) c.if-not-is_wider.true) first),
    )

pub cones-preserved : goal.cones-preserved
cones-preserved c =
    let fan = c.args.fan.now in
    let ds = half_directions (half_fan_of fan) in
    let P = IsThicker (points_of c.args.cloud) c.args.size.now in
    let here = half_first fan c.cones.i c.at-cone.result c.at-cone.ensures in
    record {
      before = passed_more ds P half_cone_of fan.cones c.cones.i c.at-cone.result c.at-cone.ensures c.cones.invariant.before (subst (λ d. P d (half_cone_of c.at-cone.result)) (sym here) (c.is_wider.ensures.0 c.if-not-is_wider.false));
      none = none_more ds (vector_of c.args.normal) c.cones.i c.cones.invariant.none (λ r. let r' = subst (λ d. IsReduced d (vector_of c.args.normal)) here r in clash (c.is_along.ensures.1 (r'.parallel, r'.ahead)) c.if-is_along.false);
    }
