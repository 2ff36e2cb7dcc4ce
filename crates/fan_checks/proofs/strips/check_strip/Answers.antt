use Rattle.bounds_model.specs.Asks.{ask_strip, plane}
use Rattle.bounds_model.specs.Answers.{strip}
use Rattle.bounded_coords.specs.Clouds.{points_of}
use Rattle.answers.specs.Answers.{strip_of}
use Rattle.fan_checks.proofs.StripPassing.{strip_passes}
use Rattle.fan_checks.proofs.strips.check_strip.Goals as goal

pub returns-clause-passes : goal.returns-clause-passes
returns-clause-passes c =
    let points = points_of c.args.cloud in
    let a = strip_of c.args.a.now in (
      λ same. strip_passes points a c.args.cloud.limited c.has_size.ensures.lowest (c.is_half_within_limits.ensures.0 c.if-not-is_half_within_limits.false) (c.is_normal_within_limits.ensures.0 c.if-not-is_normal_within_limits.false)
          (c.has_size.ensures.value.0 c.if-not-has_size.false) (c.holds_half.ensures.0 c.if-not-holds_half.false) (c.is_none_narrower.ensures.0 c.if-not-is_none_narrower.false) (c.is_first.ensures.0 c.if-not-is_first.false) (c.is_tight.ensures.0 same),
      λ passes. c.is_tight.ensures.1 passes.tight,
    )

pub returns-clause-best : goal.returns-clause-best
returns-clause-best c = λ same. c.passing_answers_are_best.ensures ask_strip (plane (points_of c.args.cloud)) (strip (strip_of c.args.a.now)) ((returns-clause-passes c).0 same)

pub returns-clause-first : goal.returns-clause-first
returns-clause-first c = λ same. c.passing_strips_are_first.ensures (points_of c.args.cloud) (strip_of c.args.a.now) ((returns-clause-passes c).0 same)
