use Rattle.std.proofs.Common.{subst, sym}
use Rattle.bounds_model.specs.Strip.{AreTight}
use Rattle.bounds_model.specs.Asks.{ask_rectangle, plane}
use Rattle.bounds_model.specs.Answers.{rectangle}
use Rattle.bounded_coords.specs.Clouds.{points_of}
use Rattle.answers.specs.Answers.{rectangle_of}
use Rattle.fan_checks.proofs.RectanglePassing.{rectangle_passes}
use Rattle.fan_checks.proofs.rectangles.check_rectangle.Goals as goal

pub returns-clause-passes : goal.returns-clause-passes
returns-clause-passes c =
    let points = points_of c.args.cloud in
    let a = rectangle_of c.args.a.now in (
      λ same. rectangle_passes points a c.args.cloud.limited c.has_size.ensures.lowest (c.is_quarter_within_limits.ensures.0 c.if-not-is_quarter_within_limits.false) (c.is_normal_within_limits.ensures.0 c.if-not-is_normal_within_limits.false)
          (c.is_short_span.ensures.0 c.if-not-is_short_span.false) (c.has_size.ensures.value.0 c.if-not-has_size.false) (c.holds_quarter.ensures.0 c.if-not-holds_quarter.false) (c.is_none_smaller.ensures.0 c.if-not-is_none_smaller.false)
          (c.is_first.ensures.0 c.if-not-is_first.false) (c.is_tight.ensures.0 c.if-not-is_tight.false) (subst (λ d. AreTight points d a.across) c.quarter_turn.ensures.value (c.is_tight-2.ensures.0 same)),
      λ passes. c.is_tight-2.ensures.1 (subst (λ d. AreTight points d a.across) (sym c.quarter_turn.ensures.value) passes.tight_across),
    )

pub returns-clause-best : goal.returns-clause-best
returns-clause-best c = λ same. c.passing_answers_are_best.ensures ask_rectangle (plane (points_of c.args.cloud)) (rectangle (rectangle_of c.args.a.now)) ((returns-clause-passes c).0 same)

pub returns-clause-first : goal.returns-clause-first
returns-clause-first c = λ same. c.passing_rectangles_are_first.ensures (points_of c.args.cloud) (rectangle_of c.args.a.now) ((returns-clause-passes c).0 same)
