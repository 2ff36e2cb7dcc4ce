use Rattle.std.proofs.Common.{length, refl}
use Rattle.bounded_coords.specs.Clouds.{counted_points}
use Rattle.p_centres.proofs.Halving.{tries_at_first, one_try_less, steps_in_all}
use Rattle.p_centres.proofs.sides.least_side.Goals as goal

pub halving-init : goal.halving-init
halving-init g c = record {
  bracket = c.first_bracket-bracket.ensures.bracket;
  tries = tries_at_first (length (counted_points c.args.cloud)) c.args.steps.now c.bounding_box-bounds.new.steps c.first_bracket-bracket.new.steps c.first_bracket-bracket.result.low c.first_bracket-bracket.result.high
      c.first_bracket-bracket.ensures.bracket.order c.first_bracket-bracket.ensures.bracket.limit c.bounding_box-bounds.ensures.steps c.first_bracket-bracket.ensures.steps;
}

pub halving-preserved : goal.halving-preserved
halving-preserved g c = record {
  bracket = c.try_side.ensures.bracket;
  tries = one_try_less (length (counted_points c.args.cloud)) c.args.steps.now c.halving.steps c.try_side.new.steps c.halving.bracket.low c.halving.bracket.high c.try_side.new.bracket.low c.try_side.new.bracket.high _
      c.halving.invariant.tries c.halving-test.true refl c.try_side.ensures.tried.half c.try_side.ensures.steps;
}

pub returns-clause-steps : goal.returns-clause-steps
returns-clause-steps g c = steps_in_all (length (counted_points c.args.cloud)) c.args.steps.now c.halving.steps c.halving.bracket.low c.halving.bracket.high c.halving.invariant.tries
