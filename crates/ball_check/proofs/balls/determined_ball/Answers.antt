use Rattle.std.proofs.Common.{sym, subst, map, le_trans}
use Rattle.std.proofs.lemmas.List.{length-map}
use Rattle.bounds_model.specs.Fractions.{SameValue}
use Rattle.bounded_coords.specs.Clouds.{points_of}
use Rattle.answers.specs.Answers.{weighted_of}
use Rattle.ball_sums.proofs.SumSizes.{weight_most, second_moment_most}
use Rattle.ball_sums.proofs.Means.{mean_size_is}
use Rattle.ball_sums.specs.DeterminedBalls.{HasBallLimits}
use Rattle.integers.proofs.Lists.{clash}
use Rattle.ball_check.proofs.balls.determined_ball.Goals as goal

pub returns-in_err-totals : goal.returns-in_err-totals
returns-in_err-totals g c =
    rw c.from_residual.ensures (λ h. c.in_err-totals.ensures (subst (λ n. HasBallLimits g.K.Kernel.DIM n (map weighted_of c.args.supports.now)) (length-map (points_of c.args.cloud) g.K.Kernel.place) h.limits))

pub is_size-requires : goal.is_size-requires
is_size-requires g c =
    let totals = c.in_ok-totals.ensures.1 in
    record {
      some = totals.some;
      weight = weight_most g.met.K.Kernel.two_or_three totals.sums.range.weight;
      second_moment = le_trans totals.sums.range.second_moment (second_moment_most g.met.K.Kernel.two_or_three totals.sums.range.weight);
    }

pub returns-then-not-is_size : goal.returns-then-not-is_size
returns-then-not-is_size g c = λ h.
    clash (c.is_size.ensures.1 (h.size_in_range, subst (SameValue c.args.size.now) (sym (mean_size_is (map g.K.Kernel.place (points_of c.args.cloud)) (map weighted_of c.args.supports.now) c.in_ok-totals.totals c.in_ok-totals.ensures.1.sums.sums)) h.size_is)) c.if-not-is_size.true

pub returns : goal.returns
returns g c =
    let size = c.is_size.ensures.0 c.if-not-is_size.false in (
      record {
        limits = subst (λ n. HasBallLimits g.K.Kernel.DIM n (map weighted_of c.args.supports.now)) (sym (length-map (points_of c.args.cloud) g.K.Kernel.place)) c.in_ok-totals.ensures.0;
        size_in_range = size.0;
        size_is = subst (SameValue c.args.size.now) (mean_size_is (map g.K.Kernel.place (points_of c.args.cloud)) (map weighted_of c.args.supports.now) c.in_ok-totals.totals c.in_ok-totals.ensures.1.sums.sums) size.1;
        on_ball = c.are_on_ball.ensures.0 c.if-not-are_on_ball.false;
        none_outside = c.is_none_outside.ensures.0 c.if-not-is_none_outside.false;
      },
      c.in_ok-totals.ensures.1,
    )
