use Rattle.std.proofs.Common.{refl, sym, subst, ◌≤ℤ◌, map}
use Rattle.bounds_model.specs.Space.{vector, point_at}
use Rattle.bounded_coords.specs.Clouds.{points_of}
use Rattle.corral.specs.Moments.{slack_at}
use Rattle.kernel_laws.proofs.Points.{point_at_place}
use Rattle.corral.proofs.PointNumbers.{least_at}
use Rattle.corral.proofs.least_slack.point_of_least_slack.Goals as goal

pub returns : goal.returns
returns g c =
    let points = points_of c.args.cloud in
    let quadratic = g.T.Potential.SQUARE in
    let place = g.K.Kernel.place in
    let first = c.at.result.now in
    record {
      named = (c.first_least-number.ensures.listed, refl);
      least = λ other h. subst
          (λ o. slack_at quadratic c.args.moments (vector o (point_at (map place points) c.first_least-number.result)) ≤ℤ slack_at quadratic c.args.moments (vector o (point_at (map place points) other.first)))
          (sym (point_at_place place points 0 first c.at.ensures))
          (least_at place (λ v. slack_at quadratic c.args.moments (vector (place first) v)) points first c.first_least-number.result other.first c.first_least-number.ensures h.0);
    }
