use Rattle.std.proofs.Common.{◌∙◌, refl, sym, ap, subst, ◌+◌, take, true≢false}
use Rattle.bounded_coords.specs.Clouds.{points_of}
use Rattle.empty_rectangle.specs.Points.{AreObstacles}
use Rattle.empty_rectangle.proofs.Listing.{AreObstacles-skip, AreObstacles-push, has_point_inside}
use Rattle.empty_rectangle.proofs.obstacles.add_points.Goals as goal
use Rattle.empty_rectangle.proofs.obstacles.add_points.Goals.{in-Some+in-Ok, in_default}

pub points-preserved : goal.points-preserved
points-preserved c =
    let frame = c.args.frame in
    let points = points_of c.args.cloud in
    elim c.match-placed.branch [
      | in-Some+in-Ok w ↦
          let added = AreObstacles-push frame points c.points.i c.points.obstacles.items c.at.result.now w.in-Some.s c.points.invariant.added c.at.ensures (w.in-Some.ensures.inside.0 refl) w.in-Some.ensures.at w.in-Some.ensures.number in
          record { added = subst (λ xs. AreObstacles frame points (take (c.points.i + 1) points) xs) (sym (ap (λ v. v.items) w.obstacles-is ∙ w.in-Ok.ensures.items)) added }
      | in_default w ↦
          let added = AreObstacles-skip frame points c.points.i c.points.obstacles.items c.at.result.now c.points.invariant.added c.at.ensures (λ inside. true≢false (sym (w.in_default.ensures.inside.1 inside))) in
          record { added = subst (λ xs. AreObstacles frame points (take (c.points.i + 1) points) xs) (sym (ap (λ v. v.items) w.obstacles-is)) added }
    ]

pub returns-in-Err-clause-wants : goal.returns-in-Err-clause-wants
returns-in-Err-clause-wants c =
    has_point_inside c.args.frame (points_of c.args.cloud) c.points.i c.at.result.now c.at.ensures (c.in-Some.ensures.inside.0 refl)
