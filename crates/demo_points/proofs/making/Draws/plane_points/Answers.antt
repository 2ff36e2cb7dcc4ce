use Rattle.std.proofs.Common.{◌≡◌, ◌-◌, ◌+◌, ◌++◌, ◌∷◌, [], sym, ap, subst, List, length, length-append, arith}
use Rattle.bounds_model.specs.Plane.{PlanePoint}
use Rattle.bounds_model.specs.Demo.{plane_points}
use Rattle.demo_points.proofs.Drawn.{plane_points-more}
use Rattle.demo_points.proofs.making.Draws.plane_points.Goals as goal

pub points-preserved : goal.points-preserved
points-preserved c =
    let made = c.points.points in
    let p = c.plane_point.result in
    let rest = plane_points c.plane_point.new.self.state (c.args.count - (c.points.counter + 1)) in
    let all = plane_points c.args.self.now.state c.args.count in
    let pushed : c.push.new.self ≡ made ++ p ∷ [] = c.in-Ok.ensures.added in
    record {
      made = omega (arith, ap length pushed, length-append made (p ∷ []), c.points.invariant.made);
      points = subst (λ (points : List PlanePoint). points ++ rest ≡ all) (sym pushed)
          (plane_points-more made all c.points.self.state c.plane_point.new.self.state p c.args.count c.points.counter c.points-test.true c.plane_point.ensures.state c.plane_point.ensures.point c.points.invariant.points);
    }
