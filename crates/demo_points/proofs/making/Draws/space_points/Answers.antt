use Rattle.std.proofs.Common.{◌≡◌, ◌-◌, ◌+◌, ◌*◌, ◌++◌, ◌∷◌, [], sym, ap, subst, List, length, length-append, arith}
use Rattle.bounds_model.specs.Space.{SpacePoint}
use Rattle.bounds_model.specs.Demo.{state_after, space_points}
use Rattle.demo_points.specs.Across.{across}
use Rattle.demo_points.proofs.Drawn.{space_points-more, state_after-point}
use Rattle.demo_points.proofs.making.Draws.space_points.Goals as goal

pub points-preserved : goal.points-preserved
points-preserved c =
    let made = c.points.points in
    let p = c.space_point.result in
    let rest = space_points (across c.args.part) c.space_point.new.self.state (c.args.count - (c.points.counter + 1)) in
    let all = space_points (across c.args.part) c.args.self.now.state c.args.count in
    let pushed : c.push.new.self ≡ made ++ p ∷ [] = c.in-Ok.ensures.added in
    record {
      made = omega (arith, ap length pushed, length-append made (p ∷ []), c.points.invariant.made);
      points = subst (λ (points : List SpacePoint). points ++ rest ≡ all) (sym pushed)
          (space_points-more (across c.args.part) made all c.points.self.state c.space_point.new.self.state p c.args.count c.points.counter c.points-test.true c.space_point.ensures.state c.space_point.ensures.point c.points.invariant.points);
      state = state_after-point c.points.self.state c.space_point.new.self.state c.args.count c.points.counter (state_after (3 * c.args.count) c.args.self.now.state) c.points-test.true c.space_point.ensures.state c.points.invariant.state;
    }
