use Rattle.std.proofs.Common.{◌+◌, ◌≤◌, length, arith}
use Rattle.empty_rectangle.specs.Rectangles.{NoneEnters}
use Rattle.empty_rectangle.proofs.Sweeping.{by_order, NoneEnters-beside}
use Rattle.empty_rectangle.proofs.sweep.next_entering.Goals as goal
use Rattle.empty_rectangle.proofs.sweep.next_entering.Goals.{then-is_run_met+in_default, else-is_run_met}

pub runs-preserved : goal.runs-preserved
runs-preserved c =
    let obstacles = c.args.obstacles.now in
    let passed = c.runs.passed in
    let old = c.runs.invariant in
    let below : passed + 32 ≤ length obstacles = omega (arith, c.runs-test.true, old.below) in
    let run : NoneEnters obstacles c.args.window.left.at c.args.bottom c.args.window.right.at passed (passed + 32) = elim c.if-is_run_met.branch [
      | then-is_run_met+in_default w ↦ w.in_default.ensures
      | else-is_run_met w ↦ NoneEnters-beside obstacles c.args.xs.now c.args.window.left.at c.args.bottom c.args.window.right.at passed (passed + 32) c.requires.columns below (c.is_run_met.ensures w.if-is_run_met.false)
    ] in
    record {
      after = omega (arith, old.after);
      below = below;
      earlier = λ k d low high enters. by_order k passed (λ before. old.earlier k d low before enters) (λ later. run k d later high enters);
    }
