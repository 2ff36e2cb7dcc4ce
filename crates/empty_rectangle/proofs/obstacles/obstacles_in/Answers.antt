use Rattle.std.proofs.Common.{rules, []}
use Rattle.std.proofs.lemmas.List.Sorted.{IsNonDecreasingBy-from_sort_by_key}
use Rattle.empty_rectangle.specs.Points.{points_in, AreObstacles}
use Rattle.empty_rectangle.proofs.Listing.{AreObstacles-permuted, AreObstacles-none}
use Rattle.empty_rectangle.proofs.obstacles.obstacles_in.Goals as goal
use Rattle.empty_rectangle.proofs.obstacles.obstacles_in.Goals.{in-Some+in_ok-add_points, in_default}

pub returns-clause-lists : goal.returns-clause-lists
returns-clause-lists c =
    let points = points_in c.args.cloud in
    let are : AreObstacles c.args.frame points points c.match-cloud.obstacles.items = elim c.match-cloud.branch [
      | in-Some+in_ok-add_points w ↦ rw (w.in-Some.is, w.obstacles-is) w.in_ok-add_points.ensures.added
      | in_default w ↦ rw (w.in_default.is, w.obstacles-is, c.new-obstacles.ensures.items) (AreObstacles-none c.args.frame [])
    ] in
    record {
      are = AreObstacles-permuted c.args.frame points points _ _ c.sort_unstable_by_key.ensures.permutation are;
      sorted = IsNonDecreasingBy-from_sort_by_key (λ s. s.y) _ c.sort_unstable_by_key.ensures.sorted (λ a r q k. search rules);
    }
