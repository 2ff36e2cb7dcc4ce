use Rattle.std.proofs.Common.{rules, ◌≤◌, length}
use Rattle.hull_calipers.specs.CornerLists.{numbers_in, points_in}
use Rattle.hull_calipers.proofs.Counts.{hull_few}
use Rattle.hull_calipers.proofs.corner_list.Corners.len.Goals as goal

pub returns-clause-within : goal.returns-clause-within
returns-clause-within c =
    let few : length (numbers_in c.args.self.now) ≤ length (points_in c.args.self.now) = hull_few (points_in c.args.self.now) (numbers_in c.args.self.now) c.args.self.now.hull in
    search rules
