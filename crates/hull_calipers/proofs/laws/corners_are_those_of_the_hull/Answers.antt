use Rattle.hull_calipers.specs.CornerLists.{numbers_in, points_in}
use Rattle.hull_calipers.proofs.ModelCorners.{hull_corners}
use Rattle.hull_calipers.proofs.laws.corners_are_those_of_the_hull.Goals as goal

pub returns-clause-corners : goal.returns-clause-corners
returns-clause-corners c = hull_corners (points_in c.args.corners.now) (numbers_in c.args.corners.now) c.args.corners.now.hull

pub returns-clause-numbers : goal.returns-clause-numbers
returns-clause-numbers c = c.args.corners.now.hull.least_numbers
