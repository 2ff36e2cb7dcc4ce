use Rattle.std.proofs.Common.{refl, subst, map, SFits, w32}
use Rattle.std.proofs.lemmas.Int.{to_z-of_z}
use Rattle.bounds_model.specs.CentresAnswer.{outside}
use Rattle.bounded_coords.specs.Clouds.{counted_points}
use Rattle.answers.specs.Answers.{leaf_of}
use Rattle.corner_squares.specs.Squares.{square_of}
use Rattle.corner_squares.specs.Trees.{AreLeavesAt}
use Rattle.bounds_model.specs.FourAnswer.{first_square}
use Rattle.corner_squares.specs.LeastPoints.{point_of}
use Rattle.four_centres.proofs.Following.{refuted_by_leaves}
use Rattle.four_centres.proofs.search.try_height.Goals as goal

pub returns-in-Refuted-clause-left : goal.returns-in-Refuted-clause-left
returns-in-Refuted-clause-left g c = λ _.
    let points = counted_points c.args.cloud in
    let fits : SFits w32 c.args.height = c.ranges.height in
    let is = simp to_z-of_z at c.square.ensures in
    record {
      same = refl;
      refuted = refuted_by_leaves points (first_square c.args.side (point_of c.args.least) c.args.height) (map leaf_of c.in-Refuted.field-0.items)
          (subst (λ s. AreLeavesAt s.side 2 points (outside (square_of s) points) (map leaf_of c.in-Refuted.field-0.items)) is c.in-Refuted.ensures.trial);
    }
