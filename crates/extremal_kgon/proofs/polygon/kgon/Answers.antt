use Rattle.bounded_coords.specs.Clouds.{points_of}
use Rattle.answers.specs.Answers.{polygon_of}
use Rattle.extremal_kgon.proofs.FewCorners.{few_corners}
use Rattle.extremal_kgon.proofs.polygon.kgon.Goals as goal

pub returns-clause-taken : goal.returns-clause-taken
returns-clause-taken c = few_corners c.args.k (points_of c.args.cloud) (polygon_of c.in_ok-answer.field-0) c.in_ok-answer.ensures.passes

pub returns-clause-first : goal.returns-clause-first
returns-clause-first c = c.passing_kgons_are_first.ensures c.args.k (points_of c.args.cloud) (polygon_of c.in_ok-answer.field-0) c.requires.k c.in_ok-answer.ensures.passes
