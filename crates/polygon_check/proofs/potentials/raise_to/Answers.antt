use Rattle.std.proofs.Common.{map}
use Rattle.added_areas.specs.PlaneVectors.{vector_of}
use Rattle.answers.specs.Answers.{polygon_of}
use Rattle.polygon_check.proofs.RowLists.{raised_as}
use Rattle.polygon_check.proofs.potentials.raise_to.Goals as goal

pub returns : goal.returns
returns c =
    raised_as (map vector_of c.args.vectors.now) (polygon_of c.args.a.now) c.args.first c.args.last c.args.rows.now c.put_areas.new.areas.items c.as_slice.result.now c.len.result c.len.ensures.count c.as_slice.ensures.value
    c.requires.rows c.put_areas.ensures c.requires.rising c.requires.below c.are_raised.ensures
