use Rattle.std.proofs.Common.{sym}
use Rattle.answers.specs.Answers.{quarter_cone_of, vector_of}
use Rattle.directions.proofs.FanLists.{direction_at}
use Rattle.fan_test.proofs.fans.quarter_direction.Goals as goal

pub returns : goal.returns
returns c = let fan = c.args.fan.now in sym (direction_at quarter_cone_of (λ cone. cone.direction) fan.cones (vector_of fan.last) c.args.i c.at.result c.at.ensures)
