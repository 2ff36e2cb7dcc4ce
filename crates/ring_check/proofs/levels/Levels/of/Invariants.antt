use Rattle.std.specs.Prelude.{map, take}
use Rattle.bounded_coords.specs.Clouds.{points_of}
use Rattle.ring_check.specs.Rings.{ratio_of, AreLevels}
use Rattle.ring_check.proofs.levels.Levels.of.Given as goal

abbrev pub invariant-loop-i : goal.invariant-loop-i
invariant-loop-i g l = AreLevels (ratio_of l.centre) (take l.i (map g.P.Place.place (points_of l.cloud))) l.levels
