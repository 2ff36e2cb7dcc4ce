use Rattle.bounded_coords.specs.Clouds.{points_of}
use Rattle.answers.specs.Answers.{strip_of}
use Rattle.parallelogram_strip.proofs.solvers.strip.Goals as goal

pub returns-clause-first : goal.returns-clause-first
returns-clause-first g c = c.passing_strips_are_first.ensures (points_of c.args.cloud) (strip_of c.strip_of_fan.result) c.strip_of_fan.ensures
