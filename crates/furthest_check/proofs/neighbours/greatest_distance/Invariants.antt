use Rattle.std.proofs.Common.{◌≡◌, pos, ◌≤ℤ◌, map, take}
use Rattle.integers.specs.Size.{Size}
use Rattle.integers.specs.Extremes.{greatest}
use Rattle.bounded_coords.specs.Clouds.{points_of}
use Rattle.answers.specs.Answers.{entry_of}
use Rattle.bounds_model.specs.FurthestAnswer.{far_distance}
use Rattle.furthest_check.proofs.neighbours.greatest_distance.Given as goal

abbrev pub invariant-entries : goal.invariant-entries
invariant-entries l = (l.most ≡ greatest (far_distance (points_of l.cloud) (map entry_of l.entries)) (take l.i (map entry_of l.entries))) × (pos 0 ≤ℤ l.most) × Size 320000000000 l.most
