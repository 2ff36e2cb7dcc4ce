use Rattle.bounded_coords.specs.Clouds.{points_of}
use Rattle.min_shell.specs.Tetrahedra.{IsTetrahedron}
use Rattle.min_shell.specs.OpenCoordinates.{KeepsDirections}
use Rattle.min_shell.proofs.ExchangedTetrahedra.{measure_of}
use Rattle.min_shell.proofs.smallest_shell.settle.Given as goal

abbrev pub invariant-exchange : goal.invariant-exchange
invariant-exchange l = IsTetrahedron (points_of l.cloud) l.target l.tetrahedron × KeepsDirections (points_of l.cloud) l.tetrahedron

abbrev pub decreases-exchange : goal.decreases-exchange
decreases-exchange l = measure_of l.target l.tetrahedron
