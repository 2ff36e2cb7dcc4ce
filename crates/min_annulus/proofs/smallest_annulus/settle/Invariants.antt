use Rattle.bounded_coords.specs.Clouds.{points_of}
use Rattle.min_annulus.specs.Triangles.{IsTriangle}
use Rattle.min_annulus.proofs.ExchangedTriangles.{measure_of}
use Rattle.min_annulus.proofs.smallest_annulus.settle.Given as goal

abbrev pub invariant-exchange : goal.invariant-exchange
invariant-exchange l = IsTriangle (points_of l.cloud) l.triangle

abbrev pub decreases-exchange : goal.decreases-exchange
decreases-exchange l = measure_of l.triangle
