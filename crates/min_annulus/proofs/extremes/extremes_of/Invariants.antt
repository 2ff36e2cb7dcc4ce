use Rattle.bounds_model.specs.Plane.{IsInPlane, point_at}
use Rattle.bounds_model.specs.Numbers.{EachBelow}
use Rattle.bounded_coords.specs.Clouds.{points_of}
use Rattle.min_annulus.specs.LinearForms.{level}
use Rattle.pair_weights.specs.Extremes.{AreExtremes}
use Rattle.min_annulus.proofs.extremes.extremes_of.Given as goal

abbrev pub invariant-loop-i : goal.invariant-loop-i
invariant-loop-i l =
    AreExtremes (λ i. level l.form (point_at (points_of l.cloud) i)) l.i l.extremes
    × EachBelow l.i (λ i. IsInPlane (point_at (points_of l.cloud) i))
