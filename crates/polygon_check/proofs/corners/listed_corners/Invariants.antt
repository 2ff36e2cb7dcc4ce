use Rattle.std.proofs.Common.{◌≡◌, ℕ, ◌<◌, length, slice_index_or}
use Rattle.bounds_model.specs.Plane.{point_at}
use Rattle.bounded_coords.specs.Clouds.{points_of}
use Rattle.polygon_check.proofs.corners.listed_corners.Given as goal

-- the corners so far are those with the first numbers
abbrev pub invariant-numbers : goal.invariant-numbers
invariant-numbers l = record {
  as_many : length l.corners ≡ 128;
  each : (k : ℕ) → k < l.i → point_at l.corners k ≡ point_at (points_of l.cloud) (slice_index_or l.numbers k 0);
}
