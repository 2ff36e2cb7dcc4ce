-- Weighted means, by the sums over the points as seen from one point.
use Rattle.std.specs.Prelude.{pos, ◌+ℤ◌, ◌*ℤ◌}
use Rattle.bounds_model.specs.Plane.{PlanePoint, PlaneRatio}
use Rattle.bounds_model.specs.Space.{SpacePoint, SpaceRatio}
use Rattle.bounds_model.specs.Fractions.{Fraction}
use Rattle.ball_sums.specs.declared.sums.Sums.{Sums}

-- half the mean of the squared distances
abbrev pub mean_size : Sums → Fraction
mean_size s = record { n = pos s.second_moment; d = pos 2 *ℤ pos s.weight }

-- the mean of the points, in the plane
abbrev pub plane_mean : PlanePoint → Sums → PlaneRatio
plane_mean from s = record { x = pos s.weight *ℤ from.x +ℤ s.pull.x; y = pos s.weight *ℤ from.y +ℤ s.pull.y; w = pos s.weight }

-- the mean of the points, in space
abbrev pub space_mean : SpacePoint → Sums → SpaceRatio
space_mean from s = record {
  x = pos s.weight *ℤ from.x +ℤ s.pull.x;
  y = pos s.weight *ℤ from.y +ℤ s.pull.y;
  z = pos s.weight *ℤ from.z +ℤ s.pull.z;
  w = pos s.weight;
}
