-- Tests of the conditions on circles and spheres. Each decides the definition of the like name.
use Rattle.std.proofs.Common.{ℕ, ◌^◌, pos, List, length, map}
use Rattle.bounds_model.specs.Plane.{PlanePoint}
use Rattle.bounds_model.specs.Space.{SpacePoint, flat}
use Rattle.bounds_model.specs.Ball.{Ball}
use Rattle.bounds_model.specs.BallAnswer.{Weighted, SphereAnswer, SphereRanges, PassesSphere, sphere_of, CircleAnswer, CircleRanges, IsBallWitness, PassesCircle, circle_of, weight_sum, IsOnBall, IsNotOutside, supported_size, supported_centre}
use Rattle.bounds_model.specs.Ranges.{point_limit}
use Rattle.model_laws.proofs.Decisions.{Decision, like, both, all, most_ℕ, less_ℕ, equal_ℤ, most_ℤ}
use Rattle.model_laws.proofs.DecideParts.{counted, natural, same_value, same_place, fraction_in_range, plane_ratio_in_range, space_ratio_in_range}

abbrev pub ball_witness : (limit : ℕ) (points : List SpacePoint) (ball : Ball) (supports : List Weighted) → Decision (IsBallWitness limit points ball supports)
ball_witness limit points ball supports =
    like
    (both (all (λ s. most_ℤ (pos 1) s.weight) supports)
    (both (most_ℤ (weight_sum supports) (pos limit))
    (both (all {P = IsOnBall points supports} (λ s. equal_ℤ _ _) supports)
    (both (all {P = IsNotOutside points supports} (λ p. most_ℤ _ _) points)
    (both (same_value ball.squared_radius (supported_size points supports)) (same_place ball.centre (supported_centre points supports)))))))
    (λ h. record { weights = h.0; weight_limit = h.1.0; on_ball = h.1.1.0; none_outside = h.1.1.1.0; size = h.1.1.1.1.0; centre = h.1.1.1.1.1 })
    (λ h. (h.weights, (h.weight_limit, (h.on_ball, (h.none_outside, (h.size, h.centre))))))

abbrev pub circle_ranges : (a : CircleAnswer) → Decision (CircleRanges a)
circle_ranges a =
    like
    (both (fraction_in_range a.size) (both (plane_ratio_in_range a.centre) (both (counted 1 3 a.supports) (all (λ s. both (most_ℕ s.point point_limit) (natural s.weight)) a.supports))))
    (λ h. record { size = h.0; centre = h.1.0; count = h.1.1.0; supports = h.1.1.1 })
    (λ h. (h.size, (h.centre, (h.count, h.supports))))

abbrev pub circle_passes : (points : List PlanePoint) (a : CircleAnswer) → Decision (PassesCircle points a)
circle_passes points a =
    like
    (both (circle_ranges a) (both (all (λ s. less_ℕ s.point (length points)) a.supports) (ball_witness (2 ^ 80) (map flat points) (circle_of a) a.supports)))
    (λ h. record { ranges = h.0; numbers = h.1.0; witness = h.1.1 })
    (λ h. (h.ranges, (h.numbers, h.witness)))

abbrev pub sphere_ranges : (a : SphereAnswer) → Decision (SphereRanges a)
sphere_ranges a =
    like
    (both (fraction_in_range a.size) (both (space_ratio_in_range a.centre) (both (counted 1 4 a.supports) (all (λ s. both (most_ℕ s.point point_limit) (natural s.weight)) a.supports))))
    (λ h. record { size = h.0; centre = h.1.0; count = h.1.1.0; supports = h.1.1.1 })
    (λ h. (h.size, (h.centre, (h.count, h.supports))))

abbrev pub sphere_passes : (points : List SpacePoint) (a : SphereAnswer) → Decision (PassesSphere points a)
sphere_passes points a =
    like
    (both (sphere_ranges a) (both (all (λ s. less_ℕ s.point (length points)) a.supports) (ball_witness (2 ^ 92) points (sphere_of a) a.supports)))
    (λ h. record { ranges = h.0; numbers = h.1.0; witness = h.1.1 })
    (λ h. (h.ranges, (h.numbers, h.witness)))
