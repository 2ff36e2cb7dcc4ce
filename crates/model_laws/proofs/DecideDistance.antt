-- Tests of the conditions on annuli and distances. Each decides the definition of the like name.
use Rattle.std.proofs.Common.{◌^◌, pos, ◌-ℤ◌, ◌≤ℤ◌, List, length}
use Rattle.std.specs.Prelude.{All}
use Rattle.bounds_model.specs.Plane.{PlanePoint, squared_length}
use Rattle.bounds_model.specs.Space.{SpacePoint, origin, point_at, dot, vector}
use Rattle.integers.specs.Extremes.{greatest, least}
use Rattle.bounds_model.specs.Ranges.{point_limit, number_limit}
use Rattle.bounds_model.specs.AnnulusAnswer.{WeightedPair, IsPairInRange, AnnulusAnswer, AnnulusRanges, power, squared_radius_at, pair_sum, weighted_differences, PassesAnnulus}
use Rattle.bounds_model.specs.DistanceAnswer.{DistanceAnswer, DistanceRanges, IsDirectionOf, difference, pull, first_product, mean, PassesDistance}
use Rattle.model_laws.proofs.Decisions.{Decision, like, both, either, three, all, most_ℕ, less_ℕ, equal_ℤ, most_ℤ}
use Rattle.model_laws.proofs.DecideParts.{same_space_point, within, counted, natural, same_value, same_place, fraction_in_range, plane_ratio_in_range, space_ratio_in_range}
use Rattle.model_laws.proofs.DecideDirection.{multiple_of_lowest}

abbrev pub direction_in_range : (pair : WeightedPair) → Decision (IsPairInRange pair)
direction_in_range pair = three (most_ℕ pair.first point_limit) (most_ℕ pair.second point_limit) (natural pair.weight)

abbrev pub annulus_ranges : (a : AnnulusAnswer) → Decision (AnnulusRanges a)
annulus_ranges a =
    like (both (fraction_in_range a.size) (both (plane_ratio_in_range a.centre) (both (fraction_in_range a.inner) (both (fraction_in_range a.outer) (both (counted 1 3 a.pairs) (all direction_in_range a.pairs))))))
    (λ h. record { size = h.0; centre = h.1.0; inner = h.1.1.0; outer = h.1.1.1.0; count = h.1.1.1.1.0; pairs = h.1.1.1.1.1 }) (λ h. (h.size, (h.centre, (h.inner, (h.outer, (h.count, h.pairs))))))

abbrev pub annulus_passes : (points : List PlanePoint) (a : AnnulusAnswer) → Decision (PassesAnnulus points a)
annulus_passes points a =
    like
    (both (annulus_ranges a)
    (both (all (λ pair. both (less_ℕ pair.first (length points)) (less_ℕ pair.second (length points))) a.pairs)
    (both (most_ℤ a.centre.w (pos (2 ^ 42)))
    (both (within (2 ^ 58) a.centre.x)
    (both (within (2 ^ 58) a.centre.y)
    (both (all (λ pair. most_ℤ (pos 1) pair.weight) a.pairs)
    (both (most_ℤ (pair_sum a.pairs) (pos (2 ^ 42)))
    (both (equal_ℤ (weighted_differences points (λ p. p.x) a.pairs) (pos 0))
    (both (equal_ℤ (weighted_differences points (λ p. p.y) a.pairs) (pos 0))
    (both (same_value a.size (record { n = greatest (power a.centre) points -ℤ least (power a.centre) points; d = a.centre.w }))
    (both (same_value a.size (record { n = weighted_differences points squared_length a.pairs; d = pair_sum a.pairs }))
    (both (same_value a.inner (squared_radius_at a.centre (least (power a.centre) points)))
    (same_value a.outer (squared_radius_at a.centre (greatest (power a.centre) points)))))))))))))))
    (λ h. record { ranges = h.0; numbers = h.1.0; w_limit = h.1.1.0; x_limit = h.1.1.1.0; y_limit = h.1.1.1.1.0; weights = h.1.1.1.1.1.0; weight_limit = h.1.1.1.1.1.1.0; balanced_x = h.1.1.1.1.1.1.1.0; balanced_y = h.1.1.1.1.1.1.1.1.0; size = h.1.1.1.1.1.1.1.1.1.0; least_size = h.1.1.1.1.1.1.1.1.1.1.0; inner = h.1.1.1.1.1.1.1.1.1.1.1.0; outer = h.1.1.1.1.1.1.1.1.1.1.1.1 })
    (λ h. (h.ranges, (h.numbers, (h.w_limit, (h.x_limit, (h.y_limit, (h.weights, (h.weight_limit, (h.balanced_x, (h.balanced_y, (h.size, (h.least_size, (h.inner, h.outer)))))))))))))

abbrev pub direction_of : (v d : SpacePoint) → Decision (IsDirectionOf v d)
direction_of v d = either (both (same_space_point v origin) (same_space_point d origin)) (multiple_of_lowest v d)

abbrev pub distance_ranges : (a : DistanceAnswer) → Decision (DistanceRanges a)
distance_ranges a =
    like (both (fraction_in_range a.size) (both (space_ratio_in_range a.from) (both (space_ratio_in_range a.to) (both (within number_limit a.direction.x) (both (within number_limit a.direction.y) (both (within number_limit a.direction.z) (both (counted 1 4 a.pairs) (all direction_in_range a.pairs))))))))
    (λ h. record { size = h.0; from = h.1.0; to = h.1.1.0; direction_x = h.1.1.1.0; direction_y = h.1.1.1.1.0; direction_z = h.1.1.1.1.1.0; count = h.1.1.1.1.1.1.0; pairs = h.1.1.1.1.1.1.1 })
    (λ h. (h.size, (h.from, (h.to, (h.direction_x, (h.direction_y, (h.direction_z, (h.count, h.pairs))))))))

abbrev pub distance_passes : (ps qs : List SpacePoint) (a : DistanceAnswer) → Decision (PassesDistance ps qs a)
distance_passes ps qs a =
    like
    (both (distance_ranges a)
    (both (all (λ pair. both (less_ℕ pair.first (length ps)) (less_ℕ pair.second (length qs))) a.pairs)
    (both (all (λ pair. most_ℤ (pos 1) pair.weight) a.pairs)
    (both (most_ℤ (pair_sum a.pairs) (pos (2 ^ 66)))
    (both (all (λ pair. equal_ℤ (dot (pull ps qs a.pairs) (difference ps qs pair)) (first_product ps qs a.pairs)) a.pairs)
    (both (all {P = λ p. All (λ q. first_product ps qs a.pairs ≤ℤ dot (pull ps qs a.pairs) (vector q p)) qs} (λ p. all (λ q. most_ℤ (first_product ps qs a.pairs) (dot (pull ps qs a.pairs) (vector q p))) qs) ps)
    (both (same_value a.size (record { n = first_product ps qs a.pairs; d = pair_sum a.pairs }))
    (both (same_place a.from (mean (λ pair. point_at ps pair.first) a.pairs))
    (both (same_place a.to (mean (λ pair. point_at qs pair.second) a.pairs))
    (direction_of (pull ps qs a.pairs) a.direction))))))))))
    (λ h. record { ranges = h.0; numbers = h.1.0; weights = h.1.1.0; weight_limit = h.1.1.1.0; same_products = h.1.1.1.1.0; no_smaller = h.1.1.1.1.1.0; size = h.1.1.1.1.1.1.0; from = h.1.1.1.1.1.1.1.0; to = h.1.1.1.1.1.1.1.1.0; direction = h.1.1.1.1.1.1.1.1.1 })
    (λ h. (h.ranges, (h.numbers, (h.weights, (h.weight_limit, (h.same_products, (h.no_smaller, (h.size, (h.from, (h.to, h.direction))))))))))
