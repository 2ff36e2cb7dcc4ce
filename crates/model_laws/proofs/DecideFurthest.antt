-- Tests of the conditions on furthest corners. Each decides the definition of the like name.
use Rattle.std.proofs.Common.{ℕ, ◌+◌, ◌<ℤ◌, List, length}
use Rattle.bounds_model.specs.Plane.{PlanePoint, point_at, squared_distance}
use Rattle.bounds_model.specs.Ranges.{point_limit}
use Rattle.bounds_model.specs.Hull.{around}
use Rattle.bounds_model.specs.Furthest.{positions_after, IsFurthest}
use Rattle.bounds_model.specs.FurthestAnswer.{Entry, FurthestAnswer, corner_numbers, entry_points, far_at, furthest_size, FurthestRanges, PassesFurthest}
use Rattle.model_laws.proofs.Decisions.{Decision, like, both, all, each_below, most_ℕ, less_ℕ, most_ℤ, less_ℤ}
use Rattle.model_laws.proofs.DecideParts.{counted, same_value, fraction_in_range}
use Rattle.model_laws.proofs.DecideKgon.{corners_pass}

abbrev pub is_furthest : (corners : List PlanePoint) (i far : ℕ) → Decision (IsFurthest corners i far)
is_furthest corners i far =
    let most = squared_distance (point_at corners i) (point_at corners far) in
    like
    (both (less_ℕ far (length corners))
    (both (all (λ c. most_ℤ (squared_distance (point_at corners i) c) most) corners)
    (each_below {P = λ s. squared_distance (point_at corners i) (around corners (i + s)) <ℤ most}
    (λ s. less_ℤ (squared_distance (point_at corners i) (around corners (i + s))) most) (positions_after (length corners) i far))))
    (λ h. record { in_range = h.0; furthest = h.1.0; first = h.1.1 }) (λ h. (h.in_range, (h.furthest, h.first)))

abbrev pub furthest_ranges : (a : FurthestAnswer) → Decision (FurthestRanges a)
furthest_ranges a =
    like
    (both (fraction_in_range a.size) (both (counted 1 10000 a.entries) (both (all (λ (e : Entry). most_ℕ e.corner point_limit) a.entries) (all (λ (e : Entry). most_ℕ e.far point_limit) a.entries))))
    (λ h. record { size = h.0; count = h.1.0; corners = h.1.1.0; fars = h.1.1.1 }) (λ h. (h.size, (h.count, (h.corners, h.fars))))

abbrev pub furthest_passes : (points : List PlanePoint) (a : FurthestAnswer) → Decision (PassesFurthest points a)
furthest_passes points a =
    like
    (both (furthest_ranges a)
    (both (all (λ number. less_ℕ number (length points)) (corner_numbers a.entries))
    (both (corners_pass points (entry_points points a.entries))
    (both (each_below {P = λ i. IsFurthest (entry_points points a.entries) i (far_at a.entries i)} (λ i. is_furthest (entry_points points a.entries) i (far_at a.entries i)) (length a.entries))
    (same_value a.size (furthest_size points a.entries))))))
    (λ h. record { ranges = h.0; numbers = h.1.0; corners = h.1.1.0; furthest = h.1.1.1.0; size = h.1.1.1.1 })
    (λ h. (h.ranges, (h.numbers, (h.corners, (h.furthest, h.size)))))
