-- Tests of the conditions on centres. Each decides the definition of the like name.
use Rattle.std.proofs.Common.{ℕ, zero, suc, ◌-◌, ◌^◌, pos, nat_abs, ◌-ℤ◌, ◌*ℤ◌, List, [], ◌∷◌, length}
use Rattle.std.specs.Prelude.{Any}
use Rattle.bounds_model.specs.Plane.{PlanePoint, PlaneRatio, point_at}
use Rattle.bounds_model.specs.Fractions.{Fraction}
use Rattle.bounds_model.specs.Centres.{IsNear, Cover, FitsCentres}
use Rattle.bounds_model.specs.Ranges.{point_limit}
use Rattle.bounds_model.specs.CentresAnswer.{Leaf, CentresAnswer, CentresRanges, IsCentreWithinLimits, digits, outside, corner_square, IsLeftOver, AreFar, IsLeafBelow, IsLeaf, AreLeaves, PassesCentres, cover_of}
use Rattle.bounds_model.specs.CentresAnswer
use Rattle.model_laws.proofs.Decisions.{Decision, like, both, either, all, any, all_numbered, contains, is_nil, most_ℕ, less_ℕ, equal_ℕ, equal_ℤ, most_ℤ}
use Rattle.model_laws.proofs.DecideParts.{same_point, within, counted, not_negative, fraction_in_range, plane_ratio_in_range}

abbrev pub near : (radius : Fraction) (p : PlanePoint) (c : PlaneRatio) → Decision (IsNear radius p c)
near radius p c =
    like (both (most_ℤ (pos (nat_abs (c.w *ℤ p.x -ℤ c.x)) *ℤ radius.d) (radius.n *ℤ c.w)) (most_ℤ (pos (nat_abs (c.w *ℤ p.y -ℤ c.y)) *ℤ radius.d) (radius.n *ℤ c.w)))
    (λ h. record { in_x = h.0; in_y = h.1 }) (λ h. (h.in_x, h.in_y))

abbrev pub covers : (count : ℕ) (points : List PlanePoint) (cover : Cover) → Decision (FitsCentres count points cover)
covers count points cover =
    like (both (equal_ℕ (length cover.centres) count) (both (all (λ c. most_ℤ (pos 1) c.w) cover.centres) (both (not_negative cover.radius) (all {P = λ p. Any (IsNear cover.radius p) cover.centres} (λ p. any {P = IsNear cover.radius p} (near cover.radius p) cover.centres) points))))
    (λ h. record { as_many = h.0; denominators = h.1.0; radius = h.1.1.0; near = h.1.1.1 }) (λ h. (h.as_many, (h.denominators, (h.radius, h.near))))

abbrev pub left_over : (side : ℕ) (corners : List ℕ) (points : List PlanePoint) (p : PlanePoint) → Decision (IsLeftOver side corners points p)
left_over side [] points p = contains same_point points p
left_over side (corner ∷ rest) points p = left_over side rest (outside (corner_square side corner points) points) p

abbrev pub leaf_below : (side count : ℕ) (points rest : List PlanePoint) (number : ℕ) (leaf : Leaf) → Decision (IsLeafBelow side count points rest number leaf)
leaf_below side count points rest number leaf =
    let p = point_at points leaf.first in
    let q = point_at points leaf.second in
    like (both (left_over side (digits count number) rest p) (both (left_over side (digits count number) rest q) (either (less_ℕ side (nat_abs (q.x -ℤ p.x))) (less_ℕ side (nat_abs (q.y -ℤ p.y))))))
    (λ h. record { first = h.0; second = h.1.0; far = h.1.1 }) (λ h. (h.first, (h.second, h.far)))

abbrev pub leaf_contains : (side count : ℕ) (points : List PlanePoint) (number : ℕ) (leaf : Leaf) → Decision (IsLeaf side count points number leaf)
leaf_contains side count points number leaf = leaf_below side (count - 1) points points number leaf

abbrev pub leaves_contain : (side count : ℕ) (points : List PlanePoint) (leaves : List Leaf) → Decision (AreLeaves side count points leaves)
leaves_contain zero count points leaves = is_nil leaves
leaves_contain (suc side) count points leaves = both (equal_ℕ (length leaves) (4 ^ (count - 1))) (all_numbered {P = IsLeaf side count points} (leaf_contains side count points) leaves)

abbrev pub centre_within_limits : (c : PlaneRatio) → Decision (IsCentreWithinLimits c)
centre_within_limits c =
    like (both (either (equal_ℤ c.w (pos 1)) (equal_ℤ c.w (pos 2))) (both (within 1000000 c.x) (within 1000000 c.y)))
    (λ h. record { halves = h.0; x = h.1.0; y = h.1.1 }) (λ h. (h.halves, (h.x, h.y)))

abbrev pub centres_ranges : (a : CentresAnswer) → Decision (CentresRanges a)
centres_ranges a =
    like (both (fraction_in_range a.size) (both (counted 1 3 a.squares) (both (all plane_ratio_in_range a.squares) (both (counted 0 16 a.leaves) (all (λ leaf. both (most_ℕ leaf.first point_limit) (most_ℕ leaf.second point_limit)) a.leaves)))))
    (λ h. record { size = h.0; square_count = h.1.0; squares = h.1.1.0; leaf_count = h.1.1.1.0; leaves = h.1.1.1.1 }) (λ h. (h.size, (h.square_count, (h.squares, (h.leaf_count, h.leaves)))))

abbrev pub centres_passes : (count : ℕ) (points : List PlanePoint) (a : CentresAnswer) → Decision (PassesCentres count points a)
centres_passes count points a =
    like
    (both (centres_ranges a)
    (both (all (λ leaf. both (less_ℕ leaf.first (length points)) (less_ℕ leaf.second (length points))) a.leaves)
    (both (either (equal_ℤ a.size.d (pos 1)) (equal_ℤ a.size.d (pos 2)))
    (both (most_ℤ a.size.n (pos 1000000))
    (both (all centre_within_limits a.squares)
    (both (covers count points (cover_of a))
    (leaves_contain (CentresAnswer.side a.size) count points a.leaves)))))))
    (λ h. record { ranges = h.0; numbers = h.1.0; halves = h.1.1.0; size_limit = h.1.1.1.0; centres = h.1.1.1.1.0; covers = h.1.1.1.1.1.0; leaves = h.1.1.1.1.1.1 })
    (λ h. (h.ranges, (h.numbers, (h.halves, (h.size_limit, (h.centres, (h.covers, h.leaves)))))))
