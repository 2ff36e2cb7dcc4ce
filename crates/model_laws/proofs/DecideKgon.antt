-- Tests of the conditions on hulls and polygons. Each decides the definition of the like name.
use Rattle.std.proofs.Common.{◌≡◌, ◌≢◌, refl, ℕ, zero, suc, ◌+◌, ◌-◌, ◌*◌, ◌<◌, min, ℤ, pos, ◌*ℤ◌, List, [], ◌∷◌, length, arith}
use Rattle.std.specs.Prelude.{Contains, slice_index}
use Rattle.std.specs.List.Sorted.{IsStrictlyIncreasing}
use Rattle.bounds_model.specs.Numbers.{EachBelow}
use Rattle.bounds_model.specs.Plane.{PlanePoint, vector, cross, turn, IsBefore, IsLeastPoint, IsGreatestPoint}
use Rattle.bounds_model.specs.Hull.{around, AreCornerCycle, AreEnds, IsOnlyPoint, AreCorners}
use Rattle.bounds_model.specs.CornerTest.{GoAround, LeadToGreatest, SurroundAll, FirstIsOnce, CornersPass}
use Rattle.bounds_model.specs.Kgon.{FitsKgon, kgon_size}
use Rattle.bounds_model.specs.KgonAnswer.{KgonAnswer, KgonRanges, corner_points, pairs_before, potential, Grows, chosen_at, IsBelowSize, StaysBelow, most_with, NoneBetween, PassesKgon}
use Rattle.bounds_model.specs.Ranges.{point_limit}
use Rattle.model_laws.proofs.Decisions.{Decision, like, both, either, negated, impossible, sure, implies, all, all_pairs, contains, each_below, most_ℕ, less_ℕ, equal_ℕ, equal_ℤ, most_ℤ, less_ℤ}
use Rattle.model_laws.proofs.DecideParts.{same_point, counted, natural, same_value, fraction_in_range}

abbrev pub before : (a b : PlanePoint) → Decision (IsBefore a b)
before a b = either (less_ℤ a.x b.x) (both (equal_ℤ a.x b.x) (most_ℤ a.y b.y))

abbrev pub least_point : (points : List PlanePoint) (a : PlanePoint) → Decision (IsLeastPoint points a)
least_point points a = like (both (contains same_point points a) (all {P = IsBefore a} (before a) points)) (λ h. record { listed = h.0; least = h.1 }) (λ h. (h.listed, h.least))

abbrev pub greatest_point : (points : List PlanePoint) (a : PlanePoint) → Decision (IsGreatestPoint points a)
greatest_point points a = like (both (contains same_point points a) (all {P = λ p. IsBefore p a} (λ p. before p a) points)) (λ h. record { listed = h.0; greatest = h.1 }) (λ h. (h.listed, h.greatest))

abbrev pub cycle : (points corners : List PlanePoint) → Decision (AreCornerCycle points corners)
cycle points corners =
    like
    (both (all {P = Contains points} (contains same_point points) corners)
    (both (least_point points (around corners 0))
    (both (all_pairs {R = λ a b. a ≢ b} (λ a b. negated (same_point a b)) corners)
    (both (each_below (λ i. less_ℤ (pos 0) (turn (around corners i) (around corners (i + 1)) (around corners (i + 2)))) (length corners))
    (each_below (λ i. all (λ p. most_ℤ (pos 0) (turn (around corners i) (around corners (i + 1)) p)) points) (length corners))))))
    (λ h. record { listed = h.0; from_least = h.1.0; distinct = h.1.1.0; left_turns = h.1.1.1.0; inside = h.1.1.1.1 })
    (λ h. (h.listed, (h.from_least, (h.distinct, (h.left_turns, h.inside)))))

abbrev pub ends : (points : List PlanePoint) (a b : PlanePoint) → Decision (AreEnds points a b)
ends points a b =
    like (both (least_point points a) (both (greatest_point points b) (both (negated (same_point a b)) (all (λ p. equal_ℤ (turn a b p) (pos 0)) points))))
    (λ h. record { from_least = h.0; to_greatest = h.1.0; distinct = h.1.1.0; on_line = h.1.1.1 }) (λ h. (h.from_least, (h.to_greatest, (h.distinct, h.on_line))))

abbrev pub only_point : (points : List PlanePoint) (a : PlanePoint) → Decision (IsOnlyPoint points a)
only_point points a = like (both (contains same_point points a) (all (λ p. same_point p a) points)) (λ h. record { listed = h.0; only = h.1 }) (λ h. (h.listed, h.only))

abbrev pub are_corners : (points corners : List PlanePoint) → Decision (AreCorners points corners)
are_corners points [] = impossible (λ h. h)
are_corners points (a ∷ []) = only_point points a
are_corners points (a ∷ b ∷ []) = ends points a b
are_corners points (a ∷ b ∷ c ∷ rest) = cycle points (a ∷ b ∷ c ∷ rest)

abbrev pub go_around : (points corners : List PlanePoint) → Decision (GoAround points corners)
go_around points corners =
    like
    (both (each_below (λ i. less_ℤ (pos 0) (cross (vector (around corners i) (around corners (i + 1))) (vector (around corners (i + 1)) (around corners (i + 2))))) (length corners))
    (each_below (λ i. all (λ p. most_ℤ (pos 0) (cross (vector (around corners i) (around corners (i + 1))) (vector (around corners i) p))) points) (length corners)))
    (λ h. record { left_turns = h.0; all_left = h.1 }) (λ h. (h.left_turns, h.all_left))

abbrev pub lead_to_greatest : (points : List PlanePoint) (a b : PlanePoint) → Decision (LeadToGreatest points a b)
lead_to_greatest points a b =
    like (both (greatest_point points b) (all (λ p. equal_ℤ (cross (vector a b) (vector a p)) (pos 0)) points))
    (λ h. record { to_greatest = h.0; on_line = h.1 }) (λ h. (h.to_greatest, h.on_line))

abbrev pub surround_all : (points corners : List PlanePoint) → Decision (SurroundAll points corners)
surround_all points [] = impossible (λ h. h)
surround_all points (a ∷ []) = all (λ p. same_point p a) points
surround_all points (a ∷ b ∷ []) = lead_to_greatest points a b
surround_all points (a ∷ b ∷ c ∷ rest) = go_around points (a ∷ b ∷ c ∷ rest)

abbrev pub first_is_once : (corners : List PlanePoint) → Decision (FirstIsOnce corners)
first_is_once [] = impossible (λ h. h)
first_is_once (a ∷ rest) = all (λ c. negated (same_point c a)) rest

abbrev pub corners_pass : (points corners : List PlanePoint) → Decision (CornersPass points corners)
corners_pass points corners =
    like (both (least_point points (around corners 0)) (both (first_is_once corners) (surround_all points corners)))
    (λ h. record { from_least = h.0; once = h.1.0; surround = h.1.1 }) (λ h. (h.from_least, (h.once, h.surround)))

abbrev pub Rises : List ℕ → ℕ → Type 0
Rises xs k = slice_index xs k < slice_index xs (k + 1)

pub rising_to : (xs : List ℕ) → EachBelow (length xs - 1) (Rises xs) → IsStrictlyIncreasing xs
rising_to xs h k l = h k (omega arith)

pub rising_from : (xs : List ℕ) → IsStrictlyIncreasing xs → EachBelow (length xs - 1) (Rises xs)
rising_from xs h k l = h k (omega arith)

abbrev pub rising : (xs : List ℕ) → Decision (IsStrictlyIncreasing xs)
rising xs = like (each_below {P = Rises xs} (λ k. less_ℕ (slice_index xs k) (slice_index xs (k + 1))) (length xs - 1)) (rising_to xs) (rising_from xs)

abbrev pub fits_kgon : (k : ℕ) (corners : List PlanePoint) (positions : List ℕ) → Decision (FitsKgon k corners positions)
fits_kgon k corners positions =
    like (both (counted 1 (min k (length corners)) positions) (both (rising positions) (all (λ i. less_ℕ i (length corners)) positions)))
    (λ h. record { count = h.0; rising = h.1.0; in_range = h.1.1 }) (λ h. (h.count, (h.rising, h.in_range)))

abbrev pub kgon_ranges : (a : KgonAnswer) → Decision (KgonRanges a)
kgon_ranges a =
    like (both (fraction_in_range a.size) (both (counted 1 128 a.corners) (both (all (λ number. most_ℕ number point_limit) a.corners) (both (counted 1 12 a.chosen) (both (all (λ i. most_ℕ i 127) a.chosen) (both (most_ℕ a.layers 10) (both (equal_ℕ (length a.potentials) (a.layers * pairs_before (length a.corners) (length a.corners))) (all natural a.potentials))))))))
    (λ h. record { size = h.0; corner_count = h.1.0; corners = h.1.1.0; chosen_count = h.1.1.1.0; chosen = h.1.1.1.1.0; layers = h.1.1.1.1.1.0; potential_count = h.1.1.1.1.1.1.0; potentials = h.1.1.1.1.1.1.1 })
    (λ h. (h.size, (h.corner_count, (h.corners, (h.chosen_count, (h.chosen, (h.layers, (h.potential_count, h.potentials))))))))

abbrev pub below_size : (a : KgonAnswer) (u : ℤ) → Decision (IsBelowSize a u)
below_size a u = less_ℤ (u *ℤ a.size.d) (pos 2 *ℤ a.size.n)

abbrev pub stays_below : (a : KgonAnswer) (i : ℕ) → Decision (StaysBelow a i)
stays_below a i =
    each_below {P = λ last. i < last → EachBelow a.layers (λ layer. IsBelowSize a (potential a i (layer + 1) last))}
    (λ last. implies (less_ℕ i last) (each_below {P = λ layer. IsBelowSize a (potential a i (layer + 1) last)} (λ layer. below_size a _) a.layers)) (length a.corners)

abbrev pub none_between : (corners : List PlanePoint) (a : KgonAnswer) (place : ℕ) → Decision (NoneBetween corners a place)
none_between corners a place =
    each_below {P = λ other. chosen_at a place < other → IsBelowSize a (most_with corners a (place + 1) other)}
    (λ other. implies (less_ℕ (chosen_at a place) other) (below_size a _)) (chosen_at a (place + 1))

-- an empty list, another position or a longer list is not the first position alone
pub not_none : (chosen : List ℕ) → chosen ≡ [] → chosen ≡ 0 ∷ [] → ⊥
not_none chosen e f = cc

pub not_later : (i : ℕ) → suc i ∷ [] ≡ 0 ∷ [] → ⊥
not_later i e = cc

pub not_longer : (i j : ℕ) (rest : List ℕ) → i ∷ j ∷ rest ≡ 0 ∷ [] → ⊥
not_longer i j rest e = cc

abbrev pub first_alone : (chosen : List ℕ) → Decision (chosen ≡ 0 ∷ [])
first_alone [] = impossible (not_none [] refl)
first_alone (zero ∷ []) = sure refl
first_alone (suc i ∷ []) = impossible (not_later i)
first_alone (i ∷ j ∷ rest) = impossible (not_longer i j rest)

abbrev pub kgon_passes : (k : ℕ) (points : List PlanePoint) (a : KgonAnswer) → Decision (PassesKgon k points a)
kgon_passes k points a =
    like
    (both (kgon_ranges a)
    (both (all (λ number. less_ℕ number (length points)) a.corners)
    (both (corners_pass points (corner_points points a))
    (both (fits_kgon k (corner_points points a) a.chosen)
    (both (same_value a.size (kgon_size (corner_points points a) a.chosen))
    (both (equal_ℕ a.layers (min k (length a.corners) - 2))
    (both
    (each_below {P = λ c. EachBelow c (λ b. EachBelow b (λ a'. EachBelow a.layers (λ layer. Grows (corner_points points a) a layer a' b c)))}
    (λ c. each_below {P = λ b. EachBelow b (λ a'. EachBelow a.layers (λ layer. Grows (corner_points points a) a layer a' b c))}
    (λ b. each_below {P = λ a'. EachBelow a.layers (λ layer. Grows (corner_points points a) a layer a' b c)}
    (λ a'. each_below {P = λ layer. Grows (corner_points points a) a layer a' b c}
    (λ layer. most_ℤ _ _) a.layers) b) c) (length a.corners))
    (both (all (λ u. most_ℤ (u *ℤ a.size.d) (pos 2 *ℤ a.size.n)) a.potentials)
    (both (each_below {P = StaysBelow a} (stays_below a) (chosen_at a 0))
    (both (implies (less_ℕ (length a.corners) 3) (first_alone a.chosen))
    (each_below {P = NoneBetween (corner_points points a) a} (none_between (corner_points points a) a) (length a.chosen - 1))))))))))))
    (λ h. record { ranges = h.0; numbers = h.1.0; corners = h.1.1.0; chosen = h.1.1.1.0; size = h.1.1.1.1.0; layers = h.1.1.1.1.1.0; grows = h.1.1.1.1.1.1.0; under_size = h.1.1.1.1.1.1.1.0; earlier_below = h.1.1.1.1.1.1.1.1.0; few = h.1.1.1.1.1.1.1.1.1.0; none_between = h.1.1.1.1.1.1.1.1.1.1 })
    (λ h. (h.ranges, (h.numbers, (h.corners, (h.chosen, (h.size, (h.layers, (h.grows, (h.under_size, (h.earlier_below, (h.few, h.none_between)))))))))))
