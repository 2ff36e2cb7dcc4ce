-- Tests of the conditions on four centres. Each decides the definition of the like name; the least point and the heights are given.
use Rattle.std.proofs.Common.{◌≡◌, ◌⊎◌, inl, inr, refl, subst, ℕ, zero, suc, ◌*◌, ◌/◌, ◌%◌, ℤ, pos, ◌-ℤ◌, ◌≤ℤ◌, ◌<ℤ◌, List, length, get_or, All, Contains, arith}
use Rattle.std.specs.Prelude.{slice_index_or}
use Rattle.std.proofs.lemmas.Int.{ints, by_lt_z}
use Rattle.std.proofs.lemmas.List.{get_or_default}
use Rattle.std.proofs.lemmas.List.Elements.{All-contains}
use Rattle.bounds_model.specs.Numbers.{AllNumbered}
use Rattle.bounds_model.specs.Plane.{PlanePoint, IsLeastPoint}
use Rattle.bounds_model.specs.Ranges.{point_limit}
use Rattle.bounds_model.specs.CentresAnswer.{Leaf, CentresAnswer, outside, IsLeafBelow, cover_of, side}
use Rattle.bounds_model.specs.FourAnswer.{first_square, IsHeight, AreHeights, AreLeavesByHeight, AreFourLeaves, FourRanges, PassesFour}
use Rattle.model_laws.proofs.Decisions.{Decision, like, both, either, all, any, all_pairs, all_numbered, contains, is_nil, most_ℕ, less_ℕ, equal_ℕ, equal_ℤ, most_ℤ, less_ℤ}
use Rattle.model_laws.proofs.DecideParts.{counted, fraction_in_range, plane_ratio_in_range}
use Rattle.model_laws.proofs.DecideCentres.{covers, leaf_below, centre_within_limits}
use Rattle.model_laws.proofs.CornersUnique.{same_least}
use Rattle.model_laws.proofs.HeightLists.{same_heights}

-- ---- heights

abbrev pub height : (side : ℕ) (least : PlanePoint) (points : List PlanePoint) (y : ℤ) → Decision (IsHeight side least points y)
height side least points y =
    like (both (most_ℤ (least.y -ℤ pos side) y) (both (most_ℤ y least.y) (any {P = λ p. p.y ≡ y} (λ p. equal_ℤ p.y y) points)))
    (λ h. record { from = h.0; to = h.1.0; meets = h.1.1 }) (λ h. (h.from, (h.to, h.meets)))

-- the y of this point is outside of the range of heights, or one of them
abbrev IsMet : ℕ → PlanePoint → List ℤ → PlanePoint → Type 0
IsMet side least heights p = (p.y <ℤ (least.y -ℤ pos side)) ⊎ ((least.y <ℤ p.y) ⊎ Contains heights p.y)

abbrev met : (side : ℕ) (least : PlanePoint) (heights : List ℤ) (p : PlanePoint) → Decision (IsMet side least heights p)
met side least heights p = either (less_ℤ p.y (least.y -ℤ pos side)) (either (less_ℤ least.y p.y) (contains equal_ℤ heights p.y))

pub all_listed : (side : ℕ) (least : PlanePoint) (points : List PlanePoint) (heights : List ℤ) → All (IsMet side least heights) points → (y : ℤ) → IsHeight side least points y → Contains heights y
all_listed side least points heights h y is =
    let p = is.meets.1 in
    elim (All-contains (IsMet side least heights) points p h (is.meets.0, is.meets.2, is.meets.3)) [
      | inl low ↦ (let from = is.from in absurd (below (least.y -ℤ pos side) p.y y is.meets.4 low from))
      | inr rest ↦ elim rest [ inl high ↦ (let to = is.to in absurd (above least.y p.y y is.meets.4 high to)) | inr listed ↦ subst (Contains heights) is.meets.4 listed ]
    ]
  where
    below : (a b c : ℤ) → b ≡ c → b <ℤ a → a ≤ℤ c → ⊥
    below a b c e l m = omega (arith, ints, e, l, m)

    above : (a b c : ℤ) → b ≡ c → a <ℤ b → c ≤ℤ a → ⊥
    above a b c e l m = omega (arith, ints, e, l, m)

pub all_met : (side : ℕ) (least : PlanePoint) (points : List PlanePoint) (heights : List ℤ) → ((y : ℤ) → IsHeight side least points y → Contains heights y) → All (IsMet side least heights) points
all_met side least points heights h k d below =
    let p = get_or points k d in
    by_lt_z p.y (least.y -ℤ pos side) inl (λ from. inr (by_lt_z least.y p.y inl (λ to. inr (h p.y (record { from = from; to = to; meets = (k, p, below, get_or_default points k p d below, refl) })))))

abbrev pub heights_contain : (side : ℕ) (least : PlanePoint) (points : List PlanePoint) (heights : List ℤ) → Decision ((y : ℤ) → IsHeight side least points y → Contains heights y)
heights_contain side least points heights = like (all (met side least heights) points) (all_listed side least points heights) (all_met side least points heights)

abbrev pub are_heights : (side : ℕ) (least : PlanePoint) (points : List PlanePoint) (heights : List ℤ) → Decision (AreHeights side least points heights)
are_heights side least points heights =
    like
    (both (all {P = IsHeight side least points} (height side least points) heights) (both (heights_contain side least points heights) (all_pairs {R = λ y z. y <ℤ z} less_ℤ heights)))
    (λ h. record { each = h.0; all = h.1.0; ascending = h.1.1 }) (λ h. (h.each, (h.all, h.ascending)))

-- ---- leaves

-- sixteen for each of these heights
abbrev AreAtHeights : ℕ → List PlanePoint → List Leaf → PlanePoint → List ℤ → Type 0
AreAtHeights side points leaves least heights =
    (length leaves ≡ 16 * length heights) × AllNumbered (λ n leaf. IsLeafBelow side 2 points (outside (first_square side least (slice_index_or heights (n / 16) (pos 0))) points) (n % 16) leaf) leaves

pub at_these_heights : (side : ℕ) (points : List PlanePoint) (leaves : List Leaf) (least : PlanePoint) (heights : List ℤ) → IsLeastPoint points least → AreHeights side least points heights → AreLeavesByHeight side points leaves
    → AreAtHeights side points leaves least heights
at_these_heights side points leaves least heights is_least are l =
    let same : l.least ≡ least = same_least points l.least least l.is_least is_least in
    let others = subst (λ p. AreHeights side p points l.heights) same l.are_heights in
    subst (AreAtHeights side points leaves least) (same_heights side least points l.heights heights others are) (subst (λ p. AreAtHeights side points leaves p l.heights) same (l.as_many, l.each))

abbrev pub leaves_by_height : (side : ℕ) (points : List PlanePoint) (leaves : List Leaf) (least : PlanePoint) (heights : List ℤ) → IsLeastPoint points least → AreHeights side least points heights → Decision (AreLeavesByHeight side points leaves)
leaves_by_height side points leaves least heights is_least are =
    like
    (both (equal_ℕ (length leaves) (16 * length heights))
    (all_numbered {P = λ n leaf. IsLeafBelow side 2 points (outside (first_square side least (slice_index_or heights (n / 16) (pos 0))) points) (n % 16) leaf}
    (λ n leaf. leaf_below side 2 points (outside (first_square side least (slice_index_or heights (n / 16) (pos 0))) points) (n % 16) leaf) leaves))
    (λ h. record { least = least; is_least = is_least; heights = heights; are_heights = are; as_many = h.0; each = h.1 }) (at_these_heights side points leaves least heights is_least are)

-- the heights for a side less by 1, where there is one
abbrev pub AreHeightsBelow : ℕ → PlanePoint → List PlanePoint → List ℤ → Type 0
AreHeightsBelow zero least points heights = Unit {0}
AreHeightsBelow (suc side) least points heights = AreHeights side least points heights

abbrev pub four_leaves : (side : ℕ) (points : List PlanePoint) (leaves : List Leaf) (least : PlanePoint) (heights : List ℤ) → IsLeastPoint points least → AreHeightsBelow side least points heights → Decision (AreFourLeaves side points leaves)
four_leaves zero points leaves least heights is_least are = is_nil leaves
four_leaves (suc side) points leaves least heights is_least are = leaves_by_height side points leaves least heights is_least are

-- ---- the whole answer

abbrev pub four_ranges : (a : CentresAnswer) → Decision (FourRanges a)
four_ranges a =
    like (both (fraction_in_range a.size) (both (counted 4 4 a.squares) (both (all plane_ratio_in_range a.squares) (both (counted 0 16000 a.leaves) (all (λ leaf. both (most_ℕ leaf.first point_limit) (most_ℕ leaf.second point_limit)) a.leaves)))))
    (λ h. record { size = h.0; square_count = h.1.0; squares = h.1.1.0; leaf_count = h.1.1.1.0; leaves = h.1.1.1.1 }) (λ h. (h.size, (h.square_count, (h.squares, (h.leaf_count, h.leaves)))))

abbrev pub four_passes : (points : List PlanePoint) (a : CentresAnswer) (least : PlanePoint) (heights : List ℤ) → IsLeastPoint points least → AreHeightsBelow (side a.size) least points heights → Decision (PassesFour points a)
four_passes points a least heights is_least are =
    like
    (both (four_ranges a)
    (both (all (λ leaf. both (less_ℕ leaf.first (length points)) (less_ℕ leaf.second (length points))) a.leaves)
    (both (either (equal_ℤ a.size.d (pos 1)) (equal_ℤ a.size.d (pos 2)))
    (both (most_ℤ a.size.n (pos 1000000))
    (both (all centre_within_limits a.squares)
    (both (covers 4 points (cover_of a))
    (four_leaves (side a.size) points a.leaves least heights is_least are)))))))
    (λ h. record { ranges = h.0; numbers = h.1.0; halves = h.1.1.0; size_limit = h.1.1.1.0; centres = h.1.1.1.1.0; covers = h.1.1.1.1.1.0; leaves = h.1.1.1.1.1.1 })
    (λ h. (h.ranges, (h.numbers, (h.halves, (h.size_limit, (h.centres, (h.covers, h.leaves)))))))
