-- Sums over weighted vectors: slacks by the moment and the second moment.
use Rattle.std.proofs.Common.{◌≡◌, sym, ◌∙◌, ap, subst, ◌≤◌, ℤ, pos, ◌+ℤ◌, ◌-ℤ◌, ◌*ℤ◌, ◌≤ℤ◌, ◌<ℤ◌, List, [], ◌∷◌, length, arith}
use Rattle.std.specs.Prelude.{All}
use Rattle.std.proofs.lemmas.Int.{ints, by_lt_z}
use Rattle.std.proofs.lemmas.List.Elements.{All-weaker}
use Rattle.integers.specs.Total.{total}
use Rattle.integers.proofs.Identities.{den-ring, read, polys, lits}
use Rattle.integers.proofs.Order.{positive_mul, nonneg_mul, nonneg_difference, positive_from_one, le_by, combine1}
use Rattle.integers.proofs.Fractions.{fraction_le_trans, fraction_lt_le_trans}
use Rattle.integers.proofs.Sums.{total-same, total-scale_right, total_le, total_positive}
use Rattle.bounds_model.specs.Space.{SpacePoint, dot, squared_length}
use Rattle.bounds_model.specs.Fractions.{IsAtMost}
use Rattle.exact_fractions.specs.Order.{IsBelow}
use Rattle.bounds_model.specs.Slacks.{WeightedVector, mass, moment, second_moment, slack, value, AreEqualSlacks, IsLow}

-- ---- weighted sums of slacks

-- one more vector
sum_step : (g M w ax ay az sx sy sz T Rx Ry Rz Q : ℤ)
    → T ≡ pos 2 *ℤ (Rx *ℤ sx +ℤ Ry *ℤ sy +ℤ Rz *ℤ sz) -ℤ g *ℤ (M *ℤ Q)
    → w *ℤ (pos 2 *ℤ (ax *ℤ sx +ℤ ay *ℤ sy +ℤ az *ℤ sz) -ℤ g *ℤ (M *ℤ (ax *ℤ ax +ℤ ay *ℤ ay +ℤ az *ℤ az))) +ℤ T
    ≡ pos 2 *ℤ ((w *ℤ ax +ℤ Rx) *ℤ sx +ℤ (w *ℤ ay +ℤ Ry) *ℤ sy +ℤ (w *ℤ az +ℤ Rz) *ℤ sz) -ℤ g *ℤ (M *ℤ (w *ℤ (ax *ℤ ax +ℤ ay *ℤ ay +ℤ az *ℤ az) +ℤ Q))
sum_step g M w ax ay az sx sy sz T Rx Ry Rz Q h =
    combine1 (pos 1) h
    (read (g ∷ M ∷ w ∷ ax ∷ ay ∷ az ∷ sx ∷ sy ∷ sz ∷ T ∷ Rx ∷ Ry ∷ Rz ∷ Q ∷ [])
    (λ xs a b c d e f h i j k l m n o. simp (a, b, c, d, e, f, h, i, j, k, l, m, n, o, polys, lits xs) (den-ring xs _ _ tt)))

nothing : (g M sx sy sz : ℤ) → pos 0 ≡ pos 2 *ℤ (pos 0 *ℤ sx +ℤ pos 0 *ℤ sy +ℤ pos 0 *ℤ sz) -ℤ g *ℤ (M *ℤ pos 0)
nothing g M sx sy sz = read (g ∷ M ∷ sx ∷ sy ∷ sz ∷ []) (λ xs a b c d e. simp (a, b, c, d, e, polys, lits xs) (den-ring xs _ _ tt))

total_of_moments : (quadratic M : ℤ) (s : SpacePoint) (items : List WeightedVector)
    → total (λ item. item.weight *ℤ (pos 2 *ℤ dot item.vector s -ℤ quadratic *ℤ (M *ℤ squared_length item.vector))) items ≡ pos 2 *ℤ dot (moment items) s -ℤ quadratic *ℤ (M *ℤ second_moment items)
total_of_moments quadratic M s [] = nothing quadratic M s.x s.y s.z
total_of_moments quadratic M s (item ∷ items) =
    let v = item.vector in
    let r = moment items in
    sum_step quadratic M item.weight v.x v.y v.z s.x s.y s.z _ r.x r.y r.z (second_moment items) (total_of_moments quadratic M s items)

-- the weighted sum of the slacks of items under w
pub total_slack : (quadratic : ℤ) (w items : List WeightedVector)
    → total (λ item. item.weight *ℤ slack quadratic w item.vector) items ≡ pos 2 *ℤ dot (moment items) (moment w) -ℤ quadratic *ℤ (mass w *ℤ second_moment items)
total_slack quadratic w items = total_of_moments quadratic (mass w) (moment w) items

-- where all items have the slack p under w, it is p for each unit of their mass
pub mean_is : (quadratic : ℤ) (w items : List WeightedVector) (p : ℤ) → All (λ item. slack quadratic w item.vector ≡ p) items
    → mass items *ℤ p ≡ pos 2 *ℤ dot (moment items) (moment w) -ℤ quadratic *ℤ (mass w *ℤ second_moment items)
mean_is quadratic w items p level =
    sym (total-scale_right (λ item. item.weight) p items)
    ∙ total-same (λ item. item.weight *ℤ p) (λ item. item.weight *ℤ slack quadratic w item.vector) items
    (All-weaker (λ item. slack quadratic w item.vector ≡ p) (λ item. item.weight *ℤ p ≡ item.weight *ℤ slack quadratic w item.vector) (λ item e. ap (λ q. item.weight *ℤ q) (sym e)) items level)
    ∙ total_slack quadratic w items

-- where none has a lower one, and no weight is below 0, it is no less
pub mean_at_least : (quadratic : ℤ) (w items : List WeightedVector) (p : ℤ) → All (λ item. pos 0 ≤ℤ item.weight) items → All (λ item. p ≤ℤ slack quadratic w item.vector) items
    → (mass items *ℤ p) ≤ℤ (pos 2 *ℤ dot (moment items) (moment w) -ℤ quadratic *ℤ (mass w *ℤ second_moment items))
mean_at_least quadratic w items p weights above =
    subst (λ t. (mass items *ℤ p) ≤ℤ t) (total_slack quadratic w items)
    (subst (λ t. t ≤ℤ total (λ item. item.weight *ℤ slack quadratic w item.vector) items) (total-scale_right (λ item. item.weight) p items)
    (total_le (λ item. item.weight *ℤ p) (λ item. item.weight *ℤ slack quadratic w item.vector) items
    (λ k d l. product (weights k d l) (above k d l))))
  where
    product : {w p q : ℤ} → pos 0 ≤ℤ w → p ≤ℤ q → (w *ℤ p) ≤ℤ (w *ℤ q)
    product {w} {p} {q} h k = le_by (nonneg_mul h (nonneg_difference k)) (read (w ∷ p ∷ q ∷ []) (λ xs a b c. simp (a, b, c, polys) (den-ring xs _ _ tt)))

-- ---- the common slack

-- items of equal slacks have one slack
pub common_slack : (quadratic : ℤ) (items : List WeightedVector) → 1 ≤ length items → AreEqualSlacks quadratic items → (p : ℤ) × All (λ item. slack quadratic items item.vector ≡ p) items
common_slack quadratic [] some equal = absurd (omega arith)
common_slack quadratic (item ∷ items) some equal = (slack quadratic (item ∷ items) item.vector, λ k d l. equal k d l 0 item (omega arith))

-- a vector that is not low has at least their slack
pub at_least_common : (quadratic : ℤ) (items : List WeightedVector) (p : ℤ) → All (λ item. slack quadratic items item.vector ≡ p) items → (v : SpacePoint) → ¬ IsLow quadratic items v → p ≤ℤ slack quadratic items v
at_least_common quadratic items p level v not_low =
    by_lt_z (slack quadratic items v) p
    (λ below. absurd (not_low (λ k d l. subst (λ q. slack quadratic items v <ℤ q) (sym (level k d l)) below)))
    (λ above. above)

-- a low vector has a lower one
pub below_common : (quadratic : ℤ) (items : List WeightedVector) (p : ℤ) → 1 ≤ length items → All (λ item. slack quadratic items item.vector ≡ p) items → (v : SpacePoint) → IsLow quadratic items v → slack quadratic items v <ℤ p
below_common quadratic [] p some level v low = absurd (omega arith)
below_common quadratic (item ∷ items) p some level v low =
    subst (λ q. slack quadratic (item ∷ items) v <ℤ q) (level 0 item (omega arith)) (low 0 item (omega arith))

-- the sum of weights of at least 1
pub mass_positive : (items : List WeightedVector) → 1 ≤ length items → All (λ item. pos 1 ≤ℤ item.weight) items → pos 0 <ℤ mass items
mass_positive items some weights = total_positive (λ item. item.weight) items (omega arith) (All-weaker (λ item. pos 1 ≤ℤ item.weight) (λ item. pos 0 <ℤ item.weight) (λ item h. positive_from_one h) items weights)

-- ---- chains of values

-- no less than what is no less
pub no_less_trans : (quadratic : ℤ) (a b c : List WeightedVector) → pos 0 <ℤ mass a → pos 0 <ℤ mass b → pos 0 <ℤ mass c → IsAtMost (value quadratic a) (value quadratic b) → IsAtMost (value quadratic b) (value quadratic c) → IsAtMost (value quadratic a) (value quadratic c)
no_less_trans quadratic a b c ha hb hc h k = fraction_le_trans (value quadratic a).n (value quadratic a).d (value quadratic b).n (value quadratic b).d (value quadratic c).n (value quadratic c).d (positive_mul ha ha) (positive_mul hb hb) (positive_mul hc hc) h k

-- no less than what is greater
pub greater_trans : (quadratic : ℤ) (a b c : List WeightedVector) → pos 0 <ℤ mass a → pos 0 <ℤ mass b → pos 0 <ℤ mass c → IsBelow (value quadratic a) (value quadratic b) → IsAtMost (value quadratic b) (value quadratic c) → IsBelow (value quadratic a) (value quadratic c)
greater_trans quadratic a b c ha hb hc h k = fraction_lt_le_trans (value quadratic a).n (value quadratic a).d (value quadratic b).n (value quadratic b).d (value quadratic c).n (value quadratic c).d (positive_mul ha ha) (positive_mul hb hb) (positive_mul hc hc) h k

-- a greater value is not at most the other
pub not_both : (quadratic : ℤ) (a b : List WeightedVector) → IsBelow (value quadratic a) (value quadratic b) → IsAtMost (value quadratic b) (value quadratic a) → ⊥
not_both quadratic a b h k = clash ((value quadratic a).n *ℤ (value quadratic b).d) ((value quadratic b).n *ℤ (value quadratic a).d) h k
  where
    clash : (x y : ℤ) → x <ℤ y → y ≤ℤ x → ⊥
    clash x y h k = omega (arith, ints)
