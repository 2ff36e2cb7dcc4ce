-- The least ratio of number to weight, and the blend that it makes 0.
use Rattle.std.proofs.Common.{◌≡◌, ◌⊎◌, inl, inr, ◌≤◌, ℤ, pos, ◌+ℤ◌, ◌*ℤ◌, neg_ℤ, ◌≤ℤ◌, ◌<ℤ◌, List, [], ◌∷◌, length, arith}
use Rattle.std.specs.Prelude.{All}
use Rattle.std.proofs.lemmas.Int.{ints}
use Rattle.std.proofs.lemmas.List.Elements.{All-nil, All-cons, All-head, All-tail}
use Rattle.integers.proofs.Identities.{den-ring, read, polys, lits}
use Rattle.integers.proofs.Order.{nonneg_difference, nonneg_add, positive_difference, positive_add, positive_from_one, mul_lt_left, mul_le_left, le_by, lt_by, le_of_mul_le, lt_of_mul_lt, nonneg_from_one}
use Rattle.integers.proofs.Fractions.{fraction_le_trans, fraction_total}
use Rattle.bounds_model.specs.Slacks.{WeightedVector}
use Rattle.corral.proofs.Blends.{Numbered, blended}
use Rattle.corral.proofs.Insertions.{IsInserted, at_inserted}
use Rattle.corral.proofs.Insertions.IsInserted.{first, later}

-- no number is less by its weight
abbrev pub IsLeast : Numbered → List Numbered → Type 0
IsLeast t ts = All (λ s. (t.number *ℤ s.weight) ≤ℤ (s.number *ℤ t.weight)) ts

-- one of the numbers is the least by its weight
pub record HasLeast (ts : List Numbered) : Type 0 where
  pub at : Numbered
  pub rest : List Numbered
  pub inserted : IsInserted at rest ts
  pub least : IsLeast at ts

itself : (t : Numbered) → (t.number *ℤ t.weight) ≤ℤ (t.number *ℤ t.weight)
itself t = omega (arith, ints)

no_more : (t m : Numbered) (ts : List Numbered) → pos 1 ≤ℤ t.weight → pos 1 ≤ℤ m.weight → All (λ s. pos 1 ≤ℤ s.weight) ts → (t.number *ℤ m.weight) ≤ℤ (m.number *ℤ t.weight) → IsLeast m ts → IsLeast t ts
no_more t m ts wt wm weights less least k d l =
    fraction_le_trans t.number t.weight m.number m.weight _ _ (positive_from_one wt) (positive_from_one wm) (positive_from_one (weights k d l)) less (least k d l)

-- of weights of at least 1
pub has_least : (ts : List Numbered) → 1 ≤ length ts → All (λ t. pos 1 ≤ℤ t.weight) ts → HasLeast ts
has_least [] some weights = absurd (omega arith)
has_least (t ∷ []) some weights = record { at = t; rest = []; inserted = first; least = All-cons (λ (s : Numbered). (t.number *ℤ s.weight) ≤ℤ (s.number *ℤ t.weight)) t [] (itself t) (All-nil (λ (s : Numbered). (t.number *ℤ s.weight) ≤ℤ (s.number *ℤ t.weight))) }
has_least (t ∷ (s ∷ ts)) some weights = go (has_least (s ∷ ts) (omega arith) others)
  where
    others : All (λ (t : Numbered). pos 1 ≤ℤ t.weight) (s ∷ ts)
    others = All-tail (λ (t : Numbered). pos 1 ≤ℤ t.weight) t (s ∷ ts) weights

    go : HasLeast (s ∷ ts) → HasLeast (t ∷ (s ∷ ts))
    go h = by (fraction_total t.number t.weight h.at.number h.at.weight)
      where
        by : ((t.number *ℤ h.at.weight) ≤ℤ (h.at.number *ℤ t.weight)) ⊎ ((h.at.number *ℤ t.weight) ≤ℤ (t.number *ℤ h.at.weight)) → HasLeast (t ∷ (s ∷ ts))
        by (inl less) = record {
          at = t;
          rest = s ∷ ts;
          inserted = first;
          least = All-cons (λ (s : Numbered). (t.number *ℤ s.weight) ≤ℤ (s.number *ℤ t.weight)) t (s ∷ ts) (itself t)
              (no_more t h.at (s ∷ ts) (All-head (λ (t : Numbered). pos 1 ≤ℤ t.weight) t (s ∷ ts) weights) (at_inserted (λ (t : Numbered). pos 1 ≤ℤ t.weight) h.inserted others) others less h.least);
        }
        by (inr more) = record {
          at = h.at;
          rest = t ∷ h.rest;
          inserted = later h.inserted;
          least = All-cons (λ (s : Numbered). (h.at.number *ℤ s.weight) ≤ℤ (s.number *ℤ h.at.weight)) t (s ∷ ts) more h.least;
        }

-- ---- where one of the numbers is at most 0, so is the least

-- at most 0
pub least_not_positive : (t s : Numbered) → pos 1 ≤ℤ t.weight → pos 1 ≤ℤ s.weight → (t.number *ℤ s.weight) ≤ℤ (s.number *ℤ t.weight) → s.number ≤ℤ pos 0 → t.number ≤ℤ pos 0
least_not_positive t s wt ws less low =
    le_of_mul_le s.weight (positive_from_one ws) (at_most s.weight t.number s.number t.weight less (mul_le_left t.weight (nonneg_from_one wt) low))
  where
    at_most : (w n m v : ℤ) → (n *ℤ w) ≤ℤ (m *ℤ v) → (v *ℤ m) ≤ℤ (v *ℤ pos 0) → (w *ℤ n) ≤ℤ (w *ℤ pos 0)
    at_most w n m v h k = le_by (nonneg_add (nonneg_difference h) (nonneg_difference k)) (read (w ∷ n ∷ m ∷ v ∷ []) (λ xs a b c d. simp (a, b, c, d, polys, lits xs) (den-ring xs _ _ tt)))

-- below 0
pub least_negative : (t s : Numbered) → pos 1 ≤ℤ t.weight → pos 1 ≤ℤ s.weight → (t.number *ℤ s.weight) ≤ℤ (s.number *ℤ t.weight) → s.number <ℤ pos 0 → t.number <ℤ pos 0
least_negative t s wt ws less low =
    lt_of_mul_lt s.weight (positive_from_one ws) (below s.weight t.number s.number t.weight less (mul_lt_left t.weight (positive_from_one wt) low))
  where
    below : (w n m v : ℤ) → (n *ℤ w) ≤ℤ (m *ℤ v) → (v *ℤ m) <ℤ (v *ℤ pos 0) → (w *ℤ n) <ℤ (w *ℤ pos 0)
    below w n m v h k = lt_by (positive_add (positive_difference k) (nonneg_difference h)) (read (w ∷ n ∷ m ∷ v ∷ []) (λ xs a b c d. simp (a, b, c, d, polys, lits xs) (den-ring xs _ _ tt)))

-- ---- the blend

-- the weights by the least number and its weight are at least 0
pub blend_not_negative : (t : Numbered) (ts : List Numbered) → IsLeast t ts → All (λ item. pos 0 ≤ℤ item.weight) (blended (neg_ℤ t.number) t.weight ts)
blend_not_negative t [] least = All-nil (λ item. pos 0 ≤ℤ item.weight)
blend_not_negative t (s ∷ ts) least =
    All-cons (λ (item : WeightedVector). pos 0 ≤ℤ item.weight) (record { weight = neg_ℤ t.number *ℤ s.weight +ℤ t.weight *ℤ s.number; vector = s.vector }) (blended (neg_ℤ t.number) t.weight ts)
    (turned t.number t.weight s.number s.weight (All-head (λ (s : Numbered). (t.number *ℤ s.weight) ≤ℤ (s.number *ℤ t.weight)) s ts least))
    (blend_not_negative t ts (All-tail (λ (s : Numbered). (t.number *ℤ s.weight) ≤ℤ (s.number *ℤ t.weight)) s ts least))
  where
    turned : (n w m v : ℤ) → (n *ℤ v) ≤ℤ (m *ℤ w) → pos 0 ≤ℤ (neg_ℤ n *ℤ v +ℤ w *ℤ m)
    turned n w m v h = le_by (nonneg_difference h) (read (n ∷ w ∷ m ∷ v ∷ []) (λ xs a b c d. simp (a, b, c, d, polys, lits xs) (den-ring xs _ _ tt)))

-- and its own is 0
pub blend_zero : (t : Numbered) → neg_ℤ t.number *ℤ t.weight +ℤ t.weight *ℤ t.number ≡ pos 0
blend_zero t = read (t.number ∷ t.weight ∷ []) (λ xs a b. simp (a, b, polys, lits xs) (den-ring xs _ _ tt))
