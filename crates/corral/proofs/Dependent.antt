-- Of dependent vectors one can be dropped at no loss of value.
use Rattle.std.proofs.Common.{◌≡◌, sym, ◌∙◌, ap, subst, ◌⊎◌, inl, inr, ◌≤◌, ℤ, pos, ◌+ℤ◌, ◌*ℤ◌, neg_ℤ, ◌≤ℤ◌, ◌<ℤ◌, List, [], ◌∷◌, length, arith}
use Rattle.std.specs.Prelude.{All}
use Rattle.std.proofs.lemmas.Int.{ints, by_lt_z}
use Rattle.std.proofs.lemmas.List.{length-map}
use Rattle.std.proofs.lemmas.List.Elements.{All-nil, All-cons, All-head, All-tail}
use Rattle.integers.proofs.Identities.{den-ring, read, polys, lits}
use Rattle.integers.proofs.Order.{le_total_ℤ, le_by, nonneg_difference}
use Rattle.bounds_model.specs.Space.{origin}
use Rattle.bounds_model.specs.Slacks.{WeightedVector, mass, moment, second_moment, IsDependence}
use Rattle.corral.specs.Supports.{support_vectors}
use Rattle.corral.proofs.Moments.{mass_positive}
use Rattle.corral.proofs.Insertions.{IsInserted, each_or_one}
use Rattle.corral.proofs.Blends.{Numbered, by_weight, by_number, numbered, length-numbered, by_weight-numbered, by_number-numbered, all-numbered, all-by_weight, opposite_numbers, by_weight-opposite, mass-opposite, second_moment-opposite, moment-opposite}
use Rattle.corral.proofs.Drops.{HasFewer, drop_along}
use Rattle.corral.proofs.Supports.{mass-weighted, moment-weighted}

-- ---- numbers with the sum 0 that are not all 0: one is below 0

both_zero : {n t : ℤ} → pos 0 ≤ℤ n → pos 0 ≤ℤ t → n +ℤ t ≡ pos 0 → (n ≡ pos 0) × (t ≡ pos 0)
both_zero h k e = (omega (arith, ints), omega (arith, ints))

all_zero : (ts : List Numbered) → All (λ t. pos 0 ≤ℤ t.number) ts → mass (by_number ts) ≡ pos 0 → All (λ t. t.number ≡ pos 0) ts
all_zero [] h e = All-nil (λ (t : Numbered). t.number ≡ pos 0)
all_zero (t ∷ ts) h e =
    let rest = All-tail (λ (t : Numbered). pos 0 ≤ℤ t.number) t ts h in
    let z = both_zero (All-head (λ (t : Numbered). pos 0 ≤ℤ t.number) t ts h) (not_negative ts rest) e in
    All-cons (λ (t : Numbered). t.number ≡ pos 0) t ts z.0 (all_zero ts rest z.1)
  where
    not_negative : (ts : List Numbered) → All (λ t. pos 0 ≤ℤ t.number) ts → pos 0 ≤ℤ mass (by_number ts)
    not_negative [] h = omega (arith, ints)
    not_negative (t ∷ ts) h =
        let n = All-head (λ (t : Numbered). pos 0 ≤ℤ t.number) t ts h in
        let ih = not_negative ts (All-tail (λ (t : Numbered). pos 0 ≤ℤ t.number) t ts h) in
        omega (arith, ints)

one_negative : (ts : List Numbered) → mass (by_number ts) ≡ pos 0 → ¬ All (λ t. t.number ≡ pos 0) ts → (s : Numbered) × (rest : List Numbered) × IsInserted s rest ts × (s.number <ℤ pos 0)
one_negative ts none some = go (each_or_one (λ (t : Numbered). pos 0 ≤ℤ t.number) (λ t. t.number <ℤ pos 0) (λ t. by_lt_z t.number (pos 0) (λ below. inr below) (λ above. inl above)) ts)
  where
    go : All (λ t. pos 0 ≤ℤ t.number) ts ⊎ ((s : Numbered) × (rest : List Numbered) × IsInserted s rest ts × (s.number <ℤ pos 0)) → (s : Numbered) × (rest : List Numbered) × IsInserted s rest ts × (s.number <ℤ pos 0)
    go (inl all) = absurd (some (all_zero ts all none))
    go (inr one) = one

-- ---- of a dependence or its opposite

opposite_zero : (ts : List Numbered) → All (λ t. t.number ≡ pos 0) (opposite_numbers ts) → All (λ t. t.number ≡ pos 0) ts
opposite_zero [] h = All-nil (λ (t : Numbered). t.number ≡ pos 0)
opposite_zero (t ∷ ts) h =
    let o : Numbered = record { weight = t.weight; number = neg_ℤ t.number; vector = t.vector } in
    All-cons (λ (t : Numbered). t.number ≡ pos 0) t ts (turned (All-head (λ (t : Numbered). t.number ≡ pos 0) o (opposite_numbers ts) h)) (opposite_zero ts (All-tail (λ (t : Numbered). t.number ≡ pos 0) o (opposite_numbers ts) h))
  where
    turned : {n : ℤ} → neg_ℤ n ≡ pos 0 → n ≡ pos 0
    turned e = omega (arith, ints)

opposite_weights : (ts : List Numbered) → All (λ t. pos 1 ≤ℤ t.weight) ts → All (λ t. pos 1 ≤ℤ t.weight) (opposite_numbers ts)
opposite_weights [] h = All-nil (λ (t : Numbered). pos 1 ≤ℤ t.weight)
opposite_weights (t ∷ ts) h =
    All-cons (λ (t : Numbered). pos 1 ≤ℤ t.weight) (record { weight = t.weight; number = neg_ℤ t.number; vector = t.vector }) (opposite_numbers ts) (All-head (λ (t : Numbered). pos 1 ≤ℤ t.weight) t ts h) (opposite_weights ts (All-tail (λ (t : Numbered). pos 1 ≤ℤ t.weight) t ts h))

-- with the sum 0 and the weighted sum 0
drop_numbers : (quadratic : ℤ) (ts : List Numbered) → 1 ≤ length ts → All (λ t. pos 1 ≤ℤ t.weight) ts
    → pos 0 <ℤ mass (by_weight ts) → mass (by_number ts) ≡ pos 0 → moment (by_number ts) ≡ origin → ¬ All (λ t. t.number ≡ pos 0) ts
    → HasFewer quadratic (by_weight ts)
drop_numbers quadratic ts some weights heavy none still not_all = by (le_total_ℤ (pos 0) (quadratic *ℤ second_moment (by_number ts)))
  where
    over : (g t : ℤ) → (g *ℤ t) ≤ℤ pos 0 → pos 0 ≤ℤ (g *ℤ neg_ℤ t)
    over g t h = le_by (nonneg_difference h) (read (g ∷ t ∷ []) (λ xs a b. simp (a, b, polys, lits xs) (den-ring xs _ _ tt)))

    by : (pos 0 ≤ℤ (quadratic *ℤ second_moment (by_number ts))) ⊎ ((quadratic *ℤ second_moment (by_number ts)) ≤ℤ pos 0) → HasFewer quadratic (by_weight ts)
    by (inl side) = let one = one_negative ts none not_all in drop_along quadratic ts some weights heavy none still side one.2 one.3
    by (inr side) =
        let os = opposite_numbers ts in
        let turned : mass (by_number os) ≡ pos 0 = mass-opposite ts ∙ ap neg_ℤ none in
        let one = one_negative os turned (λ all. not_all (opposite_zero ts all)) in
        subst (HasFewer quadratic) (by_weight-opposite ts)
        (drop_along quadratic os
        (let e : length os ≡ length ts = length-map ts (λ (t : Numbered). record { weight = t.weight; number = neg_ℤ t.number; vector = t.vector }) in omega arith)
        (opposite_weights ts weights)
        (subst (λ items. pos 0 <ℤ mass items) (sym (by_weight-opposite ts)) heavy)
        turned
        (moment-opposite ts ∙ ap (λ s. record { x = neg_ℤ s.x; y = neg_ℤ s.y; z = neg_ℤ s.z }) still)
        (subst (λ t. pos 0 ≤ℤ (quadratic *ℤ t)) (sym (second_moment-opposite ts)) (over quadratic (second_moment (by_number ts)) side))
        one.2 one.3)

-- ---- of items whose vectors are dependent

-- one can be dropped
pub drop_dependent : (quadratic : ℤ) (items : List WeightedVector) (numbers : List ℤ) → 1 ≤ length items → All (λ item. pos 1 ≤ℤ item.weight) items → IsDependence (support_vectors items) numbers → HasFewer quadratic items
drop_dependent quadratic items numbers some weights dependence =
    let many : length numbers ≡ length items = dependence.as_many ∙ length-map items (λ item. item.vector) in
    let ts = numbered items numbers in
    let same = by_weight-numbered items numbers many in
    let other = by_number-numbered items numbers many in
    subst (HasFewer quadratic) same
    (drop_numbers quadratic ts
    (let e = length-numbered items numbers many in omega arith)
    (all-by_weight (λ w. pos 1 ≤ℤ w) ts (subst (All (λ item. pos 1 ≤ℤ item.weight)) (sym same) weights))
    (subst (λ items. pos 0 <ℤ mass items) (sym same) (mass_positive items some weights))
    (ap mass other ∙ mass-weighted numbers (support_vectors items) dependence.as_many ∙ dependence.sum)
    (ap moment other ∙ moment-weighted numbers (support_vectors items) ∙ dependence.weighted)
    (λ all. dependence.some (all-numbered (λ n. n ≡ pos 0) items numbers many all)))
