-- Sums over pairs that are listed with their weights.
use Rattle.std.proofs.Common.{◌≡◌, ◌∙◌, ap₂, ℤ, pos, ◌+ℤ◌, ◌≤ℤ◌, ◌<ℤ◌, ◌++◌, arith}
use Rattle.std.specs.Prelude.{All}
use Rattle.std.proofs.lemmas.Int.{ints, by_lt_z}
use Rattle.std.proofs.lemmas.List.{length-append}
use Rattle.std.proofs.lemmas.List.Elements.{All-append}
use Rattle.integers.specs.Total.{total}
use Rattle.integers.proofs.Sums.{total-append}
use Rattle.bounds_model.specs.AnnulusAnswer.{WeightedPair}
use Rattle.bounds_model.specs.Numbers.{HasCount}
use Rattle.min_annulus.specs.declared.pairs.Pair.{Pair}
use Rattle.min_annulus.specs.Witnesses.{weighted}
use Rattle.pair_weights.proofs.WeightedLists.{total_one, all_one, at_most_one, one_of_some}

-- the pair with a weight
abbrev pub with_weight : Pair → ℤ → WeightedPair
with_weight pair w = record { first = pair.first; second = pair.second; weight = w }

-- ---- three pairs

-- the sum over three
pub total_three : (h : WeightedPair → ℤ) (a b c : Pair) (u v w : ℤ) → pos 0 ≤ℤ u → pos 0 ≤ℤ v → pos 0 ≤ℤ w
    → h (with_weight a (pos 0)) ≡ pos 0 → h (with_weight b (pos 0)) ≡ pos 0 → h (with_weight c (pos 0)) ≡ pos 0
    → total h (weighted a u ++ weighted b v ++ weighted c w) ≡ h (with_weight a u) +ℤ h (with_weight b v) +ℤ h (with_weight c w)
total_three h a b c u v w pu pv pw za zb zc =
    total-append h (weighted a u ++ weighted b v) (weighted c w)
    ∙ ap₂ (λ s t. s +ℤ t) (total-append h (weighted a u) (weighted b v) ∙ ap₂ (λ s t. s +ℤ t) (total_one h a.first a.second u pu za) (total_one h b.first b.second v pv zb)) (total_one h c.first c.second w pw zc)

-- what holds of each with its weight holds of all
pub all_three : (P : WeightedPair → Type 0) (a b c : Pair) (u v w : ℤ) → (pos 1 ≤ℤ u → P (with_weight a u)) → (pos 1 ≤ℤ v → P (with_weight b v)) → (pos 1 ≤ℤ w → P (with_weight c w))
    → All P (weighted a u ++ weighted b v ++ weighted c w)
all_three P a b c u v w ha hb hc =
    All-append P (weighted a u ++ weighted b v) (weighted c w) (All-append P (weighted a u) (weighted b v) (all_one P a.first a.second u ha) (all_one P b.first b.second v hb)) (all_one P c.first c.second w hc)

-- there are one to three, where some weight is above 0
pub count_three : (a b c : Pair) (u v w : ℤ) → pos 0 <ℤ (u +ℤ v +ℤ w) → HasCount 1 3 (weighted a u ++ weighted b v ++ weighted c w)
count_three a b c u v w some =
    let l1 = length-append (weighted a u ++ weighted b v) (weighted c w) in
    let l2 = length-append (weighted a u) (weighted b v) in
    let ma = at_most_one a.first a.second u in
    let mb = at_most_one b.first b.second v in
    let mc = at_most_one c.first c.second w in
    record {
      at_least = by_lt_z (pos 0) u (λ h. let n = one_of_some a.first a.second u h in omega arith)
          (λ hu. by_lt_z (pos 0) v (λ h. let n = one_of_some b.first b.second v h in omega arith)
          (λ hv. let n = one_of_some c.first c.second w (last hu hv some) in omega arith));
      at_most = omega arith;
    }
  where
    last : {u v w : ℤ} → u ≤ℤ pos 0 → v ≤ℤ pos 0 → pos 0 <ℤ (u +ℤ v +ℤ w) → pos 0 <ℤ w
    last h k l = omega (arith, ints)

-- ---- one and two pairs

-- the sum over two
pub total_two : (h : WeightedPair → ℤ) (a b : Pair) (u v : ℤ) → pos 0 ≤ℤ u → pos 0 ≤ℤ v → h (with_weight a (pos 0)) ≡ pos 0 → h (with_weight b (pos 0)) ≡ pos 0
    → total h (weighted a u ++ weighted b v) ≡ h (with_weight a u) +ℤ h (with_weight b v)
total_two h a b u v pu pv za zb = total-append h (weighted a u) (weighted b v) ∙ ap₂ (λ s t. s +ℤ t) (total_one h a.first a.second u pu za) (total_one h b.first b.second v pv zb)

-- what holds of each with its weight holds of both
pub all_two : (P : WeightedPair → Type 0) (a b : Pair) (u v : ℤ) → (pos 1 ≤ℤ u → P (with_weight a u)) → (pos 1 ≤ℤ v → P (with_weight b v)) → All P (weighted a u ++ weighted b v)
all_two P a b u v ha hb = All-append P (weighted a u) (weighted b v) (all_one P a.first a.second u ha) (all_one P b.first b.second v hb)

-- their number
pub count_two : (a b : Pair) (u v : ℤ) → pos 0 <ℤ u → HasCount 1 3 (weighted a u ++ weighted b v)
count_two a b u v some =
    let l = length-append (weighted a u) (weighted b v) in
    let ma = at_most_one a.first a.second u in
    let mb = at_most_one b.first b.second v in
    let n = one_of_some a.first a.second u some in
    record { at_least = omega arith; at_most = omega arith }

-- one pair
pub count_one : (a : Pair) (u : ℤ) → pos 0 <ℤ u → HasCount 1 3 (weighted a u)
count_one a u some =
    let ma = at_most_one a.first a.second u in
    let n = one_of_some a.first a.second u some in
    record { at_least = omega arith; at_most = omega arith }
