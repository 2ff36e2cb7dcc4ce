-- The weights of pairs, over their common factor.
use Prim.Native.Nat.{◌∣◌}
use Rattle.std.proofs.Common.{◌≡◌, sym, ◌∙◌, ap₂, subst, ℕ, zero, suc, ◌+◌, ◌*◌, ◌/◌, ◌<◌, List, [], ◌∷◌, ◌++◌, length, map, take, get_or, arith}
use Rattle.std.specs.Prelude.{All}
use Rattle.std.specs.Int.{IsGcd}
use Rattle.std.proofs.lemmas.List.{map-append, take_more}
use Rattle.std.proofs.lemmas.List.Elements.{All-map, All-more, All-weaker}
use Rattle.std.proofs.Math.Nat.{dvd_trans, mul-dvd-mul_left, mul-div_cancel', dvd_of_mul-dvd-mul_left, eq-one_of_dvd-one}
use Rattle.answers.specs.declared.pairs.WeightedPair.{WeightedPair}
use Rattle.pair_weights.specs.CommonFactors.{HaveSomeWeight, IsCommonFactor, times}

-- ---- the greatest common divisor, one weight after another

pub factor_more : (pairs : List WeightedPair) (i factor next : ℕ) (none : WeightedPair) → i < length pairs → All (λ pair. factor ∣ pair.weight) (take i pairs) → IsGcd factor (get_or pairs i none).weight next
    → All (λ pair. next ∣ pair.weight) (take (i + 1) pairs)
factor_more pairs i factor next none below before is =
    All-more (λ pair. next ∣ pair.weight) pairs i none below
    (All-weaker (λ (pair : WeightedPair). factor ∣ pair.weight) (λ pair. next ∣ pair.weight) (λ pair h. dvd_trans next is.0 h) (take i pairs) before) is.1

-- ---- the weights over a factor

-- the pairs with multiples, one more
pub times_more : (k : ℕ) (pairs lowest : List WeightedPair) (i : ℕ) (none : WeightedPair) → i < length pairs → map (times k) lowest ≡ take i pairs → k ∣ (get_or pairs i none).weight
    → map (times k) (lowest ++ record { first = (get_or pairs i none).first; second = (get_or pairs i none).second; weight = (get_or pairs i none).weight / k } ∷ []) ≡ take (i + 1) pairs
times_more k pairs lowest i none below same divides =
    let pair = get_or pairs i none in
    map-append (times k) lowest (record { first = pair.first; second = pair.second; weight = pair.weight / k } ∷ [])
    ∙ ap₂ (λ s w. let last : WeightedPair = record { first = pair.first; second = pair.second; weight = w } in s ++ last ∷ []) same (mul-div_cancel' k divides)
    ∙ sym (take_more pairs i none below)

-- no number but 1 divides all weights over the greatest common divisor
pub no_factor_left : (pairs lowest : List WeightedPair) (factor : ℕ) → 0 < factor → IsCommonFactor pairs factor → pairs ≡ map (times factor) lowest → (k : ℕ) → All (λ pair. k ∣ pair.weight) lowest → k ≡ 1
no_factor_left pairs lowest factor some is same k all =
    let divides : factor * k ∣ factor = is.greatest (factor * k) (subst (All (λ pair. factor * k ∣ pair.weight)) (sym same) (All-map (λ pair. factor * k ∣ pair.weight) (times factor) lowest
    (All-weaker (λ (pair : WeightedPair). k ∣ pair.weight) (λ pair. factor * k ∣ factor * pair.weight) (λ pair h. mul-dvd-mul_left k factor h) lowest all))) in
    let one : factor ≡ factor * 1 = omega arith in
    eq-one_of_dvd-one (dvd_of_mul-dvd-mul_left k some (subst (λ n. factor * k ∣ n) one divides))

-- where there is a weight, the greatest common divisor is not 0
pub some_factor : (pairs : List WeightedPair) (factor : ℕ) → HaveSomeWeight pairs → IsCommonFactor pairs factor → 0 < factor
some_factor pairs zero have is =
    let none : WeightedPair = record { first = 0; second = 0; weight = 0 } in
    absurd (nothing (get_or pairs 0 none).weight (is.divides 0 none have.some) (have.weights 0 none have.some))
  where
    nothing : (n : ℕ) → 0 ∣ n → 0 < n → ⊥
    nothing n h k = let e : 0 * (n / 0) ≡ n = mul-div_cancel' 0 h in omega arith
some_factor pairs (suc n) have is = omega arith
