-- Sums over pairs, with their weights over a common factor.
use Rattle.std.proofs.Common.{◌≡◌, ◌∙◌, sym, ap, ap₂, ℕ, zero, suc, ◌*◌, ◌<◌, ℤ, pos, ◌+ℤ◌, ◌-ℤ◌, ◌*ℤ◌, ◌≤ℤ◌, ◌<ℤ◌, List, [], ◌∷◌, map, arith}
use Rattle.std.proofs.lemmas.Int.{ints}
use Rattle.integers.specs.Total.{total}
use Rattle.integers.proofs.Identities.{den-ring, read, polys, lits, below_lits}
use Rattle.integers.proofs.Order.{nonneg_mul, le_by, same_of_mul, combine1}
use Rattle.integers.proofs.RingLaws.{*ℤ-+ℤ}
use Rattle.bounds_model.specs.AnnulusAnswer as model
use Rattle.bounds_model.specs.AnnulusAnswer.{pair_sum}
use Rattle.answers.specs.declared.pairs.WeightedPair.{WeightedPair}
use Rattle.answers.specs.Answers.{pair_of}
use Rattle.pair_weights.specs.CommonFactors.{times}

-- ---- sums

-- the weighted sum of the differences of f at the numbers of the pairs
abbrev pub differences : (ℕ → ℤ) → List model.WeightedPair → ℤ
differences f pairs = total (λ pair. pair.weight *ℤ (f pair.first -ℤ f pair.second)) pairs

-- a sum over multiples is a multiple
total_times : (h : model.WeightedPair → ℤ) (k : ℕ) (s : List WeightedPair) → ((p : WeightedPair) → h (pair_of (times k p)) ≡ pos k *ℤ h (pair_of p)) → total h (map pair_of (map (times k) s)) ≡ pos k *ℤ total h (map pair_of s)
total_times h k [] e = omega (arith, ints)
total_times h k (p ∷ s) e = ap₂ (λ a b. a +ℤ b) (e p) (total_times h k s e) ∙ sym (*ℤ-+ℤ (pos k) (h (pair_of p)) (total h (map pair_of s)))

plain_weight : (k w : ℕ) → pos (k * w) ≡ pos k *ℤ pos w
plain_weight k w = omega (arith, ints)

plain_difference : (k w d : ℤ) → (k *ℤ w) *ℤ d ≡ k *ℤ (w *ℤ d)
plain_difference k w d = read (k ∷ w ∷ d ∷ []) (λ xs p q r. simp (p, q, r, polys) (den-ring xs _ _ tt))

-- the sum of the weights is one
pub sum_times : (k : ℕ) (s : List WeightedPair) → pair_sum (map pair_of (map (times k) s)) ≡ pos k *ℤ pair_sum (map pair_of s)
sum_times k s = total_times (λ pair. pair.weight) k s (λ p. plain_weight k p.weight)

-- and so are the weighted differences of a function of the numbers
pub differences_times : (f : ℕ → ℤ) (k : ℕ) (s : List WeightedPair) → differences f (map pair_of (map (times k) s)) ≡ pos k *ℤ differences f (map pair_of s)
differences_times f k s =
    total_times (λ pair. pair.weight *ℤ (f pair.first -ℤ f pair.second)) k s
    (λ p. ap (λ w. w *ℤ (f p.first -ℤ f p.second)) (plain_weight k p.weight) ∙ plain_difference (pos k) (pos p.weight) (f p.first -ℤ f p.second))

-- ---- a factor, and what is left without it

at_least : {k : ℕ} → 0 < k → pos 0 <ℤ pos k
at_least h = omega (arith, ints)

-- a part of a sum is at most the sum
pub no_more : (k : ℕ) (s : ℤ) → 0 < k → pos 0 ≤ℤ s → s ≤ℤ (pos k *ℤ s)
no_more k s some h = le_by (nonneg_mul {a = pos k -ℤ pos 1} {b = s} (omega (arith, ints)) h) (plain (pos k) s)
  where
    plain : (k s : ℤ) → k *ℤ s -ℤ s ≡ (k -ℤ pos 1) *ℤ s
    plain k s = read (k ∷ s ∷ []) (λ xs p q. simp (p, q, polys, lits xs, below_lits xs) (den-ring xs _ _ tt))

-- what is 0 times a factor is 0
pub none_of : (k : ℕ) (s : ℤ) → 0 < k → pos k *ℤ s ≡ pos 0 → s ≡ pos 0
none_of k s some e = same_of_mul (pos k) (at_least some) (e ∙ zero (pos k))
  where
    zero : (k : ℤ) → pos 0 ≡ k *ℤ pos 0
    zero k = omega (arith, ints)

-- a factor on both sides
pub same_value : (k : ℕ) (s r w v : ℤ) → 0 < k → (pos k *ℤ s) *ℤ r ≡ w *ℤ (pos k *ℤ v) → s *ℤ r ≡ w *ℤ v
same_value k s r w v some e = same_of_mul (pos k) (at_least some) (combine1 (pos 1) e (plain (pos k) s r w v))
  where
    plain : (k s r w v : ℤ) → k *ℤ (s *ℤ r) -ℤ k *ℤ (w *ℤ v) ≡ pos 1 *ℤ ((k *ℤ s) *ℤ r -ℤ w *ℤ (k *ℤ v))
    plain k s r w v = read (k ∷ s ∷ r ∷ w ∷ v ∷ []) (λ xs a b c d e. simp (a, b, c, d, e, polys, lits xs) (den-ring xs _ _ tt))

-- a weight that is a part of one within the limit
pub lighter : (limit k w : ℕ) → 0 < k → (pos 1 ≤ℤ pos (k * w)) × (pos (k * w) ≤ℤ pos limit) → (pos 1 ≤ℤ pos w) × (pos w ≤ℤ pos limit)
lighter limit zero w some g = absurd (omega arith)
lighter limit (suc j) zero some g = absurd (nothing g.0)
  where
    nothing : pos 1 ≤ℤ pos (suc j * 0) → ⊥
    nothing h = omega (arith, ints)
lighter limit (suc j) (suc n) some g = (omega (arith, ints), within g.1)
  where
    within : pos (suc j * suc n) ≤ℤ pos limit → pos (suc n) ≤ℤ pos limit
    within h = omega (arith, ints)
