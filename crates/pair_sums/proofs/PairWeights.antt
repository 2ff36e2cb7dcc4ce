-- Weights of pairs, of at least 1, and their sum.
use Rattle.std.proofs.Common.{◌≡◌, sym, subst, ℕ, zero, suc, ◌<◌, ◌≤◌, ◌^◌, ℤ, pos, ◌≤ℤ◌, ◌<ℤ◌, List, [], ◌∷◌, length, take, arith}
use Rattle.std.specs.Prelude.{All}
use Rattle.std.proofs.lemmas.Int.{ints}
use Rattle.std.proofs.lemmas.List.Elements.{All-head, All-tail}
use Rattle.integers.proofs.Sums.{total_nonneg_all, total_positive}
use Rattle.bounds_model.specs.Ranges.{number_limit}
use Rattle.bounds_model.specs.AnnulusAnswer.{WeightedPair, IsPairInRange, pair_sum}

nonneg : (pairs : List WeightedPair) → All (λ pair. pos 1 ≤ℤ pair.weight) pairs → pos 0 ≤ℤ pair_sum pairs
nonneg pairs h = total_nonneg_all (λ (pair : WeightedPair). pair.weight) pairs (λ k d l. let one = h k d l in omega (arith, ints))

-- the weights of the first ones are at most those of all
pub weights_of_some : (pairs : List WeightedPair) (k : ℕ) → All (λ pair. pos 0 ≤ℤ pair.weight) pairs → pair_sum (take k pairs) ≤ℤ pair_sum pairs
weights_of_some pairs zero h = total_nonneg_all (λ (pair : WeightedPair). pair.weight) pairs h
weights_of_some [] (suc k) h = omega (arith, ints)
weights_of_some (pair ∷ pairs) (suc k) h = let rest = weights_of_some pairs k (All-tail (λ (pair : WeightedPair). pos 0 ≤ℤ pair.weight) pair pairs h) in omega (arith, ints)

-- no weight is above the sum of all
no_more_than_all : (pairs : List WeightedPair) → All (λ pair. pos 1 ≤ℤ pair.weight) pairs → All (λ pair. pair.weight ≤ℤ pair_sum pairs) pairs
no_more_than_all [] h k d l = absurd (omega arith)
no_more_than_all (pair ∷ pairs) h zero d l = let rest = nonneg pairs (All-tail (λ (pair : WeightedPair). pos 1 ≤ℤ pair.weight) pair pairs h) in omega (arith, ints)
no_more_than_all (pair ∷ pairs) h (suc k) d l =
    let first = All-head (λ (pair : WeightedPair). pos 1 ≤ℤ pair.weight) pair pairs h in
    let below = no_more_than_all pairs (All-tail (λ (pair : WeightedPair). pos 1 ≤ℤ pair.weight) pair pairs h) k d (omega arith) in
    omega (arith, ints)

-- pairs of listed points, with weights within the limit, are in their ranges
pub in_ranges : (first second : ℕ) (pairs : List WeightedPair) → first ≤ 10000 → second ≤ 10000 → All (λ pair. (pair.first < first) × (pair.second < second)) pairs → All (λ pair. pos 1 ≤ℤ pair.weight) pairs → pair_sum pairs ≤ℤ pos (2 ^ 66)
    → All IsPairInRange pairs
in_ranges first second pairs few_first few_second numbers weights most k d l =
    let listed = numbers k d l in
    let listed_first = listed.0 in
    let listed_second = listed.1 in
    let low = weights k d l in
    let high = no_more_than_all pairs weights k d l in
    (omega arith, omega arith, record { low = omega (arith, ints); high = within _ _ high most })
  where
    within : (w all : ℤ) → w ≤ℤ all → all ≤ℤ pos (2 ^ 66) → w ≤ℤ pos number_limit
    within w all h k = omega (arith, ints)

-- the weights have a sum of at least 1
pub some_weight : (pairs : List WeightedPair) (t : ℕ) → 1 ≤ length pairs → All (λ pair. pos 1 ≤ℤ pair.weight) pairs → pos t ≡ pair_sum pairs → 1 ≤ t
some_weight pairs t some weights e =
    conclude t (subst (λ m. pos 0 <ℤ m) (sym e) (total_positive (λ (pair : WeightedPair). pair.weight) pairs (omega arith) (λ k d l. let one = weights k d l in omega (arith, ints))))
  where
    conclude : (n : ℕ) → pos 0 <ℤ pos n → 1 ≤ n
    conclude n h = omega (arith, ints)
