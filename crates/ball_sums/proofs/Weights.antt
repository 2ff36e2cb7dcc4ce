-- Weights of at least 1 and their sum.
use Rattle.std.proofs.Common.{◌≡◌, sym, subst, ℕ, zero, suc, ◌<◌, ◌≤◌, ◌^◌, ℤ, pos, ◌≤ℤ◌, ◌<ℤ◌, List, [], ◌∷◌, length, take, arith}
use Rattle.std.specs.Prelude.{All}
use Rattle.std.proofs.lemmas.Int.{ints}
use Rattle.std.proofs.lemmas.List.Elements.{All-head, All-tail}
use Rattle.integers.proofs.Sums.{total_nonneg_all, total_positive}
use Rattle.bounds_model.specs.Ranges.{number_limit}
use Rattle.bounds_model.specs.BallAnswer.{Weighted, weight_sum, IsSupportInRange}

nonneg : (supports : List Weighted) → All (λ s. pos 1 ≤ℤ s.weight) supports → pos 0 ≤ℤ weight_sum supports
nonneg supports h = total_nonneg_all (λ s. s.weight) supports (λ k d l. let one = h k d l in omega (arith, ints))

-- the weights of the first ones are at most those of all
pub weights_of_some : (supports : List Weighted) (k : ℕ) → All (λ s. pos 0 ≤ℤ s.weight) supports → weight_sum (take k supports) ≤ℤ weight_sum supports
weights_of_some supports zero h = total_nonneg_all (λ s. s.weight) supports h
weights_of_some [] (suc k) h = omega (arith, ints)
weights_of_some (s ∷ supports) (suc k) h = let rest = weights_of_some supports k (All-tail (λ (s : Weighted). pos 0 ≤ℤ s.weight) s supports h) in omega (arith, ints)

-- no weight is above the sum of all
no_more_than_all : (supports : List Weighted) → All (λ s. pos 1 ≤ℤ s.weight) supports → All (λ s. s.weight ≤ℤ weight_sum supports) supports
no_more_than_all [] h k d l = absurd (omega arith)
no_more_than_all (s ∷ supports) h zero d l = let rest = nonneg supports (All-tail (λ (s : Weighted). pos 1 ≤ℤ s.weight) s supports h) in omega (arith, ints)
no_more_than_all (s ∷ supports) h (suc k) d l =
    let first = All-head (λ (s : Weighted). pos 1 ≤ℤ s.weight) s supports h in
    let below = no_more_than_all supports (All-tail (λ (s : Weighted). pos 1 ≤ℤ s.weight) s supports h) k d (omega arith) in
    omega (arith, ints)

-- supports of listed points, with weights within a limit, are in their ranges
pub in_ranges : (count limit : ℕ) (supports : List Weighted) → count ≤ 10000 → limit ≤ 2 ^ 92 → All (λ s. s.point < count) supports → All (λ s. pos 1 ≤ℤ s.weight) supports → weight_sum supports ≤ℤ pos limit
    → All IsSupportInRange supports
in_ranges count limit supports few small numbers weights most k d l =
    let listed = numbers k d l in
    let low = weights k d l in
    let high = no_more_than_all supports weights k d l in
    (omega arith, record { low = omega (arith, ints); high = within _ _ high most })
  where
    within : (w all : ℤ) → w ≤ℤ all → all ≤ℤ pos limit → w ≤ℤ pos number_limit
    within w all h k = omega (arith, ints)

-- the weights of supports have a sum of at least 1
pub some_weight : (supports : List Weighted) (t : ℕ) → 1 ≤ length supports → All (λ s. pos 1 ≤ℤ s.weight) supports → pos t ≡ weight_sum supports → 1 ≤ t
some_weight supports t some weights e =
    conclude t (subst (λ m. pos 0 <ℤ m) (sym e) (total_positive (λ (s : Weighted). s.weight) supports (omega arith) (λ k d l. let one = weights k d l in omega (arith, ints))))
  where
    conclude : (n : ℕ) → pos 0 <ℤ pos n → 1 ≤ n
    conclude n h = omega (arith, ints)
