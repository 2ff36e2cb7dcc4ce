-- Pairs that are listed with their weights.
use Rattle.std.proofs.Common.{◌≡◌, sym, zero, suc, ℕ, ◌≤◌, ℤ, pos, negsuc, ◌+ℤ◌, ◌≤ℤ◌, ◌<ℤ◌, [], length, arith}
use Rattle.std.specs.Prelude.{All}
use Rattle.std.proofs.lemmas.Int.{ints}
use Rattle.std.proofs.lemmas.List.Elements.{All-nil, All-cons}
use Rattle.integers.specs.Total.{total}
use Rattle.bounds_model.specs.AnnulusAnswer.{WeightedPair}
use Rattle.pair_weights.specs.WeightedLists.{listed}

-- the pair with a weight
abbrev pub with_weight : ℕ → ℕ → ℤ → WeightedPair
with_weight first second w = record { first = first; second = second; weight = w }

-- a sum over it, of what is 0 where the weight is
pub total_one : (h : WeightedPair → ℤ) (first second : ℕ) (w : ℤ) → pos 0 ≤ℤ w → h (with_weight first second (pos 0)) ≡ pos 0 → total h (listed first second w) ≡ h (with_weight first second w)
total_one h first second (pos zero) some zero_is = sym zero_is
total_one h first second (pos (suc n)) some zero_is = last (h (with_weight first second (pos (suc n))))
  where
    last : (z : ℤ) → z +ℤ pos 0 ≡ z
    last z = omega (arith, ints)
total_one h first second (negsuc n) some zero_is = absurd some.le

-- what holds with its weight holds of all
pub all_one : (P : WeightedPair → Type 0) (first second : ℕ) (w : ℤ) → (pos 1 ≤ℤ w → P (with_weight first second w)) → All P (listed first second w)
all_one P first second (pos zero) h = All-nil P
all_one P first second (pos (suc n)) h = All-cons P (with_weight first second (pos (suc n))) [] (h (omega (arith, ints))) (All-nil P)
all_one P first second (negsuc n) h = All-nil P

-- there is at most one
pub at_most_one : (first second : ℕ) (w : ℤ) → length (listed first second w) ≤ 1
at_most_one first second (pos zero) = omega arith
at_most_one first second (pos (suc n)) = omega arith
at_most_one first second (negsuc n) = omega arith

-- and one where the weight is above 0
pub one_of_some : (first second : ℕ) (w : ℤ) → pos 0 <ℤ w → 1 ≤ length (listed first second w)
one_of_some first second (pos zero) h = absurd h.lt
one_of_some first second (pos (suc n)) h = omega arith
one_of_some first second (negsuc n) h = absurd h.lt
