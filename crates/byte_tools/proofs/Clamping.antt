-- Clamped numbers: how they are read digit by digit, and when they are the numbers themselves.
use Rattle.std.proofs.Common.{◌≡◌, ◌∙◌, refl, ap, ℕ, suc, ◌+◌, ◌*◌, ◌≤◌, min, ℤ, pos, negsuc, neg_ℤ, nat_abs, true, false, cond, Option, Some, None, arith}
use Rattle.std.specs.Prelude.{nat_le}
use Rattle.std.specs.Option.{option_map}
use Rattle.std.proofs.lemmas.Int.{ints}
use Rattle.std.proofs.lemmas.Bool.Decides.{nat_tests}
use Rattle.byte_tools.specs.Clamps.{clamped_size, clamped}

module _ (limit : ℕ) where
  -- a digit behind a clamped number
  pub clamped-digit : (n d : ℕ) → clamped_size limit (clamped_size limit n * 10 + d) ≡ clamped_size limit (n * 10 + d)
  clamped-digit n d = omega arith

  -- what is written has a number whose clamped number this is
  pub number_found : (read : Option ℤ) (n : ℤ) → Some n ≡ option_map (clamped limit) read → (m : ℤ) × (n ≡ clamped limit m) × (read ≡ Some m)
  number_found None n e = absurd cc
  number_found (Some m) n e = (m, cc, refl)

  -- a number is within a bound, which is not past the limit, where its clamped one is
  pub within-clamped : (bound : ℕ) (z : ℤ) → bound ≤ limit → nat_le (nat_abs (clamped limit z)) bound ≡ nat_le (nat_abs z) bound
  within-clamped bound (pos n) small = grind (arith, nat_tests)
  within-clamped bound (negsuc n) small = grind (arith, ints, nat_tests)

  -- a number within the bound is its own clamped number
  pub clamped-same : (bound : ℕ) (z : ℤ) → bound ≤ limit → nat_le (nat_abs z) bound ≡ true → clamped limit z ≡ z
  clamped-same bound (pos n) small test = ap pos (grind (arith, nat_tests))
  clamped-same bound (negsuc n) small test =
      let same : min (n + 1) (limit + 1) ≡ suc n = grind (arith, nat_tests) in
      ap (λ m. neg_ℤ (pos m)) same

  -- what a number within the bound leads to, and any other, does not change where the number is clamped
  pub within_or_not : {A : Type 0} (bound : ℕ) (z : ℤ) → bound ≤ limit → (inside : ℤ → A) (outside : A)
      → cond (nat_le (nat_abs (clamped limit z)) bound) (inside (clamped limit z)) outside ≡ cond (nat_le (nat_abs z) bound) (inside z) outside
  within_or_not bound z small inside outside =
      ap (λ v. cond v (inside (clamped limit z)) outside) (within-clamped bound z small)
      ∙ elim (nat_le (nat_abs z) bound) as (λ v. nat_le (nat_abs z) bound ≡ v → cond v (inside (clamped limit z)) outside ≡ cond v (inside z) outside) [
        | true ↦ λ test. ap inside (clamped-same bound z small test)
        | false ↦ λ test. refl
      ] refl
