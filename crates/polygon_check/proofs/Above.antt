-- Whether one of some sums is above a number.
use Rattle.std.proofs.Common.{◌≡◌, refl, sym, subst, inl, inr, ℕ, ◌+◌, ◌<◌, arith, ℤ, ◌≤ℤ◌, ◌↔◌, Bool, true, false, ◌||◌, IsFalse, true≢false}
use Rattle.std.proofs.lemmas.Int.{ints}
use Rattle.std.specs.Int.Signed.{lt_z}
use Rattle.integers.proofs.Lists.{below_or_at}
use Rattle.integers.proofs.Order.{is_not_less, is_less}
use Rattle.bounds_model.specs.Numbers.{EachBelow}

-- one sum more
pub none_above-more : (sum : ℕ → ℤ) (most v : ℤ) (j : ℕ) (before : Bool) → (IsFalse before ↔ EachBelow j (λ k. sum k ≤ℤ most)) → v ≡ sum j → IsFalse (before || lt_z most v) ↔ EachBelow (j + 1) (λ k. sum k ≤ℤ most)
none_above-more sum most v j before none here = decide before (lt_z most v) none refl
  where
    earlier : {k : ℕ} → k < j → k < j + 1
    earlier low = omega (arith, low)

    here_too : j < j + 1
    here_too = omega arith

    decide : (b t : Bool) → (IsFalse b ↔ EachBelow j (λ k. sum k ≤ℤ most)) → lt_z most v ≡ t → IsFalse (b || t) ↔ EachBelow (j + 1) (λ k. sum k ≤ℤ most)
    decide true t old is = (λ quiet. absurd (true≢false quiet), λ each. absurd (true≢false (old.1 (λ k low. each k (earlier low)))))
    decide false true old is = (λ quiet. absurd (true≢false quiet), λ each. absurd (above (each j here_too)))
      where
        above : ¬ (sum j ≤ℤ most)
        above le = omega (arith, ints, is_less {a = most} {b = v} is, here, le)
    decide false false old is = (
      λ _. λ k low. elim (below_or_at k j low) [
        | inl less ↦ old.0 refl k less
        | inr same ↦ subst (λ n. sum n ≤ℤ most) (sym same) (subst (λ z. z ≤ℤ most) here (is_not_less {a = most} {b = v} is))
      ],
      λ _. refl,
    )

-- no sum is above the number
pub none_above-start : (sum : ℕ → ℤ) (most : ℤ) → IsFalse false ↔ EachBelow 0 (λ k. sum k ≤ℤ most)
none_above-start sum most = (λ _. λ k low. absurd (none low), λ _. refl)
  where
    none : {k : ℕ} → ¬ (k < 0)
    none low = omega (arith, low)
