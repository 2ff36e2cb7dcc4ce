-- The limits of weights, by slack and dimension.
use Rattle.std.proofs.Common.{◌≡◌, sym, subst, ℕ, ◌^◌, ◌≤◌, ◌⊎◌, inl, inr, ℤ, pos, arith, le_trans}
use Rattle.integers.specs.Size.{Size}
use Rattle.kernel_laws.specs.Limits.{ball_limit}
use Rattle.kernel_laws.specs.Solutions.{weight_limit}

-- each limit is at least 2 ^ 66
pub limit_at_least : (quadratic : ℤ) (dim : ℕ) → (quadratic ≡ pos 0) ⊎ (quadratic ≡ pos 1) → (dim ≡ 2) ⊎ (dim ≡ 3) → 2 ^ 66 ≤ weight_limit quadratic dim
limit_at_least quadratic dim (inl e) d = subst (λ q. 2 ^ 66 ≤ weight_limit q dim) (sym e) (omega arith)
limit_at_least quadratic dim (inr e) (inl d) = subst (λ q. 2 ^ 66 ≤ weight_limit q dim) (sym e) (subst (λ n. 2 ^ 66 ≤ ball_limit n) (sym d) (omega arith))
limit_at_least quadratic dim (inr e) (inr d) = subst (λ q. 2 ^ 66 ≤ weight_limit q dim) (sym e) (subst (λ n. 2 ^ 66 ≤ ball_limit n) (sym d) (omega arith))

-- a bound within a limit
pub within_limit : {a : ℤ} {m n : ℕ} → m ≤ n → Size m a → Size n a
within_limit h s = record { abs = le_trans s.abs h }
