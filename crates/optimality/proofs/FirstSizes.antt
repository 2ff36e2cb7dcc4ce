-- Sizes above the printed one.
use Rattle.std.proofs.Common.{◌≡◌, ℤ, pos, ◌*ℤ◌, ◌≤ℤ◌, ◌<ℤ◌, [], ◌∷◌, arith}
use Rattle.std.proofs.lemmas.Int.{ints}
use Rattle.integers.proofs.Identities.{den-ring, read, polys}
use Rattle.integers.proofs.Order.{le_by, le_of_mul_le, nonneg_mul, nonneg_difference, le_from_lt, combine1}
use Rattle.bounds_model.specs.Fractions.{Fraction, SameValue, IsAtMost}
use Rattle.optimality.proofs.Bounds.{not_above}

-- an object whose size is above the printed one is not the smallest
pub no_best_above : (printed own other : Fraction) → pos 0 <ℤ printed.d → pos 0 <ℤ own.d → SameValue printed own → IsAtMost other own → (printed.n *ℤ other.d) <ℤ (other.n *ℤ printed.d) → ⊥
no_best_above printed own other some own_some same most above = not_above (plain printed.n printed.d own.n own.d other.n other.d some own_some same most) above
  where
    plain : (N D r s p q : ℤ) → pos 0 <ℤ D → pos 0 <ℤ s → N *ℤ s ≡ r *ℤ D → (p *ℤ s) ≤ℤ (r *ℤ q) → (p *ℤ D) ≤ℤ (N *ℤ q)
    plain N D r s p q pD ps e h =
        le_of_mul_le s ps
        (le_by (nonneg_mul (le_from_lt pD) (nonneg_difference h))
        (combine1 q e (read (N ∷ D ∷ r ∷ s ∷ p ∷ q ∷ []) (λ xs a b c d e f. simp (a, b, c, d, e, f, polys) (den-ring xs _ _ tt)))))

-- the object whose size is printed is not above it
pub not_above_itself : (printed own : Fraction) → SameValue printed own → (printed.n *ℤ own.d) <ℤ (own.n *ℤ printed.d) → ⊥
not_above_itself printed own same above = not_same same above
  where
    not_same : {x y : ℤ} → x ≡ y → x <ℤ y → ⊥
    not_same e h = omega (arith, ints)
