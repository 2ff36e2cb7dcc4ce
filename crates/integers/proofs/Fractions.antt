-- Fractions as pairs: a / b is at most c / d where a * d ≤ c * b. The denominators are above 0.
use Rattle.std.proofs.Common.{◌≡◌, ◌⊎◌, inl, inr, ℤ, pos, ◌-ℤ◌, ◌*ℤ◌, ◌≤ℤ◌, ◌<ℤ◌, arith, [], ◌∷◌}
use Rattle.std.proofs.lemmas.Int.{ints, by_lt_z}
use Rattle.integers.proofs.Identities.{den-ring, read, polys, lits}
use Rattle.integers.proofs.Order.{nonneg_mul, nonneg_add, positive_mul, positive_add, le_from_lt, le_by, lt_by, le_of_mul_le, lt_of_mul_lt, same_of_mul, nonneg_difference, positive_difference, combine1, combine2}

-- ---- over `ℤ`: chains

-- a / b ≤ c / d ≤ e / f
pub fraction_le_trans : (a b c d e f : ℤ) → pos 0 <ℤ b → pos 0 <ℤ d → pos 0 <ℤ f → (a *ℤ d) ≤ℤ (c *ℤ b) → (c *ℤ f) ≤ℤ (e *ℤ d) → (a *ℤ f) ≤ℤ (e *ℤ b)
fraction_le_trans a b c d e f hb hd hf h k =
    le_of_mul_le d hd
    (le_by
    (nonneg_add (nonneg_mul (le_from_lt hf) (nonneg_difference h)) (nonneg_mul (le_from_lt hb) (nonneg_difference k)))
    (read (a ∷ b ∷ c ∷ d ∷ e ∷ f ∷ []) (λ xs p q r s t u. simp (p, q, r, s, t, u, polys) (den-ring xs _ _ tt))))

-- a / b < c / d ≤ e / f
pub fraction_lt_le_trans : (a b c d e f : ℤ) → pos 0 <ℤ b → pos 0 <ℤ d → pos 0 <ℤ f → (a *ℤ d) <ℤ (c *ℤ b) → (c *ℤ f) ≤ℤ (e *ℤ d) → (a *ℤ f) <ℤ (e *ℤ b)
fraction_lt_le_trans a b c d e f hb hd hf h k =
    lt_of_mul_lt d hd
    (lt_by
    (positive_add (positive_mul hf (positive_difference h)) (nonneg_mul (le_from_lt hb) (nonneg_difference k)))
    (read (a ∷ b ∷ c ∷ d ∷ e ∷ f ∷ []) (λ xs p q r s t u. simp (p, q, r, s, t, u, polys) (den-ring xs _ _ tt))))

-- a / b = c / d = e / f
pub fraction_same_trans : (a b c d e f : ℤ) → pos 0 <ℤ d → a *ℤ d ≡ c *ℤ b → c *ℤ f ≡ e *ℤ d → a *ℤ f ≡ e *ℤ b
fraction_same_trans a b c d e f hd h k =
    same_of_mul d hd
    (combine2 f b h k (read (a ∷ b ∷ c ∷ d ∷ e ∷ f ∷ []) (λ xs p q r s t u. simp (p, q, r, s, t, u, polys) (den-ring xs _ _ tt))))

-- of two fractions one is at most the other
pub fraction_total : (a b c d : ℤ) → ((a *ℤ d) ≤ℤ (c *ℤ b)) ⊎ ((c *ℤ b) ≤ℤ (a *ℤ d))
fraction_total a b c d = by_lt_z (a *ℤ d) (c *ℤ b) (λ h. inl (omega (arith, ints))) (λ h. inr h)

-- ---- over `ℤ`: another form of a fraction

-- e / f ≤ c / d from a / b ≤ c / d, where a / b = e / f
pub fraction_equal : (a b e f c d : ℤ) → pos 0 <ℤ b → pos 0 <ℤ f → a *ℤ f ≡ e *ℤ b → (a *ℤ d) ≤ℤ (c *ℤ b) → (e *ℤ d) ≤ℤ (c *ℤ f)
fraction_equal a b e f c d hb hf q h =
    le_of_mul_le b hb
    (le_by (nonneg_mul (le_from_lt hf) (nonneg_difference h))
    (combine1 d q (read (a ∷ b ∷ c ∷ d ∷ e ∷ f ∷ []) (λ xs p q r s t u. simp (p, q, r, s, t, u, polys) (den-ring xs _ _ tt)))))

-- e / f < c / d from a / b < c / d, where a / b = e / f
pub fraction_lt_equal : (a b e f c d : ℤ) → pos 0 <ℤ b → pos 0 <ℤ f → a *ℤ f ≡ e *ℤ b → (a *ℤ d) <ℤ (c *ℤ b) → (e *ℤ d) <ℤ (c *ℤ f)
fraction_lt_equal a b e f c d hb hf q h =
    lt_of_mul_lt b hb
    (lt_by (positive_mul hf (positive_difference h))
    (combine1 d q (read (a ∷ b ∷ c ∷ d ∷ e ∷ f ∷ []) (λ xs p q r s t u. simp (p, q, r, s, t, u, polys) (den-ring xs _ _ tt)))))

-- c / d ≤ e / f from c / d ≤ a / b, where a / b = e / f
pub fraction_equal_right : (a b e f c d : ℤ) → pos 0 <ℤ b → pos 0 <ℤ f → a *ℤ f ≡ e *ℤ b → (c *ℤ b) ≤ℤ (a *ℤ d) → (c *ℤ f) ≤ℤ (e *ℤ d)
fraction_equal_right a b e f c d hb hf q h =
    le_of_mul_le b hb
    (le_by (nonneg_mul (le_from_lt hf) (nonneg_difference h))
    (combine1 (pos 0 -ℤ d) q (read (a ∷ b ∷ c ∷ d ∷ e ∷ f ∷ []) (λ xs p q r s t u. simp (p, q, r, s, t, u, polys, lits xs) (den-ring xs _ _ tt)))))
