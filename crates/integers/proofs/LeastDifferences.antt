-- Fractions with small denominators lie apart: two that differ, with denominators of at most q, differ by at least 1 / q².
use Rattle.std.proofs.Common.{ℕ, suc, ◌+◌, ◌*◌, ◌/◌, ◌≤◌, ◌<◌, ℤ, pos, negsuc, nat_abs, ◌+ℤ◌, ◌-ℤ◌, ◌*ℤ◌, ◌≤ℤ◌, ◌<ℤ◌, arith, [], ◌∷◌, le_of_mul-le-mul_right, mul-le-mul_right, mul-le-mul}
use Rattle.std.proofs.lemmas.Int.{ints}
use Rattle.std.proofs.lemmas.Nat.{le-div}
use Rattle.std.proofs.Math.Nat.{mul-div-le}
use Rattle.integers.proofs.Identities.{den-ring, read, polys, below_lits}
use Rattle.integers.proofs.Order.{nonneg_mul, nonneg_add, le_from_lt, le_by, mul_le_both, nonneg_difference, positive_difference, at_least_one, lt_by}

-- ---- over `ℕ`

-- a / b + 1 / q² ≤ c / d, where a / b < c / d
pub ratio_difference : (a b c d q : ℕ) → b ≤ q → d ≤ q → a * d < c * b → a * d * (q * q) + b * d ≤ c * b * (q * q)
ratio_difference a b c d q hb hd h =
    let small : b * d ≤ q * q = mul-le-mul hb hd in
    let more : suc (a * d) * (q * q) ≤ c * b * (q * q) = mul-le-mul_right (q * q) h in
    omega arith

-- so a value that rises takes a greater whole number each time: the measure of a loop that improves a fraction
pub floor_rises : (a b c d q : ℕ) → 0 < b → 0 < d → b ≤ q → d ≤ q → a * d < c * b → a * (q * q) / b < c * (q * q) / d
floor_rises a b c d q pb pd hb hd h =
    let N = q * q in
    let A = a * N / b in
    let below : b * A ≤ a * N = mul-div-le (a * N) b in
    le-div (suc A) (c * N) d pd (cut N A below (mul-le-mul_right d below) (ratio_difference a b c d q hb hd h))
  where
    cut : (N A : ℕ) → b * A ≤ a * N → b * A * d ≤ a * N * d → a * d * N + b * d ≤ c * b * N → suc A * d ≤ c * N
    cut N A l m g = le_of_mul-le-mul_right {k = b} (omega arith) pb

-- ---- over `ℤ`

-- a / b + 1 / q² ≤ c / d, where a / b < c / d
pub fraction_difference : (a b c d q : ℤ) → pos 0 <ℤ b → pos 0 <ℤ d → b ≤ℤ q → d ≤ℤ q → (a *ℤ d) <ℤ (c *ℤ b) → (a *ℤ d *ℤ (q *ℤ q) +ℤ b *ℤ d) ≤ℤ (c *ℤ b *ℤ (q *ℤ q))
fraction_difference a b c d q pb pd hb hd h =
    let small : (b *ℤ d) ≤ℤ (q *ℤ q) = mul_le_both (le_from_lt pb) (le_from_lt pd) hb hd in
    let one : pos 1 ≤ℤ (c *ℤ b -ℤ a *ℤ d) = at_least_one (positive_difference h) in
    let square : pos 0 ≤ℤ (q *ℤ q) = nonneg_mul (above pb hb) (above pb hb) in
    le_by
    (nonneg_add (nonneg_mul (nonneg_difference one) square) (nonneg_difference small))
    (read (a ∷ b ∷ c ∷ d ∷ q ∷ []) (λ xs r s t u v. simp (r, s, t, u, v, polys, below_lits xs) (den-ring xs _ _ tt)))
  where
    above : {b q : ℤ} → pos 0 <ℤ b → b ≤ℤ q → pos 0 ≤ℤ q
    above p h = omega (arith, ints)

-- so a value of ℤ that rises takes a greater whole number each time
pub floor_rises_ℤ : (a b c d : ℤ) (q : ℕ) → pos 0 ≤ℤ a → pos 0 <ℤ b → pos 0 ≤ℤ c → pos 0 <ℤ d → b ≤ℤ pos q → d ≤ℤ pos q → (a *ℤ d) <ℤ (c *ℤ b)
    → nat_abs a * (q * q) / nat_abs b < nat_abs c * (q * q) / nat_abs d
floor_rises_ℤ (pos a) (pos b) (pos c) (pos d) q ha hb hc hd lb ld h = floor_rises a b c d q (omega (arith, ints)) (omega (arith, ints)) (omega (arith, ints)) (omega (arith, ints)) (omega (arith, ints))
floor_rises_ℤ (negsuc a) b c d q ha hb hc hd lb ld h = absurd ha.le
floor_rises_ℤ (pos a) (negsuc b) c d q ha hb hc hd lb ld h = absurd hb.lt
floor_rises_ℤ (pos a) (pos b) (negsuc c) d q ha hb hc hd lb ld h = absurd hc.le
floor_rises_ℤ (pos a) (pos b) (pos c) (negsuc d) q ha hb hc hd lb ld h = absurd hd.lt

-- a fraction that rises comes closer to L
pub rest_falls : (L n d m e : ℤ) → (n *ℤ e) <ℤ (m *ℤ d) → ((L *ℤ e -ℤ m) *ℤ d) <ℤ ((L *ℤ d -ℤ n) *ℤ e)
rest_falls L n d m e h = lt_by (positive_difference h) (read (L ∷ n ∷ d ∷ m ∷ e ∷ []) (λ xs a b c f g. simp (a, b, c, f, g, polys) (den-ring xs _ _ tt)))
