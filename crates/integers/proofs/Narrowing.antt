-- Numbers that become narrower in code, and stay the same.
use Rattle.std.proofs.Common.{◌≡◌, sym, subst, ap, ap₂, ◌∙◌, ℕ, ◌<◌, ◌^◌, ℤ, pos, nat_abs, ◌-ℤ◌, ◌*ℤ◌, ◌≤ℤ◌, Bool, IsTrue, arith, to_z, of_z, to_z-of_z, w32, w64}
use Rattle.std.proofs.lemmas.Int.{ints, to_z_pos}
use mir.Syntax.{w128}
use lib.Signed.{mag}
use Rattle.std.proofs.Common.{◌↔◌}
use Rattle.integers.specs.Size.{Size}
use Rattle.integers.proofs.Sizes.{wrap_is, wrap_is_in, size_mul}

-- a number of 128 bits in 64
pub narrowed : {z n : ℤ} → z ≡ n → Size 1000000 n → to_z w64 (of_z w64 (to_z w128 (of_z w128 z))) ≡ n
narrowed {z} {n} e h = ap (λ v. to_z w64 (of_z w64 (to_z w128 (of_z w128 v)))) e ∙ ap (λ v. to_z w64 (of_z w64 v)) (wrap_is h tt) ∙ wrap_is_in w64 h tt

-- and one without a sign
pub narrowed_unsigned : {m : ℕ} {n : ℤ} → pos m ≡ n → Size 1000000 n → to_z w64 m ≡ n
narrowed_unsigned {m} {n} e h = let s : Size 1000000 (pos m) = subst (Size 1000000) (sym e) h in to_z_pos w64 m (below s) ∙ e
  where
    below : {m : ℕ} → Size 1000000 (pos m) → m < 2 ^ 63
    below {m} s = omega (arith, ints, s.abs)

-- a number of 32 bits in 64
pub widened : {f z n : ℤ} → f ≡ to_z w32 (of_z w32 z) → z ≡ n → Size 200000 n → to_z w64 (of_z w64 f) ≡ n
widened {f} {z} {n} is e h = ap (λ v. to_z w64 (of_z w64 v)) (is ∙ ap (λ v. to_z w32 (of_z w32 v)) e ∙ wrap_is_in w32 h tt) ∙ wrap_is_in w64 h tt

-- a number that 64 bits hold
pub kept64 : {z : ℤ} → mag z < 2 ^ 63 → to_z w64 (of_z w64 z) ≡ z
kept64 {z} h = to_z-of_z {w = w64} {z = z} (record { sfits = h })

-- a product in 64 bits
pub product64 : {a b m n : ℤ} → a ≡ m → b ≡ n → Size 1000000 m → Size 2 n → to_z w64 (of_z w64 (a *ℤ b)) ≡ m *ℤ n
product64 {a} {b} {m} {n} e f h k = ap₂ (λ v w. to_z w64 (of_z w64 (v *ℤ w))) e f ∙ wrap_is_in w64 (size_mul h k) tt

-- a test of whole numbers, for others that are the same
pub reaches : {yes : Bool} {w x e d r W X E D R : ℤ} → w ≡ W → x ≡ X → e ≡ E → d ≡ D → r ≡ R
    → (IsTrue yes ↔ ((pos (nat_abs (w *ℤ x -ℤ e)) *ℤ d) ≤ℤ r)) → IsTrue yes ↔ ((pos (nat_abs (W *ℤ X -ℤ E)) *ℤ D) ≤ℤ R)
reaches {yes} {w} {x} {e} {d} {r} {W} {X} {E} {D} {R} a b f g h t =
    let same : ((pos (nat_abs (w *ℤ x -ℤ e)) *ℤ d) ≤ℤ r) ≡ ((pos (nat_abs (W *ℤ X -ℤ E)) *ℤ D) ≤ℤ R) = ap₂ (λ p q. p ≤ℤ q) (ap₂ (λ p q. pos (nat_abs p) *ℤ q) (ap₂ (λ p q. p -ℤ q) (ap₂ (λ p q. p *ℤ q) a b) f) g) h in
    subst (λ P. IsTrue yes ↔ P) same t
