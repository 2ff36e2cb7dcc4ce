-- The entries of a weighted mean, as the machine has them.
use Rattle.std.proofs.Common.{◌≡◌, ◌∙◌, ap₂, ℕ, ◌≤◌, ◌^◌, ℤ, pos, ◌+ℤ◌, ◌*ℤ◌, ◌<ℤ◌, FitsSigned, to_z, of_z, to_z-of_z, w32, arith}
use Rattle.std.proofs.lemmas.Int.{ints, to_z_pos}
use mir.Syntax.{w128}

-- a coordinate's entry
pub entry : {r f p F : ℤ} (t : ℕ) → FitsSigned w128 r → FitsSigned w32 f → FitsSigned w128 p → r ≡ pos t *ℤ to_z w32 (of_z w32 f) +ℤ to_z w128 (of_z w128 p) → f ≡ F
    → to_z w128 (of_z w128 r) ≡ pos t *ℤ F +ℤ p
entry t fits_r fits_f fits_p is e = to_z-of_z fits_r ∙ is ∙ ap₂ (λ v w. pos t *ℤ v +ℤ w) (to_z-of_z fits_f ∙ e) (to_z-of_z fits_p)

-- the denominator
pub denominator : {t : ℕ} → t ≤ 2 ^ 92 → to_z w128 t ≡ pos t
denominator {t} h = to_z_pos w128 t (omega arith)

-- which is above 0
pub denominator_positive : {t : ℕ} → 1 ≤ t → pos 0 <ℤ pos t
denominator_positive h = omega (arith, ints)
