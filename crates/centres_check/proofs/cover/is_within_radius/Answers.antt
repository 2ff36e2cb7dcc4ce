use Rattle.std.proofs.Common.{◌≡◌, ap, ◌∙◌, subst, sym, [], ◌∷◌, ℤ, pos, nat_abs, ◌-ℤ◌, ◌*ℤ◌, to_z, of_z, to_z-of_z, FitsSigned, w64, rules}
use Rattle.integers.specs.Size.{Size}
use Rattle.integers.proofs.Sizes.{size_mul, size_sub, size_unsigned}
use Rattle.integers.proofs.MachineArithmetic.{given, with_inputs, codes, computes, fits}
use Rattle.centres_check.proofs.cover.is_within_radius.Goals as goal

pub overflow_mul-w : goal.overflow_mul-w
overflow_mul-w c = with_inputs (given c.requires.w ∷ given c.requires.coordinate ∷ []) (λ xs h a b. simp (a, b, codes) (fits xs h w64 _ tt))

pub overflow_sub-w : goal.overflow_sub-w
overflow_sub-w c = with_inputs (given c.requires.w ∷ given c.requires.coordinate ∷ given c.requires.centre ∷ []) (λ xs h a b e. simp (a, b, e, codes) (fits xs h w64 _ tt))

pub abs-requires : goal.abs-requires
abs-requires c = with_inputs (given c.requires.w ∷ given c.requires.coordinate ∷ given c.requires.centre ∷ []) (λ xs h a b e. simp (a, b, e, codes) (fits xs h w64 _ tt))

-- what is taken the magnitude of
difference : {w x e : ℤ} → Size 2 w → Size 200000 x → Size 1000000 e
    → to_z w64 (of_z w64 (to_z w64 (of_z w64 (to_z w64 (of_z w64 w) *ℤ to_z w64 (of_z w64 x))) -ℤ to_z w64 (of_z w64 e))) ≡ w *ℤ x -ℤ e
difference hw hx he = with_inputs (given hw ∷ given hx ∷ given he ∷ []) (λ xs h a b e. simp (a, b, e, codes) (computes xs h _ _ tt tt))

far_size : {w x e : ℤ} → Size 2 w → Size 200000 x → Size 1000000 e → Size 1400000 (pos (nat_abs (w *ℤ x -ℤ e)))
far_size {w} {x} {e} hw hx he = let m = size_sub (size_mul hw hx) he in size_unsigned (nat_abs (w *ℤ x -ℤ e)) m.abs

-- a magnitude, times d, fits
product_fits : {a d : ℤ} → Size 1400000 a → Size 2 d → FitsSigned w64 (to_z w64 (of_z w64 a) *ℤ to_z w64 (of_z w64 d))
product_fits h k = with_inputs (given h ∷ given k ∷ []) (λ xs s b f. simp (b, f, codes) (fits xs s w64 _ tt))

product_is : {a d : ℤ} → Size 1400000 a → Size 2 d → to_z w64 (of_z w64 (to_z w64 (of_z w64 a) *ℤ to_z w64 (of_z w64 d))) ≡ a *ℤ d
product_is h k = with_inputs (given h ∷ given k ∷ []) (λ xs s b f. simp (b, f, codes) (computes xs s _ _ tt tt))

-- the magnitude that the machine has
magnitude : {a w x e : ℤ} → Size 2 w → Size 200000 x → Size 1000000 e
    → a ≡ pos (nat_abs (to_z w64 (of_z w64 (to_z w64 (of_z w64 (to_z w64 (of_z w64 w) *ℤ to_z w64 (of_z w64 x))) -ℤ to_z w64 (of_z w64 e))))) → a ≡ pos (nat_abs (w *ℤ x -ℤ e))
magnitude hw hx he is = is ∙ ap (λ z. pos (nat_abs z)) (difference hw hx he)

pub overflow_mul-result : goal.overflow_mul-result
overflow_mul-result c =
    let is = magnitude c.requires.w c.requires.coordinate c.requires.centre c.abs.ensures.value in
    product_fits (subst (Size 1400000) (sym is) (far_size c.requires.w c.requires.coordinate c.requires.centre)) c.requires.d

pub returns : goal.returns
returns c =
    let is = magnitude c.requires.w c.requires.coordinate c.requires.centre c.abs.ensures.value in
    let e = product_is (subst (Size 1400000) (sym is) (far_size c.requires.w c.requires.coordinate c.requires.centre)) c.requires.d in
    rw (e, is, to_z-of_z c.ranges.scaled_radius) (search rules)
