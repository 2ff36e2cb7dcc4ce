-- The sizes of cross products and triple products in space.
use Rattle.std.proofs.Common.{◌≡◌, sym, ◌∙◌, ap, ap₂, subst, ℕ, ◌^◌, ◌*◌, ℤ, pos, ◌-ℤ◌, ◌*ℤ◌, List, [], ◌∷◌, FitsSigned, of_z, arith}
use Rattle.std.proofs.lemmas.Int.{ints}
use mir.Syntax.{w128}
use Rattle.integers.specs.Size.{Size}
use Rattle.integers.proofs.Sizes.{size_mul, size_fits, size_more}
use Rattle.integers.proofs.MachineArithmetic.{Given, given, with_inputs, codes, size_within}
use Rattle.bounds_model.specs.Space.{SpacePoint, dot}
use Rattle.kernel_laws.specs.Limits.{IsVectorWithin}
use Rattle.kernel_laws.specs.Systems.{cross}

abbrev inputs : {u v : SpacePoint} {m n : ℕ} → IsVectorWithin m u → IsVectorWithin n v → List Given
inputs u v = given u.x ∷ given u.y ∷ given u.z ∷ given v.x ∷ given v.y ∷ given v.z ∷ []

-- of two differences
pub cross_within : (u v : SpacePoint) → IsVectorWithin 32000 u → IsVectorWithin 32000 v → IsVectorWithin (2 ^ 31) (cross u v)
cross_within u v hu hv = record {
  x = with_inputs (inputs hu hv) (λ xs h a b c d e f. simp (a, b, c, d, e, f, codes) (size_within xs h _ tt));
  y = with_inputs (inputs hu hv) (λ xs h a b c d e f. simp (a, b, c, d, e, f, codes) (size_within xs h _ tt));
  z = with_inputs (inputs hu hv) (λ xs h a b c d e f. simp (a, b, c, d, e, f, codes) (size_within xs h _ tt));
}

-- the product of a centre and a cross product
pub product_within : (m n : SpacePoint) → IsVectorWithin (2 ^ 75) m → IsVectorWithin (2 ^ 31) n → Size (2 ^ 110) (dot m n)
product_within m n hm hn = with_inputs (inputs hm hn) (λ xs h a b c d e f. simp (a, b, c, d, e, f, codes) (size_within xs h _ tt))

-- the product of a cross product and a difference
pub small_product : (m n : SpacePoint) → IsVectorWithin (2 ^ 31) m → IsVectorWithin 32000 n → Size (2 ^ 50) (dot m n)
small_product m n hm hn = with_inputs (inputs hm hn) (λ xs h a b c d e f. simp (a, b, c, d, e, f, codes) (size_within xs h _ tt))

-- the triple product of three differences
pub volume_within : (u v w : SpacePoint) → IsVectorWithin 32000 u → IsVectorWithin 32000 v → IsVectorWithin 32000 w → Size (2 ^ 50) (dot (cross u v) w)
volume_within u v w hu hv hw = small_product (cross u v) w (cross_within u v hu hv) hw

-- the list of four weights, by equal parts
pub four_numbers : {t p q s u x y z : ℤ} → t ≡ u → p ≡ x → q ≡ y → s ≡ z → (let ws : List ℤ = (t -ℤ p -ℤ q -ℤ s) ∷ p ∷ q ∷ s ∷ [] in ws) ≡ (u -ℤ x -ℤ y -ℤ z) ∷ x ∷ y ∷ z ∷ []
four_numbers {t} {p} {q} {s} {u} {x} {y} {z} e f g h =
    let first : (let ws : List ℤ = (t -ℤ p -ℤ q -ℤ s) ∷ p ∷ q ∷ s ∷ [] in ws) ≡ (u -ℤ p -ℤ q -ℤ s) ∷ p ∷ q ∷ s ∷ [] = ap (λ t. (t -ℤ p -ℤ q -ℤ s) ∷ p ∷ q ∷ s ∷ []) e in
    let second : (let ws : List ℤ = (u -ℤ p -ℤ q -ℤ s) ∷ p ∷ q ∷ s ∷ [] in ws) ≡ (u -ℤ x -ℤ q -ℤ s) ∷ x ∷ q ∷ s ∷ [] = ap (λ p. (u -ℤ p -ℤ q -ℤ s) ∷ p ∷ q ∷ s ∷ []) f in
    first ∙ second ∙ ap₂ (λ q s. (u -ℤ x -ℤ q -ℤ s) ∷ x ∷ q ∷ s ∷ []) g h

-- a number that code found to be 0
pub zero_from : {z : ℤ} → FitsSigned w128 z → of_z w128 z ≡ 0 → z ≡ pos 0
zero_from f e = omega (arith, ints)

-- or not to be 0
pub not_zero_from : {z : ℤ} → FitsSigned w128 z → (of_z w128 z ≡ 0 → ⊥) → z ≡ pos 0 → ⊥
not_zero_from f h e = h (ap (of_z w128) e)

-- a multiple of a triple product
pub record Multiple (k t : ℤ) : Type 0 where
  pub factor : FitsSigned w128 k
  pub once : FitsSigned w128 t
  pub fits : FitsSigned w128 (k *ℤ t)
  pub size : Size (2 ^ 120) (k *ℤ t)

-- as code finds it
pub multiple : (u v w : SpacePoint) {k t : ℤ} → IsVectorWithin 32000 u → IsVectorWithin 32000 v → IsVectorWithin 32000 w → Size (2 ^ 52) k → t ≡ dot (cross u v) w → Multiple k t
multiple u v w {k} {t} hu hv hw hk e =
    let size : Size (2 ^ 50) t = subst (Size (2 ^ 50)) (sym e) (volume_within u v w hu hv hw) in
    let product : Size (2 ^ 52 * 2 ^ 50) (k *ℤ t) = size_mul hk size in
    record { factor = size_fits hk tt; once = size_fits size tt; fits = size_fits product tt; size = size_more product tt }

-- a weight, as code finds it
pub weight_size : (m u v : SpacePoint) {t : ℤ} → IsVectorWithin (2 ^ 75) m → IsVectorWithin 32000 u → IsVectorWithin 32000 v → t ≡ dot m (cross u v) → Size (2 ^ 120) t
weight_size m u v hm hu hv e = size_more (subst (Size (2 ^ 110)) (sym e) (product_within m (cross u v) hm (cross_within u v hu hv))) tt
