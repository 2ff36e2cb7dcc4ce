-- How large sums over weighted pairs are.
use Rattle.std.proofs.Common.{◌≡◌, sym, subst, ◌∙◌, ap, ℕ, ◌+◌, ◌*◌, ◌^◌, ◌<◌, ◌≤◌, ℤ, pos, ◌*ℤ◌, nat_abs, arith, le_refl, mul-le-mul}
use Rattle.std.proofs.lemmas.Int.{unsigned_abs-mul}
use Rattle.std.proofs.Math.Nat.{pos_of_ne-zero}
use Rattle.integers.specs.Size.{Size}
use Rattle.integers.proofs.Sizes.{size_more_weight}
use Rattle.bounds_model.specs.Space.{SpacePoint, plus, times}
use Rattle.kernel_laws.specs.Limits.{IsVectorWithin}

-- a weighted sum with one point more is within its range
pub more_within : (t w r : ℕ) (old p new : SpacePoint) → IsVectorWithin (t * r) old → IsVectorWithin r p → new ≡ plus old (times (pos w) p) → IsVectorWithin ((t + w) * r) new
more_within t w r old p new h k is = record {
  x = subst (Size ((t + w) * r)) (sym (ap (λ v. v.x) is)) (size_more_weight t w r h.x k.x);
  y = subst (Size ((t + w) * r)) (sym (ap (λ v. v.y) is)) (size_more_weight t w r h.y k.y);
  z = subst (Size ((t + w) * r)) (sym (ap (λ v. v.z) is)) (size_more_weight t w r h.z k.z);
}

-- a sum over weights within their limit
pub within_most : {t : ℕ} {v : SpacePoint} → t ≤ 2 ^ 66 → IsVectorWithin (t * 8000) v → IsVectorWithin (2 ^ 79) v
within_most {t} h k = record { x = most h k.x; y = most h k.y; z = most h k.z }
  where
    most : {t : ℕ} {a : ℤ} → t ≤ 2 ^ 66 → Size (t * 8000) a → Size (2 ^ 79) a
    most h k = record { abs = let s = k.abs in omega arith }

-- quotients are within the limit of the numbers
pub quotients_within : (m k : ℕ) (v d : SpacePoint) → (k ≡ 0 → ⊥) → IsVectorWithin m v → pos k *ℤ d.x ≡ v.x → pos k *ℤ d.y ≡ v.y → pos k *ℤ d.z ≡ v.z → IsVectorWithin m d
quotients_within m k v d some h x y z = record { x = quotient d.x v.x x h.x; y = quotient d.y v.y y h.y; z = quotient d.z v.z z h.z }
  where
    quotient : (q n : ℤ) → pos k *ℤ q ≡ n → Size m n → Size m q
    quotient q n e s =
        let whole : k * nat_abs q ≡ nat_abs n = sym (unsigned_abs-mul (pos k) q) ∙ ap nat_abs e in
        let positive : 0 < k = pos_of_ne-zero some in
        let less : 1 * nat_abs q ≤ k * nat_abs q = mul-le-mul positive (le_refl (nat_abs q)) in
        record { abs = let most = s.abs in omega arith }
