-- The sizes of what the circle and sphere test computes, as numerals: one set for the plane, one for space.
use Rattle.std.proofs.Common.{◌≡◌, subst, ℕ, ◌*◌, ◌^◌, ◌≤◌, ◌⊎◌, inl, inr, pos, mul-le-mul, le_trans, le_refl}
use Rattle.integers.specs.Size.{Size}
use Rattle.integers.proofs.Sizes.{size_unsigned}
use Rattle.bounds_model.specs.Space.{SpacePoint}
use Rattle.kernel_laws.specs.Limits.{IsVectorWithin, difference_limit, ball_limit}

-- a vector x within l, a sum within m, and a total of at most t
pub record SideSizes (l m t : ℕ) (v s : SpacePoint) (n : ℕ) : Type 0 where
  pub vector : IsVectorWithin l v
  pub sum : IsVectorWithin m s
  pub total : Size t (pos n)

-- a greater bound on a vector
pub more_within : {m n : ℕ} {v : SpacePoint} → m ≤ n → IsVectorWithin m v → IsVectorWithin n v
more_within h w = record {
  x = record { abs = le_trans w.x.abs h };
  y = record { abs = le_trans w.y.abs h };
  z = record { abs = le_trans w.z.abs h };
}

-- the sizes in the plane, or those in space
pub side_sizes : (dim total : ℕ) (x sum : SpacePoint) → (dim ≡ 2) ⊎ (dim ≡ 3) → total ≤ ball_limit dim → IsVectorWithin (difference_limit dim) x → IsVectorWithin (total * difference_limit dim) sum
    → SideSizes 400000 (2 ^ 80 * 400000) (2 ^ 80) x sum total ⊎ SideSizes 16000 (2 ^ 92 * 16000) (2 ^ 92) x sum total
side_sizes dim total x sum (inl e) most hx hs =
    let fits : total ≤ 2 ^ 80 = subst (λ d. total ≤ ball_limit d) e most in
    let product : total * 400000 ≤ 2 ^ 80 * 400000 = mul-le-mul fits (le_refl 400000) in
    inl (record {
      vector = subst (λ d. IsVectorWithin (difference_limit d) x) e hx;
      sum = more_within product (subst (λ d. IsVectorWithin (total * difference_limit d) sum) e hs);
      total = size_unsigned total fits;
    })
side_sizes dim total x sum (inr e) most hx hs =
    let fits : total ≤ 2 ^ 92 = subst (λ d. total ≤ ball_limit d) e most in
    let product : total * 16000 ≤ 2 ^ 92 * 16000 = mul-le-mul fits (le_refl 16000) in
    inr (record {
      vector = subst (λ d. IsVectorWithin (difference_limit d) x) e hx;
      sum = more_within product (subst (λ d. IsVectorWithin (total * difference_limit d) sum) e hs);
      total = size_unsigned total fits;
    })
