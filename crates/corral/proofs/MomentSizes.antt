-- The sizes of what slacks are computed from, as numerals: one set for the plane, one for space.
use Rattle.std.proofs.Common.{◌≡◌, subst, ℕ, ◌*◌, ◌^◌, ◌≤◌, ◌⊎◌, inl, inr, ℤ, pos, arith, sym, mul-le-mul_right, le_trans}
use Rattle.integers.specs.Size.{Size}
use Rattle.integers.proofs.Sizes.{size_of_flag}
use Rattle.bounds_model.specs.Space.{SpacePoint}
use Rattle.kernel_laws.specs.Vectors.{sum_of}
use Rattle.kernel_laws.specs.Limits.{IsVectorWithin, difference_limit}
use Rattle.kernel_laws.specs.Solutions.{weight_limit}
use Rattle.kernel_laws.proofs.SideLimits.{more_within}
use Rattle.corral.specs.declared.sums.Moments.{Moments}
use Rattle.corral.specs.Moments.{AreWithin}

-- a vector within l, a sum within m and a mass of at most t, and a number of at most 1
pub record MomentSizes (l m t : ℕ) (quadratic : ℤ) (v s : SpacePoint) (w : ℤ) : Type 0 where
  pub vector : IsVectorWithin l v
  pub sum : IsVectorWithin m s
  pub mass : Size t w
  pub flag : Size 1 quadratic

-- the greatest weights in the plane, and in space
plane_limit : (quadratic : ℤ) → (quadratic ≡ pos 0) ⊎ (quadratic ≡ pos 1) → weight_limit quadratic 2 ≤ 2 ^ 80
plane_limit quadratic (inl e) = subst (λ s. weight_limit s 2 ≤ 2 ^ 80) (sym e) (omega arith)
plane_limit quadratic (inr e) = subst (λ s. weight_limit s 2 ≤ 2 ^ 80) (sym e) (omega arith)

space_limit : (quadratic : ℤ) → (quadratic ≡ pos 0) ⊎ (quadratic ≡ pos 1) → weight_limit quadratic 3 ≤ 2 ^ 92
space_limit quadratic (inl e) = subst (λ s. weight_limit s 3 ≤ 2 ^ 92) (sym e) (omega arith)
space_limit quadratic (inr e) = subst (λ s. weight_limit s 3 ≤ 2 ^ 92) (sym e) (omega arith)

-- the sizes in the plane, or those in space
pub moment_sizes : (quadratic : ℤ) (dim : ℕ) (m : Moments) (v : SpacePoint) → (quadratic ≡ pos 0) ⊎ (quadratic ≡ pos 1) → (dim ≡ 2) ⊎ (dim ≡ 3)
    → AreWithin quadratic dim m → IsVectorWithin (difference_limit dim) v
    → MomentSizes 400000 (2 ^ 80 * 400000) (2 ^ 80) quadratic v (sum_of m.sum) m.mass ⊎ MomentSizes 16000 (2 ^ 92 * 16000) (2 ^ 92) quadratic v (sum_of m.sum) m.mass
moment_sizes quadratic dim m v flag (inl e) h hv =
    let within : AreWithin quadratic 2 m = subst (λ d. AreWithin quadratic d m) e h in
    let most : weight_limit quadratic 2 ≤ 2 ^ 80 = plane_limit quadratic flag in
    inl (record {
      vector = subst (λ d. IsVectorWithin (difference_limit d) v) e hv;
      sum = more_within (mul-le-mul_right 400000 most) within.sum;
      mass = record { abs = le_trans within.mass.abs most };
      flag = size_of_flag flag;
    })
moment_sizes quadratic dim m v flag (inr e) h hv =
    let within : AreWithin quadratic 3 m = subst (λ d. AreWithin quadratic d m) e h in
    let most : weight_limit quadratic 3 ≤ 2 ^ 92 = space_limit quadratic flag in
    inr (record {
      vector = subst (λ d. IsVectorWithin (difference_limit d) v) e hv;
      sum = more_within (mul-le-mul_right 16000 most) within.sum;
      mass = record { abs = le_trans within.mass.abs most };
      flag = size_of_flag flag;
    })
