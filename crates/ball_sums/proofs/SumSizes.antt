-- How large sums over weighted points are.
use Rattle.std.proofs.Common.{◌≡◌, sym, subst, ℕ, ◌+◌, ◌*◌, ◌^◌, ◌≤◌, ◌⊎◌, inl, inr, ℤ, pos, ◌+ℤ◌, ◌*ℤ◌, arith, le_trans, mul-le-mul, le_refl}
use Rattle.integers.specs.Size.{Size}
use Rattle.integers.proofs.Sizes.{size_more_weight}
use Rattle.bounds_model.specs.Space.{SpacePoint}
use Rattle.kernel_laws.specs.Limits.{IsVectorWithin, difference_limit, ball_limit}
use Rattle.ball_sums.specs.Sums.{IsInRange, squared_length_limit}

-- ---- the limits as numerals

-- weights within their limit
pub weight_most : {dim n : ℕ} → (dim ≡ 2) ⊎ (dim ≡ 3) → n ≤ ball_limit dim → n ≤ 2 ^ 92
weight_most {dim} {n} (inl e) h = let fits : n ≤ 2 ^ 80 = subst (λ d. n ≤ ball_limit d) e h in omega arith
weight_most {dim} {n} (inr e) h = subst (λ d. n ≤ ball_limit d) e h

-- times the greatest squared length
pub second_moment_most : {dim n : ℕ} → (dim ≡ 2) ⊎ (dim ≡ 3) → n ≤ ball_limit dim → n * squared_length_limit dim ≤ 2 ^ 122
second_moment_most {dim} {n} (inl e) h = subst (λ d. n * squared_length_limit d ≤ 2 ^ 122) (sym e) (let fits : n ≤ 2 ^ 80 = subst (λ d. n ≤ ball_limit d) e h in omega arith)
second_moment_most {dim} {n} (inr e) h = subst (λ d. n * squared_length_limit d ≤ 2 ^ 122) (sym e) (let fits : n ≤ 2 ^ 92 = subst (λ d. n ≤ ball_limit d) e h in omega arith)

-- ---- one point more

more_second_moment : (t w q m r : ℕ) → m ≤ t * r → q ≤ r → m + w * q ≤ (t + w) * r
more_second_moment t w q m r h k = let product : w * q ≤ w * r = mul-le-mul (le_refl w) k in omega (arith, distributes t w r)
  where
    distributes : (t w r : ℕ) → t * r + w * r ≡ (t + w) * r
    distributes t w r = omega arith

-- the second_moment with one point more fits
pub second_moment_fits : {dim : ℕ} (t w q m : ℕ) → (dim ≡ 2) ⊎ (dim ≡ 3) → t + w ≤ ball_limit dim → m ≤ t * squared_length_limit dim → q ≤ squared_length_limit dim → m + w * q ≤ 2 ^ 122
second_moment_fits {dim} t w q m dims limit h k = le_trans (more_second_moment t w q m (squared_length_limit dim) h k) (second_moment_most dims limit)

-- sums with one point more are in range
pub range_more : {dim : ℕ} (t w q m : ℕ) {a b c x y z : ℤ} {v : SpacePoint}
    → IsInRange dim (record { weight = t; pull = record { x = a; y = b; z = c }; second_moment = m }) → IsVectorWithin (difference_limit dim) v → t + w ≤ ball_limit dim
    → q ≤ squared_length_limit dim → x ≡ a +ℤ pos w *ℤ v.x → y ≡ b +ℤ pos w *ℤ v.y → z ≡ c +ℤ pos w *ℤ v.z
    → IsInRange dim (record { weight = t + w; pull = record { x = x; y = y; z = z }; second_moment = m + w * q })
range_more {dim} t w q m range within limit most in_x in_y in_z = record {
  weight = limit;
  pull = record {
    x = subst (Size ((t + w) * difference_limit dim)) (sym in_x) (size_more_weight t w (difference_limit dim) range.pull.x within.x);
    y = subst (Size ((t + w) * difference_limit dim)) (sym in_y) (size_more_weight t w (difference_limit dim) range.pull.y within.y);
    z = subst (Size ((t + w) * difference_limit dim)) (sym in_z) (size_more_weight t w (difference_limit dim) range.pull.z within.z);
  };
  second_moment = more_second_moment t w q m (squared_length_limit dim) range.second_moment most;
}
