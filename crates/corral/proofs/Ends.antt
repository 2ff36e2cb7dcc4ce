-- The difference of least slack goes from the farthest point to the least far one.
use Rattle.std.proofs.Common.{◌≡◌, sym, subst, ℕ, ℤ, pos, ◌-ℤ◌, ◌*ℤ◌, ◌≤ℤ◌, [], ◌∷◌, map, arith}
use Rattle.std.proofs.lemmas.Int.{ints}
use Rattle.integers.proofs.Identities.{den-ring, read, polys}
use Rattle.bounds_model.specs.Space.{SpacePoint, vector, dot, point_at}
use Rattle.bounded_coords.specs.declared.cloud.Cloud.{Cloud}
use Rattle.std.specs.Ordering.{on, int_cmp}
use Rattle.bounded_coords.specs.Clouds.{points_of}
use Rattle.bounded_coords.specs.Firsts.{IsFirstLeast, IsFirstGreatest}
use Rattle.kernel_laws.specs.Vectors.{sum_of}
use Rattle.corral.specs.declared.items.Items.TheVariants.{Differences}
use Rattle.corral.specs.declared.sums.Moments.{Moments}
use Rattle.corral.specs.LeastSlacks.{HasLeastSlack}
use Rattle.corral.proofs.PointNumbers.{least_at, greatest_at}

-- a difference is that of the ways from any origin
pub difference_along : (o a b s : SpacePoint) → dot (vector b a) s ≡ dot (vector o a) s -ℤ dot (vector o b) s
difference_along o a b s =
    read (o.x ∷ o.y ∷ o.z ∷ a.x ∷ a.y ∷ a.z ∷ b.x ∷ b.y ∷ b.z ∷ s.x ∷ s.y ∷ s.z ∷ [])
    (λ xs e f g h i j k l m n p q. simp (e, f, g, h, i, j, k, l, m, n, p, q, polys) (den-ring xs _ _ tt))

no_quadratic : (quadratic a : ℤ) → quadratic ≡ pos 0 → quadratic *ℤ a ≡ pos 0
no_quadratic quadratic a e = subst (λ s. s *ℤ a ≡ pos 0) (sym e) (omega (arith, ints))

-- a difference of less length along is lower
by_parts : {d e a b a' b' z y : ℤ} → d ≡ a -ℤ b → e ≡ a' -ℤ b' → z ≡ pos 0 → y ≡ pos 0 → a ≤ℤ a' → b' ≤ℤ b → (pos 2 *ℤ d -ℤ z) ≤ℤ (pos 2 *ℤ e -ℤ y)
by_parts p q r s t u = omega (arith, ints)

-- so it has the least slack for distances
pub least_by_ends : {K P : Type 0} (quadratic : ℤ) (place : P → SpacePoint) (p q : Cloud P) (m : Moments) (origin : P) (first second : ℕ) → quadratic ≡ pos 0
    → IsFirstLeast (on (λ r. dot (vector (place origin) (place r)) (sum_of m.sum)) int_cmp) (points_of p) first
    → IsFirstGreatest (on (λ r. dot (vector (place origin) (place r)) (sum_of m.sum)) int_cmp) (points_of q) second
    → HasLeastSlack {K = K} quadratic place (Differences p q) m (record { first = first; second = second })
least_by_ends quadratic place p q m origin first second flag least most = record {
  named = (least.listed, most.listed);
  least = λ other h. by_parts
      (difference_along (place origin) (point_at (map place (points_of p)) first) (point_at (map place (points_of q)) second) (sum_of m.sum))
      (difference_along (place origin) (point_at (map place (points_of p)) other.first) (point_at (map place (points_of q)) other.second) (sum_of m.sum))
      (no_quadratic quadratic _ flag) (no_quadratic quadratic _ flag)
      (least_at place (λ v. dot (vector (place origin) v) (sum_of m.sum)) (points_of p) origin first other.first least h.0)
      (greatest_at place (λ v. dot (vector (place origin) v) (sum_of m.sum)) (points_of q) origin second other.second most h.1);
}
