-- The size and the centre that the sums over supports give are those of the ball that the supports hold.
use Rattle.std.proofs.Common.{◌≡◌, refl, sym, ◌∙◌, ap, ap₂, ℕ, zero, suc, ℤ, pos, ◌+ℤ◌, ◌-ℤ◌, ◌*ℤ◌, List, [], ◌∷◌, map, arith}
use Rattle.std.proofs.lemmas.Int.{ints}
use Rattle.bounds_model.specs.Plane.{PlanePoint}
use Rattle.bounds_model.specs.Space.{SpacePoint, point_at, plus, times, vector, weighted_sum, flat, flat_ratio}
use Rattle.bounds_model.specs.BallAnswer.{Weighted, weight_sum, first_support, pull, supported_size, supported_centre}
use Rattle.exact_fractions.proofs.UniqueForms.{space_ratio_by}
use Rattle.ball_sums.specs.declared.sums.Sums.{Sums}
use Rattle.ball_sums.specs.Sums.{AreSumsFrom}
use Rattle.ball_sums.specs.Means.{mean_size, plane_mean, space_mean}

-- ---- the size

pub mean_size_is : (points : List SpacePoint) (supports : List Weighted) (s : Sums) → AreSumsFrom (first_support points supports) points supports s → mean_size s ≡ supported_size points supports
mean_size_is points supports s sums = ap₂ (λ n weight. record { n = n; d = pos 2 *ℤ weight }) sums.second_moment sums.weight

-- ---- the centre

-- in space
pub space_mean_is : (points : List SpacePoint) (supports : List Weighted) (s : Sums) (from : SpacePoint) → AreSumsFrom (first_support points supports) points supports s → first_support points supports ≡ from
    → space_mean from s ≡ supported_centre points supports
space_mean_is points supports s from sums is =
    ap₂ (λ weight sum. let v = plus (times weight from) sum in record { x = v.x; y = v.y; z = v.z; w = weight }) sums.weight sums.pull
    ∙ ap (λ q. let v = plus (times (weight_sum supports) q) (pull points supports) in record { x = v.x; y = v.y; z = v.z; w = weight_sum supports }) (sym is)

-- points of the plane have the height 0
flat_at : (points : List PlanePoint) (i : ℕ) → (point_at (map flat points) i).z ≡ pos 0
flat_at [] i = refl
flat_at (p ∷ rest) zero = refl
flat_at (p ∷ rest) (suc i) = flat_at rest i

-- so has the first support
flat_first : (points : List PlanePoint) (supports : List Weighted) → (first_support (map flat points) supports).z ≡ pos 0
flat_first points [] = refl
flat_first points (s ∷ rest) = flat_at points s.point

-- and a weighted sum
flat_sum : (points : List PlanePoint) (from : SpacePoint) (supports : List Weighted) → from.z ≡ pos 0 → (weighted_sum (λ s. s.weight) (λ s. vector from (point_at (map flat points) s.point)) supports).z ≡ pos 0
flat_sum points from [] level = refl
flat_sum points from (s ∷ rest) level =
    none s.weight _ from.z _ (flat_at points s.point) level (flat_sum points from rest level)
  where
    zero_times : (w : ℤ) → w *ℤ pos 0 +ℤ pos 0 ≡ pos 0
    zero_times w = omega (arith, ints)

    none : (w a b c : ℤ) → a ≡ pos 0 → b ≡ pos 0 → c ≡ pos 0 → w *ℤ (a -ℤ b) +ℤ c ≡ pos 0
    none w a b c h k l = ap₂ (λ v u. w *ℤ v +ℤ u) (ap₂ (λ v u. v -ℤ u) h k) l ∙ zero_times w

-- in the plane
pub plane_mean_is : (points : List PlanePoint) (supports : List Weighted) (s : Sums) (from : PlanePoint) → AreSumsFrom (first_support (map flat points) supports) (map flat points) supports s
    → first_support (map flat points) supports ≡ flat from → flat_ratio (plane_mean from s) ≡ supported_centre (map flat points) supports
plane_mean_is points supports s from sums is =
    let level : s.pull.z ≡ pos 0 = ap (λ v. v.z) sums.pull ∙ flat_sum points (first_support (map flat points) supports) supports (flat_first points supports) in
    space_ratio_by refl refl (sym (no_height (pos s.weight) s.pull.z level)) refl ∙ space_mean_is (map flat points) supports s (flat from) sums is
  where
    no_height : (w a : ℤ) → a ≡ pos 0 → w *ℤ pos 0 +ℤ a ≡ pos 0
    no_height w a h = omega (arith, ints)
