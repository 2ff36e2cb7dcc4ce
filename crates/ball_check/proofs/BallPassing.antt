-- A circle or a sphere whose supports determine a ball passes exactly where its centre is right.
use Rattle.std.proofs.Common.{◌≡◌, refl, sym, subst, ap, ◌≤◌, List, [], ◌∷◌, length, map, Bool, IsTrue, ◌↔◌}
use Rattle.bounds_model.specs.Plane.{PlanePoint}
use Rattle.bounds_model.specs.Space.{SpacePoint, flat, flat_ratio, SamePlace}
use Rattle.bounds_model.specs.Ranges.{IsPlaneRatio, IsSpaceRatio}
use Rattle.bounds_model.specs.BallAnswer.{CircleAnswer, SphereAnswer, first_support, PassesCircle, PassesSphere}
use Rattle.ball_sums.specs.declared.sums.Sums.{Sums}
use Rattle.ball_sums.specs.Means.{plane_mean, space_mean}
use Rattle.ball_sums.proofs.BallPassing.{circle_passes, sphere_passes}
use Rattle.ball_sums.proofs.Means.{plane_mean_is, space_mean_is}
use Rattle.ball_sums.specs.DeterminedBalls.{DetermineBall, AreSupportSums}

-- ---- what decides

pub circle_decided : {yes : Bool} (points : List PlanePoint) (a : CircleAnswer) (h : Sums) (first : PlanePoint) → length points ≤ 10000 → length a.supports ≤ 3
    → DetermineBall 2 (map flat points) a.supports a.size × AreSupportSums 2 (map flat points) a.supports h → first_support (map flat points) a.supports ≡ flat first
    → (IsTrue yes ↔ (IsPlaneRatio a.centre × SamePlace (flat_ratio a.centre) (flat_ratio (plane_mean first h))))
    → IsTrue yes ↔ PassesCircle points a
circle_decided points a h first few three totals is test =
    let mean = plane_mean_is points a.supports h first totals.1.sums.sums is in (
      λ t. let both = test.0 t in circle_passes points a few three totals.0 both.0 (subst (SamePlace (flat_ratio a.centre)) mean both.1),
      λ p. test.1 (p.ranges.centre, subst (SamePlace (flat_ratio a.centre)) (sym mean) p.witness.centre),
    )

pub sphere_decided : {yes : Bool} (points : List SpacePoint) (a : SphereAnswer) (h : Sums) (first : SpacePoint) → length points ≤ 10000 → length a.supports ≤ 4
    → DetermineBall 3 points a.supports a.size × AreSupportSums 3 points a.supports h → first_support points a.supports ≡ first
    → (IsTrue yes ↔ (IsSpaceRatio a.centre × SamePlace a.centre (space_mean first h)))
    → IsTrue yes ↔ PassesSphere points a
sphere_decided points a h first few four totals is test =
    let mean = space_mean_is points a.supports h first totals.1.sums.sums is in (
      λ t. let both = test.0 t in sphere_passes points a few four totals.0 both.0 (subst (SamePlace a.centre) mean both.1),
      λ p. test.1 (p.ranges.centre, subst (SamePlace a.centre) (sym mean) p.witness.centre),
    )

-- a list seen as it is
pub map_same : {X : Type 0} (xs : List X) → map (λ x. x) xs ≡ xs
map_same [] = refl
map_same (x ∷ xs) = ap (λ ys. x ∷ ys) (map_same xs)
