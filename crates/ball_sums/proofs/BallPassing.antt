-- What is left to ask of a circle or a sphere once its supports determine a ball: the centre.
use Rattle.std.proofs.Common.{sym, subst, ◌≤◌, ◌^◌, List, length, map, arith}
use Rattle.std.proofs.lemmas.List.{length-map}
use Rattle.bounds_model.specs.Plane.{PlanePoint}
use Rattle.bounds_model.specs.Space.{SpacePoint, flat, flat_ratio, SamePlace}
use Rattle.bounds_model.specs.Ranges.{IsPlaneRatio, IsSpaceRatio}
use Rattle.bounds_model.specs.BallAnswer.{CircleAnswer, SphereAnswer, supported_centre, PassesCircle, PassesSphere}
use Rattle.ball_sums.specs.DeterminedBalls.{HasBallLimits, DetermineBall}
use Rattle.ball_sums.proofs.Weights.{in_ranges}

-- a circle passes
pub circle_passes : (points : List PlanePoint) (a : CircleAnswer) → length points ≤ 10000 → length a.supports ≤ 3 → DetermineBall 2 (map flat points) a.supports a.size → IsPlaneRatio a.centre
    → SamePlace (flat_ratio a.centre) (supported_centre (map flat points) a.supports) → PassesCircle points a
circle_passes points a few three holds centre same =
    let limits = subst (λ n. HasBallLimits 2 n a.supports) (length-map points flat) holds.limits in
    record {
      ranges = record {
        size = holds.size_in_range;
        centre = centre;
        count = record { at_least = limits.some; at_most = three };
        supports = in_ranges (length points) (2 ^ 80) a.supports few (omega arith) limits.numbers limits.weights limits.weight_limit;
      };
      numbers = limits.numbers;
      witness = record { weights = limits.weights; weight_limit = limits.weight_limit; on_ball = holds.on_ball; none_outside = holds.none_outside; size = holds.size_is; centre = same };
    }

-- and only where its supports determine it
pub circle_determined : (points : List PlanePoint) (a : CircleAnswer) → PassesCircle points a → DetermineBall 2 (map flat points) a.supports a.size
circle_determined points a p = record {
  limits = subst (λ n. HasBallLimits 2 n a.supports) (sym (length-map points flat)) (record { some = p.ranges.count.at_least; numbers = p.numbers; weights = p.witness.weights; weight_limit = p.witness.weight_limit });
  size_in_range = p.ranges.size;
  size_is = p.witness.size;
  on_ball = p.witness.on_ball;
  none_outside = p.witness.none_outside;
}

-- a sphere passes
pub sphere_passes : (points : List SpacePoint) (a : SphereAnswer) → length points ≤ 10000 → length a.supports ≤ 4 → DetermineBall 3 points a.supports a.size → IsSpaceRatio a.centre
    → SamePlace a.centre (supported_centre points a.supports) → PassesSphere points a
sphere_passes points a few four holds centre same = record {
  ranges = record {
    size = holds.size_in_range;
    centre = centre;
    count = record { at_least = holds.limits.some; at_most = four };
    supports = in_ranges (length points) (2 ^ 92) a.supports few (omega arith) holds.limits.numbers holds.limits.weights holds.limits.weight_limit;
  };
  numbers = holds.limits.numbers;
  witness = record { weights = holds.limits.weights; weight_limit = holds.limits.weight_limit; on_ball = holds.on_ball; none_outside = holds.none_outside; size = holds.size_is; centre = same };
}

-- and only where its supports determine it
pub sphere_determined : (points : List SpacePoint) (a : SphereAnswer) → PassesSphere points a → DetermineBall 3 points a.supports a.size
sphere_determined points a p = record {
  limits = record { some = p.ranges.count.at_least; numbers = p.numbers; weights = p.witness.weights; weight_limit = p.witness.weight_limit };
  size_in_range = p.ranges.size;
  size_is = p.witness.size;
  on_ball = p.witness.on_ball;
  none_outside = p.witness.none_outside;
}
