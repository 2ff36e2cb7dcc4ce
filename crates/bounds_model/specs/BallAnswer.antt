-- The answers on circles and spheres, and what a checker asks of them.
use Rattle.std.specs.Prelude.{◌≡◌, ℕ, ◌^◌, ◌<◌, ◌≤◌, ℤ, pos, ◌*ℤ◌, ◌≤ℤ◌, List, [], ◌∷◌, length, map, All}
use Rattle.integers.specs.Total.{total}
use Rattle.bounds_model.specs.Numbers.{HasCount}
use Rattle.bounds_model.specs.Plane.{PlanePoint, PlaneRatio}
use Rattle.bounds_model.specs.Space.{SpacePoint, SpaceRatio, plus, times, point_at, vector, dot, squared_length, weighted_sum, origin, flat, flat_ratio, SamePlace}
use Rattle.bounds_model.specs.Fractions.{Fraction, SameValue}
use Rattle.bounds_model.specs.Ball.{Ball}
use Rattle.bounds_model.specs.Ranges.{IsNatural, IsFraction, IsPlaneRatio, IsSpaceRatio, point_limit}

-- the number of a point with its weight
pub record Weighted : Type 0 where
  pub point : ℕ
  pub weight : ℤ

-- a circle, and weighted points that determine it
pub record CircleAnswer : Type 0 where
  pub size : Fraction
  pub centre : PlaneRatio
  pub supports : List Weighted

-- a sphere, and weighted points that determine it
pub record SphereAnswer : Type 0 where
  pub size : Fraction
  pub centre : SpaceRatio
  pub supports : List Weighted

-- the circle with this centre and the size as its squared radius
abbrev pub circle_of : CircleAnswer → Ball
circle_of a = record { centre = flat_ratio a.centre; squared_radius = a.size }

-- the ball with this centre and the size as its squared radius
abbrev pub sphere_of : SphereAnswer → Ball
sphere_of a = record { centre = a.centre; squared_radius = a.size }

-- the numbers of a support are in their ranges
abbrev pub IsSupportInRange : Weighted → Type 0
IsSupportInRange s = (s.point ≤ point_limit) × IsNatural s.weight

-- all numbers are in their ranges
pub record CircleRanges (a : CircleAnswer) : Type 0 where
  pub size : IsFraction a.size
  pub centre : IsPlaneRatio a.centre
  pub count : HasCount 1 3 a.supports
  pub supports : All IsSupportInRange a.supports

-- all numbers are in their ranges
pub record SphereRanges (a : SphereAnswer) : Type 0 where
  pub size : IsFraction a.size
  pub centre : IsSpaceRatio a.centre
  pub count : HasCount 1 4 a.supports
  pub supports : All IsSupportInRange a.supports

-- the point of the first support
abbrev pub first_support : List SpacePoint → List Weighted → SpacePoint
first_support points [] = origin
first_support points (s ∷ rest) = point_at points s.point

-- the sum of the weights
abbrev pub weight_sum : List Weighted → ℤ
weight_sum supports = total (λ s. s.weight) supports

-- a point as seen from the first support
abbrev pub seen : List SpacePoint → List Weighted → SpacePoint → SpacePoint
seen points supports p = vector (first_support points supports) p

-- a support as seen from the first
abbrev pub seen_support : List SpacePoint → List Weighted → Weighted → SpacePoint
seen_support points supports s = seen points supports (point_at points s.point)

-- the pull, which is the moment of the supports as seen from the first
abbrev pub pull : List SpacePoint → List Weighted → SpacePoint
pull points supports = weighted_sum (λ s. s.weight) (seen_support points supports) supports

-- a support is on the sphere through the first one, around the weighted mean of the supports
abbrev pub IsOnBall : List SpacePoint → List Weighted → Weighted → Type 0
IsOnBall points supports s =
    pos 2 *ℤ dot (seen_support points supports s) (pull points supports) ≡ weight_sum supports *ℤ squared_length (seen_support points supports s)

-- a point is not outside that sphere
abbrev pub IsNotOutside : List SpacePoint → List Weighted → SpacePoint → Type 0
IsNotOutside points supports p =
    (weight_sum supports *ℤ squared_length (seen points supports p)) ≤ℤ (pos 2 *ℤ dot (seen points supports p) (pull points supports))

-- half the weighted mean of the squared distances from the first support
abbrev pub supported_size : List SpacePoint → List Weighted → Fraction
supported_size points supports = record {
  n = total (λ s. s.weight *ℤ squared_length (seen_support points supports s)) supports;
  d = pos 2 *ℤ weight_sum supports;
}

-- the weighted mean of the supports
abbrev pub supported_centre : List SpacePoint → List Weighted → SpaceRatio
supported_centre points supports =
    let sum = plus (times (weight_sum supports) (first_support points supports)) (pull points supports) in
    record { x = sum.x; y = sum.y; z = sum.z; w = weight_sum supports }

-- weighted points determine a ball
pub record IsBallWitness (limit : ℕ) (points : List SpacePoint) (ball : Ball) (supports : List Weighted) : Type 0 where
  pub weights : All (λ s. pos 1 ≤ℤ s.weight) supports
  pub weight_limit : weight_sum supports ≤ℤ pos limit
  pub on_ball : All (IsOnBall points supports) supports
  pub none_outside : All (IsNotOutside points supports) points
  pub size : SameValue ball.squared_radius (supported_size points supports)
  pub centre : SamePlace ball.centre (supported_centre points supports)

-- what a checker asks of a circle
pub record PassesCircle (points : List PlanePoint) (a : CircleAnswer) : Type 0 where
  pub ranges : CircleRanges a
  pub numbers : All (λ s. s.point < length points) a.supports
  pub witness : IsBallWitness (2 ^ 80) (map flat points) (circle_of a) a.supports

-- what a checker asks of a sphere
pub record PassesSphere (points : List SpacePoint) (a : SphereAnswer) : Type 0 where
  pub ranges : SphereRanges a
  pub numbers : All (λ s. s.point < length points) a.supports
  pub witness : IsBallWitness (2 ^ 92) points (sphere_of a) a.supports
