-- Balls around points of space, and circles around points of the plane.
use Rattle.std.specs.Prelude.{◌≡◌, pos, ◌*ℤ◌, ◌≤ℤ◌, List, All, map}
use Rattle.bounds_model.specs.Plane.{PlanePoint}
use Rattle.bounds_model.specs.Space.{SpacePoint, SpaceRatio, vector, times, squared_length, entries, flat}
use Rattle.bounds_model.specs.Fractions.{Fraction, IsNotNegative}

-- a centre, and the radius times itself
pub record Ball : Type 0 where
  pub centre : SpaceRatio
  pub squared_radius : Fraction

-- the point is no farther from the centre than the radius
abbrev pub IsInBall : Ball → SpacePoint → Type 0
IsInBall ball p =
    let far = squared_length (vector (entries ball.centre) (times ball.centre.w p)) in
    (ball.squared_radius.d *ℤ far) ≤ℤ (ball.squared_radius.n *ℤ (ball.centre.w *ℤ ball.centre.w))

-- all points are in the ball
pub record FitsBall (points : List SpacePoint) (ball : Ball) : Type 0 where
  pub denominator : pos 1 ≤ℤ ball.centre.w
  pub radius : IsNotNegative ball.squared_radius
  pub inside : All (IsInBall ball) points

-- a circle is a ball around points of the plane with its centre in the plane
pub record FitsCircle (points : List PlanePoint) (circle : Ball) : Type 0 where
  pub in_plane : circle.centre.z ≡ pos 0
  pub ball : FitsBall (map flat points) circle

-- the squared radius
abbrev pub ball_size : Ball → Fraction
ball_size ball = ball.squared_radius
