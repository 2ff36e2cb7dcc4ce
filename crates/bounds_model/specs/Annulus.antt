-- Annuli between two circles with one centre.
use Rattle.std.specs.Prelude.{ℤ, pos, ◌-ℤ◌, ◌*ℤ◌, ◌≤ℤ◌, List, All}
use Rattle.bounds_model.specs.Plane.{PlanePoint, PlaneRatio, vector, times, squared_length}
use Rattle.bounds_model.specs.Fractions.{Fraction, IsNotNegative}

-- a centre, and an inner and an outer radius, each times itself
pub record Annulus : Type 0 where
  pub centre : PlaneRatio
  pub inner : Fraction
  pub outer : Fraction

-- w times the distance from the centre, times itself
abbrev pub squared_distance : PlaneRatio → PlanePoint → ℤ
squared_distance c p = squared_length (vector (record { x = c.x; y = c.y }) (times c.w p))

-- the point is at least the inner radius away, and at most the outer one
pub record IsInAnnulus (annulus : Annulus) (p : PlanePoint) : Type 0 where
  pub outside_inner : (annulus.inner.n *ℤ (annulus.centre.w *ℤ annulus.centre.w)) ≤ℤ (annulus.inner.d *ℤ squared_distance annulus.centre p)
  pub inside_outer : (annulus.outer.d *ℤ squared_distance annulus.centre p) ≤ℤ (annulus.outer.n *ℤ (annulus.centre.w *ℤ annulus.centre.w))

-- all points are in the annulus
pub record FitsAnnulus (points : List PlanePoint) (annulus : Annulus) : Type 0 where
  pub denominator : pos 1 ≤ℤ annulus.centre.w
  pub inner : IsNotNegative annulus.inner
  pub outer : IsNotNegative annulus.outer
  pub inside : All (IsInAnnulus annulus) points

-- the difference of the squared radii
abbrev pub annulus_size : Annulus → Fraction
annulus_size annulus = record {
  n = annulus.outer.n *ℤ annulus.inner.d -ℤ annulus.inner.n *ℤ annulus.outer.d;
  d = annulus.outer.d *ℤ annulus.inner.d;
}
