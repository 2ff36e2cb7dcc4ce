-- Linear forms on lifted points (p, |p|²).
use Rattle.std.specs.Prelude.{◌^◌, ℤ, pos, ◌+ℤ◌, ◌-ℤ◌, ◌*ℤ◌, neg_ℤ}
use Rattle.integers.specs.Size.{Size}
use Rattle.bounds_model.specs.Plane.{PlanePoint, PlaneRatio, squared_length, dot}
use Rattle.bounds_model.specs.Fractions.{Fraction}
use Rattle.min_annulus.specs.declared.difference_vectors.DifferenceVector.{DifferenceVector}
use Rattle.min_annulus.specs.declared.linear_forms.LinearForm.{LinearForm}
use Rattle.min_annulus.specs.DifferenceVectors.{area}

-- how large its numbers are
pub record IsLinearForm (f : LinearForm) : Type 0 where
  pub x : Size (2 ^ 58) f.x
  pub y : Size (2 ^ 58) f.y
  pub w : Size (2 ^ 41) f.w

-- the value at a point
abbrev pub level : LinearForm → PlanePoint → ℤ
level f p = f.w *ℤ squared_length p -ℤ dot (record { x = f.x; y = f.y }) p

-- the value at a pair's first point less that at its second
abbrev pub rise : LinearForm → DifferenceVector → ℤ
rise f d = f.w *ℤ d.lift -ℤ (f.x *ℤ d.x +ℤ f.y *ℤ d.y)

-- a form that has one value at three pairs
abbrev pub form_through : DifferenceVector → DifferenceVector → DifferenceVector → LinearForm
form_through a b c = record {
  x = (b.lift -ℤ a.lift) *ℤ (c.y -ℤ a.y) -ℤ (c.lift -ℤ a.lift) *ℤ (b.y -ℤ a.y);
  y = (b.x -ℤ a.x) *ℤ (c.lift -ℤ a.lift) -ℤ (c.x -ℤ a.x) *ℤ (b.lift -ℤ a.lift);
  w = area a b c;
}

-- the centre: the form has one value on each circle around it
abbrev pub centre_of : LinearForm → PlaneRatio
centre_of f = record { x = f.x; y = f.y; w = pos 2 *ℤ f.w }

-- a point's squared distance from the centre
abbrev pub squared_radius_of : LinearForm → PlanePoint → Fraction
squared_radius_of f p = record {
  n = squared_length (record { x = pos 2 *ℤ f.w *ℤ p.x -ℤ f.x; y = pos 2 *ℤ f.w *ℤ p.y -ℤ f.y });
  d = (pos 2 *ℤ f.w) *ℤ (pos 2 *ℤ f.w);
}

-- how far a point is to the right, and among points as far how far up
abbrev pub order_form : LinearForm
order_form = record { x = neg_ℤ (pos (2 ^ 19)); y = neg_ℤ (pos 1); w = pos 0 }

-- how far a point is to the left of a direction
abbrev pub across_form : DifferenceVector → LinearForm
across_form e = record { x = e.y; y = neg_ℤ e.x; w = pos 0 }

-- the form whose centre is the middle between two points
abbrev pub middle_form : PlanePoint → PlanePoint → LinearForm
middle_form a b = record { x = a.x +ℤ b.x; y = a.y +ℤ b.y; w = pos 1 }
