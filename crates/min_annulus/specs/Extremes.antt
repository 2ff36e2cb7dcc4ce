-- The greatest and the least value of a form.
use Rattle.std.specs.Prelude.{List, length}
use Rattle.bounds_model.specs.Numbers.{EachBelow}
use Rattle.bounds_model.specs.Plane.{PlanePoint, point_at, IsInPlane}
use Rattle.min_annulus.specs.declared.linear_forms.LinearForm.{LinearForm}
use Rattle.min_annulus.specs.LinearForms.{level}
use Rattle.pair_weights.specs.declared.extremes.Extremes.{Extremes}
use Rattle.pair_weights.specs.Extremes.{AreExtremes}

-- the greatest and the least value of a form at the points
abbrev pub AreExtremesOf : List PlanePoint → LinearForm → Extremes → Type 0
AreExtremesOf points form e = AreExtremes (λ i. level form (point_at points i)) (length points) e

-- all points are in bounds
abbrev pub AreInPlane : List PlanePoint → Type 0
AreInPlane points = EachBelow (length points) (λ i. IsInPlane (point_at points i))
