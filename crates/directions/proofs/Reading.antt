-- What is computed from the points of a cloud, by their numbers.
use Rattle.std.proofs.Common.{◌≡◌, sym, ◌∙◌, ap, ap₂, ℕ, ℤ, ◌+ℤ◌, ◌-ℤ◌, ◌*ℤ◌, List, [], ◌∷◌, Some}
use Rattle.std.specs.Prelude.{slice_get}
use Rattle.std.proofs.lemmas.Option.{get_or_from_slice_get}
use Rattle.integers.proofs.Identities.{den-ring, read, polys}
use Rattle.bounds_model.specs.Plane.{PlanePoint, origin, point_at, dot}
use Rattle.bounds_model.specs.Fans.{reach}

-- a reach is a difference of two products
pub reach_parts : (points : List PlanePoint) (d : PlanePoint) (high low : ℕ) → reach points d high low ≡ dot d (point_at points high) -ℤ dot d (point_at points low)
reach_parts points d high low = plain d.x d.y (point_at points low).x (point_at points low).y (point_at points high).x (point_at points high).y
  where
    plain : (dx dy px py qx qy : ℤ) → dx *ℤ (qx -ℤ px) +ℤ dy *ℤ (qy -ℤ py) ≡ (dx *ℤ qx +ℤ dy *ℤ qy) -ℤ (dx *ℤ px +ℤ dy *ℤ py)
    plain dx dy px py qx qy = read (dx ∷ dy ∷ px ∷ py ∷ qx ∷ qy ∷ []) (λ xs a b c d e f. simp (a, b, c, d, e, f, polys) (den-ring xs _ _ tt))

-- the point of this number
pub point_is : (points : List PlanePoint) (i : ℕ) (p : PlanePoint) → slice_get points i ≡ Some p → point_at points i ≡ p
point_is points i p h = get_or_from_slice_get points i p origin h

-- a reach, from two products
pub reach_is : (points : List PlanePoint) (d : PlanePoint) (high low : ℕ) (p q : PlanePoint) (x y : ℤ) → slice_get points high ≡ Some p → slice_get points low ≡ Some q → x ≡ dot d p → y ≡ dot d q → x -ℤ y ≡ reach points d high low
reach_is points d high low p q x y hp hq hx hy =
    ap₂ (λ u v. u -ℤ v) (hx ∙ ap (dot d) (sym (point_is points high p hp))) (hy ∙ ap (dot d) (sym (point_is points low q hq)))
    ∙ sym (reach_parts points d high low)
