-- The corner lemma for four squares: the one over the least point can stand with its left side at that point, and its lower side at a height.
-- The lowest point of its colour gives the height, and the square there holds all points of that colour.
use Rattle.std.proofs.Common.{◌≡◌, inl, inr, refl, sym, ◌∙◌, subst, ℕ, suc, ◌<◌, ℤ, pos, ◌+ℤ◌, ◌-ℤ◌, ◌≤ℤ◌, ◌<ℤ◌, true, List, length, arith}
use Rattle.std.proofs.lemmas.Int.{ints}
use Rattle.std.proofs.lemmas.List.{get_or_default}
use Rattle.bounds_model.specs.Plane.{PlanePoint, point_at, origin, IsBefore, IsLeastPoint}
use Rattle.bounds_model.specs.CentresAnswer.{Square, contains, outside}
use Rattle.model_laws.proofs.Decisions.{both, most_ℤ}
use Rattle.optimality.proofs.Colours.{Colouring, IsColoured, without_one}
use Rattle.bounds_model.specs.FourAnswer.{first_square, IsHeight}
use Rattle.optimality.proofs.NumberedColours.{HasColours, HasLowest, lowest_or_none, listed_is, colour_of, coloured_by_number}

-- a square holds what lies between its sides
contained : (s : Square) (p : PlanePoint) → s.left ≤ℤ p.x → p.x ≤ℤ (s.left +ℤ pos s.side) → s.bottom ≤ℤ p.y → p.y ≤ℤ (s.bottom +ℤ pos s.side) → contains s p ≡ true
contained s p l r b t = (both (both (both (most_ℤ s.left p.x) (most_ℤ p.x (s.left +ℤ pos s.side))) (most_ℤ s.bottom p.y)) (most_ℤ p.y (s.bottom +ℤ pos s.side))).law.1 (((l, r), b), t)

-- at some height the first square leaves one colour fewer
pub record HasFirst (side c : ℕ) (points : List PlanePoint) (least : PlanePoint) : Type 0 where
  pub height : ℤ
  pub is_height : IsHeight side least points height
  pub colour : Colouring (outside (first_square side least height) points)
  pub coloured : IsColoured side c (outside (first_square side least height) points) colour

up_to : (a b : ℤ) (side : ℕ) → (a -ℤ b) ≤ℤ pos side → a ≤ℤ (b +ℤ pos side)
up_to a b side h = omega (arith, ints, h)

down_to : (a b : ℤ) (side : ℕ) → (a -ℤ b) ≤ℤ pos side → (a -ℤ pos side) ≤ℤ b
down_to a b side h = omega (arith, ints, h)

-- the least point is the leftmost
leftmost : (a b : PlanePoint) → IsBefore a b → a.x ≤ℤ b.x
leftmost a b before = elim before [ inl l ↦ less a.x b.x l | inr e ↦ same a.x b.x e.0 ]
  where
    less : (a b : ℤ) → a <ℤ b → a ≤ℤ b
    less a b h = omega (arith, ints, h)

    same : (a b : ℤ) → a ≡ b → a ≤ℤ b
    same a b h = omega (arith, ints, h)

-- it is at the lowest point of the least point's colour
pub first_of_colours : (side c : ℕ) (points : List PlanePoint) (least : PlanePoint) → IsLeastPoint points least → HasColours side (suc c) points → HasFirst side c points least
first_of_colours side c points least is_least h = elim (lowest_or_none h.colour (λ k. (point_at points k).y) (h.colour first) (length points)) [
  | inl low ↦ at low
  | inr none ↦ absurd (none first first_below refl)
]
  where
    first : ℕ
    first = is_least.listed.0

    first_below : first < length points
    first_below = is_least.listed.1

    first_is : point_at points first ≡ least
    first_is = get_or_default points first origin least first_below ∙ is_least.listed.2

    at : HasLowest h.colour (λ k. (point_at points k).y) (h.colour first) (length points) → HasFirst side c points least
    at low = record { height = height; is_height = is_height; colour = fewer.0; coloured = fewer.1 }
      where
        height : ℤ
        height = (point_at points low.number).y

        is_height : IsHeight side least points height
        is_height = record {
          from = subst (λ p. (p.y -ℤ pos side) ≤ℤ height) first_is (down_to (point_at points first).y height side (h.near first low.number first_below low.below (sym low.has)).in_y);
          to = subst (λ p. height ≤ℤ p.y) first_is (low.least first first_below refl);
          meets = (low.number, point_at points low.number, low.below, get_or_default points low.number (point_at points low.number) origin low.below, refl);
        }

        fills : (k : ℕ) → k < length points → h.colour k ≡ h.colour first → contains (first_square side least height) (point_at points k) ≡ true
        fills k below e = contained (first_square side least height) (point_at points k)
            (leftmost least (point_at points k) (is_least.least k origin below))
            (subst (λ p. (point_at points k).x ≤ℤ (p.x +ℤ pos side)) first_is (up_to (point_at points k).x (point_at points first).x side (h.near k first below first_below e).in_x))
            (low.least k below e)
            (up_to (point_at points k).y height side (h.near k low.number below low.below (e ∙ sym low.has)).in_y)

        fewer : (colour : Colouring (outside (first_square side least height) points)) × IsColoured side c (outside (first_square side least height) points) colour
        fewer = without_one side c points (first_square side least height) (colour_of h) (coloured_by_number side (suc c) points h) (h.colour first) (h.below first first_below)
            (λ p m e. subst (λ q. contains (first_square side least height) q ≡ true) (listed_is points p m) (fills m.0 m.1 e))
