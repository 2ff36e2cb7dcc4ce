-- Which points the square in a corner of the bounding box holds.
use Rattle.std.proofs.Common.{◌≡◌, ℕ, ℤ, pos, ◌+ℤ◌, ◌-ℤ◌, ◌≤ℤ◌, true, List, arith}
use Rattle.std.specs.Prelude.{Contains}
use Rattle.std.proofs.lemmas.Int.{ints}
use Rattle.std.proofs.lemmas.List.Elements.{All-contains}
use Rattle.integers.specs.Extremes.{greatest, least}
use Rattle.integers.proofs.Extremes.{below_greatest, above_least}
use Rattle.bounds_model.specs.Plane.{PlanePoint}
use Rattle.bounds_model.specs.CentresAnswer.{Square, contains, corner_square}
use Rattle.model_laws.proofs.Decisions.{both, most_ℤ}

-- the x of a point
abbrev pub x_of : PlanePoint → ℤ
x_of p = p.x

-- and the vertical one
abbrev pub y_of : PlanePoint → ℤ
y_of p = p.y

-- along a coordinate, the point lies within a side above the least value
pub record IsAtLowEnd (side : ℕ) (f : PlanePoint → ℤ) (ps : List PlanePoint) (p : PlanePoint) : Type 0 where
  pub from : least f ps ≤ℤ f p
  pub to : f p ≤ℤ (least f ps +ℤ pos side)

-- the point lies within a side below the greatest value
pub record IsAtHighEnd (side : ℕ) (f : PlanePoint → ℤ) (ps : List PlanePoint) (p : PlanePoint) : Type 0 where
  pub from : (greatest f ps -ℤ pos side) ≤ℤ f p
  pub to : f p ≤ℤ ((greatest f ps -ℤ pos side) +ℤ pos side)

-- no more than a side above a lowest point
pub near_lowest : (side : ℕ) (f : PlanePoint → ℤ) (ps : List PlanePoint) (p lowest : PlanePoint) → Contains ps p → least f ps ≡ f lowest → (f p -ℤ f lowest) ≤ℤ pos side → IsAtLowEnd side f ps p
near_lowest side f ps p lowest listed e h = record { from = All-contains (λ q. least f ps ≤ℤ f q) ps p (above_least f ps) listed; to = up (f p) (f lowest) (least f ps) e h }
  where
    up : (v e l : ℤ) → l ≡ e → (v -ℤ e) ≤ℤ pos side → v ≤ℤ (l +ℤ pos side)
    up v e l h k = omega (arith, ints)

-- no more than a side below a highest point
pub near_highest : (side : ℕ) (f : PlanePoint → ℤ) (ps : List PlanePoint) (p highest : PlanePoint) → Contains ps p → greatest f ps ≡ f highest → (f highest -ℤ f p) ≤ℤ pos side → IsAtHighEnd side f ps p
near_highest side f ps p highest listed e h = record { from = down (f p) (f highest) (greatest f ps) e h; to = same (f p) (greatest f ps) (All-contains (λ q. f q ≤ℤ greatest f ps) ps p (below_greatest f ps) listed) }
  where
    down : (v e g : ℤ) → g ≡ e → (e -ℤ v) ≤ℤ pos side → (g -ℤ pos side) ≤ℤ v
    down v e g h k = omega (arith, ints)

    same : (v g : ℤ) → v ≤ℤ g → v ≤ℤ ((g -ℤ pos side) +ℤ pos side)
    same v g h = omega (arith, ints)

-- where a highest and a lowest point are within a side of each other, so is each point of the lowest
pub within_a_side : (side : ℕ) (f : PlanePoint → ℤ) (ps : List PlanePoint) (p lowest highest : PlanePoint) → Contains ps p → least f ps ≡ f lowest → greatest f ps ≡ f highest → (f highest -ℤ f lowest) ≤ℤ pos side → IsAtLowEnd side f ps p
within_a_side side f ps p lowest highest listed e g h = near_lowest side f ps p lowest listed e (less (f p) (greatest f ps) (f lowest) (f highest) g (All-contains (λ q. f q ≤ℤ greatest f ps) ps p (below_greatest f ps) listed) h)
  where
    less : (v g l h : ℤ) → g ≡ h → v ≤ℤ g → (h -ℤ l) ≤ℤ pos side → (v -ℤ l) ≤ℤ pos side
    less v g l h e k m = omega (arith, ints)

-- a square holds what lies between its sides
contained : (s : Square) (p : PlanePoint) → s.left ≤ℤ p.x → p.x ≤ℤ (s.left +ℤ pos s.side) → s.bottom ≤ℤ p.y → p.y ≤ℤ (s.bottom +ℤ pos s.side) → contains s p ≡ true
contained s p l r b t = (both (both (both (most_ℤ s.left p.x) (most_ℤ p.x (s.left +ℤ pos s.side))) (most_ℤ s.bottom p.y)) (most_ℤ p.y (s.bottom +ℤ pos s.side))).law.1 (((l, r), b), t)

-- the square in the lower left corner holds what is at the low end both ways
pub lower_left : (side : ℕ) (ps : List PlanePoint) (p : PlanePoint) → IsAtLowEnd side x_of ps p → IsAtLowEnd side y_of ps p → contains (corner_square side 0 ps) p ≡ true
lower_left side ps p h k = contained (corner_square side 0 ps) p h.from h.to k.from k.to

-- the lower right one
pub lower_right : (side : ℕ) (ps : List PlanePoint) (p : PlanePoint) → IsAtHighEnd side x_of ps p → IsAtLowEnd side y_of ps p → contains (corner_square side 1 ps) p ≡ true
lower_right side ps p h k = contained (corner_square side 1 ps) p h.from h.to k.from k.to

-- the upper left one
pub upper_left : (side : ℕ) (ps : List PlanePoint) (p : PlanePoint) → IsAtLowEnd side x_of ps p → IsAtHighEnd side y_of ps p → contains (corner_square side 2 ps) p ≡ true
upper_left side ps p h k = contained (corner_square side 2 ps) p h.from h.to k.from k.to

-- and the upper right one
pub upper_right : (side : ℕ) (ps : List PlanePoint) (p : PlanePoint) → IsAtHighEnd side x_of ps p → IsAtHighEnd side y_of ps p → contains (corner_square side 3 ps) p ≡ true
upper_right side ps p h k = contained (corner_square side 3 ps) p h.from h.to k.from k.to
