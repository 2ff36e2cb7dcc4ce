-- Corners that stay extreme while a direction turns from right to up, seen from one of the four sides.
use Rattle.std.specs.Prelude.{⊤, ◌≡◌, ◌⊎◌, ℕ, ◌+◌, pos, neg_ℤ, ◌≤ℤ◌, ◌<ℤ◌, List, length, All}
use Rattle.bounds_model.specs.Plane.{PlanePoint, dot}
use Rattle.bounds_model.specs.Hull.{around}
use Rattle.bounds_model.specs.PlainFans.{edge}
use Rattle.bounds_model.specs.Fans.{north}
use Rattle.hull_calipers.specs.declared.sides.Side.{Side}
use Rattle.hull_calipers.specs.declared.sides.Side.TheVariants.{Right, Top, Left, Bottom}

-- a vector as it is seen from a side
abbrev pub aligned : Side → PlanePoint → PlanePoint
aligned Right v = v
aligned Top v = record { x = v.y; y = neg_ℤ v.x }
aligned Left v = record { x = neg_ℤ v.x; y = neg_ℤ v.y }
aligned Bottom v = record { x = neg_ℤ v.y; y = v.x }

-- the vector that is seen so from a side
abbrev pub turned : Side → PlanePoint → PlanePoint
turned Right v = v
turned Top v = record { x = neg_ℤ v.y; y = v.x }
turned Left v = record { x = neg_ℤ v.x; y = neg_ℤ v.y }
turned Bottom v = record { x = v.y; y = neg_ℤ v.x }

-- the next side to the left
abbrev pub next_side : Side → Side
next_side Right = Top
next_side Top = Left
next_side Left = Bottom
next_side Bottom = Right

-- a side from which the next quarter turn goes on above
abbrev pub IsUpper : Side → Type 0
IsUpper Right = ⊤
IsUpper Top = ⊤
IsUpper Left = ⊥
IsUpper Bottom = ⊥

-- an edge of the hull, seen from a side
abbrev pub edge_from : List PlanePoint → Side → ℕ → PlanePoint
edge_from corners side i = aligned side (edge corners i)

-- no point is farther in this direction than c
abbrev pub IsHighest : List PlanePoint → PlanePoint → PlanePoint → Type 0
IsHighest points w c = All (λ p. dot w p ≤ℤ dot w c) points

-- a vector leads to the right, or straight up
abbrev pub IsAhead : PlanePoint → Type 0
IsAhead v = (pos 0 <ℤ v.x) ⊎ ((v.x ≡ pos 0) × (pos 0 <ℤ v.y))

-- a vector leads to the left, or straight down
abbrev pub IsBehind : PlanePoint → Type 0
IsBehind v = (v.x <ℤ pos 0) ⊎ ((v.x ≡ pos 0) × (v.y <ℤ pos 0))

-- the corner of this number is the last one that is extreme at a side: the edge from corner j to it does not lead back there, nor its own edge on
pub record StartsAt (corners : List PlanePoint) (side : Side) (i : ℕ) : Type 0 where
  pub before : (j : ℕ) → j + 1 ≡ i + length corners → IsBehind (edge_from corners side j) → ⊥
  pub after : IsAhead (edge_from corners side i) → ⊥

-- an edge to the left and upwards: the direction at right angles to it lies between right and up
abbrev pub IsWaiting : PlanePoint → Type 0
IsWaiting e = (e.x <ℤ pos 0) × (pos 0 <ℤ e.y)

-- the direction at right angles to an edge
abbrev pub normal : PlanePoint → PlanePoint
normal e = record { x = e.y; y = neg_ℤ e.x }

-- the corner of this number is extreme in a direction between right and up, and stays so until the direction is at right angles to its edge, or points up
pub record StaysExtreme (points corners : List PlanePoint) (side : Side) (d : PlanePoint) (i : ℕ) : Type 0 where
  pub here : IsHighest points (turned side d) (around corners i)
  pub waits : IsWaiting (edge_from corners side i) → dot d (edge_from corners side i) <ℤ pos 0
  pub done : (IsWaiting (edge_from corners side i) → ⊥) → IsHighest points (turned side north) (around corners i)
