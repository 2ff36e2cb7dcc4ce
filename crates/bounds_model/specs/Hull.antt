-- The corners of the convex hull of points.
use Rattle.std.specs.Prelude.{◌≡◌, ◌≢◌, ℕ, ◌+◌, ◌%◌, pos, ◌≤ℤ◌, ◌<ℤ◌, List, [], ◌∷◌, length, All, AllPairs, Contains, EachIndex}
use Rattle.bounds_model.specs.Plane.{PlanePoint, point_at, turn, IsLeastPoint, IsGreatestPoint}

-- the corner of this number, counted around the circle
abbrev pub around : List PlanePoint → ℕ → PlanePoint
around corners i = point_at corners (i % length corners)

-- three or more corners without repeats, from the least point on, each with a left turn, with all points to the left of each edge or on it
pub record AreCornerCycle (points corners : List PlanePoint) : Type 0 where
  pub listed : All (Contains points) corners
  pub from_least : IsLeastPoint points (around corners 0)
  pub distinct : AllPairs (λ a b. a ≢ b) corners
  pub left_turns : EachIndex corners (λ i. pos 0 <ℤ turn (around corners i) (around corners (i + 1)) (around corners (i + 2)))
  pub inside : EachIndex corners (λ i. All (λ p. pos 0 ≤ℤ turn (around corners i) (around corners (i + 1)) p) points)

-- the two ends of points on one line
pub record AreEnds (points : List PlanePoint) (a b : PlanePoint) : Type 0 where
  pub from_least : IsLeastPoint points a
  pub to_greatest : IsGreatestPoint points b
  pub distinct : a ≢ b
  pub on_line : All (λ p. turn a b p ≡ pos 0) points

-- the one point that all points are
pub record IsOnlyPoint (points : List PlanePoint) (a : PlanePoint) : Type 0 where
  pub listed : Contains points a
  pub only : All (λ p. p ≡ a) points

-- the corners of the hull, counterclockwise from the least point
abbrev pub AreCorners : List PlanePoint → List PlanePoint → Type 0
AreCorners points [] = ⊥
AreCorners points (a ∷ []) = IsOnlyPoint points a
AreCorners points (a ∷ b ∷ []) = AreEnds points a b
AreCorners points (a ∷ b ∷ c ∷ rest) = AreCornerCycle points (a ∷ b ∷ c ∷ rest)
