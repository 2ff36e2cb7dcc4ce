-- What a checker asks of a list of corners: that they begin with the least point, and go once around the points.
use Rattle.std.specs.Prelude.{◌≡◌, ◌≢◌, ◌+◌, pos, ◌≤ℤ◌, ◌<ℤ◌, List, [], ◌∷◌, All, EachIndex}
use Rattle.bounds_model.specs.Plane.{PlanePoint, vector, cross, IsLeastPoint, IsGreatestPoint}
use Rattle.bounds_model.specs.Hull.{around}

-- a left turn at each corner around the circle, with all points to the left of each edge or on it
pub record GoAround (points corners : List PlanePoint) : Type 0 where
  pub left_turns : EachIndex corners (λ i. pos 0 <ℤ cross (vector (around corners i) (around corners (i + 1))) (vector (around corners (i + 1)) (around corners (i + 2))))
  pub all_left : EachIndex corners (λ i. All (λ p. pos 0 ≤ℤ cross (vector (around corners i) (around corners (i + 1))) (vector (around corners i) p)) points)

-- the second and last corner is the greatest point, and all points are on the line from the first to it
pub record LeadToGreatest (points : List PlanePoint) (a b : PlanePoint) : Type 0 where
  pub to_greatest : IsGreatestPoint points b
  pub on_line : All (λ p. cross (vector a b) (vector a p) ≡ pos 0) points

-- the corners surround all points: one is equal to all, two are the ends of a line, three or more go around
abbrev pub SurroundAll : List PlanePoint → List PlanePoint → Type 0
SurroundAll points [] = ⊥
SurroundAll points (a ∷ []) = All (λ p. p ≡ a) points
SurroundAll points (a ∷ b ∷ []) = LeadToGreatest points a b
SurroundAll points (a ∷ b ∷ c ∷ rest) = GoAround points (a ∷ b ∷ c ∷ rest)

-- no later element is equal to the first
abbrev pub FirstIsOnce : List PlanePoint → Type 0
FirstIsOnce [] = ⊥
FirstIsOnce (a ∷ rest) = All (λ c. c ≢ a) rest

-- what a checker asks of the corners that are listed
pub record CornersPass (points corners : List PlanePoint) : Type 0 where
  pub from_least : IsLeastPoint points (around corners 0)
  pub once : FirstIsOnce corners
  pub surround : SurroundAll points corners
