-- Turns of three points of the plane.
use Rattle.std.proofs.Common.{◌≡◌, ℤ, ◌-ℤ◌, ◌*ℤ◌, [], ◌∷◌}
use Rattle.integers.proofs.Identities.{den-ring, read, polys}
use Rattle.bounds_model.specs.Plane.{PlanePoint, vector, cross, turn}

-- a left turn, from the corner or from the edge before it
pub turn_along : (a b c : PlanePoint) → turn a b c ≡ cross (vector a b) (vector b c)
turn_along a b c = identity a.x a.y b.x b.y c.x c.y
  where
    identity : (p q r s t u : ℤ) → (r -ℤ p) *ℤ (u -ℤ q) -ℤ (s -ℤ q) *ℤ (t -ℤ p) ≡ (r -ℤ p) *ℤ (u -ℤ s) -ℤ (s -ℤ q) *ℤ (t -ℤ r)
    identity p q r s t u = read (p ∷ q ∷ r ∷ s ∷ t ∷ u ∷ []) (λ xs a b c d e f. simp (a, b, c, d, e, f, polys) (den-ring xs _ _ tt))
