-- Lagrange's identity, and Cauchy and Schwarz's inequality, in the plane and in space.
use Rattle.std.proofs.Common.{◌≡◌, ℤ, ◌+ℤ◌, ◌-ℤ◌, ◌*ℤ◌, ◌≤ℤ◌, [], ◌∷◌}
use Rattle.integers.proofs.Identities.{den-ring, read, polys}
use Rattle.integers.proofs.Order.{nonneg_add, square_nonneg, le_by}

-- ---- in the plane

-- |u|² |v|² is the square of the dot product and that of the cross product
pub lagrange_plane : (ux uy vx vy : ℤ) → (ux *ℤ ux +ℤ uy *ℤ uy) *ℤ (vx *ℤ vx +ℤ vy *ℤ vy) ≡ (ux *ℤ vx +ℤ uy *ℤ vy) *ℤ (ux *ℤ vx +ℤ uy *ℤ vy) +ℤ (ux *ℤ vy -ℤ uy *ℤ vx) *ℤ (ux *ℤ vy -ℤ uy *ℤ vx)
lagrange_plane ux uy vx vy = read (ux ∷ uy ∷ vx ∷ vy ∷ []) (λ xs a b c d. simp (a, b, c, d, polys) (den-ring xs _ _ tt))

-- the square of the dot product is at most |u|² |v|²
pub cauchy_schwarz_plane : (ux uy vx vy : ℤ) → ((ux *ℤ vx +ℤ uy *ℤ vy) *ℤ (ux *ℤ vx +ℤ uy *ℤ vy)) ≤ℤ ((ux *ℤ ux +ℤ uy *ℤ uy) *ℤ (vx *ℤ vx +ℤ vy *ℤ vy))
cauchy_schwarz_plane ux uy vx vy = le_by (square_nonneg (ux *ℤ vy -ℤ uy *ℤ vx)) (read (ux ∷ uy ∷ vx ∷ vy ∷ []) (λ xs a b c d. simp (a, b, c, d, polys) (den-ring xs _ _ tt)))

-- ---- in space

-- the square of the dot product is at most |u|² |v|²
pub cauchy_schwarz_space : (ux uy uz vx vy vz : ℤ) → ((ux *ℤ vx +ℤ uy *ℤ vy +ℤ uz *ℤ vz) *ℤ (ux *ℤ vx +ℤ uy *ℤ vy +ℤ uz *ℤ vz)) ≤ℤ ((ux *ℤ ux +ℤ uy *ℤ uy +ℤ uz *ℤ uz) *ℤ (vx *ℤ vx +ℤ vy *ℤ vy +ℤ vz *ℤ vz))
cauchy_schwarz_space ux uy uz vx vy vz =
    le_by
    (nonneg_add (nonneg_add (square_nonneg (uy *ℤ vz -ℤ uz *ℤ vy)) (square_nonneg (uz *ℤ vx -ℤ ux *ℤ vz))) (square_nonneg (ux *ℤ vy -ℤ uy *ℤ vx)))
    (read (ux ∷ uy ∷ uz ∷ vx ∷ vy ∷ vz ∷ []) (λ xs a b c d e f. simp (a, b, c, d, e, f, polys) (den-ring xs _ _ tt)))
