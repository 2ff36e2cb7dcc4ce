-- The in-circle and the in-sphere determinants, as sums over the points: each point's square times the area, or the volume, of the others.
use Rattle.std.proofs.Common.{◌≡◌, ℤ, pos, ◌+ℤ◌, ◌-ℤ◌, ◌*ℤ◌, [], ◌∷◌}
use Rattle.integers.specs.Determinants.{square2, square3, turn, volume, in_circle, in_sphere}
use Rattle.integers.proofs.Identities.{den-ring, read, polys, lits}

-- ---- in the plane

-- a turn can begin at any corner
pub turn_rotates : (ax ay bx by cx cy : ℤ) → turn ax ay bx by cx cy ≡ turn bx by cx cy ax ay
turn_rotates ax ay bx by cx cy = read (ax ∷ ay ∷ bx ∷ by ∷ cx ∷ cy ∷ []) (λ xs a b c d e f. simp (a, b, c, d, e, f, polys) (den-ring xs _ _ tt))

-- two corners exchanged turn the other way
pub turn_swaps : (ax ay bx by cx cy : ℤ) → turn ax ay cx cy bx by ≡ pos 0 -ℤ turn ax ay bx by cx cy
turn_swaps ax ay bx by cx cy = read (ax ∷ ay ∷ bx ∷ by ∷ cx ∷ cy ∷ []) (λ xs a b c d e f. simp (a, b, c, d, e, f, polys, lits xs) (den-ring xs _ _ tt))

-- the in-circle determinant is the sum of each point's square times the area of the other three
pub in_circle_sum : (ax ay bx by cx cy dx dy : ℤ)
    → in_circle ax ay bx by cx cy dx dy
    ≡ square2 ax ay *ℤ turn bx by cx cy dx dy
    -ℤ square2 bx by *ℤ turn ax ay cx cy dx dy
    +ℤ square2 cx cy *ℤ turn ax ay bx by dx dy
    -ℤ square2 dx dy *ℤ turn ax ay bx by cx cy
in_circle_sum ax ay bx by cx cy dx dy = read (ax ∷ ay ∷ bx ∷ by ∷ cx ∷ cy ∷ dx ∷ dy ∷ []) (λ xs a b c d e f g h. simp (a, b, c, d, e, f, g, h, polys) (den-ring xs _ _ tt))

-- ---- in space

-- the in-sphere determinant is the sum of each point's square times the volume of the other four
pub in_sphere_sum : (ax ay az bx by bz cx cy cz dx dy dz ex ey ez : ℤ)
    → in_sphere ax ay az bx by bz cx cy cz dx dy dz ex ey ez
    ≡ square3 ex ey ez *ℤ volume ax ay az bx by bz cx cy cz dx dy dz
    -ℤ square3 dx dy dz *ℤ volume ax ay az bx by bz cx cy cz ex ey ez
    +ℤ square3 cx cy cz *ℤ volume ax ay az bx by bz dx dy dz ex ey ez
    -ℤ square3 bx by bz *ℤ volume ax ay az cx cy cz dx dy dz ex ey ez
    +ℤ square3 ax ay az *ℤ volume bx by bz cx cy cz dx dy dz ex ey ez
in_sphere_sum ax ay az bx by bz cx cy cz dx dy dz ex ey ez = read (ax ∷ ay ∷ az ∷ bx ∷ by ∷ bz ∷ cx ∷ cy ∷ cz ∷ dx ∷ dy ∷ dz ∷ ex ∷ ey ∷ ez ∷ []) (λ xs a b c d e f g h i j k l m n o. simp (a, b, c, d, e, f, g, h, i, j, k, l, m, n, o, polys) (den-ring xs _ _ tt))
