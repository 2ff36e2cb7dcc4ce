-- Four points in turning order: if the last is at least as far from the first as the third is, it is farther from the second than the third is.
use Rattle.std.proofs.Common.{◌≡◌, sym, subst, ℤ, pos, ◌+ℤ◌, ◌-ℤ◌, ◌*ℤ◌, ◌≤ℤ◌, ◌<ℤ◌, [], ◌∷◌, arith}
use Rattle.std.proofs.lemmas.Int.{ints, by_lt_z}
use Rattle.integers.proofs.Identities.{den-ring, read, polys, lits}
use Rattle.integers.proofs.Order.{positive_mul, nonneg_mul, positive_add, square_nonneg, zero_of_square, le_from_lt, nonneg_difference, positive_of_mul, positive-not_zero, combine2}
use Rattle.bounds_model.specs.Plane.{PlanePoint, turn, squared_distance}

-- twice the areas of the four triangles are weights under which the points balance, and the excess of one distance over another balances too
balance : (a b c d : PlanePoint) → turn a c d *ℤ (squared_distance b d -ℤ squared_distance b c)
    ≡ (turn a b d +ℤ turn a b c) *ℤ squared_distance c d +ℤ turn b c d *ℤ (squared_distance a d -ℤ squared_distance a c)
balance a b c d =
    read (a.x ∷ a.y ∷ b.x ∷ b.y ∷ c.x ∷ c.y ∷ d.x ∷ d.y ∷ []) (λ xs p q r s t u v w. simp (p, q, r, s, t, u, v, w, polys) (den-ring xs _ _ tt))

-- points over which a way turns are apart
pub apart_by_turn : (b c d : PlanePoint) → pos 0 <ℤ turn b c d → pos 0 <ℤ squared_distance c d
apart_by_turn b c d h = by_lt_z (pos 0) (squared_distance c d) (λ l. l)
    (λ m. absurd (positive-not_zero h (flat b.x b.y c.x c.y d.x d.y (zero_of_square (d.x -ℤ c.x) (first_part (square_nonneg (d.y -ℤ c.y)) m))
    (zero_of_square (d.y -ℤ c.y) (second_part (square_nonneg (d.x -ℤ c.x)) m)))))
  where
    flat : (bx by cx cy dx dy : ℤ) → dx -ℤ cx ≡ pos 0 → dy -ℤ cy ≡ pos 0 → (cx -ℤ bx) *ℤ (dy -ℤ by) -ℤ (cy -ℤ by) *ℤ (dx -ℤ bx) ≡ pos 0
    flat bx by cx cy dx dy e f = combine2 (by -ℤ cy) (cx -ℤ bx) e f (read (bx ∷ by ∷ cx ∷ cy ∷ dx ∷ dy ∷ []) (λ xs a b c d e f. simp (a, b, c, d, e, f, polys, lits xs) (den-ring xs _ _ tt)))

    first_part : {a b : ℤ} → pos 0 ≤ℤ b → (a +ℤ b) ≤ℤ pos 0 → a ≤ℤ pos 0
    first_part h k = omega (arith, ints)

    second_part : {a b : ℤ} → pos 0 ≤ℤ a → (a +ℤ b) ≤ℤ pos 0 → b ≤ℤ pos 0
    second_part h k = omega (arith, ints)

-- so crossing pairs are far apart
pub farther_from_second : (a b c d : PlanePoint) → pos 0 <ℤ turn a b c → pos 0 <ℤ turn a b d → pos 0 <ℤ turn a c d → pos 0 <ℤ turn b c d → squared_distance a c ≤ℤ squared_distance a d
    → squared_distance b c <ℤ squared_distance b d
farther_from_second a b c d abc abd acd bcd far =
    less (squared_distance b c) (squared_distance b d)
    (positive_of_mul (turn a c d) (le_from_lt acd) (subst (λ z. pos 0 <ℤ z) (sym (balance a b c d))
    (positive_add (positive_mul (positive_add abd (le_from_lt abc)) (apart_by_turn b c d bcd)) (nonneg_mul (le_from_lt bcd) (nonneg_difference far)))))
  where
    less : (x y : ℤ) → pos 0 <ℤ (y -ℤ x) → x <ℤ y
    less x y h = omega (arith, ints)
