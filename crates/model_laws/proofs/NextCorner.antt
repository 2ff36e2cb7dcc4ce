-- After a corner of the hull only one point can come next.
use Rattle.std.proofs.Common.{◌≡◌, ◌≢◌, sym, ap, subst, ℤ, pos, negsuc, neg_ℤ, ◌+ℤ◌, ◌-ℤ◌, ◌*ℤ◌, ◌≤ℤ◌, ◌<ℤ◌, [], ◌∷◌, arith}
use mathlib.Core.Logic.{inl, inr}
use Rattle.std.specs.Prelude.{List, All, Contains}
use Rattle.std.proofs.lemmas.Int.{ints, by_lt_z}
use Rattle.std.proofs.lemmas.List.Elements.{All-contains}
use Rattle.integers.proofs.Identities.{den-ring, read, polys, lits, below_lits}
use Rattle.integers.proofs.Order.{nonneg_mul, nonneg_add, positive_mul, positive_add, square_nonneg, nonneg_of_mul, le_from_lt, le_by, le_of_mul_le, nonneg_difference, combine1, combine2, zero_of_square, positive-not_zero, positive_of_mul}
use Rattle.bounds_model.specs.Plane.{PlanePoint, vector, dot, squared_length, cross, turn, IsBefore, IsLeastPoint}
use Rattle.model_laws.proofs.Turning.{IsAhead, ahead_of_before, between_turns, edge_turn}

-- v on the line of u, by its product with u
along_line : (ux uy vx vy wx wy : ℤ) → ux *ℤ vy -ℤ uy *ℤ vx ≡ pos 0 → (ux *ℤ ux +ℤ uy *ℤ uy) *ℤ (wx *ℤ vy -ℤ wy *ℤ vx) ≡ (wx *ℤ uy -ℤ wy *ℤ ux) *ℤ (ux *ℤ vx +ℤ uy *ℤ vy)
along_line ux uy vx vy wx wy e =
    combine1 (wx *ℤ ux +ℤ wy *ℤ uy) e (read (ux ∷ uy ∷ vx ∷ vy ∷ wx ∷ wy ∷ []) (λ xs a b c d e f. simp (a, b, c, d, e, f, polys, lits xs) (den-ring xs _ _ tt)))

-- u and v on a line point the same way where a third vector turns left to both
pub same_way_by_turn : (u v w : PlanePoint) → cross u v ≡ pos 0 → pos 0 <ℤ squared_length u → pos 0 <ℤ cross w u → pos 0 <ℤ cross w v → pos 0 <ℤ dot u v
same_way_by_turn u v w e long p q = positive_of_mul (cross w u) (le_from_lt p) (subst (λ z. pos 0 <ℤ z) (along_line u.x u.y v.x v.y w.x w.y e) (positive_mul long q))

-- or where both point ahead
pub same_way_ahead : (u v : PlanePoint) → cross u v ≡ pos 0 → IsAhead u → IsAhead v → pos 0 <ℤ dot u v
same_way_ahead u v e hu hv =
    elim hu [
      | inl right ↦ elim hv [ inl r ↦ both_right u.x u.y v.x v.y e right r | inr t ↦ absurd (right_and_up u.x u.y v.x v.y e right t.0 t.1) ]
      | inr up ↦ elim hv [ inl r ↦ absurd (right_and_up v.x v.y u.x u.y (mirrored u.x u.y v.x v.y e) r up.0 up.1) | inr t ↦ both_up u.x u.y v.x v.y up.0 t.0 up.1 t.1 ]
    ]
  where
    mirrored : (ux uy vx vy : ℤ) → ux *ℤ vy -ℤ uy *ℤ vx ≡ pos 0 → vx *ℤ uy -ℤ vy *ℤ ux ≡ pos 0
    mirrored ux uy vx vy e = combine1 (negsuc 0) e (read (ux ∷ uy ∷ vx ∷ vy ∷ []) (λ xs a b c d. simp (a, b, c, d, polys, lits xs, below_lits xs) (den-ring xs _ _ tt)))

    both_right : (ux uy vx vy : ℤ) → ux *ℤ vy -ℤ uy *ℤ vx ≡ pos 0 → pos 0 <ℤ ux → pos 0 <ℤ vx → pos 0 <ℤ (ux *ℤ vx +ℤ uy *ℤ vy)
    both_right ux uy vx vy e p q =
        positive_of_mul (ux *ℤ vx) (le_from_lt (positive_mul p q))
        (subst (λ z. pos 0 <ℤ z) (sym squares) (positive_add (positive_mul (positive_mul p q) (positive_mul p q)) (square_nonneg (ux *ℤ vy))))
      where
        squares : ux *ℤ vx *ℤ (ux *ℤ vx +ℤ uy *ℤ vy) ≡ ux *ℤ vx *ℤ (ux *ℤ vx) +ℤ ux *ℤ vy *ℤ (ux *ℤ vy)
        squares = combine1 (neg_ℤ (ux *ℤ vy)) e (read (ux ∷ uy ∷ vx ∷ vy ∷ []) (λ xs a b c d. simp (a, b, c, d, polys, lits xs) (den-ring xs _ _ tt)))

    right_and_up : (ux uy vx vy : ℤ) → ux *ℤ vy -ℤ uy *ℤ vx ≡ pos 0 → pos 0 <ℤ ux → vx ≡ pos 0 → pos 0 <ℤ vy → ⊥
    right_and_up ux uy vx vy e p z q = none (positive_mul p q) product
      where
        none : {z : ℤ} → pos 0 <ℤ z → z ≡ pos 0 → ⊥
        none h e = omega (arith, ints)

        product : ux *ℤ vy ≡ pos 0
        product = combine2 (pos 1) uy e z (read (ux ∷ uy ∷ vx ∷ vy ∷ []) (λ xs a b c d. simp (a, b, c, d, polys, lits xs) (den-ring xs _ _ tt)))

    both_up : (ux uy vx vy : ℤ) → ux ≡ pos 0 → vx ≡ pos 0 → pos 0 <ℤ uy → pos 0 <ℤ vy → pos 0 <ℤ (ux *ℤ vx +ℤ uy *ℤ vy)
    both_up ux uy vx vy e f p q = subst (λ z. pos 0 <ℤ z) (sym product) (positive_mul p q)
      where
        product : ux *ℤ vx +ℤ uy *ℤ vy ≡ uy *ℤ vy
        product = combine1 vx e (read (ux ∷ uy ∷ vx ∷ vy ∷ []) (λ xs a b c d. simp (a, b, c, d, polys, lits xs) (den-ring xs _ _ tt)))

-- v on the line of u reaches no farther than u where the next edge has it to the left
pub no_farther : (u v e : PlanePoint) → cross u v ≡ pos 0 → pos 0 ≤ℤ squared_length u → pos 0 <ℤ cross u e → pos 0 ≤ℤ cross e (vector u v) → dot u v ≤ℤ squared_length u
no_farther u v e flat long turns left = no_more (nonneg_of_mul (cross u e) turns (subst (λ z. pos 0 ≤ℤ z) (sym (rest u.x u.y v.x v.y e.x e.y flat)) (nonneg_mul long left)))
  where
    rest : (ux uy vx vy ex ey : ℤ) → ux *ℤ vy -ℤ uy *ℤ vx ≡ pos 0
        → (ux *ℤ ey -ℤ uy *ℤ ex) *ℤ ((ux *ℤ ux +ℤ uy *ℤ uy) -ℤ (ux *ℤ vx +ℤ uy *ℤ vy)) ≡ (ux *ℤ ux +ℤ uy *ℤ uy) *ℤ (ex *ℤ (vy -ℤ uy) -ℤ ey *ℤ (vx -ℤ ux))
    rest ux uy vx vy ex ey e =
        combine1 (neg_ℤ (ex *ℤ ux +ℤ ey *ℤ uy)) e (read (ux ∷ uy ∷ vx ∷ vy ∷ ex ∷ ey ∷ []) (λ xs a b c d e f. simp (a, b, c, d, e, f, polys, lits xs) (den-ring xs _ _ tt)))

    no_more : {a t : ℤ} → pos 0 ≤ℤ (a -ℤ t) → t ≤ℤ a
    no_more h = omega (arith, ints)

-- two vectors on a line that point the same way, neither farther than the other, are equal
pub same_vector : (u v : PlanePoint) → cross u v ≡ pos 0 → pos 0 <ℤ dot u v → dot u v ≤ℤ squared_length u → dot u v ≤ℤ squared_length v → u ≡ v
same_vector u v flat way h k = λ i. record { x = equal u.x v.x (zero_of_square (u.x -ℤ v.x) (first_part (square_nonneg (u.y -ℤ v.y)) small)) i; y = equal u.y v.y (zero_of_square (u.y -ℤ v.y) (second_part (square_nonneg (u.x -ℤ v.x)) small)) i }
  where
    product : (ux uy vx vy : ℤ) → ux *ℤ vy -ℤ uy *ℤ vx ≡ pos 0
        → (ux *ℤ vx +ℤ uy *ℤ vy) *ℤ pos 0 -ℤ (ux *ℤ vx +ℤ uy *ℤ vy) *ℤ ((ux -ℤ vx) *ℤ (ux -ℤ vx) +ℤ (uy -ℤ vy) *ℤ (uy -ℤ vy))
        ≡ ((ux *ℤ ux +ℤ uy *ℤ uy) -ℤ (ux *ℤ vx +ℤ uy *ℤ vy)) *ℤ ((vx *ℤ vx +ℤ vy *ℤ vy) -ℤ (ux *ℤ vx +ℤ uy *ℤ vy))
    product ux uy vx vy e =
        combine1 (neg_ℤ (ux *ℤ vy -ℤ uy *ℤ vx)) e (read (ux ∷ uy ∷ vx ∷ vy ∷ []) (λ xs a b c d. simp (a, b, c, d, polys, lits xs) (den-ring xs _ _ tt)))

    small : ((u.x -ℤ v.x) *ℤ (u.x -ℤ v.x) +ℤ (u.y -ℤ v.y) *ℤ (u.y -ℤ v.y)) ≤ℤ pos 0
    small = le_of_mul_le (dot u v) way (le_by (nonneg_mul (nonneg_difference h) (nonneg_difference k)) (product u.x u.y v.x v.y flat))

    first_part : {a b : ℤ} → pos 0 ≤ℤ b → (a +ℤ b) ≤ℤ pos 0 → a ≤ℤ pos 0
    first_part h k = omega (arith, ints)

    second_part : {a b : ℤ} → pos 0 ≤ℤ a → (a +ℤ b) ≤ℤ pos 0 → b ≤ℤ pos 0
    second_part h k = omega (arith, ints)

    equal : (a b : ℤ) → a -ℤ b ≡ pos 0 → a ≡ b
    equal a b e = omega (arith, ints)

-- ---- the corner after another

-- b comes after a with a left turn, and c after b
pub record Follows (points : List PlanePoint) (a b c : PlanePoint) : Type 0 where
  pub listed : Contains points b
  pub left : All (λ q. pos 0 ≤ℤ turn a b q) points
  pub next_left : All (λ q. pos 0 ≤ℤ turn b c q) points
  pub turns : pos 0 <ℤ turn a b c

-- an edge before a left turn has a length
pub long_edge : (u v : PlanePoint) → pos 0 <ℤ cross u v → pos 0 <ℤ squared_length u
long_edge u v h = by_lt_z (pos 0) (squared_length u) (λ l. l) (λ m. absurd (positive-not_zero h (flat u.x u.y v.x v.y (zero_of_square u.x (first_part (square_nonneg u.y) m)) (zero_of_square u.y (second_part (square_nonneg u.x) m)))))
  where
    flat : (ux uy vx vy : ℤ) → ux ≡ pos 0 → uy ≡ pos 0 → ux *ℤ vy -ℤ uy *ℤ vx ≡ pos 0
    flat ux uy vx vy e f = combine2 vy (neg_ℤ vx) e f (read (ux ∷ uy ∷ vx ∷ vy ∷ []) (λ xs a b c d. simp (a, b, c, d, polys, lits xs) (den-ring xs _ _ tt)))

    first_part : {a b : ℤ} → pos 0 ≤ℤ b → (a +ℤ b) ≤ℤ pos 0 → a ≤ℤ pos 0
    first_part h k = omega (arith, ints)

    second_part : {a b : ℤ} → pos 0 ≤ℤ a → (a +ℤ b) ≤ℤ pos 0 → b ≤ℤ pos 0
    second_part h k = omega (arith, ints)

-- equal vectors from one point lead to one point
pub equal_ends : (a b c : PlanePoint) → vector a b ≡ vector a c → b ≡ c
equal_ends a b c e = λ i. record { x = equal a.x b.x c.x (ap (λ (p : PlanePoint). p.x) e) i; y = equal a.y b.y c.y (ap (λ (p : PlanePoint). p.y) e) i }
  where
    equal : (a b c : ℤ) → b -ℤ a ≡ c -ℤ a → b ≡ c
    equal a b c e = omega (arith, ints)

-- vectors from a differ by the vector of their ends
pub between_ends : (a b c : PlanePoint) → vector (vector a b) (vector a c) ≡ vector b c
between_ends a b c = λ i. record { x = moved a.x b.x c.x i; y = moved a.y b.y c.y i }
  where
    moved : (a b c : ℤ) → (c -ℤ a) -ℤ (b -ℤ a) ≡ c -ℤ b
    moved a b c = omega (arith, ints)

-- a point on the line of an edge reaches no farther than the corner that ends it
within_edge : (points : List PlanePoint) (a b c d : PlanePoint) → Follows points a b d → Contains points c → cross (vector a b) (vector a c) ≡ pos 0 → dot (vector a b) (vector a c) ≤ℤ squared_length (vector a b)
within_edge points a b c d f listed flat =
    no_farther (vector a b) (vector a c) (vector b d) flat (nonneg_add (square_nonneg (b.x -ℤ a.x)) (square_nonneg (b.y -ℤ a.y))) (subst (λ z. pos 0 <ℤ z) (sym (edge_turn a b d)) f.turns)
    (subst (λ v. pos 0 ≤ℤ cross (vector b d) v) (sym (between_ends a b c)) (All-contains (λ q. pos 0 ≤ℤ turn b d q) points c f.next_left listed))

-- two corners that come after a are one, where they are on the same way from it
one_next : (points : List PlanePoint) (a b c d e : PlanePoint) → Follows points a b d → Follows points a c e → (cross (vector a b) (vector a c) ≡ pos 0 → pos 0 <ℤ dot (vector a b) (vector a c)) → b ≡ c
one_next points a b c d e f g way =
    let flat : cross (vector a b) (vector a c) ≡ pos 0 = between_turns (vector a b) (vector a c) (All-contains (λ q. pos 0 ≤ℤ turn a b q) points c f.left g.listed) (All-contains (λ q. pos 0 ≤ℤ turn a c q) points b g.left f.listed) in
    equal_ends a b c (same_vector (vector a b) (vector a c) flat (way flat) (within_edge points a b c d f g.listed flat)
    (subst (λ z. z ≤ℤ squared_length (vector a c)) (dot_comm (vector a c) (vector a b)) (within_edge points a c b e g f.listed (mirrored (vector a b) (vector a c) flat))))
  where
    dot_comm : (u v : PlanePoint) → dot u v ≡ dot v u
    dot_comm u v = same u.x u.y v.x v.y
      where
        same : (ux uy vx vy : ℤ) → ux *ℤ vx +ℤ uy *ℤ vy ≡ vx *ℤ ux +ℤ vy *ℤ uy
        same ux uy vx vy = read (ux ∷ uy ∷ vx ∷ vy ∷ []) (λ xs a b c d. simp (a, b, c, d, polys) (den-ring xs _ _ tt))

    mirrored : (u v : PlanePoint) → cross u v ≡ pos 0 → cross v u ≡ pos 0
    mirrored u v h = turned u.x u.y v.x v.y h
      where
        turned : (ux uy vx vy : ℤ) → ux *ℤ vy -ℤ uy *ℤ vx ≡ pos 0 → vx *ℤ uy -ℤ vy *ℤ ux ≡ pos 0
        turned ux uy vx vy e = combine1 (negsuc 0) e (read (ux ∷ uy ∷ vx ∷ vy ∷ []) (λ xs a b c d. simp (a, b, c, d, polys, lits xs, below_lits xs) (den-ring xs _ _ tt)))

-- two corners that come after a, with a left turn there from the same corner before, are one
pub one_after : (points : List PlanePoint) (p a b c d e : PlanePoint) → Follows points a b d → Follows points a c e → pos 0 <ℤ turn p a b → pos 0 <ℤ turn p a c → b ≡ c
one_after points p a b c d e f g to_b to_c =
    one_next points a b c d e f g
    (λ flat. same_way_by_turn (vector a b) (vector a c) (vector p a) flat (long_edge (vector a b) (vector a d) f.turns) (subst (λ z. pos 0 <ℤ z) (sym (edge_turn p a b)) to_b) (subst (λ z. pos 0 <ℤ z) (sym (edge_turn p a c)) to_c))

-- two corners that come after the least point are one
pub one_after_least : (points : List PlanePoint) (a b c d e : PlanePoint) → IsLeastPoint points a → b ≢ a → c ≢ a → Follows points a b d → Follows points a c e → b ≡ c
one_after_least points a b c d e least nb nc f g =
    one_next points a b c d e f g
    (λ flat. same_way_ahead (vector a b) (vector a c) flat (ahead_of_before a b (All-contains (IsBefore a) points b least.least f.listed) nb) (ahead_of_before a c (All-contains (IsBefore a) points c least.least g.listed) nc))
