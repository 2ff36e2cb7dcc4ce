-- Vectors that point to the right, or straight up: among them the left turn is an order.
use Rattle.std.proofs.Common.{◌≡◌, ◌≢◌, ◌⊎◌, sym, ◌∙◌, subst, ℤ, pos, neg_ℤ, ◌+ℤ◌, ◌-ℤ◌, ◌*ℤ◌, ◌≤ℤ◌, ◌<ℤ◌, [], ◌∷◌, arith}
use mathlib.Core.Logic.{inl, inr}
use Rattle.std.proofs.lemmas.Int.{ints, by_lt_z}
use Rattle.integers.proofs.Identities.{den-ring, read, polys, lits}
use Rattle.integers.proofs.Order.{nonneg_mul, nonneg_add, nonneg_of_mul, same_of_mul, le_antisymm_ℤ, combine1, combine2}
use Rattle.bounds_model.specs.Plane.{PlanePoint, vector, cross, IsBefore}

-- the vector points to the right, or straight up
abbrev pub IsAhead : PlanePoint → Type 0
IsAhead u = (pos 0 <ℤ u.x) ⊎ ((u.x ≡ pos 0) × (pos 0 <ℤ u.y))

-- so does the vector from a point to a later one
pub ahead_of_before : (a b : PlanePoint) → IsBefore a b → b ≢ a → IsAhead (vector a b)
ahead_of_before a b h n = elim h [ inl l ↦ inl (above a.x b.x l) | inr e ↦ inr (level a.x b.x e.0, apart a.y b.y e.1 (λ s. n (λ i. record { x = sym e.0 i; y = s i }))) ]
  where
    above : (x y : ℤ) → x <ℤ y → pos 0 <ℤ (y -ℤ x)
    above x y l = omega (arith, ints)

    level : (x y : ℤ) → x ≡ y → y -ℤ x ≡ pos 0
    level x y e = omega (arith, ints)

    apart : (x y : ℤ) → x ≤ℤ y → (y ≡ x → ⊥) → pos 0 <ℤ (y -ℤ x)
    apart x y l d = by_lt_z x y (λ below. above x y below) (λ m. absurd (d (le_antisymm_ℤ m l)))

-- an identity of three vectors, which the order of turns rests on
exchange_x : (ux uy vx vy wx wy : ℤ) → vx *ℤ (ux *ℤ wy -ℤ uy *ℤ wx) ≡ ux *ℤ (vx *ℤ wy -ℤ vy *ℤ wx) +ℤ wx *ℤ (ux *ℤ vy -ℤ uy *ℤ vx)
exchange_x ux uy vx vy wx wy = read (ux ∷ uy ∷ vx ∷ vy ∷ wx ∷ wy ∷ []) (λ xs a b c d e f. simp (a, b, c, d, e, f, polys) (den-ring xs _ _ tt))

-- a vector that is ahead does not point to the left
not_left : (u : PlanePoint) → IsAhead u → pos 0 ≤ℤ u.x
not_left u h = elim h [ inl l ↦ weak u.x l | inr e ↦ level u.x e.0 ]
  where
    weak : (x : ℤ) → pos 0 <ℤ x → pos 0 ≤ℤ x
    weak x l = omega (arith, ints)

    level : (x : ℤ) → x ≡ pos 0 → pos 0 ≤ℤ x
    level x e = omega (arith, ints)

-- a vector to the left of one that points straight up is none, or points straight up too
vertical : (vx vy wx wy : ℤ) → vx ≡ pos 0 → pos 0 <ℤ vy → pos 0 ≤ℤ wx → pos 0 ≤ℤ (vx *ℤ wy -ℤ vy *ℤ wx) → wx ≡ pos 0
vertical vx vy wx wy e l p h = le_antisymm_ℤ (turned (nonneg_of_mul vy l (subst (λ z. pos 0 ≤ℤ z) (folded vx vy wx wy e) h))) p
  where
    folded : (vx vy wx wy : ℤ) → vx ≡ pos 0 → vx *ℤ wy -ℤ vy *ℤ wx ≡ vy *ℤ neg_ℤ wx
    folded vx vy wx wy e = combine1 wy e (read (vx ∷ vy ∷ wx ∷ wy ∷ []) (λ xs a b c d. simp (a, b, c, d, polys, lits xs) (den-ring xs _ _ tt)))

    turned : {x : ℤ} → pos 0 ≤ℤ neg_ℤ x → x ≤ℤ pos 0
    turned h = omega (arith, ints)

-- where v is to the left of u, and w to the left of v, w is to the left of u
pub ahead_trans : (u v w : PlanePoint) → IsAhead u → IsAhead v → IsAhead w → pos 0 ≤ℤ cross u v → pos 0 ≤ℤ cross v w → pos 0 ≤ℤ cross u w
ahead_trans u v w hu hv hw p q =
    elim hv [
      | inl right ↦ nonneg_of_mul v.x right (subst (λ z. pos 0 ≤ℤ z) (sym (exchange_x u.x u.y v.x v.y w.x w.y)) (nonneg_add (nonneg_mul (not_left u hu) q) (nonneg_mul (not_left w hw) p)))
      | inr up ↦ by_w (vertical v.x v.y w.x w.y up.0 up.1 (not_left w hw) q) hw
    ]
  where
    folded : (ux uy wx wy : ℤ) → wx ≡ pos 0 → ux *ℤ wy -ℤ uy *ℤ wx ≡ ux *ℤ wy
    folded ux uy wx wy e = combine1 (neg_ℤ uy) e (read (ux ∷ uy ∷ wx ∷ wy ∷ []) (λ xs a b c d. simp (a, b, c, d, polys, lits xs) (den-ring xs _ _ tt)))

    none : (x : ℤ) → x ≡ pos 0 → pos 0 <ℤ x → ⊥
    none x e l = omega (arith, ints)

    weak : {x : ℤ} → pos 0 <ℤ x → pos 0 ≤ℤ x
    weak l = omega (arith, ints)

    by_w : w.x ≡ pos 0 → IsAhead w → pos 0 ≤ℤ cross u w
    by_w e h = elim h [ inl l ↦ absurd (none w.x e l) | inr t ↦ subst (λ z. pos 0 ≤ℤ z) (sym (folded u.x u.y w.x w.y e)) (nonneg_mul (not_left u hu) (weak t.1)) ]

-- two vectors on the line of a third are on one line
pub on_one_line : (u v w : PlanePoint) → IsAhead u → cross u v ≡ pos 0 → cross u w ≡ pos 0 → cross v w ≡ pos 0
on_one_line u v w h p q = elim h [ inl right ↦ same_of_mul u.x right (by_x u.x u.y v.x v.y w.x w.y p q) | inr up ↦ same_of_mul u.y up.1 (by_y u.x u.y v.x v.y w.x w.y p q) ]
  where
    by_x : (ux uy vx vy wx wy : ℤ) → ux *ℤ vy -ℤ uy *ℤ vx ≡ pos 0 → ux *ℤ wy -ℤ uy *ℤ wx ≡ pos 0 → ux *ℤ (vx *ℤ wy -ℤ vy *ℤ wx) ≡ ux *ℤ pos 0
    by_x ux uy vx vy wx wy p q =
        combine2 (neg_ℤ wx) vx p q (read (ux ∷ uy ∷ vx ∷ vy ∷ wx ∷ wy ∷ []) (λ xs a b c d e f. simp (a, b, c, d, e, f, polys, lits xs) (den-ring xs _ _ tt)))

    by_y : (ux uy vx vy wx wy : ℤ) → ux *ℤ vy -ℤ uy *ℤ vx ≡ pos 0 → ux *ℤ wy -ℤ uy *ℤ wx ≡ pos 0 → uy *ℤ (vx *ℤ wy -ℤ vy *ℤ wx) ≡ uy *ℤ pos 0
    by_y ux uy vx vy wx wy p q =
        combine2 (neg_ℤ wy) vy p q (read (ux ∷ uy ∷ vx ∷ vy ∷ wx ∷ wy ∷ []) (λ xs a b c d e f. simp (a, b, c, d, e, f, polys, lits xs) (den-ring xs _ _ tt)))

-- what is to the left and to the right is on the line
pub between_turns : (u v : PlanePoint) → pos 0 ≤ℤ cross u v → pos 0 ≤ℤ cross v u → cross u v ≡ pos 0
between_turns u v p q = le_antisymm_ℤ (turned u.x u.y v.x v.y q) p
  where
    mirrored : (ux uy vx vy : ℤ) → vx *ℤ uy -ℤ vy *ℤ ux ≡ neg_ℤ (ux *ℤ vy -ℤ uy *ℤ vx)
    mirrored ux uy vx vy = read (ux ∷ uy ∷ vx ∷ vy ∷ []) (λ xs a b c d. simp (a, b, c, d, polys) (den-ring xs _ _ tt))

    below : {z : ℤ} → pos 0 ≤ℤ neg_ℤ z → z ≤ℤ pos 0
    below h = omega (arith, ints)

    turned : (ux uy vx vy : ℤ) → pos 0 ≤ℤ (vx *ℤ uy -ℤ vy *ℤ ux) → (ux *ℤ vy -ℤ uy *ℤ vx) ≤ℤ pos 0
    turned ux uy vx vy h = below (subst (λ z. pos 0 ≤ℤ z) (mirrored ux uy vx vy) h)

-- seen from a, the edge from b to c turns left exactly as b, c and a do
pub turn_from : (a b c : PlanePoint) → cross (vector b c) (vector b a) ≡ cross (vector a b) (vector a c)
turn_from a b c = moved a.x a.y b.x b.y c.x c.y
  where
    moved : (ax ay bx by cx cy : ℤ) → (cx -ℤ bx) *ℤ (ay -ℤ by) -ℤ (cy -ℤ by) *ℤ (ax -ℤ bx) ≡ (bx -ℤ ax) *ℤ (cy -ℤ ay) -ℤ (by -ℤ ay) *ℤ (cx -ℤ ax)
    moved ax ay bx by cx cy = read (ax ∷ ay ∷ bx ∷ by ∷ cx ∷ cy ∷ []) (λ xs a b c d e f. simp (a, b, c, d, e, f, polys) (den-ring xs _ _ tt))

-- the turn from one edge to the next is that of their three points
pub edge_turn : (a b c : PlanePoint) → cross (vector a b) (vector b c) ≡ cross (vector a b) (vector a c)
edge_turn a b c = moved a.x a.y b.x b.y c.x c.y
  where
    moved : (ax ay bx by cx cy : ℤ) → (bx -ℤ ax) *ℤ (cy -ℤ by) -ℤ (by -ℤ ay) *ℤ (cx -ℤ bx) ≡ (bx -ℤ ax) *ℤ (cy -ℤ ay) -ℤ (by -ℤ ay) *ℤ (cx -ℤ ax)
    moved ax ay bx by cx cy = read (ax ∷ ay ∷ bx ∷ by ∷ cx ∷ cy ∷ []) (λ xs a b c d e f. simp (a, b, c, d, e, f, polys) (den-ring xs _ _ tt))

-- the turn of three points by their vectors from a
pub turn_seen : (a p q r : PlanePoint) → cross (vector p q) (vector p r) ≡ cross (vector a q) (vector a r) -ℤ cross (vector a p) (vector a r) +ℤ cross (vector a p) (vector a q)
turn_seen a p q r = moved a.x a.y p.x p.y q.x q.y r.x r.y
  where
    moved : (ax ay px py qx qy rx ry : ℤ) → (qx -ℤ px) *ℤ (ry -ℤ py) -ℤ (qy -ℤ py) *ℤ (rx -ℤ px)
        ≡ ((qx -ℤ ax) *ℤ (ry -ℤ ay) -ℤ (qy -ℤ ay) *ℤ (rx -ℤ ax)) -ℤ ((px -ℤ ax) *ℤ (ry -ℤ ay) -ℤ (py -ℤ ay) *ℤ (rx -ℤ ax)) +ℤ ((px -ℤ ax) *ℤ (qy -ℤ ay) -ℤ (py -ℤ ay) *ℤ (qx -ℤ ax))
    moved ax ay px py qx qy rx ry = read (ax ∷ ay ∷ px ∷ py ∷ qx ∷ qy ∷ rx ∷ ry ∷ []) (λ xs a b c d e f g h. simp (a, b, c, d, e, f, g, h, polys) (den-ring xs _ _ tt))

-- three points on a line through a make no turn
pub no_turn : (a p q r : PlanePoint) → cross (vector a p) (vector a q) ≡ pos 0 → cross (vector a p) (vector a r) ≡ pos 0 → cross (vector a q) (vector a r) ≡ pos 0 → cross (vector p q) (vector p r) ≡ pos 0
no_turn a p q r h k m = turn_seen a p q r ∙ gone _ _ _ m k h
  where
    gone : (x y z : ℤ) → x ≡ pos 0 → y ≡ pos 0 → z ≡ pos 0 → x -ℤ y +ℤ z ≡ pos 0
    gone x y z e f g = omega (arith, ints)
