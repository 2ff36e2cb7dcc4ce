-- A direction before another one of a fan lies in an earlier cone, and not at that cone's end.
use Rattle.std.proofs.Common.{◌≡◌, ap, ◌∙◌, subst, ℕ, zero, suc, ◌+◌, ◌<◌, ℤ, pos, ◌+ℤ◌, ◌-ℤ◌, ◌*ℤ◌, neg_ℤ, ◌≤ℤ◌, ◌<ℤ◌, List, [], ◌∷◌, arith}
use Rattle.std.proofs.lemmas.Int.{ints, by_lt_z}
use Rattle.integers.proofs.Identities.{den-ring, read, polys, lits}
use Rattle.integers.proofs.Order.{combine1, nonneg_add, positive_mul, positive_of_mul, square_nonneg, lt_by, positive_difference}
use Rattle.bounds_model.specs.Plane.{PlanePoint, point_at, dot, cross, squared_length}

-- one of the first cones has v between its directions, or at the direction that it begins at
pub record ConeBefore (directions : List PlanePoint) (count : ℕ) (v : PlanePoint) : Type 0 where
  pub number : ℕ
  pub below : number < count
  pub left : pos 0 ≤ℤ cross (point_at directions number) v
  pub right : cross (point_at directions (number + 1)) v <ℤ pos 0

-- one of more
pub one_of_more : {directions : List PlanePoint} {count : ℕ} {v : PlanePoint} → ConeBefore directions count v → ConeBefore directions (suc count) v
one_of_more {count = count} c = record { number = c.number; below = more c.below; left = c.left; right = c.right }
  where
    more : {k n : ℕ} → k < n → k < suc n
    more h = omega arith

one_more : (k : ℕ) → suc k ≡ k + 1
one_more k = omega arith

-- v is not to the right of the first direction, and to the right of a later one
pub cone_before : (directions : List PlanePoint) (v : PlanePoint) (n : ℕ) → pos 0 ≤ℤ cross (point_at directions 0) v → cross (point_at directions n) v <ℤ pos 0 → ConeBefore directions n v
cone_before directions v zero h k = absurd (no h k)
  where
    no : {z : ℤ} → pos 0 ≤ℤ z → z <ℤ pos 0 → ⊥
    no h k = omega (arith, ints)
cone_before directions v (suc n) h k =
    by_lt_z (cross (point_at directions n) v) (pos 0)
    (λ right. one_of_more (cone_before directions v n h right))
    (λ left. record { number = n; below = here n; left = left; right = subst (λ i. cross (point_at directions i) v <ℤ pos 0) (one_more n) k })
  where
    here : (n : ℕ) → n < suc n
    here n = omega arith

-- ---- directions that point the same way

-- what is to the left of a direction is to the left of another one that points the same way
pub left_of_same : (d u v : PlanePoint) → cross d u ≡ pos 0 → pos 0 <ℤ dot d u → pos 0 <ℤ cross d v → pos 0 <ℤ cross u v
left_of_same d u v parallel ahead left =
    positive_of_mul (squared_length d) (nonneg_add (square_nonneg d.x) (square_nonneg d.y))
    (subst (λ z. pos 0 <ℤ z) (plain d.x d.y u.x u.y v.x v.y parallel) (positive_mul ahead left))
  where
    plain : (dx dy ux uy vx vy : ℤ) → dx *ℤ uy -ℤ dy *ℤ ux ≡ pos 0 → (dx *ℤ ux +ℤ dy *ℤ uy) *ℤ (dx *ℤ vy -ℤ dy *ℤ vx) ≡ (dx *ℤ dx +ℤ dy *ℤ dy) *ℤ (ux *ℤ vy -ℤ uy *ℤ vx)
    plain dx dy ux uy vx vy e = combine1 (dx *ℤ vx +ℤ dy *ℤ vy) e (read (dx ∷ dy ∷ ux ∷ uy ∷ vx ∷ vy ∷ []) (λ xs a b c d e f. simp (a, b, c, d, e, f, polys, lits xs) (den-ring xs _ _ tt)))

-- two directions point the same way in either order
pub same_way_back : (d u : PlanePoint) → cross d u ≡ pos 0 → cross u d ≡ pos 0
same_way_back d u e = plain d.x d.y u.x u.y ∙ ap neg_ℤ e
  where
    plain : (dx dy ux uy : ℤ) → ux *ℤ dy -ℤ uy *ℤ dx ≡ neg_ℤ (dx *ℤ uy -ℤ dy *ℤ ux)
    plain dx dy ux uy = read (dx ∷ dy ∷ ux ∷ uy ∷ []) (λ xs a b c d. simp (a, b, c, d, polys) (den-ring xs _ _ tt))

pub ahead_back : (d u : PlanePoint) → pos 0 <ℤ dot d u → pos 0 <ℤ dot u d
ahead_back d u h = lt_by (positive_difference h) (plain d.x d.y u.x u.y)
  where
    plain : (dx dy ux uy : ℤ) → (ux *ℤ dx +ℤ uy *ℤ dy) -ℤ pos 0 ≡ (dx *ℤ ux +ℤ dy *ℤ uy) -ℤ pos 0
    plain dx dy ux uy = read (dx ∷ dy ∷ ux ∷ uy ∷ []) (λ xs a b c d. simp (a, b, c, d, polys, lits xs) (den-ring xs _ _ tt))

-- turning round changes the side
pub turned_side : (u v : PlanePoint) → cross u v <ℤ pos 0 → pos 0 <ℤ cross v u
turned_side u v h = lt_by (negative h) (plain u.x u.y v.x v.y)
  where
    negative : {z : ℤ} → z <ℤ pos 0 → pos 0 <ℤ neg_ℤ z
    negative h = omega (arith, ints)

    plain : (ux uy vx vy : ℤ) → (vx *ℤ uy -ℤ vy *ℤ ux) -ℤ pos 0 ≡ neg_ℤ (ux *ℤ vy -ℤ uy *ℤ vx)
    plain ux uy vx vy = read (ux ∷ uy ∷ vx ∷ vy ∷ []) (λ xs a b c d. simp (a, b, c, d, polys, lits xs) (den-ring xs _ _ tt))

pub turned_side_back : (u v : PlanePoint) → pos 0 <ℤ cross u v → cross v u <ℤ pos 0
turned_side_back u v h = lt_by h (plain u.x u.y v.x v.y)
  where
    plain : (ux uy vx vy : ℤ) → pos 0 -ℤ (vx *ℤ uy -ℤ vy *ℤ ux) ≡ ux *ℤ vy -ℤ uy *ℤ vx
    plain ux uy vx vy = read (ux ∷ uy ∷ vx ∷ vy ∷ []) (λ xs a b c d. simp (a, b, c, d, polys, lits xs) (den-ring xs _ _ tt))

-- what is before u is to the right of a direction that points the same way as u
pub right_of_same : (d u v : PlanePoint) → cross d u ≡ pos 0 → pos 0 <ℤ dot d u → cross u v <ℤ pos 0 → cross d v <ℤ pos 0
right_of_same d u v parallel ahead h =
    turned_side_back v d (from_left (turned_side u v h))
  where
    -- |u|² (v × d) = (u · d) (v × u), where d and u are parallel
    from_left : pos 0 <ℤ cross v u → pos 0 <ℤ cross v d
    from_left k =
        positive_of_mul (squared_length u) (nonneg_add (square_nonneg u.x) (square_nonneg u.y))
        (subst (λ z. pos 0 <ℤ z) (plain d.x d.y u.x u.y v.x v.y parallel) (positive_mul ahead k))
      where
        plain : (dx dy ux uy vx vy : ℤ) → dx *ℤ uy -ℤ dy *ℤ ux ≡ pos 0 → (dx *ℤ ux +ℤ dy *ℤ uy) *ℤ (vx *ℤ uy -ℤ vy *ℤ ux) ≡ (ux *ℤ ux +ℤ uy *ℤ uy) *ℤ (vx *ℤ dy -ℤ vy *ℤ dx)
        plain dx dy ux uy vx vy e = combine1 (ux *ℤ vx +ℤ uy *ℤ vy) e (read (dx ∷ dy ∷ ux ∷ uy ∷ vx ∷ vy ∷ []) (λ xs a b c d e f. simp (a, b, c, d, e, f, polys, lits xs) (den-ring xs _ _ tt)))
