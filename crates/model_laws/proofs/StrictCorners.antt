-- Each three corners of the hull, in their order, make a left turn.
use Rattle.std.proofs.Common.{◌≡◌, ◌≢◌, refl, sym, ◌∙◌, ap, subst, ◌⊎◌, inl, inr, ℕ, zero, suc, ◌+◌, ◌-◌, ◌<◌, ℤ, pos, negsuc, neg_ℤ, ◌+ℤ◌, ◌-ℤ◌, ◌*ℤ◌, ◌≤ℤ◌, ◌<ℤ◌, List, [], ◌∷◌, length, arith}
use Rattle.std.specs.Prelude.{Contains}
use Rattle.std.proofs.lemmas.Int.{ints, by_lt_z}
use Rattle.std.proofs.lemmas.List.Elements.{All-contains, All-get_or}
use Rattle.integers.proofs.Identities.{den-ring, read, polys, lits, below_lits}
use Rattle.integers.proofs.Order.{nonneg_mul, nonneg_add, positive_mul, positive_of_mul, nonneg_of_mul, square_nonneg, le_antisymm_ℤ, le_from_lt, le_by, same_of_mul, combine1, combine2, positive-not_zero}
use Rattle.bounds_model.specs.Plane.{PlanePoint, origin, point_at, vector, dot, squared_length, cross, turn}
use Rattle.bounds_model.specs.Hull.{around, AreCornerCycle}
use Rattle.model_laws.proofs.Turning.{edge_turn}
use Rattle.model_laws.proofs.NextCorner.{Follows, long_edge, same_vector, equal_ends}
use Rattle.model_laws.proofs.CornerLaw.{around-below, cross_self}
use Rattle.model_laws.proofs.CornersUnique.{follows_at, around-end}

-- ---- no corner stands between two points

-- where x and y point opposite ways, and v has neither to its right, x is along v
flat_along : (v x y : PlanePoint) → cross x y ≡ pos 0 → dot x y <ℤ pos 0 → pos 0 ≤ℤ cross v x → pos 0 ≤ℤ cross v y → cross v x ≡ pos 0
flat_along v x y parallel opposite left left_too =
    le_antisymm_ℤ
    (not_above (nonneg_of_mul (neg_ℤ (dot x y)) (negative opposite) (subst (λ z. pos 0 ≤ℤ z) (plain v.x v.y x.x x.y y.x y.y parallel) (nonneg_mul (nonneg_add (square_nonneg x.x) (square_nonneg x.y)) left_too))))
    left
  where
    negative : {z : ℤ} → z <ℤ pos 0 → pos 0 <ℤ neg_ℤ z
    negative h = omega (arith, ints)

    not_above : {z : ℤ} → pos 0 ≤ℤ neg_ℤ z → z ≤ℤ pos 0
    not_above h = omega (arith, ints)

    plain : (vx vy xx xy yx yy : ℤ) → xx *ℤ yy -ℤ xy *ℤ yx ≡ pos 0 → (xx *ℤ xx +ℤ xy *ℤ xy) *ℤ (vx *ℤ yy -ℤ vy *ℤ yx) ≡ neg_ℤ (xx *ℤ yx +ℤ xy *ℤ yy) *ℤ neg_ℤ (vx *ℤ xy -ℤ vy *ℤ xx)
    plain vx vy xx xy yx yy e = combine1 (vx *ℤ xx +ℤ vy *ℤ xy) e (read (vx ∷ vy ∷ xx ∷ xy ∷ yx ∷ yy ∷ []) (λ xs a b c d e f. simp (a, b, c, d, e, f, polys, lits xs) (den-ring xs _ _ tt)))

-- so two directions with a left turn between them can't both have them not to their right
no_opposite : (u w x y : PlanePoint) → cross x y ≡ pos 0 → dot x y <ℤ pos 0 → pos 0 ≤ℤ cross u x → pos 0 ≤ℤ cross u y → pos 0 ≤ℤ cross w x → pos 0 ≤ℤ cross w y → pos 0 <ℤ cross u w → ⊥
no_opposite u w x y parallel opposite ux uy wx wy turns =
    positive-not_zero (positive_mul turns (negative opposite)) (plain u.x u.y w.x w.y x.x x.y y.x y.y (flat_along u x y parallel opposite ux uy) (flat_along w x y parallel opposite wx wy))
  where
    negative : {z : ℤ} → z <ℤ pos 0 → pos 0 <ℤ neg_ℤ z
    negative h = omega (arith, ints)

    plain : (ux uy wx wy xx xy yx yy : ℤ) → ux *ℤ xy -ℤ uy *ℤ xx ≡ pos 0 → wx *ℤ xy -ℤ wy *ℤ xx ≡ pos 0 → (ux *ℤ wy -ℤ uy *ℤ wx) *ℤ neg_ℤ (xx *ℤ yx +ℤ xy *ℤ yy) ≡ pos 0
    plain ux uy wx wy xx xy yx yy e f =
        combine2 (neg_ℤ (wx *ℤ yx +ℤ wy *ℤ yy)) (ux *ℤ yx +ℤ uy *ℤ yy) e f (read (ux ∷ uy ∷ wx ∷ wy ∷ xx ∷ xy ∷ yx ∷ yy ∷ []) (λ xs a b c d e f g h. simp (a, b, c, d, e, f, g, h, polys, lits xs) (den-ring xs _ _ tt)))

-- a corner is not between two points
not_between : (points : List PlanePoint) (p m n q r : PlanePoint) → Follows points p m n → Contains points q → Contains points r → cross (vector m q) (vector m r) ≡ pos 0 → dot (vector m q) (vector m r) <ℤ pos 0 → ⊥
not_between points p m n q r f has_q has_r flat opposite =
    no_opposite (vector p m) (vector m n) (vector m q) (vector m r) flat opposite
    (after_edge q has_q) (after_edge r has_r)
    (All-contains (λ s. pos 0 ≤ℤ turn m n s) points q f.next_left has_q) (All-contains (λ s. pos 0 ≤ℤ turn m n s) points r f.next_left has_r)
    (subst (λ z. pos 0 <ℤ z) (sym (edge_turn p m n)) f.turns)
  where
    after_edge : (s : PlanePoint) → Contains points s → pos 0 ≤ℤ cross (vector p m) (vector m s)
    after_edge s c = subst (λ z. pos 0 ≤ℤ z) (sym (edge_turn p m s)) (All-contains (λ s. pos 0 ≤ℤ turn p m s) points s f.left c)

-- ---- three different corners are not on a line

-- the corners before and after one
record Neighbours (points : List PlanePoint) (b : PlanePoint) : Type 0 where
  before : PlanePoint
  after : PlanePoint
  follows : Follows points before b after

neighbours : (points xs : List PlanePoint) → AreCornerCycle points xs → (k : ℕ) → k < length xs → Neighbours points (point_at xs k)
neighbours points xs r zero l = by_last (length xs) refl
  where
    by_last : (n : ℕ) → n ≡ length xs → Neighbours points (point_at xs 0)
    by_last zero e = absurd (omega arith)
    by_last (suc m) e = record { before = around xs m; after = around xs (m + 2); follows = subst (λ b. Follows points (around xs m) b (around xs (m + 2))) (ap (around xs) (one_up m e) ∙ around-end xs ∙ around-below xs 0 l) (follows_at points xs r m (omega arith)) }
      where
        one_up : (m : ℕ) → suc m ≡ length xs → m + 1 ≡ length xs
        one_up m e = omega arith
neighbours points xs r (suc k) l = record { before = around xs k; after = around xs (k + 2); follows = subst (λ b. Follows points (around xs k) b (around xs (k + 2))) (ap (around xs) (one_up k) ∙ around-below xs (suc k) l) (follows_at points xs r k (omega arith)) }
  where
    one_up : (k : ℕ) → k + 1 ≡ suc k
    one_up k = omega arith

-- identities of three points on a line
from_b : (a b x : PlanePoint) → cross (vector a b) (vector a x) ≡ pos 0 → cross (vector b a) (vector b x) ≡ pos 0
from_b a b x e = plain a.x a.y b.x b.y x.x x.y e
  where
    plain : (ax ay bx by cx cy : ℤ) → (bx -ℤ ax) *ℤ (cy -ℤ ay) -ℤ (by -ℤ ay) *ℤ (cx -ℤ ax) ≡ pos 0 → (ax -ℤ bx) *ℤ (cy -ℤ by) -ℤ (ay -ℤ by) *ℤ (cx -ℤ bx) ≡ pos 0
    plain ax ay bx by cx cy e = combine1 (negsuc 0) e (read (ax ∷ ay ∷ bx ∷ by ∷ cx ∷ cy ∷ []) (λ xs a b c d e f. simp (a, b, c, d, e, f, polys, lits xs, below_lits xs) (den-ring xs _ _ tt)))

from_x : (a b x : PlanePoint) → cross (vector a b) (vector a x) ≡ pos 0 → cross (vector x a) (vector x b) ≡ pos 0
from_x a b x e = plain a.x a.y b.x b.y x.x x.y e
  where
    plain : (ax ay bx by cx cy : ℤ) → (bx -ℤ ax) *ℤ (cy -ℤ ay) -ℤ (by -ℤ ay) *ℤ (cx -ℤ ax) ≡ pos 0 → (ax -ℤ cx) *ℤ (by -ℤ cy) -ℤ (ay -ℤ cy) *ℤ (bx -ℤ cx) ≡ pos 0
    plain ax ay bx by cx cy e = combine1 (pos 1) e (read (ax ∷ ay ∷ bx ∷ by ∷ cx ∷ cy ∷ []) (λ xs a b c d e f. simp (a, b, c, d, e, f, polys, lits xs) (den-ring xs _ _ tt)))

-- three different corners, of which an edge leads from the first to the second
apart : (points : List PlanePoint) (a b x c : PlanePoint) → Neighbours points a → Neighbours points b → Neighbours points x → Contains points a → Contains points b → Contains points x → pos 0 <ℤ turn a b c → a ≢ x → b ≢ x → cross (vector a b) (vector a x) ≡ pos 0 → ⊥
apart points a b x c na nb nx has_a has_b has_x turns not_a not_b flat =
    by_lt_z (dot (vector a b) (vector a x)) (pos 0)
    (λ l. not_between points na.before a na.after b x na.follows has_b has_x flat l)
    (λ at_a. by_lt_z (dot (vector b a) (vector b x)) (pos 0)
    (λ l. not_between points nb.before b nb.after a x nb.follows has_a has_x (from_b a b x flat) l)
    (λ at_b. by_lt_z (dot (vector x a) (vector x b)) (pos 0)
    (λ l. not_between points nx.before x nx.after a b nx.follows has_a has_b (from_x a b x flat) l)
    (λ at_x. by_lt_z (pos 0) (dot (vector a b) (vector a x))
    (λ ahead. not_b (equal_ends a b x (same_vector (vector a b) (vector a x) flat ahead (shorter a.x a.y b.x b.y x.x x.y at_b) (shorter_too a.x a.y b.x b.y x.x x.y at_x))))
    (λ none. not_a (equal_points a x (nothing (vector a b) (vector a x) (long_edge (vector a b) (vector a c) turns) flat (le_antisymm_ℤ none at_a)))))))
  where
    shorter : (ax ay bx by cx cy : ℤ) → pos 0 ≤ℤ ((ax -ℤ bx) *ℤ (cx -ℤ bx) +ℤ (ay -ℤ by) *ℤ (cy -ℤ by)) → ((bx -ℤ ax) *ℤ (cx -ℤ ax) +ℤ (by -ℤ ay) *ℤ (cy -ℤ ay)) ≤ℤ ((bx -ℤ ax) *ℤ (bx -ℤ ax) +ℤ (by -ℤ ay) *ℤ (by -ℤ ay))
    shorter ax ay bx by cx cy h = le_by h (read (ax ∷ ay ∷ bx ∷ by ∷ cx ∷ cy ∷ []) (λ xs a b c d e f. simp (a, b, c, d, e, f, polys) (den-ring xs _ _ tt)))

    shorter_too : (ax ay bx by cx cy : ℤ) → pos 0 ≤ℤ ((ax -ℤ cx) *ℤ (bx -ℤ cx) +ℤ (ay -ℤ cy) *ℤ (by -ℤ cy)) → ((bx -ℤ ax) *ℤ (cx -ℤ ax) +ℤ (by -ℤ ay) *ℤ (cy -ℤ ay)) ≤ℤ ((cx -ℤ ax) *ℤ (cx -ℤ ax) +ℤ (cy -ℤ ay) *ℤ (cy -ℤ ay))
    shorter_too ax ay bx by cx cy h = le_by h (read (ax ∷ ay ∷ bx ∷ by ∷ cx ∷ cy ∷ []) (λ xs a b c d e f. simp (a, b, c, d, e, f, polys) (den-ring xs _ _ tt)))

    -- a vector along another and at right angles to it has no length
    nothing : (s t : PlanePoint) → pos 0 <ℤ squared_length s → cross s t ≡ pos 0 → dot s t ≡ pos 0 → t ≡ origin
    nothing s t long e f = λ i. record { x = same_of_mul (squared_length s) long (in_x s.x s.y t.x t.y e f) i; y = same_of_mul (squared_length s) long (in_y s.x s.y t.x t.y e f) i }
      where
        in_x : (sx sy tx ty : ℤ) → sx *ℤ ty -ℤ sy *ℤ tx ≡ pos 0 → sx *ℤ tx +ℤ sy *ℤ ty ≡ pos 0 → (sx *ℤ sx +ℤ sy *ℤ sy) *ℤ tx ≡ (sx *ℤ sx +ℤ sy *ℤ sy) *ℤ pos 0
        in_x sx sy tx ty e f = combine2 (neg_ℤ sy) sx e f (read (sx ∷ sy ∷ tx ∷ ty ∷ []) (λ xs a b c d. simp (a, b, c, d, polys, lits xs) (den-ring xs _ _ tt)))

        in_y : (sx sy tx ty : ℤ) → sx *ℤ ty -ℤ sy *ℤ tx ≡ pos 0 → sx *ℤ tx +ℤ sy *ℤ ty ≡ pos 0 → (sx *ℤ sx +ℤ sy *ℤ sy) *ℤ ty ≡ (sx *ℤ sx +ℤ sy *ℤ sy) *ℤ pos 0
        in_y sx sy tx ty e f = combine2 sx sy e f (read (sx ∷ sy ∷ tx ∷ ty ∷ []) (λ xs a b c d. simp (a, b, c, d, polys, lits xs) (den-ring xs _ _ tt)))

    equal_points : (a x : PlanePoint) → vector a x ≡ origin → a ≡ x
    equal_points a x e = λ i. record { x = equal a.x x.x (ap (λ (p : PlanePoint). p.x) e) i; y = equal a.y x.y (ap (λ (p : PlanePoint). p.y) e) i }
      where
        equal : (a x : ℤ) → x -ℤ a ≡ pos 0 → a ≡ x
        equal a x e = omega (arith, ints)

-- ---- all other corners are to the left of an edge

left_of_edge : (points xs : List PlanePoint) → AreCornerCycle points xs → (k x : ℕ) → k + 1 < length xs → x < length xs → k ≢ x → k + 1 ≢ x → pos 0 <ℤ turn (point_at xs k) (point_at xs (k + 1)) (point_at xs x)
left_of_edge points xs r k x l m not_k not_next =
    by_lt_z (pos 0) (turn (point_at xs k) (point_at xs (k + 1)) (point_at xs x)) (λ left. left)
    (λ not_left. absurd (apart points (point_at xs k) (point_at xs (k + 1)) (point_at xs x) (around xs (k + 2))
    (neighbours points xs r k (omega arith)) (neighbours points xs r (k + 1) l) (neighbours points xs r x m) (listed k (omega arith)) (listed (k + 1) l) (listed x m)
    (subst (λ b. pos 0 <ℤ turn (point_at xs k) b (around xs (k + 2))) (around-below xs (k + 1) l) (subst (λ a. pos 0 <ℤ turn a (around xs (k + 1)) (around xs (k + 2))) (around-below xs k (omega arith)) (r.left_turns k (omega arith))))
    (different k x (omega arith) m not_k) (different (k + 1) x l m not_next)
    (le_antisymm_ℤ not_left not_right)))
  where
    listed : (i : ℕ) → i < length xs → Contains points (point_at xs i)
    listed i h = All-get_or (Contains points) xs i origin h r.listed

    different : (i j : ℕ) → i < length xs → j < length xs → i ≢ j → point_at xs i ≢ point_at xs j
    different i j h l n = by_order (split i j n)
      where
        split : (i j : ℕ) → i ≢ j → (i < j) ⊎ (j < i)
        split i j n = grind arith

        by_order : (i < j) ⊎ (j < i) → point_at xs i ≢ point_at xs j
        by_order s e = elim s [ inl less ↦ r.distinct i j origin less l e | inr more ↦ r.distinct j i origin more h (sym e) ]

    not_right : pos 0 ≤ℤ turn (point_at xs k) (point_at xs (k + 1)) (point_at xs x)
    not_right =
        subst (λ b. pos 0 ≤ℤ turn (point_at xs k) b (point_at xs x)) (around-below xs (k + 1) l)
        (subst (λ a. pos 0 ≤ℤ turn a (around xs (k + 1)) (point_at xs x)) (around-below xs k (omega arith)) (All-contains (λ q. pos 0 ≤ℤ turn (around xs k) (around xs (k + 1)) q) points (point_at xs x) (r.inside k (omega arith)) (listed x m)))

-- ---- three corners in their order turn left

-- seen from one corner, with all to the left of the edge from it: a turn from u to v, and one from v to w, make one from u to w
turns_on : (e u v w : PlanePoint) → pos 0 ≤ℤ cross e u → pos 0 <ℤ cross e v → pos 0 <ℤ cross e w → pos 0 <ℤ cross u v → pos 0 <ℤ cross v w → pos 0 <ℤ cross u w
turns_on e u v w eu ev ew uv vw =
    positive_of_mul (cross e v) (le_from_lt ev) (subst (λ z. pos 0 <ℤ z) (sym (plain e.x e.y u.x u.y v.x v.y w.x w.y)) (positive_sum (nonneg_mul eu (le_from_lt vw)) (positive_mul ew uv)))
  where
    positive_sum : {a b : ℤ} → pos 0 ≤ℤ a → pos 0 <ℤ b → pos 0 <ℤ (a +ℤ b)
    positive_sum h k = omega (arith, ints)

    plain : (ex ey ux uy vx vy wx wy : ℤ) → (ex *ℤ vy -ℤ ey *ℤ vx) *ℤ (ux *ℤ wy -ℤ uy *ℤ wx) ≡ (ex *ℤ uy -ℤ ey *ℤ ux) *ℤ (vx *ℤ wy -ℤ vy *ℤ wx) +ℤ (ex *ℤ wy -ℤ ey *ℤ wx) *ℤ (ux *ℤ vy -ℤ uy *ℤ vx)
    plain ex ey ux uy vx vy wx wy = read (ex ∷ ey ∷ ux ∷ uy ∷ vx ∷ vy ∷ wx ∷ wy ∷ []) (λ xs a b c d e f g h. simp (a, b, c, d, e, f, g, h, polys) (den-ring xs _ _ tt))

-- to the corner after the second
turns_next : (points xs : List PlanePoint) → AreCornerCycle points xs → (a b : ℕ) → a < b → b + 1 < length xs → pos 0 <ℤ turn (point_at xs a) (point_at xs b) (point_at xs (b + 1))
turns_next points xs r a b h l = subst (λ z. pos 0 <ℤ z) (around_turn (point_at xs a) (point_at xs b) (point_at xs (b + 1))) (left_of_edge points xs r b a l (omega arith) (not_same a b h) (not_next a b h))
  where
    not_same : (a b : ℕ) → a < b → b ≢ a
    not_same a b h e = omega arith

    not_next : (a b : ℕ) → a < b → b + 1 ≢ a
    not_next a b h e = omega arith

    around_turn : (a b c : PlanePoint) → turn b c a ≡ turn a b c
    around_turn a b c = plain a.x a.y b.x b.y c.x c.y
      where
        plain : (ax ay bx by cx cy : ℤ) → (cx -ℤ bx) *ℤ (ay -ℤ by) -ℤ (cy -ℤ by) *ℤ (ax -ℤ bx) ≡ (bx -ℤ ax) *ℤ (cy -ℤ ay) -ℤ (by -ℤ ay) *ℤ (cx -ℤ ax)
        plain ax ay bx by cx cy = read (ax ∷ ay ∷ bx ∷ by ∷ cx ∷ cy ∷ []) (λ xs a b c d e f. simp (a, b, c, d, e, f, polys) (den-ring xs _ _ tt))

-- to the corner so many places after the second
turns_to : (points xs : List PlanePoint) → AreCornerCycle points xs → (a b more : ℕ) → a < b → b + 1 + more < length xs → pos 0 <ℤ turn (point_at xs a) (point_at xs b) (point_at xs (b + 1 + more))
turns_to points xs r a b zero h l = subst (λ c. pos 0 <ℤ turn (point_at xs a) (point_at xs b) (point_at xs c)) (no_more b) (turns_next points xs r a b h (omega arith))
  where
    no_more : (b : ℕ) → b + 1 ≡ b + 1 + 0
    no_more b = omega arith
turns_to points xs r a b (suc more) h l =
    subst (λ c. pos 0 <ℤ turn (point_at xs a) (point_at xs b) (point_at xs c)) (one_more b more)
    (turns_on (vector (point_at xs a) (point_at xs (a + 1))) (vector (point_at xs a) (point_at xs b)) (vector (point_at xs a) (point_at xs (b + 1 + more))) (vector (point_at xs a) (point_at xs (b + 1 + more + 1)))
    at_second (from_edge (b + 1 + more) (omega arith) (omega arith)) (from_edge (b + 1 + more + 1) (omega arith) (omega arith))
    (turns_to points xs r a b more h (omega arith))
    (turns_next points xs r a (b + 1 + more) (omega arith) (omega arith)))
  where
    one_more : (b more : ℕ) → b + 1 + more + 1 ≡ b + 1 + suc more
    one_more b more = omega arith

    from_edge : (c : ℕ) → a + 1 < c → c < length xs → pos 0 <ℤ turn (point_at xs a) (point_at xs (a + 1)) (point_at xs c)
    from_edge c g m = left_of_edge points xs r a c (omega arith) m (not_first a c g) (not_second a c g)
      where
        not_first : (a c : ℕ) → a + 1 < c → a ≢ c
        not_first a c h e = omega arith

        not_second : (a c : ℕ) → a + 1 < c → a + 1 ≢ c
        not_second a c h e = omega arith

    at_second : pos 0 ≤ℤ turn (point_at xs a) (point_at xs (a + 1)) (point_at xs b)
    at_second = by_place (place a b h)
      where
        place : (a b : ℕ) → a < b → (a + 1 ≡ b) ⊎ (a + 1 < b)
        place a b h = grind arith

        by_place : (a + 1 ≡ b) ⊎ (a + 1 < b) → pos 0 ≤ℤ turn (point_at xs a) (point_at xs (a + 1)) (point_at xs b)
        by_place s = elim s [
          | inl e ↦ subst (λ c. pos 0 ≤ℤ turn (point_at xs a) (point_at xs (a + 1)) (point_at xs c)) e (subst (λ z. pos 0 ≤ℤ z) (sym (cross_self (vector (point_at xs a) (point_at xs (a + 1))))) zero_least)
          | inr g ↦ le_from_lt (from_edge b g (omega arith))
        ]
          where
            zero_least : pos 0 ≤ℤ pos 0
            zero_least = omega (arith, ints)

-- three corners in their order turn left
pub turns_left : (points xs : List PlanePoint) → AreCornerCycle points xs → (a b c : ℕ) → a < b → b < c → c < length xs → pos 0 <ℤ turn (point_at xs a) (point_at xs b) (point_at xs c)
turns_left points xs r a b c h k l = by_gap (gap b c k)
  where
    gap : (b c : ℕ) → b < c → (n : ℕ) × (b + 1 + n ≡ c)
    gap b c k = (c - (b + 1), omega arith)

    by_gap : (n : ℕ) × (b + 1 + n ≡ c) → pos 0 <ℤ turn (point_at xs a) (point_at xs b) (point_at xs c)
    by_gap g = subst (λ i. pos 0 <ℤ turn (point_at xs a) (point_at xs b) (point_at xs i)) g.1 (turns_to points xs r a b g.0 h (subst (λ i. i < length xs) (sym g.1) l))
