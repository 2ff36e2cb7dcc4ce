-- No point of a hull is farther from another than one of the corners is.
use Rattle.std.proofs.Common.{◌≡◌, ◌≢◌, sym, ap, subst, ◌∙◌, ◌⊎◌, inl, inr, ℕ, zero, suc, ◌+◌, ◌<◌, ◌%◌, ℤ, pos, neg_ℤ, ◌+ℤ◌, ◌-ℤ◌, ◌*ℤ◌, ◌≤ℤ◌, ◌<ℤ◌, List, [], ◌∷◌, length, arith}
use Rattle.std.specs.Prelude.{All, Contains}
use Rattle.std.proofs.Math.Nat.{mod-lt}
use Rattle.std.proofs.lemmas.Int.{ints, by_lt_z}
use Rattle.std.proofs.lemmas.List.{get_or_default}
use Rattle.std.proofs.lemmas.List.Elements.{All-contains}
use Rattle.integers.proofs.Extremes.{below_greatest, has_greatest}
use Rattle.integers.proofs.Order.{nonneg_mul, nonneg_add, nonneg_of_mul, nonneg_difference, positive_difference, le_from_difference, le_from_lt, le_of_same, le_by, le_total_ℤ, square_nonneg, combine1}
use Rattle.integers.proofs.Identities.{den-ring, read, polys, lits}
use Rattle.bounds_model.specs.Plane.{PlanePoint, point_at, origin, vector, dot, turn, IsBefore, squared_distance}
use Rattle.bounds_model.specs.Hull.{around, AreCorners, AreCornerCycle}
use Rattle.model_laws.proofs.CornerLaw.{around-below}
use Rattle.furthest_laws.proofs.Rounds.{around_again, around_first, around_later}

-- a corner that is at least as far out as p in a direction
abbrev Reaches : List PlanePoint → PlanePoint → PlanePoint → Type 0
Reaches corners w p = (j : ℕ) × (j < length corners) × (dot w p ≤ℤ dot w (point_at corners j))

-- ---- the ends of a line

-- a point that is a part of the way from one end to the other
part_of_way : (m t u v z : ℤ) → pos 0 <ℤ m → pos 0 ≤ℤ t → t ≤ℤ m → m *ℤ (z -ℤ u) ≡ t *ℤ (v -ℤ u) → (z ≤ℤ u) ⊎ (z ≤ℤ v)
part_of_way m t u v z long after before way = elim (le_total_ℤ u v) [
  | inl rises ↦ inr (le_from_difference (nonneg_of_mul m long (subst (λ x. pos 0 ≤ℤ x) (sym (to_end way)) (nonneg_mul (nonneg_difference before) (nonneg_difference rises)))))
  | inr falls ↦ inl (le_from_difference (nonneg_of_mul m long (subst (λ x. pos 0 ≤ℤ x) (sym (to_start way)) (nonneg_mul after (nonneg_difference falls)))))
]
  where
    to_end : m *ℤ (z -ℤ u) ≡ t *ℤ (v -ℤ u) → m *ℤ (v -ℤ z) ≡ (m -ℤ t) *ℤ (v -ℤ u)
    to_end e = combine1 (pos 1) (sym e) (read (m ∷ t ∷ u ∷ v ∷ z ∷ []) (λ xs a b c d f. simp (a, b, c, d, f, polys, lits xs) (den-ring xs _ _ tt)))

    to_start : m *ℤ (z -ℤ u) ≡ t *ℤ (v -ℤ u) → m *ℤ (u -ℤ z) ≡ t *ℤ (u -ℤ v)
    to_start e = combine1 (pos 1) (sym e) (read (m ∷ t ∷ u ∷ v ∷ z ∷ []) (λ xs a b c d f. simp (a, b, c, d, f, polys, lits xs) (den-ring xs _ _ tt)))

-- on a line, one end is at least as far out
end_reaches : (w a b p : PlanePoint) → a ≢ b → turn a b p ≡ pos 0 → IsBefore a b → IsBefore a p → IsBefore p b → (dot w p ≤ℤ dot w a) ⊎ (dot w p ≤ℤ dot w b)
end_reaches w a b p other flat ab to_p from_p = by_lt_z a.x b.x
    (λ right. part_of_way (b.x -ℤ a.x) (p.x -ℤ a.x) (dot w a) (dot w b) (dot w p) (positive_difference right) (nonneg_difference (not_left a p to_p)) (shift a.x (not_left p b from_p)) (across flat))
    (λ straight.
    let level : b.x -ℤ a.x ≡ pos 0 = same_x (not_left a b ab) straight in
    let up : a.y <ℤ b.y = above straight ab in
    part_of_way (b.y -ℤ a.y) (p.y -ℤ a.y) (dot w a) (dot w b) (dot w p) (positive_difference up) (nonneg_difference (over (not_left p b from_p) straight to_p))
    (shift a.y (over' (not_left a p to_p) straight from_p)) (upwards flat))
  where
    not_left : (a b : PlanePoint) → IsBefore a b → a.x ≤ℤ b.x
    not_left a b h = elim h [ inl l ↦ le_from_lt l | inr e ↦ le_of_same e.0 ]

    shift : {x y : ℤ} (z : ℤ) → x ≤ℤ y → (x -ℤ z) ≤ℤ (y -ℤ z)
    shift z h = omega (arith, ints)

    same_x : a.x ≤ℤ b.x → b.x ≤ℤ a.x → b.x -ℤ a.x ≡ pos 0
    same_x h k = omega (arith, ints)

    above : b.x ≤ℤ a.x → IsBefore a b → a.y <ℤ b.y
    above h k = elim k [
      | inl l ↦ absurd (clash l h)
      | inr e ↦ by_lt_z a.y b.y (λ l. l) (λ m. absurd (other (λ i. record { x = e.0 i; y = le_both e.1 m i })))
    ]
      where
        clash : {x y : ℤ} → x <ℤ y → y ≤ℤ x → ⊥
        clash h k = omega (arith, ints)

        le_both : {x y : ℤ} → x ≤ℤ y → y ≤ℤ x → x ≡ y
        le_both h k = omega (arith, ints)

    over : p.x ≤ℤ b.x → b.x ≤ℤ a.x → IsBefore a p → a.y ≤ℤ p.y
    over h k q = elim q [ inl l ↦ absurd (clash l h k) | inr e ↦ e.1 ]
      where
        clash : {x y z : ℤ} → x <ℤ y → y ≤ℤ z → z ≤ℤ x → ⊥
        clash h k l = omega (arith, ints)

    over' : a.x ≤ℤ p.x → b.x ≤ℤ a.x → IsBefore p b → p.y ≤ℤ b.y
    over' h k q = elim q [ inl l ↦ absurd (clash l h k) | inr e ↦ e.1 ]
      where
        clash : {x y z : ℤ} → x <ℤ y → z ≤ℤ x → y ≤ℤ z → ⊥
        clash h k l = omega (arith, ints)

    across : turn a b p ≡ pos 0 → (b.x -ℤ a.x) *ℤ (dot w p -ℤ dot w a) ≡ (p.x -ℤ a.x) *ℤ (dot w b -ℤ dot w a)
    across e = combine1 w.y e (read (w.x ∷ w.y ∷ a.x ∷ a.y ∷ b.x ∷ b.y ∷ p.x ∷ p.y ∷ []) (λ xs q r s t u v y z. simp (q, r, s, t, u, v, y, z, polys, lits xs) (den-ring xs _ _ tt)))

    upwards : turn a b p ≡ pos 0 → (b.y -ℤ a.y) *ℤ (dot w p -ℤ dot w a) ≡ (p.y -ℤ a.y) *ℤ (dot w b -ℤ dot w a)
    upwards e = combine1 (neg_ℤ w.x) e (read (w.x ∷ w.y ∷ a.x ∷ a.y ∷ b.x ∷ b.y ∷ p.x ∷ p.y ∷ []) (λ xs q r s t u v y z. simp (q, r, s, t, u, v, y, z, polys, lits xs) (den-ring xs _ _ tt)))

-- ---- a corner between two edges

-- a point between two edges, by how far out the corners are
wedge : (w a b c p : PlanePoint) → turn a b c *ℤ (dot w b -ℤ dot w p) ≡ (dot w b -ℤ dot w a) *ℤ turn b c p +ℤ (dot w b -ℤ dot w c) *ℤ turn a b p
wedge w a b c p = read (w.x ∷ w.y ∷ a.x ∷ a.y ∷ b.x ∷ b.y ∷ c.x ∷ c.y ∷ p.x ∷ p.y ∷ []) (λ xs d e f g h i j k l m. simp (d, e, f, g, h, i, j, k, l, m, polys) (den-ring xs _ _ tt))

-- where a corner is no less far out than its neighbours, no point is farther out
out_at_corner : (w a b c p : PlanePoint) → pos 0 <ℤ turn a b c → pos 0 ≤ℤ turn a b p → pos 0 ≤ℤ turn b c p → dot w a ≤ℤ dot w b → dot w c ≤ℤ dot w b → dot w p ≤ℤ dot w b
out_at_corner w a b c p turns ab bc low high =
    le_from_difference (nonneg_of_mul (turn a b c) turns (subst (λ v. pos 0 ≤ℤ v) (sym (wedge w a b c p))
    (nonneg_add (nonneg_mul (nonneg_difference low) bc) (nonneg_mul (nonneg_difference high) ab))))

-- all points are to the left of each edge
left_of : (points corners : List PlanePoint) → 0 < length corners → AreCornerCycle points corners → (i : ℕ) → All (λ p. pos 0 ≤ℤ turn (around corners i) (around corners (i + 1)) p) points
left_of points corners some h i =
    subst (λ v. All (λ p. pos 0 ≤ℤ turn v (around corners (i + 1)) p) points) (around_first corners i)
    (subst (λ v. All (λ p. pos 0 ≤ℤ turn (around corners (i % length corners)) v p) points) (around_later corners i 1) (h.inside (i % length corners) (mod-lt i some)))

turns_at : (points corners : List PlanePoint) → 0 < length corners → AreCornerCycle points corners → (i : ℕ) → pos 0 <ℤ turn (around corners i) (around corners (i + 1)) (around corners (i + 2))
turns_at points corners some h i =
    subst (λ v. pos 0 <ℤ turn v (around corners (i + 1)) (around corners (i + 2))) (around_first corners i)
    (subst (λ v. pos 0 <ℤ turn (around corners (i % length corners)) v (around corners (i + 2))) (around_later corners i 1)
    (subst (λ v. pos 0 <ℤ turn (around corners (i % length corners)) (around corners (i % length corners + 1)) v) (around_later corners i 2) (h.left_turns (i % length corners) (mod-lt i some))))

-- the corner that is furthest out is at least as far out as all points
cycle_reaches : (points corners : List PlanePoint) (w p : PlanePoint) → 0 < length corners → AreCornerCycle points corners → Contains points p → Reaches corners w p
cycle_reaches points corners w p some h listed =
    let top = has_greatest (dot w) corners some in
    let j = top.1.0 in
    let is : point_at corners j ≡ top.0 = get_or_default corners j origin top.0 top.1.1 ∙ top.1.2 in
    let most : (k : ℕ) → dot w (around corners k) ≤ℤ dot w (point_at corners j) = λ k.
    subst (λ z. dot w (around corners k) ≤ℤ z) (top.2 ∙ ap (dot w) (sym is)) (below_greatest (dot w) corners (k % length corners) origin (mod-lt k some)) in
    let less = one_less (length corners) some in
    let i = j + less.0 in
    let here : around corners (i + 1) ≡ point_at corners j = ap (around corners) (let e : i + 1 ≡ j + length corners = omega (arith, less.1) in e) ∙ around_again corners j
    ∙ around-below corners j top.1.1 in
    let at : (k : ℕ) → dot w (around corners k) ≤ℤ dot w (around corners (i + 1)) = λ k. subst (λ c. dot w (around corners k) ≤ℤ dot w c) (sym here) (most k) in (
      j,
      top.1.1,
      subst (λ c. dot w p ≤ℤ dot w c) here
          (out_at_corner w (around corners i) (around corners (i + 1)) (around corners (i + 2)) p (turns_at points corners some h i)
          (All-contains (λ q. pos 0 ≤ℤ turn (around corners i) (around corners (i + 1)) q) points p (left_of points corners some h i) listed)
          (subst (λ n. pos 0 ≤ℤ turn (around corners (i + 1)) (around corners n) p) (let e : i + 1 + 1 ≡ i + 2 = omega arith in e)
          (All-contains (λ q. pos 0 ≤ℤ turn (around corners (i + 1)) (around corners (i + 1 + 1)) q) points p (left_of points corners some h (i + 1)) listed))
          (at i) (at (i + 2))),
    )
  where
    one_less : (n : ℕ) → 0 < n → (g : ℕ) × (n ≡ g + 1)
    one_less zero h = absurd (omega (arith, h))
    one_less (suc g) h = (g, omega arith)

-- some corner of a hull is
reaches : (points corners : List PlanePoint) (w p : PlanePoint) → AreCorners points corners → Contains points p → Reaches corners w p
reaches points [] w p h listed = absurd h
reaches points (a ∷ []) w p h listed = (0, omega arith, le_of_same (ap (dot w) (All-contains (λ q. q ≡ a) points p h.only listed)))
reaches points (a ∷ b ∷ []) w p h listed =
    elim (end_reaches w a b p h.distinct (All-contains (λ q. turn a b q ≡ pos 0) points p h.on_line listed) (All-contains (IsBefore a) points b h.from_least.least h.to_greatest.listed)
    (All-contains (IsBefore a) points p h.from_least.least listed)
    (All-contains (λ q. IsBefore q b) points p h.to_greatest.greatest listed)) [
      | inl first ↦ (0, omega arith, first)
      | inr second ↦ (1, omega arith, second)
    ]
reaches points (a ∷ b ∷ c ∷ rest) w p h listed = cycle_reaches points (a ∷ b ∷ c ∷ rest) w p (omega arith) h listed

-- ---- distances

-- how much farther from q a point c is than p
farther_by : (q p c : PlanePoint) → squared_distance q c -ℤ squared_distance q p ≡ squared_distance p c +ℤ pos 2 *ℤ (dot (vector q p) c -ℤ dot (vector q p) p)
farther_by q p c = read (q.x ∷ q.y ∷ p.x ∷ p.y ∷ c.x ∷ c.y ∷ []) (λ xs d e f g h i. simp (d, e, f, g, h, i, polys, lits xs) (den-ring xs _ _ tt))

-- from either end the distance is the same
pub same_distance : (a b : PlanePoint) → squared_distance a b ≡ squared_distance b a
same_distance a b = read (a.x ∷ a.y ∷ b.x ∷ b.y ∷ []) (λ xs d e f g. simp (d, e, f, g, polys) (den-ring xs _ _ tt))

-- some corner is at least as far from q as p is
pub corner_as_far : (points corners : List PlanePoint) (q p : PlanePoint) → AreCorners points corners → Contains points p
    → (j : ℕ) × (j < length corners) × (squared_distance q p ≤ℤ squared_distance q (point_at corners j))
corner_as_far points corners q p h listed =
    let out = reaches points corners (vector q p) p h listed in
    let c = point_at corners out.0 in
    (out.0, out.1, le_by (nonneg_add (nonneg_add (square_nonneg (c.x -ℤ p.x)) (square_nonneg (c.y -ℤ p.y))) (nonneg_mul (two) (nonneg_difference out.2))) (farther_by q p c))
  where
    two : pos 0 ≤ℤ pos 2
    two = omega (arith, ints)
