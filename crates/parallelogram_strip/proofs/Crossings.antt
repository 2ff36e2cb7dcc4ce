-- Where the line across a direction passes between the vectors of two neighbouring cones, from their lowest to their highest points.
use Rattle.std.proofs.Common.{◌≡◌, sym, ◌∙◌, ap, subst, ℕ, ◌+◌, ◌<◌, ◌≤◌, inl, inr, ℤ, pos, ◌+ℤ◌, ◌-ℤ◌, ◌*ℤ◌, neg_ℤ, ◌≤ℤ◌, List, [], ◌∷◌, arith}
use Rattle.std.proofs.Math.Nat.{eq-or-lt_of_le}
use Rattle.std.proofs.lemmas.Int.{ints}
use Rattle.integers.proofs.Identities.{den-ring, read, polys}
use Rattle.integers.proofs.Order.{le_from_lt, combine2}
use Rattle.bounds_model.specs.Plane.{PlanePoint, point_at, vector, dot, cross, turn, plus, times, quarter_turn}
use Rattle.bounds_model.specs.Fans.{HalfCone, reach}
use Rattle.bounds_model.specs.ParallelogramAnswer.{Chord, IsAcross}
use Rattle.directions.proofs.Reaches.{reach_turned}
use Rattle.parallelogram_strip.specs.Crossings.{reach_of}
use Rattle.parallelogram_strip.proofs.Turning.{dot_between}
use Rattle.parallelogram_strip.proofs.FullTurn.{IsFullTurn}
use Rattle.model_laws.proofs.Reaches.{reach_nonneg}

-- ---- ahead and behind, as the direction turns

-- at a direction the vector of its own cone lies ahead
pub ahead_at_start : {points : List PlanePoint} {m : ℕ} {at : ℕ → HalfCone} → IsFullTurn points m at → (j : ℕ) → j < m → pos 0 ≤ℤ reach_of points (at j).direction (at j)
ahead_at_start {points} {m} {at} h j l = reach_nonneg points (at j).direction (at j).high (at j).low (h.named j (omega arith)).1 (h.begins j (omega arith))

-- and the vector half a turn later behind
pub behind_at_end : {points : List PlanePoint} {m : ℕ} {at : ℕ → HalfCone} → IsFullTurn points m at → (j : ℕ) → j < m → reach_of points (at j).direction (at (j + m)) ≤ℤ pos 0
behind_at_end {points} {m} {at} h j l =
    subst (λ cone. reach_of points (at j).direction cone ≤ℤ pos 0) (sym (h.back j l))
    (subst (λ z. z ≤ℤ pos 0) (sym (reach_turned points (at j).direction (at j).high (at j).low)) (below (ahead_at_start h j l)))
  where
    below : {z : ℤ} → pos 0 ≤ℤ z → neg_ℤ z ≤ℤ pos 0
    below h = omega (arith, ints)

-- what lies ahead at a direction lies ahead at the next one too, unless it is left behind by it
pub ahead_at_next : {points : List PlanePoint} {m : ℕ} {at : ℕ → HalfCone} → IsFullTurn points m at → (j i : ℕ) → j + 1 < m → j + 1 ≤ i → i < j + m → pos 0 ≤ℤ reach_of points (at j).direction (at i) → pos 0 ≤ℤ reach_of points (at (j + 1)).direction (at i)
ahead_at_next {points} {m} {at} h j i l n o ahead =
    elim (eq-or-lt_of_le n) [
      | inl e ↦ subst (λ k. pos 0 ≤ℤ reach_of points (at (j + 1)).direction (at k)) e (ahead_at_start h (j + 1) l)
      | inr p ↦
          dot_between (at j).direction (at i).direction (at (j + 1)).direction (vector (point_at points (at i).low) (point_at points (at i).high))
          (record {
            turns = h.left j i (omega arith) (omega arith) o;
            left = le_from_lt (h.left j (j + 1) (omega arith) (omega arith) (omega arith));
            right = le_from_lt (h.left (j + 1) i l p (omega arith));
          })
          ahead
          (reach_nonneg points (at i).direction (at i).high (at i).low (h.named i (omega arith)).1 (h.begins i (omega arith)))
    ]

-- ---- the chord between two vectors from one point

-- of which one lies ahead and one behind: the weights are the products with the direction, each taken of the other
pub chord_across : (d a b c : PlanePoint) → plus (times (neg_ℤ (dot d (vector a c))) (vector a b)) (times (dot d (vector a b)) (vector a c)) ≡ times (turn a b c) (quarter_turn d)
chord_across d a b c = λ i. record { x = at_x d.x d.y (b.x -ℤ a.x) (b.y -ℤ a.y) (c.x -ℤ a.x) (c.y -ℤ a.y) i; y = at_y d.x d.y (b.x -ℤ a.x) (b.y -ℤ a.y) (c.x -ℤ a.x) (c.y -ℤ a.y) i }
  where
    at_x : (dx dy px py qx qy : ℤ) → neg_ℤ (dx *ℤ qx +ℤ dy *ℤ qy) *ℤ px +ℤ (dx *ℤ px +ℤ dy *ℤ py) *ℤ qx ≡ (px *ℤ qy -ℤ py *ℤ qx) *ℤ neg_ℤ dy
    at_x dx dy px py qx qy = read (dx ∷ dy ∷ px ∷ py ∷ qx ∷ qy ∷ []) (λ xs a b c d e f. simp (a, b, c, d, e, f, polys) (den-ring xs _ _ tt))

    at_y : (dx dy px py qx qy : ℤ) → neg_ℤ (dx *ℤ qx +ℤ dy *ℤ qy) *ℤ py +ℤ (dx *ℤ px +ℤ dy *ℤ py) *ℤ qy ≡ (px *ℤ qy -ℤ py *ℤ qx) *ℤ dx
    at_y dx dy px py qx qy = read (dx ∷ dy ∷ px ∷ py ∷ qx ∷ qy ∷ []) (λ xs a b c d e f. simp (a, b, c, d, e, f, polys) (den-ring xs _ _ tt))

-- ---- the strip that cuts the chord out

-- a chord across d, both of whose vectors reach h along e: weights times h is the factor times the cross product of d and e
pub chord_extent : (points : List PlanePoint) (d e : PlanePoint) (chord : Chord) (h : ℤ) → IsAcross points d chord → reach points e chord.b chord.a ≡ h → reach points e chord.c chord.a ≡ h → (chord.beta +ℤ chord.gamma) *ℤ h ≡ chord.k *ℤ cross d e
chord_extent points d e chord h across to_b to_c =
    let a = point_at points chord.a in
    let b = point_at points chord.b in
    let c = point_at points chord.c in
    plain d.x d.y e.x e.y chord.beta chord.gamma chord.k h (b.x -ℤ a.x) (b.y -ℤ a.y) (c.x -ℤ a.x) (c.y -ℤ a.y) (ap (λ z. z.x) across) (ap (λ z. z.y) across) to_b to_c
  where
    plain : (dx dy ex ey b g k h px py qx qy : ℤ) → b *ℤ px +ℤ g *ℤ qx ≡ k *ℤ neg_ℤ dy → b *ℤ py +ℤ g *ℤ qy ≡ k *ℤ dx → ex *ℤ px +ℤ ey *ℤ py ≡ h → ex *ℤ qx +ℤ ey *ℤ qy ≡ h
        → (b +ℤ g) *ℤ h ≡ k *ℤ (dx *ℤ ey -ℤ dy *ℤ ex)
    plain dx dy ex ey b g k h px py qx qy x y p q =
        combine2 b g (sym p) (sym q) (read (ex ∷ ey ∷ b ∷ g ∷ h ∷ px ∷ py ∷ qx ∷ qy ∷ []) (λ xs a b c d e f g h i. simp (a, b, c, d, e, f, g, h, i, polys) (den-ring xs _ _ tt)))
        ∙ with_direction dx dy ex ey b g k px py qx qy x y
      where
        with_direction : (dx dy ex ey b g k px py qx qy : ℤ) → b *ℤ px +ℤ g *ℤ qx ≡ k *ℤ neg_ℤ dy → b *ℤ py +ℤ g *ℤ qy ≡ k *ℤ dx
            → b *ℤ (ex *ℤ px +ℤ ey *ℤ py) +ℤ g *ℤ (ex *ℤ qx +ℤ ey *ℤ qy) ≡ k *ℤ (dx *ℤ ey -ℤ dy *ℤ ex)
        with_direction dx dy ex ey b g k px py qx qy x y =
            combine2 ex ey x y (read (dx ∷ dy ∷ ex ∷ ey ∷ b ∷ g ∷ k ∷ px ∷ py ∷ qx ∷ qy ∷ []) (λ xs a b c d e f g h i j k. simp (a, b, c, d, e, f, g, h, i, j, k, polys) (den-ring xs _ _ tt)))
