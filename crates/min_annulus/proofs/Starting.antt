-- The triangle that the walk begins with.
use Rattle.std.proofs.Common.{◌≡◌, sym, ◌∙◌, ap₂, subst, ◌^◌, ℤ, pos, ◌+ℤ◌, ◌-ℤ◌, ◌*ℤ◌, neg_ℤ, ◌≤ℤ◌, ◌<ℤ◌, List, [], ◌∷◌, arith}
use Rattle.std.proofs.lemmas.Int.{ints, by_lt_z}
use Rattle.integers.specs.Size.{Size}
use Rattle.integers.proofs.Sizes.{size_sub, below_size, above_size}
use Rattle.integers.proofs.Identities.{den-ring, read, polys, lits}
use Rattle.bounds_model.specs.Plane.{PlanePoint, point_at}
use Rattle.min_annulus.specs.declared.difference_vectors.DifferenceVector.{DifferenceVector}
use Rattle.min_annulus.specs.declared.pairs.Pair.{Pair}
use Rattle.min_annulus.specs.DifferenceVectors.{difference_of, IsDifference, IsAround, side, scale, cross, toward, IsAhead}
use Rattle.min_annulus.specs.Pairs.{IsPair}
use Rattle.min_annulus.specs.Triangles.{IsTriangle}

-- n M² outweighs what a line's direction adds
outweighs : (n p q : ℤ) → Size 800000 p → Size 800000 q → pos 0 <ℤ n → pos 0 <ℤ (n *ℤ (scale *ℤ scale) +ℤ (p *ℤ scale +ℤ q))
outweighs n p q hp hq h =
    let pa = above_size hp in
    let qa = above_size hq in
    omega (arith, ints)

-- so a way that turns left around the origin does so around the target
pub left_of : (a b : DifferenceVector) → IsDifference a → IsDifference b → pos 0 <ℤ cross a b → pos 0 <ℤ side a b
left_of a b ha hb h = outweighs (cross a b) (a.y -ℤ b.y) (b.x -ℤ a.x) (size_sub ha.y hb.y) (size_sub hb.x ha.x) h

plain_back : (px py qx qy fx fy : ℤ) → fx *ℤ (qy -ℤ py) -ℤ fy *ℤ (qx -ℤ px) ≡ (px -ℤ qx) *ℤ fy -ℤ (py -ℤ qy) *ℤ fx
plain_back px py qx qy fx fy = read (px ∷ py ∷ qx ∷ qy ∷ fx ∷ fy ∷ []) (λ xs a b c d e f. simp (a, b, c, d, e, f, polys) (den-ring xs _ _ tt))

plain_toward : (m px py qx qy : ℤ)
    → ((qx -ℤ px) *ℤ (py -ℤ qy) -ℤ (qy -ℤ py) *ℤ (px -ℤ qx)) *ℤ (m *ℤ m) +ℤ (((qy -ℤ py) -ℤ (py -ℤ qy)) *ℤ m +ℤ ((px -ℤ qx) -ℤ (qx -ℤ px)))
    ≡ pos 2 *ℤ ((px -ℤ qx) -ℤ m *ℤ (py -ℤ qy))
plain_toward m px py qx qy = read (m ∷ px ∷ py ∷ qx ∷ qy ∷ []) (λ xs a b c d e. simp (a, b, c, d, e, polys, lits xs) (den-ring xs _ _ tt))

around_points : (p q : PlanePoint) (f : DifferenceVector) → IsDifference (difference_of p q) → IsDifference (difference_of q p) → IsDifference f → pos 0 <ℤ toward (difference_of p q) → pos 0 <ℤ cross (difference_of p q) f → IsAround (difference_of p q) f (difference_of q p)
around_points p q f he hc hf near left = record {
  ab = left_of (difference_of p q) f he hf left;
  bc = left_of f (difference_of q p) hf hc (subst (λ z. pos 0 <ℤ z) (sym (plain_back p.x p.y q.x q.y f.x f.y)) left);
  ca = subst (λ z. pos 0 <ℤ z) (sym (plain_toward scale p.x p.y q.x q.y)) (twice near);
}
  where
    twice : {z : ℤ} → pos 0 <ℤ z → pos 0 <ℤ (pos 2 *ℤ z)
    twice h = omega (arith, ints)

-- the triangle of a pair, another, and the first turned round
pub start_is : (points : List PlanePoint) (e f c : Pair) → IsPair points e → IsPair points f → IsPair points c → c.first ≡ e.second → c.second ≡ e.first
    → pos 0 <ℤ toward e.difference → pos 0 <ℤ cross e.difference f.difference → IsTriangle points (record { a = e; b = f; c = c })
start_is points e f c he hf hc first second near left = record {
  a = he;
  b = hf;
  c = hc;
  around = subst (λ d. IsAround e.difference f.difference d) (sym back) (subst (λ d. IsAround d f.difference (difference_of q p)) (sym he.difference)
      (around_points p q f.difference (subst IsDifference he.difference he.within) (subst IsDifference back hc.within) hf.within
      (subst (λ d. pos 0 <ℤ toward d) he.difference near) (subst (λ d. pos 0 <ℤ cross d f.difference) he.difference left)));
}
  where
    p : PlanePoint
    p = point_at points e.first

    q : PlanePoint
    q = point_at points e.second

    back : c.difference ≡ difference_of q p
    back = hc.difference ∙ ap₂ (λ i j. difference_of (point_at points i) (point_at points j)) first second

-- ---- on which side the target is

-- a difference that is ahead, not up and not nothing has the target on its left
ahead_down : (x y : ℤ) → Size 400000 x → Size 400000 y → pos 0 ≤ℤ (pos (2 ^ 19) *ℤ x +ℤ y) → y ≤ℤ pos 0 → (x ≡ pos 0 → y ≡ pos 0 → ⊥) → pos 0 <ℤ (x -ℤ scale *ℤ y)
ahead_down x y hx hy ahead down some =
    by_lt_z (pos 0) (x -ℤ scale *ℤ y) (λ l. l)
    (λ h. let xa = below_size hx in let xb = above_size hx in let ya = below_size hy in let yb = above_size hy in
    absurd (some (omega (arith, ints)) (omega (arith, ints))))

-- one that is up has it on its right
back_up : (x y : ℤ) → Size 400000 x → pos 0 <ℤ y → pos 0 <ℤ (neg_ℤ x -ℤ scale *ℤ neg_ℤ y)
back_up x y hx up = let xa = below_size hx in omega (arith, ints)

plain_none : (fx fy : ℤ) → pos 0 *ℤ fy -ℤ pos 0 *ℤ fx ≡ pos 0
plain_none fx fy = omega (arith, ints)

-- a difference with a cross product is not nothing
something : (e f : DifferenceVector) → pos 0 <ℤ cross e f → e.x ≡ pos 0 → e.y ≡ pos 0 → ⊥
something e f left x y = clash (subst (λ z. pos 0 <ℤ z) (ap₂ (λ a b. a *ℤ f.y -ℤ b *ℤ f.x) x y ∙ plain_none f.x f.y) left)
  where
    clash : pos 0 <ℤ pos 0 → ⊥
    clash h = omega (arith, ints)

-- the pair itself, where it is not up
pub toward_down : (e f : DifferenceVector) → IsDifference e → IsAhead e → pos 0 <ℤ cross e f → e.y ≤ℤ pos 0 → pos 0 <ℤ toward e
toward_down e f he ahead left down = ahead_down e.x e.y he.x he.y ahead down (something e f left)

plain_turned_back : (px qx : ℤ) → qx -ℤ px ≡ neg_ℤ (px -ℤ qx)
plain_turned_back px qx = omega (arith, ints)

plain_both_back : (px py qx qy rx ry sx sy : ℤ) → (qx -ℤ px) *ℤ (sy -ℤ ry) -ℤ (qy -ℤ py) *ℤ (sx -ℤ rx) ≡ (px -ℤ qx) *ℤ (ry -ℤ sy) -ℤ (py -ℤ qy) *ℤ (rx -ℤ sx)
plain_both_back px py qx qy rx ry sx sy = read (px ∷ py ∷ qx ∷ qy ∷ rx ∷ ry ∷ sx ∷ sy ∷ []) (λ xs a b c d e f g h. simp (a, b, c, d, e, f, g, h, polys) (den-ring xs _ _ tt))

-- both pairs turned round, where it is
pub start_turned : (points : List PlanePoint) (e f back other : Pair) → IsPair points e → IsPair points f → IsPair points back → IsPair points other
    → back.first ≡ e.second → back.second ≡ e.first → other.first ≡ f.second → other.second ≡ f.first
    → pos 0 <ℤ e.difference.y → pos 0 <ℤ cross e.difference f.difference → IsTriangle points (record { a = back; b = other; c = e })
start_turned points e f back other he hf hback hother first second of_first of_second up left =
    start_is points back other e hback hother he (sym second) (sym first)
    (subst (λ d. pos 0 <ℤ toward d) (sym back_is) (subst (λ y. pos 0 <ℤ ((q.x -ℤ p.x) -ℤ scale *ℤ y)) (sym (plain_turned_back p.y q.y)) (subst (λ x. pos 0 <ℤ (x -ℤ scale *ℤ neg_ℤ (p.y -ℤ q.y))) (sym (plain_turned_back p.x q.x))
    (back_up (p.x -ℤ q.x) (p.y -ℤ q.y) (subst (λ d. Size 400000 d.x) he.difference he.within.x) (subst (λ d. pos 0 <ℤ d.y) he.difference up)))))
    (subst (λ d. pos 0 <ℤ cross d other.difference) (sym back_is) (subst (λ d. pos 0 <ℤ cross (difference_of q p) d) (sym other_is)
    (subst (λ z. pos 0 <ℤ z) (sym (plain_both_back p.x p.y q.x q.y r.x r.y s.x s.y)) (subst (λ d. pos 0 <ℤ cross d (difference_of r s)) he.difference (subst (λ d. pos 0 <ℤ cross e.difference d) hf.difference left)))))
  where
    p : PlanePoint
    p = point_at points e.first

    q : PlanePoint
    q = point_at points e.second

    r : PlanePoint
    r = point_at points f.first

    s : PlanePoint
    s = point_at points f.second

    back_is : back.difference ≡ difference_of q p
    back_is = hback.difference ∙ ap₂ (λ i j. difference_of (point_at points i) (point_at points j)) first second

    other_is : other.difference ≡ difference_of s r
    other_is = hother.difference ∙ ap₂ (λ i j. difference_of (point_at points i) (point_at points j)) of_first of_second
