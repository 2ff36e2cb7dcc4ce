-- How far points reach in a direction: along the directions of a cone, and within the bounds of a strip.
use Rattle.std.proofs.Common.{◌≡◌, subst, ℕ, ◌<◌, ℤ, pos, ◌+ℤ◌, ◌-ℤ◌, ◌*ℤ◌, neg_ℤ, ◌≤ℤ◌, ◌<ℤ◌, List, [], ◌∷◌, length, arith}
use Rattle.std.specs.Prelude.{All, slice_index_or}
use Rattle.std.proofs.lemmas.Int.{ints}
use Rattle.integers.proofs.Identities.{den-ring, read, polys, lits}
use Rattle.integers.proofs.Order.{nonneg_mul, nonneg_add, positive_mul, positive_add, square_nonneg, le_by, lt_by, le_of_mul_le, lt_of_mul_lt, mul_le_both, nonneg_difference, positive_difference, le_from_lt, le_trans_ℤ, nonneg_neg}
use Rattle.integers.proofs.Cone.{cone, cone_above}
use Rattle.bounds_model.specs.Plane.{PlanePoint, origin, point_at, dot, cross, squared_length}
use Rattle.bounds_model.specs.Strip.{Span, IsInSpan, extent}
use Rattle.bounds_model.specs.Fans.{reach}
use Rattle.optimality.proofs.Bounds.{one-times}
use Rattle.optimality.proofs.FanCones.{IsBetween, opposite}

-- ---- between two directions: |d e| u = |u e| d + |d u| e, where |d e| is the cross product

-- a product with a vector that is not below 0 at both ends of a cone is not below 0 between them
pub dot_between : (d e u h : PlanePoint) → IsBetween d e u → pos 0 ≤ℤ dot d h → pos 0 ≤ℤ dot e h → pos 0 ≤ℤ dot u h
dot_between d e u h b at_d at_e = plain d.x d.y e.x e.y u.x u.y h.x h.y b.turns b.left b.right at_d at_e
  where
    plain : (dx dy ex ey ux uy hx hy : ℤ) → pos 0 <ℤ (dx *ℤ ey -ℤ dy *ℤ ex) → pos 0 ≤ℤ (dx *ℤ uy -ℤ dy *ℤ ux) → (ex *ℤ uy -ℤ ey *ℤ ux) ≤ℤ pos 0
        → pos 0 ≤ℤ (dx *ℤ hx +ℤ dy *ℤ hy) → pos 0 ≤ℤ (ex *ℤ hx +ℤ ey *ℤ hy) → pos 0 ≤ℤ (ux *ℤ hx +ℤ uy *ℤ hy)
    plain dx dy ex ey ux uy hx hy turns left right at_d at_e =
        le_of_mul_le (dx *ℤ ey -ℤ dy *ℤ ex) turns
        (le_by (nonneg_add (nonneg_mul (nonneg_neg right) at_d) (nonneg_mul left at_e))
        (read (dx ∷ dy ∷ ex ∷ ey ∷ ux ∷ uy ∷ hx ∷ hy ∷ []) (λ xs a b c d e f g h. simp (a, b, c, d, e, f, g, h, polys, lits xs) (den-ring xs _ _ tt))))

-- the product at a direction between two others, times the square of their cross product
at_between : (N D dx dy ex ey ux uy hx hy kx ky : ℤ)
    → (dx *ℤ ey -ℤ dy *ℤ ex) *ℤ (dx *ℤ ey -ℤ dy *ℤ ex) *ℤ ((ux *ℤ hx +ℤ uy *ℤ hy) *ℤ (ux *ℤ kx +ℤ uy *ℤ ky) *ℤ D) -ℤ (dx *ℤ ey -ℤ dy *ℤ ex) *ℤ (dx *ℤ ey -ℤ dy *ℤ ex) *ℤ (N *ℤ (ux *ℤ ux +ℤ uy *ℤ uy))
    ≡ (neg_ℤ (ex *ℤ uy -ℤ ey *ℤ ux) *ℤ (dx *ℤ hx +ℤ dy *ℤ hy) +ℤ (dx *ℤ uy -ℤ dy *ℤ ux) *ℤ (ex *ℤ hx +ℤ ey *ℤ hy)) *ℤ (neg_ℤ (ex *ℤ uy -ℤ ey *ℤ ux) *ℤ ((dx *ℤ kx +ℤ dy *ℤ ky) *ℤ D) +ℤ (dx *ℤ uy -ℤ dy *ℤ ux) *ℤ ((ex *ℤ kx +ℤ ey *ℤ ky) *ℤ D))
    -ℤ N *ℤ ((neg_ℤ (ex *ℤ uy -ℤ ey *ℤ ux) *ℤ dx +ℤ (dx *ℤ uy -ℤ dy *ℤ ux) *ℤ ex) *ℤ (neg_ℤ (ex *ℤ uy -ℤ ey *ℤ ux) *ℤ dx +ℤ (dx *ℤ uy -ℤ dy *ℤ ux) *ℤ ex) +ℤ (neg_ℤ (ex *ℤ uy -ℤ ey *ℤ ux) *ℤ dy +ℤ (dx *ℤ uy -ℤ dy *ℤ ux) *ℤ ey) *ℤ (neg_ℤ (ex *ℤ uy -ℤ ey *ℤ ux) *ℤ dy +ℤ (dx *ℤ uy -ℤ dy *ℤ ux) *ℤ ey))
at_between N D dx dy ex ey ux uy hx hy kx ky =
    read (N ∷ D ∷ dx ∷ dy ∷ ex ∷ ey ∷ ux ∷ uy ∷ hx ∷ hy ∷ kx ∷ ky ∷ []) (λ xs a b c d e f g h i j k l. simp (a, b, c, d, e, f, g, h, i, j, k, l, polys) (den-ring xs _ _ tt))

-- where N/D times the squared length is at most the product of two such products at both ends of a cone, it is so between them: the cone lemma
pub product_between : (N D : ℤ) (d e u h k : PlanePoint) → pos 0 ≤ℤ N → pos 0 ≤ℤ D → IsBetween d e u
    → pos 0 ≤ℤ dot d h → pos 0 ≤ℤ dot d k → pos 0 ≤ℤ dot e h → pos 0 ≤ℤ dot e k
    → (N *ℤ squared_length d) ≤ℤ (dot d h *ℤ dot d k *ℤ D)
    → (N *ℤ squared_length e) ≤ℤ (dot e h *ℤ dot e k *ℤ D)
    → (N *ℤ squared_length u) ≤ℤ (dot u h *ℤ dot u k *ℤ D)
product_between N D d e u h k pN pD b dh dk eh ek at_d at_e =
    le_of_mul_le (cross d e *ℤ cross d e) (positive_mul b.turns b.turns)
    (le_by
    (nonneg_difference (cone d.x d.y e.x e.y (dot d h) (dot d k *ℤ D) (dot e h) (dot e k *ℤ D) N (neg_ℤ (cross e u)) (cross d u) dh (nonneg_mul dk pD) eh (nonneg_mul ek pD) pN (nonneg_neg b.right) b.left (grouped (N *ℤ squared_length d) (dot d h) (dot d k) at_d) (grouped (N *ℤ squared_length e) (dot e h) (dot e k) at_e)))
    (at_between N D d.x d.y e.x e.y u.x u.y h.x h.y k.x k.y))
  where
    grouped : (a b c : ℤ) → a ≤ℤ (b *ℤ c *ℤ D) → a ≤ℤ (b *ℤ (c *ℤ D))
    grouped a b c h = le_by (nonneg_difference h) (read (a ∷ b ∷ c ∷ D ∷ []) (λ xs p q r s. simp (p, q, r, s, polys) (den-ring xs _ _ tt)))

-- where it is below that product at the first end, it is so at each direction between them but the second end
pub product_between_above : (N D : ℤ) (d e u h k : PlanePoint) → pos 0 ≤ℤ N → pos 0 ≤ℤ D → IsBetween d e u → cross e u <ℤ pos 0
    → pos 0 ≤ℤ dot d h → pos 0 ≤ℤ dot d k → pos 0 ≤ℤ dot e h → pos 0 ≤ℤ dot e k
    → (N *ℤ squared_length d) <ℤ (dot d h *ℤ dot d k *ℤ D)
    → (N *ℤ squared_length e) ≤ℤ (dot e h *ℤ dot e k *ℤ D)
    → (N *ℤ squared_length u) <ℤ (dot u h *ℤ dot u k *ℤ D)
product_between_above N D d e u h k pN pD b before dh dk eh ek at_d at_e =
    lt_of_mul_lt (cross d e *ℤ cross d e) (positive_mul b.turns b.turns)
    (lt_by
    (positive_difference (cone_above d.x d.y e.x e.y (dot d h) (dot d k *ℤ D) (dot e h) (dot e k *ℤ D) N (neg_ℤ (cross e u)) (cross d u) dh (nonneg_mul dk pD) eh (nonneg_mul ek pD) pN (positive_neg before) b.left (grouped_above (N *ℤ squared_length d) (dot d h) (dot d k) at_d) (grouped (N *ℤ squared_length e) (dot e h) (dot e k) at_e)))
    (at_between N D d.x d.y e.x e.y u.x u.y h.x h.y k.x k.y))
  where
    positive_neg : {z : ℤ} → z <ℤ pos 0 → pos 0 <ℤ neg_ℤ z
    positive_neg h = omega (arith, ints)

    grouped : (a b c : ℤ) → a ≤ℤ (b *ℤ c *ℤ D) → a ≤ℤ (b *ℤ (c *ℤ D))
    grouped a b c h = le_by (nonneg_difference h) (read (a ∷ b ∷ c ∷ D ∷ []) (λ xs p q r s. simp (p, q, r, s, polys) (den-ring xs _ _ tt)))

    grouped_above : (a b c : ℤ) → a <ℤ (b *ℤ c *ℤ D) → a <ℤ (b *ℤ (c *ℤ D))
    grouped_above a b c h = lt_by (positive_difference h) (read (a ∷ b ∷ c ∷ D ∷ []) (λ xs p q r s. simp (p, q, r, s, polys) (den-ring xs _ _ tt)))

-- ---- highest and lowest points

-- the other way the two points change their parts
pub reach-opposite : (points : List PlanePoint) (d : PlanePoint) (high low : ℕ) → reach points (opposite d) high low ≡ reach points d low high
reach-opposite points d high low = plain d.x d.y (point_at points low).x (point_at points low).y (point_at points high).x (point_at points high).y
  where
    plain : (x y px py qx qy : ℤ) → neg_ℤ x *ℤ (qx -ℤ px) +ℤ neg_ℤ y *ℤ (qy -ℤ py) ≡ x *ℤ (px -ℤ qx) +ℤ y *ℤ (py -ℤ qy)
    plain x y px py qx qy = read (x ∷ y ∷ px ∷ py ∷ qx ∷ qy ∷ []) (λ xs a b c d e f. simp (a, b, c, d, e, f, polys) (den-ring xs _ _ tt))

-- ---- bounds of the points

-- bounds with a number between them are in order
pub span_in_order : {span : Span} {z : ℤ} → IsInSpan span z → span.low ≤ℤ span.high
span_in_order h = le_trans_ℤ h.above h.below

-- bounds are bounds over 1
pub inside_over_one : (points : List PlanePoint) (u : PlanePoint) (span : Span) → All (λ p. IsInSpan span (dot u p)) points → All (λ p. IsInSpan span (pos 1 *ℤ dot u p)) points
inside_over_one points u span h = λ i d l. subst (IsInSpan span) (one-times (dot u (slice_index_or points i d))) (h i d l)

-- points between bounds over w reach at most as far, w times
pub reach_in_span : (points : List PlanePoint) (w : ℤ) (u : PlanePoint) (span : Span) → All (λ p. IsInSpan span (w *ℤ dot u p)) points → (high low : ℕ) → high < length points → low < length points → (w *ℤ reach points u high low) ≤ℤ extent span
reach_in_span points w u span h high low named_high named_low =
    plain w u.x u.y (point_at points low).x (point_at points low).y (point_at points high).x (point_at points high).y span.low span.high (h low origin named_low).above (h high origin named_high).below
  where
    plain : (w x y px py qx qy low high : ℤ) → low ≤ℤ (w *ℤ (x *ℤ px +ℤ y *ℤ py)) → (w *ℤ (x *ℤ qx +ℤ y *ℤ qy)) ≤ℤ high → (w *ℤ (x *ℤ (qx -ℤ px) +ℤ y *ℤ (qy -ℤ py))) ≤ℤ (high -ℤ low)
    plain w x y px py qx qy low high h k =
        le_by (nonneg_add (nonneg_difference h) (nonneg_difference k)) (read (w ∷ x ∷ y ∷ px ∷ py ∷ qx ∷ qy ∷ low ∷ high ∷ []) (λ xs a b c d e f g h i. simp (a, b, c, d, e, f, g, h, i, polys) (den-ring xs _ _ tt)))

-- so extents e and f of reaches A and B with N/D L < A B have N/D w² L < e f
pub extents_above : (N D L A B e f w : ℤ) → pos 0 ≤ℤ D → pos 0 <ℤ w → pos 0 ≤ℤ A → pos 0 ≤ℤ B → (w *ℤ A) ≤ℤ e → (w *ℤ B) ≤ℤ f → (N *ℤ L) <ℤ (A *ℤ B *ℤ D) → (N *ℤ (w *ℤ w *ℤ L)) <ℤ (e *ℤ f *ℤ D)
extents_above N D L A B e f w pD pw pA pB he hf h =
    let product = mul_le_both (nonneg_mul (le_from_lt pw) pA) (nonneg_mul (le_from_lt pw) pB) he hf in
    lt_by (positive_add (positive_mul (positive_mul pw pw) (positive_difference h)) (nonneg_mul pD (nonneg_difference product)))
    (read (N ∷ D ∷ L ∷ A ∷ B ∷ e ∷ f ∷ w ∷ []) (λ xs a b c d e f g h. simp (a, b, c, d, e, f, g, h, polys) (den-ring xs _ _ tt)))

-- so extents e and f of reaches A and B with N/D L ≤ A B have N/D w² L ≤ e f
pub extents_at_least : (N D L A B e f w : ℤ) → pos 0 ≤ℤ D → pos 0 ≤ℤ w → pos 0 ≤ℤ A → pos 0 ≤ℤ B → (w *ℤ A) ≤ℤ e → (w *ℤ B) ≤ℤ f → (N *ℤ L) ≤ℤ (A *ℤ B *ℤ D) → (N *ℤ (w *ℤ w *ℤ L)) ≤ℤ (e *ℤ f *ℤ D)
extents_at_least N D L A B e f w pD pw pA pB he hf h =
    let product = mul_le_both (nonneg_mul pw pA) (nonneg_mul pw pB) he hf in
    le_by (nonneg_add (nonneg_mul pD (nonneg_difference product)) (nonneg_mul (square_nonneg w) (nonneg_difference h)))
    (read (N ∷ D ∷ L ∷ A ∷ B ∷ e ∷ f ∷ w ∷ []) (λ xs a b c d e f g h. simp (a, b, c, d, e, f, g, h, polys) (den-ring xs _ _ tt)))
