-- What growing does to numbers: extents, areas, distances from a centre.
use Rattle.std.proofs.Common.{◌≡◌, subst, ℤ, pos, neg_ℤ, ◌+ℤ◌, ◌-ℤ◌, ◌*ℤ◌, ◌≤ℤ◌, [], ◌∷◌}
use Rattle.integers.proofs.Identities.{den-ring, read, polys}
use Rattle.integers.proofs.Order.{nonneg_mul, nonneg_difference, le_by, mul_le_left, combine1, combine3}
use Rattle.bounds_model.specs.Strip.{Span, IsInSpan}
use Rattle.bounds_model.specs.Scaled.{SameSpan}

-- a factor before a product
pub from_product : (s w t : ℤ) → s *ℤ (w *ℤ t) ≡ s *ℤ w *ℤ t
from_product s w t = read (s ∷ w ∷ t ∷ []) (λ xs a b c. simp (a, b, c, polys) (den-ring xs _ _ tt))

-- a numerator that is grown, over a denominator that is, too
pub same_over : (s w x : ℤ) → s *ℤ x *ℤ w ≡ x *ℤ (s *ℤ w)
same_over s w x = read (s ∷ w ∷ x ∷ []) (λ xs a b c. simp (a, b, c, polys) (den-ring xs _ _ tt))

-- an extent of grown bounds
pub stretched : (s l h : ℤ) → s *ℤ h -ℤ s *ℤ l ≡ s *ℤ (h -ℤ l)
stretched s l h = read (s ∷ l ∷ h ∷ []) (λ xs a b c. simp (a, b, c, polys) (den-ring xs _ _ tt))

-- the product of two extents that are s times as long
pub area_grows : (s k x y x' y' d : ℤ) → k ≡ s *ℤ s → x' ≡ s *ℤ x → y' ≡ s *ℤ y → x' *ℤ y' *ℤ d ≡ k *ℤ (x *ℤ y) *ℤ d
area_grows s k x y x' y' d e f g =
    combine3 (neg_ℤ (x *ℤ y *ℤ d)) (y' *ℤ d) (s *ℤ x *ℤ d) e f g
    (read (s ∷ k ∷ x ∷ y ∷ x' ∷ y' ∷ d ∷ []) (λ xs a b c q r t u. simp (a, b, c, q, r, t, u, polys) (den-ring xs _ _ tt)))

-- the same over a denominator that is s times as large
pub area_shrinks : (s k a w l : ℤ) → k ≡ s *ℤ s → a *ℤ (s *ℤ w *ℤ (s *ℤ w) *ℤ l) ≡ k *ℤ a *ℤ (w *ℤ w *ℤ l)
area_shrinks s k a w l e =
    combine1 (neg_ℤ (a *ℤ (w *ℤ w *ℤ l))) e (read (s ∷ k ∷ a ∷ w ∷ l ∷ []) (λ xs b c f g h. simp (b, c, f, g, h, polys) (den-ring xs _ _ tt)))

pub plain_area_shrinks : (s k a w : ℤ) → k ≡ s *ℤ s → a *ℤ (s *ℤ w *ℤ (s *ℤ w)) ≡ k *ℤ a *ℤ (w *ℤ w)
plain_area_shrinks s k a w e =
    combine1 (neg_ℤ (a *ℤ (w *ℤ w))) e (read (s ∷ k ∷ a ∷ w ∷ []) (λ xs b c f g. simp (b, c, f, g, polys) (den-ring xs _ _ tt)))

-- a fraction over k, and a fraction times k
pub fraction_shrinks : (k k' n d : ℤ) → k ≡ k' → n *ℤ (d *ℤ k') ≡ k *ℤ n *ℤ d
fraction_shrinks k k' n d e = combine1 (neg_ℤ (n *ℤ d)) e (read (k ∷ k' ∷ n ∷ d ∷ []) (λ xs a b c f. simp (a, b, c, f, polys) (den-ring xs _ _ tt)))

pub fraction_grows : (k k' n d : ℤ) → k ≡ k' → k' *ℤ n *ℤ d ≡ k *ℤ n *ℤ d
fraction_grows k k' n d e = combine1 (neg_ℤ (n *ℤ d)) e (read (k ∷ k' ∷ n ∷ d ∷ []) (λ xs a b c f. simp (a, b, c, f, polys) (den-ring xs _ _ tt)))

-- numerator and denominator times one number
pub same_fraction : (k n d : ℤ) → k *ℤ n *ℤ d ≡ n *ℤ (d *ℤ k)
same_fraction k n d = read (k ∷ n ∷ d ∷ []) (λ xs a b c. simp (a, b, c, polys) (den-ring xs _ _ tt))

-- ---- bounds

-- what is within bounds over w is within the grown bounds over s w
pub span_grows : (s w t : ℤ) (span : Span) → pos 0 ≤ℤ s → IsInSpan span (w *ℤ t) → IsInSpan (record { low = s *ℤ span.low; high = s *ℤ span.high }) (s *ℤ w *ℤ t)
span_grows s w t span s+ h = record { above = below_product (mul_le_left s s+ h.above); below = above_product (mul_le_left s s+ h.below) }
  where
    below_product : {a : ℤ} → a ≤ℤ (s *ℤ (w *ℤ t)) → a ≤ℤ (s *ℤ w *ℤ t)
    below_product {a} l = subst (λ z. a ≤ℤ z) (from_product s w t) l

    above_product : {a : ℤ} → (s *ℤ (w *ℤ t)) ≤ℤ a → (s *ℤ w *ℤ t) ≤ℤ a
    above_product {a} l = subst (λ z. z ≤ℤ a) (from_product s w t) l

pub same_span : (s w : ℤ) (span : Span) → SameSpan (s *ℤ w) (record { low = s *ℤ span.low; high = s *ℤ span.high }) w span
same_span s w span = record { low = same_over s w span.low; high = same_over s w span.high }

-- ---- distances from a centre

-- far is at most the radius, and far' is far as seen with numbers that are s times as large
pub within_grows : (s k d n w far far' : ℤ) → pos 0 ≤ℤ k → far' ≡ s *ℤ s *ℤ far → pos 0 ≤ℤ (s *ℤ s) → (d *ℤ far) ≤ℤ (n *ℤ (w *ℤ w)) → (d *ℤ k *ℤ far') ≤ℤ (k *ℤ n *ℤ (s *ℤ w *ℤ (s *ℤ w)))
within_grows s k d n w far far' k+ e s+ h =
    le_by (nonneg_mul (nonneg_mul k+ s+) (nonneg_difference h))
    (combine1 (neg_ℤ (d *ℤ k)) e (read (s ∷ k ∷ d ∷ n ∷ w ∷ far ∷ far' ∷ []) (λ xs a b c f g q r. simp (a, b, c, f, g, q, r, polys) (den-ring xs _ _ tt))))

-- far is at least the radius
pub beyond_grows : (s k d n w far far' : ℤ) → pos 0 ≤ℤ k → far' ≡ s *ℤ s *ℤ far → pos 0 ≤ℤ (s *ℤ s) → (n *ℤ (w *ℤ w)) ≤ℤ (d *ℤ far) → (k *ℤ n *ℤ (s *ℤ w *ℤ (s *ℤ w))) ≤ℤ (d *ℤ k *ℤ far')
beyond_grows s k d n w far far' k+ e s+ h =
    le_by (nonneg_mul (nonneg_mul k+ s+) (nonneg_difference h))
    (combine1 (d *ℤ k) e (read (s ∷ k ∷ d ∷ n ∷ w ∷ far ∷ far' ∷ []) (λ xs a b c f g q r. simp (a, b, c, f, g, q, r, polys) (den-ring xs _ _ tt))))

-- a squared distance from a centre in space, in numbers that are s times as large
pub far_grows : (s w x y z p q r : ℤ)
    → (s *ℤ w *ℤ p -ℤ s *ℤ x) *ℤ (s *ℤ w *ℤ p -ℤ s *ℤ x) +ℤ (s *ℤ w *ℤ q -ℤ s *ℤ y) *ℤ (s *ℤ w *ℤ q -ℤ s *ℤ y) +ℤ (s *ℤ w *ℤ r -ℤ s *ℤ z) *ℤ (s *ℤ w *ℤ r -ℤ s *ℤ z)
    ≡ s *ℤ s *ℤ ((w *ℤ p -ℤ x) *ℤ (w *ℤ p -ℤ x) +ℤ (w *ℤ q -ℤ y) *ℤ (w *ℤ q -ℤ y) +ℤ (w *ℤ r -ℤ z) *ℤ (w *ℤ r -ℤ z))
far_grows s w x y z p q r = read (s ∷ w ∷ x ∷ y ∷ z ∷ p ∷ q ∷ r ∷ []) (λ xs a b c d e f g h. simp (a, b, c, d, e, f, g, h, polys) (den-ring xs _ _ tt))

-- and in the plane
pub far_grows_in_plane : (s w x y p q : ℤ)
    → (s *ℤ w *ℤ p -ℤ s *ℤ x) *ℤ (s *ℤ w *ℤ p -ℤ s *ℤ x) +ℤ (s *ℤ w *ℤ q -ℤ s *ℤ y) *ℤ (s *ℤ w *ℤ q -ℤ s *ℤ y)
    ≡ s *ℤ s *ℤ ((w *ℤ p -ℤ x) *ℤ (w *ℤ p -ℤ x) +ℤ (w *ℤ q -ℤ y) *ℤ (w *ℤ q -ℤ y))
far_grows_in_plane s w x y p q = read (s ∷ w ∷ x ∷ y ∷ p ∷ q ∷ []) (λ xs a b c d e f. simp (a, b, c, d, e, f, polys) (den-ring xs _ _ tt))

-- ---- radii

-- the difference of two squared radii
pub width_grows : (k k' on od n d : ℤ) → k ≡ k' → (k' *ℤ on *ℤ d -ℤ k' *ℤ n *ℤ od) *ℤ (od *ℤ d) ≡ k *ℤ (on *ℤ d -ℤ n *ℤ od) *ℤ (od *ℤ d)
width_grows k k' on od n d e =
    combine1 (neg_ℤ ((on *ℤ d -ℤ n *ℤ od) *ℤ (od *ℤ d))) e (read (k ∷ k' ∷ on ∷ od ∷ n ∷ d ∷ []) (λ xs a b c f g h. simp (a, b, c, f, g, h, polys) (den-ring xs _ _ tt)))

pub width_shrinks : (k k' on od n d : ℤ) → k ≡ k' → (on *ℤ d -ℤ n *ℤ od) *ℤ (od *ℤ k' *ℤ (d *ℤ k')) ≡ k *ℤ (on *ℤ (d *ℤ k') -ℤ n *ℤ (od *ℤ k')) *ℤ (od *ℤ d)
width_shrinks k k' on od n d e =
    combine1 (neg_ℤ (k' *ℤ ((on *ℤ d -ℤ n *ℤ od) *ℤ (od *ℤ d)))) e (read (k ∷ k' ∷ on ∷ od ∷ n ∷ d ∷ []) (λ xs a b c f g h. simp (a, b, c, f, g, h, polys) (den-ring xs _ _ tt)))
