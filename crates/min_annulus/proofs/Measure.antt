-- The target's lift rises at each exchange, and the measure falls.
use Rattle.std.proofs.Common.{◌≡◌, refl, sym, ◌∙◌, subst, ◌^◌, ℤ, pos, ◌+ℤ◌, ◌-ℤ◌, ◌*ℤ◌, neg_ℤ, ◌≤ℤ◌, ◌<ℤ◌, arith, [], ◌∷◌}
use Rattle.std.proofs.lemmas.Int.{ints}
use Rattle.integers.specs.Size.{Size}
use Rattle.integers.proofs.Sizes.{size_sub, size_mul, size_more, below_size}
use Rattle.integers.proofs.Identities.{den-ring, read, polys, lits}
use Rattle.integers.proofs.Order.{nonneg_mul, nonneg_add, nonneg_difference, positive_difference, positive_mul, le_from_lt, lt_by, le_by, combine1}
use Rattle.integers.proofs.LeastDifferences.{floor_rises_ℤ, rest_falls}
use Rattle.min_annulus.specs.declared.difference_vectors.DifferenceVector.{DifferenceVector}
use Rattle.min_annulus.specs.LinearForms.{rise, form_through}
use Rattle.min_annulus.specs.DifferenceVectors.{IsDifference, IsAround, side, scale, area, lift_over, lift_under, lift_limit}
use Rattle.min_annulus.specs.Laws.{MeasureFalls}
use Rattle.min_annulus.proofs.Exchange.{side_turned, sides_balance}

-- ---- the weights of the target in a triangle

plain_under : (m ax ay bx by cx cy : ℤ)
    → ((bx *ℤ cy -ℤ by *ℤ cx) *ℤ (m *ℤ m) +ℤ ((by -ℤ cy) *ℤ m +ℤ (cx -ℤ bx)))
    +ℤ ((cx *ℤ ay -ℤ cy *ℤ ax) *ℤ (m *ℤ m) +ℤ ((cy -ℤ ay) *ℤ m +ℤ (ax -ℤ cx)))
    +ℤ ((ax *ℤ by -ℤ ay *ℤ bx) *ℤ (m *ℤ m) +ℤ ((ay -ℤ by) *ℤ m +ℤ (bx -ℤ ax)))
    ≡ ((bx -ℤ ax) *ℤ (cy -ℤ ay) -ℤ (by -ℤ ay) *ℤ (cx -ℤ ax)) *ℤ (m *ℤ m)
plain_under m ax ay bx by cx cy = read (m ∷ ax ∷ ay ∷ bx ∷ by ∷ cx ∷ cy ∷ []) (λ xs a b c d e f g. simp (a, b, c, d, e, f, g, polys) (den-ring xs _ _ tt))

-- their sum is M² times twice its area
pub under_is_area : (a b c : DifferenceVector) → lift_under a b c ≡ area a b c *ℤ (scale *ℤ scale)
under_is_area a b c = plain_under scale a.x a.y b.x b.y c.x c.y

-- around the target they are above 0
pub under_positive : (a b c : DifferenceVector) → IsAround a b c → pos 0 <ℤ lift_under a b c
under_positive a b c around = sum around.bc around.ca around.ab
  where
    sum : {x y z : ℤ} → pos 0 <ℤ x → pos 0 <ℤ y → pos 0 <ℤ z → pos 0 <ℤ (x +ℤ y +ℤ z)
    sum h k l = omega (arith, ints)

-- so is the area
pub area_positive : (a b c : DifferenceVector) → IsAround a b c → pos 0 <ℤ area a b c
area_positive a b c around = factor (area a b c) (subst (λ s. pos 0 <ℤ s) (under_is_area a b c) (under_positive a b c around))
  where
    factor : (n : ℤ) → pos 0 <ℤ (n *ℤ (scale *ℤ scale)) → pos 0 <ℤ n
    factor n h = omega (arith, ints)

-- how large it is
pub area_size : (a b c : DifferenceVector) → IsDifference a → IsDifference b → IsDifference c → Size (2 ^ 41) (area a b c)
area_size a b c ha hb hc = size_more (size_sub (size_mul (size_sub hb.x ha.x) (size_sub hc.y ha.y)) (size_mul (size_sub hb.y ha.y) (size_sub hc.x ha.x))) tt

-- and the sum
under_limit : (a b c : DifferenceVector) → IsDifference a → IsDifference b → IsDifference c → lift_under a b c ≤ℤ pos (2 ^ 85)
under_limit a b c ha hb hc = limit (area a b c) (under_is_area a b c) (below_size (area_size a b c ha hb hc))
  where
    limit : {s : ℤ} (n : ℤ) → s ≡ n *ℤ (scale *ℤ scale) → n ≤ℤ pos (2 ^ 41) → s ≤ℤ pos (2 ^ 85)
    limit n e h = omega (arith, ints)

-- the target's lift is at most that of the highest vertex
difference_nonneg : (a b c : DifferenceVector) → IsDifference a → IsDifference b → IsDifference c → IsAround a b c → pos 0 ≤ℤ (pos lift_limit *ℤ lift_under a b c -ℤ lift_over a b c)
difference_nonneg a b c ha hb hc around =
    plain (pos lift_limit) (side b c) (side c a) (side a b) a.lift b.lift c.lift around.bc around.ca around.ab (below_size ha.lift) (below_size hb.lift) (below_size hc.lift)
  where
    plain : (L u v w f g h : ℤ) → pos 0 <ℤ u → pos 0 <ℤ v → pos 0 <ℤ w → f ≤ℤ L → g ≤ℤ L → h ≤ℤ L → pos 0 ≤ℤ (L *ℤ (u +ℤ v +ℤ w) -ℤ (u *ℤ f +ℤ v *ℤ g +ℤ w *ℤ h))
    plain L u v w f g h pu pv pw lf lg lh =
        le_by
        (nonneg_add (nonneg_add (nonneg_mul (le_from_lt pu) (nonneg_difference lf)) (nonneg_mul (le_from_lt pv) (nonneg_difference lg))) (nonneg_mul (le_from_lt pw) (nonneg_difference lh)))
        (read (L ∷ u ∷ v ∷ w ∷ f ∷ g ∷ h ∷ []) (λ xs a b c d e i j. simp (a, b, c, d, e, i, j, polys, lits xs) (den-ring xs _ _ tt)))

-- ---- how far the target's lift rises

-- by the weights u of the old vertices at the target, the sides w to the new vertex, and the lifts; the last old vertex leaves
plain_rise : (u1 u2 u3 w1 w2 w3 h1 h2 h3 h4 : ℤ) → u1 *ℤ w1 +ℤ u2 *ℤ w2 +ℤ u3 *ℤ w3 ≡ pos 0
    → (w2 *ℤ h1 +ℤ neg_ℤ w1 *ℤ h2 +ℤ u3 *ℤ h4) *ℤ (u1 +ℤ u2 +ℤ u3) -ℤ (u1 *ℤ h1 +ℤ u2 *ℤ h2 +ℤ u3 *ℤ h3) *ℤ (w2 +ℤ neg_ℤ w1 +ℤ u3)
    ≡ u3 *ℤ ((u1 +ℤ u2 +ℤ u3) *ℤ h4 -ℤ ((u1 +ℤ w3 -ℤ w2) *ℤ h1 +ℤ (u2 +ℤ w1 -ℤ w3) *ℤ h2 +ℤ (u3 +ℤ w2 -ℤ w1) *ℤ h3))
plain_rise u1 u2 u3 w1 w2 w3 h1 h2 h3 h4 e =
    combine1 (h1 -ℤ h2) e (read (u1 ∷ u2 ∷ u3 ∷ w1 ∷ w2 ∷ w3 ∷ h1 ∷ h2 ∷ h3 ∷ h4 ∷ []) (λ xs a b c d f g i j k l. simp (a, b, c, d, f, g, i, j, k, l, polys, lits xs) (den-ring xs _ _ tt)))

plain_rise_by_sides : (m ax ay ah bx by bh cx cy ch dx dy dh : ℤ)
    → (((bx *ℤ cy -ℤ by *ℤ cx) *ℤ (m *ℤ m) +ℤ ((by -ℤ cy) *ℤ m +ℤ (cx -ℤ bx))) +ℤ ((cx *ℤ ay -ℤ cy *ℤ ax) *ℤ (m *ℤ m) +ℤ ((cy -ℤ ay) *ℤ m +ℤ (ax -ℤ cx))) +ℤ ((ax *ℤ by -ℤ ay *ℤ bx) *ℤ (m *ℤ m) +ℤ ((ay -ℤ by) *ℤ m +ℤ (bx -ℤ ax)))) *ℤ dh -ℤ ((((bx *ℤ cy -ℤ by *ℤ cx) *ℤ (m *ℤ m) +ℤ ((by -ℤ cy) *ℤ m +ℤ (cx -ℤ bx))) +ℤ ((cx *ℤ dy -ℤ cy *ℤ dx) *ℤ (m *ℤ m) +ℤ ((cy -ℤ dy) *ℤ m +ℤ (dx -ℤ cx))) -ℤ ((bx *ℤ dy -ℤ by *ℤ dx) *ℤ (m *ℤ m) +ℤ ((by -ℤ dy) *ℤ m +ℤ (dx -ℤ bx)))) *ℤ ah +ℤ (((cx *ℤ ay -ℤ cy *ℤ ax) *ℤ (m *ℤ m) +ℤ ((cy -ℤ ay) *ℤ m +ℤ (ax -ℤ cx))) +ℤ ((ax *ℤ dy -ℤ ay *ℤ dx) *ℤ (m *ℤ m) +ℤ ((ay -ℤ dy) *ℤ m +ℤ (dx -ℤ ax))) -ℤ ((cx *ℤ dy -ℤ cy *ℤ dx) *ℤ (m *ℤ m) +ℤ ((cy -ℤ dy) *ℤ m +ℤ (dx -ℤ cx)))) *ℤ bh +ℤ (((ax *ℤ by -ℤ ay *ℤ bx) *ℤ (m *ℤ m) +ℤ ((ay -ℤ by) *ℤ m +ℤ (bx -ℤ ax))) +ℤ ((bx *ℤ dy -ℤ by *ℤ dx) *ℤ (m *ℤ m) +ℤ ((by -ℤ dy) *ℤ m +ℤ (dx -ℤ bx))) -ℤ ((ax *ℤ dy -ℤ ay *ℤ dx) *ℤ (m *ℤ m) +ℤ ((ay -ℤ dy) *ℤ m +ℤ (dx -ℤ ax)))) *ℤ ch)
    ≡ (m *ℤ m) *ℤ ((((bx -ℤ ax) *ℤ (cy -ℤ ay) -ℤ (by -ℤ ay) *ℤ (cx -ℤ ax)) *ℤ dh -ℤ (((bh -ℤ ah) *ℤ (cy -ℤ ay) -ℤ (ch -ℤ ah) *ℤ (by -ℤ ay)) *ℤ dx +ℤ ((bx -ℤ ax) *ℤ (ch -ℤ ah) -ℤ (cx -ℤ ax) *ℤ (bh -ℤ ah)) *ℤ dy)) -ℤ (((bx -ℤ ax) *ℤ (cy -ℤ ay) -ℤ (by -ℤ ay) *ℤ (cx -ℤ ax)) *ℤ ah -ℤ (((bh -ℤ ah) *ℤ (cy -ℤ ay) -ℤ (ch -ℤ ah) *ℤ (by -ℤ ay)) *ℤ ax +ℤ ((bx -ℤ ax) *ℤ (ch -ℤ ah) -ℤ (cx -ℤ ax) *ℤ (bh -ℤ ah)) *ℤ ay)))
plain_rise_by_sides m ax ay ah bx by bh cx cy ch dx dy dh =
    read (m ∷ ax ∷ ay ∷ ah ∷ bx ∷ by ∷ bh ∷ cx ∷ cy ∷ ch ∷ dx ∷ dy ∷ dh ∷ []) (λ xs a b c d e f g h i j k l n. simp (a, b, c, d, e, f, g, h, i, j, k, l, n, polys) (den-ring xs _ _ tt))

-- M² times how far d is above the plane through a, b and c
rise_by_sides : (a b c d : DifferenceVector)
    → lift_under a b c *ℤ d.lift -ℤ ((side b c +ℤ side c d -ℤ side b d) *ℤ a.lift +ℤ (side c a +ℤ side a d -ℤ side c d) *ℤ b.lift +ℤ (side a b +ℤ side b d -ℤ side a d) *ℤ c.lift)
    ≡ (scale *ℤ scale) *ℤ (rise (form_through a b c) d -ℤ rise (form_through a b c) a)
rise_by_sides a b c d = plain_rise_by_sides scale a.x a.y a.lift b.x b.y b.lift c.x c.y c.lift d.x d.y d.lift

-- where d is above it, and c leaves, the target's lift is greater
pub lift_rises : (a b c d : DifferenceVector) → IsAround a b c → rise (form_through a b c) a <ℤ rise (form_through a b c) d → (lift_over a b c *ℤ lift_under a b d) <ℤ (lift_over a b d *ℤ lift_under a b c)
lift_rises a b c d around above =
    lt_by
    (positive_mul around.ab (subst (λ g. pos 0 <ℤ g) (sym (rise_by_sides a b c d)) (positive_mul square_positive (positive_difference above))))
    (subst (λ s. difference (side b d) s (side a b) ≡ difference (side b d) (neg_ℤ (side a d)) (side a b)) (sym (side_turned d a)) refl
    ∙ plain_rise (side b c) (side c a) (side a b) (side a d) (side b d) (side c d) a.lift b.lift c.lift d.lift (sides_balance a b c d))
  where
    square_positive : pos 0 <ℤ (scale *ℤ scale)
    square_positive = omega (arith, ints)

    difference : (u v w : ℤ) → ℤ
    difference u v w = (u *ℤ a.lift +ℤ v *ℤ b.lift +ℤ w *ℤ d.lift) *ℤ lift_under a b c -ℤ lift_over a b c *ℤ (u +ℤ v +ℤ w)

-- the measure falls
pub measure_falls : MeasureFalls
measure_falls a b c d ha hb hc hd old new above =
    floor_rises_ℤ (pos lift_limit *ℤ lift_under a b d -ℤ lift_over a b d) (lift_under a b d) (pos lift_limit *ℤ lift_under a b c -ℤ lift_over a b c) (lift_under a b c) (2 ^ 85)
    (difference_nonneg a b d ha hb hd new) (under_positive a b d new) (difference_nonneg a b c ha hb hc old) (under_positive a b c old)
    (under_limit a b d ha hb hd) (under_limit a b c ha hb hc)
    (rest_falls (pos lift_limit) (lift_over a b c) (lift_under a b c) (lift_over a b d) (lift_under a b d) (lift_rises a b c d old above))
