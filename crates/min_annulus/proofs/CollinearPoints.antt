-- Points on one line, as seen from the middle between the least and the greatest.
use Rattle.std.proofs.Common.{◌≡◌, refl, sym, ◌∙◌, ap, ap₂, subst, ℕ, ◌<◌, ◌^◌, ℤ, pos, negsuc, ◌+ℤ◌, ◌-ℤ◌, ◌*ℤ◌, neg_ℤ, ◌≤ℤ◌, ◌<ℤ◌, List, [], ◌∷◌, ◌++◌, length, arith}
use Rattle.std.proofs.lemmas.Int.{ints, by_lt_z}
use Rattle.std.proofs.Math.IntN.{zero-*ℤ}
use Rattle.integers.specs.Size.{Size}
use Rattle.integers.proofs.Sizes.{below_size, above_size}
use Rattle.integers.proofs.Identities.{den-ring, read, polys, lits, below_lits}
use Rattle.integers.proofs.Order.{combine1, combine2, nonneg_mul, nonneg_add, nonneg_of_mul, square_nonneg, le_antisymm_ℤ, zero_of_square, le_from_lt}
use Rattle.integers.proofs.Sizes.{size_add, size_mul, size_more}
use Rattle.bounds_model.specs.Plane.{PlanePoint, point_at, squared_length}
use Rattle.bounds_model.specs.AnnulusAnswer.{pair_sum, weighted_differences}
use Rattle.min_annulus.specs.declared.pairs.Pair.{Pair}
use Rattle.min_annulus.specs.declared.linear_forms.LinearForm.{LinearForm}
use Rattle.pair_weights.specs.declared.extremes.Extremes.{Extremes}
use Rattle.min_annulus.specs.DifferenceVectors.{difference_of, IsDifference, dot}
use Rattle.min_annulus.specs.LinearForms.{level, middle_form}
use Rattle.min_annulus.specs.Pairs.{IsPair}
use Rattle.pair_weights.specs.Extremes.{AreExtremes}
use Rattle.min_annulus.specs.Lines.{AreCollinear}
use Rattle.min_annulus.specs.Witnesses.{ShowSize, weighted}
use Rattle.pair_weights.proofs.WeightedLists.{all_one}
use Rattle.min_annulus.proofs.WeightedLists.{total_two, all_two, count_two, count_one}

-- ---- by plain numbers: e = (ex, ey) is the whole difference, u = (ux, uy) the one to a point, and e - u the rest

-- what is ahead along a line is so along e, which is ahead
plain_along : (n ex ey ux uy : ℤ) → ex *ℤ uy -ℤ ey *ℤ ux ≡ pos 0 → (n *ℤ ex +ℤ ey) *ℤ (ex *ℤ ux +ℤ ey *ℤ uy) ≡ (n *ℤ ux +ℤ uy) *ℤ (ex *ℤ ex +ℤ ey *ℤ ey)
plain_along n ex ey ux uy h = combine1 (n *ℤ ey -ℤ ex) h (read (n ∷ ex ∷ ey ∷ ux ∷ uy ∷ []) (λ xs a b c d e. simp (a, b, c, d, e, polys, lits xs) (den-ring xs _ _ tt)))

squares_nonneg : (a b : ℤ) → pos 0 ≤ℤ (a *ℤ a +ℤ b *ℤ b)
squares_nonneg a b = nonneg_add (square_nonneg a) (square_nonneg b)

-- a difference that is neither ahead nor back is nothing
pub nothing : (x y : ℤ) → Size 400000 y → pos (2 ^ 19) *ℤ x +ℤ y ≡ pos 0 → (x ≡ pos 0) × (y ≡ pos 0)
nothing x y h e =
    let a = below_size h in
    let b = above_size h in
    (omega (arith, ints), omega (arith, ints))

no_product : (ux uy : ℤ) → pos 0 *ℤ ux +ℤ pos 0 *ℤ uy ≡ pos 0
no_product ux uy = omega (arith, ints)

equal_zero : {z : ℤ} → pos 0 ≤ℤ z → z ≤ℤ pos 0 → z ≡ pos 0
equal_zero h k = omega (arith, ints)

-- so the product with e is not below 0
pub along_nonneg : (ex ey ux uy : ℤ) → Size 400000 ey → ex *ℤ uy -ℤ ey *ℤ ux ≡ pos 0 → pos 0 ≤ℤ (pos (2 ^ 19) *ℤ ex +ℤ ey) → pos 0 ≤ℤ (pos (2 ^ 19) *ℤ ux +ℤ uy) → pos 0 ≤ℤ (ex *ℤ ux +ℤ ey *ℤ uy)
along_nonneg ex ey ux uy hey parallel e_ahead u_ahead =
    by_lt_z (pos 0) (pos (2 ^ 19) *ℤ ex +ℤ ey)
    (λ some. nonneg_of_mul (pos (2 ^ 19) *ℤ ex +ℤ ey) some (subst (λ z. pos 0 ≤ℤ z) (sym (plain_along (pos (2 ^ 19)) ex ey ux uy parallel)) (nonneg_mul u_ahead (squares_nonneg ex ey))))
    (λ none. let zero = nothing ex ey hey (equal_zero e_ahead none) in
    subst (λ z. pos 0 ≤ℤ z) (sym (ap₂ (λ a b. a *ℤ ux +ℤ b *ℤ uy) zero.0 zero.1 ∙ no_product ux uy)) (omega (arith, ints)))

plain_inside : (ex ey ux uy : ℤ) → ex *ℤ uy -ℤ ey *ℤ ux ≡ pos 0
    → (ex *ℤ ex +ℤ ey *ℤ ey) *ℤ (ux *ℤ (ex -ℤ ux) +ℤ uy *ℤ (ey -ℤ uy)) ≡ (ex *ℤ ux +ℤ ey *ℤ uy) *ℤ (ex *ℤ (ex -ℤ ux) +ℤ ey *ℤ (ey -ℤ uy))
plain_inside ex ey ux uy h = combine1 (ex *ℤ (pos 0 -ℤ uy) +ℤ ey *ℤ ux) h (read (ex ∷ ey ∷ ux ∷ uy ∷ []) (λ xs a b c d. simp (a, b, c, d, polys, lits xs) (den-ring xs _ _ tt)))

left_part : {a b : ℤ} → pos 0 ≤ℤ b → (a +ℤ b) ≤ℤ pos 0 → a ≤ℤ pos 0
left_part h k = omega (arith, ints)

right_part : {a b : ℤ} → pos 0 ≤ℤ a → (a +ℤ b) ≤ℤ pos 0 → b ≤ℤ pos 0
right_part h k = omega (arith, ints)

plain_rest : (ex ey ux uy : ℤ) → ex *ℤ uy -ℤ ey *ℤ ux ≡ pos 0 → ex *ℤ (ey -ℤ uy) -ℤ ey *ℤ (ex -ℤ ux) ≡ pos 0
plain_rest ex ey ux uy h = combine1 (negsuc 0) h (read (ex ∷ ey ∷ ux ∷ uy ∷ []) (λ xs a b c d. simp (a, b, c, d, polys, lits xs, below_lits xs) (den-ring xs _ _ tt)))

-- a point between the ends sees them in opposite directions
pub inside_nonneg : (ex ey ux uy : ℤ) → Size 400000 ey → Size 400000 uy → ex *ℤ uy -ℤ ey *ℤ ux ≡ pos 0 → pos 0 ≤ℤ (pos (2 ^ 19) *ℤ ux +ℤ uy) → pos 0 ≤ℤ (pos (2 ^ 19) *ℤ (ex -ℤ ux) +ℤ (ey -ℤ uy))
    → pos 0 ≤ℤ (ux *ℤ (ex -ℤ ux) +ℤ uy *ℤ (ey -ℤ uy))
inside_nonneg ex ey ux uy hey huy parallel ahead behind =
    by_lt_z (pos 0) (ex *ℤ ex +ℤ ey *ℤ ey)
    (λ some. nonneg_of_mul (ex *ℤ ex +ℤ ey *ℤ ey) some (subst (λ z. pos 0 ≤ℤ z) (sym (plain_inside ex ey ux uy parallel))
    (nonneg_mul (along_nonneg ex ey ux uy hey parallel whole ahead) (along_nonneg ex ey (ex -ℤ ux) (ey -ℤ uy) hey (plain_rest ex ey ux uy parallel) whole behind))))
    (λ none. at_start (zero_of_square ex (left_part (square_nonneg ey) none)) (zero_of_square ey (right_part (square_nonneg ex) none)))
  where
    whole : pos 0 ≤ℤ (pos (2 ^ 19) *ℤ ex +ℤ ey)
    whole = omega (arith, ints)

    at_start : ex ≡ pos 0 → ey ≡ pos 0 → pos 0 ≤ℤ (ux *ℤ (ex -ℤ ux) +ℤ uy *ℤ (ey -ℤ uy))
    at_start x y =
        let zero = nothing ux uy huy (omega (arith, ints)) in
        subst (λ z. pos 0 ≤ℤ z) (sym (ap₂ (λ a b. a *ℤ (ex -ℤ a) +ℤ b *ℤ (ey -ℤ b)) zero.0 zero.1 ∙ no_product (ex -ℤ pos 0) (ey -ℤ pos 0))) (omega (arith, ints))

-- ---- the levels around the middle

plain_fall : (ax ay bx by px py : ℤ)
    → (pos 1 *ℤ (ax *ℤ ax +ℤ ay *ℤ ay) -ℤ ((ax +ℤ bx) *ℤ ax +ℤ (ay +ℤ by) *ℤ ay)) -ℤ (pos 1 *ℤ (px *ℤ px +ℤ py *ℤ py) -ℤ ((ax +ℤ bx) *ℤ px +ℤ (ay +ℤ by) *ℤ py))
    ≡ (px -ℤ ax) *ℤ ((bx -ℤ ax) -ℤ (px -ℤ ax)) +ℤ (py -ℤ ay) *ℤ ((by -ℤ ay) -ℤ (py -ℤ ay))
plain_fall ax ay bx by px py = read (ax ∷ ay ∷ bx ∷ by ∷ px ∷ py ∷ []) (λ xs a b c d e f. simp (a, b, c, d, e, f, polys, lits xs) (den-ring xs _ _ tt))

-- how much lower a point is than the ends
pub fall_is : (a b p : PlanePoint) → level (middle_form a b) a -ℤ level (middle_form a b) p ≡ (p.x -ℤ a.x) *ℤ ((b.x -ℤ a.x) -ℤ (p.x -ℤ a.x)) +ℤ (p.y -ℤ a.y) *ℤ ((b.y -ℤ a.y) -ℤ (p.y -ℤ a.y))
fall_is a b p = plain_fall a.x a.y b.x b.y p.x p.y

ranks : (px py qx qy : ℤ) → (pos (2 ^ 19) *ℤ px +ℤ py) ≤ℤ (pos (2 ^ 19) *ℤ qx +ℤ qy) → pos 0 ≤ℤ (pos (2 ^ 19) *ℤ (qx -ℤ px) +ℤ (qy -ℤ py))
ranks px py qx qy h = omega (arith, ints)

ranks_rest : (ax ay bx by px py : ℤ) → (pos (2 ^ 19) *ℤ px +ℤ py) ≤ℤ (pos (2 ^ 19) *ℤ bx +ℤ by) → pos 0 ≤ℤ (pos (2 ^ 19) *ℤ ((bx -ℤ ax) -ℤ (px -ℤ ax)) +ℤ ((by -ℤ ay) -ℤ (py -ℤ ay)))
ranks_rest ax ay bx by px py h = omega (arith, ints)

-- no point is higher than the ends
pub ends_highest : (points : List PlanePoint) (first last i : ℕ) → AreCollinear points first last → i < length points → IsDifference (difference_of (point_at points last) (point_at points first)) → Size 400000 ((point_at points i).y -ℤ (point_at points first).y)
    → level (middle_form (point_at points first) (point_at points last)) (point_at points i) ≤ℤ level (middle_form (point_at points first) (point_at points last)) (point_at points first)
ends_highest points first last i line below whole near =
    let a = point_at points first in
    let b = point_at points last in
    let p = point_at points i in
    lower (subst (λ z. pos 0 ≤ℤ z) (sym (fall_is a b p))
    (inside_nonneg (b.x -ℤ a.x) (b.y -ℤ a.y) (p.x -ℤ a.x) (p.y -ℤ a.y) whole.y near (line.line i below) (ranks a.x a.y p.x p.y (line.least i below)) (ranks_rest a.x a.y b.x b.y p.x p.y (line.greatest i below))))
  where
    lower : {x y : ℤ} → pos 0 ≤ℤ (x -ℤ y) → y ≤ℤ x
    lower h = omega (arith, ints)

-- ---- what the two pairs show, by plain numbers

plain_line_x : (ax ay bx by qx qy : ℤ) → (bx -ℤ ax) *ℤ (qy -ℤ ay) -ℤ (by -ℤ ay) *ℤ (qx -ℤ ax) ≡ pos 0
    → ((bx -ℤ ax) *ℤ (bx -ℤ qx) +ℤ (by -ℤ ay) *ℤ (by -ℤ qy)) *ℤ (ax -ℤ qx) +ℤ ((bx -ℤ ax) *ℤ (qx -ℤ ax) +ℤ (by -ℤ ay) *ℤ (qy -ℤ ay)) *ℤ (bx -ℤ qx) ≡ pos 0
plain_line_x ax ay bx by qx qy h = combine1 (by -ℤ ay) h (read (ax ∷ ay ∷ bx ∷ by ∷ qx ∷ qy ∷ []) (λ xs a b c d e f. simp (a, b, c, d, e, f, polys, lits xs) (den-ring xs _ _ tt)))

plain_line_y : (ax ay bx by qx qy : ℤ) → (bx -ℤ ax) *ℤ (qy -ℤ ay) -ℤ (by -ℤ ay) *ℤ (qx -ℤ ax) ≡ pos 0
    → ((bx -ℤ ax) *ℤ (bx -ℤ qx) +ℤ (by -ℤ ay) *ℤ (by -ℤ qy)) *ℤ (ay -ℤ qy) +ℤ ((bx -ℤ ax) *ℤ (qx -ℤ ax) +ℤ (by -ℤ ay) *ℤ (qy -ℤ ay)) *ℤ (by -ℤ qy) ≡ pos 0
plain_line_y ax ay bx by qx qy h = combine1 (ax -ℤ bx) h (read (ax ∷ ay ∷ bx ∷ by ∷ qx ∷ qy ∷ []) (λ xs a b c d e f. simp (a, b, c, d, e, f, polys, lits xs) (den-ring xs _ _ tt)))

plain_line_value : (u v ax ay bx by qx qy : ℤ) → u *ℤ (ax -ℤ qx) +ℤ v *ℤ (bx -ℤ qx) ≡ pos 0 → u *ℤ (ay -ℤ qy) +ℤ v *ℤ (by -ℤ qy) ≡ pos 0
    → (u +ℤ v) *ℤ ((pos 1 *ℤ (ax *ℤ ax +ℤ ay *ℤ ay) -ℤ ((ax +ℤ bx) *ℤ ax +ℤ (ay +ℤ by) *ℤ ay)) -ℤ (pos 1 *ℤ (qx *ℤ qx +ℤ qy *ℤ qy) -ℤ ((ax +ℤ bx) *ℤ qx +ℤ (ay +ℤ by) *ℤ qy)))
    ≡ pos 1 *ℤ (u *ℤ ((ax *ℤ ax +ℤ ay *ℤ ay) -ℤ (qx *ℤ qx +ℤ qy *ℤ qy)) +ℤ v *ℤ ((bx *ℤ bx +ℤ by *ℤ by) -ℤ (qx *ℤ qx +ℤ qy *ℤ qy)))
plain_line_value u v ax ay bx by qx qy h k =
    combine2 (neg_ℤ (ax +ℤ bx)) (neg_ℤ (ay +ℤ by)) h k (read (u ∷ v ∷ ax ∷ ay ∷ bx ∷ by ∷ qx ∷ qy ∷ []) (λ xs a b c d e f g i. simp (a, b, c, d, e, f, g, i, polys, lits xs) (den-ring xs _ _ tt)))

-- the weights are above 0 where the point is lower than the ends
plain_right : (ax ay bx by qx qy : ℤ) → (bx -ℤ ax) *ℤ (bx -ℤ qx) +ℤ (by -ℤ ay) *ℤ (by -ℤ qy)
    ≡ ((qx -ℤ ax) *ℤ ((bx -ℤ ax) -ℤ (qx -ℤ ax)) +ℤ (qy -ℤ ay) *ℤ ((by -ℤ ay) -ℤ (qy -ℤ ay))) +ℤ ((bx -ℤ qx) *ℤ (bx -ℤ qx) +ℤ (by -ℤ qy) *ℤ (by -ℤ qy))
plain_right ax ay bx by qx qy = read (ax ∷ ay ∷ bx ∷ by ∷ qx ∷ qy ∷ []) (λ xs a b c d e f. simp (a, b, c, d, e, f, polys) (den-ring xs _ _ tt))

plain_left : (ax ay bx by qx qy : ℤ) → (bx -ℤ ax) *ℤ (qx -ℤ ax) +ℤ (by -ℤ ay) *ℤ (qy -ℤ ay)
    ≡ ((qx -ℤ ax) *ℤ ((bx -ℤ ax) -ℤ (qx -ℤ ax)) +ℤ (qy -ℤ ay) *ℤ ((by -ℤ ay) -ℤ (qy -ℤ ay))) +ℤ ((qx -ℤ ax) *ℤ (qx -ℤ ax) +ℤ (qy -ℤ ay) *ℤ (qy -ℤ ay))
plain_left ax ay bx by qx qy = read (ax ∷ ay ∷ bx ∷ by ∷ qx ∷ qy ∷ []) (λ xs a b c d e f. simp (a, b, c, d, e, f, polys) (den-ring xs _ _ tt))

-- ---- what the pairs show

above : {s l q : ℤ} → s ≡ l +ℤ q → pos 0 <ℤ l → pos 0 ≤ℤ q → pos 0 <ℤ s
above e h k = omega (arith, ints)

-- two pairs, from the nearest point to the ends
pub two_show : (points : List PlanePoint) (first last : ℕ) (e : Extremes) (whole done left right : Pair) → AreCollinear points first last
    → AreExtremes (λ i. level (middle_form (point_at points first) (point_at points last)) (point_at points i)) (length points) e
    → IsPair points whole → whole.first ≡ last → whole.second ≡ first
    → IsPair points done → done.first ≡ e.near → done.second ≡ first
    → IsPair points left → left.first ≡ first → left.second ≡ e.near
    → IsPair points right → right.first ≡ last → right.second ≡ e.near
    → Size 400000 ((point_at points e.far).y -ℤ (point_at points first).y)
    → (e.high ≡ e.low → ⊥)
    → ShowSize points (middle_form (point_at points first) (point_at points last)) e (weighted left (dot whole.difference right.difference) ++ weighted right (dot whole.difference done.difference))
two_show points first last e whole done left right line extremes hw w1 w2 hd d1 d2 hl l1 l2 hr r1 r2 reach_within apart = record {
  count = count_two left right u v some_u;
  numbers = all_two (λ pair. (pair.first < length points) × (pair.second < length points)) left right u v (λ _. (hl.first, hl.second)) (λ _. (hr.first, hr.second));
  weights = all_two (λ pair. (pos 1 ≤ℤ pair.weight) × (pair.weight ≤ℤ pos (2 ^ 42))) left right u v (λ h. (h, part_light (le_from_lt some_v) light)) (λ h. (h, other_light (le_from_lt some_u) light));
  weight_limit = subst (λ s. s ≤ℤ pos (2 ^ 42)) (sym pair_total) light;
  balanced_x = sum_of (λ p. p.x) ∙ subst (λ s. s *ℤ (a.x -ℤ q.x) +ℤ v *ℤ (b.x -ℤ q.x) ≡ pos 0) (sym u_is) (subst (λ t. u_plain *ℤ (a.x -ℤ q.x) +ℤ t *ℤ (b.x -ℤ q.x) ≡ pos 0) (sym v_is) zero_x);
  balanced_y = sum_of (λ p. p.y) ∙ subst (λ s. s *ℤ (a.y -ℤ q.y) +ℤ v *ℤ (b.y -ℤ q.y) ≡ pos 0) (sym u_is) (subst (λ t. u_plain *ℤ (a.y -ℤ q.y) +ℤ t *ℤ (b.y -ℤ q.y) ≡ pos 0) (sym v_is) zero_y);
  value = ap₂ (λ s r. s *ℤ r) (pair_total ∙ ap₂ (λ s t. s +ℤ t) u_is v_is) reach_is
      ∙ plain_line_value u_plain v_plain a.x a.y b.x b.y q.x q.y zero_x zero_y
      ∙ ap (λ s. pos 1 *ℤ s) (sym (sum_of squared_length ∙ ap₂ (λ s t. s *ℤ (squared_length a -ℤ squared_length q) +ℤ t *ℤ (squared_length b -ℤ squared_length q)) u_is v_is));
}
  where
    a : PlanePoint
    a = point_at points first

    b : PlanePoint
    b = point_at points last

    q : PlanePoint
    q = point_at points e.near

    f : LinearForm
    f = middle_form a b

    u : ℤ
    u = dot whole.difference right.difference

    v : ℤ
    v = dot whole.difference done.difference

    u_plain : ℤ
    u_plain = (b.x -ℤ a.x) *ℤ (b.x -ℤ q.x) +ℤ (b.y -ℤ a.y) *ℤ (b.y -ℤ q.y)

    v_plain : ℤ
    v_plain = (b.x -ℤ a.x) *ℤ (q.x -ℤ a.x) +ℤ (b.y -ℤ a.y) *ℤ (q.y -ℤ a.y)

    whole_is : whole.difference ≡ difference_of b a
    whole_is = hw.difference ∙ ap₂ (λ i j. difference_of (point_at points i) (point_at points j)) w1 w2

    u_is : u ≡ u_plain
    u_is = ap₂ dot whole_is (hr.difference ∙ ap₂ (λ i j. difference_of (point_at points i) (point_at points j)) r1 r2)

    v_is : v ≡ v_plain
    v_is = ap₂ dot whole_is (hd.difference ∙ ap₂ (λ i j. difference_of (point_at points i) (point_at points j)) d1 d2)

    whole_within : IsDifference (difference_of b a)
    whole_within = subst IsDifference whole_is hw.within

    high_is : e.high ≡ level f a
    high_is = le_antisymm_ℤ (subst (λ z. z ≤ℤ level f a) (sym extremes.high) (ends_highest points first last e.far line extremes.far whole_within reach_within)) (extremes.highest first line.first_listed)

    reach_is : e.high -ℤ e.low ≡ level f a -ℤ level f q
    reach_is = ap₂ (λ h l. h -ℤ l) high_is extremes.low

    higher : {h l : ℤ} → (h ≡ l → ⊥) → l ≤ℤ h → pos 0 <ℤ (h -ℤ l)
    higher {h} {l} n k = by_lt_z l h (λ m. omega (arith, ints)) (λ m. absurd (n (le_antisymm_ℤ m k)))

    fall : pos 0 <ℤ ((q.x -ℤ a.x) *ℤ ((b.x -ℤ a.x) -ℤ (q.x -ℤ a.x)) +ℤ (q.y -ℤ a.y) *ℤ ((b.y -ℤ a.y) -ℤ (q.y -ℤ a.y)))
    fall = subst (λ z. pos 0 <ℤ z) (reach_is ∙ fall_is a b q) (higher apart (subst (λ z. e.low ≤ℤ z) (sym extremes.high) (extremes.lowest e.far extremes.far)))

    some_u : pos 0 <ℤ u
    some_u = subst (λ z. pos 0 <ℤ z) (sym u_is) (above (plain_right a.x a.y b.x b.y q.x q.y) fall (squares_nonneg (b.x -ℤ q.x) (b.y -ℤ q.y)))

    some_v : pos 0 <ℤ v
    some_v = subst (λ z. pos 0 <ℤ z) (sym v_is) (above (plain_left a.x a.y b.x b.y q.x q.y) fall (squares_nonneg (q.x -ℤ a.x) (q.y -ℤ a.y)))

    parallel : (b.x -ℤ a.x) *ℤ (q.y -ℤ a.y) -ℤ (b.y -ℤ a.y) *ℤ (q.x -ℤ a.x) ≡ pos 0
    parallel = line.line e.near extremes.near

    zero_x : u_plain *ℤ (a.x -ℤ q.x) +ℤ v_plain *ℤ (b.x -ℤ q.x) ≡ pos 0
    zero_x = plain_line_x a.x a.y b.x b.y q.x q.y parallel

    zero_y : u_plain *ℤ (a.y -ℤ q.y) +ℤ v_plain *ℤ (b.y -ℤ q.y) ≡ pos 0
    zero_y = plain_line_y a.x a.y b.x b.y q.x q.y parallel

    pair_total : pair_sum (weighted left u ++ weighted right v) ≡ u +ℤ v
    pair_total = total_two (λ pair. pair.weight) left right u v (le_from_lt some_u) (le_from_lt some_v) refl refl

    sum_of : (g : PlanePoint → ℤ) → weighted_differences points g (weighted left u ++ weighted right v) ≡ u *ℤ (g a -ℤ g q) +ℤ v *ℤ (g b -ℤ g q)
    sum_of g =
        total_two (λ pair. pair.weight *ℤ (g (point_at points pair.first) -ℤ g (point_at points pair.second))) left right u v (le_from_lt some_u) (le_from_lt some_v) (zero-*ℤ (g (point_at points left.first) -ℤ g (point_at points left.second))) (zero-*ℤ (g (point_at points right.first) -ℤ g (point_at points right.second)))
        ∙ ap₂ (λ s t. u *ℤ s +ℤ v *ℤ t) (ap₂ (λ i j. g (point_at points i) -ℤ g (point_at points j)) l1 l2) (ap₂ (λ i j. g (point_at points i) -ℤ g (point_at points j)) r1 r2)

    plain_whole : (ax ay bx by qx qy : ℤ) → ((bx -ℤ ax) *ℤ (bx -ℤ qx) +ℤ (by -ℤ ay) *ℤ (by -ℤ qy)) +ℤ ((bx -ℤ ax) *ℤ (qx -ℤ ax) +ℤ (by -ℤ ay) *ℤ (qy -ℤ ay)) ≡ (bx -ℤ ax) *ℤ (bx -ℤ ax) +ℤ (by -ℤ ay) *ℤ (by -ℤ ay)
    plain_whole ax ay bx by qx qy = read (ax ∷ ay ∷ bx ∷ by ∷ qx ∷ qy ∷ []) (λ xs a b c d e f. simp (a, b, c, d, e, f, polys) (den-ring xs _ _ tt))

    light : (u +ℤ v) ≤ℤ pos (2 ^ 42)
    light = subst (λ s. s ≤ℤ pos (2 ^ 42)) (sym (ap₂ (λ s t. s +ℤ t) u_is v_is ∙ plain_whole a.x a.y b.x b.y q.x q.y))
        (below_size (size_more (size_add (size_mul whole_within.x whole_within.x) (size_mul whole_within.y whole_within.y)) tt))

    part_light : {s t l : ℤ} → pos 0 ≤ℤ t → (s +ℤ t) ≤ℤ l → s ≤ℤ l
    part_light h k = omega (arith, ints)

    other_light : {s t l : ℤ} → pos 0 ≤ℤ s → (s +ℤ t) ≤ℤ l → t ≤ℤ l
    other_light h k = omega (arith, ints)

-- one pair of a point with itself, where the annulus has no width
pub one_shows : (points : List PlanePoint) (f : LinearForm) (e : Extremes) (pair : Pair) → IsPair points pair → pair.first ≡ pair.second → e.high ≡ e.low → ShowSize points f e (weighted pair (pos 1))
one_shows points f e pair is same flat = record {
  count = count_one pair (pos 1) (omega (arith, ints));
  numbers = all_one (λ pair. (pair.first < length points) × (pair.second < length points)) pair.first pair.second (pos 1) (λ _. (is.first, is.second));
  weights = all_one (λ pair. (pos 1 ≤ℤ pair.weight) × (pair.weight ≤ℤ pos (2 ^ 42))) pair.first pair.second (pos 1) (λ h. (h, omega (arith, ints)));
  weight_limit = omega (arith, ints);
  balanced_x = sum_is (λ p. p.x);
  balanced_y = sum_is (λ p. p.y);
  value = ap (λ d. pos 1 *ℤ d) (no_width flat) ∙ sym (ap (λ s. f.w *ℤ s) (sum_is squared_length) ∙ last f.w);
}
  where
    no_width : {h l : ℤ} → h ≡ l → h -ℤ l ≡ pos 0
    no_width h = omega (arith, ints)

    last : (z : ℤ) → z *ℤ pos 0 ≡ pos 0
    last z = omega (arith, ints)

    itself : (z : ℤ) → pos 1 *ℤ (z -ℤ z) +ℤ pos 0 ≡ pos 0
    itself z = omega (arith, ints)

    sum_is : (g : PlanePoint → ℤ) → weighted_differences points g (weighted pair (pos 1)) ≡ pos 0
    sum_is g = subst (λ i. pos 1 *ℤ (g (point_at points pair.first) -ℤ g (point_at points i)) +ℤ pos 0 ≡ pos 0) same (itself (g (point_at points pair.first)))
