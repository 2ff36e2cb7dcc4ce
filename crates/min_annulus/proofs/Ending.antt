-- Where no pair is above the plane of the three, the origin's weights show that the annulus is best.
use Rattle.std.proofs.Common.{◌≡◌, refl, sym, ◌∙◌, ap, ap₂, subst, ◌<◌, ◌^◌, ℤ, pos, ◌+ℤ◌, ◌-ℤ◌, ◌*ℤ◌, neg_ℤ, ◌≤ℤ◌, ◌<ℤ◌, List, [], ◌∷◌, ◌++◌, length, arith}
use Rattle.std.proofs.lemmas.Int.{ints}
use Rattle.std.proofs.Math.IntN.{zero-*ℤ}
use Rattle.integers.proofs.Sizes.{size_sub, size_mul, size_more, below_size}
use Rattle.integers.proofs.Identities.{den-ring, read, polys, lits}
use Rattle.integers.proofs.Order.{combine2, combine3, le_antisymm_ℤ}
use Rattle.bounds_model.specs.Plane.{PlanePoint, point_at, squared_length}
use Rattle.bounds_model.specs.AnnulusAnswer.{WeightedPair, pair_sum, weighted_differences}
use Rattle.min_annulus.specs.declared.difference_vectors.DifferenceVector.{DifferenceVector}
use Rattle.min_annulus.specs.declared.pairs.Pair.{Pair}
use Rattle.min_annulus.specs.declared.linear_forms.LinearForm.{LinearForm}
use Rattle.pair_weights.specs.declared.extremes.Extremes.{Extremes}
use Rattle.min_annulus.specs.declared.target_triangle.Triangle.{Triangle}
use Rattle.min_annulus.specs.DifferenceVectors.{difference_of, IsDifference, IsAround, cross, area}
use Rattle.min_annulus.specs.LinearForms.{level, rise, form_through}
use Rattle.min_annulus.specs.Pairs.{IsPair}
use Rattle.pair_weights.specs.Extremes.{AreExtremes}
use Rattle.min_annulus.specs.Triangles.{IsTriangle}
use Rattle.min_annulus.specs.Witnesses.{ShowSize, weighted}
use Rattle.min_annulus.proofs.Target.{has_origin}
use Rattle.min_annulus.proofs.Measure.{area_size, area_positive}
use Rattle.min_annulus.proofs.WeightedLists.{total_three, all_three, count_three}

-- ---- levels and rises

plain_rise_is : (w x y px py qx qy : ℤ)
    → w *ℤ ((px *ℤ px +ℤ py *ℤ py) -ℤ (qx *ℤ qx +ℤ qy *ℤ qy)) -ℤ (x *ℤ (px -ℤ qx) +ℤ y *ℤ (py -ℤ qy))
    ≡ (w *ℤ (px *ℤ px +ℤ py *ℤ py) -ℤ (x *ℤ px +ℤ y *ℤ py)) -ℤ (w *ℤ (qx *ℤ qx +ℤ qy *ℤ qy) -ℤ (x *ℤ qx +ℤ y *ℤ qy))
plain_rise_is w x y px py qx qy = read (w ∷ x ∷ y ∷ px ∷ py ∷ qx ∷ qy ∷ []) (λ xs a b c d e f g. simp (a, b, c, d, e, f, g, polys) (den-ring xs _ _ tt))

-- a pair's rise is the difference of the levels of its points
pub rise_is : (f : LinearForm) (p q : PlanePoint) → rise f (difference_of p q) ≡ level f p -ℤ level f q
rise_is f p q = plain_rise_is f.w f.x f.y p.x p.y q.x q.y

-- no pair rises more than from the nearest to the farthest point
pub rise_le : (points : List PlanePoint) (f : LinearForm) (e : Extremes) (pair : Pair) → AreExtremes (λ i. level f (point_at points i)) (length points) e → IsPair points pair → rise f pair.difference ≤ℤ (e.high -ℤ e.low)
rise_le points f e pair extremes is =
    subst (λ d. rise f d ≤ℤ (e.high -ℤ e.low)) (sym is.difference)
    (subst (λ z. z ≤ℤ (e.high -ℤ e.low)) (sym (rise_is f (point_at points pair.first) (point_at points pair.second)))
    (between (extremes.highest pair.first is.first) (extremes.lowest pair.second is.second)))
  where
    between : {a b h l : ℤ} → a ≤ℤ h → l ≤ℤ b → (a -ℤ b) ≤ℤ (h -ℤ l)
    between h k = omega (arith, ints)

-- and that pair rises so much
pub rise_of_extremes : (points : List PlanePoint) (f : LinearForm) (e : Extremes) (pair : Pair) → AreExtremes (λ i. level f (point_at points i)) (length points) e → IsPair points pair → pair.first ≡ e.far → pair.second ≡ e.near
    → rise f pair.difference ≡ e.high -ℤ e.low
rise_of_extremes points f e pair extremes is far near =
    ap (rise f) is.difference ∙ rise_is f (point_at points pair.first) (point_at points pair.second)
    ∙ ap₂ (λ i j. level f (point_at points i) -ℤ level f (point_at points j)) far near
    ∙ sym (ap₂ (λ h l. h -ℤ l) extremes.high extremes.low)

-- ---- the three vertices have one rise

plain_second : (ax ay ah bx by bh cx cy ch : ℤ)
    → ((bx -ℤ ax) *ℤ (cy -ℤ ay) -ℤ (by -ℤ ay) *ℤ (cx -ℤ ax)) *ℤ bh -ℤ (((bh -ℤ ah) *ℤ (cy -ℤ ay) -ℤ (ch -ℤ ah) *ℤ (by -ℤ ay)) *ℤ bx +ℤ ((bx -ℤ ax) *ℤ (ch -ℤ ah) -ℤ (cx -ℤ ax) *ℤ (bh -ℤ ah)) *ℤ by)
    ≡ ((bx -ℤ ax) *ℤ (cy -ℤ ay) -ℤ (by -ℤ ay) *ℤ (cx -ℤ ax)) *ℤ ah -ℤ (((bh -ℤ ah) *ℤ (cy -ℤ ay) -ℤ (ch -ℤ ah) *ℤ (by -ℤ ay)) *ℤ ax +ℤ ((bx -ℤ ax) *ℤ (ch -ℤ ah) -ℤ (cx -ℤ ax) *ℤ (bh -ℤ ah)) *ℤ ay)
plain_second ax ay ah bx by bh cx cy ch = read (ax ∷ ay ∷ ah ∷ bx ∷ by ∷ bh ∷ cx ∷ cy ∷ ch ∷ []) (λ xs a b c d e f g h i. simp (a, b, c, d, e, f, g, h, i, polys) (den-ring xs _ _ tt))

plain_third : (ax ay ah bx by bh cx cy ch : ℤ)
    → ((bx -ℤ ax) *ℤ (cy -ℤ ay) -ℤ (by -ℤ ay) *ℤ (cx -ℤ ax)) *ℤ ch -ℤ (((bh -ℤ ah) *ℤ (cy -ℤ ay) -ℤ (ch -ℤ ah) *ℤ (by -ℤ ay)) *ℤ cx +ℤ ((bx -ℤ ax) *ℤ (ch -ℤ ah) -ℤ (cx -ℤ ax) *ℤ (bh -ℤ ah)) *ℤ cy)
    ≡ ((bx -ℤ ax) *ℤ (cy -ℤ ay) -ℤ (by -ℤ ay) *ℤ (cx -ℤ ax)) *ℤ ah -ℤ (((bh -ℤ ah) *ℤ (cy -ℤ ay) -ℤ (ch -ℤ ah) *ℤ (by -ℤ ay)) *ℤ ax +ℤ ((bx -ℤ ax) *ℤ (ch -ℤ ah) -ℤ (cx -ℤ ax) *ℤ (bh -ℤ ah)) *ℤ ay)
plain_third ax ay ah bx by bh cx cy ch = read (ax ∷ ay ∷ ah ∷ bx ∷ by ∷ bh ∷ cx ∷ cy ∷ ch ∷ []) (λ xs a b c d e f g h i. simp (a, b, c, d, e, f, g, h, i, polys) (den-ring xs _ _ tt))

-- that of the second is that of the first
pub second_rise : (a b c : DifferenceVector) → rise (form_through a b c) b ≡ rise (form_through a b c) a
second_rise a b c = plain_second a.x a.y a.lift b.x b.y b.lift c.x c.y c.lift

-- and so is that of the third
pub third_rise : (a b c : DifferenceVector) → rise (form_through a b c) c ≡ rise (form_through a b c) a
third_rise a b c = plain_third a.x a.y a.lift b.x b.y b.lift c.x c.y c.lift

-- ---- the origin's weights

plain_balanced_x : (ax ay bx by cx cy : ℤ) → (bx *ℤ cy -ℤ by *ℤ cx) *ℤ ax +ℤ (cx *ℤ ay -ℤ cy *ℤ ax) *ℤ bx +ℤ (ax *ℤ by -ℤ ay *ℤ bx) *ℤ cx ≡ pos 0
plain_balanced_x ax ay bx by cx cy = read (ax ∷ ay ∷ bx ∷ by ∷ cx ∷ cy ∷ []) (λ xs a b c d e f. simp (a, b, c, d, e, f, polys, lits xs) (den-ring xs _ _ tt))

plain_balanced_y : (ax ay bx by cx cy : ℤ) → (bx *ℤ cy -ℤ by *ℤ cx) *ℤ ay +ℤ (cx *ℤ ay -ℤ cy *ℤ ax) *ℤ by +ℤ (ax *ℤ by -ℤ ay *ℤ bx) *ℤ cy ≡ pos 0
plain_balanced_y ax ay bx by cx cy = read (ax ∷ ay ∷ bx ∷ by ∷ cx ∷ cy ∷ []) (λ xs a b c d e f. simp (a, b, c, d, e, f, polys, lits xs) (den-ring xs _ _ tt))

plain_sum : (ax ay bx by cx cy : ℤ) → (bx *ℤ cy -ℤ by *ℤ cx) +ℤ (cx *ℤ ay -ℤ cy *ℤ ax) +ℤ (ax *ℤ by -ℤ ay *ℤ bx) ≡ (bx -ℤ ax) *ℤ (cy -ℤ ay) -ℤ (by -ℤ ay) *ℤ (cx -ℤ ax)
plain_sum ax ay bx by cx cy = read (ax ∷ ay ∷ bx ∷ by ∷ cx ∷ cy ∷ []) (λ xs a b c d e f. simp (a, b, c, d, e, f, polys) (den-ring xs _ _ tt))

-- their sum is the area
pub weights_sum : (a b c : DifferenceVector) → cross b c +ℤ cross c a +ℤ cross a b ≡ area a b c
weights_sum a b c = plain_sum a.x a.y b.x b.y c.x c.y

plain_value : (u v t w x y L ax ay ah bx by bh cx cy ch : ℤ)
    → w *ℤ ah -ℤ (x *ℤ ax +ℤ y *ℤ ay) ≡ L → w *ℤ bh -ℤ (x *ℤ bx +ℤ y *ℤ by) ≡ L → w *ℤ ch -ℤ (x *ℤ cx +ℤ y *ℤ cy) ≡ L
    → u *ℤ ax +ℤ v *ℤ bx +ℤ t *ℤ cx ≡ pos 0 → u *ℤ ay +ℤ v *ℤ by +ℤ t *ℤ cy ≡ pos 0
    → (u +ℤ v +ℤ t) *ℤ L ≡ w *ℤ (u *ℤ ah +ℤ v *ℤ bh +ℤ t *ℤ ch)
plain_value u v t w x y L ax ay ah bx by bh cx cy ch ea eb ec bx_0 by_0 =
    let middle : (u +ℤ v +ℤ t) *ℤ L ≡ w *ℤ (u *ℤ ah +ℤ v *ℤ bh +ℤ t *ℤ ch) -ℤ (x *ℤ (u *ℤ ax +ℤ v *ℤ bx +ℤ t *ℤ cx) +ℤ y *ℤ (u *ℤ ay +ℤ v *ℤ by +ℤ t *ℤ cy)) = combine3 (neg_ℤ u) (neg_ℤ v) (neg_ℤ t) ea eb ec
    (read (u ∷ v ∷ t ∷ w ∷ x ∷ y ∷ L ∷ ax ∷ ay ∷ ah ∷ bx ∷ by ∷ bh ∷ cx ∷ cy ∷ ch ∷ []) (λ xs k l m n o p q r s a b c d e f g. simp (k, l, m, n, o, p, q, r, s, a, b, c, d, e, f, g, polys) (den-ring xs _ _ tt))) in
    middle
    ∙ combine2 (neg_ℤ x) (neg_ℤ y) bx_0 by_0
    (read (u ∷ v ∷ t ∷ w ∷ x ∷ y ∷ L ∷ ax ∷ ay ∷ ah ∷ bx ∷ by ∷ bh ∷ cx ∷ cy ∷ ch ∷ []) (λ xs k l m n o p q r s a b c d e f g. simp (k, l, m, n, o, p, q, r, s, a, b, c, d, e, f, g, polys, lits xs) (den-ring xs _ _ tt)))

-- ---- what the pairs show

-- a weighted difference of a pair's coordinates is its weight times the difference
of_pair : (points : List PlanePoint) (pair : Pair) (w : ℤ) → IsPair points pair
    → (w *ℤ ((point_at points pair.first).x -ℤ (point_at points pair.second).x) ≡ w *ℤ pair.difference.x)
    × (w *ℤ ((point_at points pair.first).y -ℤ (point_at points pair.second).y) ≡ w *ℤ pair.difference.y)
    × (w *ℤ (squared_length (point_at points pair.first) -ℤ squared_length (point_at points pair.second)) ≡ w *ℤ pair.difference.lift)
of_pair points pair w is = (ap (λ d. w *ℤ d.x) (sym is.difference), ap (λ d. w *ℤ d.y) (sym is.difference), ap (λ d. w *ℤ d.lift) (sym is.difference))

sum3 : {a b c d e f : ℤ} → a ≡ d → b ≡ e → c ≡ f → a +ℤ b +ℤ c ≡ d +ℤ e +ℤ f
sum3 h k l = ap₂ (λ s t. s +ℤ t) (ap₂ (λ s t. s +ℤ t) h k) l

cross_light : (a b : DifferenceVector) → IsDifference a → IsDifference b → cross a b ≤ℤ pos (2 ^ 42)
cross_light a b ha hb = below_size (size_more (size_sub (size_mul ha.x hb.y) (size_mul ha.y hb.x)) tt)

-- the weighted sum over the three pairs
sum_of : (points : List PlanePoint) (f : PlanePoint → ℤ) (a b c : Pair) (u v w : ℤ) → pos 0 ≤ℤ u → pos 0 ≤ℤ v → pos 0 ≤ℤ w
    → weighted_differences points f (weighted a u ++ weighted b v ++ weighted c w)
    ≡ u *ℤ (f (point_at points a.first) -ℤ f (point_at points a.second)) +ℤ v *ℤ (f (point_at points b.first) -ℤ f (point_at points b.second)) +ℤ w *ℤ (f (point_at points c.first) -ℤ f (point_at points c.second))
sum_of points f a b c u v w pu pv pw =
    total_three (λ pair. pair.weight *ℤ (f (point_at points pair.first) -ℤ f (point_at points pair.second))) a b c u v w pu pv pw (zero-*ℤ (f (point_at points a.first) -ℤ f (point_at points a.second))) (zero-*ℤ (f (point_at points b.first) -ℤ f (point_at points b.second))) (zero-*ℤ (f (point_at points c.first) -ℤ f (point_at points c.second)))

-- at the end of the walk
pub triangle_shows : (points : List PlanePoint) (t : Triangle) (e : Extremes) → IsTriangle points t → AreExtremes (λ i. level (form_through t.a.difference t.b.difference t.c.difference) (point_at points i)) (length points) e
    → (e.high -ℤ e.low) ≤ℤ rise (form_through t.a.difference t.b.difference t.c.difference) t.a.difference
    → ShowSize points (form_through t.a.difference t.b.difference t.c.difference) e (weighted t.a (cross t.b.difference t.c.difference) ++ weighted t.b (cross t.c.difference t.a.difference) ++ weighted t.c (cross t.a.difference t.b.difference))
triangle_shows points t e is extremes top = record {
  count = count_three t.a t.b t.c u v w (subst (λ z. pos 0 <ℤ z) (sym (weights_sum a b c)) (area_positive a b c is.around));
  numbers = all_three (λ pair. (pair.first < length points) × (pair.second < length points)) t.a t.b t.c u v w (λ _. (is.a.first, is.a.second)) (λ _. (is.b.first, is.b.second)) (λ _. (is.c.first, is.c.second));
  weights = all_three (λ pair. (pos 1 ≤ℤ pair.weight) × (pair.weight ≤ℤ pos (2 ^ 42))) t.a t.b t.c u v w (λ h. (h, cross_light b c is.b.within is.c.within)) (λ h. (h, cross_light c a is.c.within is.a.within)) (λ h. (h, cross_light a b is.a.within is.b.within));
  weight_limit = limit (pair_total ∙ weights_sum a b c) (below_size (area_size a b c is.a.within is.b.within is.c.within));
  balanced_x = sum_of points (λ p. p.x) t.a t.b t.c u v w pu pv pw ∙ sum3 (of_pair points t.a u is.a).0 (of_pair points t.b v is.b).0 (of_pair points t.c w is.c).0 ∙ zero_x;
  balanced_y = sum_of points (λ p. p.y) t.a t.b t.c u v w pu pv pw ∙ sum3 (of_pair points t.a u is.a).1 (of_pair points t.b v is.b).1 (of_pair points t.c w is.c).1 ∙ zero_y;
  value = ap (λ s. s *ℤ (e.high -ℤ e.low)) pair_total
      ∙ plain_value u v w f.w f.x f.y (e.high -ℤ e.low) a.x a.y a.lift b.x b.y b.lift c.x c.y c.lift rise_a (second_rise a b c ∙ rise_a) (third_rise a b c ∙ rise_a) zero_x zero_y
      ∙ ap (λ s. f.w *ℤ s) (sym (sum_of points squared_length t.a t.b t.c u v w pu pv pw ∙ sum3 (of_pair points t.a u is.a).2 (of_pair points t.b v is.b).2 (of_pair points t.c w is.c).2));
}
  where
    a : DifferenceVector
    a = t.a.difference

    b : DifferenceVector
    b = t.b.difference

    c : DifferenceVector
    c = t.c.difference

    u : ℤ
    u = cross b c

    v : ℤ
    v = cross c a

    w : ℤ
    w = cross a b

    f : LinearForm
    f = form_through a b c

    pu : pos 0 ≤ℤ u
    pu = has_origin b c is.b.within is.c.within is.around.bc

    pv : pos 0 ≤ℤ v
    pv = has_origin c a is.c.within is.a.within is.around.ca

    pw : pos 0 ≤ℤ w
    pw = has_origin a b is.a.within is.b.within is.around.ab

    zero_x : u *ℤ a.x +ℤ v *ℤ b.x +ℤ w *ℤ c.x ≡ pos 0
    zero_x = plain_balanced_x a.x a.y b.x b.y c.x c.y

    zero_y : u *ℤ a.y +ℤ v *ℤ b.y +ℤ w *ℤ c.y ≡ pos 0
    zero_y = plain_balanced_y a.x a.y b.x b.y c.x c.y

    pair_total : pair_sum (weighted t.a u ++ weighted t.b v ++ weighted t.c w) ≡ u +ℤ v +ℤ w
    pair_total = total_three (λ pair. pair.weight) t.a t.b t.c u v w pu pv pw refl refl refl

    rise_a : rise f a ≡ e.high -ℤ e.low
    rise_a = le_antisymm_ℤ (rise_le points f e t.a extremes is.a) top

    limit : {s n : ℤ} → s ≡ n → n ≤ℤ pos (2 ^ 41) → s ≤ℤ pos (2 ^ 42)
    limit h k = omega (arith, ints)

-- the same by a form, a pair and a list that are what they should be
pub settled : (points : List PlanePoint) (t : Triangle) (f : LinearForm) (e : Extremes) (pair : Pair) (listed : List WeightedPair) → f ≡ form_through t.a.difference t.b.difference t.c.difference → IsTriangle points t
    → AreExtremes (λ i. level f (point_at points i)) (length points) e → IsPair points pair → pair.first ≡ e.far → pair.second ≡ e.near → rise f pair.difference ≤ℤ rise f t.a.difference
    → listed ≡ weighted t.a (cross t.b.difference t.c.difference) ++ weighted t.b (cross t.c.difference t.a.difference) ++ weighted t.c (cross t.a.difference t.b.difference)
    → ShowSize points f e listed
settled points t f e pair listed is_form is extremes is_pair far near top is_list =
    let reach : (e.high -ℤ e.low) ≤ℤ rise f t.a.difference = subst (λ z. z ≤ℤ rise f t.a.difference) (rise_of_extremes points f e pair extremes is_pair far near) top in
    subst (ShowSize points f e) (sym is_list)
    (subst (λ f. ShowSize points f e (weighted t.a (cross t.b.difference t.c.difference) ++ weighted t.b (cross t.c.difference t.a.difference) ++ weighted t.c (cross t.a.difference t.b.difference))) (sym is_form)
    (triangle_shows points t e is (subst (λ f. AreExtremes (λ i. level f (point_at points i)) (length points) e) is_form extremes) (subst (λ f. (e.high -ℤ e.low) ≤ℤ rise f t.a.difference) is_form reach)))

-- its denominator is above 0
pub some_area : (f : LinearForm) (a b c : DifferenceVector) → f ≡ form_through a b c → IsAround a b c → pos 1 ≤ℤ f.w
some_area f a b c is_form around = subst (λ f. pos 1 ≤ℤ f.w) (sym is_form) (one (area_positive a b c around))
  where
    one : {z : ℤ} → pos 0 <ℤ z → pos 1 ≤ℤ z
    one h = omega (arith, ints)
