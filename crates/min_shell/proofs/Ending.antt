-- Where no pair is above the plane of the four, the origin's weights show that the shell is best.
use Rattle.std.proofs.Common.{◌≡◌, refl, sym, ◌∙◌, ap, ap₂, subst, inl, inr, ◌<◌, ◌^◌, ℤ, pos, ◌+ℤ◌, ◌-ℤ◌, ◌*ℤ◌, neg_ℤ, ◌≤ℤ◌, ◌<ℤ◌, List, [], ◌∷◌, ◌++◌, length, arith}
use Rattle.std.proofs.lemmas.Int.{ints}
use Rattle.std.proofs.Math.IntN.{zero-*ℤ, *ℤ-zero}
use Rattle.integers.proofs.Sizes.{below_size}
use Rattle.integers.proofs.Identities.{den-ring, read, polys, lits}
use Rattle.integers.proofs.Order.{combine3, le_antisymm_ℤ, same_of_mul, square_positive}
use Rattle.bounds_model.specs.Space.{SpacePoint, point_at, squared_length}
use Rattle.bounds_model.specs.AnnulusAnswer.{WeightedPair, pair_sum}
use Rattle.bounds_model.specs.ShellAnswer.{weighted_differences}
use Rattle.min_shell.specs.declared.lifted_vectors.LiftedVector.{LiftedVector}
use Rattle.min_shell.specs.declared.lifted_vectors.Normal.{Normal}
use Rattle.min_shell.specs.declared.vertices.Vertex.{Vertex}
use Rattle.min_shell.specs.declared.targets.Target.{Target}
use Rattle.min_shell.specs.declared.linear_forms.LinearForm.{LinearForm}
use Rattle.pair_weights.specs.declared.extremes.Extremes.{Extremes}
use Rattle.min_shell.specs.declared.tetrahedra.Tetrahedron.{Tetrahedron}
use Rattle.min_shell.specs.Vectors.{difference_of, IsVector, dot, volume}
use Rattle.min_shell.specs.LinearForms.{level, rise}
use Rattle.min_shell.specs.Targets.{IsTarget}
use Rattle.min_shell.specs.Vertices.{IsPair, IsAside, IsSettled}
use Rattle.pair_weights.specs.Extremes.{AreExtremes}
use Rattle.min_shell.specs.Tetrahedra.{IsTetrahedron, form_through, origin_weights}
use Rattle.min_shell.specs.Witnesses.{ShowSize, weighted}
use Rattle.min_shell.proofs.GeneralPosition.{has_origin, volume_size}
use Rattle.min_shell.proofs.Starting.{pair_flat}
use Rattle.min_shell.proofs.Measure.{plain_cramer_x, plain_cramer_y, plain_cramer_z, plain_width, plain_same, sum4, first_rise, second_rise, third_rise, last_rise, width_positive, width_size}
use Rattle.min_shell.proofs.WeightedLists.{total_four, all_four, count_four}

-- ---- by plain numbers

plain_balanced : (u v w m fx fy fz fw ax ay az ah bx by bz bh cx cy cz ch dx dy dz dh : ℤ)
    → u *ℤ ax +ℤ v *ℤ bx +ℤ w *ℤ cx +ℤ m *ℤ dx ≡ pos 0 → u *ℤ ay +ℤ v *ℤ by +ℤ w *ℤ cy +ℤ m *ℤ dy ≡ pos 0 → u *ℤ az +ℤ v *ℤ bz +ℤ w *ℤ cz +ℤ m *ℤ dz ≡ pos 0
    → u *ℤ (fw *ℤ ah -ℤ (fx *ℤ ax +ℤ fy *ℤ ay +ℤ fz *ℤ az)) +ℤ v *ℤ (fw *ℤ bh -ℤ (fx *ℤ bx +ℤ fy *ℤ by +ℤ fz *ℤ bz)) +ℤ w *ℤ (fw *ℤ ch -ℤ (fx *ℤ cx +ℤ fy *ℤ cy +ℤ fz *ℤ cz)) +ℤ m *ℤ (fw *ℤ dh -ℤ (fx *ℤ dx +ℤ fy *ℤ dy +ℤ fz *ℤ dz))
    ≡ fw *ℤ (u *ℤ ah +ℤ v *ℤ bh +ℤ w *ℤ ch +ℤ m *ℤ dh)
plain_balanced u v w m fx fy fz fw ax ay az ah bx by bz bh cx cy cz ch dx dy dz dh hx hy hz =
    combine3 (neg_ℤ fx) (neg_ℤ fy) (neg_ℤ fz) hx hy hz
    (read (u ∷ v ∷ w ∷ m ∷ fx ∷ fy ∷ fz ∷ fw ∷ ax ∷ ay ∷ az ∷ ah ∷ bx ∷ by ∷ bz ∷ bh ∷ cx ∷ cy ∷ cz ∷ ch ∷ dx ∷ dy ∷ dz ∷ dh ∷ []) (λ xs v0 v1 v2 v3 v4 v5 v6 v7 v8 v9 v10 v11 v12 v13 v14 v15 v16 v17 v18 v19 v20 v21 v22 v23. simp (v0, v1, v2, v3, v4, v5, v6, v7, v8, v9, v10, v11, v12, v13, v14, v15, v16, v17, v18, v19, v20, v21, v22, v23, polys, lits xs) (den-ring xs _ _ tt)))

plain_part : (u v w m nx ny nz ax ay az bx by bz cx cy cz dx dy dz : ℤ)
    → u *ℤ ax +ℤ v *ℤ bx +ℤ w *ℤ cx +ℤ m *ℤ dx ≡ pos 0 → u *ℤ ay +ℤ v *ℤ by +ℤ w *ℤ cy +ℤ m *ℤ dy ≡ pos 0 → u *ℤ az +ℤ v *ℤ bz +ℤ w *ℤ cz +ℤ m *ℤ dz ≡ pos 0
    → u *ℤ (nx *ℤ ax +ℤ ny *ℤ ay +ℤ nz *ℤ az) +ℤ v *ℤ (nx *ℤ bx +ℤ ny *ℤ by +ℤ nz *ℤ bz) +ℤ w *ℤ (nx *ℤ cx +ℤ ny *ℤ cy +ℤ nz *ℤ cz) +ℤ m *ℤ (nx *ℤ dx +ℤ ny *ℤ dy +ℤ nz *ℤ dz)
    ≡ pos 0
plain_part u v w m nx ny nz ax ay az bx by bz cx cy cz dx dy dz hx hy hz =
    combine3 nx ny nz hx hy hz
    (read (u ∷ v ∷ w ∷ m ∷ nx ∷ ny ∷ nz ∷ ax ∷ ay ∷ az ∷ bx ∷ by ∷ bz ∷ cx ∷ cy ∷ cz ∷ dx ∷ dy ∷ dz ∷ []) (λ xs v0 v1 v2 v3 v4 v5 v6 v7 v8 v9 v10 v11 v12 v13 v14 v15 v16 v17 v18. simp (v0, v1, v2, v3, v4, v5, v6, v7, v8, v9, v10, v11, v12, v13, v14, v15, v16, v17, v18, polys, lits xs) (den-ring xs _ _ tt)))

plain_rise_is : (w x y z px py pz qx qy qz : ℤ)
    → w *ℤ ((px *ℤ px +ℤ py *ℤ py +ℤ pz *ℤ pz) -ℤ (qx *ℤ qx +ℤ qy *ℤ qy +ℤ qz *ℤ qz)) -ℤ (x *ℤ (px -ℤ qx) +ℤ y *ℤ (py -ℤ qy) +ℤ z *ℤ (pz -ℤ qz))
    ≡ (w *ℤ (px *ℤ px +ℤ py *ℤ py +ℤ pz *ℤ pz) -ℤ (x *ℤ px +ℤ y *ℤ py +ℤ z *ℤ pz)) -ℤ (w *ℤ (qx *ℤ qx +ℤ qy *ℤ qy +ℤ qz *ℤ qz) -ℤ (x *ℤ qx +ℤ y *ℤ qy +ℤ z *ℤ qz))
plain_rise_is w x y z px py pz qx qy qz = read (w ∷ x ∷ y ∷ z ∷ px ∷ py ∷ pz ∷ qx ∷ qy ∷ qz ∷ []) (λ xs a b c d e f g h i j. simp (a, b, c, d, e, f, g, h, i, j, polys) (den-ring xs _ _ tt))

-- ---- levels and rises

-- a pair's rise is the difference of the levels of its points
pub rise_is : (f : LinearForm) (p q : SpacePoint) → rise f (difference_of p q) ≡ level f p -ℤ level f q
rise_is f p q = plain_rise_is f.w f.x f.y f.z p.x p.y p.z q.x q.y q.z

-- no pair rises more than from the nearest to the farthest point
pub rise_le : (points : List SpacePoint) (f : LinearForm) (e : Extremes) (pair : Vertex) → AreExtremes (λ i. level f (point_at points i)) (length points) e → IsPair points pair → rise f pair.vector ≤ℤ (e.high -ℤ e.low)
rise_le points f e pair extremes is =
    subst (λ d. rise f d ≤ℤ (e.high -ℤ e.low)) (sym is.difference)
    (subst (λ z. z ≤ℤ (e.high -ℤ e.low)) (sym (rise_is f (point_at points pair.first) (point_at points pair.second)))
    (between (extremes.highest pair.first is.first) (extremes.lowest pair.second is.second)))
  where
    between : {a b h l : ℤ} → a ≤ℤ h → l ≤ℤ b → (a -ℤ b) ≤ℤ (h -ℤ l)
    between h k = omega (arith, ints)

-- and that pair rises so much
pub rise_of_extremes : (points : List SpacePoint) (f : LinearForm) (e : Extremes) (pair : Vertex) → AreExtremes (λ i. level f (point_at points i)) (length points) e → IsPair points pair → pair.first ≡ e.far → pair.second ≡ e.near
    → rise f pair.vector ≡ e.high -ℤ e.low
rise_of_extremes points f e pair extremes is far near =
    ap (rise f) is.difference ∙ rise_is f (point_at points pair.first) (point_at points pair.second)
    ∙ ap₂ (λ i j. level f (point_at points i) -ℤ level f (point_at points j)) far near
    ∙ sym (ap₂ (λ h l. h -ℤ l) extremes.high extremes.low)

-- ---- the origin's weights

-- the sum of f over four vectors, with the origin's weights
abbrev origin_sum : (LiftedVector → ℤ) → LiftedVector → LiftedVector → LiftedVector → LiftedVector → ℤ
origin_sum f a b c d = volume b c d *ℤ f a +ℤ volume a d c *ℤ f b +ℤ volume a b d *ℤ f c +ℤ volume a c b *ℤ f d

-- they balance
balanced_x : (a b c d : LiftedVector) → origin_sum (λ v. v.x) a b c d ≡ pos 0
balanced_x a b c d = plain_cramer_x a.x a.y a.z b.x b.y b.z c.x c.y c.z d.x d.y d.z

balanced_y : (a b c d : LiftedVector) → origin_sum (λ v. v.y) a b c d ≡ pos 0
balanced_y a b c d = plain_cramer_y a.x a.y a.z b.x b.y b.z c.x c.y c.z d.x d.y d.z

balanced_z : (a b c d : LiftedVector) → origin_sum (λ v. v.z) a b c d ≡ pos 0
balanced_z a b c d = plain_cramer_z a.x a.y a.z b.x b.y b.z c.x c.y c.z d.x d.y d.z

-- the sum of those of the differences is the form's w
pub width_is : (a b c d : LiftedVector) → d.one ≡ pos 1 → (form_through a b c d).w ≡ origin_sum (λ v. v.one) a b c d
width_is a b c d last =
    plain_width a.x a.y a.z b.x b.y b.z c.x c.y c.z d.x d.y d.z a.one b.one c.one
    ∙ ap (λ z. volume b c d *ℤ a.one +ℤ volume a d c *ℤ b.one +ℤ volume a b d *ℤ c.one +ℤ z) (sym (ap (λ o. volume a c b *ℤ o) last ∙ once (volume a c b)))
  where
    once : (z : ℤ) → z *ℤ pos 1 ≡ z
    once z = omega (arith, ints)

-- the weighted rises of a form are its w times the weighted lift
sum_of_rises : (f : LinearForm) (a b c d : LiftedVector) → origin_sum (rise f) a b c d ≡ f.w *ℤ origin_sum (λ v. v.lift) a b c d
sum_of_rises f a b c d =
    plain_balanced (volume b c d) (volume a d c) (volume a b d) (volume a c b) f.x f.y f.z f.w a.x a.y a.z a.lift b.x b.y b.z b.lift c.x c.y c.z c.lift d.x d.y d.z d.lift
    (balanced_x a b c d) (balanced_y a b c d) (balanced_z a b c d)

-- and so w times what the form rises along each
value_is : (a b c d : LiftedVector) → d.one ≡ pos 1 → (form_through a b c d).w *ℤ rise (form_through a b c d) d ≡ (form_through a b c d).w *ℤ origin_sum (λ v. v.lift) a b c d
value_is a b c d last =
    let f = form_through a b c d in
    ap (λ z. z *ℤ rise f d) (width_is a b c d last) ∙ turn (origin_sum (λ v. v.one) a b c d) (rise f d)
    ∙ sym (plain_same (volume b c d) (volume a d c) (volume a b d) (volume a c b) a.one b.one c.one d.one (rise f d))
    ∙ sum4 (ap (λ z. volume b c d *ℤ z) (sym (first_rise a b c d))) (ap (λ z. volume a d c *ℤ z) (sym (second_rise a b c d))) (ap (λ z. volume a b d *ℤ z) (sym (third_rise a b c d))) (ap (λ z. volume a c b *ℤ z) (sym (last_rise f d last)))
    ∙ sum_of_rises f a b c d
  where
    turn : (x y : ℤ) → x *ℤ y ≡ y *ℤ x
    turn x y = read (x ∷ y ∷ []) (λ xs v w. simp (v, w, polys) (den-ring xs _ _ tt))

-- ---- directions have no weight

-- a weight whose product with a part that is there is 0
no_weight : (u k : ℤ) → u *ℤ k ≡ pos 0 → (k ≡ pos 0 → ⊥) → u ≡ pos 0
no_weight u k e some =
    same_of_mul (k *ℤ k) (square_positive k some) (product u k ∙ ap (λ z. k *ℤ z) e ∙ *ℤ-zero k ∙ sym (*ℤ-zero (k *ℤ k)))
  where
    product : (u k : ℤ) → (k *ℤ k) *ℤ u ≡ k *ℤ (u *ℤ k)
    product u k = read (u ∷ k ∷ []) (λ xs v w. simp (v, w, polys) (den-ring xs _ _ tt))

-- the parts along a normal balance
parts : (n : Normal) (a b c d : LiftedVector) → origin_sum (dot n) a b c d ≡ pos 0
parts n a b c d =
    plain_part (volume b c d) (volume a d c) (volume a b d) (volume a c b) n.x n.y n.z a.x a.y a.z b.x b.y b.z c.x c.y c.z d.x d.y d.z
    (balanced_x a b c d) (balanced_y a b c d) (balanced_z a b c d)

-- one of four products, where the others are 0
first_of : (x y z w : ℤ) → x +ℤ y +ℤ z +ℤ w ≡ pos 0 → y ≡ pos 0 → z ≡ pos 0 → w ≡ pos 0 → x ≡ pos 0
first_of x y z w e hy hz hw = omega (arith, ints)

second_of : (x y z w : ℤ) → x +ℤ y +ℤ z +ℤ w ≡ pos 0 → x ≡ pos 0 → z ≡ pos 0 → w ≡ pos 0 → y ≡ pos 0
second_of x y z w e hx hz hw = omega (arith, ints)

third_of : (x y z w : ℤ) → x +ℤ y +ℤ z +ℤ w ≡ pos 0 → x ≡ pos 0 → y ≡ pos 0 → w ≡ pos 0 → z ≡ pos 0
third_of x y z w e hx hy hw = omega (arith, ints)

times_zero : (u : ℤ) {k : ℤ} → k ≡ pos 0 → u *ℤ k ≡ pos 0
times_zero u e = ap (λ z. u *ℤ z) e ∙ *ℤ-zero u

-- the weight of a vertex that is a direction
pub first_weight : (points : List SpacePoint) (a b c d : Vertex) → IsAside points a.vector b.vector c.vector → IsPair points d → volume b.vector c.vector d.vector ≡ pos 0
first_weight points a b c d aside pair =
    no_weight _ (dot aside.normal a.vector)
    (first_of _ _ _ _ (parts aside.normal a.vector b.vector c.vector d.vector) (times_zero (volume a.vector d.vector c.vector) aside.first) (times_zero (volume a.vector b.vector d.vector) aside.second) (times_zero (volume a.vector c.vector b.vector) (pair_flat points aside.normal d aside.flat pair)))
    aside.apart

pub second_weight : (points : List SpacePoint) (a b c d : Vertex) → IsAside points b.vector a.vector c.vector → IsPair points d → volume a.vector d.vector c.vector ≡ pos 0
second_weight points a b c d aside pair =
    no_weight _ (dot aside.normal b.vector)
    (second_of _ _ _ _ (parts aside.normal a.vector b.vector c.vector d.vector) (times_zero (volume b.vector c.vector d.vector) aside.first) (times_zero (volume a.vector b.vector d.vector) aside.second) (times_zero (volume a.vector c.vector b.vector) (pair_flat points aside.normal d aside.flat pair)))
    aside.apart

pub third_weight : (points : List SpacePoint) (a b c d : Vertex) → IsAside points c.vector a.vector b.vector → IsPair points d → volume a.vector b.vector d.vector ≡ pos 0
third_weight points a b c d aside pair =
    no_weight _ (dot aside.normal c.vector)
    (third_of _ _ _ _ (parts aside.normal a.vector b.vector c.vector d.vector) (times_zero (volume b.vector c.vector d.vector) aside.first) (times_zero (volume a.vector d.vector c.vector) aside.second) (times_zero (volume a.vector c.vector b.vector) (pair_flat points aside.normal d aside.flat pair)))
    aside.apart

-- ---- what a vertex with its weight gives

-- a pair, or a weight of 0
pub record IsWeighted (points : List SpacePoint) (v : Vertex) (u : ℤ) : Type 0 where
  pub numbers : pos 1 ≤ℤ u → (v.first < length points) × (v.second < length points)
  pub x : u *ℤ ((point_at points v.first).x -ℤ (point_at points v.second).x) ≡ u *ℤ v.vector.x
  pub y : u *ℤ ((point_at points v.first).y -ℤ (point_at points v.second).y) ≡ u *ℤ v.vector.y
  pub z : u *ℤ ((point_at points v.first).z -ℤ (point_at points v.second).z) ≡ u *ℤ v.vector.z
  pub one : u ≡ u *ℤ v.vector.one
  pub lift : u *ℤ (squared_length (point_at points v.first) -ℤ squared_length (point_at points v.second)) ≡ u *ℤ v.vector.lift

pub pair_weighted : (points : List SpacePoint) (v : Vertex) (u : ℤ) → IsPair points v → IsWeighted points v u
pair_weighted points v u is = record {
  numbers = λ _. (is.first, is.second);
  x = ap (λ d. u *ℤ d.x) (sym is.difference);
  y = ap (λ d. u *ℤ d.y) (sym is.difference);
  z = ap (λ d. u *ℤ d.z) (sym is.difference);
  one = once u ∙ ap (λ d. u *ℤ d.one) (sym is.difference);
  lift = ap (λ d. u *ℤ d.lift) (sym is.difference);
}
  where
    once : (z : ℤ) → z ≡ z *ℤ pos 1
    once z = omega (arith, ints)

none_weighted : (points : List SpacePoint) (v : Vertex) (u : ℤ) → u ≡ pos 0 → IsWeighted points v u
none_weighted points v u none = record {
  numbers = λ h. absurd (clash h none);
  x = both _ v.vector.x;
  y = both _ v.vector.y;
  z = both _ v.vector.z;
  one = none ∙ sym (ap (λ u. u *ℤ v.vector.one) none ∙ zero-*ℤ v.vector.one);
  lift = both _ v.vector.lift;
}
  where
    clash : {u : ℤ} → pos 1 ≤ℤ u → u ≡ pos 0 → ⊥
    clash h e = omega (arith, ints)

    both : (a b : ℤ) → u *ℤ a ≡ u *ℤ b
    both a b = ap (λ u. u *ℤ a) none ∙ zero-*ℤ a ∙ sym (ap (λ u. u *ℤ b) none ∙ zero-*ℤ b)

settled_weighted : (points : List SpacePoint) (v u w : Vertex) (k : ℤ) → (IsAside points v.vector u.vector w.vector → k ≡ pos 0) → IsSettled points v u w → IsWeighted points v k
settled_weighted points v u w k none (inl pair) = pair_weighted points v k pair
settled_weighted points v u w k none (inr aside) = none_weighted points v k (none aside)

-- how far out they are
pub settled_within : (points : List SpacePoint) (v u w : Vertex) → IsSettled points v u w → IsVector v.vector
settled_within points v u w (inl pair) = pair.within
settled_within points v u w (inr aside) = aside.within

-- ---- at the end of the walk

-- the weighted sum over the four vertices
sum_of : (points : List SpacePoint) (f : SpacePoint → ℤ) (a b c d : Vertex) (u v w m : ℤ) → pos 0 ≤ℤ u → pos 0 ≤ℤ v → pos 0 ≤ℤ w → pos 0 ≤ℤ m
    → weighted_differences points f (weighted a u ++ weighted b v ++ weighted c w ++ weighted d m)
    ≡ u *ℤ (f (point_at points a.first) -ℤ f (point_at points a.second)) +ℤ v *ℤ (f (point_at points b.first) -ℤ f (point_at points b.second)) +ℤ w *ℤ (f (point_at points c.first) -ℤ f (point_at points c.second)) +ℤ m *ℤ (f (point_at points d.first) -ℤ f (point_at points d.second))
sum_of points f a b c d u v w m pu pv pw pm =
    total_four (λ pair. pair.weight *ℤ (f (point_at points pair.first) -ℤ f (point_at points pair.second))) a b c d u v w m pu pv pw pm (zero-*ℤ (f (point_at points a.first) -ℤ f (point_at points a.second))) (zero-*ℤ (f (point_at points b.first) -ℤ f (point_at points b.second))) (zero-*ℤ (f (point_at points c.first) -ℤ f (point_at points c.second))) (zero-*ℤ (f (point_at points d.first) -ℤ f (point_at points d.second)))

pub tetrahedron_shows : (points : List SpacePoint) (target : Target) (t : Tetrahedron) (e : Extremes) → IsTarget target → IsTetrahedron points target t
    → AreExtremes (λ i. level (form_through t.a.vector t.b.vector t.c.vector t.d.vector) (point_at points i)) (length points) e
    → (e.high -ℤ e.low) ≤ℤ rise (form_through t.a.vector t.b.vector t.c.vector t.d.vector) t.d.vector
    → ShowSize points (form_through t.a.vector t.b.vector t.c.vector t.d.vector) e (origin_weights t)
tetrahedron_shows points target t e ht is extremes top = record {
  count = count_four t.a t.b t.c t.d u v w m (subst (λ z. pos 0 <ℤ z) (sym weights_are) some);
  numbers = all_four (λ pair. (pair.first < length points) × (pair.second < length points)) t.a t.b t.c t.d u v w m wa.numbers wb.numbers wc.numbers wd.numbers;
  weights = all_four (λ pair. (pos 1 ≤ℤ pair.weight) × (pair.weight ≤ℤ pos (2 ^ 50))) t.a t.b t.c t.d u v w m (λ h. (h, below_size (volume_size hb hc hd))) (λ h. (h, below_size (volume_size ha hd hc))) (λ h. (h, below_size (volume_size ha hb hd))) (λ h. (h, below_size (volume_size ha hc hb)));
  weight_limit = limit (pair_total ∙ weights_are) (below_size (width_size a b c d ha hb hc hd));
  balanced_x = sum_of points (λ p. p.x) t.a t.b t.c t.d u v w m pu pv pw pm ∙ sum4 wa.x wb.x wc.x wd.x ∙ balanced_x a b c d;
  balanced_y = sum_of points (λ p. p.y) t.a t.b t.c t.d u v w m pu pv pw pm ∙ sum4 wa.y wb.y wc.y wd.y ∙ balanced_y a b c d;
  balanced_z = sum_of points (λ p. p.z) t.a t.b t.c t.d u v w m pu pv pw pm ∙ sum4 wa.z wb.z wc.z wd.z ∙ balanced_z a b c d;
  value = ap₂ (λ s r. s *ℤ r) (pair_total ∙ weights_are) (sym rise_d) ∙ value_is a b c d last
      ∙ ap (λ s. f.w *ℤ s) (sym (sum_of points squared_length t.a t.b t.c t.d u v w m pu pv pw pm ∙ sum4 wa.lift wb.lift wc.lift wd.lift));
}
  where
    a : LiftedVector
    a = t.a.vector

    b : LiftedVector
    b = t.b.vector

    c : LiftedVector
    c = t.c.vector

    d : LiftedVector
    d = t.d.vector

    f : LinearForm
    f = form_through a b c d

    ha : IsVector a
    ha = settled_within points t.a t.b t.c is.a

    hb : IsVector b
    hb = settled_within points t.b t.a t.c is.b

    hc : IsVector c
    hc = settled_within points t.c t.a t.b is.c

    hd : IsVector d
    hd = is.d.within

    last : d.one ≡ pos 1
    last = ap (λ v. v.one) is.d.difference

    u : ℤ
    u = volume b c d

    v : ℤ
    v = volume a d c

    w : ℤ
    w = volume a b d

    m : ℤ
    m = volume a c b

    pu : pos 0 ≤ℤ u
    pu = has_origin target b c d ht hb hc hd is.around.a_weight

    pv : pos 0 ≤ℤ v
    pv = has_origin target a d c ht ha hd hc is.around.b_weight

    pw : pos 0 ≤ℤ w
    pw = has_origin target a b d ht ha hb hd is.around.c_weight

    pm : pos 0 ≤ℤ m
    pm = has_origin target a c b ht ha hc hb is.around.d_weight

    wa : IsWeighted points t.a u
    wa = settled_weighted points t.a t.b t.c u (λ aside. first_weight points t.a t.b t.c t.d aside is.d) is.a

    wb : IsWeighted points t.b v
    wb = settled_weighted points t.b t.a t.c v (λ aside. second_weight points t.a t.b t.c t.d aside is.d) is.b

    wc : IsWeighted points t.c w
    wc = settled_weighted points t.c t.a t.b w (λ aside. third_weight points t.a t.b t.c t.d aside is.d) is.c

    wd : IsWeighted points t.d m
    wd = pair_weighted points t.d m is.d

    weights_are : u +ℤ v +ℤ w +ℤ m ≡ f.w
    weights_are = sum4 wa.one wb.one wc.one wd.one ∙ sym (width_is a b c d last)

    pair_total : pair_sum (origin_weights t) ≡ u +ℤ v +ℤ w +ℤ m
    pair_total = total_four (λ pair. pair.weight) t.a t.b t.c t.d u v w m pu pv pw pm refl refl refl refl

    some : pos 0 <ℤ f.w
    some = width_positive target a b c d ha hb hc last is.around

    rise_d : rise f d ≡ e.high -ℤ e.low
    rise_d = le_antisymm_ℤ (rise_le points f e t.d extremes is.d) top

    limit : {s n : ℤ} → s ≡ n → n ≤ℤ pos (2 ^ 48) → s ≤ℤ pos (2 ^ 50)
    limit h k = omega (arith, ints)

-- the same by a form, a pair and a list that are what they should be
pub settled : (points : List SpacePoint) (target : Target) (t : Tetrahedron) (f : LinearForm) (e : Extremes) (pair : Vertex) (listed : List WeightedPair) → f ≡ form_through t.a.vector t.b.vector t.c.vector t.d.vector
    → IsTarget target → IsTetrahedron points target t
    → AreExtremes (λ i. level f (point_at points i)) (length points) e → IsPair points pair → pair.first ≡ e.far → pair.second ≡ e.near → rise f pair.vector ≤ℤ rise f t.d.vector
    → listed ≡ origin_weights t → ShowSize points f e listed
settled points target t f e pair listed is_form ht is extremes is_pair far near top is_list =
    let reach : (e.high -ℤ e.low) ≤ℤ rise f t.d.vector = subst (λ z. z ≤ℤ rise f t.d.vector) (rise_of_extremes points f e pair extremes is_pair far near) top in
    subst (ShowSize points f e) (sym is_list)
    (subst (λ f. ShowSize points f e (origin_weights t)) (sym is_form)
    (tetrahedron_shows points target t e ht is (subst (λ f. AreExtremes (λ i. level f (point_at points i)) (length points) e) is_form extremes) (subst (λ f. (e.high -ℤ e.low) ≤ℤ rise f t.d.vector) is_form reach)))
