-- Four vectors of space: their weights, within the limits.
use Rattle.std.proofs.Common.{◌≡◌, sym, ◌∙◌, ap, subst, ℕ, ◌^◌, ℤ, pos, negsuc, neg_ℤ, ◌+ℤ◌, ◌-ℤ◌, ◌*ℤ◌, ◌<ℤ◌, List, [], ◌∷◌, arith}
use Rattle.std.specs.Prelude.{All}
use Rattle.std.proofs.lemmas.Int.{ints}
use Rattle.std.proofs.lemmas.List.Elements.{All-head, All-tail}
use Rattle.integers.specs.Size.{Size}
use Rattle.integers.proofs.Identities.{den-ring, read, polys, lits}
use Rattle.integers.proofs.MachineArithmetic.{Given, given, with_inputs, codes, size_within, number}
use Rattle.bounds_model.specs.Space.{SpacePoint, vector, dot, squared_length, times}
use Rattle.kernel_laws.specs.Limits.{IsVectorWithin}
use Rattle.kernel_laws.specs.Systems.{right_side, cross, sum3, space_weights}
use Rattle.kernel_laws.specs.Solutions.{IsWeighting, AreItems, Reduces, weight_limit}
use Rattle.kernel_laws.proofs.Solving.{solves_three, centre_first, centre_second, centre_third, origin_solves}
use Rattle.kernel_laws.proofs.Points.{same_point}
use Rattle.kernel_laws.proofs.Weightings.{weighting_of_four}

-- the sizes of four weights and of their sum
pub record FourSizes (limit : ℕ) (t p q s : ℤ) : Type 0 where
  pub sum : Size limit t
  pub first : Size limit (t -ℤ p -ℤ q -ℤ s)
  pub second : Size limit p
  pub third : Size limit q
  pub fourth : Size limit s

-- the sizes of the weights by a centre m / k
abbrev pub SpaceSizes : ℕ → SpacePoint → SpacePoint → SpacePoint → SpacePoint → ℤ → Type 0
SpaceSizes limit u v w m k = FourSizes limit (k *ℤ dot (cross u v) w) (dot m (cross v w)) (dot m (cross w u)) (dot m (cross u v))

-- the weights, by a centre m / k
pub space_weighting : (quadratic : ℤ) (limit : ℕ) (a b c d m : SpacePoint) (k : ℤ) (ws : List ℤ)
    → (let u = vector a b in let v = vector a c in let w = vector a d in pos 2 *ℤ dot u m ≡ k *ℤ right_side quadratic a b → pos 2 *ℤ dot v m ≡ k *ℤ right_side quadratic a c → pos 2 *ℤ dot w m ≡ k *ℤ right_side quadratic a d
    → Reduces (space_weights u v w m k) ws → pos 0 <ℤ (k *ℤ dot (cross u v) w) → SpaceSizes limit u v w m k → IsWeighting quadratic limit (a ∷ b ∷ c ∷ d ∷ []) ws)
space_weighting quadratic limit a b c d m k ws hb hc hd reduces some sizes =
    let u : SpacePoint = vector a b in
    let v : SpacePoint = vector a c in
    let w : SpacePoint = vector a d in
    weighting_of_four quadratic limit a b c d (dot m (cross v w)) (dot m (cross w u)) (dot m (cross u v)) (k *ℤ dot (cross u v) w) ws reduces
    (solves_three u u v w m k (right_side quadratic a b) hb) (solves_three v u v w m k (right_side quadratic a c) hc) (solves_three w u v w m k (right_side quadratic a d) hd)
    some sizes.sum sizes.first sizes.second sizes.third sizes.fourth

-- ---- balls

-- for balls a right side is the square of the difference
pub right_of_ball : (a x : SpacePoint) → right_side (pos 1) a x ≡ squared_length (vector a x)
right_of_ball a x = read (a.x ∷ a.y ∷ a.z ∷ x.x ∷ x.y ∷ x.z ∷ []) (λ xs b c d e f g. simp (b, c, d, e, f, g, polys, lits xs) (den-ring xs _ _ tt))

-- the centre of a ball
abbrev pub ball_centre : SpacePoint → SpacePoint → SpacePoint → ℤ → ℤ → ℤ → SpacePoint
ball_centre u v w r s t = sum3 r s t (cross v w) (cross w u) (cross u v)

abbrev inputs : {u v w : SpacePoint} {n : ℕ} → IsVectorWithin n u → IsVectorWithin n v → IsVectorWithin n w → List Given
inputs u v w = given u.x ∷ given u.y ∷ given u.z ∷ given v.x ∷ given v.y ∷ given v.z ∷ given w.x ∷ given w.y ∷ given w.z ∷ []

-- the first weight, seen from the second vector
first_weight : (u v w m : SpacePoint) → (let k = pos 2 *ℤ dot (cross u v) w in let n = cross (vector u v) (vector u w) in k *ℤ dot (cross u v) w -ℤ dot m (cross v w) -ℤ dot m (cross w u) -ℤ dot m (cross u v) ≡ (k *ℤ u.x -ℤ m.x) *ℤ n.x +ℤ (k *ℤ u.y -ℤ m.y) *ℤ n.y +ℤ (k *ℤ u.z -ℤ m.z) *ℤ n.z)
first_weight u v w m = read (u.x ∷ u.y ∷ u.z ∷ v.x ∷ v.y ∷ v.z ∷ w.x ∷ w.y ∷ w.z ∷ m.x ∷ m.y ∷ m.z ∷ []) (λ xs a b c d e f g h i j k l. simp (a, b, c, d, e, f, g, h, i, j, k, l, polys, lits xs) (den-ring xs _ _ tt))

abbrev far_inputs : {u v w p q : SpacePoint} {n : ℕ} → IsVectorWithin n u → IsVectorWithin n v → IsVectorWithin n w → IsVectorWithin n p → IsVectorWithin n q → List Given
far_inputs u v w p q = given u.x ∷ given u.y ∷ given u.z ∷ given v.x ∷ given v.y ∷ given v.z ∷ given w.x ∷ given w.y ∷ given w.z ∷ given p.x ∷ given p.y ∷ given p.z ∷ given q.x ∷ given q.y ∷ given q.z ∷ []

size_first : (u v w p q : SpacePoint) → IsVectorWithin 16000 u → IsVectorWithin 16000 v → IsVectorWithin 16000 w → IsVectorWithin 16000 p → IsVectorWithin 16000 q
    → (let m = ball_centre u v w (squared_length u) (squared_length v) (squared_length w) in let k = pos 2 *ℤ dot (cross u v) w in let n = cross p q in Size (2 ^ 92) ((k *ℤ u.x -ℤ m.x) *ℤ n.x +ℤ (k *ℤ u.y -ℤ m.y) *ℤ n.y +ℤ (k *ℤ u.z -ℤ m.z) *ℤ n.z))
size_first u v w p q hu hv hw hp hq = with_inputs (far_inputs hu hv hw hp hq) (λ xs h a b c d e f g i j k l m n o r. simp (a, b, c, d, e, f, g, i, j, k, l, m, n, o, r, number xs 2, codes) (size_within xs h _ tt))

-- their sizes, where also the differences of the differences are near
pub ball_sizes : (u v w : SpacePoint) → IsVectorWithin 16000 u → IsVectorWithin 16000 v → IsVectorWithin 16000 w → IsVectorWithin 16000 (vector u v) → IsVectorWithin 16000 (vector u w)
    → SpaceSizes (2 ^ 92) u v w (ball_centre u v w (squared_length u) (squared_length v) (squared_length w)) (pos 2 *ℤ dot (cross u v) w)
ball_sizes u v w hu hv hw hp hq = record {
  sum = with_inputs (inputs hu hv hw) (λ xs h d e f g i j k l m. simp (d, e, f, g, i, j, k, l, m, number xs 2, codes) (size_within xs h _ tt));
  first = subst (Size (2 ^ 92)) (sym (first_weight u v w (ball_centre u v w (squared_length u) (squared_length v) (squared_length w)))) (size_first u v w (vector u v) (vector u w) hu hv hw hp hq);
  second = with_inputs (inputs hu hv hw) (λ xs h d e f g i j k l m. simp (d, e, f, g, i, j, k, l, m, codes) (size_within xs h _ tt));
  third = with_inputs (inputs hu hv hw) (λ xs h d e f g i j k l m. simp (d, e, f, g, i, j, k, l, m, codes) (size_within xs h _ tt));
  fourth = with_inputs (inputs hu hv hw) (λ xs h d e f g i j k l m. simp (d, e, f, g, i, j, k, l, m, codes) (size_within xs h _ tt));
}

-- the vectors from the first and from the second are near
pub record AreNear (a b c d : SpacePoint) : Type 0 where
  pub ab : IsVectorWithin 16000 (vector a b)
  pub ac : IsVectorWithin 16000 (vector a c)
  pub ad : IsVectorWithin 16000 (vector a d)
  pub bc : IsVectorWithin 16000 (vector b c)
  pub bd : IsVectorWithin 16000 (vector b d)

-- from the conditions of the solver
pub are_near : (quadratic : ℤ) (a b c d : SpacePoint) → AreItems quadratic 3 (a ∷ b ∷ c ∷ d ∷ []) → quadratic ≡ pos 1 → AreNear a b c d
are_near quadratic a b c d items e =
    let P : SpacePoint → SpacePoint → Type 0 = λ x y. IsVectorWithin 16000 (vector x y) in
    let rows : All (λ x. All (P x) (a ∷ b ∷ c ∷ d ∷ [])) (a ∷ b ∷ c ∷ d ∷ []) = items.near e in
    let from_a : All (P a) (a ∷ b ∷ c ∷ d ∷ []) = All-head (λ x. All (P x) (a ∷ b ∷ c ∷ d ∷ [])) a (b ∷ c ∷ d ∷ []) rows in
    let from_b : All (P b) (a ∷ b ∷ c ∷ d ∷ []) = All-head (λ x. All (P x) (a ∷ b ∷ c ∷ d ∷ [])) b (c ∷ d ∷ []) (All-tail (λ x. All (P x) (a ∷ b ∷ c ∷ d ∷ [])) a (b ∷ c ∷ d ∷ []) rows) in
    let a1 = All-tail (P a) a (b ∷ c ∷ d ∷ []) from_a in
    let a2 = All-tail (P a) b (c ∷ d ∷ []) a1 in
    let b2 = All-tail (P b) b (c ∷ d ∷ []) (All-tail (P b) a (b ∷ c ∷ d ∷ []) from_b) in
    record { ab = All-head (P a) b (c ∷ d ∷ []) a1; ac = All-head (P a) c (d ∷ []) a2; ad = All-head (P a) d [] (All-tail (P a) c (d ∷ []) a2); bc = All-head (P b) c (d ∷ []) b2; bd = All-head (P b) d [] (All-tail (P b) c (d ∷ []) b2) }

between : {n : ℕ} (a b c : SpacePoint) → IsVectorWithin n (vector b c) → IsVectorWithin n (vector (vector a b) (vector a c))
between {n} a b c h = record { x = move a.x b.x c.x h.x; y = move a.y b.y c.y h.y; z = move a.z b.z c.z h.z }
  where
    move : (a b c : ℤ) → Size n (c -ℤ b) → Size n (c -ℤ a -ℤ (b -ℤ a))
    move a b c s = let e : c -ℤ a -ℤ (b -ℤ a) ≡ c -ℤ b = omega (arith, ints) in subst (Size n) (sym e) s

-- the answer for balls
pub ball_answer : (quadratic : ℤ) → quadratic ≡ pos 1 → (a b c d : SpacePoint) → AreNear a b c d → (ws : List ℤ)
    → (let u = vector a b in let v = vector a c in let w = vector a d in let k = pos 2 *ℤ dot (cross u v) w in Reduces (space_weights u v w (ball_centre u v w (right_side quadratic a b) (right_side quadratic a c) (right_side quadratic a d)) k) ws → pos 0 <ℤ (k *ℤ dot (cross u v) w) → IsWeighting quadratic (weight_limit quadratic 3) (a ∷ b ∷ c ∷ d ∷ []) ws)
ball_answer quadratic one a b c d near ws reduces some =
    let u : SpacePoint = vector a b in
    let v : SpacePoint = vector a c in
    let w : SpacePoint = vector a d in
    let k : ℤ = pos 2 *ℤ dot (cross u v) w in
    let right : (x : SpacePoint) → squared_length (vector a x) ≡ right_side quadratic a x = λ x. sym (ap (λ q. right_side q a x) one ∙ right_of_ball a x) in
    let sizes : SpaceSizes (2 ^ 92) u v w (ball_centre u v w (right_side quadratic a b) (right_side quadratic a c) (right_side quadratic a d)) k =
    subst (λ r. SpaceSizes (2 ^ 92) u v w (ball_centre u v w r (right_side quadratic a c) (right_side quadratic a d)) k) (right b)
    (subst (λ s. SpaceSizes (2 ^ 92) u v w (ball_centre u v w (squared_length u) s (right_side quadratic a d)) k) (right c)
    (subst (λ t. SpaceSizes (2 ^ 92) u v w (ball_centre u v w (squared_length u) (squared_length v) t) k) (right d)
    (ball_sizes u v w near.ab near.ac near.ad (between a b c near.bc) (between a b d near.bd)))) in
    let limit : 2 ^ 92 ≡ weight_limit quadratic 3 = sym (ap (λ q. weight_limit q 3) one) in
    subst (λ l. IsWeighting quadratic l (a ∷ b ∷ c ∷ d ∷ []) ws) limit
    (space_weighting quadratic (2 ^ 92) a b c d (ball_centre u v w (right_side quadratic a b) (right_side quadratic a c) (right_side quadratic a d)) k ws
    (centre_first u v w (right_side quadratic a b) (right_side quadratic a c) (right_side quadratic a d)) (centre_second u v w (right_side quadratic a b) (right_side quadratic a c) (right_side quadratic a d)) (centre_third u v w (right_side quadratic a b) (right_side quadratic a c) (right_side quadratic a d)) reduces some sizes)

-- ---- distances

abbrev norm_inputs : {k : ℤ} {a u v w : SpacePoint} → Size 1 k → IsVectorWithin 16000 a → IsVectorWithin 32000 u → IsVectorWithin 32000 v → IsVectorWithin 32000 w → List Given
norm_inputs k a u v w = given k ∷ given a.x ∷ given a.y ∷ given a.z ∷ given u.x ∷ given u.y ∷ given u.z ∷ given v.x ∷ given v.y ∷ given v.z ∷ given w.x ∷ given w.y ∷ given w.z ∷ []

-- their sizes, where the centre is the origin
pub norm_sizes : (k : ℤ) (a u v w : SpacePoint) → Size 1 k → IsVectorWithin 16000 a → IsVectorWithin 32000 u → IsVectorWithin 32000 v → IsVectorWithin 32000 w → SpaceSizes (2 ^ 66) u v w (times (neg_ℤ k) a) k
norm_sizes k a u v w hk ha hu hv hw = record {
  sum = with_inputs (norm_inputs hk ha hu hv hw) (λ xs h a b c d e f g i j k l m n. simp (a, b, c, d, e, f, g, i, j, k, l, m, n, codes) (size_within xs h _ tt));
  first = with_inputs (norm_inputs hk ha hu hv hw) (λ xs h a b c d e f g i j k l m n. simp (a, b, c, d, e, f, g, i, j, k, l, m, n, codes) (size_within xs h _ tt));
  second = with_inputs (norm_inputs hk ha hu hv hw) (λ xs h a b c d e f g i j k l m n. simp (a, b, c, d, e, f, g, i, j, k, l, m, n, codes) (size_within xs h _ tt));
  third = with_inputs (norm_inputs hk ha hu hv hw) (λ xs h a b c d e f g i j k l m n. simp (a, b, c, d, e, f, g, i, j, k, l, m, n, codes) (size_within xs h _ tt));
  fourth = with_inputs (norm_inputs hk ha hu hv hw) (λ xs h a b c d e f g i j k l m n. simp (a, b, c, d, e, f, g, i, j, k, l, m, n, codes) (size_within xs h _ tt));
}

-- a difference of two vectors is at most twice as long
pub difference_within : (a b : SpacePoint) → IsVectorWithin 16000 a → IsVectorWithin 16000 b → IsVectorWithin 32000 (vector a b)
difference_within a b ha hb = record { x = record { abs = let s = ha.x.abs in let t = hb.x.abs in omega (arith, ints) }; y = record { abs = let s = ha.y.abs in let t = hb.y.abs in omega (arith, ints) }; z = record { abs = let s = ha.z.abs in let t = hb.z.abs in omega (arith, ints) } }

-- the answer for distances
pub norm_answer : (quadratic : ℤ) → quadratic ≡ pos 0 → (a b c d : SpacePoint) (k : ℤ) → Size 1 k → IsVectorWithin 16000 a → IsVectorWithin 16000 b → IsVectorWithin 16000 c → IsVectorWithin 16000 d → (ws : List ℤ)
    → (let u = vector a b in let v = vector a c in let w = vector a d in Reduces (space_weights u v w (times (neg_ℤ k) a) k) ws → pos 0 <ℤ (k *ℤ dot (cross u v) w) → IsWeighting quadratic (weight_limit quadratic 3) (a ∷ b ∷ c ∷ d ∷ []) ws)
norm_answer quadratic none a b c d k hk ha hb hc hd ws reduces some =
    let right : (x : SpacePoint) → k *ℤ right_side (pos 0) a x ≡ k *ℤ right_side quadratic a x = λ x. ap (λ q. k *ℤ right_side q a x) (sym none) in
    let limit : 2 ^ 66 ≡ weight_limit quadratic 3 = sym (ap (λ q. weight_limit q 3) none) in
    subst (λ l. IsWeighting quadratic l (a ∷ b ∷ c ∷ d ∷ []) ws) limit
    (space_weighting quadratic (2 ^ 66) a b c d (times (neg_ℤ k) a) k ws (origin_solves a b k ∙ right b) (origin_solves a c k ∙ right c) (origin_solves a d k ∙ right d) reduces some
    (norm_sizes k a (vector a b) (vector a c) (vector a d) hk ha (difference_within a b ha hb) (difference_within a c ha hc) (difference_within a d ha hd)))

-- equal parts give equal weights
pub same_space_weights : {u v w m u' v' w' m' : SpacePoint} {k k' : ℤ} → u ≡ u' → v ≡ v' → w ≡ w' → m ≡ m' → k ≡ k' → space_weights u v w m k ≡ space_weights u' v' w' m' k'
same_space_weights {u} {v} {w} {m} {u'} {v'} {w'} {m'} {k} {k'} eu ev ew em ek =
    ap (λ u. space_weights u v w m k) eu ∙ ap (λ v. space_weights u' v w m k) ev ∙ ap (λ w. space_weights u' v' w m k) ew ∙ ap (λ m. space_weights u' v' w' m k) em ∙ ap (λ k. space_weights u' v' w' m' k) ek

-- equal vectors have equal sums
pub same_sum : (r s t : ℤ) {u v w u' v' w' : SpacePoint} → u ≡ u' → v ≡ v' → w ≡ w' → sum3 r s t u v w ≡ sum3 r s t u' v' w'
same_sum r s t {u} {v} {w} {u'} {v'} {w'} eu ev ew = ap (λ u. sum3 r s t u v w) eu ∙ ap (λ v. sum3 r s t u' v w) ev ∙ ap (λ w. sum3 r s t u' v' w) ew

-- equal right sides have equal centres
pub same_centre : (u v w : SpacePoint) {r s t r' s' t' : ℤ} → r ≡ r' → s ≡ s' → t ≡ t' → ball_centre u v w r s t ≡ ball_centre u v w r' s' t'
same_centre u v w {r} {s} {t} {r'} {s'} {t'} er es et = ap (λ r. ball_centre u v w r s t) er ∙ ap (λ s. ball_centre u v w r' s t) es ∙ ap (λ t. ball_centre u v w r' s' t) et

-- the opposite vector has the same bounds
pub opposite_within : {n : ℕ} (a : SpacePoint) → IsVectorWithin n a → IsVectorWithin n (times (negsuc 0) a)
opposite_within a h = record { x = record { abs = let s = h.x.abs in omega (arith, ints) }; y = record { abs = let s = h.y.abs in omega (arith, ints) }; z = record { abs = let s = h.z.abs in omega (arith, ints) } }

-- a vector is once itself
pub once : (a : SpacePoint) → a ≡ times (pos 1) a
once a = same_point (omega (arith, ints)) (omega (arith, ints)) (omega (arith, ints))
