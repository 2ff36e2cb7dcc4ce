-- Three vectors: their weights, within the limits.
use Rattle.std.proofs.Common.{◌≡◌, refl, sym, ◌∙◌, ap, ap₂, subst, ℕ, zero, suc, ◌^◌, ◌⊎◌, inl, inr, ℤ, pos, negsuc, neg_ℤ, ◌+ℤ◌, ◌-ℤ◌, ◌*ℤ◌, ◌<ℤ◌, ◌≤ℤ◌, List, [], ◌∷◌, arith}
use Rattle.std.specs.Prelude.{All}
use Rattle.std.proofs.lemmas.Int.{ints}
use Rattle.std.proofs.lemmas.List.Elements.{All-head, All-tail}
use Rattle.integers.specs.Size.{Size}
use Rattle.integers.proofs.Identities.{den-ring, read, polys, lits}
use Rattle.integers.proofs.Order.{combine1, combine2, square_positive, lt_by}
use Rattle.integers.proofs.Sizes.{size_mul, size_neg, size_more}
use Rattle.integers.proofs.MachineArithmetic.{Given, given, with_inputs, codes, size_within, number}
use Rattle.bounds_model.specs.Space.{SpacePoint, vector, dot, squared_length, origin}
use Rattle.bounds_model.specs.Slacks.{IsDependence}
use Rattle.kernel_laws.specs.Limits.{IsVectorWithin, IsDifference, difference_limit, ball_limit}
use Rattle.kernel_laws.specs.Systems.{right_side, cross, gram_weights, plane_weights}
use Rattle.kernel_laws.specs.Solutions.{IsWeighting, AreItems, Reduces, weight_limit}
use Rattle.kernel_laws.proofs.Solving.{solves_two_first, solves_two_second, solves_plane, centre_plane_first, centre_plane_second, along_x, along_y, along_z}
use Rattle.kernel_laws.proofs.Dependences.{dependence_of_three}
use Rattle.kernel_laws.proofs.Weightings.{weighting_of_three}

-- the sizes of three weights and of their sum
pub record ThreeSizes (limit : ℕ) (t p q : ℤ) : Type 0 where
  pub sum : Size limit t
  pub first : Size limit (t -ℤ p -ℤ q)
  pub second : Size limit p
  pub third : Size limit q

-- ---- by Gram's matrix

-- the weights
pub gram_weighting : (quadratic : ℤ) (limit : ℕ) (a b c : SpacePoint) (r s : ℤ) (ws : List ℤ) → r ≡ right_side quadratic a b → s ≡ right_side quadratic a c
    → (let u = vector a b in let v = vector a c in Reduces (gram_weights u v r s) ws → pos 0 <ℤ squared_length (cross u v) → ThreeSizes limit (pos 2 *ℤ squared_length (cross u v)) (r *ℤ dot v v -ℤ s *ℤ dot u v) (s *ℤ dot u u -ℤ r *ℤ dot u v) → IsWeighting quadratic limit (a ∷ b ∷ c ∷ []) ws)
gram_weighting quadratic limit a b c r s ws er es reduces apart sizes =
    let u : SpacePoint = vector a b in
    let v : SpacePoint = vector a c in
    let total : ℤ = pos 2 *ℤ squared_length (cross u v) in
    let p : ℤ = r *ℤ dot v v -ℤ s *ℤ dot u v in
    let q : ℤ = s *ℤ dot u u -ℤ r *ℤ dot u v in
    weighting_of_three quadratic limit a b c p q total ws reduces (solves_two_first u v r s ∙ ap (λ r. total *ℤ r) er) (solves_two_second u v r s ∙ ap (λ s. total *ℤ s) es) (omega (arith, ints)) sizes.sum sizes.first sizes.second sizes.third

abbrev inputs : {a b c : SpacePoint} {n : ℕ} → IsVectorWithin n a → IsVectorWithin n b → IsVectorWithin n c → List Given
inputs a b c = given a.x ∷ given a.y ∷ given a.z ∷ given b.x ∷ given b.y ∷ given b.z ∷ given c.x ∷ given c.y ∷ given c.z ∷ []

-- in space they are within the limit
pub gram_sizes : (quadratic : ℤ) → (quadratic ≡ pos 0) ⊎ (quadratic ≡ pos 1) → (a b c : SpacePoint) → IsVectorWithin 16000 a → IsVectorWithin 16000 b → IsVectorWithin 16000 c
    → (let u = vector a b in let v = vector a c in let r = right_side quadratic a b in let s = right_side quadratic a c in ThreeSizes (weight_limit quadratic 3) (pos 2 *ℤ squared_length (cross u v)) (r *ℤ dot v v -ℤ s *ℤ dot u v) (s *ℤ dot u u -ℤ r *ℤ dot u v))
gram_sizes quadratic (inl e) a b c ha hb hc =
    subst (λ quadratic. let u = vector a b in let v = vector a c in let r = right_side quadratic a b in let s = right_side quadratic a c in ThreeSizes (weight_limit quadratic 3) (pos 2 *ℤ squared_length (cross u v)) (r *ℤ dot v v -ℤ s *ℤ dot u v) (s *ℤ dot u u -ℤ r *ℤ dot u v)) (sym e) (record {
      sum = with_inputs (inputs ha hb hc) (λ xs h d e f g i j k l m. simp (d, e, f, g, i, j, k, l, m, number xs 2, codes) (size_within xs h _ tt));
      first = with_inputs (inputs ha hb hc) (λ xs h d e f g i j k l m. simp (d, e, f, g, i, j, k, l, m, number xs 0, number xs 2, codes) (size_within xs h _ tt));
      second = with_inputs (inputs ha hb hc) (λ xs h d e f g i j k l m. simp (d, e, f, g, i, j, k, l, m, number xs 0, number xs 2, codes) (size_within xs h _ tt));
      third = with_inputs (inputs ha hb hc) (λ xs h d e f g i j k l m. simp (d, e, f, g, i, j, k, l, m, number xs 0, number xs 2, codes) (size_within xs h _ tt));
    })
gram_sizes quadratic (inr e) a b c ha hb hc =
    subst (λ quadratic. let u = vector a b in let v = vector a c in let r = right_side quadratic a b in let s = right_side quadratic a c in ThreeSizes (weight_limit quadratic 3) (pos 2 *ℤ squared_length (cross u v)) (r *ℤ dot v v -ℤ s *ℤ dot u v) (s *ℤ dot u u -ℤ r *ℤ dot u v)) (sym e) (record {
      sum = with_inputs (inputs ha hb hc) (λ xs h d e f g i j k l m. simp (d, e, f, g, i, j, k, l, m, number xs 2, codes) (size_within xs h _ tt));
      first = with_inputs (inputs ha hb hc) (λ xs h d e f g i j k l m. simp (d, e, f, g, i, j, k, l, m, number xs 1, number xs 2, codes) (size_within xs h _ tt));
      second = with_inputs (inputs ha hb hc) (λ xs h d e f g i j k l m. simp (d, e, f, g, i, j, k, l, m, number xs 1, number xs 2, codes) (size_within xs h _ tt));
      third = with_inputs (inputs ha hb hc) (λ xs h d e f g i j k l m. simp (d, e, f, g, i, j, k, l, m, number xs 1, number xs 2, codes) (size_within xs h _ tt));
    })

-- ---- in the plane

-- the weights, by a centre (x, y) / k
pub plane_weighting : (quadratic : ℤ) (limit : ℕ) (a b c : SpacePoint) (x y k r s : ℤ) (ws : List ℤ) → r ≡ right_side quadratic a b → s ≡ right_side quadratic a c
    → (let u = vector a b in let v = vector a c in u.z ≡ pos 0 → v.z ≡ pos 0 → pos 2 *ℤ (u.x *ℤ x +ℤ u.y *ℤ y) ≡ k *ℤ r → pos 2 *ℤ (v.x *ℤ x +ℤ v.y *ℤ y) ≡ k *ℤ s
    → Reduces (plane_weights u v x y k) ws → pos 0 <ℤ (k *ℤ (cross u v).z) → ThreeSizes limit (k *ℤ (cross u v).z) (x *ℤ v.y -ℤ y *ℤ v.x) (y *ℤ u.x -ℤ x *ℤ u.y) → IsWeighting quadratic limit (a ∷ b ∷ c ∷ []) ws)
plane_weighting quadratic limit a b c x y k r s ws er es uz vz hb hc reduces apart sizes =
    let u : SpacePoint = vector a b in
    let v : SpacePoint = vector a c in
    let m : SpacePoint = record { x = x; y = y; z = pos 0 } in
    let total : ℤ = k *ℤ (cross u v).z in
    weighting_of_three quadratic limit a b c (x *ℤ v.y -ℤ y *ℤ v.x) (y *ℤ u.x -ℤ x *ℤ u.y) total ws reduces (solves_plane u u v m k r uz hb ∙ ap (λ r. total *ℤ r) er) (solves_plane v u v m k s vz hc ∙ ap (λ s. total *ℤ s) es) apart sizes.sum sizes.first sizes.second sizes.third

-- for balls a right side is the square of the difference
pub right_of_ball : (a x : SpacePoint) → (vector a x).z ≡ pos 0 → right_side (pos 1) a x ≡ (vector a x).x *ℤ (vector a x).x +ℤ (vector a x).y *ℤ (vector a x).y
right_of_ball a x e = combine1 ((vector a x).z) e (read (a.x ∷ a.y ∷ a.z ∷ x.x ∷ x.y ∷ x.z ∷ []) (λ xs b c d e f g. simp (b, c, d, e, f, g, polys, lits xs) (den-ring xs _ _ tt)))

abbrev two_inputs : {u v : SpacePoint} {n : ℕ} → IsVectorWithin n u → IsVectorWithin n v → List Given
two_inputs u v = given u.x ∷ given u.y ∷ given v.x ∷ given v.y ∷ []

-- the centre of a ball, and its sizes
abbrev pub BallInPlane : SpacePoint → SpacePoint → ℤ → ℤ → Type 0
BallInPlane u v r s =
    let x = r *ℤ v.y -ℤ s *ℤ u.y in
    let y = s *ℤ u.x -ℤ r *ℤ v.x in
    let k = pos 2 *ℤ (cross u v).z in
    ThreeSizes (2 ^ 80) (k *ℤ (cross u v).z) (x *ℤ v.y -ℤ y *ℤ v.x) (y *ℤ u.x -ℤ x *ℤ u.y)

-- their sizes, for differences of the plane
pub ball_sizes : (u v : SpacePoint) → IsVectorWithin 400000 u → IsVectorWithin 400000 v → BallInPlane u v (u.x *ℤ u.x +ℤ u.y *ℤ u.y) (v.x *ℤ v.x +ℤ v.y *ℤ v.y)
ball_sizes u v hu hv = record {
  sum = with_inputs (two_inputs hu hv) (λ xs h d e f g. simp (d, e, f, g, number xs 2, codes) (size_within xs h _ tt));
  first = with_inputs (two_inputs hu hv) (λ xs h d e f g. simp (d, e, f, g, number xs 2, codes) (size_within xs h _ tt));
  second = with_inputs (two_inputs hu hv) (λ xs h d e f g. simp (d, e, f, g, number xs 2, codes) (size_within xs h _ tt));
  third = with_inputs (two_inputs hu hv) (λ xs h d e f g. simp (d, e, f, g, number xs 2, codes) (size_within xs h _ tt));
}

abbrev four_inputs : {x y k : ℤ} {u v : SpacePoint} → Size 400000 x → Size 400000 y → Size 1 k → IsVectorWithin 800000 u → IsVectorWithin 800000 v → List Given
four_inputs x y k u v = given x ∷ given y ∷ given k ∷ given u.x ∷ given u.y ∷ given v.x ∷ given v.y ∷ []

-- the sizes for distances, where the centre is the origin
pub norm_sizes : (x y k : ℤ) (u v : SpacePoint) → Size 400000 x → Size 400000 y → Size 1 k → IsVectorWithin 800000 u → IsVectorWithin 800000 v → ThreeSizes (2 ^ 66) (k *ℤ (cross u v).z) (x *ℤ v.y -ℤ y *ℤ v.x) (y *ℤ u.x -ℤ x *ℤ u.y)
norm_sizes x y k u v hx hy hk hu hv = record {
  sum = with_inputs (four_inputs hx hy hk hu hv) (λ xs h d e f g i j k. simp (d, e, f, g, i, j, k, codes) (size_within xs h _ tt));
  first = with_inputs (four_inputs hx hy hk hu hv) (λ xs h d e f g i j k. simp (d, e, f, g, i, j, k, codes) (size_within xs h _ tt));
  second = with_inputs (four_inputs hx hy hk hu hv) (λ xs h d e f g i j k. simp (d, e, f, g, i, j, k, codes) (size_within xs h _ tt));
  third = with_inputs (four_inputs hx hy hk hu hv) (λ xs h d e f g i j k. simp (d, e, f, g, i, j, k, codes) (size_within xs h _ tt));
}

-- for distances in the plane the origin has each equation
pub origin_in_plane : (a x : SpacePoint) (k : ℤ) → (vector a x).z ≡ pos 0 → pos 2 *ℤ ((vector a x).x *ℤ (neg_ℤ k *ℤ a.x) +ℤ (vector a x).y *ℤ (neg_ℤ k *ℤ a.y)) ≡ k *ℤ right_side (pos 0) a x
origin_in_plane a x k e = combine1 (pos 2 *ℤ k *ℤ a.z) e (read (a.x ∷ a.y ∷ a.z ∷ x.x ∷ x.y ∷ x.z ∷ k ∷ []) (λ xs b c d e f g h. simp (b, c, d, e, f, g, h, polys, lits xs) (den-ring xs _ _ tt)))

-- ---- where they are along one line

-- numbers that show it
pub along_of_three : (a b c : SpacePoint) (p q : ℤ) → (let u = vector a b in let v = vector a c in p ≡ dot u v → q ≡ dot u u → pos 0 <ℤ q → cross u v ≡ origin → IsDependence (a ∷ b ∷ c ∷ []) ((q -ℤ p) ∷ p ∷ neg_ℤ q ∷ []))
along_of_three a b c p q ep eq some e =
    let u : SpacePoint = vector a b in
    let v : SpacePoint = vector a c in
    let first : neg_ℤ (p +ℤ neg_ℤ q) ≡ q -ℤ p = omega (arith, ints) in
    subst (λ n. IsDependence (a ∷ b ∷ c ∷ []) (n ∷ p ∷ neg_ℤ q ∷ [])) first
    (dependence_of_three a b c p (neg_ℤ q) (λ all. let z : neg_ℤ q ≡ pos 0 = All-head (λ n. n ≡ pos 0) (neg_ℤ q) [] (All-tail (λ n. n ≡ pos 0) p (neg_ℤ q ∷ []) all) in absurd (omega (arith, ints)))
    (subst (λ p. p *ℤ u.x +ℤ neg_ℤ q *ℤ v.x ≡ pos 0) (sym ep) (subst (λ q. dot u v *ℤ u.x +ℤ neg_ℤ q *ℤ v.x ≡ pos 0) (sym eq) (along_x u v (ap (λ v. v.y) e) (ap (λ v. v.z) e))))
    (subst (λ p. p *ℤ u.y +ℤ neg_ℤ q *ℤ v.y ≡ pos 0) (sym ep) (subst (λ q. dot u v *ℤ u.y +ℤ neg_ℤ q *ℤ v.y ≡ pos 0) (sym eq) (along_y u v (ap (λ v. v.z) e) (ap (λ v. v.x) e))))
    (subst (λ p. p *ℤ u.z +ℤ neg_ℤ q *ℤ v.z ≡ pos 0) (sym ep) (subst (λ q. dot u v *ℤ u.z +ℤ neg_ℤ q *ℤ v.z ≡ pos 0) (sym eq) (along_z u v (ap (λ v. v.x) e) (ap (λ v. v.y) e)))))

-- ---- what is known of three items

-- their sizes, and those of the differences
pub record ThreeItems (quadratic : ℤ) (dim : ℕ) (a b c : SpacePoint) : Type 0 where
  pub first : IsDifference dim a
  pub second : IsDifference dim b
  pub third : IsDifference dim c
  pub near : quadratic ≡ pos 1 → IsVectorWithin (difference_limit dim) (vector a b) × IsVectorWithin (difference_limit dim) (vector a c)

-- from the conditions of the solver
pub three_items : (quadratic : ℤ) (dim : ℕ) (a b c : SpacePoint) → AreItems quadratic dim (a ∷ b ∷ c ∷ []) → ThreeItems quadratic dim a b c
three_items quadratic dim a b c h =
    let rest : All (IsDifference dim) (b ∷ c ∷ []) = All-tail (IsDifference dim) a (b ∷ c ∷ []) h.each in
    record {
      first = All-head (IsDifference dim) a (b ∷ c ∷ []) h.each;
      second = All-head (IsDifference dim) b (c ∷ []) rest;
      third = All-head (IsDifference dim) c [] (All-tail (IsDifference dim) b (c ∷ []) rest);
      near = λ e.
          let all : All (λ x. IsVectorWithin (difference_limit dim) (vector a x)) (a ∷ b ∷ c ∷ []) = All-head (λ a'. All (λ x. IsVectorWithin (difference_limit dim) (vector a' x)) (a ∷ b ∷ c ∷ [])) a (b ∷ c ∷ []) (h.near e) in
          let tail : All (λ x. IsVectorWithin (difference_limit dim) (vector a x)) (b ∷ c ∷ []) = All-tail (λ x. IsVectorWithin (difference_limit dim) (vector a x)) a (b ∷ c ∷ []) all in
          (All-head (λ x. IsVectorWithin (difference_limit dim) (vector a x)) b (c ∷ []) tail, All-head (λ x. IsVectorWithin (difference_limit dim) (vector a x)) c [] (All-tail (λ x. IsVectorWithin (difference_limit dim) (vector a x)) b (c ∷ []) tail));
    }

-- a difference of vectors of the plane has no height
pub flat_difference : (dim : ℕ) (a x : SpacePoint) → IsDifference dim a → IsDifference dim x → dim ≡ 2 → (vector a x).z ≡ pos 0
flat_difference dim a x ha hx e = let l = ha.flat e in let r = hx.flat e in omega (arith, ints)

-- the answer in space
pub gram_answer : (quadratic : ℤ) (dim : ℕ) → (quadratic ≡ pos 0) ⊎ (quadratic ≡ pos 1) → dim ≡ 3 → (a b c : SpacePoint) → ThreeItems quadratic dim a b c → (ws : List ℤ)
    → (let u = vector a b in let v = vector a c in Reduces (gram_weights u v (right_side quadratic a b) (right_side quadratic a c)) ws → pos 0 <ℤ squared_length (cross u v) → IsWeighting quadratic (weight_limit quadratic dim) (a ∷ b ∷ c ∷ []) ws)
gram_answer quadratic dim which e a b c items ws reduces apart =
    let within : (v : SpacePoint) → IsDifference dim v → IsVectorWithin 16000 v = λ v h. subst (λ d. IsVectorWithin (difference_limit d) v) e h.within in
    subst (λ d. IsWeighting quadratic (weight_limit quadratic d) (a ∷ b ∷ c ∷ []) ws) (sym e)
    (gram_weighting quadratic (weight_limit quadratic 3) a b c (right_side quadratic a b) (right_side quadratic a c) ws refl refl reduces apart (gram_sizes quadratic which a b c (within a items.first) (within b items.second) (within c items.third)))

-- the answer in the plane, for balls
pub ball_answer : (quadratic : ℤ) (dim : ℕ) → quadratic ≡ pos 1 → dim ≡ 2 → (a b c : SpacePoint) → ThreeItems quadratic dim a b c → (ws : List ℤ)
    → (let u = vector a b in let v = vector a c in let r = right_side quadratic a b in let s = right_side quadratic a c in Reduces (plane_weights u v (r *ℤ v.y -ℤ s *ℤ u.y) (s *ℤ u.x -ℤ r *ℤ v.x) (pos 2 *ℤ (cross u v).z)) ws → pos 0 <ℤ (pos 2 *ℤ (cross u v).z *ℤ (cross u v).z) → IsWeighting quadratic (weight_limit quadratic dim) (a ∷ b ∷ c ∷ []) ws)
ball_answer quadratic dim one two a b c items ws reduces apart =
    let u : SpacePoint = vector a b in
    let v : SpacePoint = vector a c in
    let r : ℤ = right_side quadratic a b in
    let s : ℤ = right_side quadratic a c in
    let uz : u.z ≡ pos 0 = flat_difference dim a b items.first items.second two in
    let vz : v.z ≡ pos 0 = flat_difference dim a c items.first items.third two in
    let r_is : right_side quadratic a b ≡ u.x *ℤ u.x +ℤ u.y *ℤ u.y = ap (λ q. right_side q a b) one ∙ right_of_ball a b uz in
    let s_is : right_side quadratic a c ≡ v.x *ℤ v.x +ℤ v.y *ℤ v.y = ap (λ q. right_side q a c) one ∙ right_of_ball a c vz in
    let hu : IsVectorWithin 400000 u = subst (λ d. IsVectorWithin (difference_limit d) u) two (items.near one).0 in
    let hv : IsVectorWithin 400000 v = subst (λ d. IsVectorWithin (difference_limit d) v) two (items.near one).1 in
    let sizes : BallInPlane u v r s = subst (λ r. BallInPlane u v r s) (sym r_is) (subst (λ s. BallInPlane u v (u.x *ℤ u.x +ℤ u.y *ℤ u.y) s) (sym s_is) (ball_sizes u v hu hv)) in
    let limit : 2 ^ 80 ≡ weight_limit quadratic dim = sym (ap (λ q. weight_limit q dim) one ∙ ap ball_limit two) in
    subst (λ l. IsWeighting quadratic l (a ∷ b ∷ c ∷ []) ws) limit
    (plane_weighting quadratic (2 ^ 80) a b c (r *ℤ v.y -ℤ s *ℤ u.y) (s *ℤ u.x -ℤ r *ℤ v.x) (pos 2 *ℤ (cross u v).z) r s ws refl refl uz vz (centre_plane_first u v r s) (centre_plane_second u v r s) reduces apart sizes)

-- and for distances
pub norm_answer : (quadratic : ℤ) (dim : ℕ) → quadratic ≡ pos 0 → dim ≡ 2 → (a b c : SpacePoint) → ThreeItems quadratic dim a b c → (k : ℤ) → Size 1 k → IsVectorWithin 400000 a → IsVectorWithin 800000 (vector a b) → IsVectorWithin 800000 (vector a c) → (ws : List ℤ)
    → (let u = vector a b in let v = vector a c in Reduces (plane_weights u v (neg_ℤ k *ℤ a.x) (neg_ℤ k *ℤ a.y) k) ws → pos 0 <ℤ (k *ℤ (cross u v).z) → IsWeighting quadratic (weight_limit quadratic dim) (a ∷ b ∷ c ∷ []) ws)
norm_answer quadratic dim none two a b c items k hk ha hu hv ws reduces apart =
    let u : SpacePoint = vector a b in
    let v : SpacePoint = vector a c in
    let uz : u.z ≡ pos 0 = flat_difference dim a b items.first items.second two in
    let vz : v.z ≡ pos 0 = flat_difference dim a c items.first items.third two in
    let hx : Size 400000 (neg_ℤ k *ℤ a.x) = size_more (size_mul (size_neg hk) ha.x) tt in
    let hy : Size 400000 (neg_ℤ k *ℤ a.y) = size_more (size_mul (size_neg hk) ha.y) tt in
    let limit : 2 ^ 66 ≡ weight_limit quadratic dim = sym (ap (λ q. weight_limit q dim) none) in
    let right : (x : SpacePoint) → k *ℤ right_side (pos 0) a x ≡ k *ℤ right_side quadratic a x = λ x. ap (λ q. k *ℤ right_side q a x) (sym none) in
    subst (λ l. IsWeighting quadratic l (a ∷ b ∷ c ∷ []) ws) limit
    (plane_weighting quadratic (2 ^ 66) a b c (neg_ℤ k *ℤ a.x) (neg_ℤ k *ℤ a.y) k (right_side quadratic a b) (right_side quadratic a c) ws refl refl uz vz (origin_in_plane a b k uz ∙ right b) (origin_in_plane a c k vz ∙ right c) reduces apart (norm_sizes (neg_ℤ k *ℤ a.x) (neg_ℤ k *ℤ a.y) k u v hx hy hk hu hv))

-- equal parts give equal weights
pub same_plane_weights : {u v u' v' : SpacePoint} {x y k x' y' k' : ℤ} → u ≡ u' → v ≡ v' → x ≡ x' → y ≡ y' → k ≡ k' → plane_weights u v x y k ≡ plane_weights u' v' x' y' k'
same_plane_weights {u} {v} {u'} {v'} {x} {y} {k} {x'} {y'} {k'} eu ev ex ey ek =
    ap (λ u. plane_weights u v x y k) eu ∙ ap (λ v. plane_weights u' v x y k) ev ∙ ap (λ x. plane_weights u' v' x y k) ex ∙ ap (λ y. plane_weights u' v' x' y k) ey ∙ ap (λ k. plane_weights u' v' x' y' k) ek

-- and so do a centre's coordinates, as code finds them from right sides
pub same_centre_weights : (a b c : SpacePoint) {u v : SpacePoint} {x y k k' r s r' s' : ℤ} → u ≡ vector a b → v ≡ vector a c → r ≡ r' → s ≡ s' → x ≡ r *ℤ v.y -ℤ s *ℤ u.y → y ≡ s *ℤ u.x -ℤ r *ℤ v.x → k ≡ k'
    → plane_weights u v x y k ≡ plane_weights (vector a b) (vector a c) (r' *ℤ (vector a c).y -ℤ s' *ℤ (vector a b).y) (s' *ℤ (vector a b).x -ℤ r' *ℤ (vector a c).x) k'
same_centre_weights a b c {u} {v} {x} {y} {k} {k'} {r} {s} {r'} {s'} eu ev er es ex ey ek =
    let x_is : x ≡ r' *ℤ (vector a c).y -ℤ s' *ℤ (vector a b).y = ex ∙ ap₂ (λ v u. r *ℤ v -ℤ s *ℤ u) (ap (λ n. n.y) ev) (ap (λ n. n.y) eu) ∙ ap₂ (λ r s. r *ℤ (vector a c).y -ℤ s *ℤ (vector a b).y) er es in
    let y_is : y ≡ s' *ℤ (vector a b).x -ℤ r' *ℤ (vector a c).x = ey ∙ ap₂ (λ v u. s *ℤ u -ℤ r *ℤ v) (ap (λ n. n.x) ev) (ap (λ n. n.x) eu) ∙ ap₂ (λ r s. s *ℤ (vector a b).x -ℤ r *ℤ (vector a c).x) er es in
    same_plane_weights eu ev x_is y_is ek

-- the same by Gram's matrix
pub same_gram_weights : {u v u' v' : SpacePoint} {r s r' s' : ℤ} → u ≡ u' → v ≡ v' → r ≡ r' → s ≡ s' → gram_weights u v r s ≡ gram_weights u' v' r' s'
same_gram_weights {u} {v} {u'} {v'} {r} {s} {r'} {s'} eu ev er es =
    ap (λ u. gram_weights u v r s) eu ∙ ap (λ v. gram_weights u' v r s) ev ∙ ap (λ r. gram_weights u' v' r s) er ∙ ap (λ s. gram_weights u' v' r' s) es

-- in the plane the cross product of two that are not along each other has a height that is not 0
pub height_positive : {quadratic : ℤ} (dim : ℕ) (a b c : SpacePoint) → dim ≡ 2 → ThreeItems quadratic dim a b c → pos 0 <ℤ squared_length (cross (vector a b) (vector a c)) → (cross (vector a b) (vector a c)).z ≡ pos 0 → ⊥
height_positive dim a b c two items apart e =
    let u : SpacePoint = vector a b in
    let v : SpacePoint = vector a c in
    let uz : u.z ≡ pos 0 = flat_difference dim a b items.first items.second two in
    let vz : v.z ≡ pos 0 = flat_difference dim a c items.first items.third two in
    let x : (cross u v).x ≡ pos 0 = combine2 u.y (neg_ℤ v.y) vz uz (read (u.y ∷ u.z ∷ v.y ∷ v.z ∷ []) (λ xs a b c d. simp (a, b, c, d, polys, lits xs) (den-ring xs _ _ tt))) in
    let y : (cross u v).y ≡ pos 0 = combine2 v.x (neg_ℤ u.x) uz vz (read (u.x ∷ u.z ∷ v.x ∷ v.z ∷ []) (λ xs a b c d. simp (a, b, c, d, polys, lits xs) (den-ring xs _ _ tt))) in
    let n : SpacePoint = cross u v in
    let none : squared_length n ≡ pos 0 = ap₂ (λ x y. x *ℤ x +ℤ y *ℤ y +ℤ n.z *ℤ n.z) x y ∙ ap (λ z. pos 0 *ℤ pos 0 +ℤ pos 0 *ℤ pos 0 +ℤ z *ℤ z) e in
    absurd (omega (arith, ints))

-- twice the square of a number that is not 0
pub twice_square : (z : ℤ) → (z ≡ pos 0 → ⊥) → pos 0 <ℤ (pos 2 *ℤ z *ℤ z)
twice_square z h =
    let p : pos 0 <ℤ (z *ℤ z) = square_positive z h in
    lt_by p2 (read (z ∷ []) (λ xs a. simp (a, polys, lits xs) (den-ring xs _ _ tt)))
  where
    p2 : pos 0 <ℤ (pos 2 *ℤ (z *ℤ z))
    p2 = let p : pos 0 <ℤ (z *ℤ z) = square_positive z h in omega (arith, ints)

-- a number that is not 0 and not below 0 is above 0
pub positive_from : (z : ℤ) → (z ≡ pos 0 → ⊥) → pos 0 ≤ℤ z → pos 0 <ℤ z
positive_from (pos zero) h l = absurd (h refl)
positive_from (pos (suc n)) h l = omega (arith, ints)
positive_from (negsuc n) h l = absurd (omega (arith, ints))
