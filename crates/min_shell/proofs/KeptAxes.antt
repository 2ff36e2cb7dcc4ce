-- A basis keeps the directions of the coordinates that those before them determine.
use Rattle.std.proofs.Common.{◌≡◌, ◌≢◌, refl, sym, ◌∙◌, ap, ap₂, inl, inr, ℤ, pos, ◌+ℤ◌, ◌-ℤ◌, ◌*ℤ◌, List, [], ◌∷◌, arith}
use Rattle.std.proofs.lemmas.Int.{ints}
use Rattle.integers.proofs.Identities.{den-ring, read, polys, lits}
use Rattle.integers.proofs.Order.{combine3, same_of_mul, square_positive}
use Rattle.bounds_model.specs.Space.{SpacePoint, point_at}
use Rattle.min_shell.specs.declared.lifted_vectors.LiftedVector.{LiftedVector}
use Rattle.min_shell.specs.declared.lifted_vectors.Normal.{Normal}
use Rattle.min_shell.specs.declared.vertices.Vertex.{Vertex}
use Rattle.min_shell.specs.declared.bases.Basis.{Basis}
use Rattle.min_shell.specs.Vectors.{difference_of, cross, dot, volume}
use Rattle.min_shell.specs.Vertices.{IsSettled}
use Rattle.min_shell.specs.OpenCoordinates.{AreLevel, DeterminesX, DeterminesY, DeterminesZ, AreFlat, x_axis, y_axis, z_axis, KeepsAxes, KeepsDirections}
use Rattle.min_shell.proofs.Starting.{pair_flat}

-- ---- by plain numbers

-- the first factor of a product that is 0
pub first_zero : (u k : ℤ) → u *ℤ k ≡ pos 0 → k ≢ pos 0 → u ≡ pos 0
first_zero u k e some = same_of_mul (k *ℤ k) (square_positive k some) (product u k ∙ ap (λ z. k *ℤ z) e ∙ both_none k)
  where
    product : (u k : ℤ) → (k *ℤ k) *ℤ u ≡ k *ℤ (u *ℤ k)
    product u k = read (u ∷ k ∷ []) (λ xs v w. simp (v, w, polys) (den-ring xs _ _ tt))

    both_none : (k : ℤ) → k *ℤ pos 0 ≡ (k *ℤ k) *ℤ pos 0
    both_none k = omega (arith, ints)

-- a product of numbers that are not 0
some_product : (u k : ℤ) → u ≢ pos 0 → k ≢ pos 0 → u *ℤ k ≢ pos 0
some_product u k some others e = some (first_zero u k e others)

plain_killed : (nx ny nz ex ey ez ax ay az bx by bz cx cy cz : ℤ)
    → nx *ℤ ax +ℤ ny *ℤ ay +ℤ nz *ℤ az ≡ pos 0 → nx *ℤ bx +ℤ ny *ℤ by +ℤ nz *ℤ bz ≡ pos 0 → nx *ℤ cx +ℤ ny *ℤ cy +ℤ nz *ℤ cz ≡ pos 0
    → ((ay *ℤ bz -ℤ az *ℤ by) *ℤ cx +ℤ (az *ℤ bx -ℤ ax *ℤ bz) *ℤ cy +ℤ (ax *ℤ by -ℤ ay *ℤ bx) *ℤ cz) *ℤ (nx *ℤ ex +ℤ ny *ℤ ey +ℤ nz *ℤ ez) ≡ pos 0
plain_killed nx ny nz ex ey ez ax ay az bx by bz cx cy cz ha hb hc =
    combine3
    ((ey *ℤ bz -ℤ ez *ℤ by) *ℤ cx +ℤ (ez *ℤ bx -ℤ ex *ℤ bz) *ℤ cy +ℤ (ex *ℤ by -ℤ ey *ℤ bx) *ℤ cz)
    ((ay *ℤ ez -ℤ az *ℤ ey) *ℤ cx +ℤ (az *ℤ ex -ℤ ax *ℤ ez) *ℤ cy +ℤ (ax *ℤ ey -ℤ ay *ℤ ex) *ℤ cz)
    ((ay *ℤ bz -ℤ az *ℤ by) *ℤ ex +ℤ (az *ℤ bx -ℤ ax *ℤ bz) *ℤ ey +ℤ (ax *ℤ by -ℤ ay *ℤ bx) *ℤ ez)
    ha hb hc
    (read (nx ∷ ny ∷ nz ∷ ex ∷ ey ∷ ez ∷ ax ∷ ay ∷ az ∷ bx ∷ by ∷ bz ∷ cx ∷ cy ∷ cz ∷ [])
    (λ xs a b c d e f g h i j k l m n o. simp (a, b, c, d, e, f, g, h, i, j, k, l, m, n, o, polys, lits xs) (den-ring xs _ _ tt)))

-- three vectors without a part along a normal that has one along e are in one plane
pub in_one_plane : (n : Normal) (e a b c : LiftedVector) → (dot n e ≡ pos 0 → ⊥) → dot n a ≡ pos 0 → dot n b ≡ pos 0 → dot n c ≡ pos 0 → volume a b c ≡ pos 0
in_one_plane n e a b c apart ha hb hc =
    first_zero (volume a b c) (dot n e) (plain_killed n.x n.y n.z e.x e.y e.z a.x a.y a.z b.x b.y b.z c.x c.y c.z ha hb hc) apart

plain_less : (s t nx ny nz mx my mz x y z : ℤ)
    → (s *ℤ nx -ℤ t *ℤ mx) *ℤ x +ℤ (s *ℤ ny -ℤ t *ℤ my) *ℤ y +ℤ (s *ℤ nz -ℤ t *ℤ mz) *ℤ z ≡ s *ℤ (nx *ℤ x +ℤ ny *ℤ y +ℤ nz *ℤ z) -ℤ t *ℤ (mx *ℤ x +ℤ my *ℤ y +ℤ mz *ℤ z)
plain_less s t nx ny nz mx my mz x y z =
    read (s ∷ t ∷ nx ∷ ny ∷ nz ∷ mx ∷ my ∷ mz ∷ x ∷ y ∷ z ∷ []) (λ xs a b c d e f g h i j k. simp (a, b, c, d, e, f, g, h, i, j, k, polys) (den-ring xs _ _ tt))

-- ---- normals

-- a vector as a normal
abbrev normal_of : SpacePoint → Normal
normal_of n = record { x = n.x; y = n.y; z = n.z }

-- points that are as far along it have no differences along it
flat_of_level : (points : List SpacePoint) (n : SpacePoint) → AreLevel points n → AreFlat points (normal_of n)
flat_of_level points n level i j hi hj =
    let p = point_at points i in
    let q = point_at points j in
    plain n.x n.y n.z p.x p.y p.z q.x q.y q.z ∙ none (level i j hi hj)
  where
    plain : (nx ny nz px py pz qx qy qz : ℤ) → nx *ℤ (px -ℤ qx) +ℤ ny *ℤ (py -ℤ qy) +ℤ nz *ℤ (pz -ℤ qz) ≡ (nx *ℤ px +ℤ ny *ℤ py +ℤ nz *ℤ pz) -ℤ (nx *ℤ qx +ℤ ny *ℤ qy +ℤ nz *ℤ qz)
    plain nx ny nz px py pz qx qy qz =
        read (nx ∷ ny ∷ nz ∷ px ∷ py ∷ pz ∷ qx ∷ qy ∷ qz ∷ []) (λ xs a b c d e f g h i. simp (a, b, c, d, e, f, g, h, i, polys) (den-ring xs _ _ tt))

    none : {x y : ℤ} → x ≡ y → x -ℤ y ≡ pos 0
    none e = omega (arith, ints)

-- two vectors without a part along a flat normal span a plane of all differences
flat_across : (points : List SpacePoint) (n : Normal) (e u v : LiftedVector) → AreFlat points n → (dot n e ≡ pos 0 → ⊥) → dot n u ≡ pos 0 → dot n v ≡ pos 0 → AreFlat points (cross u v)
flat_across points n e u v flat apart hu hv i j hi hj = in_one_plane n e u v (difference_of (point_at points i) (point_at points j)) apart hu hv (flat i j hi hj)

-- a flat normal without a part along v, and with a multiple of the part that n has along the two others
record IsCleared (points : List SpacePoint) (n : Normal) (v u w : LiftedVector) : Type 0 where
  normal : Normal
  factor : ℤ
  flat : AreFlat points normal
  some : factor ≢ pos 0
  own : dot normal v ≡ pos 0
  first : dot normal u ≡ factor *ℤ dot n u
  second : dot normal w ≡ factor *ℤ dot n w

cleared : (points : List SpacePoint) (n : Normal) (v u w : Vertex) → AreFlat points n → IsSettled points v u w → IsCleared points n v.vector u.vector w.vector
cleared points n v u w flat (inl pair) =
    record { normal = n; factor = pos 1; flat = flat; some = λ e. one_is_none e; own = pair_flat points n v flat pair; first = once (dot n u.vector); second = once (dot n w.vector) }
  where
    once : (z : ℤ) → z ≡ pos 1 *ℤ z
    once z = omega (arith, ints)

    one_is_none : pos 1 ≡ pos 0 → ⊥
    one_is_none e = omega (arith, ints)
cleared points n v u w flat (inr aside) =
    let m = aside.normal in
    let s = dot m v.vector in
    let t = dot n v.vector in
    let less = λ (d : LiftedVector). plain_less s t n.x n.y n.z m.x m.y m.z d.x d.y d.z in
    record {
      normal = record { x = s *ℤ n.x -ℤ t *ℤ m.x; y = s *ℤ n.y -ℤ t *ℤ m.y; z = s *ℤ n.z -ℤ t *ℤ m.z };
      factor = s;
      flat = λ i j hi hj. less (difference_of (point_at points i) (point_at points j)) ∙ ap₂ (λ x y. s *ℤ x -ℤ t *ℤ y) (flat i j hi hj) (aside.flat i j hi hj) ∙ nothing s t;
      some = aside.apart;
      own = less v.vector ∙ same s t;
      first = less u.vector ∙ ap (λ y. s *ℤ dot n u.vector -ℤ t *ℤ y) aside.first ∙ rest (s *ℤ dot n u.vector) t;
      second = less w.vector ∙ ap (λ y. s *ℤ dot n w.vector -ℤ t *ℤ y) aside.second ∙ rest (s *ℤ dot n w.vector) t;
    }
  where
    nothing : (s t : ℤ) → s *ℤ pos 0 -ℤ t *ℤ pos 0 ≡ pos 0
    nothing s t = omega (arith, ints)

    same : (s t : ℤ) → s *ℤ t -ℤ t *ℤ s ≡ pos 0
    same s t = read (s ∷ t ∷ []) (λ xs v w. simp (v, w, polys, lits xs) (den-ring xs _ _ tt))

    rest : (z t : ℤ) → z -ℤ t *ℤ pos 0 ≡ z
    rest z t = omega (arith, ints)

-- ---- the axes, one after another

-- a part along an axis is a coordinate
part_x : (n : SpacePoint) → dot (normal_of n) x_axis ≡ n.x
part_x n = plain n.x n.y n.z
  where
    plain : (x y z : ℤ) → x *ℤ pos 1 +ℤ y *ℤ pos 0 +ℤ z *ℤ pos 0 ≡ x
    plain x y z = omega (arith, ints)

part_y : (n : SpacePoint) → dot (normal_of n) y_axis ≡ n.y
part_y n = plain n.x n.y n.z
  where
    plain : (x y z : ℤ) → x *ℤ pos 0 +ℤ y *ℤ pos 1 +ℤ z *ℤ pos 0 ≡ y
    plain x y z = omega (arith, ints)

part_z : (n : SpacePoint) → dot (normal_of n) z_axis ≡ n.z
part_z n = plain n.x n.y n.z
  where
    plain : (x y z : ℤ) → x *ℤ pos 0 +ℤ y *ℤ pos 0 +ℤ z *ℤ pos 1 ≡ z
    plain x y z = omega (arith, ints)

-- a multiple of 0
times_none : (s : ℤ) {k : ℤ} → k ≡ pos 0 → s *ℤ k ≡ pos 0
times_none s e = ap (λ z. s *ℤ z) e ∙ none s
  where
    none : (s : ℤ) → s *ℤ pos 0 ≡ pos 0
    none s = omega (arith, ints)

-- where x is determined, the plane of the other axes holds all differences
pub flat_yz : (points : List SpacePoint) (n : SpacePoint) (u v : LiftedVector) → DeterminesX points n → u ≡ y_axis → v ≡ z_axis → AreFlat points (cross u v)
flat_yz points n u v h u_is v_is =
    flat_across points (normal_of n) x_axis u v (flat_of_level points n h.level) (λ e. h.x (sym (part_x n) ∙ e)) (ap (dot (normal_of n)) u_is ∙ part_y n ∙ h.y) (ap (dot (normal_of n)) v_is ∙ part_z n ∙ h.z)

-- where y is determined, the plane of the z axis and the first vertex does
pub flat_z_first : (points : List SpacePoint) (n : SpacePoint) (y z first : Vertex) → DeterminesY points n → y.vector ≡ y_axis → z.vector ≡ z_axis → IsSettled points first y z → AreFlat points (cross z.vector first.vector)
flat_z_first points n y z first h y_is z_is settled =
    let c = cleared points (normal_of n) first y z (flat_of_level points n h.level) settled in
    flat_across points c.normal y.vector z.vector first.vector c.flat
    (λ e. some_product c.factor (dot (normal_of n) y.vector) c.some (λ e. h.y (sym (part_y n) ∙ sym (ap (dot (normal_of n)) y_is) ∙ e)) (sym c.first ∙ e))
    (c.second ∙ times_none c.factor (ap (dot (normal_of n)) z_is ∙ part_z n ∙ h.z)) c.own

-- where z is determined, the plane of the first and the second vertex does
pub flat_first_second : (points : List SpacePoint) (n : SpacePoint) (z first second : Vertex) → DeterminesZ points n → z.vector ≡ z_axis → IsSettled points first second z → IsSettled points second z first
    → AreFlat points (cross first.vector second.vector)
flat_first_second points n z first second h z_is settled_first settled_second =
    let c = cleared points (normal_of n) first second z (flat_of_level points n h.level) settled_first in
    let d = cleared points c.normal second z first c.flat settled_second in
    flat_across points d.normal z.vector first.vector second.vector d.flat
    (λ e. some_product d.factor (dot c.normal z.vector) d.some
    (λ e. some_product c.factor (dot (normal_of n) z.vector) c.some (λ e. h.z (sym (part_z n) ∙ sym (ap (dot (normal_of n)) z_is) ∙ e)) (sym c.second ∙ e)) (sym d.first ∙ e))
    (d.second ∙ times_none d.factor c.own) d.own

-- ---- the tetrahedron of a basis

-- a direction that is settled beside two vectors
direction_start : (points : List SpacePoint) (axis : LiftedVector) (v u w : Vertex) → axis.one ≡ pos 0 → v.vector ≡ axis → IsSettled points v u w → (n : Normal) × AreFlat points n × (dot n axis ≡ pos 0 → ⊥) × (dot n u.vector ≡ pos 0) × (dot n w.vector ≡ pos 0)
direction_start points axis v u w none is (inl pair) = absurd (clash (sym (ap (λ d. d.one) pair.difference) ∙ ap (λ d. d.one) is ∙ none))
  where
    clash : pos 1 ≡ pos 0 → ⊥
    clash e = omega (arith, ints)
direction_start points axis v u w none is (inr aside) = (aside.normal, aside.flat, (λ e. aside.apart (ap (dot aside.normal) is ∙ e)), aside.first, aside.second)

-- the tetrahedron of a basis keeps the directions that the basis does
pub start_keeps : (points : List SpacePoint) (b : Basis) (none : Vertex) → KeepsAxes points b → IsSettled points b.first b.second b.third → IsSettled points b.second b.third b.first → IsSettled points b.third b.first b.second
    → KeepsDirections points (record { a = b.second; b = b.first; c = b.third; d = none })
start_keeps points b none keeps first second third = record {
  x = λ n h.
      let axis = keeps.x n h in
      let s = direction_start points x_axis b.first b.second b.third refl axis first in
      record { normal = s.0; flat = s.1; apart = s.2; a = inr s.3; b = inl axis; c = inr s.4 };
  y = λ n h.
      let axis = keeps.y n h in
      let s = direction_start points y_axis b.second b.third b.first refl axis second in
      record { normal = s.0; flat = s.1; apart = s.2; a = inl axis; b = inr s.4; c = inr s.3 };
  z = λ n h.
      let axis = keeps.z n h in
      let s = direction_start points z_axis b.third b.first b.second refl axis third in
      record { normal = s.0; flat = s.1; apart = s.2; a = inr s.4; b = inr s.3; c = inl axis };
}
