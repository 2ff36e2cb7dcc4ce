-- Solutions of the equations of weights, by dot, cross and triple products of the differences.
use Rattle.std.proofs.Common.{◌≡◌, ℤ, pos, ◌+ℤ◌, ◌-ℤ◌, ◌*ℤ◌, neg_ℤ, [], ◌∷◌}
use Rattle.integers.proofs.Identities.{den-ring, read, polys, lits}
use Rattle.integers.proofs.Order.{combine1, combine2, combine3}
use Rattle.bounds_model.specs.Space.{SpacePoint, dot, squared_length, vector, times}
use Rattle.kernel_laws.specs.Systems.{right_side, cross, sum3}

-- the weighted sum of two vectors
abbrev pub sum2 : ℤ → ℤ → SpacePoint → SpacePoint → SpacePoint
sum2 p q u v = record { x = p *ℤ u.x +ℤ q *ℤ v.x; y = p *ℤ u.y +ℤ q *ℤ v.y; z = p *ℤ u.z +ℤ q *ℤ v.z }

-- of one difference
pub solves_one : (u : SpacePoint) (r : ℤ) → pos 2 *ℤ (u.x *ℤ (r *ℤ u.x) +ℤ u.y *ℤ (r *ℤ u.y) +ℤ u.z *ℤ (r *ℤ u.z)) ≡ pos 2 *ℤ squared_length u *ℤ r
solves_one u r = read (u.x ∷ u.y ∷ u.z ∷ r ∷ []) (λ xs a b c d. simp (a, b, c, d, polys, lits xs) (den-ring xs _ _ tt))

-- of two differences, by Gram's matrix: the first equation
pub solves_two_first : (u v : SpacePoint) (r s : ℤ) → pos 2 *ℤ dot u (sum2 (r *ℤ dot v v -ℤ s *ℤ dot u v) (s *ℤ dot u u -ℤ r *ℤ dot u v) u v) ≡ pos 2 *ℤ squared_length (cross u v) *ℤ r
solves_two_first u v r s = read (u.x ∷ u.y ∷ u.z ∷ v.x ∷ v.y ∷ v.z ∷ r ∷ s ∷ []) (λ xs a b c d e f g h. simp (a, b, c, d, e, f, g, h, polys, lits xs) (den-ring xs _ _ tt))

-- and the second
pub solves_two_second : (u v : SpacePoint) (r s : ℤ) → pos 2 *ℤ dot v (sum2 (r *ℤ dot v v -ℤ s *ℤ dot u v) (s *ℤ dot u u -ℤ r *ℤ dot u v) u v) ≡ pos 2 *ℤ squared_length (cross u v) *ℤ s
solves_two_second u v r s = read (u.x ∷ u.y ∷ u.z ∷ v.x ∷ v.y ∷ v.z ∷ r ∷ s ∷ []) (λ xs a b c d e f g h. simp (a, b, c, d, e, f, g, h, polys, lits xs) (den-ring xs _ _ tt))

-- of three differences with a point m / k that has each equation, by triple products
pub solves_three : (x u v w m : SpacePoint) (k r : ℤ) → pos 2 *ℤ dot x m ≡ k *ℤ r
    → pos 2 *ℤ dot x (sum3 (dot m (cross v w)) (dot m (cross w u)) (dot m (cross u v)) u v w) ≡ k *ℤ dot (cross u v) w *ℤ r
solves_three x u v w m k r h = combine1 (dot (cross u v) w) h (read (x.x ∷ x.y ∷ x.z ∷ u.x ∷ u.y ∷ u.z ∷ v.x ∷ v.y ∷ v.z ∷ w.x ∷ w.y ∷ w.z ∷ m.x ∷ m.y ∷ m.z ∷ k ∷ r ∷ []) (λ xs a b c d e f g h i j k l m n o p q. simp (a, b, c, d, e, f, g, h, i, j, k, l, m, n, o, p, q, polys, lits xs) (den-ring xs _ _ tt)))

-- the same in the plane, with two differences
pub solves_plane : (x u v m : SpacePoint) (k r : ℤ) → x.z ≡ pos 0 → pos 2 *ℤ (x.x *ℤ m.x +ℤ x.y *ℤ m.y) ≡ k *ℤ r
    → pos 2 *ℤ dot x (sum2 (m.x *ℤ v.y -ℤ m.y *ℤ v.x) (m.y *ℤ u.x -ℤ m.x *ℤ u.y) u v) ≡ k *ℤ (cross u v).z *ℤ r
solves_plane x u v m k r e h = combine2 (cross u v).z (pos 2 *ℤ ((m.x *ℤ v.y -ℤ m.y *ℤ v.x) *ℤ u.z +ℤ (m.y *ℤ u.x -ℤ m.x *ℤ u.y) *ℤ v.z)) h e (read (x.x ∷ x.y ∷ x.z ∷ u.x ∷ u.y ∷ u.z ∷ v.x ∷ v.y ∷ v.z ∷ m.x ∷ m.y ∷ k ∷ r ∷ []) (λ xs a b c d e f g h i j k l m. simp (a, b, c, d, e, f, g, h, i, j, k, l, m, polys, lits xs) (den-ring xs _ _ tt)))

-- ---- points m / k that have each equation

-- for balls: the right sides times the cross products, over twice the triple product
pub centre_first : (u v w : SpacePoint) (r s t : ℤ) → pos 2 *ℤ dot u (sum3 r s t (cross v w) (cross w u) (cross u v)) ≡ pos 2 *ℤ dot (cross u v) w *ℤ r
centre_first u v w r s t = read (u.x ∷ u.y ∷ u.z ∷ v.x ∷ v.y ∷ v.z ∷ w.x ∷ w.y ∷ w.z ∷ r ∷ s ∷ t ∷ []) (λ xs a b c d e f g h i j k l. simp (a, b, c, d, e, f, g, h, i, j, k, l, polys, lits xs) (den-ring xs _ _ tt))

-- the second equation
pub centre_second : (u v w : SpacePoint) (r s t : ℤ) → pos 2 *ℤ dot v (sum3 r s t (cross v w) (cross w u) (cross u v)) ≡ pos 2 *ℤ dot (cross u v) w *ℤ s
centre_second u v w r s t = read (u.x ∷ u.y ∷ u.z ∷ v.x ∷ v.y ∷ v.z ∷ w.x ∷ w.y ∷ w.z ∷ r ∷ s ∷ t ∷ []) (λ xs a b c d e f g h i j k l. simp (a, b, c, d, e, f, g, h, i, j, k, l, polys, lits xs) (den-ring xs _ _ tt))

-- the third
pub centre_third : (u v w : SpacePoint) (r s t : ℤ) → pos 2 *ℤ dot w (sum3 r s t (cross v w) (cross w u) (cross u v)) ≡ pos 2 *ℤ dot (cross u v) w *ℤ t
centre_third u v w r s t = read (u.x ∷ u.y ∷ u.z ∷ v.x ∷ v.y ∷ v.z ∷ w.x ∷ w.y ∷ w.z ∷ r ∷ s ∷ t ∷ []) (λ xs a b c d e f g h i j k l. simp (a, b, c, d, e, f, g, h, i, j, k, l, polys, lits xs) (den-ring xs _ _ tt))

-- in the plane
pub centre_plane_first : (u v : SpacePoint) (r s : ℤ) → pos 2 *ℤ (u.x *ℤ (r *ℤ v.y -ℤ s *ℤ u.y) +ℤ u.y *ℤ (s *ℤ u.x -ℤ r *ℤ v.x)) ≡ pos 2 *ℤ (cross u v).z *ℤ r
centre_plane_first u v r s = read (u.x ∷ u.y ∷ v.x ∷ v.y ∷ r ∷ s ∷ []) (λ xs a b c d e f. simp (a, b, c, d, e, f, polys, lits xs) (den-ring xs _ _ tt))

-- and the second
pub centre_plane_second : (u v : SpacePoint) (r s : ℤ) → pos 2 *ℤ (v.x *ℤ (r *ℤ v.y -ℤ s *ℤ u.y) +ℤ v.y *ℤ (s *ℤ u.x -ℤ r *ℤ v.x)) ≡ pos 2 *ℤ (cross u v).z *ℤ s
centre_plane_second u v r s = read (u.x ∷ u.y ∷ v.x ∷ v.y ∷ r ∷ s ∷ []) (λ xs a b c d e f. simp (a, b, c, d, e, f, polys, lits xs) (den-ring xs _ _ tt))

-- for distances the origin, seen from a: m is -k a
pub origin_solves : (a x : SpacePoint) (k : ℤ) → pos 2 *ℤ dot (vector a x) (times (neg_ℤ k) a) ≡ k *ℤ right_side (pos 0) a x
origin_solves a x k = read (a.x ∷ a.y ∷ a.z ∷ x.x ∷ x.y ∷ x.z ∷ k ∷ []) (λ xs b c d e f g h. simp (b, c, d, e, f, g, h, polys, lits xs) (den-ring xs _ _ tt))

-- ---- numbers of vectors that depend on the earlier ones

-- v is along u where their cross product is 0: the numbers of u and v, at the coordinate x
pub along_x : (u v : SpacePoint) → (cross u v).y ≡ pos 0 → (cross u v).z ≡ pos 0 → dot u v *ℤ u.x +ℤ neg_ℤ (dot u u) *ℤ v.x ≡ pos 0
along_x u v h l = combine2 (u.y) (neg_ℤ u.z) l h (read (u.x ∷ u.y ∷ u.z ∷ v.x ∷ v.y ∷ v.z ∷ []) (λ xs a b c d e f. simp (a, b, c, d, e, f, polys, lits xs) (den-ring xs _ _ tt)))

-- the same of y
pub along_y : (u v : SpacePoint) → (cross u v).z ≡ pos 0 → (cross u v).x ≡ pos 0 → dot u v *ℤ u.y +ℤ neg_ℤ (dot u u) *ℤ v.y ≡ pos 0
along_y u v h l = combine2 (u.z) (neg_ℤ u.x) l h (read (u.x ∷ u.y ∷ u.z ∷ v.x ∷ v.y ∷ v.z ∷ []) (λ xs a b c d e f. simp (a, b, c, d, e, f, polys, lits xs) (den-ring xs _ _ tt)))

-- and of z
pub along_z : (u v : SpacePoint) → (cross u v).x ≡ pos 0 → (cross u v).y ≡ pos 0 → dot u v *ℤ u.z +ℤ neg_ℤ (dot u u) *ℤ v.z ≡ pos 0
along_z u v h l = combine2 (u.x) (neg_ℤ u.y) l h (read (u.x ∷ u.y ∷ u.z ∷ v.x ∷ v.y ∷ v.z ∷ []) (λ xs a b c d e f. simp (a, b, c, d, e, f, polys, lits xs) (den-ring xs _ _ tt)))

-- w is in the plane of u and v where the triple product is 0: the numbers of the three, at x
pub in_plane_x : (u v w : SpacePoint) → dot (cross u v) w ≡ pos 0 → dot (cross w v) (cross u v) *ℤ u.x +ℤ dot (cross u w) (cross u v) *ℤ v.x +ℤ neg_ℤ (squared_length (cross u v)) *ℤ w.x ≡ pos 0
in_plane_x u v w h = combine1 (neg_ℤ (cross u v).x) h (read (u.x ∷ u.y ∷ u.z ∷ v.x ∷ v.y ∷ v.z ∷ w.x ∷ w.y ∷ w.z ∷ []) (λ xs a b c d e f g h i. simp (a, b, c, d, e, f, g, h, i, polys, lits xs) (den-ring xs _ _ tt)))

-- the same of y
pub in_plane_y : (u v w : SpacePoint) → dot (cross u v) w ≡ pos 0 → dot (cross w v) (cross u v) *ℤ u.y +ℤ dot (cross u w) (cross u v) *ℤ v.y +ℤ neg_ℤ (squared_length (cross u v)) *ℤ w.y ≡ pos 0
in_plane_y u v w h = combine1 (neg_ℤ (cross u v).y) h (read (u.x ∷ u.y ∷ u.z ∷ v.x ∷ v.y ∷ v.z ∷ w.x ∷ w.y ∷ w.z ∷ []) (λ xs a b c d e f g h i. simp (a, b, c, d, e, f, g, h, i, polys, lits xs) (den-ring xs _ _ tt)))

-- and of z
pub in_plane_z : (u v w : SpacePoint) → dot (cross u v) w ≡ pos 0 → dot (cross w v) (cross u v) *ℤ u.z +ℤ dot (cross u w) (cross u v) *ℤ v.z +ℤ neg_ℤ (squared_length (cross u v)) *ℤ w.z ≡ pos 0
in_plane_z u v w h = combine1 (neg_ℤ (cross u v).z) h (read (u.x ∷ u.y ∷ u.z ∷ v.x ∷ v.y ∷ v.z ∷ w.x ∷ w.y ∷ w.z ∷ []) (λ xs a b c d e f g h i. simp (a, b, c, d, e, f, g, h, i, polys, lits xs) (den-ring xs _ _ tt)))

-- in the plane each vector depends on two others: the numbers of the three, at x
pub of_plane_x : (u v w : SpacePoint) → (cross w v).z *ℤ u.x +ℤ (cross u w).z *ℤ v.x +ℤ neg_ℤ (cross u v).z *ℤ w.x ≡ pos 0
of_plane_x u v w = read (u.x ∷ u.y ∷ v.x ∷ v.y ∷ w.x ∷ w.y ∷ []) (λ xs a b c d e f. simp (a, b, c, d, e, f, polys, lits xs) (den-ring xs _ _ tt))

-- the same of y
pub of_plane_y : (u v w : SpacePoint) → (cross w v).z *ℤ u.y +ℤ (cross u w).z *ℤ v.y +ℤ neg_ℤ (cross u v).z *ℤ w.y ≡ pos 0
of_plane_y u v w = read (u.x ∷ u.y ∷ v.x ∷ v.y ∷ w.x ∷ w.y ∷ []) (λ xs a b c d e f. simp (a, b, c, d, e, f, polys, lits xs) (den-ring xs _ _ tt))

-- its height is 0 as theirs are
pub of_plane_z : (p q s : ℤ) (u v w : SpacePoint) → u.z ≡ pos 0 → v.z ≡ pos 0 → w.z ≡ pos 0 → p *ℤ u.z +ℤ q *ℤ v.z +ℤ s *ℤ w.z ≡ pos 0
of_plane_z p q s u v w e f g = combine3 p q s e f g (read (p ∷ q ∷ s ∷ u.z ∷ v.z ∷ w.z ∷ []) (λ xs a b c d e f. simp (a, b, c, d, e, f, polys, lits xs) (den-ring xs _ _ tt)))

-- in space each vector depends on three others: the numbers of the four, at x
pub of_space_x : (u v w z : SpacePoint) → dot (cross z v) w *ℤ u.x +ℤ dot (cross u z) w *ℤ v.x +ℤ dot (cross u v) z *ℤ w.x +ℤ neg_ℤ (dot (cross u v) w) *ℤ z.x ≡ pos 0
of_space_x u v w z = read (u.x ∷ u.y ∷ u.z ∷ v.x ∷ v.y ∷ v.z ∷ w.x ∷ w.y ∷ w.z ∷ z.x ∷ z.y ∷ z.z ∷ []) (λ xs a b c d e f g h i j k l. simp (a, b, c, d, e, f, g, h, i, j, k, l, polys, lits xs) (den-ring xs _ _ tt))

-- the same of y
pub of_space_y : (u v w z : SpacePoint) → dot (cross z v) w *ℤ u.y +ℤ dot (cross u z) w *ℤ v.y +ℤ dot (cross u v) z *ℤ w.y +ℤ neg_ℤ (dot (cross u v) w) *ℤ z.y ≡ pos 0
of_space_y u v w z = read (u.x ∷ u.y ∷ u.z ∷ v.x ∷ v.y ∷ v.z ∷ w.x ∷ w.y ∷ w.z ∷ z.x ∷ z.y ∷ z.z ∷ []) (λ xs a b c d e f g h i j k l. simp (a, b, c, d, e, f, g, h, i, j, k, l, polys, lits xs) (den-ring xs _ _ tt))

-- and of z
pub of_space_z : (u v w z : SpacePoint) → dot (cross z v) w *ℤ u.z +ℤ dot (cross u z) w *ℤ v.z +ℤ dot (cross u v) z *ℤ w.z +ℤ neg_ℤ (dot (cross u v) w) *ℤ z.z ≡ pos 0
of_space_z u v w z = read (u.x ∷ u.y ∷ u.z ∷ v.x ∷ v.y ∷ v.z ∷ w.x ∷ w.y ∷ w.z ∷ z.x ∷ z.y ∷ z.z ∷ []) (λ xs a b c d e f g h i j k l. simp (a, b, c, d, e, f, g, h, i, j, k, l, polys, lits xs) (den-ring xs _ _ tt))
