-- The parallel-axis identity: the weighted squared distances from a point are those from the centre of mass, and the total weight times the squared distance of the two.
use Rattle.std.proofs.Common.{◌≡◌, ℤ, pos, ◌+ℤ◌, ◌-ℤ◌, ◌*ℤ◌, List, [], ◌∷◌}
use Rattle.integers.specs.Total.{total}
use Rattle.integers.specs.Determinants.{square2, square3}
use Rattle.integers.specs.Moments.{moment, second_moment2, second_moment3, distances2, distances3}
use Rattle.integers.proofs.Identities.{den-ring, read, polys, lits}
use Rattle.integers.proofs.Order.{combine1}

-- ---- in the plane

-- one more point (x, y) of weight w before points with the sums D, Q, S, T and W
plane_step : (k p q w x y D Q S T W : ℤ) → D ≡ k *ℤ k *ℤ Q -ℤ pos 2 *ℤ (k *ℤ (p *ℤ S +ℤ q *ℤ T)) +ℤ W *ℤ (p *ℤ p +ℤ q *ℤ q)
    → w *ℤ ((k *ℤ x -ℤ p) *ℤ (k *ℤ x -ℤ p) +ℤ (k *ℤ y -ℤ q) *ℤ (k *ℤ y -ℤ q)) +ℤ D ≡ k *ℤ k *ℤ (w *ℤ (x *ℤ x +ℤ y *ℤ y) +ℤ Q) -ℤ pos 2 *ℤ (k *ℤ (p *ℤ (w *ℤ x +ℤ S) +ℤ q *ℤ (w *ℤ y +ℤ T))) +ℤ (w +ℤ W) *ℤ (p *ℤ p +ℤ q *ℤ q)
plane_step k p q w x y D Q S T W ih = combine1 (pos 1) ih (read (k ∷ p ∷ q ∷ w ∷ x ∷ y ∷ D ∷ Q ∷ S ∷ T ∷ W ∷ []) (λ xs a b c d e f g h i j k. simp (a, b, c, d, e, f, g, h, i, j, k, polys, lits xs) (den-ring xs _ _ tt)))

-- the squared distances from (p, q) / k by the moments
pub distances2_by_moments : {A : Type 0} (weight x y : A → ℤ) (k p q : ℤ) (s : List A)
    → distances2 weight x y k p q s
    ≡ k *ℤ k *ℤ second_moment2 weight x y s -ℤ pos 2 *ℤ (k *ℤ (p *ℤ moment weight x s +ℤ q *ℤ moment weight y s)) +ℤ total weight s *ℤ square2 p q
distances2_by_moments weight x y k p q [] = nothing k p q
  where
    nothing : (k p q : ℤ) → pos 0 ≡ k *ℤ k *ℤ (pos 0) -ℤ pos 2 *ℤ (k *ℤ (p *ℤ (pos 0) +ℤ q *ℤ (pos 0))) +ℤ pos 0 *ℤ (p *ℤ p +ℤ q *ℤ q)
    nothing k p q = read (k ∷ p ∷ q ∷ []) (λ xs a b c. simp (a, b, c, polys, lits xs) (den-ring xs _ _ tt))
distances2_by_moments weight x y k p q (a ∷ s) =
    plane_step k p q (weight a) (x a) (y a) (distances2 weight x y k p q s) (second_moment2 weight x y s) (moment weight x s) (moment weight y s) (total weight s) (distances2_by_moments weight x y k p q s)

plane_axis : (k p q D Q S T W : ℤ) → D ≡ k *ℤ k *ℤ Q -ℤ pos 2 *ℤ (k *ℤ (p *ℤ S +ℤ q *ℤ T)) +ℤ W *ℤ (p *ℤ p +ℤ q *ℤ q) → W *ℤ D ≡ (W *ℤ p -ℤ k *ℤ S) *ℤ (W *ℤ p -ℤ k *ℤ S) +ℤ (W *ℤ q -ℤ k *ℤ T) *ℤ (W *ℤ q -ℤ k *ℤ T) +ℤ k *ℤ k *ℤ (W *ℤ Q -ℤ (S *ℤ S +ℤ T *ℤ T))
plane_axis k p q D Q S T W h = combine1 W h (read (k ∷ p ∷ q ∷ D ∷ Q ∷ S ∷ T ∷ W ∷ []) (λ xs a b c d e f g h. simp (a, b, c, d, e, f, g, h, polys, lits xs) (den-ring xs _ _ tt)))

-- the identity, times the total weight W: the centre of mass is (S, T) / W
pub parallel_axis_plane : {A : Type 0} (weight x y : A → ℤ) (k p q : ℤ) (s : List A)
    → total weight s *ℤ distances2 weight x y k p q s
    ≡ square2 (total weight s *ℤ p -ℤ k *ℤ moment weight x s) (total weight s *ℤ q -ℤ k *ℤ moment weight y s)
    +ℤ k *ℤ k *ℤ (total weight s *ℤ second_moment2 weight x y s -ℤ square2 (moment weight x s) (moment weight y s))
parallel_axis_plane weight x y k p q s =
    plane_axis k p q (distances2 weight x y k p q s) (second_moment2 weight x y s) (moment weight x s) (moment weight y s) (total weight s) (distances2_by_moments weight x y k p q s)

-- ---- in space

-- one more point (x, y, z) of weight w before points with the sums D, Q, S, T, U and W
space_step : (k p q r w x y z D Q S T U W : ℤ) → D ≡ k *ℤ k *ℤ Q -ℤ pos 2 *ℤ (k *ℤ (p *ℤ S +ℤ q *ℤ T +ℤ r *ℤ U)) +ℤ W *ℤ (p *ℤ p +ℤ q *ℤ q +ℤ r *ℤ r)
    → w *ℤ ((k *ℤ x -ℤ p) *ℤ (k *ℤ x -ℤ p) +ℤ (k *ℤ y -ℤ q) *ℤ (k *ℤ y -ℤ q) +ℤ (k *ℤ z -ℤ r) *ℤ (k *ℤ z -ℤ r)) +ℤ D ≡ k *ℤ k *ℤ (w *ℤ (x *ℤ x +ℤ y *ℤ y +ℤ z *ℤ z) +ℤ Q) -ℤ pos 2 *ℤ (k *ℤ (p *ℤ (w *ℤ x +ℤ S) +ℤ q *ℤ (w *ℤ y +ℤ T) +ℤ r *ℤ (w *ℤ z +ℤ U))) +ℤ (w +ℤ W) *ℤ (p *ℤ p +ℤ q *ℤ q +ℤ r *ℤ r)
space_step k p q r w x y z D Q S T U W ih = combine1 (pos 1) ih (read (k ∷ p ∷ q ∷ r ∷ w ∷ x ∷ y ∷ z ∷ D ∷ Q ∷ S ∷ T ∷ U ∷ W ∷ []) (λ xs a b c d e f g h i j k l m n. simp (a, b, c, d, e, f, g, h, i, j, k, l, m, n, polys, lits xs) (den-ring xs _ _ tt)))

-- the squared distances from (p, q, r) / k by the moments
pub distances3_by_moments : {A : Type 0} (weight x y z : A → ℤ) (k p q r : ℤ) (s : List A)
    → distances3 weight x y z k p q r s
    ≡ k *ℤ k *ℤ second_moment3 weight x y z s -ℤ pos 2 *ℤ (k *ℤ (p *ℤ moment weight x s +ℤ q *ℤ moment weight y s +ℤ r *ℤ moment weight z s)) +ℤ total weight s *ℤ square3 p q r
distances3_by_moments weight x y z k p q r [] = nothing k p q r
  where
    nothing : (k p q r : ℤ) → pos 0 ≡ k *ℤ k *ℤ (pos 0) -ℤ pos 2 *ℤ (k *ℤ (p *ℤ (pos 0) +ℤ q *ℤ (pos 0) +ℤ r *ℤ (pos 0))) +ℤ pos 0 *ℤ (p *ℤ p +ℤ q *ℤ q +ℤ r *ℤ r)
    nothing k p q r = read (k ∷ p ∷ q ∷ r ∷ []) (λ xs a b c d. simp (a, b, c, d, polys, lits xs) (den-ring xs _ _ tt))
distances3_by_moments weight x y z k p q r (a ∷ s) =
    space_step k p q r (weight a) (x a) (y a) (z a) (distances3 weight x y z k p q r s) (second_moment3 weight x y z s) (moment weight x s) (moment weight y s) (moment weight z s) (total weight s) (distances3_by_moments weight x y z k p q r s)

space_axis : (k p q r D Q S T U W : ℤ) → D ≡ k *ℤ k *ℤ Q -ℤ pos 2 *ℤ (k *ℤ (p *ℤ S +ℤ q *ℤ T +ℤ r *ℤ U)) +ℤ W *ℤ (p *ℤ p +ℤ q *ℤ q +ℤ r *ℤ r) → W *ℤ D ≡ (W *ℤ p -ℤ k *ℤ S) *ℤ (W *ℤ p -ℤ k *ℤ S) +ℤ (W *ℤ q -ℤ k *ℤ T) *ℤ (W *ℤ q -ℤ k *ℤ T) +ℤ (W *ℤ r -ℤ k *ℤ U) *ℤ (W *ℤ r -ℤ k *ℤ U) +ℤ k *ℤ k *ℤ (W *ℤ Q -ℤ (S *ℤ S +ℤ T *ℤ T +ℤ U *ℤ U))
space_axis k p q r D Q S T U W h = combine1 W h (read (k ∷ p ∷ q ∷ r ∷ D ∷ Q ∷ S ∷ T ∷ U ∷ W ∷ []) (λ xs a b c d e f g h i j. simp (a, b, c, d, e, f, g, h, i, j, polys, lits xs) (den-ring xs _ _ tt)))

-- the identity, times the total weight W: the centre of mass is (S, T, U) / W
pub parallel_axis_space : {A : Type 0} (weight x y z : A → ℤ) (k p q r : ℤ) (s : List A)
    → total weight s *ℤ distances3 weight x y z k p q r s
    ≡ square3 (total weight s *ℤ p -ℤ k *ℤ moment weight x s) (total weight s *ℤ q -ℤ k *ℤ moment weight y s) (total weight s *ℤ r -ℤ k *ℤ moment weight z s)
    +ℤ k *ℤ k *ℤ (total weight s *ℤ second_moment3 weight x y z s -ℤ square3 (moment weight x s) (moment weight y s) (moment weight z s))
parallel_axis_space weight x y z k p q r s =
    space_axis k p q r (distances3 weight x y z k p q r s) (second_moment3 weight x y z s) (moment weight x s) (moment weight y s) (moment weight z s) (total weight s) (distances3_by_moments weight x y z k p q r s)
