-- Sums over weighted vectors of space.
use Rattle.std.proofs.Common.{◌≡◌, ℤ, pos, ◌+ℤ◌, ◌-ℤ◌, ◌*ℤ◌, List, [], ◌∷◌, refl, ap}
use Rattle.std.specs.Prelude.{All}
use Rattle.std.proofs.lemmas.List.Elements.{All-head, All-tail}
use Rattle.integers.specs.Total.{total}
use Rattle.integers.proofs.Identities.{den-ring, read, polys, lits}
use Rattle.integers.proofs.Order.{combine1, combine2}
use Rattle.bounds_model.specs.Space.{SpacePoint, vector, times, dot, squared_length, weighted_sum, point_at}
use Rattle.bounds_model.specs.AnnulusAnswer.{WeightedPair}
use Rattle.bounds_model.specs.DistanceAnswer.{pull}

-- one more vector
sum_step : (k w ax ay az yx yy yz T S Cx Cy Cz W : ℤ)
    → T ≡ k *ℤ k *ℤ S -ℤ pos 2 *ℤ (k *ℤ (yx *ℤ Cx +ℤ yy *ℤ Cy +ℤ yz *ℤ Cz)) +ℤ W *ℤ (yx *ℤ yx +ℤ yy *ℤ yy +ℤ yz *ℤ yz)
    → w *ℤ ((k *ℤ ax -ℤ yx) *ℤ (k *ℤ ax -ℤ yx) +ℤ (k *ℤ ay -ℤ yy) *ℤ (k *ℤ ay -ℤ yy) +ℤ (k *ℤ az -ℤ yz) *ℤ (k *ℤ az -ℤ yz)) +ℤ T
    ≡ k *ℤ k *ℤ (w *ℤ (ax *ℤ ax +ℤ ay *ℤ ay +ℤ az *ℤ az) +ℤ S) -ℤ pos 2 *ℤ (k *ℤ (yx *ℤ (w *ℤ ax +ℤ Cx) +ℤ yy *ℤ (w *ℤ ay +ℤ Cy) +ℤ yz *ℤ (w *ℤ az +ℤ Cz))) +ℤ (w +ℤ W) *ℤ (yx *ℤ yx +ℤ yy *ℤ yy +ℤ yz *ℤ yz)
sum_step k w ax ay az yx yy yz T S Cx Cy Cz W h =
    combine1 (pos 1) h
    (read (k ∷ w ∷ ax ∷ ay ∷ az ∷ yx ∷ yy ∷ yz ∷ T ∷ S ∷ Cx ∷ Cy ∷ Cz ∷ W ∷ [])
    (λ xs a b c d e f g h i j k l m n. simp (a, b, c, d, e, f, g, h, i, j, k, l, m, n, polys, lits xs) (den-ring xs _ _ tt)))

-- the weighted squared distances from y/k, by the sums alone
pub distances_sum : {X : Type 0} (weight : X → ℤ) (at : X → SpacePoint) (k : ℤ) (y : SpacePoint) (xs : List X)
    → total (λ s. weight s *ℤ squared_length (vector y (times k (at s)))) xs
    ≡ k *ℤ k *ℤ total (λ s. weight s *ℤ squared_length (at s)) xs -ℤ pos 2 *ℤ (k *ℤ dot y (weighted_sum weight at xs)) +ℤ total weight xs *ℤ squared_length y
distances_sum weight at k y [] = nothing k y.x y.y y.z
  where
    nothing : (k yx yy yz : ℤ) → pos 0 ≡ k *ℤ k *ℤ pos 0 -ℤ pos 2 *ℤ (k *ℤ (yx *ℤ pos 0 +ℤ yy *ℤ pos 0 +ℤ yz *ℤ pos 0)) +ℤ pos 0 *ℤ (yx *ℤ yx +ℤ yy *ℤ yy +ℤ yz *ℤ yz)
    nothing k yx yy yz = read (k ∷ yx ∷ yy ∷ yz ∷ []) (λ xs a b c d. simp (a, b, c, d, polys, lits xs) (den-ring xs _ _ tt))
distances_sum weight at k y (x ∷ xs) =
    sum_step k (weight x) (at x).x (at x).y (at x).z y.x y.y y.z _ _ (weighted_sum weight at xs).x (weighted_sum weight at xs).y (weighted_sum weight at xs).z _ (distances_sum weight at k y xs)

-- one more vector
balance_step : (m w ax ay az vx vy vz S Rx Ry Rz : ℤ)
    → pos 2 *ℤ (ax *ℤ vx +ℤ ay *ℤ vy +ℤ az *ℤ vz) ≡ m *ℤ (ax *ℤ ax +ℤ ay *ℤ ay +ℤ az *ℤ az)
    → pos 2 *ℤ (Rx *ℤ vx +ℤ Ry *ℤ vy +ℤ Rz *ℤ vz) ≡ m *ℤ S
    → pos 2 *ℤ ((w *ℤ ax +ℤ Rx) *ℤ vx +ℤ (w *ℤ ay +ℤ Ry) *ℤ vy +ℤ (w *ℤ az +ℤ Rz) *ℤ vz) ≡ m *ℤ (w *ℤ (ax *ℤ ax +ℤ ay *ℤ ay +ℤ az *ℤ az) +ℤ S)
balance_step m w ax ay az vx vy vz S Rx Ry Rz h k =
    combine2 w (pos 1) h k
    (read (m ∷ w ∷ ax ∷ ay ∷ az ∷ vx ∷ vy ∷ vz ∷ S ∷ Rx ∷ Ry ∷ Rz ∷ [])
    (λ xs a b c d e f g h i j k l. simp (a, b, c, d, e, f, g, h, i, j, k, l, polys, lits xs) (den-ring xs _ _ tt)))

-- where each vector's product with v is half of m times its squared length, so it is for the sums
pub balance : {X : Type 0} (weight : X → ℤ) (at : X → SpacePoint) (m : ℤ) (v : SpacePoint) (xs : List X)
    → All (λ s. pos 2 *ℤ dot (at s) v ≡ m *ℤ squared_length (at s)) xs
    → pos 2 *ℤ dot (weighted_sum weight at xs) v ≡ m *ℤ total (λ s. weight s *ℤ squared_length (at s)) xs
balance weight at m v [] h = nothing m v.x v.y v.z
  where
    nothing : (m vx vy vz : ℤ) → pos 2 *ℤ (pos 0 *ℤ vx +ℤ pos 0 *ℤ vy +ℤ pos 0 *ℤ vz) ≡ m *ℤ pos 0
    nothing m vx vy vz = read (m ∷ vx ∷ vy ∷ vz ∷ []) (λ xs a b c d. simp (a, b, c, d, polys, lits xs) (den-ring xs _ _ tt))
balance {X} weight at m v (x ∷ xs) h =
    let Balances : X → Type 0 = λ s. pos 2 *ℤ dot (at s) v ≡ m *ℤ squared_length (at s) in
    balance_step m (weight x) (at x).x (at x).y (at x).z v.x v.y v.z _ (weighted_sum weight at xs).x (weighted_sum weight at xs).y (weighted_sum weight at xs).z (All-head Balances x xs h) (balance weight at m v xs (All-tail Balances x xs h))

-- points with the same coordinates are the same
pub same_point : (a b : SpacePoint) → a.x ≡ b.x → a.y ≡ b.y → a.z ≡ b.z → a ≡ b
same_point a b ex ey ez = λ i. record { x = ex i; y = ey i; z = ez i }

-- the weighted sum of differences is the difference of the weighted sums
pub pull_is_difference : (ps qs : List SpacePoint) (pairs : List WeightedPair)
    → pull ps qs pairs ≡ vector (weighted_sum (λ pair. pair.weight) (λ pair. point_at qs pair.second) pairs) (weighted_sum (λ pair. pair.weight) (λ pair. point_at ps pair.first) pairs)
pull_is_difference ps qs [] = refl
pull_is_difference ps qs (pair ∷ rest) =
    let ih = pull_is_difference ps qs rest in
    let p = point_at ps pair.first in
    let q = point_at qs pair.second in
    let s = weighted_sum (λ (pair : WeightedPair). pair.weight) (λ pair. point_at ps pair.first) rest in
    let t = weighted_sum (λ (pair : WeightedPair). pair.weight) (λ pair. point_at qs pair.second) rest in
    let r = pull ps qs rest in
    same_point _ _ (plain pair.weight p.x q.x r.x s.x t.x (ap (λ v. v.x) ih)) (plain pair.weight p.y q.y r.y s.y t.y (ap (λ v. v.y) ih)) (plain pair.weight p.z q.z r.z s.z t.z (ap (λ v. v.z) ih))
  where
    plain : (w p q r s t : ℤ) → r ≡ s -ℤ t → w *ℤ (p -ℤ q) +ℤ r ≡ (w *ℤ p +ℤ s) -ℤ (w *ℤ q +ℤ t)
    plain w p q r s t h = combine1 (pos 1) h (read (w ∷ p ∷ q ∷ r ∷ s ∷ t ∷ []) (λ xs a b c d e f. simp (a, b, c, d, e, f, polys, lits xs) (den-ring xs _ _ tt)))

-- where all products with v are e, the product with the weighted sum is the sum of the weights times e
pub product_of_sum : {X : Type 0} (weight : X → ℤ) (at : X → SpacePoint) (v : SpacePoint) (e : ℤ) (xs : List X) → All (λ x. dot v (at x) ≡ e) xs → dot v (weighted_sum weight at xs) ≡ total weight xs *ℤ e
product_of_sum weight at v e [] h = nothing v.x v.y v.z e
  where
    nothing : (a b c e : ℤ) → a *ℤ pos 0 +ℤ b *ℤ pos 0 +ℤ c *ℤ pos 0 ≡ pos 0 *ℤ e
    nothing a b c e = read (a ∷ b ∷ c ∷ e ∷ []) (λ xs p q r s. simp (p, q, r, s, polys, lits xs) (den-ring xs _ _ tt))
product_of_sum {X} weight at v e (x ∷ xs) h =
    let Is_e = λ (x : X). dot v (at x) ≡ e in
    let r = weighted_sum weight at xs in
    plain v.x v.y v.z (weight x) (at x).x (at x).y (at x).z r.x r.y r.z (total weight xs) e (All-head Is_e x xs h) (product_of_sum weight at v e xs (All-tail Is_e x xs h))
  where
    plain : (vx vy vz w ax ay az rx ry rz W e : ℤ) → vx *ℤ ax +ℤ vy *ℤ ay +ℤ vz *ℤ az ≡ e → vx *ℤ rx +ℤ vy *ℤ ry +ℤ vz *ℤ rz ≡ W *ℤ e
        → vx *ℤ (w *ℤ ax +ℤ rx) +ℤ vy *ℤ (w *ℤ ay +ℤ ry) +ℤ vz *ℤ (w *ℤ az +ℤ rz) ≡ (w +ℤ W) *ℤ e
    plain vx vy vz w ax ay az rx ry rz W e h k =
        combine2 w (pos 1) h k
        (read (vx ∷ vy ∷ vz ∷ w ∷ ax ∷ ay ∷ az ∷ rx ∷ ry ∷ rz ∷ W ∷ e ∷ []) (λ xs a b c d e f g h i j k l. simp (a, b, c, d, e, f, g, h, i, j, k, l, polys, lits xs) (den-ring xs _ _ tt)))
