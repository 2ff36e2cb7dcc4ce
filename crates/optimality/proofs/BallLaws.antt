-- A circle and a sphere that pass are the smallest around their points: the weighted sum of squared distances from any centre is least at the supports' mean.
use Rattle.std.proofs.Common.{◌≡◌, refl, sym, ◌∙◌, ap, subst, ℕ, ◌<◌, ℤ, pos, negsuc, ◌+ℤ◌, ◌-ℤ◌, ◌*ℤ◌, neg_ℤ, ◌≤ℤ◌, List, [], ◌∷◌, length, arith}
use Rattle.std.specs.Prelude.{All, ◌≤◌, ◌^◌, map, slice_index_or}
use Rattle.std.proofs.lemmas.Int.{ints}
use Rattle.std.proofs.lemmas.List.{length-map}
use Rattle.integers.proofs.Identities.{den-ring, read, polys, lits, below_lits}
use Rattle.integers.proofs.Order.{nonneg_mul, nonneg_add, positive_mul, positive_from_one, square_nonneg, le_by, le_of_mul_le, nonneg_difference, combine1, combine2, combine3, nonneg_from_one}
use Rattle.integers.proofs.Sums.{total_weighted_le}
use Rattle.integers.specs.Total.{total}
use Rattle.bounds_model.specs.Space.{SpacePoint, point_at, origin, vector, times, squared_length, entries, flat}
use Rattle.bounds_model.specs.Fractions.{IsNotNegative, IsAtMost}
use Rattle.bounds_model.specs.Ball.{Ball, FitsBall, FitsCircle}
use Rattle.bounds_model.specs.BallAnswer.{Weighted, circle_of, sphere_of, weight_sum, first_support, seen_support, pull, IsBallWitness}
use Rattle.model_laws.proofs.Decisions.{all-uncons}
use Rattle.optimality.specs.Laws.{PassingCirclesAreBest, PassingSpheresAreBest}
use Rattle.optimality.proofs.PrintedSizes.{printed_as_is}
use Rattle.model_laws.proofs.WeightedVectors.{distances_sum, balance}

-- ---- the numbers of a ball that passes: q is the first support, C the weighted sum as seen from it, W the sum of the weights, S the second moment

-- the size is the squared length of C, over that of W
size_is : (N D W S CC : ℤ) → N *ℤ (pos 2 *ℤ W) ≡ S *ℤ D → pos 2 *ℤ CC ≡ W *ℤ S → N *ℤ (W *ℤ W) ≡ D *ℤ CC
size_is N D W S CC h k =
    halve _ _ (combine2 W (neg_ℤ D) h k (read (N ∷ D ∷ W ∷ S ∷ CC ∷ []) (λ xs a b c d e. simp (a, b, c, d, e, polys, lits xs) (den-ring xs _ _ tt))))
  where
    halve : (a b : ℤ) → pos 2 *ℤ a ≡ pos 2 *ℤ b → a ≡ b
    halve a b h = omega (arith, ints)

-- a centre's distance from a point, times W
shift : (W w c q C p : ℤ) → c *ℤ W ≡ (W *ℤ q +ℤ C) *ℤ w → W *ℤ (w *ℤ p -ℤ c) ≡ w *ℤ (W *ℤ (p -ℤ q) -ℤ C)
shift W w c q C p h =
    combine1 (negsuc 0) h (read (W ∷ w ∷ c ∷ q ∷ C ∷ p ∷ []) (λ xs a b d e f g. simp (a, b, d, e, f, g, polys, below_lits xs) (den-ring xs _ _ tt)))

-- scaled by W, a point's distance is smaller than the radius by how far it is inside
inside_difference : (D N W w X Y Z A B E Cx Cy Cz : ℤ)
    → W *ℤ X ≡ w *ℤ (W *ℤ A -ℤ Cx) → W *ℤ Y ≡ w *ℤ (W *ℤ B -ℤ Cy) → W *ℤ Z ≡ w *ℤ (W *ℤ E -ℤ Cz)
    → N *ℤ (W *ℤ W) ≡ D *ℤ (Cx *ℤ Cx +ℤ Cy *ℤ Cy +ℤ Cz *ℤ Cz)
    → W *ℤ W *ℤ (N *ℤ (w *ℤ w)) -ℤ W *ℤ W *ℤ (D *ℤ (X *ℤ X +ℤ Y *ℤ Y +ℤ Z *ℤ Z))
    ≡ D *ℤ (w *ℤ w) *ℤ W *ℤ (pos 2 *ℤ (A *ℤ Cx +ℤ B *ℤ Cy +ℤ E *ℤ Cz) -ℤ W *ℤ (A *ℤ A +ℤ B *ℤ B +ℤ E *ℤ E))
inside_difference D N W w X Y Z A B E Cx Cy Cz hx hy hz h =
    let ex = ap (λ v. v *ℤ v) hx in
    let ey = ap (λ v. v *ℤ v) hy in
    let ez = ap (λ v. v *ℤ v) hz in
    let three : W *ℤ W *ℤ (N *ℤ (w *ℤ w)) -ℤ W *ℤ W *ℤ (D *ℤ (X *ℤ X +ℤ Y *ℤ Y +ℤ Z *ℤ Z))
    ≡ w *ℤ w *ℤ (N *ℤ (W *ℤ W)) -ℤ D *ℤ (w *ℤ w *ℤ ((W *ℤ A -ℤ Cx) *ℤ (W *ℤ A -ℤ Cx) +ℤ (W *ℤ B -ℤ Cy) *ℤ (W *ℤ B -ℤ Cy) +ℤ (W *ℤ E -ℤ Cz) *ℤ (W *ℤ E -ℤ Cz)))
    = combine3 (neg_ℤ D) (neg_ℤ D) (neg_ℤ D) ex ey ez
    (read (D ∷ N ∷ W ∷ w ∷ X ∷ Y ∷ Z ∷ A ∷ B ∷ E ∷ Cx ∷ Cy ∷ Cz ∷ []) (λ xs a b c d e f g h i j k l m. simp (a, b, c, d, e, f, g, h, i, j, k, l, m, polys) (den-ring xs _ _ tt))) in
    three ∙ combine1 (w *ℤ w) h (read (D ∷ N ∷ W ∷ w ∷ A ∷ B ∷ E ∷ Cx ∷ Cy ∷ Cz ∷ []) (λ xs a b c d e f g h i j. simp (a, b, c, d, e, f, g, h, i, j, polys, lits xs) (den-ring xs _ _ tt)))

-- a point that is not outside by the weights is in the ball
inside_law : (D N W w X Y Z A B E Cx Cy Cz : ℤ) → pos 1 ≤ℤ W → pos 1 ≤ℤ D
    → W *ℤ X ≡ w *ℤ (W *ℤ A -ℤ Cx) → W *ℤ Y ≡ w *ℤ (W *ℤ B -ℤ Cy) → W *ℤ Z ≡ w *ℤ (W *ℤ E -ℤ Cz)
    → N *ℤ (W *ℤ W) ≡ D *ℤ (Cx *ℤ Cx +ℤ Cy *ℤ Cy +ℤ Cz *ℤ Cz)
    → (W *ℤ (A *ℤ A +ℤ B *ℤ B +ℤ E *ℤ E)) ≤ℤ (pos 2 *ℤ (A *ℤ Cx +ℤ B *ℤ Cy +ℤ E *ℤ Cz))
    → (D *ℤ (X *ℤ X +ℤ Y *ℤ Y +ℤ Z *ℤ Z)) ≤ℤ (N *ℤ (w *ℤ w))
inside_law D N W w X Y Z A B E Cx Cy Cz pw pd hx hy hz h l =
    le_of_mul_le (W *ℤ W) (positive_mul (positive_from_one pw) (positive_from_one pw))
    (le_by (nonneg_mul (nonneg_mul (nonneg_mul (nonneg_from_one pd) (square_nonneg w)) (nonneg_from_one pw)) (nonneg_difference l)) (inside_difference D N W w X Y Z A B E Cx Cy Cz hx hy hz h))

-- W times the weighted squared distances from y/k is at least k*k times the squared length of C
spread : (k W S T Cx Cy Cz x y z : ℤ)
    → T ≡ k *ℤ k *ℤ S -ℤ pos 2 *ℤ (k *ℤ (x *ℤ Cx +ℤ y *ℤ Cy +ℤ z *ℤ Cz)) +ℤ W *ℤ (x *ℤ x +ℤ y *ℤ y +ℤ z *ℤ z)
    → pos 2 *ℤ (Cx *ℤ Cx +ℤ Cy *ℤ Cy +ℤ Cz *ℤ Cz) ≡ W *ℤ S
    → W *ℤ T -ℤ k *ℤ k *ℤ (Cx *ℤ Cx +ℤ Cy *ℤ Cy +ℤ Cz *ℤ Cz) ≡ (W *ℤ x -ℤ k *ℤ Cx) *ℤ (W *ℤ x -ℤ k *ℤ Cx) +ℤ (W *ℤ y -ℤ k *ℤ Cy) *ℤ (W *ℤ y -ℤ k *ℤ Cy) +ℤ (W *ℤ z -ℤ k *ℤ Cz) *ℤ (W *ℤ z -ℤ k *ℤ Cz)
spread k W S T Cx Cy Cz x y z h e =
    combine2 W (neg_ℤ (k *ℤ k)) h e
    (read (k ∷ W ∷ S ∷ T ∷ Cx ∷ Cy ∷ Cz ∷ x ∷ y ∷ z ∷ []) (λ xs a b c d e f g h i j. simp (a, b, c, d, e, f, g, h, i, j, polys, lits xs) (den-ring xs _ _ tt)))

-- the size is at most the squared radius n/d of a ball around y/k that contains the supports
best_law : (N D W S T Cx Cy Cz x y z k n d : ℤ) → pos 1 ≤ℤ W → pos 1 ≤ℤ D → pos 1 ≤ℤ k → pos 1 ≤ℤ d
    → T ≡ k *ℤ k *ℤ S -ℤ pos 2 *ℤ (k *ℤ (x *ℤ Cx +ℤ y *ℤ Cy +ℤ z *ℤ Cz)) +ℤ W *ℤ (x *ℤ x +ℤ y *ℤ y +ℤ z *ℤ z)
    → pos 2 *ℤ (Cx *ℤ Cx +ℤ Cy *ℤ Cy +ℤ Cz *ℤ Cz) ≡ W *ℤ S
    → N *ℤ (W *ℤ W) ≡ D *ℤ (Cx *ℤ Cx +ℤ Cy *ℤ Cy +ℤ Cz *ℤ Cz)
    → (d *ℤ T) ≤ℤ (W *ℤ (n *ℤ (k *ℤ k)))
    → (N *ℤ d) ≤ℤ (n *ℤ D)
best_law N D W S T Cx Cy Cz x y z k n d pw pd pk pe hT hC hN l =
    let CC = Cx *ℤ Cx +ℤ Cy *ℤ Cy +ℤ Cz *ℤ Cz in
    let above : (k *ℤ k *ℤ CC) ≤ℤ (W *ℤ T) = le_by (nonneg_add (nonneg_add (square_nonneg (W *ℤ x -ℤ k *ℤ Cx)) (square_nonneg (W *ℤ y -ℤ k *ℤ Cy))) (square_nonneg (W *ℤ z -ℤ k *ℤ Cz))) (spread k W S T Cx Cy Cz x y z hT hC) in
    let chained = chain k CC W T d n (nonneg_from_one pw) (nonneg_from_one pe) above l in
    let short : (d *ℤ CC) ≤ℤ (W *ℤ W *ℤ n) = le_of_mul_le (k *ℤ k) (positive_mul (positive_from_one pk) (positive_from_one pk)) chained in
    le_of_mul_le (W *ℤ W) (positive_mul (positive_from_one pw) (positive_from_one pw)) (last D N W CC d n (nonneg_from_one pd) hN short)
  where
    chain : (k CC W T d n : ℤ) → pos 0 ≤ℤ W → pos 0 ≤ℤ d → (k *ℤ k *ℤ CC) ≤ℤ (W *ℤ T) → (d *ℤ T) ≤ℤ (W *ℤ (n *ℤ (k *ℤ k))) → (k *ℤ k *ℤ (d *ℤ CC)) ≤ℤ (k *ℤ k *ℤ (W *ℤ W *ℤ n))
    chain k CC W T d n pw pe h l =
        le_by (nonneg_add (nonneg_mul pe (nonneg_difference h)) (nonneg_mul pw (nonneg_difference l)))
        (read (k ∷ CC ∷ W ∷ T ∷ d ∷ n ∷ []) (λ xs a b c d e f. simp (a, b, c, d, e, f, polys) (den-ring xs _ _ tt)))

    last : (D N W CC d n : ℤ) → pos 0 ≤ℤ D → N *ℤ (W *ℤ W) ≡ D *ℤ CC → (d *ℤ CC) ≤ℤ (W *ℤ W *ℤ n) → (W *ℤ W *ℤ (N *ℤ d)) ≤ℤ (W *ℤ W *ℤ (n *ℤ D))
    last D N W CC d n pd h l =
        le_by (nonneg_mul pd (nonneg_difference l))
        (combine1 (neg_ℤ d) h (read (D ∷ N ∷ W ∷ CC ∷ d ∷ n ∷ []) (λ xs a b c d e f. simp (a, b, c, d, e, f, polys) (den-ring xs _ _ tt))))

-- ---- a witness contains its ball in place

-- the distance of k p from c is that of k (p - q) from c - k q
abbrev Far : ℤ → SpacePoint → SpacePoint → ℤ
Far k c p = squared_length (vector c (times k p))

-- which is the same from any origin
far_is : (k : ℤ) (c q p : SpacePoint) → Far k (vector (times k q) c) (vector q p) ≡ Far k c p
far_is k c q p = moved k c.x c.y c.z q.x q.y q.z p.x p.y p.z
  where
    same : (k c q p : ℤ) → k *ℤ (p -ℤ q) -ℤ (c -ℤ k *ℤ q) ≡ k *ℤ p -ℤ c
    same k c q p = read (k ∷ c ∷ q ∷ p ∷ []) (λ xs a b d e. simp (a, b, d, e, polys) (den-ring xs _ _ tt))

    moved : (k cx cy cz qx qy qz px py pz : ℤ)
        → (k *ℤ (px -ℤ qx) -ℤ (cx -ℤ k *ℤ qx)) *ℤ (k *ℤ (px -ℤ qx) -ℤ (cx -ℤ k *ℤ qx)) +ℤ (k *ℤ (py -ℤ qy) -ℤ (cy -ℤ k *ℤ qy)) *ℤ (k *ℤ (py -ℤ qy) -ℤ (cy -ℤ k *ℤ qy)) +ℤ (k *ℤ (pz -ℤ qz) -ℤ (cz -ℤ k *ℤ qz)) *ℤ (k *ℤ (pz -ℤ qz) -ℤ (cz -ℤ k *ℤ qz))
        ≡ (k *ℤ px -ℤ cx) *ℤ (k *ℤ px -ℤ cx) +ℤ (k *ℤ py -ℤ cy) *ℤ (k *ℤ py -ℤ cy) +ℤ (k *ℤ pz -ℤ cz) *ℤ (k *ℤ pz -ℤ cz)
    moved k cx cy cz qx qy qz px py pz = rw (same k cx qx px, same k cy qy py, same k cz qz pz) refl

-- what the conditions on a ball come to
record Balanced (points : List SpacePoint) (ball : Ball) (supports : List Weighted) : Type 0 where
  weight : pos 1 ≤ℤ weight_sum supports
  moments : pos 2 *ℤ squared_length (pull points supports) ≡ weight_sum supports *ℤ total (λ s. s.weight *ℤ squared_length (seen_support points supports s)) supports
  size : ball.squared_radius.n *ℤ (weight_sum supports *ℤ weight_sum supports) ≡ ball.squared_radius.d *ℤ squared_length (pull points supports)

-- one or more weights of at least 1 have a sum of at least 1
weights_at_least : (supports : List Weighted) → 1 ≤ length supports → All (λ s. pos 1 ≤ℤ s.weight) supports → pos 1 ≤ℤ weight_sum supports
weights_at_least [] h p = absurd (omega arith)
weights_at_least (s ∷ rest) h p =
    let ps = all-uncons (λ (s : Weighted). pos 1 ≤ℤ s.weight) s rest p in
    let more = sum_not_negative rest ps.1 in
    omega (arith, ints, ps.0, more)
  where
    sum_not_negative : (rest : List Weighted) → All (λ s. pos 1 ≤ℤ s.weight) rest → pos 0 ≤ℤ weight_sum rest
    sum_not_negative [] p = omega (arith, ints)
    sum_not_negative (s ∷ rest) p =
        let ps = all-uncons (λ (s : Weighted). pos 1 ≤ℤ s.weight) s rest p in
        let more = sum_not_negative rest ps.1 in
        omega (arith, ints, ps.0, more)

-- the conditions come to that
balanced : (limit : ℕ) (points : List SpacePoint) (ball : Ball) (supports : List Weighted) → 1 ≤ length supports → IsBallWitness limit points ball supports → Balanced points ball supports
balanced limit points ball supports some h =
    let weight = weights_at_least supports some h.weights in
    let moments = balance (λ (s : Weighted). s.weight) (seen_support points supports) (weight_sum supports) (pull points supports) supports h.on_ball in
    record { weight = weight; moments = moments; size = size_is ball.squared_radius.n ball.squared_radius.d (weight_sum supports) (total (λ s. s.weight *ℤ squared_length (seen_support points supports s)) supports) (squared_length (pull points supports)) h.size moments }

-- a ball with a witness contains all points
witness_fits : (limit : ℕ) (points : List SpacePoint) (ball : Ball) (supports : List Weighted) → 1 ≤ length supports → pos 1 ≤ℤ ball.centre.w → IsNotNegative ball.squared_radius → IsBallWitness limit points ball supports → FitsBall points ball
witness_fits limit points ball supports some w r h =
    let b = balanced limit points ball supports some h in
    let q = first_support points supports in
    let c = pull points supports in
    record {
      denominator = w;
      radius = r;
      inside = λ k d l.
          let p = slice_index_or points k d in
          let w = ball.centre.w in
          let W = weight_sum supports in
          inside_law ball.squared_radius.d ball.squared_radius.n W w (w *ℤ p.x -ℤ ball.centre.x) (w *ℤ p.y -ℤ ball.centre.y) (w *ℤ p.z -ℤ ball.centre.z) (p.x -ℤ q.x) (p.y -ℤ q.y) (p.z -ℤ q.z) c.x c.y c.z b.weight r.denominator
          (shift W w ball.centre.x q.x c.x p.x h.centre.in_x) (shift W w ball.centre.y q.y c.y p.y h.centre.in_y) (shift W w ball.centre.z q.z c.z p.z h.centre.in_z) b.size (h.none_outside k d l);
    }

-- the bound that a ball that fits gives for each support
support_in : (points : List SpacePoint) (other : Ball) (supports : List Weighted) → All (λ s. s.point < length points) supports → FitsBall points other
    → All (λ s. (other.squared_radius.d *ℤ Far other.centre.w (vector (times other.centre.w (first_support points supports)) (entries other.centre)) (seen_support points supports s)) ≤ℤ (other.squared_radius.n *ℤ (other.centre.w *ℤ other.centre.w))) supports
support_in points other supports numbers fits k d l =
    let s = slice_index_or supports k d in
    subst (λ v. (other.squared_radius.d *ℤ v) ≤ℤ (other.squared_radius.n *ℤ (other.centre.w *ℤ other.centre.w))) (sym (far_is other.centre.w (entries other.centre) (first_support points supports) (point_at points s.point))) (fits.inside s.point origin (numbers k d l))

-- and no ball that contains all points is smaller
witness_best : (limit : ℕ) (points : List SpacePoint) (ball : Ball) (supports : List Weighted) → 1 ≤ length supports → pos 1 ≤ℤ ball.squared_radius.d → All (λ s. s.point < length points) supports → IsBallWitness limit points ball supports
    → (other : Ball) → FitsBall points other → IsAtMost ball.squared_radius other.squared_radius
witness_best limit points ball supports some pd numbers h other fits =
    let b = balanced limit points ball supports some h in
    let q = first_support points supports in
    let c = pull points supports in
    let k = other.centre.w in
    let y = vector (times k q) (entries other.centre) in
    let sums = distances_sum (λ (s : Weighted). s.weight) (seen_support points supports) k y supports in
    let bound = total_weighted_le (λ (s : Weighted). s.weight) (λ s. Far k y (seen_support points supports s)) other.squared_radius.d (other.squared_radius.n *ℤ (k *ℤ k)) supports (λ i d l. nonneg_from_one (h.weights i d l)) (support_in points other supports numbers fits) in
    best_law ball.squared_radius.n ball.squared_radius.d (weight_sum supports) (total (λ s. s.weight *ℤ squared_length (seen_support points supports s)) supports) (total (λ s. s.weight *ℤ Far k y (seen_support points supports s)) supports) c.x c.y c.z y.x y.y y.z k other.squared_radius.n other.squared_radius.d b.weight pd fits.denominator fits.radius.denominator sums b.moments b.size bound

-- a sphere that passes is the smallest
pub sphere_law : PassingSpheresAreBest
sphere_law points a h = record {
  smallest = record { fits = fits; smallest = witness_best (2 ^ 92) points (sphere_of a) a.supports h.ranges.count.at_least h.ranges.size.lowest.not_negative.denominator h.numbers h.witness };
  is_printed = printed_as_is a.size h.ranges.size.lowest;
}
  where
    fits : FitsBall points (sphere_of a)
    fits = witness_fits (2 ^ 92) points (sphere_of a) a.supports h.ranges.count.at_least h.ranges.centre.denominator h.ranges.size.lowest.not_negative h.witness

-- a circle that passes is the smallest
pub circle_law : PassingCirclesAreBest
circle_law points a h = record {
  smallest = record { fits = fits; smallest = λ other f. witness_best (2 ^ 80) (map flat points) (circle_of a) a.supports h.ranges.count.at_least h.ranges.size.lowest.not_negative.denominator numbers h.witness other f.ball };
  is_printed = printed_as_is a.size h.ranges.size.lowest;
}
  where
    numbers : All (λ s. s.point < length (map flat points)) a.supports
    numbers = subst (λ n. All (λ s. s.point < n) a.supports) (sym (length-map points flat)) h.numbers

    fits : FitsCircle points (circle_of a)
    fits = record { in_plane = refl; ball = witness_fits (2 ^ 80) (map flat points) (circle_of a) a.supports h.ranges.count.at_least h.ranges.centre.denominator h.ranges.size.lowest.not_negative h.witness }
