-- A polygon that passes has the greatest area of all with at most k of the hull's corners.
use Rattle.std.proofs.Common.{◌≡◌, subst, ℕ, zero, suc, ◌+◌, ◌-◌, ◌<◌, ◌≤◌, min, ℤ, pos, ◌+ℤ◌, ◌*ℤ◌, ◌≤ℤ◌, ◌<ℤ◌, List, [], ◌∷◌, length, map, arith, Bool, true, false}
use Rattle.std.specs.Prelude.{All, slice_index_or, nat_lt, if◌then◌else◌}
use Rattle.std.specs.List.Sorted.{IsStrictlyIncreasing}
use Rattle.std.proofs.lemmas.Int.{ints}
use Rattle.std.proofs.lemmas.List.{length-map}
use Rattle.std.proofs.lemmas.List.Elements.{All-head, All-tail}
use Rattle.integers.proofs.Identities.{den-ring, read, polys}
use Rattle.integers.proofs.Order.{nonneg_mul, nonneg_add, le_by, nonneg_difference, nonneg_from_one}
use Rattle.bounds_model.specs.Plane.{PlanePoint, point_at, turn}
use Rattle.bounds_model.specs.Kgon.{FitsKgon, triangulated_area, twice_area, kgon_size}
use Rattle.bounds_model.specs.KgonAnswer.{KgonAnswer, corner_points, potential, PassesKgon}
use Rattle.model_laws.proofs.CornerLaw.{passing_kgon}
use Rattle.model_laws.proofs.MostAdded.{rising-uncons}
use Rattle.optimality.specs.Laws.{PassingKgonsAreBest}
use Rattle.optimality.proofs.PrintedSizes.{greatest_by_printed}

-- ---- potentials are at most twice the size

-- 0 is at most a bound that is not below 0, D times
zero_below : (D B : ℤ) → pos 0 ≤ℤ B → (pos 0 *ℤ D) ≤ℤ B
zero_below D B h = omega (arith, ints)

-- twice a number that is not below 0 is not
twice_nonneg : {n : ℤ} → pos 0 ≤ℤ n → pos 0 ≤ℤ (pos 2 *ℤ n)
twice_nonneg h = omega (arith, ints)

-- a read of a list whose elements are at most the bound, D times, is so, past the end too
read_below : (us : List ℤ) (i : ℕ) (D B : ℤ) → pos 0 ≤ℤ B → All (λ u. (u *ℤ D) ≤ℤ B) us → (slice_index_or us i (pos 0) *ℤ D) ≤ℤ B
read_below [] i D B h all = zero_below D B h
read_below (u ∷ us) zero D B h all = All-head (λ u. (u *ℤ D) ≤ℤ B) u us all
read_below (u ∷ us) (suc i) D B h all = read_below us i D B h (All-tail (λ u. (u *ℤ D) ≤ℤ B) u us all)

-- and so is each potential
potential_below : (answer : KgonAnswer) (a layer b : ℕ) (D B : ℤ) → pos 0 ≤ℤ B → All (λ u. (u *ℤ D) ≤ℤ B) answer.potentials → (potential answer a layer b *ℤ D) ≤ℤ B
potential_below answer a layer b D B h all = by_layer (nat_lt 0 layer) _ (read_below answer.potentials _ D B h all)
  where
    by_layer : (some : Bool) (u : ℤ) → (u *ℤ D) ≤ℤ B → ((if some then u else pos 0) *ℤ D) ≤ℤ B
    by_layer true u h = h
    by_layer false u _ = zero_below D B h

-- ---- along the corners of a polygon, the area so far is at most the potential

-- one more corner: its triangle t raises the potential u to v at least, and f is the area that follows
one_more_corner : (u t v f D B : ℤ) → pos 0 ≤ℤ D → (u +ℤ t) ≤ℤ v → ((v +ℤ f) *ℤ D) ≤ℤ B → ((u +ℤ (t +ℤ f)) *ℤ D) ≤ℤ B
one_more_corner u t v f D B pD h k =
    le_by (nonneg_add (nonneg_mul pD (nonneg_difference h)) (nonneg_difference k)) (read (u ∷ t ∷ v ∷ f ∷ D ∷ B ∷ []) (λ xs a b c d e f. simp (a, b, c, d, e, f, polys) (den-ring xs _ _ tt)))

-- the potential at a corner and the area of the triangles that follow are at most twice the size
along_corners : (k : ℕ) (points : List PlanePoint) (answer : KgonAnswer) → PassesKgon k points answer → (a layer b : ℕ) (rest : List ℕ) → a < b → IsStrictlyIncreasing (b ∷ rest) → All (λ i. i < length answer.corners) (b ∷ rest) → layer + length rest ≤ answer.layers
    → ((potential answer a layer b +ℤ triangulated_area (point_at (corner_points points answer) a) (map (point_at (corner_points points answer)) (b ∷ rest))) *ℤ answer.size.d) ≤ℤ (pos 2 *ℤ answer.size.n)
along_corners k points answer h a layer b [] first rises inside count =
    no_more (potential answer a layer b) answer.size.d (pos 2 *ℤ answer.size.n) (potential_below answer a layer b answer.size.d (pos 2 *ℤ answer.size.n) (twice_nonneg h.ranges.size.lowest.not_negative.numerator) h.under_size)
  where
    no_more : (u D B : ℤ) → (u *ℤ D) ≤ℤ B → ((u +ℤ pos 0) *ℤ D) ≤ℤ B
    no_more u D B h = subst (λ v. (v *ℤ D) ≤ℤ B) (let e : u ≡ u +ℤ pos 0 = omega (arith, ints) in e) h
along_corners k points answer h a layer b (c ∷ rest) first rises inside count =
    let corners = corner_points points answer in
    let Is_corner = λ (i : ℕ). i < length answer.corners in
    let next = rising-uncons b c rest rises in
    let others = All-tail Is_corner b (c ∷ rest) inside in
    one_more_corner (potential answer a layer b) (turn (point_at corners a) (point_at corners b) (point_at corners c)) (potential answer a (layer + 1) c) (triangulated_area (point_at corners a) (map (point_at corners) (c ∷ rest))) answer.size.d (pos 2 *ℤ answer.size.n) (nonneg_from_one h.ranges.size.lowest.not_negative.denominator)
    (h.grows c (All-head Is_corner c rest others) b next.0 a first layer (in_layers count))
    (along_corners k points answer h a (layer + 1) c rest (before first next.0) next.1 others (one_layer_up count))
  where
    in_layers : layer + length (c ∷ rest) ≤ answer.layers → layer < answer.layers
    in_layers count = omega arith

    before : a < b → b < c → a < c
    before h k = omega arith

    one_layer_up : layer + length (c ∷ rest) ≤ answer.layers → layer + 1 + length rest ≤ answer.layers
    one_layer_up count = omega arith

-- so no polygon has more than twice the size
pub area_below : (k : ℕ) (points : List PlanePoint) (a : KgonAnswer) → PassesKgon k points a → (positions : List ℕ) → FitsKgon k (corner_points points a) positions
    → (twice_area (map (point_at (corner_points points a)) positions) *ℤ a.size.d) ≤ℤ (pos 2 *ℤ a.size.n)
area_below k points a h [] fits = zero_below a.size.d (pos 2 *ℤ a.size.n) (twice_nonneg h.ranges.size.lowest.not_negative.numerator)
area_below k points a h (i ∷ []) fits = zero_below a.size.d (pos 2 *ℤ a.size.n) (twice_nonneg h.ranges.size.lowest.not_negative.numerator)
area_below k points a h (i ∷ j ∷ rest) fits =
    let next = rising-uncons i j rest fits.rising in
    subst (λ v. (v *ℤ a.size.d) ≤ℤ (pos 2 *ℤ a.size.n)) (from_zero _)
    (along_corners k points a h i 0 j rest next.0 next.1
    (All-tail (λ i. i < length a.corners) i (j ∷ rest) (subst (λ n. All (λ i. i < n) (i ∷ j ∷ rest)) same fits.in_range))
    (in_layers h.layers (subst (λ n. length (i ∷ j ∷ rest) ≤ min k n) same fits.count.at_most)))
  where
    same : length (corner_points points a) ≡ length a.corners
    same = length-map a.corners (point_at points)

    from_zero : (z : ℤ) → pos 0 +ℤ z ≡ z
    from_zero z = omega (arith, ints)

    in_layers : {m : ℕ} → a.layers ≡ m - 2 → length (i ∷ j ∷ rest) ≤ m → 0 + length rest ≤ a.layers
    in_layers e l = omega arith

-- a polygon that passes has the greatest area
pub kgon_law : PassingKgonsAreBest
kgon_law k points a h = (
  h.numbers,
  passing_kgon k points a h,
  greatest_by_printed (FitsKgon k (corner_points points a)) (kgon_size (corner_points points a)) (λ o f. two) a.chosen a.size h.chosen (record { lowest = h.ranges.size.lowest; same = h.size })
      (λ other fits. exchanged (twice_area (map (point_at (corner_points points a)) other)) a.size.n a.size.d (area_below k points a h other fits)),
)
  where
    two : pos 0 <ℤ pos 2
    two = omega (arith, ints)

    exchanged : (T n d : ℤ) → (T *ℤ d) ≤ℤ (pos 2 *ℤ n) → (T *ℤ d) ≤ℤ (n *ℤ pos 2)
    exchanged T n d h = omega (arith, ints)
