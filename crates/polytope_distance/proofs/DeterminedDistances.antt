-- Supports of equal slack, under which no difference is low, determine a distance.
use Rattle.std.proofs.Common.{◌≡◌, sym, subst, ◌∙◌, ℕ, ◌<◌, ℤ, pos, ◌-ℤ◌, ◌*ℤ◌, ◌≤ℤ◌, List, [], ◌∷◌, length, get_or, map, arith}
use Rattle.std.specs.Prelude.{All}
use Rattle.std.proofs.lemmas.Int.{ints}
use Rattle.std.proofs.lemmas.List.Elements.{All-map}
use Rattle.integers.proofs.Sums.{total-map}
use Rattle.integers.proofs.Lists.{All-unmap, any_default}
use Rattle.bounds_model.specs.Space.{SpacePoint, point_at, vector, dot, squared_length, origin}
use Rattle.bounds_model.specs.AnnulusAnswer.{WeightedPair, pair_sum}
use Rattle.bounds_model.specs.DistanceAnswer.{difference, pull, first_product}
use Rattle.bounds_model.specs.Slacks.{WeightedVector, mass, moment, slack, IsLow}
use Rattle.corral.specs.declared.support.WeightedItem.{WeightedItem}
use Rattle.corral.specs.Supports.{AreSupports}
use Rattle.corral.proofs.Moments.{at_least_common}
use Rattle.pair_sums.proofs.Products.{dot-comm}
use Rattle.polytope_distance.specs.Supports.{weighted_pair}
use Rattle.kernel_laws.proofs.WeightedSums.{weighted_sum-map}

-- ---- lists

-- ---- supports as weighted differences, and as pairs

-- the difference that a support names, with its weight
abbrev pub weighted_difference : List SpacePoint → List SpacePoint → WeightedItem → WeightedVector
weighted_difference ps qs s = record { weight = pos s.weight; vector = vector (point_at qs s.id.second) (point_at ps s.id.first) }

-- the sum of their weights
pub mass_is : (ps qs : List SpacePoint) (members : List WeightedItem) → mass (map (weighted_difference ps qs) members) ≡ pair_sum (map weighted_pair members)
mass_is ps qs members = total-map (λ (s : WeightedVector). s.weight) (weighted_difference ps qs) members ∙ sym (total-map (λ (pair : WeightedPair). pair.weight) weighted_pair members)

-- their weighted sum
moment_is : (ps qs : List SpacePoint) (members : List WeightedItem) → moment (map (weighted_difference ps qs) members) ≡ pull ps qs (map weighted_pair members)
moment_is ps qs members =
    weighted_sum-map (λ (s : WeightedVector). s.weight) (λ s. s.vector) (weighted_difference ps qs) members ∙ sym (weighted_sum-map (λ (pair : WeightedPair). pair.weight) (difference ps qs) weighted_pair members)

-- ---- what supports hold

-- equal slacks are equal products
same_product : (items : List WeightedVector) (v u : SpacePoint) → slack (pos 0) items v ≡ slack (pos 0) items u → dot (moment items) v ≡ dot (moment items) u
same_product items v u h = dot-comm (moment items) v ∙ halves (dot v (moment items)) (dot u (moment items)) (mass items *ℤ squared_length v) (mass items *ℤ squared_length u) h ∙ dot-comm u (moment items)
  where
    halves : (a b x y : ℤ) → pos 2 *ℤ a -ℤ pos 0 *ℤ x ≡ pos 2 *ℤ b -ℤ pos 0 *ℤ y → a ≡ b
    halves a b x y h = omega (arith, ints)

-- and so for an order
less_product : (items : List WeightedVector) (v u : SpacePoint) → slack (pos 0) items u ≤ℤ slack (pos 0) items v → dot (moment items) u ≤ℤ dot (moment items) v
less_product items v u h =
    subst (λ a. a ≤ℤ dot (moment items) v) (dot-comm u (moment items))
    (subst (λ b. dot u (moment items) ≤ℤ b) (dot-comm v (moment items)) (halves (dot v (moment items)) (dot u (moment items)) (mass items *ℤ squared_length v) (mass items *ℤ squared_length u) h))
  where
    halves : (a b x y : ℤ) → (pos 2 *ℤ b -ℤ pos 0 *ℤ y) ≤ℤ (pos 2 *ℤ a -ℤ pos 0 *ℤ x) → b ≤ℤ a
    halves a b x y h = omega (arith, ints)

-- pairs determine a distance: equal products with the pull, and none smaller
pub record DetermineDistance (ps qs : List SpacePoint) (pairs : List WeightedPair) : Type 0 where
  pub weights : All (λ pair. pos 1 ≤ℤ pair.weight) pairs
  pub same_products : All (λ pair. dot (pull ps qs pairs) (difference ps qs pair) ≡ first_product ps qs pairs) pairs
  pub no_smaller : All (λ p. All (λ q. first_product ps qs pairs ≤ℤ dot (pull ps qs pairs) (vector q p)) qs) ps

-- the differences have one product
same_products_of : (ps qs : List SpacePoint) (members : List WeightedItem) → AreSupports (pos 0) (map (weighted_difference ps qs) members)
    → All (λ pair. dot (pull ps qs (map weighted_pair members)) (difference ps qs pair) ≡ first_product ps qs (map weighted_pair members)) (map weighted_pair members)
same_products_of ps qs [] h = absurd (let some = h.some in omega arith)
same_products_of ps qs (first ∷ rest) h =
    let members = first ∷ rest in
    let pairs = map weighted_pair members in
    let weighted = map (weighted_difference ps qs) members in
    let equal = All-unmap (λ (a : WeightedVector). All (λ b. slack (pos 0) weighted a.vector ≡ slack (pos 0) weighted b.vector) weighted) (weighted_difference ps qs) members h.equal in
    All-map (λ (pair : WeightedPair). dot (pull ps qs pairs) (difference ps qs pair) ≡ first_product ps qs pairs) weighted_pair members (λ k d l.
    let s = get_or members k d in
    subst (λ m. dot m (difference ps qs (weighted_pair s)) ≡ dot m (difference ps qs (weighted_pair first))) (moment_is ps qs members)
    (same_product weighted (difference ps qs (weighted_pair s)) (difference ps qs (weighted_pair first)) (equal k d l 0 (weighted_difference ps qs first) (omega arith))))

-- and none has a smaller one
no_smaller_of : (ps qs : List SpacePoint) (members : List WeightedItem) → AreSupports (pos 0) (map (weighted_difference ps qs) members)
    → ((i j : ℕ) → i < length ps → j < length qs → ¬ IsLow (pos 0) (map (weighted_difference ps qs) members) (vector (point_at qs j) (point_at ps i)))
    → All (λ p. All (λ q. first_product ps qs (map weighted_pair members) ≤ℤ dot (pull ps qs (map weighted_pair members)) (vector q p)) qs) ps
no_smaller_of ps qs [] h none_low i d l j e m = absurd (let some = h.some in omega arith)
no_smaller_of ps qs (first ∷ rest) h none_low i d l j e m =
    let members = first ∷ rest in
    let pairs = map weighted_pair members in
    let weighted = map (weighted_difference ps qs) members in
    let least = difference ps qs (weighted_pair first) in
    let p = point_at ps i in
    let q = point_at qs j in
    let above = at_least_common (pos 0) weighted (slack (pos 0) weighted least) (λ k f n. h.equal k f n 0 (weighted_difference ps qs first) (omega arith)) (vector q p) (none_low i j l m) in
    let product = subst (λ m. dot m least ≤ℤ dot m (vector q p)) (moment_is ps qs members) (less_product weighted (vector q p) least above) in
    subst (λ p. dot (pull ps qs pairs) least ≤ℤ dot (pull ps qs pairs) (vector (get_or qs j e) p)) (any_default ps i d origin l)
    (subst (λ q. dot (pull ps qs pairs) least ≤ℤ dot (pull ps qs pairs) (vector q p)) (any_default qs j e origin m) product)

-- so they determine a distance
pub determined_by_supports : (ps qs : List SpacePoint) (members : List WeightedItem) → AreSupports (pos 0) (map (weighted_difference ps qs) members)
    → ((i j : ℕ) → i < length ps → j < length qs → ¬ IsLow (pos 0) (map (weighted_difference ps qs) members) (vector (point_at qs j) (point_at ps i)))
    → DetermineDistance ps qs (map weighted_pair members)
determined_by_supports ps qs members h none_low = record {
  weights = All-map (λ (pair : WeightedPair). pos 1 ≤ℤ pair.weight) weighted_pair members (All-unmap (λ (s : WeightedVector). pos 1 ≤ℤ s.weight) (weighted_difference ps qs) members h.weights);
  same_products = same_products_of ps qs members h;
  no_smaller = no_smaller_of ps qs members h none_low;
}
