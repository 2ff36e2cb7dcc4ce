-- Supports of equal slack, under which no point is low, determine a ball.
use Rattle.std.proofs.Common.{◌≡◌, refl, sym, subst, ◌∙◌, ap₂, ℕ, ◌<◌, ◌≤◌, ℤ, pos, ◌*ℤ◌, ◌≤ℤ◌, ◌<ℤ◌, List, [], ◌∷◌, length, get_or, map, arith}
use Rattle.std.specs.Prelude.{All}
use Rattle.std.proofs.lemmas.Int.{ints}
use Rattle.std.proofs.lemmas.List.{length-map}
use Rattle.std.proofs.lemmas.List.Elements.{All-map}
use Rattle.integers.proofs.Sums.{total-map}
use Rattle.integers.proofs.Lists.{All-unmap, any_default}
use Rattle.bounds_model.specs.Space.{SpacePoint, point_at, vector, plus, times, dot, squared_length, origin}
use Rattle.bounds_model.specs.Fractions.{Fraction, SameValue}
use Rattle.bounds_model.specs.Ranges.{IsFraction}
use Rattle.bounds_model.specs.BallAnswer.{Weighted, weight_sum, first_support, seen_support, pull, supported_size, IsOnBall, IsNotOutside}
use Rattle.bounds_model.specs.Slacks.{WeightedVector, mass, moment, slack, IsLow}
use Rattle.bounded_coords.specs.declared.cloud.Cloud.{Cloud}
use Rattle.bounded_coords.specs.Clouds.{points_of}
use Rattle.kernel_laws.specs.Limits.{ball_limit}
use Rattle.kernel_laws.proofs.WeightedSums.{weighted_sum-map}
use Rattle.corral.specs.declared.items.Id.{Id}
use Rattle.corral.specs.declared.items.Items.{Items}
use Rattle.corral.specs.declared.items.Items.TheVariants.{Points}
use Rattle.corral.specs.declared.support.WeightedItem.{WeightedItem}
use Rattle.corral.specs.Items.{IsItem, item, first_points}
use Rattle.corral.specs.WeightedItems.{AreSupportItems, weighted_item, weighted_items}
use Rattle.corral.specs.Supports.{AreSupports}
use Rattle.corral.proofs.Moments.{at_least_common, mass_positive}
use Rattle.ball_sums.specs.declared.sums.Sums.{Sums}
use Rattle.ball_sums.specs.DeterminedBalls.{DetermineBall}
use Rattle.min_ball.specs.Balls.{weighted_point}
use Rattle.min_ball.proofs.SeenFromFirst.{sum_seen, on_ball_of_same, inside_of_above}

-- ---- lists

-- ---- supports among the points of a cloud, with their vectors from point 0

-- the points as items
abbrev pub cloud_items : (K : Type 0) {P : Type 0} → Cloud P → Items K P
cloud_items K cloud = Points cloud

-- the sum of their weights
pub mass_is : {K P : Type 0} (place : P → SpacePoint) (items : Items K P) (members : List WeightedItem) → mass (weighted_items place items members) ≡ weight_sum (map weighted_point members)
mass_is place items members = total-map (λ s. s.weight) (weighted_item place items) members ∙ sym (total-map (λ s. s.weight) weighted_point members)

-- their weighted sum, by that as seen from the first support
moment_seen : (K : Type 0) {P : Type 0} (place : P → SpacePoint) (cloud : Cloud P) (members : List WeightedItem)
    → moment (weighted_items place (cloud_items K cloud) members)
    ≡ plus (pull (map place (points_of cloud)) (map weighted_point members))
    (times (mass (weighted_items place (cloud_items K cloud) members)) (vector (point_at (map place (points_of cloud)) 0) (first_support (map place (points_of cloud)) (map weighted_point members))))
moment_seen K place cloud members =
    let items = cloud_items K cloud in
    let points = map place (points_of cloud) in
    let supports = map weighted_point members in
    let f = first_support points supports in
    let at : WeightedItem → SpacePoint = λ s. point_at points s.id.first in
    let weight : WeightedItem → ℤ = λ s. pos s.weight in
    weighted_sum-map (λ (s : WeightedVector). s.weight) (λ s. s.vector) (weighted_item place items) members
    ∙ sum_seen weight at (point_at points 0) f members
    ∙ ap₂ (λ s t. plus s (times t (vector (point_at points 0) f)))
    (sym (weighted_sum-map (λ (s : Weighted). s.weight) (seen_support points supports) weighted_point members))
    (sym (total-map (λ (s : WeightedVector). s.weight) (weighted_item place items) members))

-- they are on the ball
supports_on_ball : (K : Type 0) {P : Type 0} (place : P → SpacePoint) (cloud : Cloud P) (members : List WeightedItem) → AreSupports (pos 1) (weighted_items place (cloud_items K cloud) members)
    → All (IsOnBall (map place (points_of cloud)) (map weighted_point members)) (map weighted_point members)
supports_on_ball K place cloud [] h = absurd (let some = h.some in omega arith)
supports_on_ball K place cloud (first ∷ rest) h =
    let items = cloud_items K cloud in
    let members = first ∷ rest in
    let points = map place (points_of cloud) in
    let supports = map weighted_point members in
    let weighted = weighted_items place items members in
    let f = first_support points supports in
    let equal = All-unmap (λ (a : WeightedVector). All (λ b. slack (pos 1) weighted a.vector ≡ slack (pos 1) weighted b.vector) weighted) (weighted_item place items) members h.equal in
    All-map (IsOnBall points supports) weighted_point members (λ k d l.
    let p = point_at points (get_or members k d).id.first in
    subst (λ m. pos 2 *ℤ dot (vector f p) (pull points supports) ≡ m *ℤ squared_length (vector f p)) (mass_is place items members)
    (on_ball_of_same (mass weighted) (point_at points 0) f p (pull points supports) (moment weighted) (moment_seen K place cloud members) (equal k d l 0 (weighted_item place items first) (omega arith))))

-- no point is outside
none_outside : (K : Type 0) {P : Type 0} (place : P → SpacePoint) (cloud : Cloud P) (members : List WeightedItem) → AreSupports (pos 1) (weighted_items place (cloud_items K cloud) members)
    → ((id : Id) → IsItem (cloud_items K cloud) id → ¬ IsLow (pos 1) (weighted_items place (cloud_items K cloud) members) (item place (cloud_items K cloud) id))
    → All (IsNotOutside (map place (points_of cloud)) (map weighted_point members)) (map place (points_of cloud))
none_outside K place cloud [] h none_low k d l = absurd (let some = h.some in omega arith)
none_outside K place cloud (first ∷ rest) h none_low k d l =
    let items = cloud_items K cloud in
    let members = first ∷ rest in
    let points = map place (points_of cloud) in
    let supports = map weighted_point members in
    let weighted = weighted_items place items members in
    let f = first_support points supports in
    let p = point_at points k in
    let as_many = length-map (points_of cloud) place in
    let listed : k < length (points_of cloud) = omega arith in
    let above = at_least_common (pos 1) weighted (slack (pos 1) weighted (vector (point_at points 0) f)) (λ j e m. h.equal j e m 0 (weighted_item place items first) (omega arith)) (vector (point_at points 0) p)
    (none_low (record { first = k; second = k }) (listed, refl)) in
    subst (IsNotOutside points supports) (any_default points k d origin l)
    (subst (λ m. (m *ℤ squared_length (vector f p)) ≤ℤ (pos 2 *ℤ dot (vector f p) (pull points supports))) (mass_is place items members)
    (inside_of_above (mass weighted) (point_at points 0) f p (pull points supports) (moment weighted) (moment_seen K place cloud members) above))

-- ---- the ball

-- the sum of their weights is at least 1
pub some_weight : {K P : Type 0} (place : P → SpacePoint) (items : Items K P) (members : List WeightedItem) (sums : Sums) → AreSupports (pos 1) (weighted_items place items members)
    → pos sums.weight ≡ weight_sum (map weighted_point members) → 1 ≤ sums.weight
some_weight place items members sums h e =
    let some = subst (λ m. pos 0 <ℤ m) (mass_is place items members ∙ sym e) (mass_positive (weighted_items place items members) h.some h.weights) in
    conclude sums.weight some
  where
    conclude : (n : ℕ) → pos 0 <ℤ pos n → 1 ≤ n
    conclude n h = omega (arith, ints)

-- supports under which nothing is low determine a ball
pub determined_by_supports : (K : Type 0) {P : Type 0} (dim : ℕ) (place : P → SpacePoint) (cloud : Cloud P) (items : Items K P) (members : List WeightedItem) (size : Fraction)
    → items ≡ cloud_items K cloud → AreSupportItems dim (cloud_items K cloud) members → AreSupports (pos 1) (weighted_items place (cloud_items K cloud) members)
    → (mass (weighted_items place (cloud_items K cloud) members)) ≤ℤ pos (ball_limit dim)
    → ((id : Id) → IsItem (cloud_items K cloud) id → ¬ IsLow (pos 1) (weighted_items place (cloud_items K cloud) members) (item place (cloud_items K cloud) id))
    → IsFraction size → SameValue size (supported_size (map place (first_points items)) (map weighted_point members))
    → DetermineBall dim (map place (first_points items)) (map weighted_point members) size
determined_by_supports K {P} dim place cloud items members size is are_members supports limit none_low lowest size_is =
    subst (λ (items : Items K P). SameValue size (supported_size (map place (first_points items)) (map weighted_point members)) → DetermineBall dim (map place (first_points items)) (map weighted_point members) size) (sym is)
    (λ size_is. let as_many = length-map members weighted_point in record {
      limits = record {
        some = let h = are_members.count.at_least in omega arith;
        numbers = All-map (λ (s : Weighted). s.point < length (map place (points_of cloud))) weighted_point members
            (λ k d l. let named = (are_members.listed k d l).0 in let count = length-map (points_of cloud) place in omega arith);
        weights = All-map (λ (s : Weighted). pos 1 ≤ℤ s.weight) weighted_point members (All-unmap (λ (s : WeightedVector). pos 1 ≤ℤ s.weight) (weighted_item place (cloud_items K cloud)) members supports.weights);
        weight_limit = subst (λ m. m ≤ℤ pos (ball_limit dim)) (mass_is place (cloud_items K cloud) members) limit;
      };
      size_in_range = lowest;
      size_is = size_is;
      on_ball = supports_on_ball K place cloud members supports;
      none_outside = none_outside K place cloud members supports none_low;
    })
    size_is
