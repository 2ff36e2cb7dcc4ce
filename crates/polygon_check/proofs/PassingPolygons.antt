-- What shows that a polygon passes.
use Rattle.std.proofs.Common.{◌≡◌, sym, subst, ◌∙◌, ◌↔◌, Bool, IsTrue, ℕ, ◌+◌, ◌-◌, ◌<◌, ◌≤◌, ◌^◌, min, arith, ℤ, pos, ◌*ℤ◌, ◌≤ℤ◌, ◌<ℤ◌, List, [], ◌∷◌, length, map}
use Rattle.std.specs.Prelude.{All}
use Rattle.std.proofs.Math.IntN.{*ℤ_comm}
use Rattle.std.proofs.lemmas.Int.{ints}
use Rattle.std.proofs.lemmas.List.{length-map}
use Rattle.std.proofs.lemmas.List.Elements.{All-weaker, All-map}
use Rattle.integers.proofs.Lists.{All-unmap}
use Rattle.integers.proofs.Order.{mul_le_left, mul_lt_left, le_of_mul_le, lt_of_mul_lt, le_from_lt, positive_from_one, le_trans_ℤ}
use Rattle.bounds_model.specs.Plane.{PlanePoint, point_at}
use Rattle.bounds_model.specs.Fractions.{Fraction, SameValue}
use Rattle.bounds_model.specs.Numbers.{EachBelow}
use Rattle.bounds_model.specs.Ranges.{IsFraction, IsNatural, point_limit}
use Rattle.bounds_model.specs.CornerTest.{CornersPass}
use Rattle.bounds_model.specs.Kgon.{twice_area, kgon_size}
use Rattle.bounds_model.specs.KgonAnswer.{KgonAnswer, PassesKgon, KgonRanges, corner_points, chosen_at, potential, most_with, StaysBelow, NoneBetween}
use Rattle.hull_test.specs.CornerNumbers as hulls
use Rattle.polygon_check.specs.PolygonLimits.{HasPolygonLimits, RaisesAll, IsTable}
use Rattle.polygon_check.specs.FirstTests.{AreSmaller, PassesOverNone}

-- what is shown of a polygon, one thing after another
pub record ShowsBest (k : ℕ) (points : List PlanePoint) (a : KgonAnswer) : Type 0 where
  pub limits : HasPolygonLimits k (length points) a
  pub range : IsFraction a.size
  pub size : SameValue a.size (kgon_size (corner_points points a) a.chosen)
  pub naturals : All IsNatural a.potentials
  pub under : All (λ u. (u *ℤ a.size.d) ≤ℤ (pos 2 *ℤ a.size.n)) a.potentials
  pub corners : CornersPass points (corner_points points a)
  pub raises : RaisesAll (corner_points points a) a
  pub earlier : EachBelow (chosen_at a 0) (StaysBelow a)
  pub few : length a.corners < 3 → a.chosen ≡ 0 ∷ []
  pub over_none : EachBelow (length a.chosen - 1) (NoneBetween (corner_points points a) a)

-- at most as many as either
under-min : (k n : ℕ) → k ≤ 12 → min k n ≤ 12
under-min k n h = grind arith

few-layers : {layers : ℕ} (k n : ℕ) → k ≤ 12 → layers ≡ min k n - 2 → layers ≤ 10
few-layers k n h e = omega (arith, e, under-min k n h)

-- numbers within their limits are in their ranges
ranges : (k : ℕ) (points : List PlanePoint) (a : KgonAnswer) → k ≤ 12 → length points ≤ 10000 → ShowsBest k points a → KgonRanges a
ranges k points a few many s = record {
  size = s.range;
  corner_count = s.limits.numbers.as_many;
  corners = All-weaker (λ n. n < length points) (λ n. n ≤ point_limit) (λ n h. number h many) a.corners s.limits.numbers.below;
  chosen_count = record { at_least = s.limits.choice.as_many.at_least; at_most = omega (arith, s.limits.choice.as_many.at_most, under-min k (length a.corners) few) };
  chosen = All-weaker (λ i. i < length a.corners) (λ i. i ≤ 127) (λ i h. position h s.limits.numbers.as_many.at_most) a.chosen s.limits.choice.below;
  layers = few-layers k (length a.corners) few s.limits.layers.layers;
  potential_count = s.limits.layers.as_many;
  potentials = s.naturals;
}
  where
    number : {n m : ℕ} → n < m → m ≤ 10000 → n ≤ 9999
    number h k = omega arith

    position : {i n : ℕ} → i < n → n ≤ 128 → i ≤ 127
    position h k = omega arith

-- what is shown is all that is asked
pub passes_if : (k : ℕ) (points : List PlanePoint) (a : KgonAnswer) → k ≤ 12 → length points ≤ 10000 → ShowsBest k points a → PassesKgon k points a
passes_if k points a few many s = record {
  ranges = ranges k points a few many s;
  numbers = s.limits.numbers.below;
  corners = s.corners;
  chosen = record {
    count = record { at_least = s.limits.choice.as_many.at_least; at_most = subst (λ n. length a.chosen ≤ min k n) (sym (length-map a.corners (point_at points))) s.limits.choice.as_many.at_most };
    rising = s.limits.choice.rising;
    in_range = subst (λ n. All (λ i. i < n) a.chosen) (sym (length-map a.corners (point_at points))) s.limits.choice.below;
  };
  size = s.size;
  layers = s.limits.layers.layers;
  grows = λ last below middle before first rising layer low. s.raises first (through (through rising before) below) last below (through rising before) middle before rising layer low;
  under_size = s.under;
  earlier_below = s.earlier;
  few = s.few;
  none_between = s.over_none;
}
  where
    through : {x y z : ℕ} → x < y → y < z → x < z
    through h k = omega arith

-- each triangle of a polygon that passes raises its potentials
pub raises_of : (k : ℕ) (points : List PlanePoint) (a : KgonAnswer) → PassesKgon k points a → RaisesAll (corner_points points a) a
raises_of k points a p = λ first low last below rising middle before after layer fits. p.grows last below middle before first after layer fits

-- the numbers of corners within the limits are few enough for the hull's test
pub tested_numbers : {k count : ℕ} (a : KgonAnswer) → HasPolygonLimits k count a → hulls.AreCornerNumbers count a.corners
tested_numbers a limits = record {
  as_many = record { at_least = limits.numbers.as_many.at_least; at_most = omega (arith, limits.numbers.as_many.at_most) };
  below = limits.numbers.below;
}

-- a table within its limits
pub table_of : {k count : ℕ} (a : KgonAnswer) → k ≤ 12 → HasPolygonLimits k count a → All (λ u. u ≤ℤ pos (2 ^ 43)) a.potentials → IsTable a
table_of {k} a few limits small = record {
  corner_count = limits.numbers.as_many;
  few = few-layers k (length a.corners) few limits.layers.layers;
  as_many = limits.layers.as_many;
  small = small;
}

-- twice the area of the chosen corners, by the lists that are read
pub area_is : {area : ℤ} (points : List PlanePoint) (a : KgonAnswer) {corners : List PlanePoint} {chosen : List ℕ} → area ≡ twice_area (map (point_at corners) chosen) → corners ≡ corner_points points a → chosen ≡ a.chosen
    → area ≡ twice_area (map (point_at (corner_points points a)) a.chosen)
area_is {area} points a {corners} {chosen} is e f = subst (λ cs. area ≡ twice_area (map (point_at (corner_points points a)) cs)) f (subst (λ ps. area ≡ twice_area (map (point_at ps) chosen)) e is)

-- twice the size, over the denominator, is the area over it
over_denominator : (n d area : ℤ) → n *ℤ pos 2 ≡ area *ℤ d → pos 2 *ℤ n ≡ d *ℤ area
over_denominator n d area e = *ℤ_comm (pos 2) n ∙ e ∙ *ℤ_comm area d

-- a number is below twice the size exactly where it is below the area
below_size : {area : ℤ} (size : Fraction) (u : ℤ) → pos 1 ≤ℤ size.d → size.n *ℤ pos 2 ≡ area *ℤ size.d → (u <ℤ area) ↔ ((u *ℤ size.d) <ℤ (pos 2 *ℤ size.n))
below_size {area} size u some e = (
  λ h. subst (λ z. z <ℤ (pos 2 *ℤ size.n)) (*ℤ_comm size.d u) (subst (λ z. (size.d *ℤ u) <ℤ z) (sym (over_denominator size.n size.d area e)) (mul_lt_left size.d (positive_from_one some) h)),
  λ h. lt_of_mul_lt size.d (positive_from_one some) (subst (λ z. (size.d *ℤ u) <ℤ z) (over_denominator size.n size.d area e) (subst (λ z. z <ℤ (pos 2 *ℤ size.n)) (*ℤ_comm u size.d) h)),
)

-- so the potentials of earlier first corners are below both
pub earlier_is : {area : ℤ} (a : KgonAnswer) → pos 1 ≤ℤ a.size.d → a.size.n *ℤ pos 2 ≡ area *ℤ a.size.d → EachBelow (chosen_at a 0) (AreSmaller a area) ↔ EachBelow (chosen_at a 0) (StaysBelow a)
earlier_is {area} a some e = (
  λ h first before last below after layer low. (below_size a.size (potential a first (layer + 1) last) some e).0 (h first before last below after layer low),
  λ h first before last below after layer low. (below_size a.size (potential a first (layer + 1) last) some e).1 (h first before last below after layer low),
)

-- and what is reached with corners that were passed over
pub over_none_is : {area : ℤ} (points : List PlanePoint) (a : KgonAnswer) → pos 1 ≤ℤ a.size.d → a.size.n *ℤ pos 2 ≡ area *ℤ a.size.d
    → EachBelow (length a.chosen - 1) (PassesOverNone (corner_points points a) a.chosen a.layers area) ↔ EachBelow (length a.chosen - 1) (NoneBetween (corner_points points a) a)
over_none_is {area} points a some e = (
  λ h place low other before after. (below_size a.size (most_with (corner_points points a) a (place + 1) other) some e).0 (h place low other before after),
  λ h place low other before after. (below_size a.size (most_with (corner_points points a) a (place + 1) other) some e).1 (h place low other before after),
)

-- the same, by the lists that are read
pub over_none_as : {yes : Bool} {area : ℤ} (points : List PlanePoint) (a : KgonAnswer) {corners : List PlanePoint} {chosen : List ℕ} → corners ≡ corner_points points a → chosen ≡ a.chosen → pos 1 ≤ℤ a.size.d → a.size.n *ℤ pos 2 ≡ area *ℤ a.size.d
    → (IsTrue yes ↔ EachBelow (length chosen - 1) (PassesOverNone corners chosen a.layers area)) → IsTrue yes ↔ EachBelow (length a.chosen - 1) (NoneBetween (corner_points points a) a)
over_none_as {yes} {area} points a {corners} {chosen} e f some size t =
    let law = over_none_is points a some size in
    let here = subst (λ is. IsTrue yes ↔ EachBelow (length is - 1) (PassesOverNone (corner_points points a) is a.layers area)) f (subst (λ ps. IsTrue yes ↔ EachBelow (length chosen - 1) (PassesOverNone ps chosen a.layers area)) e t) in
    (λ y. law.0 (here.0 y), λ h. here.1 (law.1 h))

pub raises_as : {yes : Bool} (points : List PlanePoint) (a : KgonAnswer) {corners : List PlanePoint} → corners ≡ corner_points points a → (IsTrue yes ↔ RaisesAll corners a) → IsTrue yes ↔ RaisesAll (corner_points points a) a
raises_as {yes} points a e t = subst (λ ps. IsTrue yes ↔ RaisesAll ps a) e t

-- a potential is at most twice the size exactly where it is at most the area
pub under_area : {area : ℤ} (us : List ℕ) (size : Fraction) → pos 1 ≤ℤ size.d → size.n *ℤ pos 2 ≡ area *ℤ size.d → All (λ u. (u *ℤ size.d) ≤ℤ (pos 2 *ℤ size.n)) (map pos us) → All (λ u. pos u ≤ℤ area) us
under_area {area} us size some e all =
    All-weaker (λ u. (pos u *ℤ size.d) ≤ℤ (pos 2 *ℤ size.n)) (λ u. pos u ≤ℤ area)
    (λ u h. le_of_mul_le size.d (positive_from_one some) (subst (λ z. z ≤ℤ (size.d *ℤ area)) (*ℤ_comm (pos u) size.d) (subst (λ z. (pos u *ℤ size.d) ≤ℤ z) (over_denominator size.n size.d area e) h)))
    us (All-unmap (λ u. (u *ℤ size.d) ≤ℤ (pos 2 *ℤ size.n)) pos us all)

pub under_size : {area : ℤ} (us : List ℕ) (size : Fraction) → pos 1 ≤ℤ size.d → size.n *ℤ pos 2 ≡ area *ℤ size.d → All (λ u. pos u ≤ℤ area) us → All (λ u. (u *ℤ size.d) ≤ℤ (pos 2 *ℤ size.n)) (map pos us)
under_size {area} us size some e all =
    All-map (λ u. (u *ℤ size.d) ≤ℤ (pos 2 *ℤ size.n)) pos us (All-weaker (λ u. pos u ≤ℤ area) (λ u. (pos u *ℤ size.d) ≤ℤ (pos 2 *ℤ size.n))
    (λ u h. subst (λ z. (pos u *ℤ size.d) ≤ℤ z) (sym (over_denominator size.n size.d area e)) (subst (λ z. z ≤ℤ (size.d *ℤ area)) (*ℤ_comm size.d (pos u)) (mul_le_left size.d (le_from_lt (positive_from_one some)) h)))
    us all)

-- numbers that are at most the area are small, and in their ranges
pub small_under : {area : ℤ} (us : List ℕ) → area ≤ℤ pos (2 ^ 43) → All (λ u. pos u ≤ℤ area) us → All (λ u. u ≤ℤ pos (2 ^ 43)) (map pos us)
small_under {area} us h all = All-map (λ u. u ≤ℤ pos (2 ^ 43)) pos us (All-weaker (λ u. pos u ≤ℤ area) (λ u. pos u ≤ℤ pos (2 ^ 43)) (λ u k. le_trans_ℤ k h) us all)

pub naturals_of : (us : List ℕ) → All (λ u. u ≤ℤ pos (2 ^ 43)) (map pos us) → All IsNatural (map pos us)
naturals_of us all = All-map IsNatural pos us (All-weaker (λ u. pos u ≤ℤ pos (2 ^ 43)) (λ u. IsNatural (pos u)) (λ u h. record { low = least u; high = far u h }) us (All-unmap (λ u. u ≤ℤ pos (2 ^ 43)) pos us all))
  where
    least : (u : ℕ) → pos 0 ≤ℤ pos u
    least u = omega (arith, ints)

    far : (u : ℕ) → pos u ≤ℤ pos (2 ^ 43) → pos u ≤ℤ pos (2 ^ 126)
    far u h = omega (arith, ints)
