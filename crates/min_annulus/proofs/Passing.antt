-- An annulus around a form's centre passes, with pairs that show its size.
use Rattle.std.proofs.Common.{◌≡◌, refl, sym, ◌∙◌, subst, ℕ, ◌<◌, ◌≤◌, ◌^◌, ℤ, pos, ◌+ℤ◌, ◌-ℤ◌, ◌*ℤ◌, neg_ℤ, ◌≤ℤ◌, ◌<ℤ◌, nat_abs, List, [], ◌∷◌, length, arith}
use Rattle.std.specs.Prelude.{All}
use Rattle.std.proofs.lemmas.Int.{ints}
use Rattle.std.proofs.lemmas.List.{get_or_default}
use Rattle.std.proofs.lemmas.List.Elements.{Contains-get_or}
use Rattle.integers.specs.Extremes.{greatest, least}
use Rattle.integers.proofs.Extremes.{greatest_is, least_is}
use Rattle.integers.proofs.Identities.{den-ring, read, polys, lits}
use Rattle.integers.proofs.Order.{mul_le_left, le_of_mul_le, same_of_mul, positive_mul, combine2, combine3, le_from_lt, positive_from_one, nonneg_from_one}
use Rattle.bounds_model.specs.Numbers.{IsWithin}
use Rattle.bounds_model.specs.Plane.{PlanePoint, PlaneRatio, point_at, origin, squared_length}
use Rattle.bounds_model.specs.Space.{SamePlace, flat_ratio}
use Rattle.bounds_model.specs.Fractions.{Fraction, SameValue}
use Rattle.bounds_model.specs.Ranges.{IsFraction, IsPlaneRatio, number_limit, point_limit}
use Rattle.bounds_model.specs.AnnulusAnswer.{WeightedPair, AnnulusAnswer, PassesAnnulus, IsPairInRange, power, squared_radius_at, pair_sum, weighted_differences}
use Rattle.min_annulus.specs.declared.linear_forms.LinearForm.{LinearForm}
use Rattle.pair_weights.specs.declared.extremes.Extremes.{Extremes}
use Rattle.min_annulus.specs.LinearForms.{IsLinearForm, level, centre_of, squared_radius_of}
use Rattle.pair_weights.specs.Extremes.{AreExtremes}
use Rattle.min_annulus.specs.Witnesses.{ShowSize}
use Rattle.min_annulus.proofs.LowestCentres.{denominator_le, numerators_le}

-- ---- the answer's powers and the form's levels

-- W times a power is w times the level, by plain numbers: x/w and X/2W are one number, as are y/w and Y/2W
plain_power : (W X Y w x y px py : ℤ) → x *ℤ (pos 2 *ℤ W) ≡ X *ℤ w → y *ℤ (pos 2 *ℤ W) ≡ Y *ℤ w
    → W *ℤ (w *ℤ (px *ℤ px +ℤ py *ℤ py) -ℤ pos 2 *ℤ (x *ℤ px +ℤ y *ℤ py)) ≡ w *ℤ (W *ℤ (px *ℤ px +ℤ py *ℤ py) -ℤ (X *ℤ px +ℤ Y *ℤ py))
plain_power W X Y w x y px py ex ey =
    combine2 (neg_ℤ px) (neg_ℤ py) ex ey (read (W ∷ X ∷ Y ∷ w ∷ x ∷ y ∷ px ∷ py ∷ []) (λ xs a b c d e f g h. simp (a, b, c, d, e, f, g, h, polys, lits xs) (den-ring xs _ _ tt)))

-- the two name one centre
abbrev Same : LinearForm → PlaneRatio → Type 0
Same f c = SamePlace (flat_ratio c) (flat_ratio (centre_of f))

power_is : (f : LinearForm) (c : PlaneRatio) (p : PlanePoint) → Same f c → f.w *ℤ power c p ≡ c.w *ℤ level f p
power_is f c p same = plain_power f.w f.x f.y c.w c.x c.y p.x p.y same.in_x same.in_y

-- so both have one order
powers_order : (f : LinearForm) (c : PlaneRatio) (p q : PlanePoint) → Same f c → pos 1 ≤ℤ f.w → pos 1 ≤ℤ c.w → level f p ≤ℤ level f q → power c p ≤ℤ power c q
powers_order f c p q same some other h =
    le_of_mul_le f.w (positive_from_one some)
    (subst (λ z. z ≤ℤ (f.w *ℤ power c q)) (sym (power_is f c p same))
    (subst (λ z. (c.w *ℤ level f p) ≤ℤ z) (sym (power_is f c q same)) (mul_le_left c.w (le_from_lt (positive_from_one other)) h)))

-- ---- the extremes

-- what holds of the points by their numbers holds of all
all_by_number : (P : PlanePoint → Type 0) (points : List PlanePoint) → ((i : ℕ) → i < length points → P (point_at points i)) → All P points
all_by_number P points h = λ k d below. subst P (get_or_default points k origin d below) (h k below)

-- the greatest power is that of the far point
pub greatest_power : (points : List PlanePoint) (f : LinearForm) (c : PlaneRatio) (e : Extremes) → Same f c → pos 1 ≤ℤ f.w → pos 1 ≤ℤ c.w → AreExtremes (λ i. level f (point_at points i)) (length points) e
    → greatest (power c) points ≡ power c (point_at points e.far)
greatest_power points f c e same some other extremes =
    greatest_is (power c) points (point_at points e.far) (Contains-get_or points e.far origin extremes.far)
    (all_by_number (λ p. power c p ≤ℤ power c (point_at points e.far)) points
    (λ i below. powers_order f c (point_at points i) (point_at points e.far) same some other (subst (λ z. level f (point_at points i) ≤ℤ z) extremes.high (extremes.highest i below))))

-- the least is that of the near one
pub least_power : (points : List PlanePoint) (f : LinearForm) (c : PlaneRatio) (e : Extremes) → Same f c → pos 1 ≤ℤ f.w → pos 1 ≤ℤ c.w → AreExtremes (λ i. level f (point_at points i)) (length points) e
    → least (power c) points ≡ power c (point_at points e.near)
least_power points f c e same some other extremes =
    least_is (power c) points (point_at points e.near) (Contains-get_or points e.near origin extremes.near)
    (all_by_number (λ p. power c (point_at points e.near) ≤ℤ power c p) points
    (λ i below. powers_order f c (point_at points e.near) (point_at points i) same some other (subst (λ z. z ≤ℤ level f (point_at points i)) extremes.low (extremes.lowest i below))))

-- the least is not above the greatest
pub range_nonneg : (points : List PlanePoint) (f : LinearForm) (e : Extremes) → AreExtremes (λ i. level f (point_at points i)) (length points) e → pos 0 ≤ℤ (e.high -ℤ e.low)
range_nonneg points f e extremes = above (extremes.lowest e.far extremes.far) extremes.high
  where
    above : {h l v : ℤ} → l ≤ℤ v → h ≡ v → pos 0 ≤ℤ (h -ℤ l)
    above k is = omega (arith, ints)

-- ---- the size, by plain numbers

-- the form's range over W is the powers' range over w
plain_size : (W w n d hi lo G L : ℤ) → pos 0 <ℤ W → n *ℤ W ≡ (hi -ℤ lo) *ℤ d → W *ℤ G ≡ w *ℤ hi → W *ℤ L ≡ w *ℤ lo → n *ℤ w ≡ (G -ℤ L) *ℤ d
plain_size W w n d hi lo G L p h eg el =
    same_of_mul W p (combine3 w (neg_ℤ d) d h eg el (read (W ∷ w ∷ n ∷ d ∷ hi ∷ lo ∷ G ∷ L ∷ []) (λ xs a b c e f g i j. simp (a, b, c, e, f, g, i, j, polys) (den-ring xs _ _ tt))))

-- and the pairs' mean value; a radius likewise
plain_mean : (W n d r s v : ℤ) → pos 0 <ℤ W → n *ℤ W ≡ r *ℤ d → s *ℤ r ≡ W *ℤ v → n *ℤ s ≡ v *ℤ d
plain_mean W n d r s v p h k =
    same_of_mul W p (combine2 s d h k (read (W ∷ n ∷ d ∷ r ∷ s ∷ v ∷ []) (λ xs a b c e f g. simp (a, b, c, e, f, g, polys) (den-ring xs _ _ tt))))

-- ---- the radii, by plain numbers

plain_radius : (W X Y w x y px py : ℤ) → x *ℤ (pos 2 *ℤ W) ≡ X *ℤ w → y *ℤ (pos 2 *ℤ W) ≡ Y *ℤ w
    → (w *ℤ w) *ℤ ((pos 2 *ℤ W *ℤ px -ℤ X) *ℤ (pos 2 *ℤ W *ℤ px -ℤ X) +ℤ (pos 2 *ℤ W *ℤ py -ℤ Y) *ℤ (pos 2 *ℤ W *ℤ py -ℤ Y))
    ≡ ((pos 2 *ℤ W) *ℤ (pos 2 *ℤ W)) *ℤ (w *ℤ (w *ℤ (px *ℤ px +ℤ py *ℤ py) -ℤ pos 2 *ℤ (x *ℤ px +ℤ y *ℤ py)) +ℤ (x *ℤ x +ℤ y *ℤ y))
plain_radius W X Y w x y px py ex ey =
    combine2 (pos 4 *ℤ w *ℤ W *ℤ px -ℤ w *ℤ X -ℤ pos 2 *ℤ W *ℤ x) (pos 4 *ℤ w *ℤ W *ℤ py -ℤ w *ℤ Y -ℤ pos 2 *ℤ W *ℤ y) ex ey
    (read (W ∷ X ∷ Y ∷ w ∷ x ∷ y ∷ px ∷ py ∷ []) (λ xs a b c d e f g h. simp (a, b, c, d, e, f, g, h, polys, lits xs) (den-ring xs _ _ tt)))

-- a radius by the form is the radius at the power
radius_is : (f : LinearForm) (c : PlaneRatio) (p : PlanePoint) (r : Fraction) → Same f c → pos 1 ≤ℤ f.w → SameValue r (squared_radius_of f p) → SameValue r (squared_radius_at c (power c p))
radius_is f c p r same some value =
    plain_mean ((pos 2 *ℤ f.w) *ℤ (pos 2 *ℤ f.w)) r.n r.d _ (c.w *ℤ c.w) _ (positive_mul (twice some) (twice some)) value
    (plain_radius f.w f.x f.y c.w c.x c.y p.x p.y same.in_x same.in_y)
  where
    twice : {w : ℤ} → pos 1 ≤ℤ w → pos 0 <ℤ (pos 2 *ℤ w)
    twice h = omega (arith, ints)

-- ---- the limits

within : (n : ℕ) (z : ℤ) → nat_abs z ≤ n → IsWithin n z
within n z h = record { low = omega (arith, ints); high = omega (arith, ints) }

in_ranges : (points : List PlanePoint) (pairs : List WeightedPair) → length points ≤ 10000 → All (λ pair. (pair.first < length points) × (pair.second < length points)) pairs
    → All (λ pair. (pos 1 ≤ℤ pair.weight) × (pair.weight ≤ℤ pos (2 ^ 42))) pairs → All IsPairInRange pairs
in_ranges points pairs few numbers weights = λ k d below.
    let n = numbers k d below in
    let w = weights k d below in
    (number few n.0, number few n.1, record { low = nonneg_from_one w.0; high = light w.1 })
  where
    number : {i n : ℕ} → n ≤ 10000 → i < n → i ≤ point_limit
    number h k = omega arith

    light : {z : ℤ} → z ≤ℤ pos (2 ^ 42) → z ≤ℤ pos number_limit
    light h = omega (arith, ints)

-- ---- what passes

pub annulus_passes : (points : List PlanePoint) (f : LinearForm) (e : Extremes) (a : AnnulusAnswer) → length points ≤ 10000 → IsLinearForm f → pos 1 ≤ℤ f.w
    → AreExtremes (λ i. level f (point_at points i)) (length points) e → ShowSize points f e a.pairs
    → SameValue a.size (record { n = e.high -ℤ e.low; d = f.w }) → IsFraction a.size
    → Same f a.centre → IsPlaneRatio a.centre
    → SameValue a.inner (squared_radius_of f (point_at points e.near)) → IsFraction a.inner
    → SameValue a.outer (squared_radius_of f (point_at points e.far)) → IsFraction a.outer
    → PassesAnnulus points a
annulus_passes points f e a few form some extremes show size size_lowest same lowest inner inner_lowest outer outer_lowest = record {
  ranges = record {
    size = size_lowest;
    centre = lowest;
    inner = inner_lowest;
    outer = outer_lowest;
    count = show.count;
    pairs = in_ranges points a.pairs few show.numbers show.weights;
  };
  numbers = show.numbers;
  w_limit = w_within f.w (denominator_le a.centre (centre_of f) lowest same (twice some)) form.w.abs;
  x_limit = within (2 ^ 58) a.centre.x (less (numerators_le a.centre (centre_of f) lowest same (twice some)).0 form.x.abs);
  y_limit = within (2 ^ 58) a.centre.y (less (numerators_le a.centre (centre_of f) lowest same (twice some)).1 form.y.abs);
  weights = λ k d below. (show.weights k d below).0;
  weight_limit = show.weight_limit;
  balanced_x = show.balanced_x;
  balanced_y = show.balanced_y;
  size = subst (λ g. SameValue a.size (record { n = g -ℤ least (power a.centre) points; d = a.centre.w })) (sym high)
      (subst (λ l. SameValue a.size (record { n = power a.centre (point_at points e.far) -ℤ l; d = a.centre.w })) (sym low)
      (plain_size f.w a.centre.w a.size.n a.size.d e.high e.low _ _ (positive_from_one some) size
      (power_is f a.centre (point_at points e.far) same ∙ sym_level e.high _ extremes.high)
      (power_is f a.centre (point_at points e.near) same ∙ sym_level e.low _ extremes.low)));
  least_size = plain_mean f.w a.size.n a.size.d (e.high -ℤ e.low) (pair_sum a.pairs) (weighted_differences points squared_length a.pairs) (positive_from_one some) size show.value;
  inner = subst (λ l. SameValue a.inner (squared_radius_at a.centre l)) (sym low) (radius_is f a.centre (point_at points e.near) a.inner same some inner);
  outer = subst (λ g. SameValue a.outer (squared_radius_at a.centre g)) (sym high) (radius_is f a.centre (point_at points e.far) a.outer same some outer);
}
  where
    high : greatest (power a.centre) points ≡ power a.centre (point_at points e.far)
    high = greatest_power points f a.centre e same some lowest.denominator extremes

    low : least (power a.centre) points ≡ power a.centre (point_at points e.near)
    low = least_power points f a.centre e same some lowest.denominator extremes

    twice : {w : ℤ} → pos 1 ≤ℤ w → pos 1 ≤ℤ (pos 2 *ℤ w)
    twice h = omega (arith, ints)

    sym_level : (v l : ℤ) → v ≡ l → a.centre.w *ℤ l ≡ a.centre.w *ℤ v
    sym_level v l h = subst (λ z. a.centre.w *ℤ l ≡ a.centre.w *ℤ z) (sym h) refl

    less : {k m n : ℕ} → k ≤ m → m ≤ n → k ≤ n
    less h l = omega arith

    w_within : {w : ℤ} (v : ℤ) → nat_abs w ≤ nat_abs (pos 2 *ℤ v) → nat_abs v ≤ 2 ^ 41 → w ≤ℤ pos (2 ^ 42)
    w_within v h l = omega (arith, ints)
