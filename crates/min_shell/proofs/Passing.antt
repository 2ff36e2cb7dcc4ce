-- A shell around a form's centre passes, with pairs that show its size.
use Rattle.std.proofs.Common.{◌≡◌, refl, sym, ◌∙◌, ap₂, subst, ℕ, ◌<◌, ◌≤◌, ◌^◌, ℤ, pos, ◌+ℤ◌, ◌-ℤ◌, ◌*ℤ◌, neg_ℤ, ◌≤ℤ◌, ◌<ℤ◌, nat_abs, List, [], ◌∷◌, length, arith}
use Rattle.std.specs.Prelude.{All}
use Rattle.std.proofs.lemmas.Int.{ints}
use Rattle.std.proofs.lemmas.List.{get_or_default}
use Rattle.std.proofs.lemmas.List.Elements.{Contains-get_or}
use Rattle.integers.specs.Extremes.{greatest, least}
use Rattle.integers.specs.Size.{Size}
use Rattle.integers.proofs.Sizes.{below_size}
use Rattle.integers.proofs.Extremes.{greatest_is, least_is}
use Rattle.integers.proofs.Identities.{den-ring, read, polys, lits}
use Rattle.integers.proofs.Order.{mul_le_left, le_of_mul_le, same_of_mul, combine2, combine3, le_from_lt, positive_from_one, nonneg_from_one}
use Rattle.bounds_model.specs.Numbers.{IsWithin}
use Rattle.bounds_model.specs.Space.{SpacePoint, SpaceRatio, SamePlace, point_at, origin, squared_length}
use Rattle.bounds_model.specs.Fractions.{SameValue}
use Rattle.bounds_model.specs.Ranges.{IsFraction, IsSpaceRatio, IsNumber, number_limit, point_limit}
use Rattle.bounds_model.specs.AnnulusAnswer.{WeightedPair, IsPairInRange, pair_sum}
use Rattle.bounds_model.specs.ShellAnswer.{ShellAnswer, PassesShell, power, weighted_differences}
use Rattle.min_shell.specs.declared.linear_forms.LinearForm.{LinearForm}
use Rattle.pair_weights.specs.declared.extremes.Extremes.{Extremes}
use Rattle.min_shell.specs.LinearForms.{IsLinearForm, level, centre_of}
use Rattle.pair_weights.specs.Extremes.{AreExtremes}
use Rattle.min_shell.specs.Witnesses.{ShowSize}
use Rattle.min_shell.proofs.LowestCentres.{denominator_le, numerators_le}

-- ---- the answer's powers and the form's levels

-- W times a power is w times the level, by plain numbers: x/w and X/2W are one number, and so are the other coordinates
plain_power : (W X Y Z w x y z px py pz : ℤ) → x *ℤ (pos 2 *ℤ W) ≡ X *ℤ w → y *ℤ (pos 2 *ℤ W) ≡ Y *ℤ w → z *ℤ (pos 2 *ℤ W) ≡ Z *ℤ w
    → W *ℤ (w *ℤ (px *ℤ px +ℤ py *ℤ py +ℤ pz *ℤ pz) -ℤ pos 2 *ℤ (x *ℤ px +ℤ y *ℤ py +ℤ z *ℤ pz)) ≡ w *ℤ (W *ℤ (px *ℤ px +ℤ py *ℤ py +ℤ pz *ℤ pz) -ℤ (X *ℤ px +ℤ Y *ℤ py +ℤ Z *ℤ pz))
plain_power W X Y Z w x y z px py pz ex ey ez =
    combine3 (neg_ℤ px) (neg_ℤ py) (neg_ℤ pz) ex ey ez (read (W ∷ X ∷ Y ∷ Z ∷ w ∷ x ∷ y ∷ z ∷ px ∷ py ∷ pz ∷ []) (λ xs a b c d e f g h i j k. simp (a, b, c, d, e, f, g, h, i, j, k, polys, lits xs) (den-ring xs _ _ tt)))

-- the two name one centre
abbrev Same : LinearForm → SpaceRatio → Type 0
Same f c = SamePlace c (centre_of f)

power_is : (f : LinearForm) (c : SpaceRatio) (p : SpacePoint) → Same f c → f.w *ℤ power c p ≡ c.w *ℤ level f p
power_is f c p same = plain_power f.w f.x f.y f.z c.w c.x c.y c.z p.x p.y p.z same.in_x same.in_y same.in_z

-- so both have one order
powers_order : (f : LinearForm) (c : SpaceRatio) (p q : SpacePoint) → Same f c → pos 1 ≤ℤ f.w → pos 1 ≤ℤ c.w → level f p ≤ℤ level f q → power c p ≤ℤ power c q
powers_order f c p q same some other h =
    le_of_mul_le f.w (positive_from_one some)
    (subst (λ z. z ≤ℤ (f.w *ℤ power c q)) (sym (power_is f c p same))
    (subst (λ z. (c.w *ℤ level f p) ≤ℤ z) (sym (power_is f c q same)) (mul_le_left c.w (le_from_lt (positive_from_one other)) h)))

-- ---- the extremes

-- what holds of the points by their numbers holds of all
all_by_number : (P : SpacePoint → Type 0) (points : List SpacePoint) → ((i : ℕ) → i < length points → P (point_at points i)) → All P points
all_by_number P points h = λ k d below. subst P (get_or_default points k origin d below) (h k below)

-- the greatest power is that of the far point
pub greatest_power : (points : List SpacePoint) (f : LinearForm) (c : SpaceRatio) (e : Extremes) → Same f c → pos 1 ≤ℤ f.w → pos 1 ≤ℤ c.w → AreExtremes (λ i. level f (point_at points i)) (length points) e
    → greatest (power c) points ≡ power c (point_at points e.far)
greatest_power points f c e same some other extremes =
    greatest_is (power c) points (point_at points e.far) (Contains-get_or points e.far origin extremes.far)
    (all_by_number (λ p. power c p ≤ℤ power c (point_at points e.far)) points
    (λ i below. powers_order f c (point_at points i) (point_at points e.far) same some other (subst (λ z. level f (point_at points i) ≤ℤ z) extremes.high (extremes.highest i below))))

-- the least is that of the near one
pub least_power : (points : List SpacePoint) (f : LinearForm) (c : SpaceRatio) (e : Extremes) → Same f c → pos 1 ≤ℤ f.w → pos 1 ≤ℤ c.w → AreExtremes (λ i. level f (point_at points i)) (length points) e
    → least (power c) points ≡ power c (point_at points e.near)
least_power points f c e same some other extremes =
    least_is (power c) points (point_at points e.near) (Contains-get_or points e.near origin extremes.near)
    (all_by_number (λ p. power c (point_at points e.near) ≤ℤ power c p) points
    (λ i below. powers_order f c (point_at points e.near) (point_at points i) same some other (subst (λ z. z ≤ℤ level f (point_at points i)) extremes.low (extremes.lowest i below))))

-- the least is not above the greatest
pub range_nonneg : (points : List SpacePoint) (f : LinearForm) (e : Extremes) → AreExtremes (λ i. level f (point_at points i)) (length points) e → pos 0 ≤ℤ (e.high -ℤ e.low)
range_nonneg points f e extremes = above (extremes.lowest e.far extremes.far) extremes.high
  where
    above : {h l v : ℤ} → l ≤ℤ v → h ≡ v → pos 0 ≤ℤ (h -ℤ l)
    above k is = omega (arith, ints)

-- ---- the size, by plain numbers

-- the form's range over W is the powers' range over w
plain_size : (W w n d hi lo G L : ℤ) → pos 0 <ℤ W → n *ℤ W ≡ (hi -ℤ lo) *ℤ d → W *ℤ G ≡ w *ℤ hi → W *ℤ L ≡ w *ℤ lo → n *ℤ w ≡ (G -ℤ L) *ℤ d
plain_size W w n d hi lo G L p h eg el =
    same_of_mul W p (combine3 w (neg_ℤ d) d h eg el (read (W ∷ w ∷ n ∷ d ∷ hi ∷ lo ∷ G ∷ L ∷ []) (λ xs a b c e f g i j. simp (a, b, c, e, f, g, i, j, polys) (den-ring xs _ _ tt))))

-- and the pairs' mean value
plain_mean : (W n d r s v : ℤ) → pos 0 <ℤ W → n *ℤ W ≡ r *ℤ d → s *ℤ r ≡ W *ℤ v → n *ℤ s ≡ v *ℤ d
plain_mean W n d r s v p h k =
    same_of_mul W p (combine2 s d h k (read (W ∷ n ∷ d ∷ r ∷ s ∷ v ∷ []) (λ xs a b c e f g. simp (a, b, c, e, f, g, polys) (den-ring xs _ _ tt))))

-- ---- the limits

within : (n : ℕ) (z : ℤ) → nat_abs z ≤ n → IsWithin n z
within n z h = record { low = omega (arith, ints); high = omega (arith, ints) }

-- how large a form's centre is
pub centre_sizes : (f : LinearForm) (c : SpaceRatio) → IsLinearForm f → pos 1 ≤ℤ f.w → Same f c → IsSpaceRatio c → Size (2 ^ 66) c.x × Size (2 ^ 66) c.y × Size (2 ^ 66) c.z × Size (2 ^ 50) c.w
centre_sizes f c form some same lowest =
    let numerators = numerators_le c (centre_of f) lowest same (twice some) in
    (less f.x numerators.0 form.x.abs, less f.y numerators.1 form.y.abs, less f.z numerators.2 form.z.abs, double c.w f.w (denominator_le c (centre_of f) lowest same (twice some)) form.w.abs)
  where
    twice : {w : ℤ} → pos 1 ≤ℤ w → pos 1 ≤ℤ (pos 2 *ℤ w)
    twice h = omega (arith, ints)

    less : {x : ℤ} (y : ℤ) → nat_abs x ≤ nat_abs y → nat_abs y ≤ 2 ^ 62 → Size (2 ^ 66) x
    less y h k = record { abs = omega arith }

    double : (w v : ℤ) → nat_abs w ≤ nat_abs (pos 2 *ℤ v) → nat_abs v ≤ 2 ^ 48 → Size (2 ^ 50) w
    double w v h k = record { abs = omega (arith, ints) }

in_ranges : (points : List SpacePoint) (pairs : List WeightedPair) → length points ≤ 10000 → All (λ pair. (pair.first < length points) × (pair.second < length points)) pairs
    → All (λ pair. (pos 1 ≤ℤ pair.weight) × (pair.weight ≤ℤ pos (2 ^ 50))) pairs → All IsPairInRange pairs
in_ranges points pairs few numbers weights = λ k d below.
    let n = numbers k d below in
    let w = weights k d below in
    (number few n.0, number few n.1, record { low = nonneg_from_one w.0; high = light w.1 })
  where
    number : {i n : ℕ} → n ≤ 10000 → i < n → i ≤ point_limit
    number h k = omega arith

    light : {z : ℤ} → z ≤ℤ pos (2 ^ 50) → z ≤ℤ pos number_limit
    light h = omega (arith, ints)

is_number : {z : ℤ} → Size (2 ^ 90) z → IsNumber z
is_number {z} h = within number_limit z (more h.abs)
  where
    more : {n : ℕ} → n ≤ 2 ^ 90 → n ≤ number_limit
    more h = omega arith

-- ---- what passes

pub shell_passes : (points : List SpacePoint) (f : LinearForm) (e : Extremes) (a : ShellAnswer) → length points ≤ 10000 → IsLinearForm f → pos 1 ≤ℤ f.w
    → AreExtremes (λ i. level f (point_at points i)) (length points) e → ShowSize points f e a.pairs
    → SameValue a.size (record { n = e.high -ℤ e.low; d = f.w }) → IsFraction a.size
    → Same f a.centre → IsSpaceRatio a.centre
    → a.low ≡ power a.centre (point_at points e.near) → Size (2 ^ 90) a.low
    → a.high ≡ power a.centre (point_at points e.far) → Size (2 ^ 90) a.high
    → PassesShell points a
shell_passes points f e a few form some extremes show size size_lowest same lowest low low_size high high_size = record {
  ranges = record {
    size = size_lowest;
    centre = lowest;
    low = is_number low_size;
    high = is_number high_size;
    count = show.count;
    pairs = in_ranges points a.pairs few show.numbers show.weights;
  };
  numbers = show.numbers;
  w_limit = below sizes.3;
  x_limit = within (2 ^ 66) a.centre.x sizes.0.abs;
  y_limit = within (2 ^ 66) a.centre.y sizes.1.abs;
  z_limit = within (2 ^ 66) a.centre.z sizes.2.abs;
  weights = λ k d below. (show.weights k d below).0;
  weight_limit = show.weight_limit;
  balanced_x = show.balanced_x;
  balanced_y = show.balanced_y;
  balanced_z = show.balanced_z;
  low = low ∙ sym (least_power points f a.centre e same some lowest.denominator extremes);
  high = high ∙ sym (greatest_power points f a.centre e same some lowest.denominator extremes);
  size = subst (λ r. SameValue a.size (record { n = r; d = a.centre.w })) (sym (ap₂ (λ g l. g -ℤ l) high low))
      (plain_size f.w a.centre.w a.size.n a.size.d e.high e.low _ _ (positive_from_one some) size
      (power_is f a.centre (point_at points e.far) same ∙ sym_level e.high _ extremes.high)
      (power_is f a.centre (point_at points e.near) same ∙ sym_level e.low _ extremes.low));
  least_size = plain_mean f.w a.size.n a.size.d (e.high -ℤ e.low) (pair_sum a.pairs) (weighted_differences points squared_length a.pairs) (positive_from_one some) size show.value;
}
  where
    sizes : Size (2 ^ 66) a.centre.x × Size (2 ^ 66) a.centre.y × Size (2 ^ 66) a.centre.z × Size (2 ^ 50) a.centre.w
    sizes = centre_sizes f a.centre form some same lowest

    below : {w : ℤ} → Size (2 ^ 50) w → w ≤ℤ pos (2 ^ 50)
    below h = below_size h

    sym_level : (v l : ℤ) → v ≡ l → a.centre.w *ℤ l ≡ a.centre.w *ℤ v
    sym_level v l h = subst (λ z. a.centre.w *ℤ l ≡ a.centre.w *ℤ z) (sym h) refl
