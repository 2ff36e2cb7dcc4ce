-- The size of an answer that passes has a denominator of at most 2^93: what shows it has one that small, and lowest terms have the least.
use Prim.Native.Nat.{◌∣◌}
use Rattle.std.proofs.Common.{◌≡◌, sym, ◌∙◌, ap, subst, ℕ, ◌*◌, ◌^◌, ◌<◌, ◌≤◌, ℤ, pos, ◌*ℤ◌, ◌≤ℤ◌, ◌<ℤ◌, nat_abs, [], ◌∷◌, arith, inl, inr}
use Rattle.std.specs.Prelude.{◌⊎◌}
use Rattle.std.specs.Int.{IsGcd}
use Rattle.std.proofs.lemmas.Int.{ints, unsigned_abs-mul}
use Rattle.std.proofs.lemmas.List.Elements.{All-nil, All-cons}
use Rattle.std.proofs.lemmas.Nat.Gcd.{IsGcd-swap, le_of_dvd}
use Rattle.std.proofs.Math.Nat.{dvd-mul_left}
use Rattle.integers.specs.Size.{Size}
use Rattle.integers.proofs.Sizes.{size_add, size_sub, size_mul, size_between, below_size}
use Rattle.integers.proofs.Divisors.{dvd_of_dvd-mul, IsGcd-one}
use Rattle.integers.proofs.Order.{positive_from_one, positive_mul, nonneg_from_one, le_from_lt, le_trans_ℤ}
use Rattle.integers.proofs.Sums.{total_positive}
use Rattle.bounds_model.specs.Numbers.{IsWithin}
use Rattle.bounds_model.specs.Plane.{squared_length, cross}
use Rattle.bounds_model.specs.Fractions.{Fraction, SameValue, IsLowest}
use Rattle.bounds_model.specs.Fans.{IsShort}
use Rattle.bounds_model.specs.BallAnswer.{Weighted, weight_sum}
use Rattle.bounds_model.specs.AnnulusAnswer.{WeightedPair, pair_sum}
use Rattle.bounds_model.specs.RectangleAnswer.{rectangle_of}
use Rattle.bounds_model.specs.StripAnswer.{strip_of}
use Rattle.bounds_model.specs.ParallelogramAnswer.{parallelogram_of}
use Rattle.bounds_model.specs.Answers.{Claim, circle_claim, sphere_claim, rectangle_claim, parallelogram_claim, strip_claim, annulus_claim, empty_claim, kgon_claim, distance_claim, centres_claim, furthest_claim, four_claim, shell_claim, ClaimFits, ClaimPasses}
use Rattle.model_laws.proofs.SizeDenominators.{strip_denominator, rectangle_denominator, parallelogram_denominator}
use Rattle.scaled_laws.proofs.ClaimSizes.{claim_size}

-- ---- lowest terms have the least denominator

-- over numbers without a sign
divides_denominator : (n d m e : ℕ) → IsGcd n d 1 → n * e ≡ m * d → 0 < e → d ≤ e
divides_denominator n d m e g same some = le_of_dvd some (dvd_of_dvd-mul d n e (IsGcd-swap n d 1 g) (subst (λ v. d ∣ v) (sym same) (dvd-mul_left d m)))

-- the fraction in lowest terms has no greater denominator than another one of its value
smaller_denominator : (a b : Fraction) → IsLowest a → SameValue a b → pos 0 <ℤ b.d → a.d ≤ℤ b.d
smaller_denominator a b low same some =
    from_magnitudes a.d b.d (nonneg_from_one low.not_negative.denominator) (le_from_lt some)
    (divides_denominator (nat_abs a.n) (nat_abs a.d) (nat_abs b.n) (nat_abs b.d) only (sym (unsigned_abs-mul a.n b.d) ∙ ap nat_abs same ∙ unsigned_abs-mul b.n a.d) (magnitude_some b.d some))
  where
    only : IsGcd (nat_abs a.n) (nat_abs a.d) 1
    only = IsGcd-one (nat_abs a.n) (nat_abs a.d) (λ k l m. low.lowest k (All-cons (λ e. k ∣ nat_abs e) a.n (a.d ∷ []) l (All-cons (λ e. k ∣ nat_abs e) a.d [] m (All-nil (λ e. k ∣ nat_abs e)))))

    from_magnitudes : (x y : ℤ) → pos 0 ≤ℤ x → pos 0 ≤ℤ y → nat_abs x ≤ nat_abs y → x ≤ℤ y
    from_magnitudes x y p q h = omega (arith, ints)

    magnitude_some : (x : ℤ) → pos 0 <ℤ x → 0 < nat_abs x
    magnitude_some x h = omega (arith, ints)

-- ---- the denominators of what shows a size

size_of_within : {z : ℤ} {n : ℕ} → IsWithin n z → Size n z
size_of_within h = size_between h.low h.high

-- the squared length of a short direction
short_square : (u : _) → IsShort u → squared_length u ≤ℤ pos 320000000000
short_square u h = below_size (size_add (size_mul (size_of_within h.x) (size_of_within h.x)) (size_mul (size_of_within h.y) (size_of_within h.y)))

-- the product of two short directions
short_cross : (u v : _) → IsShort u → IsShort v → pos (nat_abs (cross u v)) ≤ℤ pos 320000000000
short_cross u v h k = magnitude (cross u v) (size_sub (size_mul (size_of_within h.x) (size_of_within k.y)) (size_mul (size_of_within h.y) (size_of_within k.x)))
  where
    magnitude : (z : ℤ) → Size 320000000000 z → pos (nat_abs z) ≤ℤ pos 320000000000
    magnitude z h = omega (arith, ints, h.abs)

-- a denominator of 1 before a number
one_before : (z : ℤ) → pos 1 *ℤ pos 1 *ℤ z ≡ z
one_before z = omega (arith, ints)

-- ---- by the kind

two : pos 0 <ℤ pos 2
two = omega (arith, ints)

-- a denominator of 1 or 2
half : (d : ℤ) → (d ≡ pos 1) ⊎ (d ≡ pos 2) → d ≤ℤ pos 2
half d (inl e) = omega (arith, ints)
half d (inr e) = omega (arith, ints)

-- far above each of these denominators
abbrev pub denominator_limit : ℕ
denominator_limit = 2 ^ 93

wide : (n : ℕ) {z : ℤ} → z ≤ℤ pos n → n ≤ denominator_limit → z ≤ℤ pos denominator_limit
wide n h l = le_trans_ℤ h (raised n denominator_limit l)
  where
    raised : (m n : ℕ) → m ≤ n → pos m ≤ℤ pos n
    raised m n l = omega (arith, ints)

-- the denominator of twice a weight
twice_weight : (limit : ℕ) (w : ℤ) → w ≤ℤ pos limit → (pos 2 *ℤ w) ≤ℤ pos (2 * limit)
twice_weight limit w h = omega (arith, ints)

-- the size of a claim that passes and fits has such a denominator
pub size_is_short : (c : Claim) → ClaimFits c → ClaimPasses c → (claim_size c).d ≤ℤ pos denominator_limit
size_is_short (circle_claim points a) f h =
    wide (2 * 2 ^ 80) (le_trans_ℤ (smaller_denominator a.size _ f.1.lowest h.witness.size (positive_mul two weight)) (twice_weight (2 ^ 80) (weight_sum a.supports) h.witness.weight_limit)) (omega arith)
  where
    weight : pos 0 <ℤ weight_sum a.supports
    weight = total_positive (λ (s : Weighted). s.weight) a.supports h.ranges.count.at_least (λ i d l. positive_from_one (h.witness.weights i d l))
size_is_short (sphere_claim points a) f h =
    wide (2 * 2 ^ 92) (le_trans_ℤ (smaller_denominator a.size _ f.1.lowest h.witness.size (positive_mul two weight)) (twice_weight (2 ^ 92) (weight_sum a.supports) h.witness.weight_limit)) (omega arith)
  where
    weight : pos 0 <ℤ weight_sum a.supports
    weight = total_positive (λ (s : Weighted). s.weight) a.supports h.ranges.count.at_least (λ i d l. positive_from_one (h.witness.weights i d l))
size_is_short (rectangle_claim points a) f h =
    wide 320000000000 (le_trans_ℤ (smaller_denominator a.size _ f.1.lowest f.1.same (rectangle_denominator points (rectangle_of a) f.0)) (subst (λ z. z ≤ℤ pos 320000000000) (sym (one_before (squared_length a.direction))) (short_square a.direction h.short_direction))) (omega arith)
size_is_short (parallelogram_claim points a) f h =
    wide 320000000000 (le_trans_ℤ (smaller_denominator a.size _ f.1.lowest f.1.same (parallelogram_denominator points (parallelogram_of a) f.0)) (subst (λ z. z ≤ℤ pos 320000000000) (sym (one_before (pos (nat_abs (cross a.first a.second))))) (short_cross a.first a.second h.short_first h.short_second))) (omega arith)
size_is_short (strip_claim points a) f h =
    wide 320000000000 (le_trans_ℤ (smaller_denominator a.size _ f.1.lowest f.1.same (strip_denominator points (strip_of a) f.0)) (subst (λ z. z ≤ℤ pos 320000000000) (sym (one_before (squared_length a.direction))) (short_square a.direction h.short_direction))) (omega arith)
size_is_short (annulus_claim points a) f h = wide (2 ^ 42) (le_trans_ℤ (smaller_denominator a.size _ f.1.lowest h.least_size weight) h.weight_limit) (omega arith)
  where
    weight : pos 0 <ℤ pair_sum a.pairs
    weight = total_positive (λ (pair : WeightedPair). pair.weight) a.pairs h.ranges.count.at_least (λ i d l. positive_from_one (h.weights i d l))
size_is_short (empty_claim frame points a) f h = wide 1 (smaller_denominator a.size _ f.1.lowest f.1.same (omega (arith, ints))) (omega arith)
size_is_short (kgon_claim k points a) f h = wide 2 (smaller_denominator a.size _ f.3.lowest f.3.same (omega (arith, ints))) (omega arith)
size_is_short (distance_claim ps qs a) f h = wide (2 ^ 66) (le_trans_ℤ (smaller_denominator a.size _ f.1.lowest h.size weight) h.weight_limit) (omega arith)
  where
    weight : pos 0 <ℤ pair_sum a.pairs
    weight = total_positive (λ (pair : WeightedPair). pair.weight) a.pairs h.ranges.count.at_least (λ i d l. positive_from_one (h.weights i d l))
size_is_short (centres_claim count points a) f h = wide 2 (half a.size.d h.halves) (omega arith)
size_is_short (furthest_claim points a) f h = wide 1 (smaller_denominator a.size _ f.2.lowest f.2.same (omega (arith, ints))) (omega arith)
size_is_short (four_claim points a) f h = wide 2 (half a.size.d h.halves) (omega arith)
size_is_short (shell_claim points a) f h = wide (2 ^ 50) (le_trans_ℤ (smaller_denominator a.size _ f.1.lowest h.least_size weight) h.weight_limit) (omega arith)
  where
    weight : pos 0 <ℤ pair_sum a.pairs
    weight = total_positive (λ (pair : WeightedPair). pair.weight) a.pairs h.ranges.count.at_least (λ i d l. positive_from_one (h.weights i d l))
