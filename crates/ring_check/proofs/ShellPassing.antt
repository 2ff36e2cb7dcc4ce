-- What a shell that passes is, by its levels and by its pairs.
use Rattle.std.proofs.Common.{◌≡◌, refl, sym, subst, ap, ap₂, ◌∙◌, ◌≤◌, ◌^◌, ℤ, pos, neg_ℤ, nat_abs, ◌-ℤ◌, ◌≤ℤ◌, List, [], ◌∷◌, length, map, arith}
use Rattle.std.proofs.lemmas.Int.{ints}
use Rattle.std.proofs.lemmas.List.{length-map}
use Rattle.integers.specs.Size.{Size}
use Rattle.bounds_model.specs.Space.{SpacePoint, SpaceRatio}
use Rattle.bounds_model.specs.Fractions.{Fraction, SameValue}
use Rattle.bounds_model.specs.Ranges.{IsSpaceRatio, IsNumber}
use Rattle.bounds_model.specs.ShellAnswer.{ShellAnswer, PassesShell}
use Rattle.answers.specs.declared.pairs.WeightedPair.{WeightedPair}
use Rattle.answers.specs.Answers.{pair_of}
use Rattle.ring_check.specs.declared.levels.Levels.{Levels}
use Rattle.ring_check.specs.Rings.{IsWithinLimits, IsCentre, AreLevels, ShowSize, HasValue}
use Rattle.ring_check.proofs.RingPairs.{pairs_in_range}
use Rattle.ring_check.proofs.RingLevels.{wide_level}

-- points of space at their places
pub same_places : (points : List SpacePoint) → map (λ p. p) points ≡ points
same_places [] = refl
same_places (p ∷ points) = ap (λ ps. p ∷ ps) (same_places points)

-- the answer by its parts
abbrev shell_by : Fraction → ℤ → ℤ → SpaceRatio → List WeightedPair → ShellAnswer
shell_by size low high centre pairs = record { size = size; centre = centre; low = low; high = high; pairs = map pair_of pairs }

-- ---- what passes

pub shell_passes : (points : List SpacePoint) (size : Fraction) (low high : ℤ) (c : SpaceRatio) (pairs : List WeightedPair) (h : Levels) → length points ≤ 10000 → length pairs ≤ 4 → IsSpaceRatio c → IsWithinLimits (2 ^ 50) (2 ^ 66) c → IsCentre (2 ^ 50) c
    → ShowSize (2 ^ 50) points size (map pair_of pairs) → AreLevels c points h → low ≡ h.least → high ≡ h.greatest → HasValue size (record { n = h.greatest -ℤ h.least; d = c.w }) → PassesShell points (shell_by size low high c pairs)
shell_passes points size low high c pairs h few four range within centre shown levels low_is high_is value = record {
  ranges = record {
    size = value.0;
    centre = range;
    low = is_number low (subst (Size (2 ^ 90)) (sym low_is) (wide_level centre levels.least_size));
    high = is_number high (subst (Size (2 ^ 90)) (sym high_is) (wide_level centre levels.greatest_size));
    count = record { at_least = shown.limits.some; at_most = subst (λ n. n ≤ 4) (sym (length-map pairs pair_of)) four };
    pairs = pairs_in_range (2 ^ 50) (length points) pairs (omega arith) few shown.limits;
  };
  numbers = shown.limits.numbers;
  w_limit = within.w.high;
  x_limit = within.x;
  y_limit = within.y;
  z_limit = within.z;
  weights = shown.limits.weights;
  weight_limit = shown.limits.weight_limit;
  balanced_x = shown.balanced_x;
  balanced_y = shown.balanced_y;
  balanced_z = shown.balanced_z;
  low = low_is ∙ levels.least;
  high = high_is ∙ levels.greatest;
  size = subst (λ z. SameValue size (record { n = z; d = c.w })) (ap₂ (λ g l. g -ℤ l) (sym high_is) (sym low_is)) value.1;
  least_size = shown.mean.1;
}
  where
    is_number : (z : ℤ) → Size (2 ^ 90) z → IsNumber z
    is_number z h = number z h.abs
      where
        number : (z : ℤ) → nat_abs z ≤ 2 ^ 90 → IsNumber z
        number z h = record { low = omega (arith, ints); high = omega (arith, ints) }

-- ---- and what follows

pub within_limits : (points : List SpacePoint) (a : ShellAnswer) (ratio : SpaceRatio) → ratio ≡ a.centre → PassesShell points a → IsWithinLimits (2 ^ 50) (2 ^ 66) ratio
within_limits points a ratio is p = subst (IsWithinLimits (2 ^ 50) (2 ^ 66)) (sym is) (record { w = record { low = low p.ranges.centre.denominator; high = p.w_limit }; x = p.x_limit; y = p.y_limit; z = p.z_limit })
  where
    low : {w : ℤ} → pos 1 ≤ℤ w → neg_ℤ (pos (2 ^ 50)) ≤ℤ w
    low h = omega (arith, ints)

pub shown_by_pairs : (points : List SpacePoint) (a : ShellAnswer) (pairs : List WeightedPair) → a.pairs ≡ map pair_of pairs → PassesShell points a → ShowSize (2 ^ 50) (map (λ p. p) points) a.size (map pair_of pairs)
shown_by_pairs points a pairs is p =
    subst (λ ps. ShowSize (2 ^ 50) ps a.size (map pair_of pairs)) (sym (same_places points)) (subst (ShowSize (2 ^ 50) points a.size) is (record {
      limits = record { some = p.ranges.count.at_least; numbers = p.numbers; weights = p.weights; weight_limit = p.weight_limit };
      balanced_x = p.balanced_x;
      balanced_y = p.balanced_y;
      balanced_z = p.balanced_z;
      mean = (p.ranges.size, p.least_size);
    }))

-- the levels around the answer's centre
pub levels_around : (points : List SpacePoint) (c ratio : SpaceRatio) (h : Levels) → ratio ≡ c → AreLevels ratio (map (λ p. p) points) h → AreLevels c points h
levels_around points c ratio h is levels = subst (λ r. AreLevels r points h) is (subst (λ ps. AreLevels ratio ps h) (same_places points) levels)

pub low_level : (points : List SpacePoint) (a : ShellAnswer) (h : Levels) → AreLevels a.centre points h → PassesShell points a → a.low ≡ h.least
low_level points a h levels p = p.low ∙ sym levels.least

pub high_level : (points : List SpacePoint) (a : ShellAnswer) (h : Levels) → AreLevels a.centre points h → PassesShell points a → a.high ≡ h.greatest
high_level points a h levels p = p.high ∙ sym levels.greatest

pub size_value : (points : List SpacePoint) (a : ShellAnswer) (h : Levels) → AreLevels a.centre points h → PassesShell points a → HasValue a.size (record { n = h.greatest -ℤ h.least; d = a.centre.w })
size_value points a h levels p =
    (p.ranges.size, subst (λ z. SameValue a.size (record { n = z; d = a.centre.w })) (ap₂ (λ g l. g -ℤ l) (high_level points a h levels p) (low_level points a h levels p)) p.size)
