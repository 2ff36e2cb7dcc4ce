-- What an annulus that passes is, by its levels and by its pairs, seen at height 0.
use Rattle.std.proofs.Common.{◌≡◌, refl, sym, subst, ap, ap₂, ◌∙◌, ◌≤◌, ◌^◌, ℤ, pos, neg_ℤ, ◌+ℤ◌, ◌-ℤ◌, ◌*ℤ◌, ◌≤ℤ◌, List, [], ◌∷◌, length, map, arith}
use Rattle.std.proofs.lemmas.Int.{ints}
use Rattle.std.proofs.lemmas.List.{length-map}
use Rattle.integers.specs.Extremes.{greatest, least}
use Rattle.bounds_model.specs.Numbers.{IsWithin}
use Rattle.bounds_model.specs.Plane as plane
use Rattle.bounds_model.specs.Plane.{PlanePoint, PlaneRatio}
use Rattle.bounds_model.specs.Space.{SpaceRatio, squared_length, flat, flat_ratio}
use Rattle.bounds_model.specs.Fractions.{Fraction, SameValue}
use Rattle.bounds_model.specs.Ranges.{IsPlaneRatio}
use Rattle.bounds_model.specs.AnnulusAnswer as annuli
use Rattle.bounds_model.specs.AnnulusAnswer.{AnnulusAnswer, PassesAnnulus, pair_sum}
use Rattle.bounds_model.specs.ShellAnswer as shells
use Rattle.answers.specs.declared.pairs.WeightedPair.{WeightedPair}
use Rattle.answers.specs.Answers.{pair_of}
use Rattle.ring_check.specs.declared.levels.Levels.{Levels}
use Rattle.ring_check.specs.Rings.{IsWithinLimits, AreLevels, HavePairLimits, ShowSize, HasValue}
use Rattle.ring_check.proofs.RingPairs.{pairs_in_range}
use Rattle.ring_check.proofs.FlatPairs.{flat_differences, flat_square, flat_power, flat_radius, flat_greatest, flat_least}

-- ---- pairs

-- differences of 0
none_in_all : (points : List PlanePoint) (pairs : List annuli.WeightedPair) → annuli.weighted_differences points (λ p. pos 0) pairs ≡ pos 0
none_in_all points [] = refl
none_in_all points (pair ∷ pairs) = ap₂ (λ a b. a +ℤ b) (nothing pair.weight) (none_in_all points pairs)
  where
    nothing : (w : ℤ) → w *ℤ (pos 0 -ℤ pos 0) ≡ pos 0
    nothing w = omega (arith, ints)

-- ---- levels

pub greatest_level : (points : List PlanePoint) (c : PlaneRatio) (h : Levels) → AreLevels (flat_ratio c) (map flat points) h → h.greatest ≡ greatest (annuli.power c) points
greatest_level points c h levels = levels.greatest ∙ flat_greatest (shells.power (flat_ratio c)) (annuli.power c) points (flat_power c)

pub least_level : (points : List PlanePoint) (c : PlaneRatio) (h : Levels) → AreLevels (flat_ratio c) (map flat points) h → h.least ≡ least (annuli.power c) points
least_level points c h levels = levels.least ∙ flat_least (shells.power (flat_ratio c)) (annuli.power c) points (flat_power c)

-- ---- what passes

pub annulus_passes : (points : List PlanePoint) (size inner outer : Fraction) (c : PlaneRatio) (pairs : List WeightedPair) (h : Levels) → length points ≤ 10000 → length pairs ≤ 3 → IsPlaneRatio c → IsWithinLimits (2 ^ 42) (2 ^ 58) (flat_ratio c)
    → ShowSize (2 ^ 42) (map flat points) size (map pair_of pairs) → AreLevels (flat_ratio c) (map flat points) h → HasValue size (record { n = h.greatest -ℤ h.least; d = c.w })
    → HasValue inner (shells.squared_radius_at (flat_ratio c) h.least) → HasValue outer (shells.squared_radius_at (flat_ratio c) h.greatest)
    → PassesAnnulus points (record { size = size; centre = c; inner = inner; outer = outer; pairs = map pair_of pairs })
annulus_passes points size inner outer c pairs h few three range within shown levels value in_value out_value =
    let limits = subst (λ n. HavePairLimits (2 ^ 42) n (map pair_of pairs)) (length-map points flat) shown.limits in
    record {
      ranges = record {
        size = value.0;
        centre = range;
        inner = in_value.0;
        outer = out_value.0;
        count = record { at_least = limits.some; at_most = subst (λ n. n ≤ 3) (sym (length-map pairs pair_of)) three };
        pairs = pairs_in_range (2 ^ 42) (length points) pairs (omega arith) few limits;
      };
      numbers = limits.numbers;
      w_limit = within.w.high;
      x_limit = within.x;
      y_limit = within.y;
      weights = limits.weights;
      weight_limit = limits.weight_limit;
      balanced_x = sym (flat_differences points (λ p. p.x) (λ p. p.x) (map pair_of pairs) (λ p. refl)) ∙ shown.balanced_x;
      balanced_y = sym (flat_differences points (λ p. p.y) (λ p. p.y) (map pair_of pairs) (λ p. refl)) ∙ shown.balanced_y;
      size = subst (λ z. SameValue size (record { n = z; d = c.w })) (ap₂ (λ g l. g -ℤ l) (greatest_level points c h levels) (least_level points c h levels)) value.1;
      least_size = subst (λ z. SameValue size (record { n = z; d = pair_sum (map pair_of pairs) })) (flat_differences points squared_length plane.squared_length (map pair_of pairs) flat_square) shown.mean.1;
      inner = subst (SameValue inner) (flat_radius c h.least ∙ ap (annuli.squared_radius_at c) (least_level points c h levels)) in_value.1;
      outer = subst (SameValue outer) (flat_radius c h.greatest ∙ ap (annuli.squared_radius_at c) (greatest_level points c h levels)) out_value.1;
    }

-- ---- and what follows

pub within_limits : (points : List PlanePoint) (a : AnnulusAnswer) (ratio : SpaceRatio) → ratio ≡ flat_ratio a.centre → PassesAnnulus points a → IsWithinLimits (2 ^ 42) (2 ^ 58) ratio
within_limits points a ratio is p = subst (IsWithinLimits (2 ^ 42) (2 ^ 58)) (sym is) (record { w = record { low = low p.ranges.centre.denominator; high = p.w_limit }; x = p.x_limit; y = p.y_limit; z = nothing })
  where
    low : {w : ℤ} → pos 1 ≤ℤ w → neg_ℤ (pos (2 ^ 42)) ≤ℤ w
    low h = omega (arith, ints)

    nothing : IsWithin (2 ^ 58) (pos 0)
    nothing = record { low = omega (arith, ints); high = omega (arith, ints) }

pub shown_by_pairs : (points : List PlanePoint) (a : AnnulusAnswer) (pairs : List WeightedPair) → a.pairs ≡ map pair_of pairs → PassesAnnulus points a → ShowSize (2 ^ 42) (map flat points) a.size (map pair_of pairs)
shown_by_pairs points a pairs is p = subst (ShowSize (2 ^ 42) (map flat points) a.size) is (record {
  limits = subst (λ n. HavePairLimits (2 ^ 42) n a.pairs) (sym (length-map points flat)) (record { some = p.ranges.count.at_least; numbers = p.numbers; weights = p.weights; weight_limit = p.weight_limit });
  balanced_x = flat_differences points (λ p. p.x) (λ p. p.x) a.pairs (λ p. refl) ∙ p.balanced_x;
  balanced_y = flat_differences points (λ p. p.y) (λ p. p.y) a.pairs (λ p. refl) ∙ p.balanced_y;
  balanced_z = flat_differences points (λ p. p.z) (λ p. pos 0) a.pairs (λ p. refl) ∙ none_in_all points a.pairs;
  mean = (p.ranges.size, subst (λ z. SameValue a.size (record { n = z; d = pair_sum a.pairs })) (sym (flat_differences points squared_length plane.squared_length a.pairs flat_square)) p.least_size);
})

-- the levels around the answer's centre
pub levels_around : (points : List PlanePoint) (c : PlaneRatio) (ratio : SpaceRatio) (h : Levels) → ratio ≡ flat_ratio c → AreLevels ratio (map flat points) h → AreLevels (flat_ratio c) (map flat points) h
levels_around points c ratio h is levels = subst (λ r. AreLevels r (map flat points) h) is levels

pub size_value : (points : List PlanePoint) (a : AnnulusAnswer) (h : Levels) → AreLevels (flat_ratio a.centre) (map flat points) h → PassesAnnulus points a → HasValue a.size (record { n = h.greatest -ℤ h.least; d = a.centre.w })
size_value points a h levels p =
    (p.ranges.size, subst (λ z. SameValue a.size (record { n = z; d = a.centre.w })) (sym (ap₂ (λ g l. g -ℤ l) (greatest_level points a.centre h levels) (least_level points a.centre h levels))) p.size)

pub inner_value : (points : List PlanePoint) (a : AnnulusAnswer) (h : Levels) → AreLevels (flat_ratio a.centre) (map flat points) h → PassesAnnulus points a → HasValue a.inner (shells.squared_radius_at (flat_ratio a.centre) h.least)
inner_value points a h levels p =
    (p.ranges.inner, subst (SameValue a.inner) (sym (flat_radius a.centre h.least ∙ ap (annuli.squared_radius_at a.centre) (least_level points a.centre h levels))) p.inner)

pub outer_value : (points : List PlanePoint) (a : AnnulusAnswer) (h : Levels) → AreLevels (flat_ratio a.centre) (map flat points) h → PassesAnnulus points a → HasValue a.outer (shells.squared_radius_at (flat_ratio a.centre) h.greatest)
outer_value points a h levels p =
    (p.ranges.outer, subst (SameValue a.outer) (sym (flat_radius a.centre h.greatest ∙ ap (annuli.squared_radius_at a.centre) (greatest_level points a.centre h levels))) p.outer)
