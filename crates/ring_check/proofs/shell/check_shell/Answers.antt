use Rattle.std.proofs.Common.{◌≡◌, sym, ap, subst, ◌≤◌, ◌^◌, pos, ◌-ℤ◌, ◌≤ℤ◌, [], ◌∷◌, length, map, SFits, rules, of_z}
use mir.Syntax.{w128}
use Rattle.integers.proofs.Sizes.{wrap_is}
use Rattle.integers.proofs.Lists.{clash}
use Rattle.integers.proofs.MachineArithmetic.{given, with_inputs, codes, fits, size_within}
use Rattle.bounds_model.specs.Space.{SpaceRatio}
use Rattle.bounded_coords.specs.Clouds.{points_of}
use Rattle.answers.specs.Answers.{pair_of, shell_of}
use Rattle.ring_check.specs.Rings.{ratio_of, IsWithinLimits, IsCentre, ShowSize, HasValue}
use Rattle.ring_check.proofs.RingNumbers.{space_centre, size_test, level_of_bits}
use Rattle.ring_check.proofs.RingLevels.{wide_level}
use Rattle.ring_check.proofs.ShellPassing.{same_places, shell_passes, within_limits, shown_by_pairs, levels_around, low_level, high_level, size_value}
use Rattle.ring_check.proofs.shell.check_shell.Goals as goal

-- the centre's numbers are small
small_centre : (ratio c : SpaceRatio) → ratio ≡ c → pos 1 ≤ℤ c.w → IsWithinLimits (2 ^ 50) (2 ^ 66) ratio → IsCentre (2 ^ 50) ratio
small_centre ratio c is some within = space_centre ratio (subst (λ r. pos 1 ≤ℤ r.w) (sym is) some) within

pub returns-then-not-is_within-clause-passes : goal.returns-then-not-is_within-clause-passes
returns-then-not-is_within-clause-passes c = (
  λ no. absurd (cc no),
  λ p. absurd (clash (c.is_within.ensures.1 (within_limits (points_of c.args.cloud) (shell_of c.args.a.now) (ratio_of c.in_space-centre.result) c.in_space-centre.ensures.value p)) c.if-not-is_within.true),
)

pub returns-then-not-show_size-clause-passes : goal.returns-then-not-show_size-clause-passes
returns-then-not-show_size-clause-passes c = (
  λ no. absurd (cc no),
  λ p. absurd (clash (c.show_size.ensures.1 (shown_by_pairs (points_of c.args.cloud) (shell_of c.args.a.now) c.as_slice.result.now (ap (map pair_of) (sym c.as_slice.ensures.value)) p)) c.if-not-show_size.true),
)

pub of-levels-requires : goal.of-levels-requires
of-levels-requires c = small_centre (ratio_of c.in_space-centre.result) c.args.a.now.center c.in_space-centre.ensures.value c.in_space-centre.ensures.range.denominator (c.is_within.ensures.0 c.if-not-is_within.false)

pub returns-then-a-levels-clause-passes : goal.returns-then-a-levels-clause-passes
returns-then-a-levels-clause-passes c =
    let levels = levels_around (points_of c.args.cloud) c.args.a.now.center (ratio_of c.in_space-centre.result) c.of-levels.result c.in_space-centre.ensures.value c.of-levels.ensures in
    (λ no. absurd (cc no), λ p. absurd (c.if-a-levels.true (ap (of_z w128) (low_level (points_of c.args.cloud) (shell_of c.args.a.now) c.of-levels.result levels p))))

pub returns-then-a-levels-2-clause-passes : goal.returns-then-a-levels-2-clause-passes
returns-then-a-levels-2-clause-passes c =
    let levels = levels_around (points_of c.args.cloud) c.args.a.now.center (ratio_of c.in_space-centre.result) c.of-levels.result c.in_space-centre.ensures.value c.of-levels.ensures in
    (λ no. absurd (cc no), λ p. absurd (c.if-a-levels-2.true (ap (of_z w128) (high_level (points_of c.args.cloud) (shell_of c.args.a.now) c.of-levels.result levels p))))

pub overflow_sub-levels : goal.overflow_sub-levels
overflow_sub-levels c =
    let centre = small_centre (ratio_of c.in_space-centre.result) c.args.a.now.center c.in_space-centre.ensures.value c.in_space-centre.ensures.range.denominator (c.is_within.ensures.0 c.if-not-is_within.false) in
    with_inputs (given (wide_level centre c.of-levels.ensures.greatest_size) ∷ given (wide_level centre c.of-levels.ensures.least_size) ∷ []) (λ xs h p q. simp (p, q, codes) (fits xs h w128 _ tt))

pub has_value-requires-clause-numerator : goal.has_value-requires-clause-numerator
has_value-requires-clause-numerator c =
    let centre = small_centre (ratio_of c.in_space-centre.result) c.args.a.now.center c.in_space-centre.ensures.value c.in_space-centre.ensures.range.denominator (c.is_within.ensures.0 c.if-not-is_within.false) in
    with_inputs (given (wide_level centre c.of-levels.ensures.greatest_size) ∷ given (wide_level centre c.of-levels.ensures.least_size) ∷ []) (λ xs h p q. simp (p, q, codes) (size_within xs h _ tt))

pub has_value-requires-clause-denominator : goal.has_value-requires-clause-denominator
has_value-requires-clause-denominator c =
    let centre = small_centre (ratio_of c.in_space-centre.result) c.args.a.now.center c.in_space-centre.ensures.value c.in_space-centre.ensures.range.denominator (c.is_within.ensures.0 c.if-not-is_within.false) in
    with_inputs (given centre.w ∷ []) (λ xs h p. simp (p, codes) (size_within xs h _ tt))

pub has_value-requires-clause-some : goal.has_value-requires-clause-some
has_value-requires-clause-some c =
    let centre = small_centre (ratio_of c.in_space-centre.result) c.args.a.now.center c.in_space-centre.ensures.value c.in_space-centre.ensures.range.denominator (c.is_within.ensures.0 c.if-not-is_within.false) in
    subst (λ z. pos 1 ≤ℤ z) (sym (wrap_is centre.w tt)) centre.some

pub returns-clause-passes : goal.returns-clause-passes
returns-clause-passes c =
    let points = points_of c.args.cloud in
    let a = c.args.a.now in
    let h = c.of-levels.result in
    let ratio = ratio_of c.in_space-centre.result in
    let is = c.in_space-centre.ensures.value in
    let centre = small_centre (ratio_of c.in_space-centre.result) c.args.a.now.center c.in_space-centre.ensures.value c.in_space-centre.ensures.range.denominator (c.is_within.ensures.0 c.if-not-is_within.false) in
    let levels = levels_around points a.center ratio h is c.of-levels.ensures in
    let test = size_test a.size h.greatest h.least ratio.w (wide_level centre c.of-levels.ensures.greatest_size) (wide_level centre c.of-levels.ensures.least_size) centre.w c.has_value.ensures in
    let fits_low : SFits w128 a.low = search rules in
    let fits_high : SFits w128 a.high = search rules in
    let items : map pair_of c.as_slice.result.now ≡ map pair_of a.pairs.items = ap (map pair_of) c.as_slice.ensures.value in
    let shown = subst (λ ps. ShowSize (2 ^ 50) points a.size ps) items (subst (λ ps. ShowSize (2 ^ 50) ps a.size (map pair_of c.as_slice.result.now)) (same_places points) (c.show_size.ensures.0 c.if-not-show_size.false)) in
    let value = λ (r : SpaceRatio). HasValue a.size (record { n = h.greatest -ℤ h.least; d = r.w }) in (
      λ yes. shell_passes points a.size a.low a.high a.center a.pairs.items h c.args.cloud.limited (subst (λ ps. length ps ≤ 4) c.as_slice.ensures.value c.as_slice.ensures.fits) c.in_space-centre.ensures.range
          (subst (IsWithinLimits (2 ^ 50) (2 ^ 66)) is (c.is_within.ensures.0 c.if-not-is_within.false)) (subst (IsCentre (2 ^ 50)) is centre) shown levels
          (level_of_bits fits_low (wide_level centre c.of-levels.ensures.least_size) c.if-a-levels.false) (level_of_bits fits_high (wide_level centre c.of-levels.ensures.greatest_size) c.if-a-levels-2.false)
          (subst value is (test.0 yes)),
      λ p. test.1 (subst value (sym is) (size_value points (shell_of a) h levels p)),
    )

pub returns-clause-best : goal.returns-clause-best
returns-clause-best c = λ yes. c.passing_shells_are_best.ensures (points_of c.args.cloud) (shell_of c.args.a.now) ((returns-clause-passes c).0 yes)
