use Rattle.std.proofs.Common.{◌≡◌, sym, ap, subst, ◌≤◌, ◌^◌, pos, ◌-ℤ◌, ◌≤ℤ◌, [], ◌∷◌, length, map}
use mir.Syntax.{w128}
use Rattle.integers.specs.Size.{Size}
use Rattle.integers.proofs.Sizes.{wrap_is}
use Rattle.integers.proofs.Lists.{clash}
use Rattle.integers.proofs.MachineArithmetic.{given, with_inputs, codes, fits, size_within}
use Rattle.bounds_model.specs.Space.{SpaceRatio, flat, flat_ratio}
use Rattle.bounds_model.specs.Asks.{ask_annulus, plane}
use Rattle.bounds_model.specs.Answers.{annulus}
use Rattle.bounded_coords.specs.Clouds.{points_of}
use Rattle.answers.specs.Answers.{pair_of, annulus_of}
use Rattle.ring_check.specs.Rings.{ratio_of, IsWithinLimits, IsCentre, ShowSize, HasValue}
use Rattle.ring_check.proofs.RingNumbers.{plane_centre, wider_centre, size_test, radius_test}
use Rattle.ring_check.proofs.RingLevels.{wide_level, narrow_level}
use Rattle.ring_check.proofs.AnnulusPassing.{annulus_passes, within_limits, shown_by_pairs, levels_around, size_value, inner_value, outer_value}
use Rattle.ring_check.proofs.annulus.check_annulus.Goals as goal

-- the centre's numbers are small
small_centre : (ratio c : SpaceRatio) → ratio ≡ c → pos 1 ≤ℤ c.w → IsWithinLimits (2 ^ 42) (2 ^ 58) ratio → IsCentre (2 ^ 42) ratio
small_centre ratio c is some within = plane_centre ratio (subst (λ r. pos 1 ≤ℤ r.w) (sym is) some) within

pub returns-then-not-is_within-clause-passes : goal.returns-then-not-is_within-clause-passes
returns-then-not-is_within-clause-passes c = (
  λ no. absurd (cc no),
  λ p. absurd (clash (c.is_within.ensures.1 (within_limits (points_of c.args.cloud) (annulus_of c.args.a.now) (ratio_of c.in_plane-centre.result) c.in_plane-centre.ensures.value p)) c.if-not-is_within.true),
)

pub returns-then-not-show_size-clause-passes : goal.returns-then-not-show_size-clause-passes
returns-then-not-show_size-clause-passes c = (
  λ no. absurd (cc no),
  λ p. absurd (clash (c.show_size.ensures.1 (shown_by_pairs (points_of c.args.cloud) (annulus_of c.args.a.now) c.as_slice.result.now (ap (map pair_of) (sym c.as_slice.ensures.value)) p)) c.if-not-show_size.true),
)

pub has_squared_radius-requires-clause-centre : goal.has_squared_radius-requires-clause-centre
has_squared_radius-requires-clause-centre c =
    small_centre (ratio_of c.in_plane-centre.result) (flat_ratio c.args.a.now.center) c.in_plane-centre.ensures.value c.in_plane-centre.ensures.range.denominator (c.is_within.ensures.0 c.if-not-is_within.false)

pub has_squared_radius-requires-2-clause-centre : goal.has_squared_radius-requires-2-clause-centre
has_squared_radius-requires-2-clause-centre c =
    small_centre (ratio_of c.in_plane-centre.result) (flat_ratio c.args.a.now.center) c.in_plane-centre.ensures.value c.in_plane-centre.ensures.range.denominator (c.is_within.ensures.0 c.if-not-is_within.false)

pub of-levels-requires : goal.of-levels-requires
of-levels-requires c =
    wider_centre (ratio_of c.in_plane-centre.result)
    (small_centre (ratio_of c.in_plane-centre.result) (flat_ratio c.args.a.now.center) c.in_plane-centre.ensures.value c.in_plane-centre.ensures.range.denominator (c.is_within.ensures.0 c.if-not-is_within.false))

pub overflow_sub-levels : goal.overflow_sub-levels
overflow_sub-levels c =
    let small = small_centre (ratio_of c.in_plane-centre.result) (flat_ratio c.args.a.now.center) c.in_plane-centre.ensures.value c.in_plane-centre.ensures.range.denominator (c.is_within.ensures.0 c.if-not-is_within.false) in
    let centre = wider_centre (ratio_of c.in_plane-centre.result) small in
    with_inputs (given (wide_level centre c.of-levels.ensures.greatest_size) ∷ given (wide_level centre c.of-levels.ensures.least_size) ∷ []) (λ xs h p q. simp (p, q, codes) (fits xs h w128 _ tt))

pub has_value-requires-clause-numerator : goal.has_value-requires-clause-numerator
has_value-requires-clause-numerator c =
    let small = small_centre (ratio_of c.in_plane-centre.result) (flat_ratio c.args.a.now.center) c.in_plane-centre.ensures.value c.in_plane-centre.ensures.range.denominator (c.is_within.ensures.0 c.if-not-is_within.false) in
    let centre = wider_centre (ratio_of c.in_plane-centre.result) small in
    with_inputs (given (wide_level centre c.of-levels.ensures.greatest_size) ∷ given (wide_level centre c.of-levels.ensures.least_size) ∷ []) (λ xs h p q. simp (p, q, codes) (size_within xs h _ tt))

pub has_value-requires-clause-denominator : goal.has_value-requires-clause-denominator
has_value-requires-clause-denominator c =
    let small = small_centre (ratio_of c.in_plane-centre.result) (flat_ratio c.args.a.now.center) c.in_plane-centre.ensures.value c.in_plane-centre.ensures.range.denominator (c.is_within.ensures.0 c.if-not-is_within.false) in
    let centre = wider_centre (ratio_of c.in_plane-centre.result) small in
    with_inputs (given centre.w ∷ []) (λ xs h p. simp (p, codes) (size_within xs h _ tt))

pub has_value-requires-clause-some : goal.has_value-requires-clause-some
has_value-requires-clause-some c =
    let small = small_centre (ratio_of c.in_plane-centre.result) (flat_ratio c.args.a.now.center) c.in_plane-centre.ensures.value c.in_plane-centre.ensures.range.denominator (c.is_within.ensures.0 c.if-not-is_within.false) in
    let centre = wider_centre (ratio_of c.in_plane-centre.result) small in
    subst (λ z. pos 1 ≤ℤ z) (sym (wrap_is centre.w tt)) centre.some

pub has_squared_radius-requires-clause-level : goal.has_squared_radius-requires-clause-level
has_squared_radius-requires-clause-level c =
    let small = small_centre (ratio_of c.in_plane-centre.result) (flat_ratio c.args.a.now.center) c.in_plane-centre.ensures.value c.in_plane-centre.ensures.range.denominator (c.is_within.ensures.0 c.if-not-is_within.false) in
    let level = narrow_level small c.of-levels.ensures.least_size in
    subst (Size (2 ^ 80)) (sym (wrap_is level tt)) level

pub has_squared_radius-requires-2-clause-level : goal.has_squared_radius-requires-2-clause-level
has_squared_radius-requires-2-clause-level c =
    let small = small_centre (ratio_of c.in_plane-centre.result) (flat_ratio c.args.a.now.center) c.in_plane-centre.ensures.value c.in_plane-centre.ensures.range.denominator (c.is_within.ensures.0 c.if-not-is_within.false) in
    let level = narrow_level small c.of-levels.ensures.greatest_size in
    subst (Size (2 ^ 80)) (sym (wrap_is level tt)) level

pub returns-then-not-has_value-clause-passes : goal.returns-then-not-has_value-clause-passes
returns-then-not-has_value-clause-passes c =
    let points = points_of c.args.cloud in
    let a = c.args.a.now in
    let h = c.of-levels.result in
    let ratio = ratio_of c.in_plane-centre.result in
    let is = c.in_plane-centre.ensures.value in
    let small = small_centre (ratio_of c.in_plane-centre.result) (flat_ratio c.args.a.now.center) c.in_plane-centre.ensures.value c.in_plane-centre.ensures.range.denominator (c.is_within.ensures.0 c.if-not-is_within.false) in
    let centre = wider_centre (ratio_of c.in_plane-centre.result) small in
    let levels = levels_around points a.center ratio h is c.of-levels.ensures in
    let test = size_test a.size h.greatest h.least ratio.w (wide_level centre c.of-levels.ensures.greatest_size) (wide_level centre c.of-levels.ensures.least_size) centre.w c.has_value.ensures in
    (λ no. absurd (cc no), λ p. absurd (clash (test.1 (subst (λ r. HasValue a.size (record { n = h.greatest -ℤ h.least; d = r.w })) (sym is) (size_value points (annulus_of a) h levels p))) c.if-not-has_value.true))

pub returns-then-not-has_squared_radius-clause-passes : goal.returns-then-not-has_squared_radius-clause-passes
returns-then-not-has_squared_radius-clause-passes c =
    let small = small_centre (ratio_of c.in_plane-centre.result) (flat_ratio c.args.a.now.center) c.in_plane-centre.ensures.value c.in_plane-centre.ensures.range.denominator (c.is_within.ensures.0 c.if-not-is_within.false) in
    let points = points_of c.args.cloud in
    let a = c.args.a.now in
    let h = c.of-levels.result in
    let is = c.in_plane-centre.ensures.value in
    let levels = levels_around points a.center (ratio_of c.in_plane-centre.result) h is c.of-levels.ensures in
    let level = narrow_level small c.of-levels.ensures.least_size in
    let test = radius_test a.inner (ratio_of c.in_plane-centre.result) (flat_ratio a.center) h.least is (wrap_is level tt) c.has_squared_radius.ensures in
    (λ no. absurd (cc no), λ p. absurd (clash (test.1 (inner_value points (annulus_of a) h levels p)) c.if-not-has_squared_radius.true))

pub returns-clause-passes : goal.returns-clause-passes
returns-clause-passes c =
    let points = points_of c.args.cloud in
    let a = c.args.a.now in
    let h = c.of-levels.result in
    let ratio = ratio_of c.in_plane-centre.result in
    let is = c.in_plane-centre.ensures.value in
    let small = small_centre (ratio_of c.in_plane-centre.result) (flat_ratio c.args.a.now.center) c.in_plane-centre.ensures.value c.in_plane-centre.ensures.range.denominator (c.is_within.ensures.0 c.if-not-is_within.false) in
    let centre = wider_centre (ratio_of c.in_plane-centre.result) small in
    let levels = levels_around points a.center ratio h is c.of-levels.ensures in
    let size = size_test a.size h.greatest h.least ratio.w (wide_level centre c.of-levels.ensures.greatest_size) (wide_level centre c.of-levels.ensures.least_size) centre.w c.has_value.ensures in
    let least_size = narrow_level small c.of-levels.ensures.least_size in
    let greatest_size = narrow_level small c.of-levels.ensures.greatest_size in
    let inner = radius_test a.inner ratio (flat_ratio a.center) h.least is (wrap_is least_size tt) c.has_squared_radius.ensures in
    let outer = radius_test a.outer ratio (flat_ratio a.center) h.greatest is (wrap_is greatest_size tt) c.has_squared_radius-2.ensures in
    let items : map pair_of c.as_slice.result.now ≡ map pair_of a.pairs.items = ap (map pair_of) c.as_slice.ensures.value in
    let shown = subst (λ ps. ShowSize (2 ^ 42) (map flat points) a.size ps) items (c.show_size.ensures.0 c.if-not-show_size.false) in (
      λ yes. annulus_passes points a.size a.inner a.outer a.center a.pairs.items h c.args.cloud.limited (subst (λ ps. length ps ≤ 3) c.as_slice.ensures.value c.as_slice.ensures.fits) c.in_plane-centre.ensures.range
          (subst (IsWithinLimits (2 ^ 42) (2 ^ 58)) is (c.is_within.ensures.0 c.if-not-is_within.false)) shown levels
          (subst (λ r. HasValue a.size (record { n = h.greatest -ℤ h.least; d = r.w })) is (size.0 c.if-not-has_value.false)) (inner.0 c.if-not-has_squared_radius.false) (outer.0 yes),
      λ p. outer.1 (outer_value points (annulus_of a) h levels p),
    )

pub returns-clause-best : goal.returns-clause-best
returns-clause-best c = λ yes. c.passing_answers_are_best.ensures ask_annulus (plane (points_of c.args.cloud)) (annulus (annulus_of c.args.a.now)) ((returns-clause-passes c).0 yes)
