use Rattle.std.proofs.Common.{◌≡◌, sym, ◌∙◌, ap, subst, ℕ, ◌+◌, pos, ◌≤ℤ◌, length, arith}
use Rattle.std.proofs.lemmas.Int.{ints}
use Rattle.std.proofs.lemmas.List.{length-map}
use Rattle.std.proofs.lemmas.List.Elements.{All-map}
use Rattle.bounds_model.specs.Asks.{ask_parallelogram, plane}
use Rattle.bounds_model.specs.Answers.{parallelogram}
use Rattle.bounded_coords.specs.Clouds.{points_of}
use Rattle.answers.specs.Answers.{parallelogram_of, half_cone_of, chord_of}
use Rattle.fan_checks.specs.Limits.{HasChordLimits}
use Rattle.fan_checks.proofs.ParallelogramPassing.{HasNaturalWeights, parallelogram_passes}
use Rattle.fan_checks.proofs.parallelograms.check_parallelogram.Goals as goal

pub returns-clause-passes : goal.returns-clause-passes
returns-clause-passes c =
    let points = points_of c.args.cloud in
    let a = parallelogram_of c.args.a.now in
    let count : c.len.result + 1 ≡ length a.fan.cones + 1 = ap (λ n. n + 1) (c.len.ensures.count ∙ sym (length-map c.args.a.now.fan.cones half_cone_of)) in
    let natural = All-map HasNaturalWeights chord_of c.args.a.now.chords (λ i d l. record { beta = low _; gamma = low _ }) in (
      λ same. parallelogram_passes points a c.args.cloud.limited (c.has_size.ensures.lowest c.if-not-has_size.false) (c.is_half_within_limits.ensures.0 c.if-not-is_half_within_limits.false)
          (c.is_short.ensures.0 c.if-not-is_short.false) (c.is_short-2.ensures.0 c.if-not-is_short-2.false)
          (c.is_short_span.ensures.0 c.if-not-is_short_span.false) (c.is_short_span-2.ensures.0 c.if-not-is_short_span-2.false)
          (subst (λ n. HasChordLimits points n a.chords) count (c.are_within_limits.ensures.0 c.if-not-are_within_limits.false)) natural
          (c.has_size.ensures.value.0 c.if-not-has_size.false).0 (c.has_size.ensures.value.0 c.if-not-has_size.false).1 (c.holds_half.ensures.0 c.if-not-holds_half.false)
          (c.are_across.ensures.0 c.if-not-are_across.false) (c.is_none_smaller.ensures.0 c.if-not-is_none_smaller.false) (c.are_in_span.ensures.0 c.if-not-are_in_span.false) (c.are_in_span-2.ensures.0 same),
      λ passes. c.are_in_span-2.ensures.1 passes.inside_second,
    )
  where
    low : (n : ℕ) → pos 0 ≤ℤ pos n
    low n = omega (arith, ints)

pub returns-clause-best : goal.returns-clause-best
returns-clause-best c = λ same. c.passing_answers_are_best.ensures ask_parallelogram (plane (points_of c.args.cloud)) (parallelogram (parallelogram_of c.args.a.now)) ((returns-clause-passes c).0 same)
