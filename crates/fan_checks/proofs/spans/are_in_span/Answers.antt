use Rattle.std.proofs.Common.{refl, sym, subst, FitsSigned, w64, to_z-of_z}
use Rattle.integers.proofs.Sizes.{size_fits_in}
use Rattle.bounds_model.specs.Plane.{dot}
use Rattle.bounds_model.specs.Strip.{IsInSpan}
use Rattle.bounded_coords.specs.Clouds.{points_of}
use Rattle.answers.specs.Answers.{vector_of, span_of}
use Rattle.integers.proofs.Lists.{clash, each_more, at_point}
use Rattle.fan_checks.proofs.spans.are_in_span.Goals as goal

pub returns-then-not-is_in_span : goal.returns-then-not-is_in_span
returns-then-not-is_in_span c =
    let fits : FitsSigned w64 c.along.result = size_fits_in w64 c.along.ensures.size tt in
    let tests = simp to_z-of_z at c.is_in_span.ensures in (
      λ same. absurd (clash same refl),
      λ all. absurd (clash (tests.1 (subst (IsInSpan (span_of c.args.span)) (sym c.along.ensures.value) (at_point (λ p. IsInSpan (span_of c.args.span) (dot (vector_of c.args.normal) p)) (points_of c.args.cloud) c.loop-i.i c.at.result.now c.at.ensures all))) c.if-not-is_in_span.true),
    )

pub loop-i-preserved : goal.loop-i-preserved
loop-i-preserved c =
    let fits : FitsSigned w64 c.along.result = size_fits_in w64 c.along.ensures.size tt in
    let tests = simp to_z-of_z at c.is_in_span.ensures in
    each_more (λ p. IsInSpan (span_of c.args.span) (dot (vector_of c.args.normal) p)) (points_of c.args.cloud) c.loop-i.i c.at.result.now c.at.ensures c.loop-i.invariant
    (subst (IsInSpan (span_of c.args.span)) c.along.ensures.value (tests.0 c.if-not-is_in_span.false))
