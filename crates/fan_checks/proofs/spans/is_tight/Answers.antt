use Rattle.std.proofs.Common.{refl, FitsSigned, to_z-of_z, rules}
use mir.Syntax.{w128}
use Rattle.integers.proofs.Lists.{clash}
use Rattle.fan_checks.proofs.spans.is_tight.Goals as goal

pub returns-then-not-is_reached : goal.returns-then-not-is_reached
returns-then-not-is_reached c =
    let fits : FitsSigned w128 c.args.span.lo = search rules in
    let tests = simp to_z-of_z at c.is_reached.ensures in
    (λ same. absurd (clash same refl), λ t. absurd (clash (tests.1 t.low) c.if-not-is_reached.true))

pub returns : goal.returns
returns c =
    let fits : FitsSigned w128 c.args.span.lo = search rules in
    let fits_high : FitsSigned w128 c.args.span.hi = search rules in
    let low = simp to_z-of_z at c.is_reached.ensures in
    let high = simp to_z-of_z at c.is_reached-2.ensures in (
      λ same. record { inside = c.are_in_span.ensures.0 c.if-not-are_in_span.false; low = low.0 c.if-not-is_reached.false; high = high.0 same },
      λ t. high.1 t.high,
    )
