use Rattle.std.proofs.Common.{◌≡◌, refl, subst, arith}
use Rattle.std.specs.Prelude.{take}
use Rattle.std.proofs.lemmas.List.{take_all}
use Rattle.bounds_model.specs.EmptyRectangle.{IsStrictlyInside}
use Rattle.bounds_model.specs.EmptyAnswer.{IsEmpty}
use Rattle.bounded_coords.specs.Clouds.{points_of}
use Rattle.integers.proofs.Lists.{at_point, first_more, clash}
use Rattle.empty_check.proofs.empty_rectangles.is_none_inside.Goals as goal

pub loop-i-preserved : goal.loop-i-preserved
loop-i-preserved c =
    first_more (λ p. ¬ IsStrictlyInside c.args.rectangle p) (points_of c.args.cloud) c.loop-i.i c.at.result.now c.at.ensures c.loop-i.invariant (λ inside. clash (c.is_inside.ensures.1 inside) c.if-is_inside.false)

pub returns-then-is_inside : goal.returns-then-is_inside
returns-then-is_inside c = (
  λ yes. absurd (cc yes),
  λ none. absurd (at_point (λ p. ¬ IsStrictlyInside c.args.rectangle p) (points_of c.args.cloud) c.loop-i.i c.at.result.now c.at.ensures none (c.is_inside.ensures.0 c.if-is_inside.true)),
)

pub returns : goal.returns
returns c =
    let points = points_of c.args.cloud in
    let whole : take c.loop-i.i points ≡ points = take_all c.loop-i.i points (omega arith) in
    (λ yes. subst (λ ps. IsEmpty ps c.args.rectangle) whole c.loop-i.invariant, λ none. refl)
