use Rattle.std.proofs.Common.{◌∙◌, ap, subst, arith}
use borrow.Author.Count.{below_more}
use Rattle.integers.proofs.Sizes.{wrap_is}
use Rattle.bounds_model.specs.Space.{IsInSpace, point_at}
use Rattle.bounds_model.specs.Numbers.{EachBelow}
use Rattle.bounded_coords.specs.Clouds.{points_of}
use Rattle.min_shell.specs.LinearForms.{level}
use Rattle.pair_weights.specs.Extremes.{AreExtremes}
use Rattle.pair_weights.proofs.OneMore.{below_one}
use Rattle.min_shell.proofs.NumberedPoints.{point_is}
use Rattle.min_shell.proofs.extremes.extremes_of.Goals as goal

pub loop-i-init : goal.loop-i-init
loop-i-init c =
    let first = point_is (points_of c.args.cloud) 0 c.at.result.now c.at.ensures in (
      c.first-extremes.ensures (λ i. level c.args.form (point_at (points_of c.args.cloud) i)) (wrap_is c.at-2.ensures.size tt ∙ c.at-2.ensures.value ∙ ap (level c.args.form) first),
      below_one (λ i. IsInSpace (point_at (points_of c.args.cloud) i)) (subst IsInSpace first c.at-2.ensures.inside),
    )

pub loop-i-preserved : goal.loop-i-preserved
loop-i-preserved c =
    let here = point_is (points_of c.args.cloud) c.loop-i.i c.at-in-loop-i.result.now c.at-in-loop-i.ensures in (
      c.with-extremes.ensures (λ i. level c.args.form (point_at (points_of c.args.cloud) i)) c.loop-i.invariant.0 (wrap_is c.at-in-loop-i-2.ensures.size tt ∙ c.at-in-loop-i-2.ensures.value ∙ ap (level c.args.form) here),
      below_more (λ i. IsInSpace (point_at (points_of c.args.cloud) i)) c.loop-i.i c.loop-i.invariant.1 (subst IsInSpace here c.at-in-loop-i-2.ensures.inside),
    )

pub returns-clause-extremes : goal.returns-clause-extremes
returns-clause-extremes c =
    let count = c.len-i-end.ensures.count in
    subst (λ n. AreExtremes (λ i. level c.args.form (point_at (points_of c.args.cloud) i)) n c.loop-i.extremes) (omega arith) c.loop-i.invariant.0

pub returns-clause-inside : goal.returns-clause-inside
returns-clause-inside c =
    let count = c.len-i-end.ensures.count in
    subst (λ n. EachBelow n (λ i. IsInSpace (point_at (points_of c.args.cloud) i))) (omega arith) c.loop-i.invariant.1
