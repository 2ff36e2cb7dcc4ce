use Rattle.std.proofs.Common.{ap, subst, length}
use mir.Syntax.{w128}
use mir.Val.{of_z}
use Rattle.bounds_model.specs.Plane.{point_at}
use Rattle.bounded_coords.specs.Clouds.{points_of}
use Rattle.min_annulus.specs.LinearForms.{level}
use Rattle.pair_weights.specs.Extremes.{AreExtremes}
use Rattle.min_annulus.proofs.MachineNumbers.{same_bits}
use Rattle.min_annulus.proofs.Sorting.{whole_ahead, side_left, on_one_line}
use Rattle.min_annulus.proofs.Middles.{middle_is, no_middle}
use Rattle.min_annulus.proofs.smallest_annulus.annulus.Goals as goal

pub collinear_annulus-requires : goal.collinear_annulus-requires
collinear_annulus-requires c =
    let points = points_of c.args.cloud in
    on_one_line points c.extremes_of-order.result c.extremes_of-across.result c.of-whole.result
    (subst (λ f. AreExtremes (λ i. level f (point_at points i)) (length points) c.extremes_of-order.result) c.order.ensures.value c.extremes_of-order.ensures.extremes)
    c.of-whole.ensures.pair c.of-whole.ensures.first c.of-whole.ensures.second
    (subst (λ f. AreExtremes (λ i. level f (point_at points i)) (length points) c.extremes_of-across.result) c.across.ensures.value c.extremes_of-across.ensures.extremes)
    (same_bits c.extremes_of-across.ensures.extremes.high_size c.extremes_of-across.ensures.extremes.low_size c.if-across.true)

pub start-requires-clause-ahead : goal.start-requires-clause-ahead
start-requires-clause-ahead c =
    let points = points_of c.args.cloud in
    whole_ahead points c.extremes_of-order.result c.of-whole.result
    (subst (λ f. AreExtremes (λ i. level f (point_at points i)) (length points) c.extremes_of-order.result) c.order.ensures.value c.extremes_of-order.ensures.extremes)
    c.of-whole.ensures.pair c.of-whole.ensures.first c.of-whole.ensures.second

pub start-requires-clause-left : goal.start-requires-clause-left
start-requires-clause-left c =
    let points = points_of c.args.cloud in
    side_left points c.of-whole.result.difference c.extremes_of-across.result c.of-side.result
    (subst (λ f. AreExtremes (λ i. level f (point_at points i)) (length points) c.extremes_of-across.result) c.across.ensures.value c.extremes_of-across.ensures.extremes)
    c.of-side.ensures.pair c.of-side.ensures.first c.of-side.ensures.second (λ same. c.if-across.false (ap (of_z w128) same))

pub returns-then-across-clause-middle : goal.returns-then-across-clause-middle
returns-then-across-clause-middle c =
    let points = points_of c.args.cloud in
    middle_is points c.extremes_of-order.result c.collinear_annulus.result.center
    (subst (λ f. AreExtremes (λ i. level f (point_at points i)) (length points) c.extremes_of-order.result) c.order.ensures.value c.extremes_of-order.ensures.extremes) c.extremes_of-order.ensures.inside c.collinear_annulus.ensures.center

pub returns-clause-middle : goal.returns-clause-middle
returns-clause-middle c =
    let points = points_of c.args.cloud in
    no_middle points c.extremes_of-order.result c.extremes_of-across.result c.of-whole.result c.settle.result.center
    (subst (λ f. AreExtremes (λ i. level f (point_at points i)) (length points) c.extremes_of-order.result) c.order.ensures.value c.extremes_of-order.ensures.extremes) c.extremes_of-order.ensures.inside
    c.of-whole.ensures.pair c.of-whole.ensures.first c.of-whole.ensures.second
    (subst (λ f. AreExtremes (λ i. level f (point_at points i)) (length points) c.extremes_of-across.result) c.across.ensures.value c.extremes_of-across.ensures.extremes) (λ same. c.if-across.false (ap (of_z w128) same))
