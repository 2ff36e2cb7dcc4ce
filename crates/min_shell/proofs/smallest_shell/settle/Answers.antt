use Rattle.std.proofs.Common.{subst, rules, SFits, to_z-of_z, ◌<ℤ◌}
use mir.Syntax.{w128}
use Rattle.bounded_coords.specs.Clouds.{points_of}
use Rattle.min_shell.specs.LinearForms.{rise}
use Rattle.min_shell.proofs.MachineNumbers.{at_most, more}
use Rattle.min_shell.proofs.ExchangedTetrahedra.{of_points, pair_one, exchange_falls, still_of_points, some_width}
use Rattle.min_shell.proofs.Ending.{settled}
use Rattle.min_shell.proofs.KeptDirections.{still_kept, determined_zero}
use Rattle.min_shell.proofs.smallest_shell.settle.Goals as goal

pub form-form-requires-clause-a : goal.form-form-requires-clause-a
form-form-requires-clause-a c = (of_points (points_of c.args.cloud) c.args.target c.exchange.tetrahedron c.exchange.invariant.0).a

pub weighted-requires-clause-a : goal.weighted-requires-clause-a
weighted-requires-clause-a c = (of_points (points_of c.args.cloud) c.args.target c.exchange.tetrahedron c.exchange.invariant.0).a

pub form-form-requires-clause-b : goal.form-form-requires-clause-b
form-form-requires-clause-b c = (of_points (points_of c.args.cloud) c.args.target c.exchange.tetrahedron c.exchange.invariant.0).b

pub weighted-requires-clause-b : goal.weighted-requires-clause-b
weighted-requires-clause-b c = (of_points (points_of c.args.cloud) c.args.target c.exchange.tetrahedron c.exchange.invariant.0).b

pub form-form-requires-clause-c : goal.form-form-requires-clause-c
form-form-requires-clause-c c = (of_points (points_of c.args.cloud) c.args.target c.exchange.tetrahedron c.exchange.invariant.0).c

pub weighted-requires-clause-c : goal.weighted-requires-clause-c
weighted-requires-clause-c c = (of_points (points_of c.args.cloud) c.args.target c.exchange.tetrahedron c.exchange.invariant.0).c

pub form-form-requires-clause-d : goal.form-form-requires-clause-d
form-form-requires-clause-d c = (of_points (points_of c.args.cloud) c.args.target c.exchange.tetrahedron c.exchange.invariant.0).d

pub weighted-requires-clause-d : goal.weighted-requires-clause-d
weighted-requires-clause-d c = (of_points (points_of c.args.cloud) c.args.target c.exchange.tetrahedron c.exchange.invariant.0).d

pub shell_around-requires-clause-some : goal.shell_around-requires-clause-some
shell_around-requires-clause-some c = some_width (points_of c.args.cloud) c.args.target c.exchange.tetrahedron c.form-form.result c.form-form.ensures.value c.exchange.invariant.0

pub shell_around-requires-clause-pairs : goal.shell_around-requires-clause-pairs
shell_around-requires-clause-pairs c =
    let fits : SFits w128 c.over.result = search rules in
    let fits_d : SFits w128 c.over-in-exchange.result = search rules in
    settled (points_of c.args.cloud) c.args.target c.exchange.tetrahedron c.form-form.result c.extremes_of-extremes.result c.of-pair.result _ c.form-form.ensures.value c.requires.target c.exchange.invariant.0
    c.extremes_of-extremes.ensures.extremes c.of-pair.ensures.pair c.of-pair.ensures.first c.of-pair.ensures.second
    (at_most c.if-over.true (to_z-of_z fits) (to_z-of_z fits_d) c.over.ensures c.over-in-exchange.ensures)
    c.weighted.ensures

pub exchange-tetrahedron-requires-clause-around : goal.exchange-tetrahedron-requires-clause-around
exchange-tetrahedron-requires-clause-around c = of_points (points_of c.args.cloud) c.args.target c.exchange.tetrahedron c.exchange.invariant.0

pub exchange-tetrahedron-requires-clause-vector : goal.exchange-tetrahedron-requires-clause-vector
exchange-tetrahedron-requires-clause-vector c = c.of-pair.ensures.pair.within

pub exchange-tetrahedron-requires-clause-pair : goal.exchange-tetrahedron-requires-clause-pair
exchange-tetrahedron-requires-clause-pair c = pair_one (points_of c.args.cloud) c.of-pair.result c.of-pair.ensures.pair

pub over-requires-in-exchange-clause-vector : goal.over-requires-in-exchange-clause-vector
over-requires-in-exchange-clause-vector c = c.exchange.invariant.0.d.within

pub exchange-smaller : goal.exchange-smaller
exchange-smaller c =
    let fits : SFits w128 c.over.result = search rules in
    let fits_d : SFits w128 c.over-in-exchange.result = search rules in
    exchange_falls (points_of c.args.cloud) c.args.target c.exchange.tetrahedron c.exchange-tetrahedron.result c.of-pair.result c.exchange.invariant.0 c.of-pair.ensures.pair
    c.exchange-tetrahedron.ensures.around c.exchange-tetrahedron.ensures.exchange
    (subst (λ f. rise f c.exchange.tetrahedron.d.vector <ℤ rise f c.of-pair.result.vector) c.form-form.ensures.value
    (more c.if-over.false (to_z-of_z fits) (to_z-of_z fits_d) c.over.ensures c.over-in-exchange.ensures))

pub exchange-preserved : goal.exchange-preserved
exchange-preserved c =
    let points = points_of c.args.cloud in
    let t = c.exchange.tetrahedron in
    let new = c.exchange-tetrahedron.result in
    let pair = c.of-pair.result in (
      still_of_points points c.args.target t new pair c.exchange.invariant.0 c.of-pair.ensures.pair c.exchange-tetrahedron.ensures.around c.exchange-tetrahedron.ensures.exchange,
      still_kept points c.args.target t new pair c.exchange.invariant.0 c.exchange-tetrahedron.ensures.exchange c.exchange.invariant.1,
    )

pub shell_around-requires-clause-determined : goal.shell_around-requires-clause-determined
shell_around-requires-clause-determined c = determined_zero (points_of c.args.cloud) c.args.target c.exchange.tetrahedron c.form-form.result c.form-form.ensures.value c.exchange.invariant.0 c.exchange.invariant.1
