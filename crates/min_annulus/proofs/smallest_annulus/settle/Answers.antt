use Rattle.std.proofs.Common.{subst, rules, SFits, to_z-of_z, ◌<ℤ◌}
use mir.Syntax.{w128}
use Rattle.bounded_coords.specs.Clouds.{points_of}
use Rattle.min_annulus.specs.LinearForms.{rise}
use Rattle.min_annulus.proofs.MachineNumbers.{at_most, more}
use Rattle.min_annulus.proofs.ExchangedTriangles.{of_points, exchange_falls, still_of_points}
use Rattle.min_annulus.proofs.Ending.{settled, some_area}
use Rattle.min_annulus.proofs.smallest_annulus.settle.Goals as goal

pub form-form-requires : goal.form-form-requires
form-form-requires c = of_points (points_of c.args.cloud) c.exchange.triangle c.exchange.invariant

pub extremes_of-extremes-requires : goal.extremes_of-extremes-requires
extremes_of-extremes-requires c = c.form-form.ensures.form

pub of-pair-requires-clause-first : goal.of-pair-requires-clause-first
of-pair-requires-clause-first c = c.extremes_of-extremes.ensures.extremes.far

pub of-pair-requires-clause-second : goal.of-pair-requires-clause-second
of-pair-requires-clause-second c = c.extremes_of-extremes.ensures.extremes.near

pub over-requires-clause-form : goal.over-requires-clause-form
over-requires-clause-form c = c.form-form.ensures.form

pub over-requires-clause-difference : goal.over-requires-clause-difference
over-requires-clause-difference c = c.of-pair.ensures.pair.within

pub over-requires-in-exchange-clause-form : goal.over-requires-in-exchange-clause-form
over-requires-in-exchange-clause-form c = c.form-form.ensures.form

pub over-requires-in-exchange-clause-difference : goal.over-requires-in-exchange-clause-difference
over-requires-in-exchange-clause-difference c = c.exchange.invariant.a.within

pub weighted-requires : goal.weighted-requires
weighted-requires c = of_points (points_of c.args.cloud) c.exchange.triangle c.exchange.invariant

pub annulus_around-requires-clause-form : goal.annulus_around-requires-clause-form
annulus_around-requires-clause-form c = c.form-form.ensures.form

pub annulus_around-requires-clause-some : goal.annulus_around-requires-clause-some
annulus_around-requires-clause-some c = some_area c.form-form.result c.exchange.triangle.a.difference c.exchange.triangle.b.difference c.exchange.triangle.c.difference c.form-form.ensures.value c.exchange.invariant.around

pub annulus_around-requires-clause-extremes : goal.annulus_around-requires-clause-extremes
annulus_around-requires-clause-extremes c = c.extremes_of-extremes.ensures.extremes

pub annulus_around-requires-clause-pairs : goal.annulus_around-requires-clause-pairs
annulus_around-requires-clause-pairs c =
    let fits : SFits w128 c.over.result = search rules in
    let fits_a : SFits w128 c.over-in-exchange.result = search rules in
    settled (points_of c.args.cloud) c.exchange.triangle c.form-form.result c.extremes_of-extremes.result c.of-pair.result _ c.form-form.ensures.value c.exchange.invariant
    c.extremes_of-extremes.ensures.extremes c.of-pair.ensures.pair c.of-pair.ensures.first c.of-pair.ensures.second
    (at_most c.if-over.true (to_z-of_z fits) (to_z-of_z fits_a) c.over.ensures c.over-in-exchange.ensures)
    c.weighted.ensures

pub exchange-triangle-requires-clause-around : goal.exchange-triangle-requires-clause-around
exchange-triangle-requires-clause-around c = of_points (points_of c.args.cloud) c.exchange.triangle c.exchange.invariant

pub exchange-triangle-requires-clause-pair : goal.exchange-triangle-requires-clause-pair
exchange-triangle-requires-clause-pair c = c.of-pair.ensures.pair.within

pub exchange-smaller : goal.exchange-smaller
exchange-smaller c =
    let fits : SFits w128 c.over.result = search rules in
    let fits_a : SFits w128 c.over-in-exchange.result = search rules in
    exchange_falls c.exchange.triangle c.exchange-triangle.result c.of-pair.result (of_points (points_of c.args.cloud) c.exchange.triangle c.exchange.invariant)
    c.exchange-triangle.ensures.around c.of-pair.ensures.pair.within c.exchange-triangle.ensures.exchange
    (subst (λ f. rise f c.exchange.triangle.a.difference <ℤ rise f c.of-pair.result.difference) c.form-form.ensures.value
    (more c.if-over.false (to_z-of_z fits) (to_z-of_z fits_a) c.over.ensures c.over-in-exchange.ensures))

pub exchange-preserved : goal.exchange-preserved
exchange-preserved c =
    still_of_points (points_of c.args.cloud) c.exchange.triangle c.exchange-triangle.result c.of-pair.result c.exchange.invariant c.of-pair.ensures.pair
    c.exchange-triangle.ensures.around c.exchange-triangle.ensures.exchange
