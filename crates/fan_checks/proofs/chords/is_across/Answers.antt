use Rattle.std.proofs.Common.{refl, FitsSigned, w32, to_z-of_z}
use mir.Syntax.{w128}
use Rattle.integers.proofs.Sizes.{size_fits_in}
use Rattle.integers.proofs.Lists.{clash}
use Rattle.directions.proofs.Bounds.{size_in}
use Rattle.bounded_coords.specs.Clouds.{points_of}
use Rattle.answers.specs.Answers.{vector_of, chord_of}
use Rattle.fan_checks.proofs.AcrossParts.{across_parts}
use Rattle.fan_checks.proofs.chords.is_across.Goals as goal

pub returns-then-not-leads_along : goal.returns-then-not-leads_along
returns-then-not-leads_along c =
    let parts = across_parts (points_of c.args.cloud) (vector_of c.args.d) (vector_of c.quarter_turn-across.result) (chord_of c.args.chord) c.at-a.result.now c.at-b.result.now c.at-c.result.now c.at-a.ensures c.at-b.ensures c.at-c.ensures c.quarter_turn-across.ensures.value in
    let x_a : FitsSigned w32 c.x.result = size_fits_in w32 (size_in c.x.ensures.bounds) tt in
    let x_b : FitsSigned w32 c.x-2.result = size_fits_in w32 (size_in c.x-2.ensures.bounds) tt in
    let x_c : FitsSigned w32 c.x-3.result = size_fits_in w32 (size_in c.x-3.ensures.bounds) tt in
    let x_along : FitsSigned w128 c.quarter_turn-across.result.x = size_fits_in w128 (size_in c.quarter_turn-across.ensures.short.x) tt in
    let x_read = simp to_z-of_z at c.leads_along.ensures in
    let x_test = simp (c.x.ensures.value, c.x-2.ensures.value, c.x-3.ensures.value) at x_read in (
      λ same. absurd (clash same refl),
      λ across. absurd (clash (x_test.1 (parts.0 across).x) c.if-not-leads_along.true),
    )

pub returns : goal.returns
returns c =
    let parts = across_parts (points_of c.args.cloud) (vector_of c.args.d) (vector_of c.quarter_turn-across.result) (chord_of c.args.chord) c.at-a.result.now c.at-b.result.now c.at-c.result.now c.at-a.ensures c.at-b.ensures c.at-c.ensures c.quarter_turn-across.ensures.value in
    let x_a : FitsSigned w32 c.x.result = size_fits_in w32 (size_in c.x.ensures.bounds) tt in
    let x_b : FitsSigned w32 c.x-2.result = size_fits_in w32 (size_in c.x-2.ensures.bounds) tt in
    let x_c : FitsSigned w32 c.x-3.result = size_fits_in w32 (size_in c.x-3.ensures.bounds) tt in
    let x_along : FitsSigned w128 c.quarter_turn-across.result.x = size_fits_in w128 (size_in c.quarter_turn-across.ensures.short.x) tt in
    let x_read = simp to_z-of_z at c.leads_along.ensures in
    let x_test = simp (c.x.ensures.value, c.x-2.ensures.value, c.x-3.ensures.value) at x_read in
    let y_a : FitsSigned w32 c.y.result = size_fits_in w32 (size_in c.y.ensures.bounds) tt in
    let y_b : FitsSigned w32 c.y-2.result = size_fits_in w32 (size_in c.y-2.ensures.bounds) tt in
    let y_c : FitsSigned w32 c.y-3.result = size_fits_in w32 (size_in c.y-3.ensures.bounds) tt in
    let y_along : FitsSigned w128 c.quarter_turn-across.result.y = size_fits_in w128 (size_in c.quarter_turn-across.ensures.short.y) tt in
    let y_read = simp to_z-of_z at c.leads_along-2.ensures in
    let y_test = simp (c.y.ensures.value, c.y-2.ensures.value, c.y-3.ensures.value) at y_read in (
      λ same. parts.1 (record { x = x_test.0 c.if-not-leads_along.false; y = y_test.0 same }),
      λ across. y_test.1 (parts.0 across).y,
    )
