use Rattle.std.proofs.Common.{◌<◌, ◌+◌, FitsSigned, to_z-of_z, w64, arith}
use mir.Syntax.{w128}
use Rattle.integers.proofs.Sizes.{size_fits_in}
use Rattle.bounded_coords.specs.Clouds.{points_of}
use Rattle.answers.specs.Answers.{vector_of}
use Rattle.directions.proofs.Reaches.{not_behind, not_ahead}
use Rattle.parallelogram_strip.proofs.MadeChords.{made_chord, level_chord, level}
use Rattle.parallelogram_strip.proofs.chord.chord.Goals as goal

pub beyond-beta-requires-clause-order : goal.beyond-beta-requires-clause-order
beyond-beta-requires-clause-order c = not_ahead (points_of c.args.cloud) (vector_of c.args.d) c.args.a c.args.c c.at-p.result.now c.at-r.result.now c.at-p.ensures c.at-r.ensures c.requires.behind

pub beyond-gamma-requires-clause-order : goal.beyond-gamma-requires-clause-order
beyond-gamma-requires-clause-order c = not_behind (points_of c.args.cloud) (vector_of c.args.d) c.args.a c.args.b c.at-p.result.now c.at-q.result.now c.at-p.ensures c.at-q.ensures c.requires.ahead

pub multiple-requires-clause-right_angle : goal.multiple-requires-clause-right_angle
multiple-requires-clause-right_angle c = level (vector_of c.args.d) c.at-p.result.now c.at-q.result.now c.beyond-gamma.result c.beyond-gamma.ensures.value (omega arith)

pub returns-then-beta-gamma-eq0-clause-chord : goal.returns-then-beta-gamma-eq0-clause-chord
returns-then-beta-gamma-eq0-clause-chord c =
    let fits : FitsSigned w128 c.multiple.result = size_fits_in w128 c.multiple.ensures.size tt in
    simp to_z-of_z (level_chord (points_of c.args.cloud) (vector_of c.args.d) c.args.a c.args.b c.args.c c.multiple.result c.at-p.result.now c.at-q.result.now c.at-r.result.now c.at-p.ensures c.at-q.ensures c.at-r.ensures c.multiple.ensures.value c.multiple.ensures.size)

pub returns-clause-chord : goal.returns-clause-chord
returns-clause-chord c =
    let fits_64 : FitsSigned w64 c.turn.result = size_fits_in w64 c.turn.ensures.size tt in
    let fits_128 : FitsSigned w128 c.turn.result = size_fits_in w128 c.turn.ensures.size tt in
    let some : 0 < c.beyond-beta.result + c.beyond-gamma.result = omega (arith, c.if-beta-gamma-eq0.false) in
    simp to_z-of_z (made_chord (points_of c.args.cloud) (vector_of c.args.d) c.args.a c.args.b c.args.c c.beyond-beta.result c.beyond-gamma.result c.turn.result c.at-p.result.now c.at-q.result.now c.at-r.result.now c.at-p.ensures c.at-q.ensures c.at-r.ensures
    c.beyond-gamma.ensures.q_size c.beyond-beta.ensures.p_size c.beyond-beta.ensures.value c.beyond-gamma.ensures.value some c.turn.ensures.value c.turn.ensures.size)
