use Rattle.std.proofs.Common.{refl, sym, subst}
use Rattle.bounds_model.specs.Plane.{point_at}
use Rattle.bounds_model.specs.Fans.{half_directions}
use Rattle.bounds_model.specs.ParallelogramAnswer.{NamesEnds, IsShortChord, IsAcross}
use Rattle.bounded_coords.specs.Clouds.{points_of}
use Rattle.answers.specs.Answers.{half_fan_of, chord_of}
use Rattle.integers.proofs.Lists.{clash}
use Rattle.directions.proofs.FanLists.{seen_at}
use Rattle.fan_checks.proofs.FanLoops.{numbered_more, numbered_at}
use Rattle.fan_checks.proofs.chords.are_across.Goals as goal

pub is_across-requires-clause-names : goal.is_across-requires-clause-names
is_across-requires-clause-names c = seen_at (NamesEnds (points_of c.args.cloud)) chord_of c.args.chords.now c.loop-i.i c.at.result c.at.ensures c.requires.limits.names

pub is_across-requires-clause-short : goal.is_across-requires-clause-short
is_across-requires-clause-short c = seen_at IsShortChord chord_of c.args.chords.now c.loop-i.i c.at.result c.at.ensures c.requires.limits.short

pub returns-then-not-is_across : goal.returns-then-not-is_across
returns-then-not-is_across c =
    let points = points_of c.args.cloud in
    let directions = half_directions (half_fan_of c.args.fan.now) in (
      λ same. absurd (clash same refl),
      λ all. absurd (clash (c.is_across.ensures.1 (subst (λ d. IsAcross points d (chord_of c.at.result)) (sym c.half_direction.ensures)
          (numbered_at (λ k chord. IsAcross points (point_at directions k) chord) chord_of c.args.chords.now c.loop-i.i c.at.result c.at.ensures all))) c.if-not-is_across.true),
    )

pub loop-i-preserved : goal.loop-i-preserved
loop-i-preserved c =
    let points = points_of c.args.cloud in
    let directions = half_directions (half_fan_of c.args.fan.now) in
    numbered_more (λ k chord. IsAcross points (point_at directions k) chord) chord_of c.args.chords.now c.loop-i.i c.at.result c.at.ensures c.loop-i.invariant
    (subst (λ d. IsAcross points d (chord_of c.at.result)) c.half_direction.ensures (c.is_across.ensures.0 c.if-not-is_across.false))
