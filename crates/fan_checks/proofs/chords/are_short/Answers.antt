use Rattle.std.proofs.Common.{refl, arith}
use Rattle.bounds_model.specs.ParallelogramAnswer.{IsShortChord}
use Rattle.answers.specs.Answers.{chord_of}
use Rattle.integers.proofs.Lists.{clash, first_more}
use Rattle.directions.proofs.FanLists.{seen_at, all_seen}
use Rattle.fan_checks.proofs.chords.are_short.Goals as goal

pub returns-then-not-is_short : goal.returns-then-not-is_short
returns-then-not-is_short c = (
  λ yes. absurd (clash yes refl),
  λ all. absurd (clash (c.is_short.ensures.1 (seen_at IsShortChord chord_of c.args.chords.now c.loop-i.i c.at.result c.at.ensures all)) c.if-not-is_short.true),
)

pub loop-i-preserved : goal.loop-i-preserved
loop-i-preserved c = first_more (λ chord. IsShortChord (chord_of chord)) c.args.chords.now c.loop-i.i c.at.result c.at.ensures c.loop-i.invariant (c.is_short.ensures.0 c.if-not-is_short.false)

pub returns : goal.returns
returns c = (λ yes. all_seen IsShortChord chord_of c.args.chords.now c.loop-i.i (omega arith) c.loop-i.invariant, λ all. refl)
