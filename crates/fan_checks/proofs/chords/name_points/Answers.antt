use Rattle.std.proofs.Common.{refl, sym, subst, length, arith}
use Rattle.std.specs.Prelude.{All, map}
use Rattle.bounded_coords.specs.Clouds.{points_of}
use Rattle.answers.specs.Answers.{chord_of}
use Rattle.integers.proofs.Lists.{clash, first_more}
use Rattle.directions.proofs.FanLists.{seen_at, all_seen}
use Rattle.fan_checks.specs.Limits.{AreBelow}
use Rattle.fan_checks.proofs.chords.name_points.Goals as goal

pub returns-then-not-names_below : goal.returns-then-not-names_below
returns-then-not-names_below c = (
  λ yes. absurd (clash yes refl),
  λ all. absurd (clash (c.names_below.ensures.1 (subst (λ n. AreBelow n (chord_of c.at.result)) (sym c.len-count.ensures.count) (seen_at (AreBelow (length (points_of c.args.cloud))) chord_of c.args.chords.now c.loop-i.i c.at.result c.at.ensures all))) c.if-not-names_below.true),
)

pub loop-i-preserved : goal.loop-i-preserved
loop-i-preserved c =
    first_more (λ chord. AreBelow c.len-count.result (chord_of chord)) c.args.chords.now c.loop-i.i c.at.result c.at.ensures c.loop-i.invariant (c.names_below.ensures.0 c.if-not-names_below.false)

pub returns : goal.returns
returns c = (
  λ yes. subst (λ n. All (AreBelow n) (map chord_of c.args.chords.now)) c.len-count.ensures.count (all_seen (AreBelow c.len-count.result) chord_of c.args.chords.now c.loop-i.i (omega arith) c.loop-i.invariant),
  λ all. refl,
)
