use Rattle.std.proofs.Common.{sym, subst, ap, ◌≤◌, length, map, All, Any, arith}
use Rattle.std.proofs.lemmas.List.{length-map}
use Rattle.bounds_model.specs.Centres.{IsNear}
use Rattle.bounds_model.specs.FourAnswer.{AreFourLeaves, PassesFour}
use Rattle.bounded_coords.specs.Clouds.{points_of}
use Rattle.answers.specs.Answers.{leaf_of, four_of}
use Rattle.integers.proofs.Lists.{clash}
use Rattle.centres_check.proofs.CentresPassing.{four_pass, decided}
use Rattle.centres_check.proofs.four.check_four.Goals as goal

pub returns-then-cover-clause-passes : goal.returns-then-cover-clause-passes
returns-then-cover-clause-passes c =
    let points = points_of c.args.cloud in
    let a = four_of c.args.a.now in
    let leaves_are = ap (map leaf_of) c.as_slice-leaves.ensures.items in
    let few = c.if-leaves-gt-MOST_LEAVES.false in
    let same = length-map c.as_slice-leaves.result.now leaf_of in
    decided 4 points a c.as_slice-squares.result.now (map leaf_of c.as_slice-leaves.result.now) (PassesFour points a) (λ side leaves. AreFourLeaves side points leaves) c.as_slice-squares.ensures.value leaves_are
    (c.is_within_limits.ensures.0 c.if-not-is_within_limits.false) (c.cover.ensures.0 c.if-cover.true) c.side.ensures.value c.are_leaves.ensures
    (four_pass points a c.args.cloud.limited (subst (λ ls. length ls ≤ 16000) leaves_are (omega (arith, few, same))))

pub returns-then-cover-clause-best : goal.returns-then-cover-clause-best
returns-then-cover-clause-best c = λ yes. c.passing_four_are_best.ensures (points_of c.args.cloud) (four_of c.args.a.now) ((returns-then-cover-clause-passes c).0 yes)

pub returns-else-cover-clause-passes : goal.returns-else-cover-clause-passes
returns-else-cover-clause-passes c = (
  λ yes. absurd (clash yes c.if-cover.false),
  λ p. c.cover.ensures.1 (subst (λ squares. All (λ q. Any (IsNear c.args.a.now.size q) squares) (points_of c.args.cloud)) (sym c.as_slice-squares.ensures.value) p.covers.near),
)
