use Rattle.std.proofs.Common.{sym, subst, ap, ◌≤◌, length, map, All, Any}
use Rattle.std.proofs.lemmas.List.{length-map}
use Rattle.bounds_model.specs.Asks.{ask_centres, plane}
use Rattle.bounds_model.specs.Answers.{centres}
use Rattle.bounds_model.specs.Centres.{IsNear}
use Rattle.bounds_model.specs.CentresAnswer.{PassesCentres, AreLeaves}
use Rattle.bounded_coords.specs.Clouds.{points_of}
use Rattle.answers.specs.Answers.{leaf_of, centres_of}
use Rattle.integers.proofs.Lists.{clash}
use Rattle.centres_check.proofs.CentresPassing.{centres_pass, decided}
use Rattle.centres_check.proofs.centres.check_centres.Goals as goal

pub returns-then-cover-clause-passes : goal.returns-then-cover-clause-passes
returns-then-cover-clause-passes c =
    let points = points_of c.args.cloud in
    let a = centres_of c.args.a.now in
    let leaves_are = ap (map leaf_of) c.as_slice-leaves.ensures.value in
    decided c.args.p points a c.as_slice-squares.result.now (map leaf_of c.as_slice-leaves.result.now) (PassesCentres c.args.p points a) (λ side leaves. AreLeaves side c.args.p points leaves) c.as_slice-squares.ensures.value leaves_are
    (c.is_within_limits.ensures.0 c.if-not-is_within_limits.false) (c.cover.ensures.0 c.if-cover.true) c.side.ensures.value c.are_leaves.ensures
    (centres_pass c.args.p points a c.requires.some c.args.cloud.limited (subst (λ ss. length ss ≤ 3) c.as_slice-squares.ensures.value c.as_slice-squares.ensures.fits)
    (subst (λ ls. length ls ≤ 16) leaves_are (subst (λ n. n ≤ 16) (sym (length-map c.as_slice-leaves.result.now leaf_of)) c.as_slice-leaves.ensures.fits)))

pub returns-then-cover-clause-best : goal.returns-then-cover-clause-best
returns-then-cover-clause-best c = λ yes.
    c.passing_answers_are_best.ensures (ask_centres c.args.p) (plane (points_of c.args.cloud)) (centres (centres_of c.args.a.now)) ((returns-then-cover-clause-passes c).0 yes)

pub returns-else-cover-clause-passes : goal.returns-else-cover-clause-passes
returns-else-cover-clause-passes c = (
  λ yes. absurd (clash yes c.if-cover.false),
  λ p. c.cover.ensures.1 (subst (λ squares. All (λ q. Any (IsNear c.args.a.now.size q) squares) (points_of c.args.cloud)) (sym c.as_slice-squares.ensures.value) p.covers.near),
)
