use Rattle.std.proofs.Common.{◌≡◌, sym, subst, ap, ◌≤◌, map, IsTrue, ◌↔◌}
use Rattle.std.proofs.lemmas.List.{length-map}
use Rattle.bounds_model.specs.DistanceAnswer.{PassesDistance}
use Rattle.bounds_model.specs.Asks.{ask_distance, two}
use Rattle.bounds_model.specs.Answers.{distance}
use Rattle.bounded_coords.specs.Clouds.{points_of}
use Rattle.answers.specs.Answers.{pair_of, distance_of}
use Rattle.distance_check.specs.DeterminedDistances.{answer_by}
use Rattle.distance_check.proofs.DistancePassing.{distance_limits, distance_decided}
use Rattle.distance_check.proofs.distances.check_distance.Goals as goal

pub returns-in-Some-clause-passes : goal.returns-in-Some-clause-passes
returns-in-Some-clause-passes c =
    let ps = points_of c.args.p in
    let qs = points_of c.args.q in
    let pairs = c.as_slice-pairs.result.now in
    let a = answer_by c.args.a.now (map pair_of pairs) in
    let is : a ≡ distance_of c.args.a.now = ap (λ pairs. answer_by c.args.a.now (map pair_of pairs)) c.as_slice-pairs.ensures.value in
    let four = subst (λ n. n ≤ 4) (sym (length-map pairs pair_of)) c.as_slice-pairs.ensures.fits in
    subst (λ b. IsTrue c.is_shown.result ↔ PassesDistance ps qs b) is (distance_decided ps qs a c.args.p.limited c.args.q.limited four c.in-Some.ensures.0 c.is_shown.ensures)

pub returns-in-Some-clause-best : goal.returns-in-Some-clause-best
returns-in-Some-clause-best c = λ yes.
    c.passing_answers_are_best.ensures ask_distance (two (points_of c.args.p) (points_of c.args.q)) (distance (distance_of c.args.a.now)) ((returns-in-Some-clause-passes c).0 yes)

pub returns-in-None-clause-passes : goal.returns-in-None-clause-passes
returns-in-None-clause-passes c =
    let ps = points_of c.args.p in
    let qs = points_of c.args.q in
    let a = answer_by c.args.a.now (map pair_of c.as_slice-pairs.result.now) in
    let is : a ≡ distance_of c.args.a.now = ap (λ pairs. answer_by c.args.a.now (map pair_of pairs)) c.as_slice-pairs.ensures.value in
    (λ yes. absurd (cc yes), λ p. absurd (c.in-None.ensures (distance_limits ps qs a (subst (PassesDistance ps qs) (sym is) p))))
