use Rattle.std.proofs.Common.{sym, subst, length, map}
use Rattle.bounded_coords.specs.Clouds.{points_of}
use Rattle.answers.specs.Answers.{entry_of, furthest_of}
use Rattle.bounds_model.specs.FurthestAnswer.{PassesFurthest}
use Rattle.furthest_check.specs.RowTests.{HasFurthestLimits}
use Rattle.furthest_check.proofs.Passing.{limits_if}
use Rattle.furthest_check.proofs.neighbours.check_furthest.Goals as goal

pub returns-then-not-has_limits-clause-passes : goal.returns-then-not-has_limits-clause-passes
returns-then-not-has_limits-clause-passes c = (
  λ yes. absurd (cc yes),
  λ p. let yes = c.has_limits.ensures.1 (subst (λ es. HasFurthestLimits (length (points_of c.args.cloud)) (map entry_of es)) (sym c.as_slice-entries.ensures.items)
      (limits_if (points_of c.args.cloud) (map entry_of c.args.a.now.entries) c.args.a.now.size p)) in absurd (cc yes),
)

pub returns-clause-furthest : goal.returns-clause-furthest
returns-clause-furthest c = λ yes. c.passing_answers_are_furthest.ensures (points_of c.args.cloud) (furthest_of c.args.a.now)
    (subst (λ es. PassesFurthest (points_of c.args.cloud) (record { size = c.args.a.now.size; entries = map entry_of es })) c.as_slice-entries.ensures.items (c.passes.ensures.0 yes))
