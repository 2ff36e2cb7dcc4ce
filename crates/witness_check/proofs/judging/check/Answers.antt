use Rattle.witness_check.proofs.judging.check.Goals as goal

pub returns-in-Empty-Plane-Empty-clause-passes : goal.returns-in-Empty-Plane-Empty-clause-passes
returns-in-Empty-Plane-Empty-clause-passes c = rw (c.in-Empty-Plane-Empty.is-0, c.in-Empty-Plane-Empty.is-1, c.in-Empty-Plane-Empty.is-2) c.check_empty.ensures.passes

pub returns-in-Empty-Bare-Empty-clause-passes : goal.returns-in-Empty-Bare-Empty-clause-passes
returns-in-Empty-Bare-Empty-clause-passes c = rw (c.in-Empty-Bare-Empty.is-0, c.in-Empty-Bare-Empty.is-1, c.in-Empty-Bare-Empty.is-2) c.check_empty-in-Empty-Bare-Empty.ensures.passes
