use Rattle.bounds_model.specs.Numbers.{EachBelow}
use Rattle.answers.specs.Answers.{polygon_of}
use Rattle.polygon_check.specs.PolygonLimits.{RaisesFrom}
use Rattle.polygon_check.proofs.potentials.raise_all.Given as goal

-- the triangles with first corners before this one raise the potentials
abbrev pub invariant-firsts : goal.invariant-firsts
invariant-firsts l = EachBelow l.first (λ first. RaisesFrom l.corners (polygon_of l.a) first)
