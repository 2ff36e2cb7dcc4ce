use Rattle.std.proofs.Common.{◌<◌}
use Rattle.bounds_model.specs.Numbers.{EachBelow}
use Rattle.answers.specs.Answers.{polygon_of}
use Rattle.polygon_check.specs.PolygonLimits.{RaisesBetween}
use Rattle.polygon_check.proofs.potentials.raise_from.Given as goal

-- the triangles with last corners before this one raise the potentials
abbrev pub invariant-lasts : goal.invariant-lasts
invariant-lasts l = EachBelow l.last (λ last. l.first < last → RaisesBetween l.corners (polygon_of l.a) l.first last)
