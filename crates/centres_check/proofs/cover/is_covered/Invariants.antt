use Rattle.std.proofs.Common.{ℕ, ◌<◌}
use Rattle.std.specs.Prelude.{slice_index_or}
use Rattle.bounds_model.specs.Plane.{PlaneRatio}
use Rattle.bounds_model.specs.Centres.{IsNear}
use Rattle.centres_check.proofs.cover.is_covered.Given as goal

abbrev pub invariant-loop-c : goal.invariant-loop-c
invariant-loop-c l = (k : ℕ) (d : PlaneRatio) → k < l.c-index → IsNear l.radius l.p (slice_index_or l.squares k d) → ⊥
