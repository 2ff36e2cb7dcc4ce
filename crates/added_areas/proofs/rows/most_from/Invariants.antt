use Rattle.std.proofs.Common.{◌≡◌, ◌-◌, length, map, ◌+ℤ◌}
use Rattle.bounds_model.specs.Plane.{point_at, cross}
use Rattle.bounds_model.specs.Kgon.{greatest_from}
use Rattle.added_areas.specs.PlaneVectors.{vector_of}
use Rattle.added_areas.specs.AddedRows.{most_after}
use Rattle.added_areas.proofs.rows.most_from.Given as goal

abbrev pub invariant-later : goal.invariant-later
invariant-later l = l.most ≡ greatest_from (λ next. cross (point_at (map vector_of l.vectors) l.last) (point_at (map vector_of l.vectors) next) +ℤ most_after (map vector_of l.vectors) l.layer next) (length l.vectors - l.passed) l.passed
