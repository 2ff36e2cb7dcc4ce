use Rattle.std.proofs.Common.{◌≡◌, ◌⊎◌, ◌≤◌, length}
use Rattle.std.specs.List.{AllWithin}
use Rattle.empty_rectangle.specs.Rectangles.{Covers, IsRestricted}
use Rattle.empty_rectangle.specs.Seeds.{corner, above, beside}
use Rattle.empty_rectangle.proofs.search.search.Given as goal

-- the corner and the seeds above the obstacles before i are covered
abbrev pub invariant-above : goal.invariant-above
invariant-above l = record {
  at_corner : Covers l.obstacles l.fn.extent corner l.best.area;
  all_above : AllWithin (λ s. Covers l.obstacles l.fn.extent (above s) l.best.area) l.obstacles 0 l.i;
  kept : l.fn.start.area ≤ l.best.area;
  restricted : (l.best ≡ l.fn.start) ⊎ IsRestricted l.obstacles l.fn.extent l.best;
}

-- these and the seeds beside the obstacles before i are covered
abbrev pub invariant-beside : goal.invariant-beside
invariant-beside l = record {
  at_corner : Covers l.obstacles l.fn.extent corner l.best.area;
  all_above : AllWithin (λ s. Covers l.obstacles l.fn.extent (above s) l.best.area) l.obstacles 0 (length l.obstacles);
  all_beside : AllWithin (λ s. Covers l.obstacles l.fn.extent (beside s) l.best.area) l.obstacles 0 l.i;
  kept : l.fn.start.area ≤ l.best.area;
  restricted : (l.best ≡ l.fn.start) ⊎ IsRestricted l.obstacles l.fn.extent l.best;
}
