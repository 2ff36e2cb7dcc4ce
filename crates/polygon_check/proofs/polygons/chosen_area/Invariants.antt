use Rattle.std.proofs.Common.{◌≡◌, ℕ, suc, ◌*◌, ◌≤◌, ◌^◌, ◌+ℤ◌, map}
use Rattle.std.specs.Prelude.{drop}
use Rattle.integers.specs.Size.{Size}
use Rattle.bounds_model.specs.Plane.{point_at}
use Rattle.bounds_model.specs.Kgon.{triangulated_area, twice_area}
use Rattle.polygon_check.proofs.polygons.chosen_area.Given as goal

-- the triangles so far and those that are left are all triangles
abbrev pub invariant-chosen : goal.invariant-chosen
invariant-chosen l =
    let ps = map (point_at l.corners) l.chosen in
    (1 ≤ l.i) × Size (l.i * 2 ^ 39) l.area × ((k : ℕ) → l.i ≡ suc k → (l.area +ℤ triangulated_area (point_at ps 0) (drop k ps)) ≡ twice_area ps)
