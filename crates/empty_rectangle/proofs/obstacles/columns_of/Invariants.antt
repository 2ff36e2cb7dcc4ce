use Rattle.std.proofs.Common.{◌≡◌, take}
use Rattle.empty_rectangle.specs.Rectangles.{columns}
use Rattle.empty_rectangle.proofs.obstacles.columns_of.Given as goal

-- the x of the obstacles before i are listed
abbrev pub invariant-columns : goal.invariant-columns
invariant-columns l = record {
  listed : l.xs.items ≡ columns (take l.i l.obstacles);
}
