use Rattle.std.specs.Prelude.{take}
use Rattle.bounds_model.specs.EmptyAnswer.{IsEmpty}
use Rattle.bounded_coords.specs.Clouds.{points_of}
use Rattle.empty_check.proofs.empty_rectangles.is_none_inside.Given as goal

-- none of the points before i is inside
abbrev pub invariant-loop-i : goal.invariant-loop-i
invariant-loop-i l = IsEmpty (take l.i (points_of l.cloud)) l.rectangle
