use Rattle.std.proofs.Common.{sym, subst, ◌+◌}
use Rattle.bounded_coords.specs.Clouds.{points_of}
use Rattle.corner_squares.specs.Extents.{IsFound}
use Rattle.corner_squares.proofs.Boxes.{box_more, found_same}
use Rattle.centres_check.proofs.boxes.bounding_box.Goals as goal
use Rattle.centres_check.proofs.boxes.bounding_box.Goals.{then-not-any_contains, else-not-any_contains}

pub loop-i-preserved : goal.loop-i-preserved
loop-i-preserved c = elim c.if-not-any_contains.branch [
  | then-not-any_contains w ↦ subst (IsFound (points_of c.args.cloud) c.args.placed.now (c.loop-i.i + 1)) (sym w.found-is)
      (box_more (points_of c.args.cloud) c.args.placed.now c.loop-i.i c.at-p.result.now c.loop-i.found w.grown.result c.at-p.ensures
      (λ covered. let yes = c.any_contains.ensures.1 covered in let no = w.if-not-any_contains.true in absurd (cc (yes, no))) w.grown.ensures.plane c.loop-i.invariant w.grown.ensures.adds)
  | else-not-any_contains w ↦ subst (IsFound (points_of c.args.cloud) c.args.placed.now (c.loop-i.i + 1)) (sym w.found-is)
      (found_same (points_of c.args.cloud) c.args.placed.now c.loop-i.i c.at-p.result.now c.loop-i.found c.at-p.ensures (c.any_contains.ensures.0 w.if-not-any_contains.false) c.loop-i.invariant)
]
