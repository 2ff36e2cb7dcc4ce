use Rattle.std.proofs.Common.{rules, sym, subst, ◌+◌, arith}
use Rattle.bounded_coords.specs.Clouds.{counted_points}
use Rattle.corner_squares.specs.Extents.{IsBox}
use Rattle.p_centres.specs.Surveys.{IsFound}
use Rattle.p_centres.proofs.Finding.{box_next, found_same, far_pair, found_all, found_none}
use Rattle.p_centres.proofs.surveys.survey.Goals as goal
use Rattle.p_centres.proofs.surveys.survey.Goals.{then-not-any_contains+in_default, else-not-any_contains}

pub far_apart-requires-clause-across : goal.far_apart-requires-clause-across
far_apart-requires-clause-across g c =
    (box_next (counted_points c.args.cloud) c.args.squares.now c.args.limit c.loop-i.i c.point-p.result.now c.loop-i.found c.grown-bounds.result c.point-p.ensures.point
    (λ covered. let yes = c.any_contains.ensures.1 covered in absurd (cc yes)) c.grown-bounds.ensures.plane c.loop-i.invariant.found c.grown-bounds.ensures.adds).across.plane

pub far_apart-requires-clause-up : goal.far_apart-requires-clause-up
far_apart-requires-clause-up g c =
    (box_next (counted_points c.args.cloud) c.args.squares.now c.args.limit c.loop-i.i c.point-p.result.now c.loop-i.found c.grown-bounds.result c.point-p.ensures.point
    (λ covered. let yes = c.any_contains.ensures.1 covered in absurd (cc yes)) c.grown-bounds.ensures.plane c.loop-i.invariant.found c.grown-bounds.ensures.adds).up.plane

pub returns-in-Some-clause-found : goal.returns-in-Some-clause-found
returns-in-Some-clause-found g c =
    far_pair (counted_points c.args.cloud) c.args.squares.now c.loop-i.i c.args.limit c.point-p.result.now c.loop-i.found c.grown-bounds.result c.in-Some.leaf c.loop-i.invariant.found c.grown-bounds.ensures.adds
    (box_next (counted_points c.args.cloud) c.args.squares.now c.args.limit c.loop-i.i c.point-p.result.now c.loop-i.found c.grown-bounds.result c.point-p.ensures.point
    (λ covered. let yes = c.any_contains.ensures.1 covered in absurd (cc yes)) c.grown-bounds.ensures.plane c.loop-i.invariant.found c.grown-bounds.ensures.adds) c.in-Some.ensures

pub loop-i-preserved : goal.loop-i-preserved
loop-i-preserved g c = elim c.if-not-any_contains.branch [
  | then-not-any_contains+in_default w ↦
      let box : IsBox (counted_points c.args.cloud) c.args.squares.now (c.loop-i.i + 1) w.grown-bounds.result =
      box_next (counted_points c.args.cloud) c.args.squares.now c.args.limit c.loop-i.i c.point-p.result.now c.loop-i.found w.grown-bounds.result c.point-p.ensures.point
      (λ covered. let yes = c.any_contains.ensures.1 covered in let no = w.if-not-any_contains.true in absurd (cc (yes, no))) w.grown-bounds.ensures.plane c.loop-i.invariant.found w.grown-bounds.ensures.adds in
      record {
        found = subst (IsFound (counted_points c.args.cloud) c.args.squares.now c.args.limit (c.loop-i.i + 1)) (sym w.found-is) (box, w.in_default.ensures);
        steps = search rules;
      }
  | else-not-any_contains w ↦ record {
    found = subst (IsFound (counted_points c.args.cloud) c.args.squares.now c.args.limit (c.loop-i.i + 1)) (sym w.found-is)
        (found_same (counted_points c.args.cloud) c.args.squares.now c.args.limit c.loop-i.i c.point-p.result.now c.loop-i.found c.point-p.ensures.point (c.any_contains.ensures.0 w.if-not-any_contains.false) c.loop-i.invariant.found);
    steps = search rules;
  }
]

pub returns-in-Some-found-clause-found : goal.returns-in-Some-found-clause-found
returns-in-Some-found-clause-found g c = found_all (counted_points c.args.cloud) c.args.squares.now c.args.limit c.loop-i.i c.loop-i.found c.in-Some-found.bounds (omega arith) c.in-Some-found.is c.loop-i.invariant.found

pub returns-in-None-clause-found : goal.returns-in-None-clause-found
returns-in-None-clause-found g c = found_none (counted_points c.args.cloud) c.args.squares.now c.args.limit c.loop-i.i c.loop-i.found (omega arith) c.in-None.is c.loop-i.invariant.found
