use Rattle.std.proofs.Common.{refl, sym, ◌∙◌, ap, ap₂, subst, ◌+◌, ◌-◌, ◌/◌, ◌≤ℤ◌, to_z, of_z, w64, arith}
use Rattle.bounds_model.specs.Plane.{dot}
use Rattle.fan_test.specs.Directions.{direction_of}
use Rattle.fan_test.proofs.Halving.{HasEdge, whole_arc, stays, moves, one_left, found}
use Rattle.fan_test.proofs.Comparisons.{kept, tested_lt, tested_ge}
use Rattle.fan_test.proofs.chain.edge_for.Goals as goal
use Rattle.fan_test.proofs.chain.edge_for.Goals.{then-dot-along, else-dot-along}

pub halves-init : goal.halves-init
halves-init g c = whole_arc (g.C.Chain.directions c.args.chain.now) (g.C.Chain.points c.args.chain.now) c.args.from c.args.to (dot (direction_of c.args.first) c.args.p) _ c.requires.inner refl

pub halves-preserved : goal.halves-preserved
halves-preserved g c =
    let D = g.C.Chain.directions c.args.chain.now in
    let H = g.C.Chain.points c.args.chain.now in
    let along = dot (direction_of c.args.first) c.args.p in
    let size = c.halves.size in
    let half = size / 2 in
    let middle = kept c.dot.type_inv (c.dot.ensures.value ∙ ap₂ dot c.requires.first c.point.ensures) in
    let limit = kept c.dot-along.type_inv c.dot-along.ensures.value in
    elim c.if-dot-along.branch [
      | then-dot-along w ↦ subst (λ k. HasEdge D H c.args.from c.args.to along k (size - half)) (sym w.low-is) (stays D H c.args.from c.args.to along c.halves.low size half c.requires.arc c.halves.invariant c.halves-test.true (omega arith) (subst (λ z. dot (D c.args.from) (H (c.halves.low + half)) ≤ℤ z) limit (tested_lt w.if-dot-along.true middle)))
      | else-dot-along w ↦ subst (λ k. HasEdge D H c.args.from c.args.to along k (size - half)) (sym w.low-is) (moves D H c.args.from c.args.to along c.halves.low size half c.halves.invariant c.halves-test.true (omega arith) (subst (λ z. z ≤ℤ dot (D c.args.from) (H (c.halves.low + half))) limit (tested_ge w.if-dot-along.false middle)))
    ]

pub returns : goal.returns
returns g c =
    let D = g.C.Chain.directions c.args.chain.now in
    let H = g.C.Chain.points c.args.chain.now in
    let along = dot (direction_of c.args.first) c.args.p in
    found D H c.args.from c.args.to c.args.p along c.halves.low (one_left D H c.args.from c.args.to along c.halves.low c.halves.size c.halves.invariant c.halves-test.false) (ap (λ d. dot d c.args.p) c.requires.first)
