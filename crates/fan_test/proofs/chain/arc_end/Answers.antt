use Rattle.std.proofs.Common.{◌≡◌, ◌∙◌, ap, ap₂, subst, ℕ, ◌+◌, ◌-◌, ◌≤ℤ◌, arith}
use Rattle.bounds_model.specs.Plane.{cross, dot}
use Rattle.fan_test.specs.Chains.{IsArc}
use Rattle.fan_test.proofs.Comparisons.{kept, tested_positive, tested_ge, tested_above}
use Rattle.fan_test.proofs.Steps.{edge_at, joint_at, arc_more}
use Rattle.fan_test.proofs.chain.arc_end.Goals as goal

pub returns-then-after-before-clause-none : goal.returns-then-after-before-clause-none
returns-then-after-before-clause-none g c =
    λ none edges.
    let D = g.C.Chain.directions c.args.chain.now in
    let H = g.C.Chain.points c.args.chain.now in
    let left = tested_positive c.cross.type_inv c.if-cross-le0.false (c.cross.ensures ∙ ap₂ cross c.direction-first.ensures.value c.direction-next.ensures.value) in
    let edge = edge_at D H c.args.from c.edges.to (g.C.Chain.cones c.args.chain.now) (omega arith) (omega arith) c.edges.invariant.arc left edges in
    tested_above c.if-after-before.true c.edges.invariant.before (kept c.dot-after.type_inv (c.dot-after.ensures.value ∙ ap₂ dot c.direction-first.ensures.value c.point-in-edges.ensures)) edge.falling

pub edges-preserved : goal.edges-preserved
edges-preserved g c =
    let D = g.C.Chain.directions c.args.chain.now in
    let H = g.C.Chain.points c.args.chain.now in
    let left = tested_positive c.cross.type_inv c.if-cross-le0.false (c.cross.ensures ∙ ap₂ cross c.direction-first.ensures.value c.direction-next.ensures.value) in
    let level = joint_at D H c.args.from c.edges.to (g.C.Chain.cones c.args.chain.now) (omega arith) (omega arith) c.requires.joined in
    let after = kept c.dot-after.type_inv (c.dot-after.ensures.value ∙ ap₂ dot c.direction-first.ensures.value c.point-in-edges.ensures) in
    let falling = subst (λ z. z ≤ℤ dot (D c.args.from) (H (c.edges.to - 1))) after (tested_ge c.if-after-before.false c.edges.invariant.before) in
    record {
      arc = arc_more D H c.args.from c.edges.to (omega arith) c.edges.invariant.arc left (record { level = level; falling = falling });
      before = after ∙ ap (λ k. dot (D c.args.from) (H k)) (back c.edges.to);
    }
  where
    back : (n : ℕ) → n ≡ n + 1 - 1
    back n = omega arith

pub returns-clause-arc : goal.returns-clause-arc
returns-clause-arc g c = (
  omega arith,
  omega arith,
  subst (λ k. IsArc (g.C.Chain.directions c.args.chain.now) (g.C.Chain.points c.args.chain.now) c.args.from k) (omega arith) c.edges.invariant.arc,
)
