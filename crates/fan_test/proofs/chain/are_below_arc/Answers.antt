use Rattle.std.proofs.Common.{refl, ◌≡◌, sym, ◌∙◌, ap, ap₂, subst, ◌⊎◌, inl, inr, ℕ, ◌+◌, ◌-◌, ◌/◌, ◌<◌, ◌≤◌, pos, ◌≤ℤ◌, length, arith}
use Rattle.std.specs.Int.{int_min}
use Rattle.std.proofs.lemmas.Option.{slice_get-get_or}
use Rattle.integers.proofs.Lists.{clash, each_more, at_point}
use Rattle.bounds_model.specs.Plane.{PlanePoint, point_at, origin}
use Rattle.bounded_coords.specs.Clouds.{points_of}
use Rattle.fan_test.specs.Chains.{Turns, IsWithinEach}
use Rattle.fan_test.proofs.Comparisons.{kept, tested_at_most_zero, one_at_most_zero}
use Rattle.fan_test.proofs.Domination.{dominated_at, on_whole_arc}
use Rattle.fan_test.proofs.chain.are_below_arc.Goals as goal

pub loop-i-preserved-then-named-i : goal.loop-i-preserved-then-named-i
loop-i-preserved-then-named-i g c =
    let D = g.C.Chain.directions c.args.chain.now in
    let H = g.C.Chain.points c.args.chain.now in
    let from = c.args.from in
    let to = c.args.to in
    let points = points_of c.args.cloud in
    let i = c.loop-i.i in
    let below : i < length points = subst (λ n. i < n) c.len-i-end.ensures.count c.loop-i-test.true in
    let mark = c.named_on-named.ensures i c.if-named-i.true in
    let is : H mark.0 ≡ point_at points i = sym mark.3 ∙ ap (λ cloud. point_at cloud i) c.requires.same in
    each_more (IsWithinEach D H from to) points i (point_at points i) (slice_get-get_or points i origin below) c.loop-i.invariant
    (subst (IsWithinEach D H from to) is (on_whole_arc D H from to mark.0 (λ k less. c.requires.turns k (omega arith)) c.requires.arc c.requires.inner mark.1 mark.2))

pub loop-i-preserved-then-min-le0 : goal.loop-i-preserved-then-min-le0
loop-i-preserved-then-min-le0 g c =
    let D = g.C.Chain.directions c.args.chain.now in
    let H = g.C.Chain.points c.args.chain.now in
    let from = c.args.from in
    let to = c.args.to in
    let p = c.at-p.result.now in
    let turns : Turns D to = λ k less. c.requires.turns k (omega arith) in
    let begin = c.excess.result in
    let middle = c.excess-in-loop-i.result in
    let end = c.excess-in-loop-i-2.result in
    let least = c.min-least.result in
    let out = c.reach_of-out.ensures in
    let is_first = c.direction-first.ensures.value in
    let is_last = c.direction-last.ensures.value in
    let of_three = one_at_most_zero _ least end (kept c.min.type_inv (c.min.ensures.value ∙ ap₂ int_min (kept {r = least} {a = least} c.min-least.type_inv refl) (kept {r = end} {a = end} c.excess-in-loop-i-2.type_inv refl))) (tested_at_most_zero c.if-min-le0.true) in
    let of_two = one_at_most_zero least begin middle (c.min-least.ensures.value ∙ ap₂ int_min (kept {r = begin} {a = begin} c.excess.type_inv refl) (kept {r = middle} {a = middle} c.excess-in-loop-i.type_inv refl)) in
    let below : IsWithinEach D H from to p = elim of_three [
      | inl two ↦ elim (of_two two) [
        | inl small ↦ dominated_at D H from to from _ _ _ p turns c.requires.arc c.requires.inner (omega arith) (omega arith) is_first is_last c.point.ensures out.first out.last c.reach_of-begin.ensures.first c.reach_of-begin.ensures.last (c.excess.ensures.0 small)
        | inr small ↦ dominated_at D H from to (from + (to - from) / 2) _ _ _ p turns c.requires.arc c.requires.inner (omega arith) (omega arith) is_first is_last c.point-2.ensures out.first out.last c.reach_of-middle.ensures.first c.reach_of-middle.ensures.last (c.excess-in-loop-i.ensures.0 small)
      ]
      | inr small ↦ dominated_at D H from to (to - 1) _ _ _ p turns c.requires.arc c.requires.inner (omega arith) (omega arith) is_first is_last c.point-3.ensures out.first out.last c.reach_of-end.ensures.first c.reach_of-end.ensures.last (c.excess-in-loop-i-2.ensures.0 small)
    ] in
    each_more (IsWithinEach D H from to) (points_of c.args.cloud) c.loop-i.i p c.at-p.ensures c.loop-i.invariant below

pub returns-then-not-is_below_arc : goal.returns-then-not-is_below_arc
returns-then-not-is_below_arc g c =
    let D = g.C.Chain.directions c.args.chain.now in
    let H = g.C.Chain.points c.args.chain.now in (
      λ yes. absurd (clash yes refl),
      λ all. absurd (clash (c.is_below_arc.ensures.1 (at_point (IsWithinEach D H c.args.from c.args.to) (points_of c.args.cloud) c.loop-i.i c.at-p.result.now c.at-p.ensures all)) c.if-not-is_below_arc.true),
    )

pub loop-i-preserved : goal.loop-i-preserved
loop-i-preserved g c =
    let D = g.C.Chain.directions c.args.chain.now in
    let H = g.C.Chain.points c.args.chain.now in
    each_more (IsWithinEach D H c.args.from c.args.to) (points_of c.args.cloud) c.loop-i.i c.at-p.result.now c.at-p.ensures c.loop-i.invariant (c.is_below_arc.ensures.0 c.if-not-is_below_arc.false)

pub returns : goal.returns
returns g c = (
  λ yes. λ k d low. c.loop-i.invariant k d (omega arith),
  λ all. refl,
)
