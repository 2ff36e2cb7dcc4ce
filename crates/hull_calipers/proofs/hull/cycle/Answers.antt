use Rattle.std.proofs.Common.{rules, ◌≡◌, ◌≢◌, ◌<◌, ◌-◌, ◌++◌, take, length, reverse, subst, sym}
use Rattle.bounded_coords.specs.Clouds.{points_of}
use Rattle.hull_calipers.specs.Keys.{AreOrdered, rightward, placed}
use Rattle.hull_calipers.specs.Chains.{AreAlong}
use Rattle.hull_calipers.specs.Hulls.{IsHull}
use Rattle.hull_calipers.proofs.Cycles.{opposite}
use Rattle.hull_calipers.proofs.HullCycles.{hull_of_one, hull_of_two, back_order, some_keys}
use Rattle.hull_calipers.proofs.hull.cycle.Goals as goal

pub returns-then-len-eq1 : goal.returns-then-len-eq1
returns-then-len-eq1 c =
    let order = subst (AreOrdered (points_of c.args.cloud)) (sym c.deref.ensures.value) c.requires in
    hull_of_one (points_of c.args.cloud) c.deref.result.now c.in_ok-lower.lower.items order c.in_ok-lower.ensures.listed
    (c.in_ok-lower.ensures.chain rightward order.along (some_keys (points_of c.args.cloud) c.deref.result.now c.args.cloud.not_empty order)) (search rules)

pub returns : goal.returns
returns c =
    let order = subst (AreOrdered (points_of c.args.cloud)) (sym c.deref.ensures.value) c.requires in
    let some = some_keys (points_of c.args.cloud) c.deref.result.now c.args.cloud.not_empty order in
    let back : c.deref-2.result.now ≡ reverse c.deref.result.now = search rules in
    let back_some : 0 < length c.deref-2.result.now = search rules in
    let along = subst (λ l. AreAlong (opposite rightward) (placed (points_of c.args.cloud) l)) (sym back) (back_order (points_of c.args.cloud) c.deref.result.now order.along) in
    let joined : c.extend_from_slice.new.self.items ≡ take (length c.in_ok-lower.lower.items - 1) c.in_ok-lower.lower.items ++ take (length c.in_ok-upper.upper.items - 1) c.in_ok-upper.upper.items = search rules in
    let more : length c.in_ok-lower.lower.items ≢ 1 = search rules in
    subst (IsHull (points_of c.args.cloud)) (sym joined)
    (hull_of_two (points_of c.args.cloud) c.deref.result.now c.deref-2.result.now c.in_ok-lower.lower.items c.in_ok-upper.upper.items order back c.in_ok-lower.ensures.listed c.in_ok-upper.ensures.listed
    (c.in_ok-lower.ensures.chain rightward order.along some) (c.in_ok-upper.ensures.chain (opposite rightward) along back_some) more)
