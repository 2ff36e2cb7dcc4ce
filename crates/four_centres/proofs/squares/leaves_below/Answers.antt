use Rattle.std.proofs.Common.{refl, sym, subst, ◌≡◌, ◌≢◌, ◌∙◌, ap, ℕ, zero, suc, ◌+◌, ◌-◌, ℤ, List, ◌++◌, length, map, arith}
use Rattle.std.specs.Prelude.{slice_index_or}
use Rattle.std.proofs.lemmas.List.{length-map}
use Rattle.bounded_coords.specs.Clouds.{counted_points}
use Rattle.answers.specs.Answers.{leaf_of}
use Rattle.four_centres.specs.Heights.{IsDone}
use Rattle.four_centres.specs.Search.{AreFourLeavesOf}
use Rattle.four_centres.proofs.LeafLists.{later_reach, all_leaves}
use Rattle.bounds_model.specs.Plane.{PlanePoint}
use Rattle.bounds_model.specs.CentresAnswer as model
use Rattle.corner_squares.specs.declared.least.Least.{Least}
use Rattle.four_centres.specs.Search.{AreLeavesFrom, AreLeavesSince, AreKept}
use Rattle.four_centres.proofs.KeptLeaves.{with_kept}
use Rattle.four_centres.proofs.squares.leaves_below.Goals as goal

one_more : (k : ℕ) → k ≢ 0 → k ≡ k - 1 + 1
one_more k some = omega (arith, some)

pub leaves_from-requires-clause-reaches : goal.leaves_from-requires-clause-reaches
leaves_from-requires-clause-reaches g c = later_reach (counted_points c.args.cloud) c.args.least c.args.heights.now (c.args.side - 1) c.first_reaching-from.result c.requires.heights c.first_reaching-from.ensures

pub leaves_from-requires-clause-done : goal.leaves_from-requires-clause-done
leaves_from-requires-clause-done g c = λ k d below. subst (IsDone (counted_points c.args.cloud) c.args.least (slice_index_or c.args.heights.now k d)) (one_more c.args.side c.if-side-eq0.false) (c.requires.done k d below)

-- where a side is less by 1
since_less : (side : ℕ) (points : List PlanePoint) (least : Least) (heights : List ℤ) (since i : ℕ) (leaves : List model.Leaf) → side ≢ 0 → AreKept side points least heights since i leaves → AreLeavesSince (side - 1) points least heights since i leaves
since_less zero points least heights since i leaves some h = absurd (some refl)
since_less (suc side) points least heights since i leaves some h = subst (λ k. AreLeavesSince k points least heights since i leaves) less h
  where
    less : side ≡ suc side - 1
    less = omega arith

pub leaves_from-requires-clause-to : goal.leaves_from-requires-clause-to
leaves_from-requires-clause-to g c =
    let h = since_less c.args.side (counted_points c.args.cloud) c.args.least c.args.heights.now c.args.kept.since (length c.args.heights.now) (map leaf_of c.args.kept.leaves) c.if-side-eq0.false c.requires.kept in
    let a = h.since_from in
    let b = h.to_i in
    let w = c.first_reaching-from.ensures.within in
    let is = c.max-to.ensures in
    omega (arith, a, b, w, is)

pub append-requires : goal.append-requires
append-requires g c =
    let h = since_less c.args.side (counted_points c.args.cloud) c.args.least c.args.heights.now c.args.kept.since (length c.args.heights.now) (map leaf_of c.args.kept.leaves) c.if-side-eq0.false c.requires.kept in
    let earlier = c.in_ok-leaves.ensures.leaves.as_many in
    let same = length-map c.in_ok-leaves.leaves leaf_of in
    let kept = h.are.as_many in
    let kept_same = length-map c.args.kept.leaves leaf_of in
    let slice = ap length c.as_slice.ensures.items in
    let since = h.since_from in
    let to_i = h.to_i in
    let within = c.first_reaching-from.ensures.within in
    let is = c.max-to.ensures in
    let few = c.requires.heights.few in
    let most = c.requires.few in
    omega (arith, earlier, same, kept, kept_same, slice, since, to_i, within, is, few, most)

pub returns-clause-leaves : goal.returns-clause-leaves
returns-clause-leaves g c =
    let points = counted_points c.args.cloud in
    let heights = c.args.heights.now in
    let less = c.args.side - 1 in
    let from = c.first_reaching-from.result in
    let since = c.args.kept.since in
    let h = since_less c.args.side points c.args.least heights since (length heights) (map leaf_of c.args.kept.leaves) c.if-side-eq0.false c.requires.kept in
    let earlier = subst (λ to. AreLeavesFrom less points c.args.least heights from (to - from) (map leaf_of c.in_ok-leaves.leaves)) c.max-to.ensures c.in_ok-leaves.ensures.leaves in
    let is = c.in_ok-append.ensures ∙ ap (λ ls. c.in_ok-leaves.leaves ++ ls) c.as_slice.ensures.items in
    let all = with_kept less points c.args.least heights from since c.in_ok-leaves.leaves c.args.kept.leaves c.append.new.leaves c.requires.heights c.first_reaching-from.ensures earlier h is in
    subst (λ n. AreFourLeavesOf n points (map leaf_of c.append.new.leaves)) (sym (again c.args.side c.if-side-eq0.false))
    (all_leaves points c.args.least heights less from (map leaf_of c.append.new.leaves) c.requires.few c.requires.least c.requires.heights c.first_reaching-from.ensures all)
  where
    again : (k : ℕ) → k ≢ 0 → k ≡ suc (k - 1)
    again k some = omega (arith, some)
