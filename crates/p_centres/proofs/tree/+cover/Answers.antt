use Rattle.std.proofs.Common.{rules, arith, refl, subst, sym, ap, ◌∙◌, length, List, [], ◌∷◌, ◌++◌, All, ◌≡◌, ◌≢◌, ◌≤◌, ◌<◌, ◌+◌, ◌-◌, ◌*◌, ◌^◌, ℕ}
use Rattle.std.proofs.Math.Nat.{mul-le-mul_right}
use Rattle.integers.proofs.Lists.{popped}
use Rattle.bounds_model.specs.Plane.{PlanePoint}
use Rattle.corner_squares.specs.declared.square.Square.{Square}
use Rattle.corner_squares.specs.declared.bounds.Bounds.{Bounds}
use Rattle.corner_squares.specs.Covers.{IsPlaced}
use Rattle.bounded_coords.specs.Clouds.{counted_points}
use Rattle.corner_squares.specs.Squares.{left_over}
use Rattle.corner_squares.specs.Extents.{IsRestBox}
use Rattle.corner_squares.specs.Trees.{nodes}
use Rattle.corner_squares.proofs.Placing.{cover_now, cover_by_more, placed_more, no_corner, corner_more, all_corners, room_for_leaves}
use Rattle.p_centres.specs.Covers.{IsFirstRefuted}
use Rattle.p_centres.proofs.Nodes.{nodes_are, some_nodes}
use Rattle.p_centres.proofs.tree.+cover.Goals as goal

pub returns-then-depth-eq0-clause-refuted : goal.returns-then-depth-eq0-clause-refuted
returns-then-depth-eq0-clause-refuted g t c = λ no.
    subst (λ depth. IsFirstRefuted (counted_points c.args.cloud) c.args.side depth c.args.placed.now.items c.cover_rest.new.placed.items c.args.leaves.now.items c.cover_rest.new.leaves.items)
    (sym c.if-depth-eq0.true) (c.cover_rest.ensures.refuted no)

pub returns-in_default-clause-covered : goal.returns-in_default-clause-covered
returns-in_default-clause-covered g t c = λ _.
    cover_now (counted_points c.args.cloud) c.args.side _ c.args.placed.now.items c.as_slice.result.now c.as_slice.ensures.value (omega arith) c.requires.placed c.in_default.ensures.found

-- a pass is one node
one_pass : (depth n now was : ℕ) → now ≤ was + n → now ≤ was + nodes depth * n
one_pass depth n now was h = let some = some_nodes depth in grind (arith, h, some)

pub returns-in_default-clause-steps : goal.returns-in_default-clause-steps
returns-in_default-clause-steps g t c = one_pass c.args.depth (length (counted_points c.args.cloud)) _ _ c.whole.ensures.steps

pub loop-corner-init : goal.loop-corner-init
loop-corner-init g t c = record {
  stays = search rules;
  below = no_corner c.args.side (c.args.depth - 1) (counted_points c.args.cloud) (left_over c.args.placed.now.items (counted_points c.args.cloud)) c.args.leaves.now.items;
  steps = let h = c.whole.ensures.steps in omega (arith, h);
}

-- the box is that of what the placed squares leave over
whole_box : {points : List PlanePoint} {b : Bounds} (seen squares : List Square) → seen ≡ squares → IsRestBox points seen b → IsRestBox points squares b
whole_box {points} {b} seen squares is box = subst (λ ss. IsRestBox points ss b) is box

room_for_square : (was depth now kept pushed : ℕ) → was + depth < 3 → depth ≢ 0 → kept ≡ was → pushed ≡ kept + 1 → pushed + (depth - 1) < 3
room_for_square was depth now kept pushed h some e f = omega (arith, h, some, e, f)

pub cover-requires : goal.cover-requires
cover-requires g t c κs within =
    let points = counted_points c.args.cloud in
    let some : c.args.depth ≢ 0 = c.if-depth-eq0.false in
    let room : length c.push.new.self.items + (c.args.depth - 1) < 3 =
    room_for_square (length c.args.placed.now.items) c.args.depth 0 (length c.loop-corner.placed.items) (length c.push.new.self.items) c.requires.room some (ap length c.loop-corner.invariant.stays) c.push.ensures.len in
    let placed : All (IsPlaced c.args.side) c.push.new.self.items =
    placed_more points c.args.side c.loop-corner.corner c.loop-corner.placed.items c.as_slice.result.now c.push.new.self.items c.in-Some.bounds c.corner_square.result
    (subst (All (IsPlaced c.args.side)) (sym c.loop-corner.invariant.stays) c.requires.placed) c.in-Some.ensures.found
    (record { left = c.corner_square.ensures.left; bottom = c.corner_square.ensures.bottom; wide = c.corner_square.ensures.side }) c.push.ensures.items in
    let leaf_room : length c.loop-corner.leaves.items + 4 ^ (c.args.depth - 1) ≤ 16 =
    room_for_leaves c.args.side c.args.depth c.loop-corner.corner points (left_over c.args.placed.now.items points) c.args.leaves.now.items c.loop-corner.leaves.items some c.loop-corner-test.true c.requires.leaf_room c.loop-corner.invariant.below in
    search rules

pub returns-then-cover-clause-covered : goal.returns-then-cover-clause-covered
returns-then-cover-clause-covered g t c = λ _.
    cover_by_more (counted_points c.args.cloud) c.args.side _ _ c.cover.new.placed.items
    (as_many (length c.args.placed.now.items) c.args.depth (length c.loop-corner.placed.items) (length c.push.new.self.items) c.if-depth-eq0.false (ap length c.loop-corner.invariant.stays) c.push.ensures.len)
    (c.if-cover.ensures.covered refl)
  where
    as_many : (was depth kept pushed : ℕ) → depth ≢ 0 → kept ≡ was → pushed ≡ kept + 1 → pushed + (depth - 1) + 1 ≤ was + depth + 1
    as_many was depth kept pushed some e f = omega (arith, some, e, f)

-- the passes of one corner more
corner_steps : (was now then corner m n : ℕ) → now ≤ was + (1 + corner * m) * n → then ≤ now + m * n → then ≤ was + (1 + (corner + 1) * m) * n
corner_steps was now then corner m n h k = omega (arith, h, k)

all_steps : (was now depth corner n : ℕ) → depth ≢ 0 → corner ≤ 4 → now ≤ was + (1 + corner * nodes (depth - 1)) * n → now ≤ was + nodes depth * n
all_steps was now depth corner n some four h = subst (λ m. now ≤ was + m * n) (sym (nodes_are depth some)) (more (nodes (depth - 1)) h)
  where
    more : (m : ℕ) → now ≤ was + (1 + corner * m) * n → now ≤ was + (1 + 4 * m) * n
    more m h = let l = mul-le-mul_right n (mul-le-mul_right m four) in omega (arith, h, l)

pub returns-then-cover-clause-steps : goal.returns-then-cover-clause-steps
returns-then-cover-clause-steps g t c =
    all_steps c.args.steps.now c.cover.new.steps c.args.depth (c.loop-corner.corner + 1) (length (counted_points c.args.cloud)) c.if-depth-eq0.false (omega arith)
    (corner_steps c.args.steps.now c.loop-corner.steps c.cover.new.steps c.loop-corner.corner (nodes (c.args.depth - 1)) (length (counted_points c.args.cloud)) c.loop-corner.invariant.steps c.if-cover.ensures.steps)

pub loop-corner-preserved : goal.loop-corner-preserved
loop-corner-preserved g t c =
    let points = counted_points c.args.cloud in
    let refuted = (c.if-cover.ensures.refuted refl).refuted in
    record {
      stays = popped c.loop-corner.placed.items c.push.new.self.items c.cover.new.placed.items c.pop.new.self.items c.corner_square.result c.push.ensures.items refuted.stays c.pop.ensures.rest ∙ c.loop-corner.invariant.stays;
      below = corner_more c.args.side (c.args.depth - 1) c.loop-corner.corner points c.args.placed.now.items c.push.new.self.items c.cover.new.placed.items c.in-Some.bounds c.corner_square.result c.args.leaves.now.items c.loop-corner.leaves.items c.cover.new.leaves.items
          (let room = c.requires.room in omega (arith, room)) c.loop-corner-test.true (whole_box c.as_slice.result.now c.args.placed.now.items c.as_slice.ensures.value c.in-Some.ensures.found)
          (record { left = c.corner_square.ensures.left; bottom = c.corner_square.ensures.bottom; wide = c.corner_square.ensures.side })
          (c.push.ensures.items ∙ ap (λ ss. ss ++ c.corner_square.result ∷ []) c.loop-corner.invariant.stays) c.loop-corner.invariant.below refuted;
      steps = corner_steps c.args.steps.now c.loop-corner.steps c.cover.new.steps c.loop-corner.corner (nodes (c.args.depth - 1)) (length points) c.loop-corner.invariant.steps c.if-cover.ensures.steps;
    }

pub returns-clause-refuted : goal.returns-clause-refuted
returns-clause-refuted g t c = λ _. record {
  refuted = all_corners c.args.side c.args.depth c.loop-corner.corner (counted_points c.args.cloud) c.args.placed.now.items c.loop-corner.placed.items c.args.leaves.now.items c.loop-corner.leaves.items
      c.if-depth-eq0.false (let some = c.loop-corner-test.false in let most = c.loop-corner.auto.corner-end in omega (arith, some, most)) c.loop-corner.invariant.stays c.loop-corner.invariant.below;
  earliest = λ leaf. absurd (c.if-depth-eq0.false leaf);
}

pub returns-clause-steps : goal.returns-clause-steps
returns-clause-steps g t c =
    all_steps c.args.steps.now c.loop-corner.steps c.args.depth c.loop-corner.corner (length (counted_points c.args.cloud)) c.if-depth-eq0.false (let most = c.loop-corner.auto.corner-end in omega (arith, most)) c.loop-corner.invariant.steps
