use Rattle.std.proofs.Common.{rules, arith, refl, subst, sym, ap, ◌∙◌, length, List, [], ◌∷◌, ◌++◌, All, ◌≡◌, ◌≢◌, ◌≤◌, ◌<◌, ◌+◌, ◌-◌, ◌*◌, ◌^◌, ℕ}
use Rattle.std.proofs.Math.Nat.{mul-le-mul_right}
use Rattle.std.proofs.lemmas.List.{append_assoc}
use Rattle.integers.proofs.Lists.{popped}
use Rattle.corner_squares.specs.declared.square.Square.{Square}
use Rattle.bounded_coords.specs.Clouds.{counted_points}
use Rattle.corner_squares.specs.Squares.{left_over}
use Rattle.corner_squares.specs.Extents.{IsRestBox}
use Rattle.corner_squares.specs.Covers.{IsPlaced, AreMore}
use Rattle.corner_squares.proofs.Placing.{cover_now, cover_by_more, placed_more, no_corner, corner_more, all_corners, room_for_leaves}
use Rattle.four_centres.specs.Windows.{IsWindow, IsTight, reads}
use Rattle.four_centres.proofs.Windows.{window_more, box_of_window, reads_at}
use Rattle.four_centres.proofs.tree.+cover.Goals as goal

pub returns-in_default-clause-covered : goal.returns-in_default-clause-covered
returns-in_default-clause-covered g t c = λ _.
    cover_now (counted_points c.args.cloud) c.args.side _ c.args.placed.now.items c.as_slice.result.now c.as_slice.ensures.value (omega arith) c.requires.placed (c.in_default.ensures.covered refl)

-- the search for the ends is a part of the reads at a node
two_passes : (depth n now was : ℕ) → depth ≢ 0 → now ≤ was + 2 * n → now ≤ was + reads n depth
two_passes depth n now was some h = subst (λ m. now ≤ was + m) (sym (reads_at n depth some)) (omega (arith, h))

pub returns-in_default-clause-steps : goal.returns-in_default-clause-steps
returns-in_default-clause-steps g t c = two_passes c.args.depth (length (counted_points c.args.cloud)) _ _ c.if-depth-eq0.false c.free_window.ensures.steps

pub loop-corner-init : goal.loop-corner-init
loop-corner-init g t c = record {
  stays = refl;
  below = no_corner c.args.side (c.args.depth - 1) (counted_points c.args.cloud) (left_over c.args.placed.now.items (counted_points c.args.cloud)) c.args.leaves.now.items;
  steps = let h = c.free_window.ensures.steps in omega (arith, h);
}

pub corner_square-requires-clause-across : goal.corner_square-requires-clause-across
corner_square-requires-clause-across g t c =
    (box_of_window (counted_points c.args.cloud) c.args.orders.now c.as_slice.result.now c.in-Some.inner c.bounds-bounds.result c.requires.orders c.in-Some.ensures.tight c.bounds-bounds.ensures.across c.bounds-bounds.ensures.up).across.plane

pub corner_square-requires-clause-up : goal.corner_square-requires-clause-up
corner_square-requires-clause-up g t c =
    (box_of_window (counted_points c.args.cloud) c.args.orders.now c.as_slice.result.now c.in-Some.inner c.bounds-bounds.result c.requires.orders c.in-Some.ensures.tight c.bounds-bounds.ensures.across c.bounds-bounds.ensures.up).up.plane

room_for_square : (was depth kept pushed : ℕ) → was + depth < 4 → depth ≢ 0 → kept ≡ was → pushed ≡ kept + 1 → pushed + (depth - 1) < 4
room_for_square was depth kept pushed h some e f = omega (arith, h, some, e, f)

pub cover-requires : goal.cover-requires
cover-requires g t c κs within =
    let points = counted_points c.args.cloud in
    let some : c.args.depth ≢ 0 = c.if-depth-eq0.false in
    let shallow = c.requires.shallow in
    let stays = c.loop-corner.invariant.stays in
    let pushed : c.push.new.self.items ≡ c.args.placed.now.items ++ c.corner_square.result ∷ [] = c.push.ensures.items ∙ ap (λ ss. ss ++ c.corner_square.result ∷ []) stays in
    let less : c.args.depth - 1 < t = (let d = c.decreases in omega (arith, some, d)) in
    let fewer : c.args.depth - 1 ≤ 2 = omega (arith, shallow) in
    let room : length c.push.new.self.items + (c.args.depth - 1) < 4 =
    room_for_square (length c.args.placed.now.items) c.args.depth (length c.loop-corner.placed.items) (length c.push.new.self.items) c.requires.room some (ap length stays) c.push.ensures.len in
    let box = box_of_window points c.args.orders.now c.as_slice.result.now c.in-Some.inner c.bounds-bounds.result c.requires.orders c.in-Some.ensures.tight c.bounds-bounds.ensures.across c.bounds-bounds.ensures.up in
    let placed : All (IsPlaced c.args.side) c.push.new.self.items =
    placed_more points c.args.side c.loop-corner.corner c.loop-corner.placed.items c.as_slice.result.now c.push.new.self.items c.bounds-bounds.result c.corner_square.result
    (subst (All (IsPlaced c.args.side)) (sym stays) c.requires.placed) box
    (record { left = c.corner_square.ensures.left; bottom = c.corner_square.ensures.bottom; wide = c.corner_square.ensures.side }) c.push.ensures.items in
    let window : IsWindow points c.args.orders.now c.push.new.self.items c.in-Some.inner =
    window_more points c.args.orders.now c.args.placed.now.items c.push.new.self.items c.corner_square.result c.in-Some.inner (subst (λ squares. IsTight points c.args.orders.now squares c.in-Some.inner) c.as_slice.ensures.value c.in-Some.ensures.tight) pushed in
    let leaf_room : length c.loop-corner.leaves.items + 4 ^ (c.args.depth - 1) ≤ 16 =
    room_for_leaves c.args.side c.args.depth c.loop-corner.corner points (left_over c.args.placed.now.items points) c.args.leaves.now.items c.loop-corner.leaves.items some c.loop-corner-test.true c.requires.leaf_room c.loop-corner.invariant.below in
    search rules

pub returns-then-cover-clause-covered : goal.returns-then-cover-clause-covered
returns-then-cover-clause-covered g t c = λ _.
    cover_by_more (counted_points c.args.cloud) c.args.side _ _ c.cover.new.placed.items
    (as_many (length c.args.placed.now.items) c.args.depth (length c.loop-corner.placed.items) (length c.push.new.self.items) c.if-depth-eq0.false (ap length c.loop-corner.invariant.stays) c.push.ensures.len)
    (c.if-cover.ensures.covered refl)
  where
    as_many : (was depth kept pushed : ℕ) → depth ≢ 0 → kept ≡ was → pushed ≡ kept + 1 → pushed + (depth - 1) + 1 ≤ was + depth + 1
    as_many was depth kept pushed some e f = omega (arith, some, e, f)

-- squares behind one more square
behind : (old kept pushed new : List Square) (s : Square) → kept ≡ old → pushed ≡ kept ++ s ∷ [] → AreMore pushed new → AreMore old new
behind old kept pushed new s stays is more = (s ∷ more.0, more.1 ∙ ap (λ ss. ss ++ more.0) (is ∙ ap (λ ss. ss ++ s ∷ []) stays) ∙ append_assoc old (s ∷ []) more.0)

pub returns-then-cover-clause-kept : goal.returns-then-cover-clause-kept
returns-then-cover-clause-kept g t c = λ _.
    behind c.args.placed.now.items c.loop-corner.placed.items c.push.new.self.items c.cover.new.placed.items c.corner_square.result c.loop-corner.invariant.stays c.push.ensures.items (c.if-cover.ensures.kept refl)

-- the reads of one corner more
corner_steps : (was now then corner m n : ℕ) → now ≤ was + 2 * n + corner * m → then ≤ now + m → then ≤ was + 2 * n + (corner + 1) * m
corner_steps was now then corner m n h k = omega (arith, h, k)

all_steps : (was now depth corner n : ℕ) → depth ≢ 0 → corner ≤ 4 → now ≤ was + 2 * n + corner * reads n (depth - 1) → now ≤ was + reads n depth
all_steps was now depth corner n some four h = subst (λ m. now ≤ was + m) (sym (reads_at n depth some)) (more (reads n (depth - 1)) h)
  where
    more : (m : ℕ) → now ≤ was + 2 * n + corner * m → now ≤ was + (2 * n + 4 * m)
    more m h = let l = mul-le-mul_right m four in omega (arith, h, l)

pub returns-then-cover-clause-steps : goal.returns-then-cover-clause-steps
returns-then-cover-clause-steps g t c =
    all_steps c.args.steps.now c.cover.new.steps c.args.depth (c.loop-corner.corner + 1) (length (counted_points c.args.cloud)) c.if-depth-eq0.false (omega arith)
    (corner_steps c.args.steps.now c.loop-corner.steps c.cover.new.steps c.loop-corner.corner (reads (length (counted_points c.args.cloud)) (c.args.depth - 1)) (length (counted_points c.args.cloud)) c.loop-corner.invariant.steps c.if-cover.ensures.steps)

pub loop-corner-preserved : goal.loop-corner-preserved
loop-corner-preserved g t c =
    let points = counted_points c.args.cloud in
    let refuted = c.if-cover.ensures.refuted refl in
    let box = box_of_window points c.args.orders.now c.as_slice.result.now c.in-Some.inner c.bounds-bounds.result c.requires.orders c.in-Some.ensures.tight c.bounds-bounds.ensures.across c.bounds-bounds.ensures.up in
    record {
      stays = popped c.loop-corner.placed.items c.push.new.self.items c.cover.new.placed.items c.pop.new.self.items c.corner_square.result c.push.ensures.items refuted.stays c.pop.ensures.rest ∙ c.loop-corner.invariant.stays;
      below = corner_more c.args.side (c.args.depth - 1) c.loop-corner.corner points c.args.placed.now.items c.push.new.self.items c.cover.new.placed.items c.bounds-bounds.result c.corner_square.result c.args.leaves.now.items c.loop-corner.leaves.items c.cover.new.leaves.items
          (let shallow = c.requires.shallow in omega (arith, shallow)) c.loop-corner-test.true (subst (λ squares. IsRestBox points squares c.bounds-bounds.result) c.as_slice.ensures.value box)
          (record { left = c.corner_square.ensures.left; bottom = c.corner_square.ensures.bottom; wide = c.corner_square.ensures.side })
          (c.push.ensures.items ∙ ap (λ ss. ss ++ c.corner_square.result ∷ []) c.loop-corner.invariant.stays) c.loop-corner.invariant.below refuted;
      steps = corner_steps c.args.steps.now c.loop-corner.steps c.cover.new.steps c.loop-corner.corner (reads (length points) (c.args.depth - 1)) (length points) c.loop-corner.invariant.steps c.if-cover.ensures.steps;
    }

pub returns-clause-refuted : goal.returns-clause-refuted
returns-clause-refuted g t c = λ _.
    all_corners c.args.side c.args.depth c.loop-corner.corner (counted_points c.args.cloud) c.args.placed.now.items c.loop-corner.placed.items c.args.leaves.now.items c.loop-corner.leaves.items
    c.if-depth-eq0.false (let some = c.loop-corner-test.false in let most = c.loop-corner.auto.corner-end in omega (arith, some, most)) c.loop-corner.invariant.stays c.loop-corner.invariant.below

pub returns-clause-steps : goal.returns-clause-steps
returns-clause-steps g t c =
    all_steps c.args.steps.now c.loop-corner.steps c.args.depth c.loop-corner.corner (length (counted_points c.args.cloud)) c.if-depth-eq0.false (let most = c.loop-corner.auto.corner-end in omega (arith, most)) c.loop-corner.invariant.steps
