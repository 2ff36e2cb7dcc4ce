use Rattle.std.proofs.Common.{rules, subst, ap, ◌≡◌, ◌∙◌, ℕ, pos, ◌+◌, ◌-◌, ◌*◌, ◌<◌, ◌≤◌, ◌++◌, length, SFits, w32, arith}
use Rattle.std.specs.Prelude.{slice_index_or}
use Rattle.std.proofs.lemmas.Int.{to_z-of_z}
use Rattle.bounded_coords.specs.Clouds.{counted_points}
use Rattle.four_centres.specs.Windows.{reads}
use Rattle.four_centres.proofs.LeafLists.{first_is_placed, cover_follows, not_done, leaves_appended}
use Rattle.four_centres.proofs.search.leaves_from.Goals as goal

pub try_square-requires-clause-placed : goal.try_square-requires-clause-placed
try_square-requires-clause-placed g c =
    let below = c.heights-test.true in
    let to = c.requires.to in
    let inside : c.heights.i < length c.args.heights.now = omega (arith, below, to) in
    let fits : SFits w32 (slice_index_or c.args.heights.now c.heights.i (pos 0)) = search rules in
    first_is_placed (counted_points c.args.cloud) c.args.least (slice_index_or c.args.heights.now c.heights.i (pos 0)) c.args.side c.square.result c.requires.least (c.requires.heights c.heights.i (pos 0) inside) (simp to_z-of_z at c.square.ensures)

pub unreachable-requires : goal.unreachable-requires
unreachable-requires g c =
    let below = c.heights-test.true in
    let to = c.requires.to in
    let inside : c.heights.i < length c.args.heights.now = omega (arith, below, to) in
    let fits : SFits w32 (slice_index_or c.args.heights.now c.heights.i (pos 0)) = search rules in
    let trial = c.in-Covered.ensures.trial in
    not_done (counted_points c.args.cloud) c.args.least (slice_index_or c.args.heights.now c.heights.i (pos 0)) c.args.side (c.requires.done c.heights.i (pos 0) inside) (c.requires.reaches c.heights.i (pos 0) c.heights.auto.i inside)
    (cover_follows (counted_points c.args.cloud) c.args.least (slice_index_or c.args.heights.now c.heights.i (pos 0)) c.args.side c.square.result c.in-Covered.field-0.items (simp to_z-of_z at c.square.ensures) trial.0 trial.1)

pub heights-preserved : goal.heights-preserved
heights-preserved g c =
    let points = counted_points c.args.cloud in
    let fits : SFits w32 (slice_index_or c.args.heights.now c.heights.i (pos 0)) = search rules in
    record {
      leaves = leaves_appended c.args.side points c.args.least c.args.heights.now c.args.from c.heights.i c.heights.leaves c.append.new.leaves c.in-Refuted.own.items c.square.result c.heights.auto.i c.heights.invariant.leaves
          (simp to_z-of_z at c.square.ensures) c.in-Refuted.ensures.trial (c.in_ok-append-in-Refuted.ensures ∙ ap (λ ls. c.heights.leaves ++ ls) c.as_slice.ensures.value);
      steps = one_more c.args.steps.now c.heights.steps c.try_square.new.steps c.heights.i c.args.from (reads (length points) 2) c.heights.auto.i c.heights.invariant.steps c.try_square.ensures.steps;
    }
  where
    one_more : (was now then i from m : ℕ) → from ≤ i → now ≤ was + (i - from) * m → then ≤ now + m → then ≤ was + (i + 1 - from) * m
    one_more was now then i from m reached h k = subst (λ n. then ≤ was + n * m) (next reached) (sum (i - from) h)
      where
        next : from ≤ i → i - from + 1 ≡ i + 1 - from
        next l = omega (arith, l)

        sum : (n : ℕ) → now ≤ was + n * m → then ≤ was + (n + 1) * m
        sum n h = omega (arith, h, k)
