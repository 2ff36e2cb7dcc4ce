use Rattle.std.proofs.Common.{rules, inl, inr, refl, subst, ap, ◌≡◌, ◌≢◌, ◌∙◌, ℕ, suc, pos, ◌+◌, ◌-◌, ◌++◌, map, SFits, w32, arith}
use Rattle.std.specs.Prelude.{slice_index_or}
use Rattle.std.proofs.lemmas.Int.{to_z-of_z}
use Rattle.std.proofs.lemmas.List.{length-map}
use Rattle.bounds_model.specs.CentresAnswer.{outside}
use Rattle.bounds_model.specs.FourAnswer.{first_square}
use Rattle.bounded_coords.specs.Clouds.{counted_points}
use Rattle.answers.specs.Answers.{leaf_of}
use Rattle.corner_squares.specs.Squares.{square_of}
use Rattle.corner_squares.specs.LeastPoints.{point_of}
use Rattle.corner_squares.specs.Trees.{AreLeavesAt}
use Rattle.corner_squares.specs.Covers.{IsCover}
use Rattle.four_centres.specs.Heights.{IsDone}
use Rattle.four_centres.proofs.KeptLeaves.{heights_at_most, kept_none, kept_beyond, kept_more, kept_few}
use Rattle.four_centres.proofs.LeafLists.{first_is_placed}
use Rattle.four_centres.proofs.Following.{refuted_by_leaves}
use Rattle.four_centres.proofs.search.visit.Goals as goal

one_more : (k : ℕ) → k ≢ 0 → suc (k - 1) ≡ k
one_more k some = omega (arith, some)

pub returns-then-is_beyond-clause-done : goal.returns-then-is_beyond-clause-done
returns-then-is_beyond-clause-done g c =
    let height = slice_index_or c.args.heights.now c.args.i (pos 0) in
    let fits : SFits w32 (slice_index_or c.args.heights.now c.args.i (pos 0)) = search rules in
    let beyond = simp to_z-of_z at c.if-is_beyond.ensures in
    subst (IsDone (counted_points c.args.cloud) c.args.least height) (one_more c.args.best.now.side c.if-best-eq0.false) (inl (beyond.0 refl))

pub returns-then-is_beyond-clause-kept : goal.returns-then-is_beyond-clause-kept
returns-then-is_beyond-clause-kept g c =
    let fits : SFits w32 (slice_index_or c.args.heights.now c.args.i (pos 0)) = search rules in
    let beyond = simp to_z-of_z at c.if-is_beyond.ensures in
    kept_beyond c.args.best.now.side (counted_points c.args.cloud) c.args.least c.args.heights.now c.args.kept.now.since c.args.i (map leaf_of c.args.kept.now.leaves) c.requires.heights c.requires.inside (beyond.0 refl) c.requires.kept

pub try_square-requires-clause-placed : goal.try_square-requires-clause-placed
try_square-requires-clause-placed g c =
    let points = counted_points c.args.cloud in
    let fits : SFits w32 (slice_index_or c.args.heights.now c.args.i (pos 0)) = search rules in
    first_is_placed points c.args.least (slice_index_or c.args.heights.now c.args.i (pos 0)) (c.args.best.now.side - 1) c.square.result c.requires.least
    (heights_at_most points c.args.least c.args.heights.now c.requires.heights c.args.i (pos 0) c.requires.inside) (simp to_z-of_z at c.square.ensures)

pub append-requires : goal.append-requires
append-requires g c =
    let few = kept_few c.args.best.now.side (counted_points c.args.cloud) c.args.least c.args.heights.now c.args.kept.now.since c.args.i (map leaf_of c.args.kept.now.leaves) c.if-best-eq0.false c.requires.kept in
    let same = length-map c.args.kept.now.leaves leaf_of in
    let own = c.as_slice.ensures.fits in
    let inside = c.requires.inside in
    let most = c.requires.few in
    omega (arith, few, same, own, inside, most)

pub halve-requires-clause-best : goal.halve-requires-clause-best
halve-requires-clause-best g c =
    let fits : SFits w32 (slice_index_or c.args.heights.now c.args.i (pos 0)) = search rules in
    let is = simp to_z-of_z at c.square.ensures in
    record {
      limit = (let l = c.requires.best.limit in omega (arith, l));
      cover = subst (λ s. IsCover (counted_points c.args.cloud) s.side 4 c.in-Covered.squares.items) is c.in-Covered.ensures.trial.0;
    }

pub returns-in_ok-append-in-Refuted-clause-done : goal.returns-in_ok-append-in-Refuted-clause-done
returns-in_ok-append-in-Refuted-clause-done g c =
    let points = counted_points c.args.cloud in
    let height = slice_index_or c.args.heights.now c.args.i (pos 0) in
    let fits : SFits w32 (slice_index_or c.args.heights.now c.args.i (pos 0)) = search rules in
    let is = simp to_z-of_z at c.square.ensures in
    let own = map leaf_of c.in-Refuted.own.items in
    subst (IsDone points c.args.least height) (one_more c.args.best.now.side c.if-best-eq0.false)
    (inr (refuted_by_leaves points (first_square (c.args.best.now.side - 1) (point_of c.args.least) height) own (subst (λ s. AreLeavesAt s.side 2 points (outside (square_of s) points) own) is c.in-Refuted.ensures.trial)))

pub returns-in_ok-append-in-Refuted-clause-kept : goal.returns-in_ok-append-in-Refuted-clause-kept
returns-in_ok-append-in-Refuted-clause-kept g c =
    let fits : SFits w32 (slice_index_or c.args.heights.now c.args.i (pos 0)) = search rules in
    let beyond = simp to_z-of_z at c.if-is_beyond.ensures in
    kept_more c.args.best.now.side (counted_points c.args.cloud) c.args.least c.args.heights.now c.args.kept.now.since c.args.i c.args.kept.now.leaves c.append.new.leaves c.in-Refuted.own.items c.square.result c.requires.inside
    (λ b. let yes = beyond.1 b in absurd (cc yes)) c.requires.kept (simp to_z-of_z at c.square.ensures) c.in-Refuted.ensures.trial
    (c.in_ok-append-in-Refuted.ensures ∙ ap (λ ls. c.args.kept.now.leaves ++ ls) c.as_slice.ensures.value)

pub returns-in-Covered-clause-kept : goal.returns-in-Covered-clause-kept
returns-in-Covered-clause-kept g c = kept_none c.halve.new.best.side (counted_points c.args.cloud) c.args.least c.args.heights.now (c.args.i + 1) c.new.result c.new.ensures
