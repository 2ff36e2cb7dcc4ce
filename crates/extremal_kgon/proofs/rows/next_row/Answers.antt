use Rattle.std.proofs.Common.{refl, sym, subst, ap, ◌∙◌, ◌+◌, ◌≤◌, map, [], ◌∷◌, ◌++◌, length, ◌<◌, arith}
use Rattle.std.proofs.lemmas.List.{length-map}
use Rattle.integers.proofs.Narrowing.{kept64}
use Rattle.added_areas.specs.PlaneVectors.{vector_of}
use Rattle.extremal_kgon.specs.Rows.{at, area_at, pairs_below}
use Rattle.extremal_kgon.proofs.NextRows.{row-none, row-more, whole_row}
use Rattle.extremal_kgon.proofs.AreaLists.{pairs_next, pairs_within, pairs_limit, best_sum-as}
use Rattle.extremal_kgon.proofs.rows.next_row.Goals as goal

pub later-init : goal.later-init
later-init c = record { row = row-none (map vector_of c.args.vectors.now) c.args.before.now c.new-row.result.items c.new-row.ensures; start = refl }

pub best_sum-requires-clause-end : goal.best_sum-requires-clause-end
best_sum-requires-clause-end c = subst (λ n. n + c.later.i ≤ length c.args.areas.now) (sym c.later.invariant.start) (subst (λ n. pairs_below c.later.i + c.later.i ≤ n) (sym c.requires.areas.as_many) (pairs_within c.later.i (length c.args.vectors.now) c.later-test.true))

pub push-requires : goal.push-requires
push-requires c = let room : length c.later.row.items < 128 = omega (arith, c.later.invariant.row.as_many, c.requires.few) in (omega arith, room)

pub overflow_add-start : goal.overflow_add-start
overflow_add-start c =
    let small = subst (λ n. n + c.later.i ≤ 8128) (sym c.later.invariant.start) (pairs_limit c.later.i (length c.args.vectors.now) c.later-test.true c.requires.few) in
    record { fits = omega (arith, small) }

pub later-preserved : goal.later-preserved
later-preserved c =
    let vectors = map vector_of c.args.vectors.now in
    let best_sum = best_sum-as (λ j. at c.args.areas.now (c.later.start + j)) (area_at vectors c.later.i) c.args.before.now c.later.i c.best_sum.result
    (λ j low. ap (λ n. at c.args.areas.now (n + j)) c.later.invariant.start ∙ c.requires.areas.each c.later.i c.later-test.true j low) c.best_sum.ensures in
    record {
      row = row-more vectors c.args.before.now c.later.row.items c.push.new.self.items c.later.i c.best_sum.result c.later.invariant.row best_sum (c.push.ensures.items ∙ ap (λ u. c.later.row.items ++ u ∷ []) (kept64 {z = c.best_sum.result} c.best_sum.type_inv));
      start = ap (λ n. n + c.later.i) c.later.invariant.start ∙ sym (pairs_next c.later.i);
    }

pub returns : goal.returns
returns c = whole_row (map vector_of c.args.vectors.now) c.args.before.now c.later.row.items c.later.i c.later.invariant.row (omega (arith, length-map c.args.vectors.now vector_of))
