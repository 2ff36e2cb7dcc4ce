use Rattle.std.proofs.Common.{◌≡◌, ℕ, ◌+◌, ◌<◌, length, sym, subst, get_or, arith}
use Rattle.std.proofs.lemmas.List.{get_or_default}
use Rattle.std.proofs.lemmas.List.Elements.{All-from_all_within}
use Rattle.empty_rectangle.specs.declared.obstacles.Obstacle.{Obstacle}
use Rattle.empty_rectangle.specs.Rectangles.{IsSeed, Covers}
use Rattle.empty_rectangle.specs.Seeds.{corner, above, beside}
use Rattle.empty_rectangle.proofs.Searching.{IsSeed-above, IsSeed-beside, NoneExceeds-seeds, Covers-more, covered_more, still_covered, restricted_more}
use Rattle.empty_rectangle.proofs.search.search.Goals as goal

pub sweep_up-best-requires-in-above-clause-seed : goal.sweep_up-best-requires-in-above-clause-seed
sweep_up-best-requires-in-above-clause-seed c =
    let obstacles = c.args.obstacles.now in
    let obstacle : Obstacle = get_or obstacles c.above.i (record { x = 0; y = 0; number = 0 }) in
    let is : obstacle ≡ get_or obstacles c.above.i obstacle = get_or_default obstacles c.above.i (record { x = 0; y = 0; number = 0 }) obstacle c.above-test.true in
    subst (λ seed. IsSeed obstacles c.args.extent (c.above.i + 1) seed) (sym c.above-in-above.ensures) (IsSeed-above obstacles c.args.extent c.above.i obstacle c.requires.sorted c.requires.inside c.above-test.true is)

pub above-preserved : goal.above-preserved
above-preserved c =
    let obstacles = c.args.obstacles.now in
    let obstacle : Obstacle = get_or obstacles c.above.i (record { x = 0; y = 0; number = 0 }) in
    let is : obstacle ≡ get_or obstacles c.above.i obstacle = get_or_default obstacles c.above.i (record { x = 0; y = 0; number = 0 }) obstacle c.above-test.true in
    let new = c.sweep_up-best-in-above in
    let old = c.above.invariant in
    record {
      at_corner = Covers-more obstacles c.args.extent corner c.above.best.area new.result.area old.at_corner new.ensures.kept;
      all_above = covered_more obstacles c.args.extent above c.above.i c.above.best.area new.result.area obstacle old.all_above c.above-test.true is new.ensures.kept (subst (λ seed. Covers obstacles c.args.extent seed new.result.area) c.above-in-above.ensures new.ensures.covers);
      kept = omega (arith, old.kept, new.ensures.kept);
      restricted = restricted_more obstacles c.args.extent c.args.start c.above.best new.result old.restricted new.ensures.restricted;
    }

pub sweep_up-best-requires-in-beside-clause-seed : goal.sweep_up-best-requires-in-beside-clause-seed
sweep_up-best-requires-in-beside-clause-seed c =
    let obstacles = c.args.obstacles.now in
    let obstacle : Obstacle = get_or obstacles c.beside.i (record { x = 0; y = 0; number = 0 }) in
    let is : obstacle ≡ get_or obstacles c.beside.i obstacle = get_or_default obstacles c.beside.i (record { x = 0; y = 0; number = 0 }) obstacle c.beside-test.true in
    subst (λ seed. IsSeed obstacles c.args.extent 0 seed) (sym c.beside-in-beside.ensures) (IsSeed-beside obstacles c.args.extent c.beside.i obstacle c.requires.inside c.beside-test.true is)

pub beside-preserved : goal.beside-preserved
beside-preserved c =
    let obstacles = c.args.obstacles.now in
    let obstacle : Obstacle = get_or obstacles c.beside.i (record { x = 0; y = 0; number = 0 }) in
    let is : obstacle ≡ get_or obstacles c.beside.i obstacle = get_or_default obstacles c.beside.i (record { x = 0; y = 0; number = 0 }) obstacle c.beside-test.true in
    let new = c.sweep_up-best-in-beside in
    let old = c.beside.invariant in
    record {
      at_corner = Covers-more obstacles c.args.extent corner c.beside.best.area new.result.area old.at_corner new.ensures.kept;
      all_above = still_covered obstacles c.args.extent above _ c.beside.best.area new.result.area old.all_above new.ensures.kept;
      all_beside = covered_more obstacles c.args.extent beside c.beside.i c.beside.best.area new.result.area obstacle old.all_beside c.beside-test.true is new.ensures.kept (subst (λ seed. Covers obstacles c.args.extent seed new.result.area) c.beside-in-beside.ensures new.ensures.covers);
      kept = omega (arith, old.kept, new.ensures.kept);
      restricted = restricted_more obstacles c.args.extent c.args.start c.beside.best new.result old.restricted new.ensures.restricted;
    }

pub returns-clause-most : goal.returns-clause-most
returns-clause-most c = λ few.
    let obstacles = c.args.obstacles.now in
    let old = c.beside.invariant in
    let all_beside = λ (k : ℕ) (d : Obstacle) (lt : k < length obstacles). old.all_beside k d (omega arith) (omega (arith, lt, c.beside-test.false)) in
    NoneExceeds-seeds obstacles c.args.extent c.beside.best.area old.at_corner (All-from_all_within (λ s. Covers obstacles c.args.extent (above s) c.beside.best.area) obstacles old.all_above) all_beside
