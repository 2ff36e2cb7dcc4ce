use Rattle.std.proofs.Common.{rules, ◌≡◌, length}
use Rattle.std.specs.Vec.Iter.{into_iter_items, into_iter_len}
use Rattle.std.specs.Iterator.Adapters.{skip_source}
use Rattle.std.proofs.lemmas.Iterator.{items_from_collect}
use Rattle.std.proofs.lemmas.Iterator.Adapters.{YieldsList-from_vec, YieldsList-from_skip}
use Rattle.bounds_start.proofs.kept.Goals as goal

pub returns : goal.returns
returns c =
    let items : into_iter_items (skip_source c.skip.result) ≡ into_iter_items c.args.args = search rules in
    let counted : into_iter_len (skip_source c.skip.result) ≡ length (into_iter_items c.args.args) = search rules in
    let given = YieldsList-from_vec {s = skip_source c.skip.result} (into_iter_items c.args.args) items counted in
    items_from_collect c.collect.result c.collect.ensures.ran (YieldsList-from_skip {s = c.skip.result} 1 given c.skip.ensures.count)
