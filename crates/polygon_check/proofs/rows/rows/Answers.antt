use Rattle.std.proofs.Common.{sym, subst, ap, ◌∙◌, ◌+◌, ◌-◌, ◌*◌, ◌≤◌, length, map, pos}
use Rattle.std.proofs.lemmas.List.{length-map}
use Rattle.answers.specs.Answers.{polygon_of}
use Rattle.polygon_check.proofs.ReadPotentials.{rows-within}
use Rattle.polygon_check.proofs.RowLists.{rows-are}
use Rattle.polygon_check.proofs.rows.rows.Goals as goal

pub push_potentials-requires-clause-within : goal.push_potentials-requires-clause-within
push_potentials-requires-clause-within c =
    let layers = c.args.a.now.layers in
    let count = length c.args.a.now.corners in
    subst (λ n. c.potentials_before-start.result + layers * (n - 1 - c.args.first) ≤ length c.as_slice.result.now) (sym c.len-count.ensures.count)
    (rows-within layers c.args.first count c.potentials_before-start.result (length c.as_slice.result.now) c.potentials_before-start.ensures
    (ap length c.as_slice.ensures.items ∙ sym (length-map c.args.a.now.potentials pos) ∙ c.requires.table.as_many) c.requires.below)

pub returns : goal.returns
returns c =
    rows-are (polygon_of c.args.a.now) (map pos c.as_slice.result.now) c.args.first c.len-count.result c.potentials_before-start.result c.new-rows.result.items c.push_zeros.new.rows.items c.push_potentials.new.rows.items
    c.new-rows.ensures (ap (map pos) c.as_slice.ensures.items) c.len-count.ensures.count c.potentials_before-start.ensures c.push_zeros.ensures c.push_potentials.ensures
