use Rattle.std.proofs.Common.{sym, subst, ◌+◌, ◌*◌, length, pos, w64, below_more}
use Rattle.integers.proofs.Sizes.{wrap_is_in}
use Rattle.polygon_check.specs.PotentialRows.{at, AreBelow}
use Rattle.polygon_check.proofs.RowLists.{index_above}
use Rattle.polygon_check.proofs.potentials.are_raised.Goals as goal

pub returns-then-not-are_below : goal.returns-then-not-are_below
returns-then-not-are_below c =
    let small = c.requires.rows ((c.layers.layer + 1) * c.args.width + length c.args.areas.now) (pos 0) (index_above c.layers-test.true c.requires.index c.requires.as_many) in (
      λ yes. absurd (cc yes),
      λ all. let yes = c.are_below.ensures.1 (subst (AreBelow c.args.areas.now c.args.rows.now (c.layers.layer * c.args.width)) (sym (wrap_is_in w64 small tt)) (all c.layers.layer c.layers-test.true)) in absurd (cc yes),
    )

pub layers-preserved : goal.layers-preserved
layers-preserved c =
    let small = c.requires.rows ((c.layers.layer + 1) * c.args.width + length c.args.areas.now) (pos 0) (index_above c.layers-test.true c.requires.index c.requires.as_many) in
    below_more (λ layer. AreBelow c.args.areas.now c.args.rows.now (layer * c.args.width) (at c.args.rows.now ((layer + 1) * c.args.width + length c.args.areas.now))) c.layers.layer c.layers.invariant
    (subst (AreBelow c.args.areas.now c.args.rows.now (c.layers.layer * c.args.width)) (wrap_is_in w64 small tt) (c.are_below.ensures.0 c.if-not-are_below.false))
