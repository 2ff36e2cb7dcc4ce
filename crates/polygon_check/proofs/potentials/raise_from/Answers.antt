use Rattle.std.proofs.Common.{refl, sym, subst, ◌<◌, length, map, arith, below_more}
use Rattle.added_areas.specs.PlaneVectors.{vector_of}
use Rattle.answers.specs.Answers.{polygon_of}
use Rattle.polygon_check.specs.PolygonLimits.{RaisesTo, RaisesBetween}
use Rattle.polygon_check.proofs.RowLists.{seen_from}
use Rattle.polygon_check.proofs.potentials.raise_from.Goals as goal

pub lasts-preserved : goal.lasts-preserved
lasts-preserved c =
    let a = polygon_of c.args.a.now in
    let low : c.lasts.last < length c.args.corners.now = omega (arith, c.lasts-test.true, c.len-last-end.ensures.count, c.requires.corners) in
    let law = seen_from c.args.corners.now a c.args.first c.lasts.last c.vectors_from-vectors.result.items c.vectors_from-vectors.ensures low in
    below_more (λ last. c.args.first < last → RaisesBetween c.args.corners.now a c.args.first last) c.lasts.last c.lasts.invariant
    (λ rising. law.0 (subst (λ vs. RaisesTo (map vector_of vs) a c.args.first c.lasts.last) c.as_slice.ensures.value (c.raise_to.ensures.0 c.if-not-raise_to.false)))

pub returns-then-not-raise_to : goal.returns-then-not-raise_to
returns-then-not-raise_to c =
    let a = polygon_of c.args.a.now in
    let below : c.lasts.last < length c.args.a.now.corners = omega (arith, c.lasts-test.true, c.len-last-end.ensures.count) in
    let low : c.lasts.last < length c.args.corners.now = omega (arith, below, c.requires.corners) in
    let law = seen_from c.args.corners.now a c.args.first c.lasts.last c.vectors_from-vectors.result.items c.vectors_from-vectors.ensures low in (
      λ yes. absurd (cc yes),
      λ all. let yes = c.raise_to.ensures.1 (subst (λ vs. RaisesTo (map vector_of vs) a c.args.first c.lasts.last) (sym c.as_slice.ensures.value) (law.1 (all c.lasts.last below (omega (arith, c.lasts.auto))))) in absurd (cc yes),
    )

pub returns : goal.returns
returns c = (λ yes. λ last low. c.lasts.invariant last (omega (arith, low, c.lasts-test.false, c.len-last-end.ensures.count)), λ all. refl)
