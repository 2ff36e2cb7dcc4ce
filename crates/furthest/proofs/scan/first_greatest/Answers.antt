use Rattle.std.proofs.Common.{◌≡◌, subst, sym, ◌∙◌, ◌+◌, ◌<ℤ◌, ◌≤ℤ◌, arith, to_z, of_z, w64}
use Rattle.integers.proofs.Order.{is_less, is_not_less}
use Rattle.integers.proofs.Sizes.{wrap_is_in}
use Rattle.hull_calipers.specs.CornerLists.{corners_in}
use Rattle.furthest_laws.specs.Rows.{IsFirstGreatest, distances}
use Rattle.furthest.proofs.Scans.{HasSeen, seen_rises, seen_stays}
use Rattle.furthest.proofs.scan.first_greatest.Goals as goal
use Rattle.furthest.proofs.scan.first_greatest.Goals.{then-distance-most, else-distance-most}

pub columns-preserved : goal.columns-preserved
columns-preserved g c =
    let corners = corners_in c.args.corners.now in
    let distance = c.squared_distance-distance.result in
    let same : to_z w64 (of_z w64 distance) ≡ distance = wrap_is_in w64 c.squared_distance-distance.ensures.size tt in
    elim c.if-distance-most.branch [
      | then-distance-most w ↦
          subst (λ n. HasSeen corners c.args.row c.args.from (c.columns.column + 1) n (to_z w64 c.if-distance-most.most-bits) c.args.steps.now c.corner_at-in-columns.new.steps) (sym w.first-is)
          (subst (λ z. HasSeen corners c.args.row c.args.from (c.columns.column + 1) c.columns.column z c.args.steps.now c.corner_at-in-columns.new.steps) (sym (w.most-is ∙ same))
          (seen_rises corners c.args.row c.args.from c.columns.column c.columns.first c.corner_at-here.result.now c.corner_at-in-columns.result.now
          (to_z w64 c.columns.most-bits) distance c.args.steps.now c.columns.steps c.corner_at-in-columns.new.steps c.columns.invariant
          c.corner_at-here.ensures.corner c.corner_at-in-columns.ensures.corner c.squared_distance-distance.ensures.value c.squared_distance-distance.ensures.size
          (subst (λ z. to_z w64 c.columns.most-bits <ℤ z) same (is_less w.if-distance-most.true)) c.corner_at-in-columns.ensures.step))
      | else-distance-most w ↦
          subst (λ n. HasSeen corners c.args.row c.args.from (c.columns.column + 1) n (to_z w64 c.if-distance-most.most-bits) c.args.steps.now c.corner_at-in-columns.new.steps) (sym w.first-is)
          (subst (λ z. HasSeen corners c.args.row c.args.from (c.columns.column + 1) c.columns.first z c.args.steps.now c.corner_at-in-columns.new.steps) (sym w.most-is)
          (seen_stays corners c.args.row c.args.from c.columns.column c.columns.first c.corner_at-here.result.now c.corner_at-in-columns.result.now
          (to_z w64 c.columns.most-bits) distance c.args.steps.now c.columns.steps c.corner_at-in-columns.new.steps c.columns.invariant
          c.corner_at-here.ensures.corner c.corner_at-in-columns.ensures.corner c.squared_distance-distance.ensures.value
          (subst (λ z. z ≤ℤ to_z w64 c.columns.most-bits) same (is_not_less w.if-distance-most.false)) c.corner_at-in-columns.ensures.step))
    ]

pub returns-clause-found : goal.returns-clause-found
returns-clause-found g c = subst (λ n. IsFirstGreatest (distances (corners_in c.args.corners.now) c.args.row) c.args.from n c.columns.first)
    (let e : c.columns.column ≡ c.args.to = omega (arith, c.columns-test.false, c.columns.auto.column-end, c.requires.some) in e) c.columns.invariant.found
