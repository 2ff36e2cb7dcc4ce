use Rattle.std.proofs.Common.{inl, inr, refl, sym, subst, ap, ◌≡◌, ℕ, suc, ◌+◌, ◌-◌, ◌/◌, length, SFits, w32, arith}
use Rattle.std.proofs.lemmas.Int.{to_z-of_z}
use Rattle.bounded_coords.specs.Clouds.{counted_points}
use Rattle.four_centres.specs.Windows.{reads}
use Rattle.four_centres.specs.Heights.{IsDone}
use Rattle.four_centres.specs.Search.{IsBestSoFar}
use Rattle.four_centres.proofs.Halving.{tries_at_first, one_try_less}
use Rattle.four_centres.proofs.search.halve.Goals as goal

pub halving-init : goal.halving-init
halving-init g c = record {
  best = c.requires.best;
  less = omega arith;
  order = omega arith;
  refuted = tt;
  tries = tries_at_first (reads (length (counted_points c.args.cloud)) 2) c.args.steps.now c.args.best.now.side c.requires.best.limit;
}

pub halving-preserved-then-not-try_height : goal.halving-preserved-then-not-try_height
halving-preserved-then-not-try_height g c =
    let points = counted_points c.args.cloud in
    let fits : SFits w32 c.args.height = c.ranges.height in
    let left = simp to_z-of_z at c.if-not-try_height.ensures.left refl in
    let same_side : c.try_height.new.best.side ≡ c.halving.best.side = ap (λ b. b.side) left.same in
    let some = c.halving-test.true in
    record {
      best = subst (IsBestSoFar points) (sym left.same) c.halving.invariant.best;
      less = (let l = c.halving.invariant.less in omega (arith, l, same_side));
      order = (omega (arith, some, same_side));
      refuted = simp to_z-of_z (subst (IsDone points c.args.least c.args.height) (next (c.halving.low + (c.halving.best.side - c.halving.low) / 2)) (inr left.refuted));
      tries = one_try_less (reads (length points) 2) c.args.steps.now c.halving.steps c.try_height.new.steps c.halving.low c.halving.best.side _ c.try_height.new.best.side _ c.halving.invariant.tries some refl (inr (refl, same_side)) c.try_height.ensures.steps;
    }
  where
    next : (k : ℕ) → suc k ≡ k + 1
    next k = omega arith

pub halving-preserved : goal.halving-preserved
halving-preserved g c =
    let points = counted_points c.args.cloud in
    let taken = c.if-not-try_height.ensures.taken refl in
    let wide = taken.wide in
    let some = c.halving-test.true in
    record {
      best = taken.best;
      less = (let l = c.halving.invariant.less in omega (arith, l, wide, some));
      order = omega (arith, wide);
      refuted = c.halving.invariant.refuted;
      tries = one_try_less (reads (length points) 2) c.args.steps.now c.halving.steps c.try_height.new.steps c.halving.low c.halving.best.side c.halving.low c.try_height.new.best.side _ c.halving.invariant.tries some refl (inl (refl, wide)) c.try_height.ensures.steps;
    }

pub returns-clause-done : goal.returns-clause-done
returns-clause-done g c =
    let fits : SFits w32 c.args.height = c.ranges.height in
    let past = c.halving-test.false in
    let order = c.halving.invariant.order in
    let is : c.halving.low ≡ c.halving.best.side = omega (arith, past, order) in
    let refuted = simp to_z-of_z at c.halving.invariant.refuted in
    subst (IsDone (counted_points c.args.cloud) c.args.least c.args.height) is refuted
