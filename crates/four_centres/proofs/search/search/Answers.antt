use Rattle.std.proofs.Common.{rules, inl, inr, subst, sym, ℕ, pos, ◌+◌, ◌*◌, ◌/◌, ◌<◌, ◌≤◌, length, SFits, w32, arith}
use Rattle.std.specs.Prelude.{slice_index_or}
use Rattle.std.proofs.Math.Nat.{mul-le-mul_right}
use Rattle.std.proofs.lemmas.Int.{to_z-of_z}
use Rattle.integers.proofs.Lists.{below_or_at}
use Rattle.bounded_coords.specs.Clouds.{counted_points}
use Rattle.four_centres.specs.Windows.{reads}
use Rattle.four_centres.specs.Heights.{IsDone}
use Rattle.four_centres.proofs.Following.{done_for_less}
use Rattle.std.proofs.lemmas.List.{get_or_default}
use Rattle.four_centres.proofs.KeptLeaves.{heights_at_most, kept_none}
use Rattle.four_centres.proofs.search.search.Goals as goal

pub improve-requires-clause-height : goal.improve-requires-clause-height
improve-requires-clause-height g c =
    let below = c.sample-test.true in
    let inside : 16 * c.sample.i + 8 < length c.args.heights.now = omega (arith, below) in
    let fits : SFits w32 (slice_index_or c.args.heights.now (16 * c.sample.i + 8) (pos 0)) = search rules in
    simp to_z-of_z (heights_at_most (counted_points c.args.cloud) c.args.least c.args.heights.now c.requires.heights (16 * c.sample.i + 8) (pos 0) inside)

pub heights-init : goal.heights-init
heights-init g c = record {
  best = c.sample.invariant.best;
  done = λ k d low. absurd (omega (arith, low));
  kept = kept_none c.sample.best.side (counted_points c.args.cloud) c.args.least c.args.heights.now 0 c.new.result c.new.ensures;
  steps = all_sampled c.args.steps.now c.sample.steps c.sample.i (length c.args.heights.now / 16) (20 * reads (length (counted_points c.args.cloud)) 2) c.sample.auto.i-end c.sample.invariant.steps;
}
  where
    all_sampled : (was now i q m : ℕ) → i ≤ q → now ≤ was + i * m → now ≤ was + (q + 0) * m
    all_sampled was now i q m most h = let l = mul-le-mul_right m most in omega (arith, l, h)

pub heights-preserved : goal.heights-preserved
heights-preserved g c =
    let points = counted_points c.args.cloud in
    record {
      best = c.visit.ensures.best;
      done = λ k d low. elim (below_or_at k c.heights.i low) [
        | inl sooner ↦ done_for_less points c.args.least (slice_index_or c.args.heights.now k d) c.visit.new.best.side c.heights.best.side c.visit.ensures.less (c.heights.invariant.done k d sooner)
        | inr now ↦ subst (λ j. IsDone points c.args.least (slice_index_or c.args.heights.now j d) c.visit.new.best.side) (sym now)
            (subst (λ y. IsDone points c.args.least y c.visit.new.best.side) (get_or_default c.args.heights.now c.heights.i (pos 0) d c.heights-test.true) c.in_ok-visit.ensures.done)
      ];
      kept = c.in_ok-visit.ensures.kept;
      steps = one_more c.args.steps.now c.heights.steps c.visit.new.steps c.heights.i (length c.args.heights.now / 16) (20 * reads (length points) 2) c.heights.invariant.steps c.visit.ensures.steps;
    }
  where
    one_more : (was now then i first m : ℕ) → now ≤ was + (first + i) * m → then ≤ now + m → then ≤ was + (first + (i + 1)) * m
    one_more was now then i first m h k = omega (arith, h, k)
