use Rattle.std.proofs.Common.{◌≡◌, sym, subst, ℤ, pos, neg_ℤ, ◌≤ℤ◌, ◌<ℤ◌, FitsSigned, w64, to_z-of_z, false, arith, rules}
use lib.Signed.{le_z}
use Rattle.std.proofs.lemmas.Int.{ints}
use Rattle.integers.proofs.Sizes.{size_fits_in}
use Rattle.integers.proofs.Order.{nonneg_neg}
use Rattle.bounded_coords.specs.Clouds.{points_of}
use Rattle.answers.specs.Answers.{vector_of}
use Rattle.directions.proofs.Reaches.{reach_turned}
use Rattle.parallelogram_strip.proofs.crossing.chord_between.Goals as goal

pub chord-requires-else-reach-le0-clause-ahead : goal.chord-requires-else-reach-le0-clause-ahead
chord-requires-else-reach-le0-clause-ahead c =
    let turned = reach_turned (points_of c.args.cloud) (vector_of c.args.d) c.args.far.hi c.args.far.lo in
    subst (λ z. pos 0 ≤ℤ z) (sym turned) (nonneg_neg c.requires.behind)

pub chord-requires-else-reach-le0-clause-behind : goal.chord-requires-else-reach-le0-clause-behind
chord-requires-else-reach-le0-clause-behind c =
    let turned = reach_turned (points_of c.args.cloud) (vector_of c.args.d) c.args.far.hi c.args.near.lo in
    let fits : FitsSigned w64 c.reach.result = size_fits_in w64 c.reach.ensures.size tt in
    let test : le_z c.reach.result (pos 0) ≡ false = simp to_z-of_z at c.if-reach-le0.false in
    let above : pos 0 <ℤ c.reach.result = above_zero c.reach.result test in
    subst (λ z. z ≤ℤ pos 0) (sym turned) (below (subst (λ z. pos 0 <ℤ z) c.reach.ensures.value above))
  where
    above_zero : (z : ℤ) → le_z z (pos 0) ≡ false → pos 0 <ℤ z
    above_zero z e = search rules

    below : {z : ℤ} → pos 0 <ℤ z → neg_ℤ z ≤ℤ pos 0
    below h = omega (arith, ints)
