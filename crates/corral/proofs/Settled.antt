-- Among the parts of a list one has supports that settle the list, and those have risen.
use Rattle.std.proofs.Common.{sym, subst, inl, inr, pos, ◌≤ℤ◌, List, ◌∷◌, arith}
use Rattle.std.specs.Prelude.{All}
use Rattle.std.proofs.lemmas.Int.{ints}
use Rattle.std.proofs.lemmas.List.Elements.{All-cons}
use Rattle.bounds_model.specs.Space.{SpacePoint}
use Rattle.kernel_laws.specs.Solutions.{weighted}
use Rattle.bounds_model.specs.Slacks.{WeightedVector, IsLow}
use Rattle.corral.specs.Parts.{IsPart}
use Rattle.corral.specs.Supports.{AreSolved, Settles}
use Rattle.corral.specs.Laws.{SomePartSettles, NotAllAreRefuted, ValueRises}
use Rattle.corral.proofs.Duality.{none_low_is_best}
use Rattle.corral.proofs.Insertions.IsInserted.{first}
use Rattle.corral.proofs.Moments.{mass_positive, greater_trans}
use Rattle.corral.proofs.SmallSteps.{scaled_items, vectors-scaled, weights-scaled, has_step}
use Rattle.corral.proofs.Supports.{all_vectors, vectors-weighted}
use Rattle.corral.proofs.Walk.{IsSolvedWith, items_on}
use Rattle.corral.proofs.SupportedParts.{settling_part}

-- some part settles
pub some_part_settles : SomePartSettles
some_part_settles quadratic flag vectors some solved =
    let r = settling_part (λ part ws. Unit {0}) quadratic vectors some (λ part is_part some_part. plainly part (solved part is_part some_part)) in
    let c = r.0 in
    (items_on c, subst (λ vs. IsPart vs vectors) (sym (vectors-weighted c.weights c.part c.balanced.as_many)) c.is_part, r.1)
  where
    plainly : (part : List SpacePoint) → AreSolved quadratic part → IsSolvedWith (λ part ws. Unit {0}) quadratic part
    plainly part (inl dependent) = inl dependent
    plainly part (inr solution) = inr (solution.0, solution.1, tt)

-- not all are refuted
pub not_all_are_refuted : NotAllAreRefuted
not_all_are_refuted quadratic flag vectors some refuted =
    let r = settling_part (λ part ws. ¬ Settles quadratic vectors (weighted ws part)) quadratic vectors some refuted in
    r.0.holds r.1

-- the value of the new supports is greater
pub value_rises : ValueRises
value_rises quadratic flag old found new supports low settles =
    let step = has_step quadratic old new supports low in
    let added : WeightedVector = record { weight = pos 1; vector = new } in
    let scaled = scaled_items step.k old in
    let more : List WeightedVector = added ∷ scaled in
    let weights = All-cons (λ (item : WeightedVector). pos 1 ≤ℤ item.weight) added scaled (omega (arith, ints)) (weights-scaled step.k step.at_least_one old supports.weights) in
    let best = none_low_is_best quadratic flag found more settles.supports (omega arith) weights
    (all_vectors (λ v. ¬ IsLow quadratic found v) more (subst (λ vs. All (λ v. ¬ IsLow quadratic found v) (new ∷ vs)) (sym (vectors-scaled step.k old)) settles.none_low)) in
    let heavy_old = mass_positive old supports.some supports.weights in
    let heavy_more = mass_positive more (omega arith) weights in
    let heavy_found = mass_positive found settles.supports.some settles.supports.weights in
    greater_trans quadratic old more found heavy_old heavy_more heavy_found (step.raises more first) best
