-- Of the supports on parts of a list, those of greatest value settle the list.
use Rattle.std.proofs.Common.{◌≡◌, refl, sym, ◌∙◌, ap, subst, ◌⊎◌, inl, inr, ◌≤◌, ℤ, pos, ◌≤ℤ◌, ◌<ℤ◌, List, [], ◌∷◌, length, map, arith}
use Rattle.std.specs.Prelude.{All}
use Rattle.std.specs.declared.option.Option.{Option}
use Rattle.std.specs.declared.option.Option.TheVariants.{Some, None}
use Rattle.std.proofs.lemmas.Int.{ints, by_lt_z}
use Rattle.std.proofs.lemmas.List.Elements.{All-nil, All-cons, All-map}
use Rattle.std.proofs.lemmas.List.{length-map}
use Rattle.integers.proofs.Order.{le_of_same}
use Rattle.integers.proofs.Fractions.{fraction_total}
use Rattle.bounds_model.specs.Space.{SpacePoint}
use Rattle.bounds_model.specs.Fractions.{IsAtMost}
use Rattle.bounds_model.specs.Slacks.{WeightedVector, slack, value, IsLow}
use Rattle.kernel_laws.specs.Solutions.{weighted}
use Rattle.corral.specs.Parts.{IsPart}
use Rattle.corral.specs.Supports.{support_vectors, AreSupports, AreBalanced, Settles}
use Rattle.corral.proofs.Parts.{part_whole, part_trans}
use Rattle.corral.proofs.Insertions.{IsInserted, at_inserted, all_inserted, some_inserted, each_or_one}
use Rattle.corral.proofs.Greatest.{IsTotalOrder, has_greatest}
use Rattle.corral.proofs.Supports.{vectors-weighted, all_vectors, supports_from_balanced}
use Rattle.corral.proofs.Moments.{common_slack, below_common, mass_positive, no_less_trans, greater_trans, not_both}
use Rattle.corral.proofs.SmallSteps.{scaled_items, vectors-scaled, weights-scaled, has_step}
use Rattle.corral.proofs.InsertedItems.{insert}
use Rattle.corral.proofs.Walk.{IsSolvedWith, AreAllSolvedWith, SupportedPart, items_on, mass_of, supported_in_more, walk_with}

-- ---- what a part offers

some_of : (v : SpacePoint) (part : List SpacePoint) → 1 ≤ length (v ∷ part)
some_of v part = omega arith

-- the weights are at least 1, or one of them is not
abbrev AreTested : List ℤ → Type 0
AreTested ws = All (λ w. pos 1 ≤ℤ w) ws ⊎ ((w : ℤ) × (rest : List ℤ) × IsInserted w rest ws × (w <ℤ pos 1))

pub tested : (ws : List ℤ) → AreTested ws
tested ws = each_or_one (λ w. pos 1 ≤ℤ w) (λ w. w <ℤ pos 1) (λ w. by_lt_z w (pos 1) inr inl) ws

-- the vector with the weight 1
abbrev weight_one : SpacePoint → WeightedVector
weight_one v = record { weight = pos 1; vector = v }

-- each vector with the weight 1
abbrev of_weight_one : List SpacePoint → List WeightedVector
of_weight_one vectors = map weight_one vectors

vectors_of_weight_one : (vectors : List SpacePoint) → support_vectors (of_weight_one vectors) ≡ vectors
vectors_of_weight_one [] = refl
vectors_of_weight_one (v ∷ vectors) = ap (λ rest. v ∷ rest) (vectors_of_weight_one vectors)

all_of_weight_one : (vectors : List SpacePoint) → All (λ item. pos 1 ≤ℤ item.weight) (of_weight_one vectors)
all_of_weight_one [] = All-nil (λ (item : WeightedVector). pos 1 ≤ℤ item.weight)
all_of_weight_one (v ∷ vectors) = All-cons (λ (item : WeightedVector). pos 1 ≤ℤ item.weight) (weight_one v) (of_weight_one vectors) (omega (arith, ints)) (all_of_weight_one vectors)

module _ (Q : List SpacePoint → List ℤ → Type 0) (quadratic : ℤ) (vectors : List SpacePoint) where
  -- the part with these weights, if they are at least 1
  abbrev offered_by : (part : List SpacePoint) → IsPart part vectors → (solution : (ws : List ℤ) × AreBalanced quadratic part ws × Q part ws) → AreTested solution.0 → Option (SupportedPart Q quadratic vectors)
  offered_by part is_part solution (inl all) = Some (record { part = part; weights = solution.0; is_part = is_part; balanced = solution.1; at_least_one = all; holds = solution.2 })
  offered_by part is_part solution (inr one) = None

  -- the part with the weights that balance it, if it is not dependent and they are at least 1
  abbrev offered : (part : List SpacePoint) → IsPart part vectors → IsSolvedWith Q quadratic part → Option (SupportedPart Q quadratic vectors)
  offered part is_part (inl dependent) = None
  offered part is_part (inr solution) = offered_by part is_part solution (tested solution.0)

  -- what each part has to offer
  abbrev offer : AreAllSolvedWith Q quadratic vectors → (part : List SpacePoint) → IsPart part vectors → Option (SupportedPart Q quadratic vectors)
  offer solved [] is_part = None
  offer solved (v ∷ part) is_part = offered (v ∷ part) is_part (solved (v ∷ part) is_part (some_of v part))

  -- by their values
  abbrev IsNoBetter : SupportedPart Q quadratic vectors → SupportedPart Q quadratic vectors → Type 0
  IsNoBetter a b = IsAtMost (value quadratic (items_on a)) (value quadratic (items_on b))

  by_value : IsTotalOrder IsNoBetter
  by_value = record {
    either = λ a b. fraction_total (value quadratic (items_on a)).n (value quadratic (items_on a)).d (value quadratic (items_on b)).n (value quadratic (items_on b)).d;
    trans = λ a b c. no_less_trans quadratic (items_on a) (items_on b) (items_on c) (mass_of a) (mass_of b) (mass_of c);
  }

  -- weights of at least 1 have no greater value than the best
  abbrev AreNoBetter : SupportedPart Q quadratic vectors → List SpacePoint → List ℤ → Type 0
  AreNoBetter best part ws = All (λ w. pos 1 ≤ℤ w) ws → IsAtMost (value quadratic (weighted ws part)) (value quadratic (items_on best))

  no_better_by : (best : SupportedPart Q quadratic vectors) (part : List SpacePoint) (is_part : IsPart part vectors) (solution : (ws : List ℤ) × AreBalanced quadratic part ws × Q part ws) (t : AreTested solution.0)
      → ((c : SupportedPart Q quadratic vectors) → offered_by part is_part solution t ≡ Some c → IsNoBetter c best) → AreNoBetter best part solution.0
  no_better_by best part is_part solution (inl all) h again = h (record { part = part; weights = solution.0; is_part = is_part; balanced = solution.1; at_least_one = all; holds = solution.2 }) refl
  no_better_by best part is_part solution (inr one) h again = absurd (clash (at_inserted (λ w. pos 1 ≤ℤ w) one.2 again) one.3)
    where
      clash : {w : ℤ} → pos 1 ≤ℤ w → w <ℤ pos 1 → ⊥
      clash h k = omega (arith, ints)

  -- so each part is dependent, or has such weights
  no_better : (solved : AreAllSolvedWith Q quadratic vectors) (best : SupportedPart Q quadratic vectors)
      → ((part : List SpacePoint) (is_part : IsPart part vectors) (c : SupportedPart Q quadratic vectors) → offer solved part is_part ≡ Some c → IsNoBetter c best) → AreAllSolvedWith (AreNoBetter best) quadratic vectors
  no_better solved best bound [] is_part some = absurd (omega arith)
  no_better solved best bound (v ∷ part) is_part some = go (solved (v ∷ part) is_part (some_of v part)) (bound (v ∷ part) is_part)
    where
      go : (s : IsSolvedWith Q quadratic (v ∷ part)) → ((c : SupportedPart Q quadratic vectors) → offered (v ∷ part) is_part s ≡ Some c → IsNoBetter c best) → IsSolvedWith (AreNoBetter best) quadratic (v ∷ part)
      go (inl dependent) h = inl dependent
      go (inr solution) h = inr (solution.0, solution.1, no_better_by best (v ∷ part) is_part solution (tested solution.0) h)

  -- ---- under the best no vector is low

  -- a low vector would lead to a greater value
  cannot_rise : (best : SupportedPart Q quadratic vectors) → AreAllSolvedWith (AreNoBetter best) quadratic vectors → {v : SpacePoint} {rest : List SpacePoint} → IsInserted v rest vectors → IsLow quadratic (items_on best) v → ⊥
  cannot_rise best solved {v} at low =
      let items = items_on best in
      let supports = supports_from_balanced quadratic best.part best.weights best.balanced best.at_least_one in
      let step = has_step quadratic items v supports low in
      let scaled = scaled_items step.k items in
      let same = vectors-scaled step.k items in
      let own = none_of_own supports in
      let placed = insert (IsLow quadratic items) (pos 1) at low scaled
      (subst (λ vs. IsPart vs vectors) (sym (same ∙ vectors-weighted best.weights best.part best.balanced.as_many)) best.is_part)
      (all_vectors (λ v. ¬ IsLow quadratic items v) scaled (subst (All (λ v. ¬ IsLow quadratic items v)) (sym same) (All-map (λ v. ¬ IsLow quadratic items v) (λ item. item.vector) items own))) in
      let weights = all_inserted (λ (item : WeightedVector). pos 1 ≤ℤ item.weight) placed.inserted (omega (arith, ints)) (weights-scaled step.k step.at_least_one items supports.weights) in
      let some = some_inserted placed.inserted in
      let heavy = mass_positive placed.more some weights in
      let r = walk_with (AreNoBetter best) quadratic placed.more some weights (λ part is_part some_part. solved part (part_trans is_part placed.is_part) some_part) in
      let c = r.supported in
      not_both quadratic items (items_on c)
      (greater_trans quadratic items placed.more (items_on c) (mass_of best) heavy (mass_of c) (step.raises placed.more placed.inserted) r.no_less)
      (c.holds c.at_least_one)
    where
      clash : {x y : ℤ} → x <ℤ y → y ≤ℤ x → ⊥
      clash h k = omega (arith, ints)

      none_of_own : AreSupports quadratic (items_on best) → All (λ item. ¬ IsLow quadratic (items_on best) item.vector) (items_on best)
      none_of_own supports k d l low =
          let common = common_slack quadratic (items_on best) supports.some supports.equal in
          clash (below_common quadratic (items_on best) common.0 supports.some common.1 _ low) (le_of_same (sym (common.1 k d l)))

  low_or_not : (best : SupportedPart Q quadratic vectors) (v : SpacePoint) → ¬ IsLow quadratic (items_on best) v ⊎ IsLow quadratic (items_on best) v
  low_or_not best v =
      let supports = supports_from_balanced quadratic best.part best.weights best.balanced best.at_least_one in
      let common = common_slack quadratic (items_on best) supports.some supports.equal in
      by_lt_z (slack quadratic (items_on best) v) common.0
      (λ below. inr (λ k d l. subst (λ q. slack quadratic (items_on best) v <ℤ q) (sym (common.1 k d l)) below))
      (λ above. inl (λ low. clash (below_common quadratic (items_on best) common.0 supports.some common.1 v low) above))
    where
      clash : {x y : ℤ} → x <ℤ y → y ≤ℤ x → ⊥
      clash h k = omega (arith, ints)

  best_settles : (best : SupportedPart Q quadratic vectors) → AreAllSolvedWith (AreNoBetter best) quadratic vectors → Settles quadratic vectors (items_on best)
  best_settles best solved = go (each_or_one (λ v. ¬ IsLow quadratic (items_on best) v) (λ v. IsLow quadratic (items_on best) v) (low_or_not best) vectors)
    where
      go : All (λ v. ¬ IsLow quadratic (items_on best) v) vectors ⊎ ((v : SpacePoint) × (rest : List SpacePoint) × IsInserted v rest vectors × IsLow quadratic (items_on best) v) → Settles quadratic vectors (items_on best)
      go (inl all) = record { supports = supports_from_balanced quadratic best.part best.weights best.balanced best.at_least_one; none_low = all }
      go (inr one) = absurd (cannot_rise best solved one.2 one.3)

  -- a walk from weights of 1 ends at supports on some part
  first_supported : 1 ≤ length vectors → AreAllSolvedWith Q quadratic vectors → SupportedPart Q quadratic vectors
  first_supported some solved =
      let all = all_of_weight_one vectors in
      let e = vectors_of_weight_one vectors in
      supported_in_more (subst (λ vs. IsPart vs vectors) (sym e) (part_whole vectors))
      (walk_with Q quadratic (of_weight_one vectors) (let l = length-map vectors (λ (v : SpacePoint). weight_one v) in omega arith) all (λ part is_part some_part. solved part (subst (IsPart part) e is_part) some_part)).supported

  -- where each part has a solution, the supports on some part settle the list
  pub settling_part : 1 ≤ length vectors → AreAllSolvedWith Q quadratic vectors → (best : SupportedPart Q quadratic vectors) × Settles quadratic vectors (items_on best)
  settling_part some solved =
      let start = first_supported some solved in
      let b = has_greatest IsNoBetter by_value start vectors (offer solved) in
      (b.0, best_settles b.0 (no_better solved b.0 b.1.each))
