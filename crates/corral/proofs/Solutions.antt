-- What the solver says of a part of some candidates.
use Rattle.std.proofs.Common.{◌≡◌, refl, sym, ◌∙◌, ap, ap₂, subst, get_or, ◌-ℤ◌, ◌*ℤ◌, ◌⊎◌, inl, inr, ℕ, zero, suc, Bool, false, ◌+◌, ◌^◌, ◌≤◌, ℤ, pos, ◌≤ℤ◌, ◌<ℤ◌, List, [], ◌∷◌, length, take, map, arith}
use Rattle.std.specs.Prelude.{All, ◌==◌}
use Rattle.std.proofs.lemmas.Int.{ints}
use Rattle.std.proofs.lemmas.List.{length-map}
use Rattle.std.proofs.lemmas.List.Elements.{All-weaker, All-nil, All-cons, All-head, All-tail}
use Rattle.integers.proofs.Sizes.{below_size}
use Rattle.bounds_model.specs.Space.{SpacePoint, vector, dot, squared_length}
use Rattle.bounds_model.specs.Slacks.{WeightedVector, slack, AreEqualSlacks, AreAffinelyDependent, IsLow}
use Rattle.kernel_laws.specs.Vectors.{vector_of, vectors_of}
use Rattle.kernel_laws.specs.declared.vectors.Vector.{Vector}
use Rattle.kernel_laws.specs.Limits.{IsVectorWithin, IsDifference, difference_limit}
use Rattle.kernel_laws.specs.Solutions.{AreItems, IsWeighting, weighted, weight_limit}
use Rattle.kernel_laws.proofs.SideLimits.{more_within}
use Rattle.corral.specs.declared.search.Candidate.{Candidate}
use Rattle.corral.specs.declared.sums.Moments.{Moments}
use Rattle.corral.specs.Parts.{IsPart}
use Rattle.corral.specs.Supports.{AreSupports, AreBalanced, IsRefuted}
use Rattle.corral.specs.Moments.{AreMoments, AreWithin, slack_at, IsLevel}
use Rattle.corral.specs.declared.search.Balance.{Balance}
use Rattle.corral.specs.WeightedItems.{names, weights}
use Rattle.corral.specs.Balances.{vectors, candidate_names, IsBalance, IsFound}
use Rattle.corral.proofs.Parts.{part_all, part_map, part_length}
use Rattle.corral.proofs.Supports.{balanced_from_weighting, supports_from_balanced, vectors-weighted, mass-weighted}
use Rattle.corral.proofs.Moments.{at_least_common, below_common}
use Rattle.corral.proofs.MomentSums.{AreLimited, limited_weighted}
use Rattle.corral.proofs.TooMany.{independent_are_few}

-- the vectors of a part, from the machine's
pub same_vectors : (part : List Candidate) (padded : List Vector) → take (length part) padded ≡ map (λ c. c.vector) part → vectors_of (take (length part) padded) ≡ vectors part
same_vectors part padded e = ap vectors_of e ∙ fused part
  where
    fused : (part : List Candidate) → vectors_of (map (λ c. c.vector) part) ≡ vectors part
    fused [] = refl
    fused (c ∷ cs) = ap (λ rest. vector_of c.vector ∷ rest) (fused cs)

-- how many they are
pub few_candidates : (dim : ℕ) → (dim ≡ 2) ⊎ (dim ≡ 3) → {part all : List Candidate} → IsPart part all → length (vectors all) ≤ dim + 2 → length part ≤ 5
few_candidates dim flag {part} {all} h few =
    let shorter = part_length h in
    let same = length-map all (λ c. vector_of c.vector) in
    elim flag [ inl e ↦ omega arith | inr e ↦ omega arith ]

-- the solver takes each part
pub items_of_part : (quadratic : ℤ) (dim : ℕ) {part all : List SpacePoint} → IsPart part all → 1 ≤ length part → AreItems quadratic dim all → AreItems quadratic dim part
items_of_part quadratic dim {part} {all} h some items = record {
  some = some;
  few = let shorter = part_length h in let few = items.few in omega arith;
  each = part_all (IsDifference dim) h items.each;
  near = λ e. All-weaker (λ a. All (λ b. IsVectorWithin (difference_limit dim) (vector a b)) all) (λ a. All (λ b. IsVectorWithin (difference_limit dim) (vector a b)) part)
      (λ a near. part_all (λ b. IsVectorWithin (difference_limit dim) (vector a b)) h near) part
      (part_all (λ a. All (λ b. IsVectorWithin (difference_limit dim) (vector a b)) all) h (items.near e));
}

-- vectors within the limit of differences
pub within_difference_limit : (dim : ℕ) (vs : List SpacePoint) → All (IsDifference dim) vs → All (IsVectorWithin (difference_limit dim)) vs
within_difference_limit dim vs h = All-weaker (IsDifference dim) (IsVectorWithin (difference_limit dim)) (λ v d. d.within) vs h

-- and so within the plane's limit, which is the greater one
pub within_plane_limit : (dim : ℕ) → (dim ≡ 2) ⊎ (dim ≡ 3) → (vs : List SpacePoint) → All (IsDifference dim) vs → All (IsVectorWithin 400000) vs
within_plane_limit dim flag vs h = All-weaker (IsVectorWithin (difference_limit dim)) (IsVectorWithin 400000) (λ v. more_within (most dim flag)) vs (within_difference_limit dim vs h)
  where
    most : (dim : ℕ) → (dim ≡ 2) ⊎ (dim ≡ 3) → difference_limit dim ≤ 400000
    most dim (inl e) = subst (λ d. difference_limit d ≤ 400000) (sym e) (omega arith)
    most dim (inr e) = subst (λ d. difference_limit d ≤ 400000) (sym e) (omega arith)

-- ---- weights that the solver gives

-- what holds of the weights of items holds of all weights
weights_of_items : (P : ℤ → Type 0) (ws : List ℤ) (vs : List SpacePoint) → length ws ≡ length vs → All (λ item. P item.weight) (weighted ws vs) → All P ws
weights_of_items P [] vs e h = All-nil P
weights_of_items P (w ∷ ws) [] e h = absurd (omega arith)
weights_of_items P (w ∷ ws) (v ∷ vs) e h =
    All-cons P w ws (All-head (λ (item : WeightedVector). P item.weight) (record { weight = w; vector = v }) (weighted ws vs) h)
    (weights_of_items P ws vs (omega arith) (All-tail (λ (item : WeightedVector). P item.weight) (record { weight = w; vector = v }) (weighted ws vs) h))

-- weights below 1 refute a part
pub refuted_by_weight : (quadratic : ℤ) (limit : ℕ) (all part : List SpacePoint) (ws : List ℤ) → IsWeighting quadratic limit part ws → ¬ All (λ w. pos 1 ≤ℤ w) ws → IsRefuted quadratic all part
refuted_by_weight quadratic limit all part ws h below =
    inr (ws, balanced_from_weighting quadratic limit part ws h, λ settles. below (weights_of_items (λ w. pos 1 ≤ℤ w) ws part h.as_many settles.supports.weights))

-- the slack, from the sums
pub slack_is : (quadratic : ℤ) (items : List WeightedVector) (m : Moments) (v : SpacePoint) → AreMoments items m → slack_at quadratic m v ≡ slack quadratic items v
slack_is quadratic items m v h = ap₂ (λ s w. pos 2 *ℤ dot v s -ℤ quadratic *ℤ (w *ℤ squared_length v)) h.sum h.mass

-- equal slacks are that of the first
level_of_first : (quadratic : ℤ) (items : List WeightedVector) (level : ℤ) (d : WeightedVector) → 1 ≤ length items → AreEqualSlacks quadratic items
    → level ≡ slack quadratic items (get_or items 0 d).vector → IsLevel quadratic items level
level_of_first quadratic items level d some equal e k f l = equal k f l 0 d some ∙ sym e

first_vector : (ws : List ℤ) (vs : List SpacePoint) (w : ℤ) (d : SpacePoint) → length ws ≡ length vs → 1 ≤ length vs → (get_or (weighted ws vs) 0 (record { weight = w; vector = d })).vector ≡ get_or vs 0 d
first_vector ws [] w d e some = absurd (omega arith)
first_vector [] (v ∷ vs) w d e some = absurd (omega arith)
first_vector (x ∷ ws) (v ∷ vs) w d e some = refl

-- positive weights of a part of some candidates, with their sums
pub record IsSolution (quadratic : ℤ) (dim : ℕ) (all part : List Candidate) (ws : List ℤ) (m : Moments) : Type 0 where
  pub is_part : IsPart part all
  pub some : 1 ≤ length part
  pub items : AreItems quadratic dim (vectors all)
  pub weighting : IsWeighting quadratic (weight_limit quadratic dim) (vectors part) ws
  pub independent : ¬ AreAffinelyDependent (vectors part)
  pub positive : All (λ w. pos 1 ≤ℤ w) ws
  pub moments : AreMoments (weighted ws (vectors part)) m

-- a part of some candidates as a part of their vectors
pub vectors_part : {part all : List Candidate} → IsPart part all → IsPart (vectors part) (vectors all)
vectors_part h = part_map (λ c. vector_of c.vector) h

module _ (quadratic : ℤ) (dim : ℕ) (all part : List Candidate) (ws : List ℤ) (m : Moments) (h : IsSolution quadratic dim all part ws m) where
  differences : All (IsDifference dim) (vectors part)
  differences = part_all (IsDifference dim) (vectors_part h.is_part) h.items.each

  -- its sums are within the limits
  pub solution_within : AreWithin quadratic dim m
  solution_within =
      let limits : AreLimited (weight_limit quadratic dim) (difference_limit dim) m = limited_weighted (weight_limit quadratic dim) (difference_limit dim) ws (vectors part) m h.moments h.weighting.as_many h.positive (within_difference_limit dim (vectors part) differences) (below_size h.weighting.sum_limited) in
      record { mass = limits.mass; sum = limits.sum }

  -- they are few
  pub solution_few : (dim ≡ 2) ⊎ (dim ≡ 3) → length part ≤ 4
  solution_few flag =
      let most = independent_are_few dim flag (vectors part) (let shorter = part_length (vectors_part h.is_part) in let few = h.items.few in omega arith) differences h.independent in
      let same = length-map part (λ c. vector_of c.vector) in
      elim flag [ inl e ↦ omega arith | inr e ↦ omega arith ]

  balanced : AreBalanced quadratic (vectors part) ws
  balanced = balanced_from_weighting quadratic (weight_limit quadratic dim) (vectors part) ws h.weighting

  supports : AreSupports quadratic (weighted ws (vectors part))
  supports = supports_from_balanced quadratic (vectors part) ws balanced h.positive

  -- the slack of the first is that of each
  pub solution_level : (level : ℤ) (d : SpacePoint) → level ≡ slack_at quadratic m (get_or (vectors part) 0 d) → IsLevel quadratic (weighted ws (vectors part)) level
  solution_level level d e =
      let some : 1 ≤ length (vectors part) = let same = length-map part (λ c. vector_of c.vector) in let some = h.some in omega arith in
      level_of_first quadratic (weighted ws (vectors part)) level (record { weight = pos 0; vector = d }) supports.some supports.equal
      (e ∙ slack_is quadratic (weighted ws (vectors part)) m (get_or (vectors part) 0 d) h.moments ∙ ap (slack quadratic (weighted ws (vectors part))) (sym (first_vector ws (vectors part) (pos 0) d h.weighting.as_many some)))

  -- where no candidate is below it, none is low
  pub none_low : (level : ℤ) → IsLevel quadratic (weighted ws (vectors part)) level → All (λ v. level ≤ℤ slack_at quadratic m v) (vectors all) → All (λ v. ¬ IsLow quadratic (weighted ws (vectors part)) v) (vectors all)
  none_low level is above = All-weaker (λ v. level ≤ℤ slack_at quadratic m v) (λ v. ¬ IsLow quadratic (weighted ws (vectors part)) v)
      (λ v at_least low. clash (below_common quadratic (weighted ws (vectors part)) level supports.some is v low) (subst (λ z. level ≤ℤ z) (slack_is quadratic (weighted ws (vectors part)) m v h.moments) at_least))
      (vectors all) above
    where
      clash : {a b : ℤ} → a <ℤ b → b ≤ℤ a → ⊥
      clash p q = omega (arith, ints)

  -- where one is, the part is refuted
  pub refuted_by_low : (level : ℤ) → IsLevel quadratic (weighted ws (vectors part)) level → ¬ All (λ v. level ≤ℤ slack_at quadratic m v) (vectors all) → IsRefuted quadratic (vectors all) (vectors part)
  refuted_by_low level is below =
      inr (
        ws,
        balanced,
        λ settles. below (All-weaker (λ v. ¬ IsLow quadratic (weighted ws (vectors part)) v) (λ v. level ≤ℤ slack_at quadratic m v)
            (λ v not_low. subst (λ z. level ≤ℤ z) (sym (slack_is quadratic (weighted ws (vectors part)) m v h.moments)) (at_least_common quadratic (weighted ws (vectors part)) level is v not_low))
            (vectors all) settles.none_low),
      )

  -- the supports that are found
  pub found : (level : ℤ) (b : Balance) → IsLevel quadratic (weighted ws (vectors part)) level → All (λ v. level ≤ℤ slack_at quadratic m v) (vectors all)
      → names b.members.items ≡ candidate_names part → weights b.members.items ≡ ws → b.moments ≡ m → b.level ≡ level → IsFound dim quadratic all part b
  found level b is above named weighed same_sums same_level = record {
    is_part = h.is_part;
    named = named;
    balance = subst (λ us. IsBalance dim quadratic (weighted us (vectors part)) b) (sym weighed) (record {
      supports = supports;
      independent = subst (λ vs. ¬ AreAffinelyDependent vs) (sym (vectors-weighted ws (vectors part) h.weighting.as_many)) h.independent;
      differences = subst (All (IsDifference dim)) (sym (vectors-weighted ws (vectors part) h.weighting.as_many)) differences;
      limit = subst (λ t. t ≤ℤ pos (weight_limit quadratic dim)) (sym (mass-weighted ws (vectors part) h.weighting.as_many)) (below_size h.weighting.sum_limited);
      moments = subst (AreMoments (weighted ws (vectors part))) (sym same_sums) h.moments;
      level = subst (IsLevel quadratic (weighted ws (vectors part))) (sym same_level) is;
    });
    none_low = subst (λ us. All (λ v. ¬ IsLow quadratic (weighted us (vectors part)) v) (vectors all)) (sym weighed) (none_low level is above);
  }

-- ---- as the code has them

-- the vectors of the part are those of the machine, and the weights those of the solver
pub solution : (quadratic : ℤ) (dim : ℕ) (all part : List Candidate) (us : List Vector) (ws solved : List ℤ) (m : Moments) → IsPart part all → 1 ≤ length part → AreItems quadratic dim (vectors all) → vectors_of us ≡ vectors part
    → IsWeighting quadratic (weight_limit quadratic dim) (vectors_of us) solved → ws ≡ solved → ¬ AreAffinelyDependent (vectors_of us) → All (λ w. pos 1 ≤ℤ w) ws → AreMoments (weighted ws (vectors_of us)) m → IsSolution quadratic dim all part ws m
solution quadratic dim all part us ws solved m is_part some items same weighting given independent positive moments = record {
  is_part = is_part;
  some = some;
  items = items;
  weighting = subst (λ vs. IsWeighting quadratic (weight_limit quadratic dim) vs ws) same (subst (IsWeighting quadratic (weight_limit quadratic dim) (vectors_of us)) (sym given) weighting);
  independent = subst (λ vs. ¬ AreAffinelyDependent vs) same independent;
  positive = positive;
  moments = subst (λ vs. AreMoments (weighted ws vs) m) same moments;
}

-- the first vector
pub first_of_part : (part : List Candidate) (us : List Vector) (d : Vector) → vectors_of us ≡ vectors part → vector_of (get_or us 0 d) ≡ get_or (vectors part) 0 (vector_of d)
first_of_part part [] d same = ap (λ vs. get_or vs 0 (vector_of d)) same
first_of_part part (u ∷ us) d same = ap (λ vs. get_or vs 0 (vector_of d)) same

-- a length that is not 0
pub not_empty : (n : ℕ) (b : Bool) → b ≡ (n == 0) → b ≡ false → 1 ≤ n
not_empty zero b e f = cc
not_empty (suc n) b e f = omega arith
