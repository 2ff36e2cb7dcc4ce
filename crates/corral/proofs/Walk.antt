-- A walk that drops vectors until supports are left.
use Rattle.std.proofs.Common.{◌≡◌, sym, ◌∙◌, subst, ◌⊎◌, inl, inr, ℕ, zero, suc, ◌≤◌, ℤ, pos, ◌≤ℤ◌, ◌<ℤ◌, List, length, arith}
use Rattle.std.specs.Prelude.{All}
use Rattle.std.proofs.lemmas.Int.{ints, by_lt_z}
use Rattle.std.proofs.lemmas.List.{length-map}
use Rattle.std.proofs.lemmas.List.Elements.{All-map}
use Rattle.integers.proofs.Order.{le_of_same, nonneg_from_one}
use Rattle.bounds_model.specs.Space.{SpacePoint}
use Rattle.bounds_model.specs.Fractions.{IsAtMost}
use Rattle.bounds_model.specs.Slacks.{WeightedVector, mass, slack, value, AreAffinelyDependent}
use Rattle.kernel_laws.specs.Solutions.{weighted}
use Rattle.corral.specs.Parts.{IsPart}
use Rattle.corral.specs.Supports.{support_vectors, AreBalanced, AreSolved}
use Rattle.corral.specs.Laws.{WalkEndsAtSupports}
use Rattle.corral.proofs.Parts.{part_whole, part_trans}
use Rattle.corral.proofs.Insertions.{IsInserted, each_or_one}
use Rattle.corral.proofs.Moments.{common_slack, mass_positive, no_less_trans}
use Rattle.corral.proofs.Blends.{Numbered, by_number, numbered, length-numbered, by_weight-numbered, by_number-numbered, all-numbered, all-by_weight}
use Rattle.corral.proofs.Supports.{mass-weighted, length-weighted, vectors-weighted, all_vectors, some_balanced, supports_from_balanced}
use Rattle.corral.proofs.Duality.{level_is_greatest}
use Rattle.corral.proofs.Drops.{HasFewer, drop_towards}
use Rattle.corral.proofs.Dependent.{drop_dependent}

-- ---- one step

-- what weights that balance the vectors of some items say of them
record AboutWeights (quadratic : ℤ) (items : List WeightedVector) (ws : List ℤ) : Type 0 where
  many : length ws ≡ length items
  p : ℤ
  level : All (λ item. slack quadratic (weighted ws (support_vectors items)) item.vector ≡ p) (weighted ws (support_vectors items))
  same : All (λ item. slack quadratic (weighted ws (support_vectors items)) item.vector ≡ p) items
  heavy : pos 0 <ℤ mass (weighted ws (support_vectors items))
  no_less : IsAtMost (value quadratic items) (value quadratic (weighted ws (support_vectors items)))

about_weights : (quadratic : ℤ) (items : List WeightedVector) (ws : List ℤ) → 1 ≤ length items → All (λ item. pos 1 ≤ℤ item.weight) items → AreBalanced quadratic (support_vectors items) ws → AboutWeights quadratic items ws
about_weights quadratic items ws some weights balanced =
    let vs = support_vectors items in
    let w = weighted ws vs in
    let some_w : 1 ≤ length (weighted ws (support_vectors items)) = (let some = some_balanced quadratic vs ws balanced in let e = length-weighted ws vs balanced.as_many in omega arith) in
    let common = common_slack quadratic w some_w balanced.equal in
    let same = all_vectors (λ v. slack quadratic w v ≡ common.0) items
    (subst (All (λ v. slack quadratic w v ≡ common.0)) (vectors-weighted ws vs balanced.as_many) (All-map (λ v. slack quadratic w v ≡ common.0) (λ item. item.vector) w common.1)) in
    let heavy = subst (λ m. pos 0 <ℤ m) (sym (mass-weighted ws vs balanced.as_many)) balanced.positive in
    record {
      many = balanced.as_many ∙ length-map items (λ item. item.vector);
      p = common.0;
      level = common.1;
      same = same;
      heavy = heavy;
      no_less = level_is_greatest quadratic w items common.0 heavy (mass_positive items some weights) common.1 (λ k d l. nonneg_from_one (weights k d l)) (λ k d l. le_of_same (sym (same k d l)));
    }

-- such weights are all at least 1, or an item can be dropped
all_or_fewer : (quadratic : ℤ) (items : List WeightedVector) (ws : List ℤ) → 1 ≤ length items → All (λ item. pos 1 ≤ℤ item.weight) items → AboutWeights quadratic items ws → All (λ w. pos 1 ≤ℤ w) ws ⊎ HasFewer quadratic items
all_or_fewer quadratic items ws some weights about = go (each_or_one (λ (t : Numbered). pos 1 ≤ℤ t.number) (λ t. t.number ≤ℤ pos 0) (λ t. by_lt_z t.number (pos 1) (λ below. inr (omega (arith, ints))) (λ above. inl above)) (numbered items ws))
  where
    go : All (λ t. pos 1 ≤ℤ t.number) (numbered items ws) ⊎ ((s : Numbered) × (rest : List Numbered) × IsInserted s rest (numbered items ws) × (s.number ≤ℤ pos 0)) → All (λ w. pos 1 ≤ℤ w) ws ⊎ HasFewer quadratic items
    go (inl all) = inl (all-numbered (λ w. pos 1 ≤ℤ w) items ws about.many all)
    go (inr one) =
        let ts = numbered items ws in
        let u = by_weight-numbered items ws about.many in
        let w = by_number-numbered items ws about.many in
        let IsLevel : List WeightedVector → List WeightedVector → Type 0 = λ w items. All (λ item. slack quadratic w item.vector ≡ about.p) items in
        inr (subst (HasFewer quadratic) u
        (drop_towards quadratic about.p ts
        (let e = length-numbered items ws about.many in omega arith)
        (all-by_weight (λ w. pos 1 ≤ℤ w) ts (subst (All (λ item. pos 1 ≤ℤ item.weight)) (sym u) weights))
        (subst (λ items. pos 0 <ℤ mass items) (sym u) (mass_positive items some weights))
        (subst (λ items. pos 0 <ℤ mass items) (sym w) about.heavy)
        (subst (λ items. IsLevel (by_number ts) items) (sym u) (subst (λ w. IsLevel w items) (sym w) about.same))
        (subst (λ w. IsLevel w w) (sym w) about.level)
        (subst (λ items. IsAtMost (value quadratic items) (value quadratic (by_number ts))) (sym u) (subst (λ w. IsAtMost (value quadratic items) (value quadratic w)) (sym w) about.no_less))
        one.2 one.3))

-- ---- the walk

-- a part is dependent, or weights balance it of which something holds
abbrev pub IsSolvedWith : (List SpacePoint → List ℤ → Type 0) → ℤ → List SpacePoint → Type 0
IsSolvedWith Q quadratic part = AreAffinelyDependent part ⊎ ((weights : List ℤ) × AreBalanced quadratic part weights × Q part weights)

-- each part of the vectors that is not empty
abbrev pub AreAllSolvedWith : (List SpacePoint → List ℤ → Type 0) → ℤ → List SpacePoint → Type 0
AreAllSolvedWith Q quadratic vectors = (part : List SpacePoint) → IsPart part vectors → 1 ≤ length part → IsSolvedWith Q quadratic part

-- a part with weights of at least 1 that balance it, of which that holds
pub record SupportedPart (Q : List SpacePoint → List ℤ → Type 0) (quadratic : ℤ) (vectors : List SpacePoint) : Type 0 where
  pub part : List SpacePoint
  pub weights : List ℤ
  pub is_part : IsPart part vectors
  pub balanced : AreBalanced quadratic part weights
  pub at_least_one : All (λ w. pos 1 ≤ℤ w) weights
  pub holds : Q part weights

-- the vectors of its part with its weights
abbrev pub items_on : {Q : List SpacePoint → List ℤ → Type 0} {quadratic : ℤ} {vectors : List SpacePoint} → SupportedPart Q quadratic vectors → List WeightedVector
items_on c = weighted c.weights c.part

-- their sum of weights
pub mass_of : {Q : List SpacePoint → List ℤ → Type 0} {quadratic : ℤ} {vectors : List SpacePoint} (c : SupportedPart Q quadratic vectors) → pos 0 <ℤ mass (items_on c)
mass_of c = subst (λ m. pos 0 <ℤ m) (sym (mass-weighted c.weights c.part c.balanced.as_many)) c.balanced.positive

-- a part of a part is one of the whole
abbrev pub supported_in_more : {Q : List SpacePoint → List ℤ → Type 0} {quadratic : ℤ} {vectors more : List SpacePoint} → IsPart vectors more → SupportedPart Q quadratic vectors → SupportedPart Q quadratic more
supported_in_more h c = record { part = c.part; weights = c.weights; is_part = part_trans c.is_part h; balanced = c.balanced; at_least_one = c.at_least_one; holds = c.holds }

-- supports on a part of the items, of no less value than the items
pub record HasSupports (Q : List SpacePoint → List ℤ → Type 0) (quadratic : ℤ) (items : List WeightedVector) : Type 0 where
  pub supported : SupportedPart Q quadratic (support_vectors items)
  pub no_less : IsAtMost (value quadratic items) (value quadratic (items_on supported))

-- one step: the walk has ended, or goes on with fewer items
step : (Q : List SpacePoint → List ℤ → Type 0) (quadratic : ℤ) (items : List WeightedVector) → 1 ≤ length items → All (λ item. pos 1 ≤ℤ item.weight) items → IsSolvedWith Q quadratic (support_vectors items) → HasSupports Q quadratic items ⊎ HasFewer quadratic items
step Q quadratic items some weights (inl dependent) = inr (drop_dependent quadratic items dependent.0 some weights dependent.1)
step Q quadratic items some weights (inr solution) = by (all_or_fewer quadratic items solution.0 some weights (about_weights quadratic items solution.0 some weights solution.1))
  where
    by : All (λ w. pos 1 ≤ℤ w) solution.0 ⊎ HasFewer quadratic items → HasSupports Q quadratic items ⊎ HasFewer quadratic items
    by (inl all) =
        inl (record {
          supported = record {
            part = support_vectors items;
            weights = solution.0;
            is_part = part_whole (support_vectors items);
            balanced = solution.1;
            at_least_one = all;
            holds = solution.2;
          };
          no_less = (about_weights quadratic items solution.0 some weights solution.1).no_less;
        })
    by (inr fewer) = inr fewer

-- what fewer items end at
onward : (Q : List SpacePoint → List ℤ → Type 0) (quadratic : ℤ) (items : List WeightedVector) → 1 ≤ length items → All (λ item. pos 1 ≤ℤ item.weight) items → (h : HasFewer quadratic items) → HasSupports Q quadratic h.fewer → HasSupports Q quadratic items
onward Q quadratic items some weights h r = record {
  supported = supported_in_more h.is_part r.supported;
  no_less = no_less_trans quadratic items h.fewer (items_on r.supported) (mass_positive items some weights) (mass_positive h.fewer h.some h.weights) (mass_of r.supported) h.no_less r.no_less;
}

-- of at most n items
walk_within : (Q : List SpacePoint → List ℤ → Type 0) (quadratic : ℤ) (n : ℕ) (items : List WeightedVector) → length items ≤ n → 1 ≤ length items → All (λ item. pos 1 ≤ℤ item.weight) items → AreAllSolvedWith Q quadratic (support_vectors items) → HasSupports Q quadratic items
walk_within Q quadratic zero items short some weights solved = absurd (omega arith)
walk_within Q quadratic (suc n) items short some weights solved =
    go (step Q quadratic items some weights (solved (support_vectors items) (part_whole (support_vectors items)) (let e = length-map items (λ (item : WeightedVector). item.vector) in omega arith)))
    (λ h. walk_within Q quadratic n h.fewer (let s = h.shorter in omega arith) h.some h.weights (λ part is_part some_part. solved part (part_trans is_part h.is_part) some_part))
  where
    go : HasSupports Q quadratic items ⊎ HasFewer quadratic items → ((h : HasFewer quadratic items) → HasSupports Q quadratic h.fewer) → HasSupports Q quadratic items
    go (inl ended) rest = ended
    go (inr h) rest = onward Q quadratic items some weights h (rest h)

-- the walk ends at supports of no less value, with the weights that were given for their part
pub walk_with : (Q : List SpacePoint → List ℤ → Type 0) (quadratic : ℤ) (items : List WeightedVector) → 1 ≤ length items → All (λ item. pos 1 ≤ℤ item.weight) items → AreAllSolvedWith Q quadratic (support_vectors items) → HasSupports Q quadratic items
walk_with Q quadratic items some weights solved = walk_within Q quadratic (length items) items (omega arith) some weights solved

-- it ends at supports of no less value
pub walk : WalkEndsAtSupports
walk quadratic flag items some weights solved =
    let r = walk_with (λ part ws. Unit {0}) quadratic items some weights (λ part is_part some_part. plainly part (solved part is_part some_part)) in
    let c = r.supported in
    let e = vectors-weighted c.weights c.part c.balanced.as_many in
    (items_on c, subst (λ vs. IsPart vs (support_vectors items)) (sym e) c.is_part, supports_from_balanced quadratic c.part c.weights c.balanced c.at_least_one, r.no_less)
  where
    plainly : (part : List SpacePoint) → AreSolved quadratic part → IsSolvedWith (λ part ws. Unit {0}) quadratic part
    plainly part (inl dependent) = inl dependent
    plainly part (inr solution) = inr (solution.0, solution.1, tt)
