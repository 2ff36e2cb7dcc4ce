-- The supports that a search found, as items of a corral.
use Rattle.std.proofs.Common.{◌≡◌, refl, sym, ◌∙◌, ap, ap₂, subst, ◌⊎◌, ℕ, ◌+◌, ◌≤◌, ℤ, pos, List, [], ◌∷◌, length, map, arith}
use Rattle.std.specs.Prelude.{All}
use Rattle.std.proofs.lemmas.List.{length-map}
use Rattle.std.proofs.lemmas.List.Elements.{All-cons, All-head, All-tail, All-map}
use Rattle.integers.proofs.Lists.{All-unmap}
use Rattle.bounds_model.specs.Space.{SpacePoint}
use Rattle.bounds_model.specs.Slacks.{WeightedVector, IsLow, value}
use Rattle.exact_fractions.specs.Order.{IsBelow}
use Rattle.kernel_laws.specs.Vectors.{vector_of}
use Rattle.kernel_laws.specs.Solutions.{AreItems, weighted}
use Rattle.corral.specs.declared.items.Id.{Id}
use Rattle.corral.specs.declared.items.Items.{Items}
use Rattle.corral.specs.declared.support.WeightedItem.{WeightedItem}
use Rattle.corral.specs.declared.search.Candidate.{Candidate}
use Rattle.corral.specs.declared.search.Balance.{Balance}
use Rattle.corral.specs.Parts.{IsPart}
use Rattle.corral.specs.Supports.{IsQuadratic, support_vectors, AreSupports, IsRefuted}
use Rattle.corral.specs.Items.{IsItem, item}
use Rattle.corral.specs.WeightedItems.{names, weights, AreSupportItems, weighted_items}
use Rattle.corral.specs.Balances.{IsBalance, vectors, candidate_names, AreCandidates, IsFound, AreRefuted}
use Rattle.corral.proofs.Parts.{part_all, part_map, part_of_map, part_length}
use Rattle.corral.proofs.Settled.{not_all_are_refuted, value_rises}
use Rattle.corral.proofs.TooMany.{independent_are_few}

-- the vectors of candidates are the items of their names
pub vectors_are : {K P : Type 0} (place : P → SpacePoint) (items : Items K P) (cs : List Candidate) → AreCandidates place items cs → vectors cs ≡ map (item place items) (candidate_names cs)
vectors_are place items [] are = refl
vectors_are place items (c ∷ cs) are =
    ap₂ (λ v vs. v ∷ vs) (All-head (λ (c : Candidate). vector_of c.vector ≡ item place items c.id) c cs are)
    (vectors_are place items cs (All-tail (λ (c : Candidate). vector_of c.vector ≡ item place items c.id) c cs are))

-- those of weighted items are too
pub member_vectors : {K P : Type 0} (place : P → SpacePoint) (items : Items K P) (members : List WeightedItem) → support_vectors (weighted_items place items members) ≡ map (item place items) (names members)
member_vectors place items [] = refl
member_vectors place items (s ∷ members) = ap (λ vs. item place items s.id ∷ vs) (member_vectors place items members)

-- weights beside the vectors of the chosen candidates are the weighted items
pub same_items : {K P : Type 0} (place : P → SpacePoint) (items : Items K P) (members : List WeightedItem) (part : List Candidate) → names members ≡ candidate_names part → AreCandidates place items part
    → weighted (weights members) (vectors part) ≡ weighted_items place items members
same_items place items [] [] named are = refl
same_items place items [] (c ∷ part) named are = absurd (cc)
same_items place items (s ∷ members) [] named are = absurd (cc)
same_items {K} {P} place items (s ∷ members) (c ∷ part) named are =
    let same_name : s.id ≡ c.id = cc in
    let others : names members ≡ candidate_names part = cc in
    ap₂ (λ v rest. record { weight = pos s.weight; vector = v } ∷ rest)
    (All-head (λ (c : Candidate). vector_of c.vector ≡ item place items c.id) c part are ∙ ap (item place items) (sym same_name))
    (same_items place items members part others (All-tail (λ (c : Candidate). vector_of c.vector ≡ item place items c.id) c part are))

-- an exchange: the old supports, a low item, and what the search found among them
pub record IsExchange {K P : Type 0} (dim : ℕ) (quadratic : ℤ) (place : P → SpacePoint) (xs : Items K P) (old : List WeightedItem) (id : Id) (all part : List Candidate) (b : Balance) : Type 0 where
  pub flag : IsQuadratic quadratic
  pub dims : (dim ≡ 2) ⊎ (dim ≡ 3)
  pub named : IsItem xs id
  pub members : AreSupportItems dim xs old
  pub supports : AreSupports quadratic (weighted_items place xs old)
  pub low : IsLow quadratic (weighted_items place xs old) (item place xs id)
  pub all_named : candidate_names all ≡ id ∷ names old
  pub candidates : AreCandidates place xs all
  pub few : length (vectors all) ≤ dim + 2
  pub found : IsFound dim quadratic all part b

module _ {K P : Type 0} (dim : ℕ) (quadratic : ℤ) (place : P → SpacePoint) (xs : Items K P) (old : List WeightedItem) (id : Id) (all part : List Candidate) (b : Balance)
    (h : IsExchange {K = K} {P = P} dim quadratic place xs old id all part b) where
  -- the new supports are a part of the old ones and the new item
  pub new_part : IsPart (names b.members.items) (id ∷ names old)
  new_part = subst (IsPart (names b.members.items)) h.all_named (subst (λ ns. IsPart ns (candidate_names all)) (sym h.found.named) (part_map (λ c. c.id) h.found.is_part))

  same : weighted (weights b.members.items) (vectors part) ≡ weighted_items place xs b.members.items
  same = same_items place xs b.members.items part h.found.named (part_all (λ c. vector_of c.vector ≡ item place xs c.id) h.found.is_part h.candidates)

  all_vectors_are : vectors all ≡ map (item place xs) (id ∷ names old)
  all_vectors_are = vectors_are place xs all h.candidates ∙ ap (map (item place xs)) h.all_named

  -- they are in balance
  pub new_balance : IsBalance dim quadratic (weighted_items place xs b.members.items) b
  new_balance = subst (λ items. IsBalance dim quadratic items b) same h.found.balance

  -- each is an item
  pub new_members : AreSupportItems dim xs b.members.items
  new_members =
      let old_names : All (IsItem xs) (names old) = All-map (IsItem xs) (λ (s : WeightedItem). s.id) old h.members.listed in
      let all_names : All (IsItem xs) (id ∷ names old) = All-cons (IsItem xs) id (names old) h.named old_names in
      let many = length-map b.members.items (λ (s : WeightedItem). s.id) in
      let as_many = ap length h.found.named ∙ length-map part (λ (c : Candidate). c.id) in
      let vs = ap length (member_vectors place xs b.members.items) ∙ length-map (names b.members.items) (item place xs) in
      let items = length-map (weighted_items place xs b.members.items) (λ (item : WeightedVector). item.vector) in
      let some = new_balance.supports.some in
      let shorter = part_length h.found.is_part in
      let whole = length-map all (λ (c : Candidate). vector_of c.vector) in
      let few = h.few in
      let most = independent_are_few dim h.dims (support_vectors (weighted_items place xs b.members.items)) (omega arith) new_balance.differences new_balance.independent in
      record {
        count = record { at_least = omega arith; at_most = omega arith };
        listed = All-unmap (IsItem xs) (λ s. s.id) b.members.items (part_all (IsItem xs) new_part all_names);
      }

  -- none of the old ones and the new item is low
  pub new_none_low : All (λ other. ¬ IsLow quadratic (weighted_items place xs b.members.items) (item place xs other)) (id ∷ names old)
  new_none_low =
      All-unmap (λ v. ¬ IsLow quadratic (weighted_items place xs b.members.items) v) (item place xs) (id ∷ names old)
      (subst (All (λ v. ¬ IsLow quadratic (weighted_items place xs b.members.items) v)) all_vectors_are
      (subst (λ items. All (λ v. ¬ IsLow quadratic items v) (vectors all)) same h.found.none_low))

  -- the value has risen
  pub new_value : IsBelow (value quadratic (weighted_items place xs old)) (value quadratic (weighted_items place xs b.members.items))
  new_value = value_rises quadratic h.flag (weighted_items place xs old) (weighted_items place xs b.members.items) (item place xs id) h.supports h.low (record {
    supports = new_balance.supports;
    none_low =
        subst (λ vs. All (λ v. ¬ IsLow quadratic (weighted_items place xs b.members.items) v) (item place xs id ∷ vs)) (sym (member_vectors place xs old))
        (subst (All (λ v. ¬ IsLow quadratic (weighted_items place xs b.members.items) v)) all_vectors_are
        (subst (λ items. All (λ v. ¬ IsLow quadratic items v) (vectors all)) same h.found.none_low));
  })

-- the search does not end without supports
pub search_finds : (quadratic : ℤ) → IsQuadratic quadratic → (all : List Candidate) → 1 ≤ length (vectors all) → ¬ AreRefuted quadratic all [] all
search_finds quadratic flag all some refuted = not_all_are_refuted quadratic flag (vectors all) some (λ part is_part long. lifted part (part_of_map (λ c. vector_of c.vector) all is_part) long)
  where
    lifted : (part : List SpacePoint) → (inner : List Candidate) × IsPart inner all × (part ≡ map (λ c. vector_of c.vector) inner) → 1 ≤ length part → IsRefuted quadratic (vectors all) part
    lifted part (inner, is_part, same) long = subst (IsRefuted quadratic (vectors all)) (sym same) (refuted inner is_part (let e = length-map inner (λ (c : Candidate). vector_of c.vector) in let f = ap length same in omega arith))

-- an exchange, as the code has it
pub exchange_is : {K P : Type 0} (dim : ℕ) (quadratic : ℤ) (place : P → SpacePoint) (xs : Items K P) (old : List WeightedItem) (id : Id) (given all part : List Candidate) (b old_balance : Balance)
    → IsQuadratic quadratic → (dim ≡ 2) ⊎ (dim ≡ 3) → IsItem xs id → AreSupportItems dim xs old → IsBalance dim quadratic (weighted_items place xs old) old_balance → IsLow quadratic (weighted_items place xs old) (item place xs id)
    → all ≡ given → candidate_names given ≡ id ∷ names old → AreCandidates place xs given → AreItems quadratic dim (vectors given) → IsFound dim quadratic all part b
    → IsExchange {K = K} {P = P} dim quadratic place xs old id all part b
exchange_is dim quadratic place xs old id given all part b old_balance flag dims named members balance low same all_named candidates items found = record {
  flag = flag;
  dims = dims;
  named = named;
  members = members;
  supports = balance.supports;
  low = low;
  all_named = ap candidate_names same ∙ all_named;
  candidates = subst (AreCandidates place xs) (sym same) candidates;
  few = subst (λ cs. length (vectors cs) ≤ dim + 2) (sym same) items.few;
  found = found;
}
