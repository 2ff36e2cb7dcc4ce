-- The candidates of an exchange, one by one.
use Rattle.std.proofs.Common.{◌≡◌, refl, sym, ◌∙◌, ap, ap₂, subst, ℕ, ◌+◌, ◌<◌, List, [], ◌∷◌, ◌++◌, length, take, get_or, arith, length-append}
use Rattle.std.specs.Prelude.{All}
use Rattle.std.proofs.lemmas.List.{map_more, map-append}
use Rattle.std.proofs.lemmas.List.Elements.{All-push}
use Rattle.bounds_model.specs.Space.{SpacePoint}
use Rattle.kernel_laws.specs.Vectors.{vector_of}
use Rattle.kernel_laws.specs.Limits.{IsDifference}
use Rattle.corral.specs.declared.items.Id.{Id}
use Rattle.corral.specs.declared.items.Items.{Items}
use Rattle.corral.specs.declared.support.WeightedItem.{WeightedItem}
use Rattle.corral.specs.declared.search.Candidate.{Candidate}
use Rattle.corral.specs.Items.{IsItem, item}
use Rattle.corral.specs.WeightedItems.{names}
use Rattle.corral.specs.Balances.{vectors, candidate_names, AreCandidates}

-- the candidates for an item and the first supports
pub record AreFilled {K P : Type 0} (dim : ℕ) (place : P → SpacePoint) (xs : Items K P) (id : Id) (cs : List Candidate) (members : List WeightedItem) (i : ℕ) : Type 0 where
  pub named : candidate_names cs ≡ id ∷ names (take i members)
  pub candidates : AreCandidates place xs cs
  pub differences : All (IsDifference dim) (vectors cs)
  pub items : All (λ c. IsItem xs c.id) cs
  pub many : length cs ≡ i + 1

-- of the item alone
pub filled_first : {K P : Type 0} (dim : ℕ) (place : P → SpacePoint) (xs : Items K P) (id : Id) (cs : List Candidate) (c : Candidate) (members : List WeightedItem) → cs ≡ c ∷ [] → c.id ≡ id → vector_of c.vector ≡ item place xs id → IsDifference dim (vector_of c.vector) → IsItem xs id
    → AreFilled {K = K} dim place xs id cs members 0
filled_first {K} dim place xs id cs c members e same is difference named = subst (λ ds. AreFilled {K = K} dim place xs id ds members 0) (sym e) (record {
  named = ap (λ n. n ∷ []) same;
  candidates = All-push (λ (c : Candidate). vector_of c.vector ≡ item place xs c.id) [] c (λ k d l. absurd (omega arith)) (is ∙ ap (item place xs) (sym same));
  differences = All-push (IsDifference dim) [] (vector_of c.vector) (λ k d l. absurd (omega arith)) difference;
  items = All-push (λ (c : Candidate). IsItem xs c.id) [] c (λ k d l. absurd (omega arith)) (subst (IsItem xs) (sym same) named);
  many = refl;
})

-- with one support more
pub filled_more : {K P : Type 0} (dim : ℕ) (place : P → SpacePoint) (xs : Items K P) (id : Id) (cs ds : List Candidate) (c : Candidate) (members : List WeightedItem) (i : ℕ) (d : WeightedItem) → AreFilled {K = K} dim place xs id cs members i → i < length members
    → ds ≡ cs ++ c ∷ [] → c.id ≡ (get_or members i d).id → vector_of c.vector ≡ item place xs (get_or members i d).id → IsDifference dim (vector_of c.vector) → IsItem xs (get_or members i d).id → AreFilled {K = K} dim place xs id ds members (i + 1)
filled_more {K} dim place xs id cs ds c members i d h within e same is difference named = subst (λ es. AreFilled {K = K} dim place xs id es members (i + 1)) (sym e) (record {
  named = map-append (λ (c : Candidate). c.id) cs (c ∷ []) ∙ ap₂ (λ ns n. ns ++ n ∷ []) h.named same ∙ ap (λ ns. id ∷ ns) (sym (map_more (λ (s : WeightedItem). s.id) members i d within));
  candidates = All-push (λ (c : Candidate). vector_of c.vector ≡ item place xs c.id) cs c h.candidates (is ∙ ap (item place xs) (sym same));
  differences = subst (All (IsDifference dim)) (sym (map-append (λ (c : Candidate). vector_of c.vector) cs (c ∷ []))) (All-push (IsDifference dim) (vectors cs) (vector_of c.vector) h.differences difference);
  items = All-push (λ (c : Candidate). IsItem xs c.id) cs c h.items (subst (IsItem xs) (sym same) named);
  many = let more = length-append cs (c ∷ []) in let one : length (c ∷ []) ≡ 1 = refl in let many = h.many in omega arith;
})
