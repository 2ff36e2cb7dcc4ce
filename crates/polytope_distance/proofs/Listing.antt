-- Supports as an answer lists them, one after another.
use Rattle.std.proofs.Common.{◌≡◌, sym, ◌∙◌, ap, ap₂, ℕ, zero, suc, ◌+◌, ◌<◌, pos, List, [], ◌∷◌, ◌++◌, length, take, get_or, map, arith}
use Rattle.std.specs.Prelude.{slice_get, Some}
use Rattle.std.proofs.lemmas.List.{length-map, map_push, take_more}
use Rattle.bounds_model.specs.AnnulusAnswer.{WeightedPair}
use Rattle.corral.specs.declared.support.WeightedItem.{WeightedItem}
use Rattle.corral.specs.declared.items.Id.{Id}
use Rattle.answers.specs.declared.pairs.WeightedPair as format
use Rattle.answers.specs.Answers.{pair_of}
use Rattle.polytope_distance.specs.Supports.{weighted_pair}

-- what is read past the end of a list of pairs
abbrev pub past_the_end : WeightedPair
past_the_end = record { first = 0; second = 0; weight = pos 0 }

-- a support as it is listed: the numbers of its points and its weight
pub listed_at : (members : List WeightedItem) (i : ℕ) (id : Id) (w : ℕ) (d : WeightedPair) → slice_get (map (λ s. s.id) members) i ≡ Some id → slice_get (map (λ s. s.weight) members) i ≡ Some w
    → get_or (map weighted_pair members) i d ≡ record { first = id.first; second = id.second; weight = pos w }
listed_at [] i id w d h k = cc
listed_at (s ∷ members) zero id w d h k =
    let same_id : s.id ≡ id = cc in
    let same_weight : s.weight ≡ w = cc in
    ap₂ (λ a b. record { first = a.first; second = a.second; weight = pos b }) same_id same_weight
listed_at (s ∷ members) (suc i) id w d h k = listed_at members i id w d h k

-- the list with the next support
pub listed_more : (members : List WeightedItem) (i : ℕ) (id : Id) (w : ℕ) (done now : List format.WeightedPair) → i < length members
    → slice_get (map (λ s. s.id) members) i ≡ Some id → slice_get (map (λ s. s.weight) members) i ≡ Some w
    → map pair_of done ≡ take i (map weighted_pair members) → now ≡ done ++ record { first = id.first; second = id.second; weight = w } ∷ [] → map pair_of now ≡ take (i + 1) (map weighted_pair members)
listed_more members i id w done now below h k so_far e =
    let as_many = length-map members weighted_pair in
    ap (map pair_of) e
    ∙ map_push pair_of done (record { first = id.first; second = id.second; weight = w })
    ∙ ap₂ (λ xs x. xs ++ x ∷ []) so_far (sym (listed_at members i id w past_the_end h k))
    ∙ sym (take_more (map weighted_pair members) i past_the_end (omega arith))
