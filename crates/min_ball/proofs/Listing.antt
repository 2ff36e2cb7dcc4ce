-- Supports as an answer lists them, one after another.
use Rattle.std.proofs.Common.{◌≡◌, sym, ◌∙◌, ap, ap₂, ℕ, zero, suc, ◌+◌, ◌<◌, pos, List, [], ◌∷◌, ◌++◌, length, take, get_or, map, arith}
use Rattle.std.specs.Prelude.{slice_get, Some}
use Rattle.std.proofs.lemmas.List.{length-map, map_push, take_more}
use Rattle.bounds_model.specs.BallAnswer.{Weighted}
use Rattle.corral.specs.declared.support.WeightedItem.{WeightedItem}
use Rattle.corral.specs.declared.items.Id.{Id}
use Rattle.answers.specs.declared.balls.Weighted as format
use Rattle.answers.specs.Answers.{weighted_of}
use Rattle.min_ball.specs.Balls.{weighted_point}
use Rattle.min_ball.proofs.SupportSums.{past_the_end}

-- a support as it is listed: its number and its weight
pub listed_at : (members : List WeightedItem) (i : ℕ) (id : Id) (w : ℕ) (d : Weighted) → slice_get (map (λ s. s.id) members) i ≡ Some id → slice_get (map (λ s. s.weight) members) i ≡ Some w
    → get_or (map weighted_point members) i d ≡ record { point = id.first; weight = pos w }
listed_at [] i id w d h k = cc
listed_at (s ∷ members) zero id w d h k =
    let same_id : s.id ≡ id = cc in
    let same_weight : s.weight ≡ w = cc in
    ap₂ (λ a b. record { point = a.first; weight = pos b }) same_id same_weight
listed_at (s ∷ members) (suc i) id w d h k = listed_at members i id w d h k

-- the list with the next support
pub listed_more : (members : List WeightedItem) (i : ℕ) (id : Id) (w : ℕ) (done now : List format.Weighted) → i < length members
    → slice_get (map (λ s. s.id) members) i ≡ Some id → slice_get (map (λ s. s.weight) members) i ≡ Some w
    → map weighted_of done ≡ take i (map weighted_point members) → now ≡ done ++ record { point = id.first; weight = w } ∷ [] → map weighted_of now ≡ take (i + 1) (map weighted_point members)
listed_more members i id w done now below h k so_far e =
    let as_many = length-map members weighted_point in
    ap (map weighted_of) e
    ∙ map_push weighted_of done (record { point = id.first; weight = w })
    ∙ ap₂ (λ xs x. xs ++ x ∷ []) so_far (sym (listed_at members i id w past_the_end h k))
    ∙ sym (take_more (map weighted_point members) i past_the_end (omega arith))
