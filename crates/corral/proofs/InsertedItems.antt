-- A vector of a list among items whose vectors are a part of the list.
use Rattle.std.proofs.Common.{◌≡◌, refl, sym, subst, ◌⊎◌, inl, inr, ℤ, List, [], ◌∷◌}
use Rattle.std.specs.Prelude.{All}
use Rattle.std.proofs.lemmas.List.Elements.{All-head, All-tail}
use Rattle.bounds_model.specs.Space.{SpacePoint}
use Rattle.bounds_model.specs.Slacks.{WeightedVector}
use Rattle.corral.specs.Parts.{IsPart}
use Rattle.corral.specs.Parts.IsPart.{omits, keeps}
use Rattle.corral.specs.Supports.{support_vectors}
use Rattle.corral.proofs.Parts.{part_cases}
use Rattle.corral.proofs.Insertions.{IsInserted}
use Rattle.corral.proofs.Insertions.IsInserted.{first, later}

-- the first of the items has the list's first vector, and the others are a part of the rest
record BeginsWith (v : SpacePoint) (vectors : List SpacePoint) (items : List WeightedVector) : Type 0 where
  item : WeightedVector
  others : List WeightedVector
  split : items ≡ item ∷ others
  same : item.vector ≡ v
  is_part : IsPart (support_vectors others) vectors

-- the first vector is left out, or the items begin with it
begins : (v : SpacePoint) (vectors : List SpacePoint) (items : List WeightedVector) → IsPart (support_vectors items) (v ∷ vectors) → IsPart (support_vectors items) vectors ⊎ BeginsWith v vectors items
begins v vectors items h = go (part_cases h)
  where
    split : (items : List WeightedVector) (rest : List SpacePoint) → support_vectors items ≡ v ∷ rest → IsPart rest vectors → BeginsWith v vectors items
    split [] rest e h = absurd (cc)
    split (item ∷ others) rest e h = record {
      item = item;
      others = others;
      split = refl;
      same = head e;
      is_part = subst (λ vs. IsPart vs vectors) (sym (tail e)) h;
    }
      where
        head : item.vector ∷ support_vectors others ≡ v ∷ rest → item.vector ≡ v
        head e = cc

        tail : item.vector ∷ support_vectors others ≡ v ∷ rest → support_vectors others ≡ rest
        tail e = cc

    go : IsPart (support_vectors items) vectors ⊎ ((rest : List SpacePoint) × (support_vectors items ≡ v ∷ rest) × IsPart rest vectors) → IsPart (support_vectors items) vectors ⊎ BeginsWith v vectors items
    go (inl h) = inl h
    go (inr s) = inr (split items s.0 s.1 s.2)

-- items with one more, whose vectors are a part of the list
pub record Placed (item : WeightedVector) (items : List WeightedVector) (vectors : List SpacePoint) : Type 0 where
  pub more : List WeightedVector
  pub inserted : IsInserted item items more
  pub is_part : IsPart (support_vectors more) vectors

-- a vector of the list that none of the items has can be inserted among them
pub insert : (P : SpacePoint → Type 0) (weight : ℤ) {v : SpacePoint} {rest vectors : List SpacePoint} → IsInserted v rest vectors → P v → (items : List WeightedVector) → IsPart (support_vectors items) vectors → All (λ item. ¬ P item.vector) items
    → Placed (record { weight = weight; vector = v }) items vectors
insert P weight (first {x} {rest}) p items is_part other = go (begins x rest items is_part)
  where
    go : IsPart (support_vectors items) rest ⊎ BeginsWith x rest items → Placed (record { weight = weight; vector = x }) items (x ∷ rest)
    go (inl h) = record { more = record { weight = weight; vector = x } ∷ items; inserted = first; is_part = keeps h }
    go (inr b) = absurd (All-head (λ (item : WeightedVector). ¬ P item.vector) b.item b.others (subst (All (λ item. ¬ P item.vector)) b.split other) (subst P (sym b.same) p))
insert P weight (later {x} {y} {rest} {whole} at) p items is_part other = go (begins y whole items is_part) (insert P weight at p)
  where
    go : IsPart (support_vectors items) whole ⊎ BeginsWith y whole items → ((items : List WeightedVector) → IsPart (support_vectors items) whole → All (λ item. ¬ P item.vector) items → Placed (record { weight = weight; vector = x }) items whole) → Placed (record { weight = weight; vector = x }) items (y ∷ whole)
    go (inl h) ih = let r = ih items h other in record { more = r.more; inserted = r.inserted; is_part = omits r.is_part }
    go (inr b) ih =
        let r = ih b.others b.is_part (All-tail (λ (item : WeightedVector). ¬ P item.vector) b.item b.others (subst (All (λ item. ¬ P item.vector)) b.split other)) in
        record {
          more = b.item ∷ r.more;
          inserted = subst (λ is. IsInserted (record { weight = weight; vector = x }) is (b.item ∷ r.more)) (sym b.split) (later r.inserted);
          is_part = subst (λ v. IsPart (v ∷ support_vectors r.more) (y ∷ whole)) (sym b.same) (keeps r.is_part);
        }
