-- Numbers and points at indices of lists.
use Rattle.std.proofs.Common.{◌≡◌, refl, sym, ap, ap₂, ◌∙◌, ℕ, zero, suc, ◌+◌, ◌<◌, List, [], ◌∷◌, ◌++◌, length, map, take}
use Rattle.std.specs.Prelude.{slice_index_or}
use Rattle.std.proofs.lemmas.List.{map-append, take_more}

-- a list that is seen by a view, read anywhere
pub read-map : {X Y : Type 0} (f : X → Y) (xs : List X) (i : ℕ) (d : X) → slice_index_or (map f xs) i (f d) ≡ f (slice_index_or xs i d)
read-map f [] i d = refl
read-map f (x ∷ xs) zero d = refl
read-map f (x ∷ xs) (suc i) d = read-map f xs i d

-- one element more of those that are taken, seen by a function
pub taken-more : {X Y : Type 0} (f : X → Y) (xs : List X) (ys more : List Y) (i : ℕ) (d : X) (y : Y) → ys ≡ map f (take i xs) → more ≡ ys ++ y ∷ [] → y ≡ f (slice_index_or xs i d) → i < length xs → more ≡ map f (take (i + 1) xs)
taken-more f xs ys more i d y is added value below =
    added ∙ ap₂ (λ zs z. zs ++ z ∷ []) is value ∙ sym (map-append f (take i xs) (slice_index_or xs i d ∷ [])) ∙ ap (map f) (sym (take_more xs i d below))
