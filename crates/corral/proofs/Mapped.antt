-- What holds of the elements of a mapped list.
use Rattle.std.proofs.Common.{◌≡◌, refl, sym, ap, subst, ℕ, zero, suc, ◌+◌, ◌<◌, ◌≤◌, List, [], ◌∷◌, length, get_or, take, map, arith}
use Rattle.std.specs.Prelude.{All}
use Rattle.std.proofs.lemmas.List.{map_more}
use Rattle.std.proofs.lemmas.List.Elements.{All-head, All-tail, All-push}

-- at one index
pub at_map : {A B : Type 0} (P : B → Type 0) (f : A → B) (xs : List A) (i : ℕ) (d : A) → i < length xs → All P (map f xs) → P (f (get_or xs i d))
at_map P f [] i d h all = absurd (omega arith)
at_map P f (x ∷ xs) zero d h all = All-head P (f x) (map f xs) all
at_map P f (x ∷ xs) (suc i) d h all = at_map P f xs i d (omega arith) (All-tail P (f x) (map f xs) all)

-- one element more
pub map_all_more : {A B : Type 0} (P : B → Type 0) (f : A → B) (xs : List A) (i : ℕ) (d : A) → i < length xs → All P (map f (take i xs)) → P (f (get_or xs i d)) → All P (map f (take (i + 1) xs))
map_all_more P f xs i d h all more = subst (All P) (sym (map_more f xs i d h)) (All-push P (map f (take i xs)) (f (get_or xs i d)) all more)

-- the whole list, once its end is reached
pub take_whole : {A : Type 0} (xs : List A) (i : ℕ) → length xs ≤ i → take i xs ≡ xs
take_whole [] zero h = refl
take_whole [] (suc i) h = refl
take_whole (x ∷ xs) zero h = absurd (omega arith)
take_whole (x ∷ xs) (suc i) h = ap (λ rest. x ∷ rest) (take_whole xs i (omega arith))
