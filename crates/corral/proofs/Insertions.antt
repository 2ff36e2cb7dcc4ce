-- One element in a list, and the list without it.
use Rattle.std.proofs.Common.{◌≡◌, refl, ◌⊎◌, inl, inr, ◌≤◌, ℤ, ◌+ℤ◌, List, [], ◌∷◌, length, map, arith}
use Rattle.std.specs.Prelude.{All}
use Rattle.std.proofs.lemmas.Int.{ints}
use Rattle.std.proofs.lemmas.List.Elements.{All-nil, All-cons, All-head, All-tail}
use Rattle.integers.specs.Total.{total}

-- the last list is the first with x at some index
pub data IsInserted {A : Type 0} : A → List A → List A → Type 0 where
  first : {x : A} {rest : List A} → IsInserted x rest (x ∷ rest)
  later : {x y : A} {rest whole : List A} → IsInserted x rest whole → IsInserted x (y ∷ rest) (y ∷ whole)

-- what holds of all elements holds of x
pub at_inserted : {A : Type 0} (P : A → Type 0) {x : A} {rest whole : List A} → IsInserted x rest whole → All P whole → P x
at_inserted P (first {x} {rest}) h = All-head P x rest h
at_inserted P (later {x} {y} {rest} {whole} at) h = at_inserted P at (All-tail P y whole h)

-- what holds of x and of the others holds of all
pub all_inserted : {A : Type 0} (P : A → Type 0) {x : A} {rest whole : List A} → IsInserted x rest whole → P x → All P rest → All P whole
all_inserted P (first {x} {rest}) p h = All-cons P x rest p h
all_inserted P (later {x} {y} {rest} {whole} at) p h = All-cons P y whole (All-head P y rest h) (all_inserted P at p (All-tail P y rest h))

-- it is not empty
pub some_inserted : {A : Type 0} {x : A} {rest whole : List A} → IsInserted x rest whole → 1 ≤ length whole
some_inserted first = omega arith
some_inserted (later at) = omega arith

-- so it is of mapped lists
pub inserted_map : {A B : Type 0} (f : A → B) {x : A} {rest whole : List A} → IsInserted x rest whole → IsInserted (f x) (map f rest) (map f whole)
inserted_map f first = first
inserted_map f (later at) = later (inserted_map f at)

regroup : (a b c w : ℤ) → w ≡ a +ℤ c → b +ℤ w ≡ a +ℤ (b +ℤ c)
regroup a b c w e = omega (arith, ints)

-- a sum has the number of x and those of the others
pub total-inserted : {A : Type 0} (f : A → ℤ) {x : A} {rest whole : List A} → IsInserted x rest whole → total f whole ≡ f x +ℤ total f rest
total-inserted f first = refl
total-inserted f (later {x} {y} {rest} {whole} at) = regroup (f x) (f y) (total f rest) (total f whole) (total-inserted f at)

-- P holds of all elements, or Q of one
pub each_or_one : {A : Type 0} (P Q : A → Type 0) → ((x : A) → P x ⊎ Q x) → (xs : List A) → All P xs ⊎ ((x : A) × (rest : List A) × IsInserted x rest xs × Q x)
each_or_one {A} P Q decide [] = inl (All-nil P)
each_or_one {A} P Q decide (x ∷ xs) = go (decide x) (each_or_one P Q decide xs)
  where
    go : P x ⊎ Q x → All P xs ⊎ ((y : A) × (rest : List A) × IsInserted y rest xs × Q y) → All P (x ∷ xs) ⊎ ((y : A) × (rest : List A) × IsInserted y rest (x ∷ xs) × Q y)
    go (inr q) rest = inr (x, xs, first, q)
    go (inl p) (inl h) = inl (All-cons P x xs p h)
    go (inl p) (inr found) = inr (found.0, x ∷ found.1, later found.2, found.3)
