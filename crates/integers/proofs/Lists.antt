-- Lists of which each element, or none, has a property, one element after another; indices in order; what a push and a pop leave.
use Rattle.std.proofs.Common.{◌≡◌, refl, sym, subst, ap, ◌∙◌, ℕ, ◌+◌, ◌-◌, ◌<◌, ◌≤◌, ◌⊎◌, inl, inr, arith, Bool, true, false, List, [], ◌∷◌, ◌++◌, length, get_or}
use Rattle.std.specs.Prelude.{slice_get, Some, All, Contains, map, take}
use Rattle.std.proofs.lemmas.List.Elements.{All-more}
use Rattle.std.proofs.lemmas.List.{get_or_default, get_or-map, length-map, length_push, take_at}
use Rattle.std.proofs.lemmas.Option.{get_or_from_slice_get, slice_get-get_or, slice_get_within}

-- no test answers both
pub clash : {b : Bool} → b ≡ true → b ≡ false → ⊥
clash is is_not = cc

-- a number below i + 1 is below i, or i
pub below_or_at : (k i : ℕ) → k < i + 1 → (k < i) ⊎ (k ≡ i)
below_or_at k i h = grind arith

-- of two numbers one is below the other, or not below it
pub before_or_after : (k n : ℕ) → (k < n) ⊎ (n ≤ k)
before_or_after k n = grind arith

-- the first element is one of the list
pub Contains-head : {X : Type 0} (x : X) (xs : List X) → Contains (x ∷ xs) x
Contains-head x xs = (0, omega arith, refl)

-- an element that is there is the same with any other in its stead
pub any_default : {X : Type 0} (xs : List X) (k : ℕ) (d e : X) → k < length xs → get_or xs k e ≡ get_or xs k d
any_default xs k d e l = get_or_from_slice_get xs k (get_or xs k d) e (slice_get-get_or xs k d l)

-- what a push added, a pop takes away
pub popped : {X : Type 0} (old pushed kept now : List X) (x : X) → pushed ≡ old ++ x ∷ [] → kept ≡ pushed → now ≡ take (length kept - 1) kept → now ≡ old
popped old pushed kept now x is same rest = rest ∙ ap (λ xs. take (length xs - 1) xs) (same ∙ is) ∙ take_at old (x ∷ []) (length (old ++ x ∷ []) - 1) (one_less (length old) (length (old ++ x ∷ [])) (length_push old x))
  where
    one_less : (m n : ℕ) → n ≡ m + 1 → m ≡ n - 1
    one_less m n e = omega (arith, e)

-- no element before i, nor that at i
pub none_more : {X : Type 0} (P : X → Type 0) (xs : List X) (i : ℕ) (x : X) → i < length xs → x ≡ get_or xs i x
    → ((k : ℕ) (d : X) → k < i → P (get_or xs k d) → ⊥) → (P x → ⊥) → (k : ℕ) (d : X) → k < i + 1 → P (get_or xs k d) → ⊥
none_more P xs i x below is before here k d low has = elim (below_or_at k i low) [
  | inl less ↦ before k d less has
  | inr same ↦ here (subst P (ap (λ j. get_or xs j d) same ∙ get_or_default xs i d x below ∙ sym is) has)
]

-- each element before i, and that at i
pub each_more : {X : Type 0} (P : X → Type 0) (xs : List X) (i : ℕ) (x : X) → slice_get xs i ≡ Some x
    → ((k : ℕ) (d : X) → k < i → P (get_or xs k d)) → P x → (k : ℕ) (d : X) → k < i + 1 → P (get_or xs k d)
each_more P xs i x is before here k d low = elim (below_or_at k i low) [
  | inl less ↦ before k d less
  | inr same ↦ subst P (sym (ap (λ j. get_or xs j d) same ∙ get_or_from_slice_get xs i x d is)) here
]

-- what all elements have as they are seen by a view, those that are seen have
pub All-unmap : {X Y : Type 0} (P : Y → Type 0) (f : X → Y) (xs : List X) → All P (map f xs) → All (λ x. P (f x)) xs
All-unmap P f xs all k d below =
    subst P (get_or-map f xs k d (f d) below) (all k (f d) (subst (λ n. k < n) (sym (length-map xs f)) below))

-- an element has what all have
pub at_point : {X : Type 0} (P : X → Type 0) (xs : List X) (i : ℕ) (x : X) → slice_get xs i ≡ Some x → All P xs → P x
at_point P xs i x is all = subst P (get_or_from_slice_get xs i x x is) (all i x (slice_get_within xs i x is))

-- what the first i elements have, and the next one, the first i + 1 have
pub first_more : {X : Type 0} (P : X → Type 0) (xs : List X) (i : ℕ) (x : X) → slice_get xs i ≡ Some x → All P (take i xs) → P x → All P (take (i + 1) xs)
first_more P xs i x is before here = All-more P xs i x (slice_get_within xs i x is) before (subst P (sym (get_or_from_slice_get xs i x x is)) here)
