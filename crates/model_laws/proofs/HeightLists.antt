-- There is one ascending list of the heights at which the first of four squares can stand.
use Rattle.std.proofs.Common.{◌≡◌, ◌⊎◌, inl, inr, refl, sym, ap₂, ℕ, zero, suc, ℤ, ◌<ℤ◌, List, [], ◌∷◌, All, Contains, arith}
use Rattle.std.specs.Prelude.{AllPairs}
use Rattle.std.proofs.lemmas.Int.{ints}
use Rattle.std.proofs.lemmas.List.Elements.{All-contains, Contains-append_cases, Contains-append_right}
use Rattle.integers.proofs.Lists.{Contains-head}
use Rattle.bounds_model.specs.Plane.{PlanePoint}
use Rattle.bounds_model.specs.FourAnswer.{IsHeight, AreHeights}
use Rattle.model_laws.proofs.Decisions.{pairs-uncons}

alone : (x y : ℤ) → Contains (x ∷ []) y → y ≡ x
alone x y (zero, below, is) = sym is
alone x y (suc k, below, is) = absurd (omega (arith, below))

no_element : (y : ℤ) → ¬ Contains [] y
no_element y m = let l = m.1 in absurd (omega (arith, l))

-- an element is the first one, or above it
first_or_above : (x : ℤ) (xs : List ℤ) (y : ℤ) → All (λ z. x <ℤ z) xs → Contains (x ∷ xs) y → (y ≡ x) ⊎ ((x <ℤ y) × Contains xs y)
first_or_above x xs y above m = elim (Contains-append_cases (x ∷ []) xs y m) [ inl first ↦ inl (alone x y first) | inr later ↦ inr (All-contains (λ z. x <ℤ z) xs y above later, later) ]

same_first : (x y : ℤ) → (x ≡ y) ⊎ (y <ℤ x) → (y ≡ x) ⊎ (x <ℤ y) → x ≡ y
same_first x y (inl e) k = e
same_first x y (inr less) (inl e) = sym e
same_first x y (inr less) (inr more) = absurd (omega (arith, ints, less, more))

without_more : {A B C : Type 0} → A ⊎ (B × C) → A ⊎ B
without_more (inl a) = inl a
without_more (inr h) = inr h.0

-- what is in the tail of the one is in the tail of the other
in_tail : (x y : ℤ) (xs ys : List ℤ) → x ≡ y → All (λ z. x <ℤ z) xs → All (λ z. y <ℤ z) ys → ((z : ℤ) → Contains (x ∷ xs) z → Contains (y ∷ ys) z) → (z : ℤ) → Contains xs z → Contains ys z
in_tail x y xs ys same above above_too h z m = elim (first_or_above y ys z above_too (h z (Contains-append_right (x ∷ []) xs z m))) [
  | inl first ↦ (let less = All-contains (λ z. x <ℤ z) xs z above m in absurd (not_itself x y z same first less))
  | inr later ↦ later.1
]
  where
    not_itself : (x y z : ℤ) → x ≡ y → z ≡ y → x <ℤ z → ⊥
    not_itself x y z e f l = omega (arith, ints, e, f, l)

-- ascending lists with the same elements are the same
same_ascending : (xs ys : List ℤ) → AllPairs (λ y z. y <ℤ z) xs → AllPairs (λ y z. y <ℤ z) ys → ((z : ℤ) → Contains xs z → Contains ys z) → ((z : ℤ) → Contains ys z → Contains xs z) → xs ≡ ys
same_ascending [] [] a b h k = refl
same_ascending [] (y ∷ ys) a b h k = absurd (no_element y (k y (Contains-head y ys)))
same_ascending (x ∷ xs) [] a b h k = absurd (no_element x (h x (Contains-head x xs)))
same_ascending (x ∷ xs) (y ∷ ys) a b h k =
    let first = pairs-uncons (λ y z. y <ℤ z) x xs a in
    let second = pairs-uncons (λ y z. y <ℤ z) y ys b in
    let same : x ≡ y = same_first x y (without_more (first_or_above y ys x second.0 (h x (Contains-head x xs)))) (without_more (first_or_above x xs y first.0 (k y (Contains-head y ys)))) in
    ap₂ (λ z zs. z ∷ zs) same (same_ascending xs ys first.1 second.1 (in_tail x y xs ys same first.0 second.0 h) (in_tail y x ys xs (sym same) second.0 first.0 k))

pub same_heights : (side : ℕ) (least : PlanePoint) (points : List PlanePoint) (heights others : List ℤ) → AreHeights side least points heights → AreHeights side least points others → heights ≡ others
same_heights side least points heights others h k =
    same_ascending heights others h.ascending k.ascending
    (λ y m. k.all y (All-contains (IsHeight side least points) heights y h.each m)) (λ y m. h.all y (All-contains (IsHeight side least points) others y k.each m))
