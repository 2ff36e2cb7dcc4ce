-- The greatest and the least value of a function over a list: they are bounds, an element reaches them, and what one more element changes.
use Rattle.std.proofs.Common.{◌≡◌, refl, sym, ◌∙◌, ap, subst, ℕ, suc, ◌+◌, ◌<◌, ◌⊎◌, inl, inr, ℤ, pos, ◌≤ℤ◌, List, [], ◌∷◌, ◌++◌, length, map, take, get_or, arith}
use Rattle.std.specs.Prelude.{All, Any, Contains, fold}
use Rattle.std.specs.Int.{int_max, int_min}
use Rattle.std.proofs.lemmas.Int.{ints}
use Rattle.std.proofs.lemmas.List.{take_more, map-append, length-take-le}
use Rattle.std.proofs.lemmas.List.Sums.{fold-append}
use Rattle.std.proofs.lemmas.List.Elements.{All-nil, All-cons, All-contains}
use Rattle.integers.specs.Extremes.{greatest, least}
use Rattle.integers.proofs.MaxMin.{left-le-max, right-le-max, min-le-left, min-le-right, pick_max, pick_min}
use Rattle.integers.proofs.Order.{le_trans_ℤ, le_antisymm_ℤ}
use Rattle.integers.proofs.Lists.{Contains-head}

same_le : (a : ℤ) → a ≤ℤ a
same_le a = omega (arith, ints)

-- ---- they are bounds

start_below : (a : ℤ) (ys : List ℤ) → a ≤ℤ fold int_max a ys
start_below a [] = same_le a
start_below a (y ∷ ys) = le_trans_ℤ (left-le-max a y) (start_below (int_max a y) ys)

start_above : (a : ℤ) (ys : List ℤ) → fold int_min a ys ≤ℤ a
start_above a [] = same_le a
start_above a (y ∷ ys) = le_trans_ℤ (start_above (int_min a y) ys) (min-le-left a y)

all_below : {A : Type 0} (f : A → ℤ) (a : ℤ) (s : List A) → All (λ x. f x ≤ℤ fold int_max a (map f s)) s
all_below f a [] = All-nil (λ x. f x ≤ℤ a)
all_below f a (x ∷ s) =
    All-cons (λ y. f y ≤ℤ fold int_max (int_max a (f x)) (map f s)) x s
    (le_trans_ℤ (right-le-max a (f x)) (start_below (int_max a (f x)) (map f s)))
    (all_below f (int_max a (f x)) s)

all_above : {A : Type 0} (f : A → ℤ) (a : ℤ) (s : List A) → All (λ x. fold int_min a (map f s) ≤ℤ f x) s
all_above f a [] = All-nil (λ x. a ≤ℤ f x)
all_above f a (x ∷ s) =
    All-cons (λ y. fold int_min (int_min a (f x)) (map f s) ≤ℤ f y) x s
    (le_trans_ℤ (start_above (int_min a (f x)) (map f s)) (min-le-right a (f x)))
    (all_above f (int_min a (f x)) s)

-- no element's value is above the greatest
pub below_greatest : {A : Type 0} (f : A → ℤ) (s : List A) → All (λ x. f x ≤ℤ greatest f s) s
below_greatest f [] = All-nil (λ x. f x ≤ℤ pos 0)
below_greatest f (x ∷ s) =
    All-cons (λ y. f y ≤ℤ fold int_max (f x) (map f s)) x s (start_below (f x) (map f s)) (all_below f (f x) s)

-- no element's value is below the least
pub above_least : {A : Type 0} (f : A → ℤ) (s : List A) → All (λ x. least f s ≤ℤ f x) s
above_least f [] = All-nil (λ x. pos 0 ≤ℤ f x)
above_least f (x ∷ s) =
    All-cons (λ y. fold int_min (f x) (map f s) ≤ℤ f y) x s (start_above (f x) (map f s)) (all_above f (f x) s)

-- ---- an element reaches them

-- x is an element, and the value r is f at x
abbrev pub Reaches : {A : Type 0} → (A → ℤ) → List A → ℤ → A → Type 0
Reaches f s r x = Contains s x × (r ≡ f x)

there : {A : Type 0} {y : A} (x : A) (s : List A) → Contains s y → Contains (x ∷ s) y
there x s h = (suc h.0, more h.1, h.2)
  where
    more : {k n : ℕ} → k < n → suc k < suc n
    more l = omega arith

reached_max : {A : Type 0} (f : A → ℤ) (a : ℤ) (s : List A) → (fold int_max a (map f s) ≡ a) ⊎ ((x : A) × Reaches f s (fold int_max a (map f s)) x)
reached_max f a [] = inl refl
reached_max f a (x ∷ s) =
    elim (reached_max f (int_max a (f x)) s) [
      | inl e ↦ elim (pick_max a (f x)) [ inl g ↦ inl (e ∙ g) | inr g ↦ inr (x, (Contains-head x s, e ∙ g)) ]
      | inr r ↦ inr (r.0, (there x s r.1.0, r.1.1))
    ]

reached_min : {A : Type 0} (f : A → ℤ) (a : ℤ) (s : List A) → (fold int_min a (map f s) ≡ a) ⊎ ((x : A) × Reaches f s (fold int_min a (map f s)) x)
reached_min f a [] = inl refl
reached_min f a (x ∷ s) =
    elim (reached_min f (int_min a (f x)) s) [
      | inl e ↦ elim (pick_min a (f x)) [ inl g ↦ inl (e ∙ g) | inr g ↦ inr (x, (Contains-head x s, e ∙ g)) ]
      | inr r ↦ inr (r.0, (there x s r.1.0, r.1.1))
    ]

-- an element of a list that is not empty has the greatest value
pub has_greatest : {A : Type 0} (f : A → ℤ) (s : List A) → 0 < length s → (x : A) × Contains s x × (greatest f s ≡ f x)
has_greatest f [] h = absurd (omega arith)
has_greatest f (x ∷ s) h =
    elim (reached_max f (f x) s) [ inl e ↦ (x, Contains-head x s, e) | inr r ↦ (r.0, there x s r.1.0, r.1.1) ]

-- an element of a list that is not empty has the least value
pub has_least : {A : Type 0} (f : A → ℤ) (s : List A) → 0 < length s → (x : A) × Contains s x × (least f s ≡ f x)
has_least f [] h = absurd (omega arith)
has_least f (x ∷ s) h =
    elim (reached_min f (f x) s) [ inl e ↦ (x, Contains-head x s, e) | inr r ↦ (r.0, there x s r.1.0, r.1.1) ]

-- the same, in the word for `some element`
pub greatest_reached : {A : Type 0} (f : A → ℤ) (s : List A) → 0 < length s → Any (λ x. greatest f s ≡ f x) s
greatest_reached f s h =
    let g = has_greatest f s h in
    (g.1.0, g.0, g.1.1, g.1.2, g.2)

-- and of the least
pub least_reached : {A : Type 0} (f : A → ℤ) (s : List A) → 0 < length s → Any (λ x. least f s ≡ f x) s
least_reached f s h =
    let g = has_least f s h in
    (g.1.0, g.0, g.1.1, g.1.2, g.2)

-- ---- one more element

-- with one more element, the greatest value is the greater of the one so far and the new one
pub greatest-one_more : {A : Type 0} (f : A → ℤ) (s : List A) (a : A) → 0 < length s → greatest f (s ++ a ∷ []) ≡ int_max (greatest f s) (f a)
greatest-one_more f [] a h = absurd (omega arith)
greatest-one_more f (x ∷ s) a h = ap (fold int_max (f x)) (map-append f s (a ∷ [])) ∙ fold-append int_max (f x) (map f s) (f a ∷ [])

-- with one more element, the least value is the smaller of the one so far and the new one
pub least-one_more : {A : Type 0} (f : A → ℤ) (s : List A) (a : A) → 0 < length s → least f (s ++ a ∷ []) ≡ int_min (least f s) (f a)
least-one_more f [] a h = absurd (omega arith)
least-one_more f (x ∷ s) a h = ap (fold int_min (f x)) (map-append f s (a ∷ [])) ∙ fold-append int_min (f x) (map f s) (f a ∷ [])

taken : {A : Type 0} (s : List A) (i : ℕ) → 0 < i → i < length s → 0 < length (take i s)
taken s i h l = let e = length-take-le i s (omega arith) in omega arith

-- the step of a loop over s that has seen i elements
pub greatest-take_more : {A : Type 0} (f : A → ℤ) (s : List A) (i : ℕ) (d : A) → 0 < i → i < length s → greatest f (take (i + 1) s) ≡ int_max (greatest f (take i s)) (f (get_or s i d))
greatest-take_more f s i d h l = ap (greatest f) (take_more s i d l) ∙ greatest-one_more f (take i s) (get_or s i d) (taken s i h l)

-- the same step for the least value
pub least-take_more : {A : Type 0} (f : A → ℤ) (s : List A) (i : ℕ) (d : A) → 0 < i → i < length s → least f (take (i + 1) s) ≡ int_min (least f (take i s)) (f (get_or s i d))
least-take_more f s i d h l = ap (least f) (take_more s i d l) ∙ least-one_more f (take i s) (get_or s i d) (taken s i h l)

-- the first element alone, where such a loop starts
pub greatest-take_one : {A : Type 0} (f : A → ℤ) (s : List A) (d : A) → 0 < length s → greatest f (take 1 s) ≡ f (get_or s 0 d)
greatest-take_one f [] d h = absurd (omega arith)
greatest-take_one f (x ∷ s) d h = refl

-- and for the least value
pub least-take_one : {A : Type 0} (f : A → ℤ) (s : List A) (d : A) → 0 < length s → least f (take 1 s) ≡ f (get_or s 0 d)
least-take_one f [] d h = absurd (omega arith)
least-take_one f (x ∷ s) d h = refl

-- ---- what fixes them

-- an element whose value no other exceeds has the greatest
pub greatest_is : {A : Type 0} (f : A → ℤ) (s : List A) (x : A) → Contains s x → All (λ y. f y ≤ℤ f x) s → greatest f s ≡ f x
greatest_is f s x c h =
    let g = has_greatest f s (some c) in
    le_antisymm_ℤ
    (subst (λ v. v ≤ℤ f x) (sym g.2) (All-contains (λ y. f y ≤ℤ f x) s g.0 h g.1))
    (All-contains (λ y. f y ≤ℤ greatest f s) s x (below_greatest f s) c)
  where
    some : Contains s x → 0 < length s
    some c = let l = c.1 in omega arith

-- an element whose value no other falls below has the least
pub least_is : {A : Type 0} (f : A → ℤ) (s : List A) (x : A) → Contains s x → All (λ y. f x ≤ℤ f y) s → least f s ≡ f x
least_is f s x c h =
    let g = has_least f s (some c) in
    le_antisymm_ℤ
    (All-contains (λ y. least f s ≤ℤ f y) s x (above_least f s) c)
    (subst (λ v. f x ≤ℤ v) (sym g.2) (All-contains (λ y. f x ≤ℤ f y) s g.0 h g.1))
  where
    some : Contains s x → 0 < length s
    some c = let l = c.1 in omega arith
