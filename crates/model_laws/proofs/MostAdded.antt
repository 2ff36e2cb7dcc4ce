-- How much more corners add to the area of a polygon: the area with one corner more, and the greatest that so many can add.
use Rattle.std.proofs.Common.{◌≡◌, refl, sym, ap, ◌∙◌, subst, ◌⊎◌, inl, inr, ℕ, zero, suc, ◌+◌, ◌-◌, ◌<◌, ◌≤◌, ℤ, pos, ◌+ℤ◌, ◌-ℤ◌, ◌*ℤ◌, ◌≤ℤ◌, List, [], ◌∷◌, ◌++◌, length, map, take, arith}
use Rattle.std.specs.Prelude.{All, slice_index, slice_index_or}
use Rattle.std.specs.List.Sorted.{IsStrictlyIncreasing}
use Rattle.std.proofs.lemmas.Int.{ints}
use Rattle.std.proofs.lemmas.List.Elements.{All-head, All-tail}
use Rattle.integers.proofs.Identities.{den-ring, read, polys, lits}
use Rattle.integers.proofs.Order.{le_trans_ℤ}
use Rattle.integers.proofs.MaxMin.{left-le-max, right-le-max, pick_max}
use Rattle.bounds_model.specs.Plane.{PlanePoint, point_at, turn}
use Rattle.bounds_model.specs.Kgon.{triangulated_area, twice_area, greatest_from, most_added}

-- ---- a polygon with one corner more

-- the last of some elements
abbrev pub last_of : ℕ → List ℕ → ℕ
last_of a [] = a
last_of a (b ∷ rest) = last_of b rest

-- a point does not turn with itself
pub turn_same : (a b : PlanePoint) → turn a a b ≡ pos 0
turn_same a b = plain a.x a.y b.x b.y
  where
    plain : (ax ay bx by : ℤ) → (ax -ℤ ax) *ℤ (by -ℤ ay) -ℤ (ay -ℤ ay) *ℤ (bx -ℤ ax) ≡ pos 0
    plain ax ay bx by = read (ax ∷ ay ∷ bx ∷ by ∷ []) (λ xs a b c d. simp (a, b, c, d, polys, lits xs) (den-ring xs _ _ tt))

zero_and : (z : ℤ) → z ≡ pos 0 +ℤ z
zero_and z = omega (arith, ints)

-- the triangles with one corner more
triangles-push : (f : ℕ → PlanePoint) (a : PlanePoint) (b : ℕ) (rest : List ℕ) (x : ℕ) → triangulated_area a (map f (b ∷ rest ++ x ∷ [])) ≡ triangulated_area a (map f (b ∷ rest)) +ℤ turn a (f (last_of b rest)) (f x)
triangles-push f a b [] x = plain (turn a (f b) (f x))
  where
    plain : (t : ℤ) → t +ℤ pos 0 ≡ pos 0 +ℤ t
    plain t = omega (arith, ints)
triangles-push f a b (c ∷ rest) x = ap (λ z. turn a (f b) (f c) +ℤ z) (triangles-push f a c rest x) ∙ plain (turn a (f b) (f c)) (triangulated_area a (map f (c ∷ rest))) (turn a (f (last_of c rest)) (f x))
  where
    plain : (t u v : ℤ) → t +ℤ (u +ℤ v) ≡ t +ℤ u +ℤ v
    plain t u v = omega (arith, ints)

-- the area with one corner more
pub area-push : (f : ℕ → PlanePoint) (a : ℕ) (rest : List ℕ) (x : ℕ) → twice_area (map f (a ∷ rest ++ x ∷ [])) ≡ twice_area (map f (a ∷ rest)) +ℤ turn (f a) (f (last_of a rest)) (f x)
area-push f a [] x = zero_and (pos 0) ∙ ap (λ z. pos 0 +ℤ z) (sym (turn_same (f a) (f x)))
area-push f a (b ∷ rest) x = triangles-push f (f a) b rest x

-- the last of the first elements is the one at their end
pub last_of-take : (a : ℕ) (rest : List ℕ) (i : ℕ) → i < length (a ∷ rest) → last_of a (take i rest) ≡ slice_index_or (a ∷ rest) i 0
last_of-take a rest zero l = refl
last_of-take a [] (suc i) l = absurd (omega arith)
last_of-take a (b ∷ rest) (suc i) l = last_of-take b rest i (omega arith)

-- so the area of the first corners and another one is theirs and a triangle
pub area-take : (f : ℕ → PlanePoint) (a : ℕ) (rest : List ℕ) (i x : ℕ) → i < length (a ∷ rest) → twice_area (map f (take (i + 1) (a ∷ rest) ++ x ∷ [])) ≡ twice_area (map f (take (i + 1) (a ∷ rest))) +ℤ turn (f a) (f (slice_index_or (a ∷ rest) i 0)) (f x)
area-take f a rest i x l =
    subst (λ k. twice_area (map f (take k (a ∷ rest) ++ x ∷ [])) ≡ twice_area (map f (take k (a ∷ rest))) +ℤ turn (f a) (f (slice_index_or (a ∷ rest) i 0)) (f x)) (one_up i)
    (area-push f a (take i rest) x ∙ ap (λ p. twice_area (map f (a ∷ take i rest)) +ℤ turn (f a) (f p) (f x)) (last_of-take a rest i l))
  where
    one_up : (i : ℕ) → suc i ≡ i + 1
    one_up i = omega arith

-- ---- the greatest that can be added

zero_least : pos 0 ≤ℤ pos 0
zero_least = omega (arith, ints)

-- the greatest of 0 and others is not below 0
pub greatest_nonneg : (f : ℕ → ℤ) (start count : ℕ) → pos 0 ≤ℤ greatest_from f start count
greatest_nonneg f start zero = zero_least
greatest_nonneg f start (suc count) = le_trans_ℤ (greatest_nonneg f (start + 1) count) (right-le-max (f start) (greatest_from f (start + 1) count))

-- nor below one of them
pub greatest_above : (f : ℕ → ℤ) (start count i : ℕ) → start ≤ i → i < start + count → f i ≤ℤ greatest_from f start count
greatest_above f start zero i h l = absurd (omega arith)
greatest_above f start (suc count) i h l = elim (first_or_later start i h) [
  | inl e ↦ subst (λ j. f j ≤ℤ greatest_from f start (suc count)) e (left-le-max (f start) (greatest_from f (start + 1) count))
  | inr more ↦ le_trans_ℤ (greatest_above f (start + 1) count i more (omega (arith, l))) (right-le-max (f start) (greatest_from f (start + 1) count))
]
  where
    first_or_later : (start i : ℕ) → start ≤ i → (start ≡ i) ⊎ (start + 1 ≤ i)
    first_or_later start i h = grind arith

-- it is 0 or one of them
pub record IsAt (f : ℕ → ℤ) (start count : ℕ) (value : ℤ) (i : ℕ) : Type 0 where
  pub from : start ≤ i
  pub below : i < start + count
  pub is : value ≡ f i

pub greatest_at : (f : ℕ → ℤ) (start count : ℕ) → (greatest_from f start count ≡ pos 0) ⊎ ((i : ℕ) × IsAt f start count (greatest_from f start count) i)
greatest_at f start zero = inl refl
greatest_at f start (suc count) = elim (pick_max (f start) (greatest_from f (start + 1) count)) [
  | inl first ↦ inr (start, record { from = itself start; below = omega arith; is = first })
  | inr later ↦ elim (greatest_at f (start + 1) count) [
    | inl none ↦ inl (later ∙ none)
    | inr at_some ↦ inr (at_some.0, record { from = omega (arith, at_some.1.from); below = omega (arith, at_some.1.below); is = later ∙ at_some.1.is })
  ]
]
  where
    itself : (n : ℕ) → n ≤ n
    itself n = omega arith

-- greater numbers have a greatest that is not below
pub greatest_grows : (f g : ℕ → ℤ) (start count : ℕ) → ((i : ℕ) → f i ≤ℤ g i) → greatest_from f start count ≤ℤ greatest_from g start count
greatest_grows f g start zero h = zero_least
greatest_grows f g start (suc count) h = elim (pick_max (f start) (greatest_from f (start + 1) count)) [
  | inl e ↦ subst (λ z. z ≤ℤ greatest_from g start (suc count)) (sym e) (le_trans_ℤ (h start) (left-le-max (g start) (greatest_from g (start + 1) count)))
  | inr e ↦ subst (λ z. z ≤ℤ greatest_from g start (suc count)) (sym e) (le_trans_ℤ (greatest_grows f g (start + 1) count h) (right-le-max (g start) (greatest_from g (start + 1) count)))
]

-- what a next corner and more after it add
abbrev pub with_next : List PlanePoint → ℕ → ℕ → ℕ → ℕ → ℤ
with_next corners first more last next = turn (point_at corners first) (point_at corners last) (point_at corners next) +ℤ most_added corners first more next

-- nothing is taken away
pub most_added-nonneg : (corners : List PlanePoint) (first more last : ℕ) → pos 0 ≤ℤ most_added corners first more last
most_added-nonneg corners first zero last = zero_least
most_added-nonneg corners first (suc more) last = greatest_nonneg (with_next corners first more last) (last + 1) (length corners - (last + 1))

-- what a next corner and more after it add is no more
pub most_added-above : (corners : List PlanePoint) (first more last next : ℕ) → last < next → next < length corners → with_next corners first more last next ≤ℤ most_added corners first (suc more) last
most_added-above corners first more last next h l = greatest_above (with_next corners first more last) (last + 1) (length corners - (last + 1)) next (omega arith) (omega arith)

-- more corners add no less
pub most_added-grows : (corners : List PlanePoint) (first more last : ℕ) → most_added corners first more last ≤ℤ most_added corners first (suc more) last
most_added-grows corners first zero last = most_added-nonneg corners first 1 last
most_added-grows corners first (suc more) last =
    greatest_grows (with_next corners first more last) (with_next corners first (suc more) last) (last + 1) (length corners - (last + 1))
    (λ next. add (turn (point_at corners first) (point_at corners last) (point_at corners next)) (most_added-grows corners first more next))
  where
    add : (t : ℤ) {a b : ℤ} → a ≤ℤ b → (t +ℤ a) ≤ℤ (t +ℤ b)
    add t h = omega (arith, ints)

-- ---- later corners add no more than that

-- rising positions go on rising after the first
pub rising-uncons : (a b : ℕ) (rest : List ℕ) → IsStrictlyIncreasing (a ∷ b ∷ rest) → (a < b) × IsStrictlyIncreasing (b ∷ rest)
rising-uncons a b rest h = (h 0 (omega arith), λ k l. subst (λ m. slice_index (b ∷ rest) k < slice_index (a ∷ b ∷ rest) m) (one_up k) (h (suc k) (omega arith)))
  where
    one_up : (k : ℕ) → suc k + 1 ≡ suc (k + 1)
    one_up k = omega arith

pub added_below : (corners : List PlanePoint) (first more last : ℕ) (rest : List ℕ) → IsStrictlyIncreasing (last ∷ rest) → All (λ i. i < length corners) rest → length rest ≤ more → triangulated_area (point_at corners first) (map (point_at corners) (last ∷ rest)) ≤ℤ most_added corners first more last
added_below corners first more last [] rises inside count = most_added-nonneg corners first more last
added_below corners first zero last (next ∷ rest) rises inside count = absurd (omega arith)
added_below corners first (suc more) last (next ∷ rest) rises inside count =
    let after = rising-uncons last next rest rises in
    le_trans_ℤ
    (add (turn (point_at corners first) (point_at corners last) (point_at corners next)) (added_below corners first more next rest after.1 (All-tail (λ i. i < length corners) next rest inside) (omega arith)))
    (most_added-above corners first more last next after.0 (All-head (λ i. i < length corners) next rest inside))
  where
    add : (t : ℤ) {a b : ℤ} → a ≤ℤ b → (t +ℤ a) ≤ℤ (t +ℤ b)
    add t h = omega (arith, ints)
