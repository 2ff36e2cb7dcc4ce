-- Weighted vectors with a second number each, and the weightings between the two.
use Rattle.std.proofs.Common.{◌≡◌, refl, ◌∙◌, ap, ℕ, suc, ℤ, pos, ◌+ℤ◌, ◌*ℤ◌, neg_ℤ, List, [], ◌∷◌, length, map, arith}
use Rattle.std.specs.Prelude.{All}
use Rattle.std.proofs.lemmas.Int.{ints}
use Rattle.std.proofs.lemmas.List.Elements.{All-nil, All-cons, All-head, All-tail}
use Rattle.std.proofs.Math.Nat.{suc_inj}
use Rattle.integers.proofs.Identities.{den-ring, read, polys, lits}
use Rattle.integers.proofs.Order.{combine1}
use Rattle.bounds_model.specs.Space.{SpacePoint, plus, times, squared_length}
use Rattle.bounds_model.specs.Slacks.{WeightedVector, mass, moment, second_moment}
use Rattle.kernel_laws.specs.Solutions.{weighted}
use Rattle.kernel_laws.proofs.Points.{same_point}
use Rattle.corral.specs.Supports.{support_vectors}

-- a weighted vector and a number
pub record Numbered : Type 0 where
  pub weight : ℤ
  pub number : ℤ
  pub vector : SpacePoint

-- with its weight
abbrev pub by_weight : List Numbered → List WeightedVector
by_weight ts = map (λ t. record { weight = t.weight; vector = t.vector }) ts

-- with its number for a weight
abbrev pub by_number : List Numbered → List WeightedVector
by_number ts = map (λ t. record { weight = t.number; vector = t.vector }) ts

-- with k times the weight and l times the number
abbrev pub blended : ℤ → ℤ → List Numbered → List WeightedVector
blended k l ts = map (λ t. record { weight = k *ℤ t.weight +ℤ l *ℤ t.number; vector = t.vector }) ts

-- each item with its number
abbrev pub numbered : List WeightedVector → List ℤ → List Numbered
numbered [] ns = []
numbered (item ∷ items) [] = []
numbered (item ∷ items) (n ∷ ns) = record { weight = item.weight; number = n; vector = item.vector } ∷ numbered items ns

-- ---- as many numbers as items

-- there are as many
pub length-numbered : (items : List WeightedVector) (ns : List ℤ) → length ns ≡ length items → length (numbered items ns) ≡ length items
length-numbered [] ns e = refl
length-numbered (item ∷ items) [] e = absurd (omega arith)
length-numbered (item ∷ items) (n ∷ ns) e = ap suc (length-numbered items ns (suc_inj e))

-- by weight they are the items again
pub by_weight-numbered : (items : List WeightedVector) (ns : List ℤ) → length ns ≡ length items → by_weight (numbered items ns) ≡ items
by_weight-numbered [] ns e = refl
by_weight-numbered (item ∷ items) [] e = absurd (omega arith)
by_weight-numbered (item ∷ items) (n ∷ ns) e = ap (λ rest. item ∷ rest) (by_weight-numbered items ns (suc_inj e))

-- by number they are the vectors with the numbers for weights
pub by_number-numbered : (items : List WeightedVector) (ns : List ℤ) → length ns ≡ length items → by_number (numbered items ns) ≡ weighted ns (support_vectors items)
by_number-numbered [] [] e = refl
by_number-numbered [] (n ∷ ns) e = absurd (omega arith)
by_number-numbered (item ∷ items) [] e = absurd (omega arith)
by_number-numbered (item ∷ items) (n ∷ ns) e = ap (λ rest. record { weight = n; vector = item.vector } ∷ rest) (by_number-numbered items ns (suc_inj e))

-- what holds of each item's number holds of all numbers
pub all-numbered : (P : ℤ → Type 0) (items : List WeightedVector) (ns : List ℤ) → length ns ≡ length items → All (λ t. P t.number) (numbered items ns) → All P ns
all-numbered P [] [] e h = All-nil P
all-numbered P [] (n ∷ ns) e h = absurd (omega arith)
all-numbered P (item ∷ items) [] e h = All-nil P
all-numbered P (item ∷ items) (n ∷ ns) e h =
    let t : Numbered = record { weight = item.weight; number = n; vector = item.vector } in
    All-cons P n ns (All-head (λ (t : Numbered). P t.number) t (numbered items ns) h) (all-numbered P items ns (suc_inj e) (All-tail (λ (t : Numbered). P t.number) t (numbered items ns) h))

-- what holds of each item's weight holds of each weight
pub all-by_weight : (P : ℤ → Type 0) (ts : List Numbered) → All (λ item. P item.weight) (by_weight ts) → All (λ t. P t.weight) ts
all-by_weight P [] h = All-nil (λ (t : Numbered). P t.weight)
all-by_weight P (t ∷ ts) h =
    let item : WeightedVector = record { weight = t.weight; vector = t.vector } in
    All-cons (λ (t : Numbered). P t.weight) t ts (All-head (λ (item : WeightedVector). P item.weight) item (by_weight ts) h) (all-by_weight P ts (All-tail (λ (item : WeightedVector). P item.weight) item (by_weight ts) h))

-- the vectors are the same
pub vectors-blended : (k l : ℤ) (ts : List Numbered) → support_vectors (blended k l ts) ≡ support_vectors (by_weight ts)
vectors-blended k l [] = refl
vectors-blended k l (t ∷ ts) = ap (λ rest. t.vector ∷ rest) (vectors-blended k l ts)

-- ---- sums of a blend

none_blended : (k l : ℤ) → pos 0 ≡ k *ℤ pos 0 +ℤ l *ℤ pos 0
none_blended k l = omega (arith, ints)

one_blended : (k l w n T a b : ℤ) → T ≡ k *ℤ a +ℤ l *ℤ b → k *ℤ w +ℤ l *ℤ n +ℤ T ≡ k *ℤ (w +ℤ a) +ℤ l *ℤ (n +ℤ b)
one_blended k l w n T a b h = combine1 (pos 1) h (read (k ∷ l ∷ w ∷ n ∷ T ∷ a ∷ b ∷ []) (λ xs p q r s t u v. simp (p, q, r, s, t, u, v, polys, lits xs) (den-ring xs _ _ tt)))

one_scaled : (k l w n c T a b : ℤ) → T ≡ k *ℤ a +ℤ l *ℤ b → (k *ℤ w +ℤ l *ℤ n) *ℤ c +ℤ T ≡ k *ℤ (w *ℤ c +ℤ a) +ℤ l *ℤ (n *ℤ c +ℤ b)
one_scaled k l w n c T a b h = combine1 (pos 1) h (read (k ∷ l ∷ w ∷ n ∷ c ∷ T ∷ a ∷ b ∷ []) (λ xs p q r s t u v y. simp (p, q, r, s, t, u, v, y, polys, lits xs) (den-ring xs _ _ tt)))

pub mass-blended : (k l : ℤ) (ts : List Numbered) → mass (blended k l ts) ≡ k *ℤ mass (by_weight ts) +ℤ l *ℤ mass (by_number ts)
mass-blended k l [] = none_blended k l
mass-blended k l (t ∷ ts) = one_blended k l t.weight t.number _ (mass (by_weight ts)) (mass (by_number ts)) (mass-blended k l ts)

pub second_moment-blended : (k l : ℤ) (ts : List Numbered) → second_moment (blended k l ts) ≡ k *ℤ second_moment (by_weight ts) +ℤ l *ℤ second_moment (by_number ts)
second_moment-blended k l [] = none_blended k l
second_moment-blended k l (t ∷ ts) = one_scaled k l t.weight t.number (squared_length t.vector) _ (second_moment (by_weight ts)) (second_moment (by_number ts)) (second_moment-blended k l ts)

pub moment-blended : (k l : ℤ) (ts : List Numbered) → moment (blended k l ts) ≡ plus (times k (moment (by_weight ts))) (times l (moment (by_number ts)))
moment-blended k l [] = same_point (none_blended k l) (none_blended k l) (none_blended k l)
moment-blended k l (t ∷ ts) =
    let v = t.vector in
    let a = moment (by_weight ts) in
    let b = moment (by_number ts) in
    ap (λ s. plus (times (k *ℤ t.weight +ℤ l *ℤ t.number) v) s) (moment-blended k l ts)
    ∙ same_point (one_scaled k l t.weight t.number v.x _ a.x b.x refl) (one_scaled k l t.weight t.number v.y _ a.y b.y refl) (one_scaled k l t.weight t.number v.z _ a.z b.z refl)

-- ---- the opposite numbers

-- each number with the other sign
abbrev pub opposite_numbers : List Numbered → List Numbered
opposite_numbers ts = map (λ t. record { weight = t.weight; number = neg_ℤ t.number; vector = t.vector }) ts

pub by_weight-opposite : (ts : List Numbered) → by_weight (opposite_numbers ts) ≡ by_weight ts
by_weight-opposite [] = refl
by_weight-opposite (t ∷ ts) = ap (λ rest. record { weight = t.weight; vector = t.vector } ∷ rest) (by_weight-opposite ts)

none_opposite : pos 0 ≡ neg_ℤ (pos 0)
none_opposite = refl

one_opposite : (n T a : ℤ) → T ≡ neg_ℤ a → neg_ℤ n +ℤ T ≡ neg_ℤ (n +ℤ a)
one_opposite n T a h = omega (arith, ints)

one_opposite_scaled : (n c T a : ℤ) → T ≡ neg_ℤ a → neg_ℤ n *ℤ c +ℤ T ≡ neg_ℤ (n *ℤ c +ℤ a)
one_opposite_scaled n c T a h = combine1 (pos 1) h (read (n ∷ c ∷ T ∷ a ∷ []) (λ xs p q r s. simp (p, q, r, s, polys, lits xs) (den-ring xs _ _ tt)))

pub mass-opposite : (ts : List Numbered) → mass (by_number (opposite_numbers ts)) ≡ neg_ℤ (mass (by_number ts))
mass-opposite [] = none_opposite
mass-opposite (t ∷ ts) = one_opposite t.number _ (mass (by_number ts)) (mass-opposite ts)

pub second_moment-opposite : (ts : List Numbered) → second_moment (by_number (opposite_numbers ts)) ≡ neg_ℤ (second_moment (by_number ts))
second_moment-opposite [] = none_opposite
second_moment-opposite (t ∷ ts) = one_opposite_scaled t.number (squared_length t.vector) _ (second_moment (by_number ts)) (second_moment-opposite ts)

pub moment-opposite : (ts : List Numbered) → moment (by_number (opposite_numbers ts)) ≡ (let s = moment (by_number ts) in let o : SpacePoint = record { x = neg_ℤ s.x; y = neg_ℤ s.y; z = neg_ℤ s.z } in o)
moment-opposite [] = same_point none_opposite none_opposite none_opposite
moment-opposite (t ∷ ts) =
    let v = t.vector in
    let s = moment (by_number ts) in
    ap (λ s. plus (times (neg_ℤ t.number) v) s) (moment-opposite ts)
    ∙ same_point (one_opposite_scaled t.number v.x _ s.x refl) (one_opposite_scaled t.number v.y _ s.y refl) (one_opposite_scaled t.number v.z _ s.z refl)
