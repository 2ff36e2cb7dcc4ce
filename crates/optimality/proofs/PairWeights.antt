-- The weights that pairs give to the points that they name: their sum and the weighted sum of the points are those of the pairs.
use Rattle.std.proofs.Common.{Bool, true, false, ◌≡◌, ◌≢◌, refl, sym, ◌∙◌, ap, ap₂, ℕ, zero, suc, ◌+◌, ◌<◌, ◌≤◌, ℤ, pos, ◌+ℤ◌, ◌*ℤ◌, ◌≤ℤ◌, List, [], ◌∷◌, length, arith}
use Rattle.std.specs.Prelude.{All, ◌==◌, if◌then◌else◌, slice_index_or}
use Rattle.std.proofs.lemmas.Int.{ints}
use Rattle.std.proofs.lemmas.Bool.Decides.{Decides-eqb, nat_tests}
use Rattle.std.proofs.lemmas.List.Elements.{All-cons, All-nil, All-head, All-tail}
use Rattle.integers.proofs.Identities.{den-ring, read, polys, lits}
use Rattle.integers.proofs.Order.{combine1, combine2, nonneg_from_one}
use Rattle.integers.proofs.Sums.{total_nonneg_all}
use Rattle.integers.specs.Total.{total}
use Rattle.bounds_model.specs.Space.{SpacePoint, origin, point_at, plus, times, weighted_sum}
use Rattle.bounds_model.specs.Distance.{weighted}
use Rattle.bounds_model.specs.AnnulusAnswer.{WeightedPair, pair_sum}
use Rattle.bounds_model.specs.DistanceAnswer.{weight_of, at_numbers}
use Rattle.model_laws.proofs.WeightedVectors.{same_point}

-- which of its two points a pair names
abbrev pub Name : Type 0
Name = WeightedPair → ℕ

-- ---- a sum over points by their numbers

-- the sum of g over the points, each times what f gives its number
abbrev sum_by_number : (SpacePoint → ℤ) → (ℕ → ℤ) → ℕ → List SpacePoint → ℤ
sum_by_number g f n [] = pos 0
sum_by_number g f n (p ∷ rest) = f n *ℤ g p +ℤ sum_by_number g f (n + 1) rest

-- w at the number j, and 0 at every other
abbrev only_at : ℤ → ℕ → ℕ → ℤ
only_at w j i = if j == i then w else pos 0

-- there it is w
only-there : (w : ℤ) (j i : ℕ) → j ≡ i → only_at w j i ≡ w
only-there w j i e = ap (λ b. if b then w else pos 0) ((Decides-eqb j i).1 e)

-- and elsewhere 0
only-elsewhere : (w : ℤ) (j i : ℕ) → j ≢ i → only_at w j i ≡ pos 0
only-elsewhere w j i n = ap (λ b. if b then w else pos 0) off
  where
    off : (j == i) ≡ false
    off = grind (arith, nat_tests)

-- the sum for two functions is the sum of both
sum_by_number-add : (g : SpacePoint → ℤ) (f h : ℕ → ℤ) (n : ℕ) (ps : List SpacePoint) → sum_by_number g (λ i. f i +ℤ h i) n ps ≡ sum_by_number g f n ps +ℤ sum_by_number g h n ps
sum_by_number-add g f h n [] = refl
sum_by_number-add g f h n (p ∷ rest) = plain (f n) (h n) (g p) _ (sum_by_number g f (n + 1) rest) (sum_by_number g h (n + 1) rest) (sum_by_number-add g f h (n + 1) rest)
  where
    plain : (a b v R A B : ℤ) → R ≡ A +ℤ B → (a +ℤ b) *ℤ v +ℤ R ≡ (a *ℤ v +ℤ A) +ℤ (b *ℤ v +ℤ B)
    plain a b v R A B e = combine1 (pos 1) e (read (a ∷ b ∷ v ∷ R ∷ A ∷ B ∷ []) (λ xs a b c d e f. simp (a, b, c, d, e, f, polys, lits xs) (den-ring xs _ _ tt)))

-- at a number with the weight 0 nothing is added
skip : (f v R S : ℤ) → f ≡ pos 0 → R ≡ S → f *ℤ v +ℤ R ≡ S
skip f v R S h k = combine2 v (pos 1) h k (read (f ∷ v ∷ R ∷ S ∷ []) (λ xs a b c d. simp (a, b, c, d, polys, lits xs) (den-ring xs _ _ tt)))

-- where f is 0 from n on, so is the sum
sum_by_number-zero : (g : SpacePoint → ℤ) (f : ℕ → ℤ) (n : ℕ) (ps : List SpacePoint) → ((i : ℕ) → n ≤ i → f i ≡ pos 0) → sum_by_number g f n ps ≡ pos 0
sum_by_number-zero g f n [] h = refl
sum_by_number-zero g f n (p ∷ rest) h = skip (f n) (g p) _ (pos 0) (h n (omega arith)) (sum_by_number-zero g f (n + 1) rest (λ i l. h i (omega arith)))

-- with a weight at one number alone it is that weight times the value there
sum_by_number-only : (g : SpacePoint → ℤ) (w : ℤ) (j n t : ℕ) (ps : List SpacePoint) → j ≡ n + t → t < length ps → sum_by_number g (only_at w j) n ps ≡ w *ℤ g (point_at ps t)
sum_by_number-only g w j n t [] e l = absurd (omega arith)
sum_by_number-only g w j n zero (p ∷ rest) e l = alone (only_at w j n) w (g p) _ (only-there w j n (omega arith)) (sum_by_number-zero g (only_at w j) (n + 1) rest (λ i l. only-elsewhere w j i (λ e'. absurd (omega arith))))
  where
    alone : (f w v R : ℤ) → f ≡ w → R ≡ pos 0 → f *ℤ v +ℤ R ≡ w *ℤ v
    alone f w v R h k = combine2 v (pos 1) h k (read (f ∷ w ∷ v ∷ R ∷ []) (λ xs a b c d. simp (a, b, c, d, polys, lits xs) (den-ring xs _ _ tt)))
sum_by_number-only g w j n (suc t) (p ∷ rest) e l = skip (only_at w j n) (g p) _ _ (only-elsewhere w j n (λ e'. absurd (omega arith))) (sum_by_number-only g w j (n + 1) t rest (omega arith) (omega arith))

-- with the weights that pairs give, it is the weighted sum over the pairs
sum_of_pairs : (g : SpacePoint → ℤ) (name : Name) (ps : List SpacePoint) (pairs : List WeightedPair) → All (λ pair. name pair < length ps) pairs
    → sum_by_number g (weight_of name pairs) 0 ps ≡ total (λ pair. pair.weight *ℤ g (point_at ps (name pair))) pairs
sum_of_pairs g name ps [] h = sum_by_number-zero g (λ i. pos 0) 0 ps (λ i l. refl)
sum_of_pairs g name ps (pair ∷ rest) h =
    let Is_named = λ (pair : WeightedPair). name pair < length ps in
    sum_by_number-add g (only_at pair.weight (name pair)) (weight_of name rest) 0 ps
    ∙ ap₂ (λ v w. v +ℤ w) (sum_by_number-only g pair.weight (name pair) 0 (name pair) ps (omega arith) (All-head Is_named pair rest h)) (sum_of_pairs g name ps rest (All-tail Is_named pair rest h))

-- ---- the weighted sum, a coordinate at a time

-- a coordinate of points: linear, as all are
record IsLinear (g : SpacePoint → ℤ) : Type 0 where
  at_origin : g origin ≡ pos 0
  of_sum : (a b : SpacePoint) → g (plus a b) ≡ g a +ℤ g b
  of_multiple : (k : ℤ) (a : SpacePoint) → g (times k a) ≡ k *ℤ g a

-- the coordinate of a weighted sum of points
of_weighted : (g : SpacePoint → ℤ) → IsLinear g → (f : ℕ → ℤ) (n : ℕ) (ps : List SpacePoint) → g (weighted (at_numbers f n ps) ps) ≡ sum_by_number g f n ps
of_weighted g h f n [] = h.at_origin
of_weighted g h f n (p ∷ rest) = h.of_sum (times (f n) p) (weighted (at_numbers f (n + 1) rest) rest) ∙ ap₂ (λ v w. v +ℤ w) (h.of_multiple (f n) p) (of_weighted g h f (n + 1) rest)

-- and of a weighted sum over pairs
of_weighted_sum : (g : SpacePoint → ℤ) → IsLinear g → (at : WeightedPair → SpacePoint) (pairs : List WeightedPair) → g (weighted_sum (λ pair. pair.weight) at pairs) ≡ total (λ pair. pair.weight *ℤ g (at pair)) pairs
of_weighted_sum g h at [] = h.at_origin
of_weighted_sum g h at (pair ∷ rest) = h.of_sum (times pair.weight (at pair)) (weighted_sum (λ (pair : WeightedPair). pair.weight) at rest) ∙ ap₂ (λ v w. v +ℤ w) (h.of_multiple pair.weight (at pair)) (of_weighted_sum g h at rest)

-- the weights of the points give the weighted sum of the pairs
pub weighted_of_pairs : (name : Name) (ps : List SpacePoint) (pairs : List WeightedPair) → All (λ pair. name pair < length ps) pairs
    → weighted (at_numbers (weight_of name pairs) 0 ps) ps ≡ weighted_sum (λ pair. pair.weight) (λ pair. point_at ps (name pair)) pairs
weighted_of_pairs name ps pairs h =
    same_point _ _
    (coordinate (λ p. p.x) (record { at_origin = refl; of_sum = λ _ _. refl; of_multiple = λ _ _. refl }))
    (coordinate (λ p. p.y) (record { at_origin = refl; of_sum = λ _ _. refl; of_multiple = λ _ _. refl }))
    (coordinate (λ p. p.z) (record { at_origin = refl; of_sum = λ _ _. refl; of_multiple = λ _ _. refl }))
  where
    coordinate : (g : SpacePoint → ℤ) → IsLinear g → g (weighted (at_numbers (weight_of name pairs) 0 ps) ps) ≡ g (weighted_sum (λ (pair : WeightedPair). pair.weight) (λ pair. point_at ps (name pair)) pairs)
    coordinate g l = of_weighted g l (weight_of name pairs) 0 ps ∙ sum_of_pairs g name ps pairs h ∙ sym (of_weighted_sum g l (λ pair. point_at ps (name pair)) pairs)

-- ---- the weights themselves

-- the sum of the weights is the sum of 1 at each point, by its weight
total_of_ones : (f : ℕ → ℤ) (n : ℕ) (ps : List SpacePoint) → total (λ w. w) (at_numbers f n ps) ≡ sum_by_number (λ p. pos 1) f n ps
total_of_ones f n [] = refl
total_of_ones f n (p ∷ rest) = let ih = total_of_ones f (n + 1) rest in omega (arith, ints)

-- the weights of the points have the sum of the pairs' weights
pub total_of_pairs : (name : Name) (ps : List SpacePoint) (pairs : List WeightedPair) → All (λ pair. name pair < length ps) pairs → total (λ w. w) (at_numbers (weight_of name pairs) 0 ps) ≡ pair_sum pairs
total_of_pairs name ps pairs h = total_of_ones (weight_of name pairs) 0 ps ∙ sum_of_pairs (λ p. pos 1) name ps pairs h ∙ ones pairs
  where
    ones : (pairs : List WeightedPair) → total (λ pair. pair.weight *ℤ pos 1) pairs ≡ pair_sum pairs
    ones [] = refl
    ones (pair ∷ rest) = let ih = ones rest in omega (arith, ints)

-- there is a weight for each point
pub length-at_numbers : (f : ℕ → ℤ) (n : ℕ) (ps : List SpacePoint) → length (at_numbers f n ps) ≡ length ps
length-at_numbers f n [] = refl
length-at_numbers f n (p ∷ rest) = ap suc (length-at_numbers f (n + 1) rest)

-- what holds of each value of a function holds of each of its values at numbers
all_at_numbers : (P : ℤ → Type 0) (f : ℕ → ℤ) → ((i : ℕ) → P (f i)) → (n : ℕ) (ps : List SpacePoint) → All P (at_numbers f n ps)
all_at_numbers P f h n [] = All-nil P
all_at_numbers P f h n (p ∷ rest) = All-cons P (f n) (at_numbers f (n + 1) rest) (h n) (all_at_numbers P f h (n + 1) rest)

-- and none is negative
pub weights_nonneg : (name : Name) (ps : List SpacePoint) (pairs : List WeightedPair) → All (λ pair. pos 1 ≤ℤ pair.weight) pairs → All (λ w. pos 0 ≤ℤ w) (at_numbers (weight_of name pairs) 0 ps)
weights_nonneg name ps pairs h =
    all_at_numbers (λ w. pos 0 ≤ℤ w) (weight_of name pairs) (λ i. total_nonneg_all (λ (pair : WeightedPair). only_at pair.weight (name pair) i) pairs (λ k d l. only-nonneg (nonneg_from_one (h k d l)) (name (slice_index_or pairs k d) == i))) 0 ps
  where
    only-nonneg : {w : ℤ} → pos 0 ≤ℤ w → (there : Bool) → pos 0 ≤ℤ (if there then w else pos 0)
    only-nonneg h true = h
    only-nonneg h false = omega (arith, ints)
