-- Weights for points can be carried along to another order of the points, with the same sums.
use Rattle.std.proofs.Common.{◌≡◌, refl, sym, ◌∙◌, ap, ap₂, subst, ℕ, ◌+◌, ◌<◌, ℤ, pos, negsuc, ◌+ℤ◌, ◌-ℤ◌, ◌*ℤ◌, ◌≤ℤ◌, List, [], ◌∷◌, length, map, set, get_or, arith}
use Rattle.std.specs.Prelude.{All, IsPermutation, sum_by, zip}
use Rattle.std.specs.List.{swap}
use Rattle.std.proofs.Math.ListN.{get_or-map}
use Rattle.std.proofs.lemmas.Int.{ints}
use Rattle.std.proofs.lemmas.List.{length-map, map-set}
use Rattle.std.proofs.lemmas.List.Sums.{sum_by-cons}
use Rattle.std.proofs.lemmas.List.Sorted.{IsPermutation-refl, IsPermutation-trans, IsPermutation-swap, IsPermutation-keeps, sum_by-IsPermutation}
use Rattle.std.proofs.lemmas.Map.Views.{All-map-IsPermutation}
use Rattle.std.proofs.lemmas.Slice.Zip.{firsts-zip, seconds-zip}
use Rattle.integers.specs.Total.{total}
use Rattle.integers.proofs.Sums.{total-map}
use Rattle.bounds_model.specs.Space.{SpacePoint, plus, times, weighted_sum}
use Rattle.bounds_model.specs.Distance.{weighted}

-- ---- sums of a permutation

-- a number, or 0 where it is below 0
above : ℤ → ℕ
above (pos n) = n
above (negsuc n) = 0

-- the magnitude of a number, or 0 where it is not below 0
below : ℤ → ℕ
below (pos n) = 0
below (negsuc n) = n + 1

-- a number is the difference of these
parts : (z : ℤ) → z ≡ pos (above z) -ℤ pos (below z)
unfolding above below
parts (pos n) = omega (arith, ints)
parts (negsuc n) = omega (arith, ints)

-- and so is a sum
total-parts : {X : Type 0} (f : X → ℤ) (xs : List X) → total f xs ≡ pos (sum_by (λ x. above (f x)) xs) -ℤ pos (sum_by (λ x. below (f x)) xs)
total-parts f [] = refl
total-parts f (x ∷ xs) = joined (f x) (total f xs) _ _ _ _ _ _ (parts (f x)) (total-parts f xs) (sum_by-cons (λ x. above (f x)) x xs) (sum_by-cons (λ x. below (f x)) x xs)
  where
    joined : (z t : ℤ) (a b s r m n : ℕ) → z ≡ pos a -ℤ pos b → t ≡ pos s -ℤ pos r → m ≡ a + s → n ≡ b + r → z +ℤ t ≡ pos m -ℤ pos n
    joined z t a b s r m n h k l e = omega (arith, ints)

-- a sum is the same in any order
pub total-IsPermutation : {X : Type 0} (f : X → ℤ) (xs ys : List X) → IsPermutation xs ys → total f ys ≡ total f xs
total-IsPermutation f xs ys s =
    total-parts f ys ∙ ap₂ (λ m n. pos m -ℤ pos n) (sum_by-IsPermutation (λ x. above (f x)) xs ys s) (sum_by-IsPermutation (λ x. below (f x)) xs ys s) ∙ sym (total-parts f xs)

-- a weighted sum by its coordinates
weighted_sum-parts : {X : Type 0} (weight : X → ℤ) (at : X → SpacePoint) (xs : List X)
    → weighted_sum weight at xs ≡ record { x = total (λ x. weight x *ℤ (at x).x) xs; y = total (λ x. weight x *ℤ (at x).y) xs; z = total (λ x. weight x *ℤ (at x).z) xs }
weighted_sum-parts weight at [] = refl
weighted_sum-parts weight at (x ∷ xs) = λ i. plus (times (weight x) (at x)) (weighted_sum-parts weight at xs i)

-- and so is a weighted sum
pub weighted_sum-IsPermutation : {X : Type 0} (weight : X → ℤ) (at : X → SpacePoint) (xs ys : List X) → IsPermutation xs ys → weighted_sum weight at ys ≡ weighted_sum weight at xs
weighted_sum-IsPermutation weight at xs ys s =
    weighted_sum-parts weight at ys
    ∙ (λ i. record { x = total-IsPermutation (λ x. weight x *ℤ (at x).x) xs ys s i; y = total-IsPermutation (λ x. weight x *ℤ (at x).y) xs ys s i; z = total-IsPermutation (λ x. weight x *ℤ (at x).z) xs ys s i })
    ∙ sym (weighted_sum-parts weight at xs)

-- ---- pairs of weights and points

-- a function of each element keeps exchanges
map-swap : {X Y : Type 0} (f : X → Y) (xs : List X) (i j : ℕ) → map f (swap xs i j) ≡ swap (map f xs) i j
map-swap f [] i j = refl
map-swap f (x ∷ xs) i j =
    let l = x ∷ xs in
    map-set f (set l i (get_or l j x)) j (get_or l i x)
    ∙ ap₂ (λ m v. set m j v) (map-set f l i (get_or l j x) ∙ ap (set (map f l) i) (sym (get_or-map f l j x))) (sym (get_or-map f l i x))

-- a weight with its point
abbrev pub Pair : Type 0
Pair = ℤ × SpacePoint

-- the weights of pairs
abbrev weights_in : List Pair → List ℤ
weights_in pairs = map (λ (pair : Pair). pair.0) pairs

-- the points of pairs
abbrev points_in : List Pair → List SpacePoint
points_in pairs = map (λ (pair : Pair). pair.1) pairs

-- pairs whose points are the points in another order
abbrev Carried : List Pair → List SpacePoint → Type 0
Carried pairs points = (other : List Pair) × IsPermutation pairs other × (points_in other ≡ points)

-- pairs go along with their points
carry : (pairs : List Pair) (ps qs : List SpacePoint) → points_in pairs ≡ ps → IsPermutation ps qs → Carried pairs qs
carry pairs ps qs e s = IsPermutation-keeps ps (Carried pairs) (pairs, IsPermutation-refl pairs, e) step qs s
  where
    long : (other : List Pair) (l : List SpacePoint) → points_in other ≡ l → length l ≡ length other
    long other l h = sym (ap length h) ∙ length-map other (λ (pair : Pair). pair.1)

    step : (l : List SpacePoint) (i j : ℕ) → i < length l → j < length l → Carried pairs l → Carried pairs (swap l i j)
    step l i j hi hj c =
        let same = long c.0 l c.2 in (
          swap c.0 i j,
          IsPermutation-trans pairs c.0 (swap c.0 i j) c.1 (IsPermutation-swap c.0 (swap c.0 i j) i j (subst (λ n. i < n) same hi) (subst (λ n. j < n) same hj) refl),
          map-swap (λ (pair : Pair). pair.1) c.0 i j ∙ ap (λ l. swap l i j) c.2,
        )

-- pairs are their weights beside their points
zip_of_parts : (pairs : List Pair) → zip (weights_in pairs) (points_in pairs) ≡ pairs
zip_of_parts [] = refl
zip_of_parts (pair ∷ pairs) = ap (λ l. pair ∷ l) (zip_of_parts pairs)

-- weights for the points in another order
pub record OtherWeights (weights : List ℤ) (ps qs : List SpacePoint) : Type 0 where
  pub other : List ℤ
  pub as_many : length other ≡ length qs
  pub not_negative : All (λ w. pos 0 ≤ℤ w) other
  pub same_sum : total (λ w. w) other ≡ total (λ w. w) weights
  pub same_point : weighted other qs ≡ weighted weights ps

-- weights go along with their points
pub other_weights : (weights : List ℤ) (ps qs : List SpacePoint) → length weights ≡ length ps → All (λ w. pos 0 ≤ℤ w) weights → IsPermutation ps qs → OtherWeights weights ps qs
other_weights weights ps qs e h s =
    let pairs = zip weights ps in
    let firsts : weights_in pairs ≡ weights = firsts-zip weights ps (sym e) in
    let c = carry pairs ps qs (seconds-zip weights ps (sym e)) s in
    record {
      other = weights_in c.0;
      as_many = length-map c.0 (λ (pair : Pair). pair.0) ∙ sym (length-map c.0 (λ (pair : Pair). pair.1)) ∙ ap length c.2;
      not_negative = All-map-IsPermutation (λ (pair : Pair). pair.0) (λ w. pos 0 ≤ℤ w) pairs c.0 c.1 (subst (All (λ w. pos 0 ≤ℤ w)) (sym firsts) h);
      same_sum = total-map (λ w. w) (λ (pair : Pair). pair.0) c.0 ∙ total-IsPermutation (λ (pair : Pair). pair.0) pairs c.0 c.1 ∙ sym (total-map (λ w. w) (λ (pair : Pair). pair.0) pairs) ∙ ap (total (λ w. w)) firsts;
      same_point = ap (weighted_sum (λ (pair : Pair). pair.0) (λ (pair : Pair). pair.1)) (ap (zip (weights_in c.0)) (sym c.2) ∙ zip_of_parts c.0)
          ∙ weighted_sum-IsPermutation (λ (pair : Pair). pair.0) (λ (pair : Pair). pair.1) pairs c.0 c.1;
    }
