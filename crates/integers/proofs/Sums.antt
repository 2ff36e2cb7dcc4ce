-- Sums of a whole number for each element of a list.
use Rattle.std.proofs.Common.{◌≡◌, refl, sym, ◌∙◌, ap, ap₂, ℕ, ◌+◌, ◌<◌, take, get_or, length, map, ℤ, pos, ◌+ℤ◌, ◌*ℤ◌, ◌≤ℤ◌, ◌<ℤ◌, List, [], ◌∷◌, ◌++◌, arith}
use Rattle.std.specs.Prelude.{All}
use Rattle.std.proofs.lemmas.Int.{ints}
use Rattle.std.proofs.lemmas.List.{take_more}
use Rattle.std.proofs.lemmas.List.Elements.{All-head, All-tail}
use Rattle.integers.specs.Total.{total}
use Rattle.integers.proofs.Identities.{den-ring, read, polys, lits}
use Rattle.integers.proofs.Order.{nonneg_add, nonneg_mul, nonneg_difference, le_by, combine1}

-- ---- over lists

-- the sum over two lists in a row is the sum of both
pub total-append : {A : Type 0} (f : A → ℤ) (s t : List A) → total f (s ++ t) ≡ total f s +ℤ total f t
total-append f [] t = omega (arith, ints)
total-append f (a ∷ s) t = let ih = total-append f s t in omega (arith, ints)

-- one more element adds its number
pub total-one_more : {A : Type 0} (f : A → ℤ) (s : List A) (a : A) → total f (s ++ (a ∷ [])) ≡ total f s +ℤ f a
total-one_more f s a = total-append f s (a ∷ []) ∙ omega (arith, ints)

-- the step of a loop over xs
pub total-take_more : {A : Type 0} (f : A → ℤ) (xs : List A) (i : ℕ) (d : A) → i < length xs → total f (take (i + 1) xs) ≡ total f (take i xs) +ℤ f (get_or xs i d)
total-take_more f xs i d h = ap (total f) (take_more xs i d h) ∙ total-one_more f (take i xs) (get_or xs i d)

-- the sum over a mapped list is that of the composed function
pub total-map : {A B : Type 0} (f : B → ℤ) (g : A → B) (s : List A) → total f (map g s) ≡ total (λ a. f (g a)) s
total-map f g [] = refl
total-map f g (a ∷ s) = ap (λ t. f (g a) +ℤ t) (total-map f g s)

-- ---- over functions

-- functions that agree at each element have one sum
pub total-same : {A : Type 0} (f g : A → ℤ) (s : List A) → All (λ a. f a ≡ g a) s → total f s ≡ total g s
total-same f g [] h = refl
total-same f g (a ∷ s) h =
    ap₂ (λ v w. v +ℤ w) (All-head (λ a. f a ≡ g a) a s h) (total-same f g s (All-tail (λ a. f a ≡ g a) a s h))

-- the sum of two functions
pub total-add : {A : Type 0} (f g : A → ℤ) (s : List A) → total (λ a. f a +ℤ g a) s ≡ total f s +ℤ total g s
total-add f g [] = refl
total-add f g (a ∷ s) = let ih = total-add f g s in omega (arith, ints)

scale_step : (k x t u : ℤ) → u ≡ k *ℤ t → k *ℤ x +ℤ u ≡ k *ℤ (x +ℤ t)
scale_step k x t u ih =
    combine1 (pos 1) ih (read (k ∷ x ∷ t ∷ u ∷ []) (λ xs p q r t. simp (p, q, r, t, polys, lits xs) (den-ring xs _ _ tt)))

-- a common factor on the left can be drawn out
pub total-scale : {A : Type 0} (k : ℤ) (f : A → ℤ) (s : List A) → total (λ a. k *ℤ f a) s ≡ k *ℤ total f s
total-scale k f [] = omega (arith, ints)
total-scale k f (a ∷ s) = scale_step k (f a) (total f s) (total (λ a. k *ℤ f a) s) (total-scale k f s)

scale_right_step : (k x t u : ℤ) → u ≡ t *ℤ k → x *ℤ k +ℤ u ≡ (x +ℤ t) *ℤ k
scale_right_step k x t u ih =
    combine1 (pos 1) ih (read (k ∷ x ∷ t ∷ u ∷ []) (λ xs p q r t. simp (p, q, r, t, polys, lits xs) (den-ring xs _ _ tt)))

-- and one on the right
pub total-scale_right : {A : Type 0} (f : A → ℤ) (k : ℤ) (s : List A) → total (λ a. f a *ℤ k) s ≡ total f s *ℤ k
total-scale_right f k [] = omega (arith, ints)
total-scale_right f k (a ∷ s) = scale_right_step k (f a) (total f s) (total (λ a. f a *ℤ k) s) (total-scale_right f k s)

-- a sum of zeros is 0
pub total-zero : {A : Type 0} (s : List A) → total (λ (a : A). pos 0) s ≡ pos 0
total-zero [] = refl
total-zero (a ∷ s) = let ih = total-zero s in omega (arith, ints)

-- the order of two sums can be exchanged
pub total-exchange : {A B : Type 0} (f : A → B → ℤ) (s : List A) (t : List B) → total (λ a. total (λ b. f a b) t) s ≡ total (λ b. total (λ a. f a b) s) t
total-exchange f [] t = sym (total-zero t)
total-exchange f (a ∷ s) t =
    ap (λ v. total (λ b. f a b) t +ℤ v) (total-exchange f s t)
    ∙ sym (total-add (λ b. f a b) (λ b. total (λ a. f a b) s) t)

-- ---- orders

-- the same, where only the list's own elements are known
pub total_nonneg_all : {A : Type 0} (f : A → ℤ) (s : List A) → All (λ a. pos 0 ≤ℤ f a) s → pos 0 ≤ℤ total f s
total_nonneg_all f [] h = omega (arith, ints)
total_nonneg_all f (a ∷ s) h =
    nonneg_add (All-head (λ a. pos 0 ≤ℤ f a) a s h) (total_nonneg_all f s (All-tail (λ a. pos 0 ≤ℤ f a) a s h))

-- numbers of at least 1 have a sum of at least 1
pub total_positive : {A : Type 0} (f : A → ℤ) (s : List A) → 0 < length s → All (λ a. pos 0 <ℤ f a) s → pos 0 <ℤ total f s
total_positive f [] l h = absurd (omega arith)
total_positive f (a ∷ []) l h = let p = All-head (λ a. pos 0 <ℤ f a) a [] h in omega (arith, ints)
total_positive f (a ∷ (b ∷ s)) l h =
    let p = All-head (λ a. pos 0 <ℤ f a) a (b ∷ s) h in
    let q = total_positive f (b ∷ s) (omega arith) (All-tail (λ a. pos 0 <ℤ f a) a (b ∷ s) h) in
    more p q
  where
    more : {x y : ℤ} → pos 0 <ℤ x → pos 0 <ℤ y → pos 0 <ℤ (x +ℤ y)
    more p q = omega (arith, ints)

add_le : {a b c d : ℤ} → a ≤ℤ b → c ≤ℤ d → (a +ℤ c) ≤ℤ (b +ℤ d)
add_le h k = omega (arith, ints)

-- a function that is nowhere above another has no greater sum
pub total_le : {A : Type 0} (f g : A → ℤ) (s : List A) → All (λ a. f a ≤ℤ g a) s → total f s ≤ℤ total g s
total_le f g [] h = omega (arith, ints)
total_le f g (a ∷ s) h =
    add_le (All-head (λ a. f a ≤ℤ g a) a s h) (total_le f g s (All-tail (λ a. f a ≤ℤ g a) a s h))

weighted_step : (d w f T W M : ℤ) → pos 0 ≤ℤ w → (d *ℤ f) ≤ℤ M → (d *ℤ T) ≤ℤ (W *ℤ M) → (d *ℤ (w *ℤ f +ℤ T)) ≤ℤ ((w +ℤ W) *ℤ M)
weighted_step d w f T W M p h k =
    le_by (nonneg_add (nonneg_mul p (nonneg_difference h)) (nonneg_difference k))
    (read (d ∷ w ∷ f ∷ T ∷ W ∷ M ∷ []) (λ xs a b c e g h. simp (a, b, c, e, g, h, polys) (den-ring xs _ _ tt)))

-- with weights that are not negative: where f is at most M / d at each element, so is its weighted mean
pub total_weighted_le : {A : Type 0} (weight f : A → ℤ) (d M : ℤ) (s : List A) → All (λ a. pos 0 ≤ℤ weight a) s → All (λ a. (d *ℤ f a) ≤ℤ M) s → (d *ℤ total (λ a. weight a *ℤ f a) s) ≤ℤ (total weight s *ℤ M)
total_weighted_le weight f d M [] p h = nothing d M
  where
    nothing : (d M : ℤ) → (d *ℤ pos 0) ≤ℤ (pos 0 *ℤ M)
    nothing d M = omega (arith, ints)
total_weighted_le weight f d M (a ∷ s) p h =
    weighted_step d (weight a) (f a) (total (λ a. weight a *ℤ f a) s) (total weight s) M
    (All-head (λ a. pos 0 ≤ℤ weight a) a s p)
    (All-head (λ a. (d *ℤ f a) ≤ℤ M) a s h)
    (total_weighted_le weight f d M s (All-tail (λ a. pos 0 ≤ℤ weight a) a s p) (All-tail (λ a. (d *ℤ f a) ≤ℤ M) a s h))
