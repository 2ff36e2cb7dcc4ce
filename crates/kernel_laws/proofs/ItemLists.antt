-- The items of a list of known length, and what the conditions of the solver say of each.
use Prim.Native.Nat.{◌∣◌}
use Rattle.std.proofs.Common.{◌≡◌, refl, subst, ℕ, ◌+◌, ◌≤◌, ◌⊎◌, inl, inr, ℤ, pos, List, [], ◌∷◌, length, get_or, nat_abs, arith}
use Rattle.std.specs.Prelude.{All, ◌↔◌}
use Rattle.std.proofs.lemmas.Int.{ints}
use Rattle.std.proofs.lemmas.List.Elements.{All-head, All-tail}
use Rattle.std.proofs.Math.Nat.{eq-one_of_dvd-one}
use Rattle.bounds_model.specs.Space.{SpacePoint}
use Rattle.bounds_model.specs.Slacks.{AreAffinelyDependent}
use Rattle.kernel_laws.specs.declared.vectors.Vector.{Vector}
use Rattle.kernel_laws.specs.declared.solver.Solved.{Solved}
use Rattle.kernel_laws.specs.declared.solver.Solved.TheVariants.{Weights, Null}
use Rattle.kernel_laws.specs.Vectors.{vector_of, vectors_of}
use Rattle.kernel_laws.specs.Limits.{IsVectorWithin, IsDifference, difference_limit}
use Rattle.kernel_laws.specs.Solutions.{IsWeighting, AreItems, Reduces}
use Rattle.kernel_laws.specs.Answers.{Answers, IsNull, Shows}
use Rattle.kernel_laws.proofs.SideLimits.{more_within}
use Rattle.kernel_laws.proofs.Weightings.{weighting_of_one}

-- as many vectors as items
pub length-vectors_of : (xs : List Vector) → length (vectors_of xs) ≡ length xs
length-vectors_of [] = refl
length-vectors_of (x ∷ xs) = let e = length-vectors_of xs in omega arith

-- one item
pub one_item : (xs : List Vector) (d : Vector) → length xs ≡ 1 → vectors_of xs ≡ vector_of (get_or xs 0 d) ∷ []
one_item [] d e = absurd (omega arith)
one_item (a ∷ []) d e = refl
one_item (a ∷ b ∷ xs) d e = absurd (omega arith)

-- two
pub two_items : (xs : List Vector) (d : Vector) → length xs ≡ 2 → vectors_of xs ≡ vector_of (get_or xs 0 d) ∷ vector_of (get_or xs 1 d) ∷ []
two_items [] d e = absurd (omega arith)
two_items (a ∷ []) d e = absurd (omega arith)
two_items (a ∷ b ∷ []) d e = refl
two_items (a ∷ b ∷ c ∷ xs) d e = absurd (omega arith)

-- three
pub three_items : (xs : List Vector) (d : Vector) → length xs ≡ 3 → vectors_of xs ≡ vector_of (get_or xs 0 d) ∷ vector_of (get_or xs 1 d) ∷ vector_of (get_or xs 2 d) ∷ []
three_items [] d e = absurd (omega arith)
three_items (a ∷ []) d e = absurd (omega arith)
three_items (a ∷ b ∷ []) d e = absurd (omega arith)
three_items (a ∷ b ∷ c ∷ []) d e = refl
three_items (a ∷ b ∷ c ∷ x ∷ xs) d e = absurd (omega arith)

-- four
pub four_items : (xs : List Vector) (d : Vector) → length xs ≡ 4 → vectors_of xs ≡ vector_of (get_or xs 0 d) ∷ vector_of (get_or xs 1 d) ∷ vector_of (get_or xs 2 d) ∷ vector_of (get_or xs 3 d) ∷ []
four_items [] d e = absurd (omega arith)
four_items (a ∷ []) d e = absurd (omega arith)
four_items (a ∷ b ∷ []) d e = absurd (omega arith)
four_items (a ∷ b ∷ c ∷ []) d e = absurd (omega arith)
four_items (a ∷ b ∷ c ∷ x ∷ []) d e = refl
four_items (a ∷ b ∷ c ∷ x ∷ y ∷ xs) d e = absurd (omega arith)

-- five
pub five_items : (xs : List Vector) (d : Vector) → length xs ≡ 5 → vectors_of xs ≡ vector_of (get_or xs 0 d) ∷ vector_of (get_or xs 1 d) ∷ vector_of (get_or xs 2 d) ∷ vector_of (get_or xs 3 d) ∷ vector_of (get_or xs 4 d) ∷ []
five_items [] d e = absurd (omega arith)
five_items (a ∷ []) d e = absurd (omega arith)
five_items (a ∷ b ∷ []) d e = absurd (omega arith)
five_items (a ∷ b ∷ c ∷ []) d e = absurd (omega arith)
five_items (a ∷ b ∷ c ∷ x ∷ []) d e = absurd (omega arith)
five_items (a ∷ b ∷ c ∷ x ∷ y ∷ []) d e = refl
five_items (a ∷ b ∷ c ∷ x ∷ y ∷ z ∷ xs) d e = absurd (omega arith)

-- ---- bounds

-- a difference in either dimension
pub any_within : (dim : ℕ) (v : SpacePoint) → (dim ≡ 2) ⊎ (dim ≡ 3) → IsDifference dim v → IsVectorWithin 400000 v
any_within dim v (inl e) h = subst (λ d. IsVectorWithin (difference_limit d) v) e h.within
any_within dim v (inr e) h = more_within (omega arith) (subst (λ d. IsVectorWithin (difference_limit d) v) e h.within)

-- the element at index 0
pub at_0 : (P : SpacePoint → Type 0) (a : SpacePoint) (vs : List SpacePoint) → All P (a ∷ vs) → P a
at_0 P a vs h = All-head P a vs h

-- at index 1
pub at_1 : (P : SpacePoint → Type 0) (a b : SpacePoint) (vs : List SpacePoint) → All P (a ∷ b ∷ vs) → P b
at_1 P a b vs h = at_0 P b vs (All-tail P a (b ∷ vs) h)

-- at index 2
pub at_2 : (P : SpacePoint → Type 0) (a b c : SpacePoint) (vs : List SpacePoint) → All P (a ∷ b ∷ c ∷ vs) → P c
at_2 P a b c vs h = at_1 P b c vs (All-tail P a (b ∷ c ∷ vs) h)

-- at index 3
pub at_3 : (P : SpacePoint → Type 0) (a b c d : SpacePoint) (vs : List SpacePoint) → All P (a ∷ b ∷ c ∷ d ∷ vs) → P d
at_3 P a b c d vs h = at_2 P b c d vs (All-tail P a (b ∷ c ∷ d ∷ vs) h)

-- at index 4
pub at_4 : (P : SpacePoint → Type 0) (a b c d e : SpacePoint) (vs : List SpacePoint) → All P (a ∷ b ∷ c ∷ d ∷ e ∷ vs) → P e
at_4 P a b c d e vs h = at_3 P b c d e vs (All-tail P a (b ∷ c ∷ d ∷ e ∷ vs) h)

-- ---- answers

-- one vector has the weight 1
pub one_weight : (quadratic : ℤ) (limit : ℕ) (a : SpacePoint) → 1 ≤ limit → IsWeighting quadratic limit (a ∷ []) (pos 1 ∷ [])
one_weight quadratic limit a h =
    let reduces : Reduces (pos 1 ∷ []) (pos 1 ∷ []) = record { factor = 1; positive = omega arith; scaled = refl; no_factor = λ k all. eq-one_of_dvd-one (All-head (λ e. k ∣ nat_abs e) (pos 1) [] all) } in
    weighting_of_one quadratic limit a (pos 1) (pos 1 ∷ []) reduces (omega (arith, ints)) (record { abs = h })

-- a dependence that is shown is an answer
pub answer_shown : (quadratic : ℤ) (limit : ℕ) (vs : List SpacePoint) (r : Solved) → Shows vs r → Answers quadratic limit vs r
answer_shown quadratic limit vs (Weights ws) h = absurd h
answer_shown quadratic limit vs (Null ns) h = h

-- and comes where there is one
pub null_shown : (vs : List SpacePoint) (r : Solved) → Shows vs r → IsNull r ↔ AreAffinelyDependent vs
null_shown vs (Weights ws) h = absurd h
null_shown vs (Null ns) h = (λ _. (ns.items, h), λ _. tt)

-- ---- how many items there are

-- a count that is none of 1 to 4 is 5
pub five_of : (dim n : ℕ) → (dim ≡ 2) ⊎ (dim ≡ 3) → n ≤ dim + 2 → 1 ≤ n → (n ≡ 1 → ⊥) → (n ≡ 2 → ⊥) → (n ≡ 3 → ⊥) → (n ≡ 4 → ⊥) → n ≡ 5
five_of dim n (inl e) h l a b c d = absurd (omega arith)
five_of dim n (inr e) h l a b c d = omega arith

-- five items come in space alone
pub five_in_space : (dim n : ℕ) → (dim ≡ 2) ⊎ (dim ≡ 3) → n ≡ 5 → n ≤ dim + 2 → dim ≡ 3
five_in_space dim n (inl e) f h = absurd (omega arith)
five_in_space dim n (inr e) f h = e

-- how many items the solver has, where it has none of 1 to 4
pub five_count : (quadratic : ℤ) (dim : ℕ) (xs : List Vector) → (dim ≡ 2) ⊎ (dim ≡ 3) → AreItems quadratic dim (vectors_of xs) → (length xs ≡ 1 → ⊥) → (length xs ≡ 2 → ⊥) → (length xs ≡ 3 → ⊥) → (length xs ≡ 4 → ⊥) → length xs ≡ 5
five_count quadratic dim xs dims h not_one not_two not_three not_four =
    let same : length (vectors_of xs) ≡ length xs = length-vectors_of xs in
    five_of dim (length xs) dims (subst (λ n. n ≤ dim + 2) same h.few) (subst (λ n. 1 ≤ n) same h.some) not_one not_two not_three not_four

-- the bounds of five items
pub record FiveWithin (a b c d e : SpacePoint) : Type 0 where
  pub first : IsVectorWithin 16000 a
  pub second : IsVectorWithin 16000 b
  pub third : IsVectorWithin 16000 c
  pub fourth : IsVectorWithin 16000 d
  pub fifth : IsVectorWithin 16000 e

-- from the conditions of the solver
pub five_within : (quadratic : ℤ) (dim : ℕ) (xs : List Vector) (x : Vector) → (dim ≡ 2) ⊎ (dim ≡ 3) → AreItems quadratic dim (vectors_of xs) → length xs ≡ 5 → FiveWithin (vector_of (get_or xs 0 x)) (vector_of (get_or xs 1 x)) (vector_of (get_or xs 2 x)) (vector_of (get_or xs 3 x)) (vector_of (get_or xs 4 x))
five_within quadratic dim xs x dims h many =
    let a : SpacePoint = vector_of (get_or xs 0 x) in
    let b : SpacePoint = vector_of (get_or xs 1 x) in
    let c : SpacePoint = vector_of (get_or xs 2 x) in
    let d : SpacePoint = vector_of (get_or xs 3 x) in
    let e : SpacePoint = vector_of (get_or xs 4 x) in
    let three : dim ≡ 3 = five_in_space dim (length xs) dims many (subst (λ n. n ≤ dim + 2) (length-vectors_of xs) h.few) in
    let each : All (IsDifference dim) (a ∷ b ∷ c ∷ d ∷ e ∷ []) = subst (All (IsDifference dim)) (five_items xs x many) h.each in
    let within : (v : SpacePoint) → IsDifference dim v → IsVectorWithin 16000 v = λ v k. subst (λ n. IsVectorWithin (difference_limit n) v) three k.within in
    record {
      first = within a (at_0 (IsDifference dim) a (b ∷ c ∷ d ∷ e ∷ []) each);
      second = within b (at_1 (IsDifference dim) a b (c ∷ d ∷ e ∷ []) each);
      third = within c (at_2 (IsDifference dim) a b c (d ∷ e ∷ []) each);
      fourth = within d (at_3 (IsDifference dim) a b c d (e ∷ []) each);
      fifth = within e (at_4 (IsDifference dim) a b c d e [] each);
    }
