-- What code computes in unsigned numbers of 32, 64 or 128 bits fits: each goal in one line, by computation.
--
-- `with_limited` takes the inputs, each with its limit, and a function of their list, of their limits and of an equation for each:
--
--   overflow_mul-x c =
--       with_limited (limited _ (2 ^ 40) c.requires.a ∷ limited _ 1000 c.requires.b ∷ []) (λ xs h a b. simp (a, b, amounts) (amount_fits xs h w128 _ tt))
--
-- - `amount_fits xs h w _ tt` for an overflow, and `amount_within xs h _ tt` for a bound that the function ensures.
-- - A result needs none of this, since unsigned code appears in goals as it is. One or two products are found without an answer.
use Rattle.std.proofs.Common.{◌≡◌, refl, ℕ, zero, suc, ◌+◌, ◌-◌, ◌*◌, ◌^◌, ◌≤◌, arith, List, [], ◌∷◌, T, ltb, ltb→lt, leb, leb→le, le_trans, mul-le-mul, zero-le, Fits}
use mir.Syntax.{Width}
use mir.Val.{bits}
use Rattle.integers.proofs.MachineArithmetic.{bound_at}

-- an expression of unsigned code
pub data Count : Type 0 where
  input : ℕ → Count
  numeral : ℕ → Count
  plus : Count → Count → Count
  times : Count → Count → Count
  minus : Count → Count → Count

-- the number at a number_at_index
abbrev pub number_at_index : List ℕ → ℕ → ℕ
number_at_index [] i = 0
number_at_index (x ∷ xs) zero = x
number_at_index (x ∷ xs) (suc i) = number_at_index xs i

-- what the code computes at the inputs xs
abbrev pub count_of : List ℕ → Count → ℕ
count_of xs (input i) = number_at_index xs i
count_of xs (numeral n) = n
count_of xs (plus e f) = count_of xs e + count_of xs f
count_of xs (times e f) = count_of xs e * count_of xs f
count_of xs (minus e f) = count_of xs e - count_of xs f

-- its greatest value, where the inputs have these limits
abbrev pub most : List ℕ → Count → ℕ
most ns (input i) = bound_at ns i
most ns (numeral n) = n
most ns (plus e f) = most ns e + most ns f
most ns (times e f) = most ns e * most ns f
most ns (minus e f) = most ns e

-- each input is within its limit
pub record Limits (ns xs : List ℕ) : Type 0 where
  pub each : (i : ℕ) → number_at_index xs i ≤ bound_at ns i

count_le_most : (ns xs : List ℕ) → Limits ns xs → (e : Count) → count_of xs e ≤ most ns e
count_le_most ns xs h (input i) = h.each i
count_le_most ns xs h (numeral n) = omega arith
count_le_most ns xs h (plus e f) = let a = count_le_most ns xs h e in let b = count_le_most ns xs h f in omega arith
count_le_most ns xs h (times e f) = mul-le-mul (count_le_most ns xs h e) (count_le_most ns xs h f)
count_le_most ns xs h (minus e f) = let a = count_le_most ns xs h e in omega arith

-- ---- read off a goal

-- what the code computes, as `simp` writes it
unfoldable pub amount : List ℕ → Count → ℕ
amount xs e = count_of xs e

-- the sum of two codes is one
pub amount-plus : (xs : List ℕ) (e f : Count) → amount xs e + amount xs f ≡ amount xs (plus e f)
unfolding amount
amount-plus xs e f = refl

-- so is their product
pub amount-times : (xs : List ℕ) (e f : Count) → amount xs e * amount xs f ≡ amount xs (times e f)
unfolding amount
amount-times xs e f = refl

-- and their difference
pub amount-minus : (xs : List ℕ) (e f : Count) → amount xs e - amount xs f ≡ amount xs (minus e f)
unfolding amount
amount-minus xs e f = refl

-- for `simp`
pub ruleset amounts = (amount-plus, amount-times, amount-minus)

-- the code's value fits
pub amount_fits : {ns : List ℕ} (xs : List ℕ) → Limits ns xs → (w : Width) (e : Count) → T (ltb (most ns e) (2 ^ bits w)) → Fits w (amount xs e)
unfolding amount
amount_fits {ns} xs h w e t =
    let below = ltb→lt (most ns e) (2 ^ bits w) t in
    let within = count_le_most ns xs h e in
    record { fits = omega arith }

-- the code's value is at most n
pub amount_within : {ns : List ℕ} (xs : List ℕ) → Limits ns xs → {n : ℕ} (e : Count) → T (leb (most ns e) n) → amount xs e ≤ n
unfolding amount
amount_within {ns} xs h {n} e t = le_trans (count_le_most ns xs h e) (leb→le (most ns e) n t)

-- ---- the inputs

-- `f` at any list, with each number of vs as the input of its number_at_index
abbrev pub Amounts : List ℕ → ℕ → List ℕ → Type 0 → Type 0
Amounts [] i xs P = P
Amounts (v ∷ vs) i xs P = v ≡ amount xs (input i) → Amounts vs (suc i) xs P

abbrev at : List ℕ → ℕ → List ℕ → Type 0
at [] i xs = Unit {0}
at (v ∷ vs) i xs = (v ≡ number_at_index xs i) × at vs (suc i) xs

at-more : (v : ℕ) (us xs : List ℕ) (i : ℕ) → at us i xs → at us (suc i) (v ∷ xs)
at-more v [] xs i h = tt
at-more v (u ∷ us) xs i h = (h.0, at-more v us xs (suc i) h.1)

at_all : (vs : List ℕ) → at vs 0 vs
at_all [] = tt
at_all (v ∷ vs) = (refl, at-more v vs vs 0 (at_all vs))

give : (vs : List ℕ) (i : ℕ) (xs : List ℕ) (P : Type 0) → at vs i xs → Amounts vs i xs P → P
unfolding amount
give [] i xs P h f = f
give (v ∷ vs) i xs P h f = give vs (suc i) xs P h.1 (f h.0)

-- a number with a limit
pub record Limited : Type 0 where
  pub value : ℕ
  pub limit : ℕ
  pub within : value ≤ limit

-- `limited x n h`, where h says that x is at most n
abbrev pub limited : (x n : ℕ) → x ≤ n → Limited
limited x n h = record { value = x; limit = n; within = h }

-- the numbers
abbrev pub amounts_of : List Limited → List ℕ
amounts_of [] = []
amounts_of (g ∷ gs) = g.value ∷ amounts_of gs

-- their limits
abbrev pub limits_of : List Limited → List ℕ
limits_of [] = []
limits_of (g ∷ gs) = g.limit ∷ limits_of gs

within_at : (gs : List Limited) (i : ℕ) → number_at_index (amounts_of gs) i ≤ bound_at (limits_of gs) i
within_at [] i = zero-le
within_at (g ∷ gs) zero = g.within
within_at (g ∷ gs) (suc i) = within_at gs i

-- for `simp`, at a goal of code over these numbers
pub with_limited : (gs : List Limited) {P : Type 0} → ((xs : List ℕ) → Limits (limits_of gs) xs → Amounts (amounts_of gs) 0 xs P) → P
with_limited gs {P} f = give (amounts_of gs) 0 (amounts_of gs) P (at_all (amounts_of gs)) (f (amounts_of gs) (record { each = within_at gs }))
