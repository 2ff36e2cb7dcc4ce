-- What code computes in signed numbers of 32, 64 or 128 bits is what its expression means over `ℤ`: each goal in one line, by computation.
--
-- `with_inputs` takes the inputs, each with a bound on its size, and a function of their list, of their bounds and of an equation for each.
-- `simp` turns the goal's code into an expression, and `tt` decides that every step of it fits:
--
--   overflow_mul-x c = with_inputs (given c.requires.a ∷ given c.requires.b ∷ []) (λ xs h a b. simp (a, b, codes) (fits xs h w128 _ tt))
--
-- - `fits xs h w _ tt` for an overflow, w being `w32`, `w64` or `w128` (`w128` of `mir.Syntax`), `computes xs h _ _ tt tt` for a result, and
--   `size_within xs h _ tt` for a bound that the function ensures.
-- - A numeral of the goal wants its rule: `number xs 3` for 3, `number_below xs 6` for -7.
-- - An `abbrev inputs` shares the inputs of a function's answers.
-- - An unsigned number that is cast to a signed one: `simp (to_z_pos w128 n below)` first. For unsigned code
--   see UnsignedArithmetic.
use Rattle.std.proofs.Common.{◌≡◌, refl, sym, ◌∙◌, ap, ap₂, subst, ℕ, zero, suc, ◌+◌, ◌*◌, ◌^◌, ℤ, pos, negsuc, ◌+ℤ◌, ◌*ℤ◌, neg_ℤ, arith, List, [], ◌∷◌, Bool, true, false, T, ltb, leb, zero-le, FitsSigned, to_z, of_z, to_z-of_z}
use Rattle.std.proofs.lemmas.Int.{ints}
use mir.Syntax.{Width}
use mir.Val.{hbits}
use Rattle.integers.specs.Size.{Size}
use Rattle.integers.proofs.Sizes.{size_add, size_mul, size_neg, size_more, size_fits_in}
use Rattle.integers.proofs.Polynomials.{Expr, var, lit, ◌⊕◌, ◌⊗◌, neg, ring, eval, Same, nth}
use Rattle.integers.proofs.Identities.{at, at_all}

-- an expression of code: `back w e` is e as it comes back from its bits
pub data Code : Type 0 where
  input : ℕ → Code
  numeral : ℕ → Code
  plus : Code → Code → Code
  times : Code → Code → Code
  minus : Code → Code
  back : Width → Code → Code

-- its expression over `ℤ`
abbrev pub meant : Code → Expr
meant (input i) = var i
meant (numeral n) = lit n
meant (plus e f) = meant e ⊕ meant f
meant (times e f) = meant e ⊗ meant f
meant (minus e) = neg (meant e)
meant (back w e) = meant e

-- what the code computes at the inputs xs
abbrev pub result_of : List ℤ → Code → ℤ
result_of xs (input i) = nth xs i
result_of xs (numeral n) = pos n
result_of xs (plus e f) = result_of xs e +ℤ result_of xs f
result_of xs (times e f) = result_of xs e *ℤ result_of xs f
result_of xs (minus e) = neg_ℤ (result_of xs e)
result_of xs (back w e) = to_z w (of_z w (result_of xs e))

-- the limit of an input
abbrev pub bound_at : List ℕ → ℕ → ℕ
bound_at [] i = 0
bound_at (n ∷ ns) zero = n
bound_at (n ∷ ns) (suc i) = bound_at ns i

-- a bound on the size of the value, from the limits of the inputs
abbrev pub bound : List ℕ → Code → ℕ
bound ns (input i) = bound_at ns i
bound ns (numeral n) = n
bound ns (plus e f) = bound ns e + bound ns f
bound ns (times e f) = bound ns e * bound ns f
bound ns (minus e) = bound ns e
bound ns (back w e) = bound ns e

-- both tests hold
abbrev pub both : Bool → Bool → Bool
both true b = b
both false b = false

-- each number that goes to its bits fits them
abbrev pub fits_all : List ℕ → Code → Bool
fits_all ns (input i) = true
fits_all ns (numeral n) = true
fits_all ns (plus e f) = both (fits_all ns e) (fits_all ns f)
fits_all ns (times e f) = both (fits_all ns e) (fits_all ns f)
fits_all ns (minus e) = fits_all ns e
fits_all ns (back w e) = both (fits_all ns e) (ltb (bound ns e) (2 ^ hbits w))

-- the inputs' sizes
pub record Sizes (ns : List ℕ) (xs : List ℤ) : Type 0 where
  pub each : (i : ℕ) → Size (bound_at ns i) (nth xs i)

-- so the first does
pub both_first : (a b : Bool) → T (both a b) → T a
both_first true b t = tt
both_first false b t = t

-- and the second
pub both_second : (a b : Bool) → T (both a b) → T b
both_second true b t = t
both_second false b t = absurd t

record Exact (ns : List ℕ) (xs : List ℤ) (e : Code) : Type 0 where
  is : result_of xs e ≡ eval xs (meant e)
  size : Size (bound ns e) (eval xs (meant e))

size_numeral : (n : ℕ) → Size n (pos n)
size_numeral n = record { abs = omega (arith, ints) }

exact : (ns : List ℕ) (xs : List ℤ) → Sizes ns xs → (e : Code) → T (fits_all ns e) → Exact ns xs e
exact ns xs h (input i) t = record { is = refl; size = h.each i }
exact ns xs h (numeral n) t = record { is = refl; size = size_numeral n }
exact ns xs h (plus e f) t =
    let a = exact ns xs h e (both_first (fits_all ns e) (fits_all ns f) t) in
    let b = exact ns xs h f (both_second (fits_all ns e) (fits_all ns f) t) in
    record { is = ap₂ (λ v w. v +ℤ w) a.is b.is; size = size_add a.size b.size }
exact ns xs h (times e f) t =
    let a = exact ns xs h e (both_first (fits_all ns e) (fits_all ns f) t) in
    let b = exact ns xs h f (both_second (fits_all ns e) (fits_all ns f) t) in
    record { is = ap₂ (λ v w. v *ℤ w) a.is b.is; size = size_mul a.size b.size }
exact ns xs h (minus e) t =
    let a = exact ns xs h e t in
    record { is = ap neg_ℤ a.is; size = size_neg a.size }
exact ns xs h (back w e) t =
    let a = exact ns xs h e (both_first (fits_all ns e) (ltb (bound ns e) (2 ^ hbits w)) t) in
    record { is = ap (λ z. to_z w (of_z w z)) a.is ∙ to_z-of_z (size_fits_in w a.size (both_second (fits_all ns e) (ltb (bound ns e) (2 ^ hbits w)) t)); size = a.size }

-- ---- read off a goal

-- what the code computes, as `simp` writes it
unfoldable pub res : List ℤ → Code → ℤ
res xs e = result_of xs e

-- the sum of two codes is one
pub res-plus : (xs : List ℤ) (e f : Code) → res xs e +ℤ res xs f ≡ res xs (plus e f)
unfolding res
res-plus xs e f = refl

-- so is their product
pub res-times : (xs : List ℤ) (e f : Code) → res xs e *ℤ res xs f ≡ res xs (times e f)
unfolding res
res-times xs e f = refl

-- and the negative of one
pub res-minus : (xs : List ℤ) (e : Code) → neg_ℤ (res xs e) ≡ res xs (minus e)
unfolding res
res-minus xs e = refl

-- and one that went to its bits and back
pub res-back : (xs : List ℤ) (w : Width) (e : Code) → to_z w (of_z w (res xs e)) ≡ res xs (back w e)
unfolding res
res-back xs w e = refl

-- these four, for `simp`
pub ruleset codes = (res-plus, res-times, res-minus, res-back)

-- for each numeral of the goal, as `number xs 2`, and `number_below xs 6` for -7: a rule for every n would also fit inside `to_z`
pub number : (xs : List ℤ) (n : ℕ) → pos n ≡ res xs (numeral n)
unfolding res
number xs n = refl

-- a numeral below 0
pub number_below : (xs : List ℤ) (n : ℕ) → negsuc n ≡ res xs (minus (numeral (suc n)))
unfolding res
number_below xs n = refl

-- the code's value is the same polynomial as the other side
pub computes : {ns : List ℕ} (xs : List ℤ) → Sizes ns xs → (e f : Code) → T (both (fits_all ns e) (fits_all ns f)) → Same (meant e) (meant f) → res xs e ≡ res xs f
unfolding res
computes {ns} xs h e f t s =
    (exact ns xs h e (both_first (fits_all ns e) (fits_all ns f) t)).is
    ∙ ring xs (meant e) (meant f) s
    ∙ sym (exact ns xs h f (both_second (fits_all ns e) (fits_all ns f) t)).is

-- the code's value fits
pub fits : {ns : List ℕ} (xs : List ℤ) → Sizes ns xs → (w : Width) (e : Code) → T (both (fits_all ns e) (ltb (bound ns e) (2 ^ hbits w))) → FitsSigned w (res xs e)
unfolding res
fits {ns} xs h w e t =
    let a = exact ns xs h e (both_first (fits_all ns e) (ltb (bound ns e) (2 ^ hbits w)) t) in
    subst (FitsSigned w) (sym a.is) (size_fits_in w a.size (both_second (fits_all ns e) (ltb (bound ns e) (2 ^ hbits w)) t))

-- ---- the inputs

-- `f` at any list, with each number of vs as the input of its number_at_index
abbrev pub Inputs : List ℤ → ℕ → List ℤ → Type 0 → Type 0
Inputs [] i xs P = P
Inputs (v ∷ vs) i xs P = v ≡ res xs (input i) → Inputs vs (suc i) xs P

give : (vs : List ℤ) (i : ℕ) (xs : List ℤ) (P : Type 0) → at vs i xs → Inputs vs i xs P → P
unfolding res
give [] i xs P h f = f
give (v ∷ vs) i xs P h f = give vs (suc i) xs P h.1 (f h.0)

-- a number with a limit on its size
pub record Given : Type 0 where
  pub value : ℤ
  pub limit : ℕ
  pub size : Size limit value

-- `given h`, where h bounds the size of the number
abbrev pub given : {n : ℕ} {z : ℤ} → Size n z → Given
given {n} {z} h = record { value = z; limit = n; size = h }

-- the numbers
abbrev pub values : List Given → List ℤ
values [] = []
values (g ∷ gs) = g.value ∷ values gs

-- their limits
abbrev pub limits : List Given → List ℕ
limits [] = []
limits (g ∷ gs) = g.limit ∷ limits gs

size_at : (gs : List Given) (i : ℕ) → Size (bound_at (limits gs) i) (nth (values gs) i)
size_at [] i = record { abs = zero-le }
size_at (g ∷ gs) zero = g.size
size_at (g ∷ gs) (suc i) = size_at gs i

-- for `simp`, at a goal of code over these numbers
pub with_inputs : (gs : List Given) {P : Type 0} → ((xs : List ℤ) → Sizes (limits gs) xs → Inputs (values gs) 0 xs P) → P
with_inputs gs {P} f = give (values gs) 0 (values gs) P (at_all (values gs)) (f (values gs) (record { each = size_at gs }))

-- the code's value is at most n in size
pub size_within : {ns : List ℕ} (xs : List ℤ) → Sizes ns xs → {n : ℕ} (e : Code) → T (both (fits_all ns e) (leb (bound ns e) n)) → Size n (res xs e)
unfolding res
size_within {ns} xs h {n} e t =
    let a = exact ns xs h e (both_first (fits_all ns e) (leb (bound ns e) n) t) in
    subst (Size n) (sym a.is) (size_more a.size (both_second (fits_all ns e) (leb (bound ns e) n) t))
