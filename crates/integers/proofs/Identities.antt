-- An identity of polynomials over `ℤ`, in one line.
--
-- `read` takes the variables as a list, and a function of that list and of an equation for each variable. `simp` turns the goal into
-- two expressions, and `den-ring` decides by computation that they are one polynomial:
--
--   squares : (a b : ℤ) → (a -ℤ b) *ℤ (a +ℤ b) ≡ a *ℤ a -ℤ b *ℤ b
--   squares a b = read (a ∷ b ∷ []) (λ xs p q. simp (p, q, polys) (den-ring xs _ _ tt))
--
--   use Rattle.std.proofs.Common.{◌≡◌, ℤ, ◌-ℤ◌, ◌+ℤ◌, ◌*ℤ◌, [], ◌∷◌}
--   use Rattle.integers.proofs.Identities.{den-ring, read, polys}
--
-- - Numerals: add `lits xs` to the list of `simp` where `pos n` stands in the goal, and `below_lits xs` where `negsuc n` does, to which
--   also `x -ℤ pos n` computes. Where in doubt add both.
-- - A variable may be any term, as `p.x` or `f i`, but none may stand inside another. Else state the identity over plain variables,
--   and give it the terms.
-- - An `abbrev`, as `det2` or `square2`, unfolds by itself.
-- - From equations: `combine1 c h (read ..)` proves a ≡ b from h : p ≡ q, where a - b is c (p - q) (Order has `combine2` and `combine3`).
-- - For an order: `le_by (why D is at least 0) (read ..)` proves a ≤ b, where b - a is D (Order).
-- - A product with the numeral 0 or 1 computes away and can hide what is to be read: use `omega (arith, ints)` there.
-- - An identity that is false fails at `tt`: 'the two sides are `⊥` (left) and `Unit` (right)'.
use Rattle.std.proofs.Common.{◌≡◌, refl, ℕ, suc, ℤ, pos, negsuc, ◌+ℤ◌, ◌*ℤ◌, neg_ℤ, List, [], ◌∷◌}
use Rattle.integers.proofs.Polynomials.{Expr, var, lit, ◌⊕◌, ◌⊗◌, neg, ring, eval, Same, nth}

-- what an expression means at the numbers xs, as `simp` writes it
unfoldable pub den : List ℤ → Expr → ℤ
den xs e = eval xs e

-- the sum of two expressions is one
pub den-add : (xs : List ℤ) (e f : Expr) → den xs e +ℤ den xs f ≡ den xs (e ⊕ f)
unfolding den
den-add xs e f = refl

-- so is their product
pub den-mul : (xs : List ℤ) (e f : Expr) → den xs e *ℤ den xs f ≡ den xs (e ⊗ f)
unfolding den
den-mul xs e f = refl

-- and the negative of one
pub den-neg : (xs : List ℤ) (e : Expr) → neg_ℤ (den xs e) ≡ den xs (neg e)
unfolding den
den-neg xs e = refl

-- a numeral is an expression
pub lits : (xs : List ℤ) (n : ℕ) → pos n ≡ den xs (lit n)
unfolding den
lits xs n = refl

-- and so is one below 0
pub below_lits : (xs : List ℤ) (n : ℕ) → negsuc n ≡ den xs (neg (lit (suc n)))
unfolding den
below_lits xs n = refl

-- expressions that are one polynomial mean the same
pub den-ring : (xs : List ℤ) (e f : Expr) → Same e f → den xs e ≡ den xs f
unfolding den
den-ring xs e f t = ring xs e f t

-- `f` at any list, with each number of vs as the variable of its number_at_index
abbrev pub Read : List ℤ → ℕ → List ℤ → Type 0 → Type 0
Read [] i xs P = P
Read (v ∷ vs) i xs P = v ≡ den xs (var i) → Read vs (suc i) xs P

-- each number of vs stands in xs, the first of them at i
abbrev pub at : List ℤ → ℕ → List ℤ → Type 0
at [] i xs = Unit {0}
at (v ∷ vs) i xs = (v ≡ nth xs i) × at vs (suc i) xs

at-more : (v : ℤ) (us xs : List ℤ) (i : ℕ) → at us i xs → at us (suc i) (v ∷ xs)
at-more v [] xs i h = tt
at-more v (u ∷ us) xs i h = (h.0, at-more v us xs (suc i) h.1)

-- each number of a list stands where it does
pub at_all : (vs : List ℤ) → at vs 0 vs
at_all [] = tt
at_all (v ∷ vs) = (refl, at-more v vs vs 0 (at_all vs))

give : (vs : List ℤ) (i : ℕ) (xs : List ℤ) (P : Type 0) → at vs i xs → Read vs i xs P → P
unfolding den
give [] i xs P h f = f
give (v ∷ vs) i xs P h f = give vs (suc i) xs P h.1 (f h.0)

-- what holds of expressions over any list holds of the numbers vs
pub read : (vs : List ℤ) {P : Type 0} → ((xs : List ℤ) → Read vs 0 xs P) → P
read vs {P} f = give vs 0 vs P (at_all vs) (f vs)

-- the sums, products and negatives, for `simp`
pub ruleset polys = (den-add, den-mul, den-neg)
