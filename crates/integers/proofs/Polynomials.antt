-- Identities of polynomials over `ℤ`, by computation.
use Rattle.std.proofs.Common.{◌≡◌, refl, sym, ◌∙◌, ap, ap₂, subst, ℕ, zero, suc, ℤ, pos, negsuc, ◌+ℤ◌, ◌-ℤ◌, ◌*ℤ◌, neg_ℤ, arith, List, [], ◌∷◌, Bool, true, false, T}
use Prim.Native.Nat.{compare, Ordering}
use Prim.Native.Nat.Ordering.{lt, eq, gt}
use lib.Dec.{eqb→eq, compare_is_eq}
use Rattle.std.proofs.lemmas.Int.{ints}
use lib.IntN.{*ℤ-zero, zero-*ℤ, neg_ℤ-+ℤ, +ℤ_idl}
use Rattle.integers.proofs.RingLaws.{*ℤ-+ℤ, +ℤ-*ℤ, *ℤ_assoc, neg_ℤ-*ℤ, one-*ℤ, *ℤ_swap, *ℤ_interchange, *ℤ-unit}

-- ---- expressions

-- a variable by its number_at_index in the list of numbers, a numeral, a sum, a product or a negative
pub data Expr : Type 0 where
  var : ℕ → Expr
  lit : ℕ → Expr
  ◌⊕◌ : Expr → Expr → Expr
  ◌⊗◌ : Expr → Expr → Expr
  neg : Expr → Expr

infixl 6 ◌⊕◌ ◌⊖◌
infixl 7 ◌⊗◌
-- a difference
abbrev pub ◌⊖◌ : Expr → Expr → Expr
e ⊖ f = e ⊕ neg f

-- the number at a number_at_index
abbrev pub nth : List ℤ → ℕ → ℤ
nth [] i = pos 0
nth (x ∷ xs) zero = x
nth (x ∷ xs) (suc i) = nth xs i

-- what an expression means at the numbers xs
abbrev pub eval : List ℤ → Expr → ℤ
eval xs (var i) = nth xs i
eval xs (lit n) = pos n
eval xs (e ⊕ f) = eval xs e +ℤ eval xs f
eval xs (e ⊗ f) = eval xs e *ℤ eval xs f
eval xs (neg e) = neg_ℤ (eval xs e)

-- ---- normal forms: the monomials in falling order, each a sorted list of variables, with its coefficient

-- a product of variables, by their indices in rising order
pub data Mon : Type 0 where
  unit : Mon
  by : ℕ → Mon → Mon

-- a sum of monomials, each with its coefficient
pub data Poly : Type 0 where
  nil : Poly
  term : ℤ → Mon → Poly → Poly

-- what a monomial means
abbrev pub value_of_mon : List ℤ → Mon → ℤ
value_of_mon xs unit = pos 1
value_of_mon xs (by i m) = nth xs i *ℤ value_of_mon xs m

-- what a polynomial means
abbrev pub value_of_poly : List ℤ → Poly → ℤ
value_of_poly xs nil = pos 0
value_of_poly xs (term c m p) = c *ℤ value_of_mon xs m +ℤ value_of_poly xs p

-- the order of monomials: by the first variable in which they differ
abbrev pub cmp_mon : Mon → Mon → Ordering
cmp_mon unit unit = eq
cmp_mon unit (by j n) = lt
cmp_mon (by i m) unit = gt
cmp_mon (by i m) (by j n) = elim (compare i j) [ lt ↦ gt | eq ↦ cmp_mon m n | gt ↦ lt ]

-- one step of a merge, `rest` being the merge with what follows i
abbrev pub merge_step : ℕ → Mon → (Mon → Mon) → Mon → Mon
merge_step i m rest unit = by i m
merge_step i m rest (by j n) = elim (compare i j) [ lt ↦ by i (rest (by j n)) | eq ↦ by i (rest (by j n)) | gt ↦ by j (merge_step i m rest n) ]

-- the product of two monomials, which merges their variables
abbrev pub mul_mon : Mon → Mon → Mon
mul_mon unit n = n
mul_mon (by i m) n = merge_step i m (mul_mon m) n

-- a term in front, unless its coefficient is 0
abbrev cons_term : ℤ → Mon → Poly → Poly
cons_term (pos zero) m p = p
cons_term (pos (suc k)) m p = term (pos (suc k)) m p
cons_term (negsuc k) m p = term (negsuc k) m p

-- one step of a sum, `rest` being the sum with what follows the first term
abbrev pub add_step : ℤ → Mon → Poly → (Poly → Poly) → Poly → Poly
add_step c m p rest nil = term c m p
add_step c m p rest (term d n q) = elim (cmp_mon m n) [ gt ↦ term c m (rest (term d n q)) | eq ↦ cons_term (c +ℤ d) m (rest q) | lt ↦ term d n (add_step c m p rest q) ]

-- the sum of two polynomials, which merges their terms
abbrev pub add_poly : Poly → Poly → Poly
add_poly nil q = q
add_poly (term c m p) q = add_step c m p (add_poly p) q

-- a polynomial times one term
abbrev pub scale_poly : ℤ → Mon → Poly → Poly
scale_poly c m nil = nil
scale_poly c m (term d n q) = term (c *ℤ d) (mul_mon m n) (scale_poly c m q)

-- the product of two polynomials
abbrev pub mul_poly : Poly → Poly → Poly
mul_poly nil q = nil
mul_poly (term c m p) q = add_poly (scale_poly c m q) (mul_poly p q)

-- the negative of a polynomial
abbrev pub neg_poly : Poly → Poly
neg_poly nil = nil
neg_poly (term c m p) = term (neg_ℤ c) m (neg_poly p)

-- an expression's normal form
abbrev pub norm : Expr → Poly
norm (var i) = term (pos 1) (by i unit) nil
norm (lit n) = cons_term (pos n) unit nil
norm (e ⊕ f) = add_poly (norm e) (norm f)
norm (e ⊗ f) = mul_poly (norm e) (norm f)
norm (neg e) = neg_poly (norm e)

-- the polynomial has no term
abbrev pub is_nil : Poly → Bool
is_nil nil = true
is_nil (term c m p) = false

-- ---- what a normal form means

eq_of_compare : (i j : ℕ) → compare i j ≡ eq → i ≡ j
eq_of_compare i j e = eqb→eq i j (subst (λ (o : Ordering). T (compare_is_eq o)) (sym e) tt)

same_mon : (m n : Mon) → cmp_mon m n ≡ eq → m ≡ n
same_mon unit unit e = refl
same_mon unit (by j n) e = cc
same_mon (by i m) unit e = cc
same_mon (by i m) (by j n) e = go (compare i j) refl (same_mon m n) e
  where
    go : (o : Ordering) → compare i j ≡ o → (cmp_mon m n ≡ eq → m ≡ n) → elim o as (λ o. Ordering) [ lt ↦ gt | eq ↦ cmp_mon m n | gt ↦ lt ] ≡ eq → by i m ≡ by j n
    go lt c h e = cc
    go eq c h e = ap₂ by (eq_of_compare i j c) (h e)
    go gt c h e = cc

value-merge_step : (xs : List ℤ) (i : ℕ) (m : Mon) (rest : Mon → Mon) → ((n : Mon) → value_of_mon xs (rest n) ≡ value_of_mon xs m *ℤ value_of_mon xs n) → (n : Mon) → value_of_mon xs (merge_step i m rest n) ≡ nth xs i *ℤ value_of_mon xs m *ℤ value_of_mon xs n
value-merge_step xs i m rest h unit = sym (*ℤ-unit (nth xs i *ℤ value_of_mon xs m))
value-merge_step xs i m rest h (by j n) =
    let first : nth xs i *ℤ value_of_mon xs (rest (by j n)) ≡ nth xs i *ℤ value_of_mon xs m *ℤ (nth xs j *ℤ value_of_mon xs n) =
    ap (λ v. nth xs i *ℤ v) (h (by j n)) ∙ sym (*ℤ_assoc (nth xs i) (value_of_mon xs m) (nth xs j *ℤ value_of_mon xs n)) in
    let second : nth xs j *ℤ value_of_mon xs (merge_step i m rest n) ≡ nth xs i *ℤ value_of_mon xs m *ℤ (nth xs j *ℤ value_of_mon xs n) =
    ap (λ v. nth xs j *ℤ v) (value-merge_step xs i m rest h n) ∙ *ℤ_swap (nth xs j) (nth xs i *ℤ value_of_mon xs m) (value_of_mon xs n) in
    elim (compare i j) as (λ o. value_of_mon xs (elim o as (λ o. Mon) [ lt ↦ by i (rest (by j n)) | eq ↦ by i (rest (by j n)) | gt ↦ by j (merge_step i m rest n) ]) ≡ nth xs i *ℤ value_of_mon xs m *ℤ (nth xs j *ℤ value_of_mon xs n)) [ lt ↦ first | eq ↦ first | gt ↦ second ]

value-mul_mon : (xs : List ℤ) (m n : Mon) → value_of_mon xs (mul_mon m n) ≡ value_of_mon xs m *ℤ value_of_mon xs n
value-mul_mon xs unit n = sym (one-*ℤ (value_of_mon xs n))
value-mul_mon xs (by i m) n = value-merge_step xs i m (mul_mon m) (value-mul_mon xs m) n

zero_term : (v r : ℤ) → r ≡ pos 0 *ℤ v +ℤ r
zero_term v r = omega (arith, ints)

value-cons_term : (xs : List ℤ) (c : ℤ) (m : Mon) (p : Poly) → value_of_poly xs (cons_term c m p) ≡ c *ℤ value_of_mon xs m +ℤ value_of_poly xs p
value-cons_term xs (pos zero) m p = zero_term (value_of_mon xs m) (value_of_poly xs p)
value-cons_term xs (pos (suc k)) m p = refl
value-cons_term xs (negsuc k) m p = refl

with_zero : (a : ℤ) → a ≡ a +ℤ pos 0
with_zero a = omega (arith, ints)

regroup : (a b c : ℤ) → a +ℤ (b +ℤ c) ≡ a +ℤ b +ℤ c
regroup a b c = omega (arith, ints)

move_front : (d a q : ℤ) → d +ℤ (a +ℤ q) ≡ a +ℤ (d +ℤ q)
move_front d a q = omega (arith, ints)

four : (a b p q : ℤ) → a +ℤ b +ℤ (p +ℤ q) ≡ a +ℤ p +ℤ (b +ℤ q)
four a b p q = omega (arith, ints)

value-add_step : (xs : List ℤ) (c : ℤ) (m : Mon) (p : Poly) (rest : Poly → Poly) → ((q : Poly) → value_of_poly xs (rest q) ≡ value_of_poly xs p +ℤ value_of_poly xs q) → (q : Poly) → value_of_poly xs (add_step c m p rest q) ≡ c *ℤ value_of_mon xs m +ℤ value_of_poly xs p +ℤ value_of_poly xs q
value-add_step xs c m p rest h nil = with_zero (c *ℤ value_of_mon xs m +ℤ value_of_poly xs p)
value-add_step xs c m p rest h (term d n q) = go (cmp_mon m n) refl (value-add_step xs c m p rest h q)
  where
    go : (o : Ordering) → cmp_mon m n ≡ o → value_of_poly xs (add_step c m p rest q) ≡ c *ℤ value_of_mon xs m +ℤ value_of_poly xs p +ℤ value_of_poly xs q → value_of_poly xs (elim o as (λ o. Poly) [ gt ↦ term c m (rest (term d n q)) | eq ↦ cons_term (c +ℤ d) m (rest q) | lt ↦ term d n (add_step c m p rest q) ]) ≡ c *ℤ value_of_mon xs m +ℤ value_of_poly xs p +ℤ (d *ℤ value_of_mon xs n +ℤ value_of_poly xs q)
    go gt e ih =
        ap (λ v. c *ℤ value_of_mon xs m +ℤ v) (h (term d n q)) ∙ regroup (c *ℤ value_of_mon xs m) (value_of_poly xs p) (d *ℤ value_of_mon xs n +ℤ value_of_poly xs q)
    go eq e ih =
        value-cons_term xs (c +ℤ d) m (rest q)
        ∙ ap₂ (λ v w. v +ℤ w) (+ℤ-*ℤ c d (value_of_mon xs m) ∙ ap (λ k. c *ℤ value_of_mon xs m +ℤ d *ℤ value_of_mon xs k) (same_mon m n e)) (h q)
        ∙ four (c *ℤ value_of_mon xs m) (d *ℤ value_of_mon xs n) (value_of_poly xs p) (value_of_poly xs q)
    go lt e ih =
        ap (λ v. d *ℤ value_of_mon xs n +ℤ v) ih
        ∙ move_front (d *ℤ value_of_mon xs n) (c *ℤ value_of_mon xs m +ℤ value_of_poly xs p) (value_of_poly xs q)

value-add_poly : (xs : List ℤ) (p q : Poly) → value_of_poly xs (add_poly p q) ≡ value_of_poly xs p +ℤ value_of_poly xs q
value-add_poly xs nil q = sym (+ℤ_idl (value_of_poly xs q))
value-add_poly xs (term c m p) q = value-add_step xs c m p (add_poly p) (value-add_poly xs p) q

value-scale_poly : (xs : List ℤ) (c : ℤ) (m : Mon) (q : Poly) → value_of_poly xs (scale_poly c m q) ≡ c *ℤ value_of_mon xs m *ℤ value_of_poly xs q
value-scale_poly xs c m nil = sym (*ℤ-zero (c *ℤ value_of_mon xs m))
value-scale_poly xs c m (term d n q) =
    ap₂ (λ v w. c *ℤ d *ℤ v +ℤ w) (value-mul_mon xs m n) (value-scale_poly xs c m q)
    ∙ ap (λ v. v +ℤ c *ℤ value_of_mon xs m *ℤ value_of_poly xs q) (*ℤ_interchange c d (value_of_mon xs m) (value_of_mon xs n))
    ∙ sym (*ℤ-+ℤ (c *ℤ value_of_mon xs m) (d *ℤ value_of_mon xs n) (value_of_poly xs q))

value-mul_poly : (xs : List ℤ) (p q : Poly) → value_of_poly xs (mul_poly p q) ≡ value_of_poly xs p *ℤ value_of_poly xs q
value-mul_poly xs nil q = sym (zero-*ℤ (value_of_poly xs q))
value-mul_poly xs (term c m p) q =
    value-add_poly xs (scale_poly c m q) (mul_poly p q)
    ∙ ap₂ (λ v w. v +ℤ w) (value-scale_poly xs c m q) (value-mul_poly xs p q)
    ∙ sym (+ℤ-*ℤ (c *ℤ value_of_mon xs m) (value_of_poly xs p) (value_of_poly xs q))

value-neg_poly : (xs : List ℤ) (p : Poly) → value_of_poly xs (neg_poly p) ≡ neg_ℤ (value_of_poly xs p)
value-neg_poly xs nil = refl
value-neg_poly xs (term c m p) =
    ap₂ (λ v w. v +ℤ w) (neg_ℤ-*ℤ c (value_of_mon xs m)) (value-neg_poly xs p)
    ∙ sym (neg_ℤ-+ℤ (c *ℤ value_of_mon xs m) (value_of_poly xs p))

var_is : (x : ℤ) → pos 1 *ℤ (x *ℤ pos 1) +ℤ pos 0 ≡ x
var_is x = omega (arith, ints)

num_is : (c : ℤ) → c *ℤ pos 1 +ℤ pos 0 ≡ c
num_is c = omega (arith, ints)

value-norm : (xs : List ℤ) (e : Expr) → value_of_poly xs (norm e) ≡ eval xs e
value-norm xs (var i) = var_is (nth xs i)
value-norm xs (lit n) = value-cons_term xs (pos n) unit nil ∙ num_is (pos n)
value-norm xs (e ⊕ f) = value-add_poly xs (norm e) (norm f) ∙ ap₂ (λ v w. v +ℤ w) (value-norm xs e) (value-norm xs f)
value-norm xs (e ⊗ f) = value-mul_poly xs (norm e) (norm f) ∙ ap₂ (λ v w. v *ℤ w) (value-norm xs e) (value-norm xs f)
value-norm xs (neg e) = value-neg_poly xs (norm e) ∙ ap neg_ℤ (value-norm xs e)

nil_is : (p : Poly) → T (is_nil p) → p ≡ nil
nil_is nil t = refl
nil_is (term c m p) t = absurd t

equal_of_difference : (a b : ℤ) → pos 0 ≡ a -ℤ b → a ≡ b
equal_of_difference a b e = omega (arith, ints)

-- the two sides are one polynomial
abbrev pub Same : Expr → Expr → Type 0
Same e f = T (is_nil (norm (e ⊖ f)))

-- expressions that are one polynomial mean the same at all numbers
pub ring : (xs : List ℤ) (e f : Expr) → Same e f → eval xs e ≡ eval xs f
ring xs e f t =
    equal_of_difference (eval xs e) (eval xs f) (ap (value_of_poly xs) (sym (nil_is (norm (e ⊖ f)) t)) ∙ value-norm xs (e ⊖ f))
