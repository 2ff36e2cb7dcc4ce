-- The order of `ℤ` with products.
--
-- To show A ≤ B, name a D that is at least 0 and equals B - A: `le_by (why D is at least 0) (read ..)`, where `read` (Identities)
-- sees that B - A is D, and `nonneg_mul`, `nonneg_add`, `square_nonneg` and `nonneg_difference` say why D is at least 0.
use Rattle.std.proofs.Common.{◌≡◌, refl, sym, ◌∙◌, ap, ◌*◌, ◌<◌, ◌⊎◌, inl, inr, ℤ, zero, suc, pos, negsuc, ◌+ℤ◌, ◌-ℤ◌, ◌*ℤ◌, neg_ℤ, ◌≤ℤ◌, ◌<ℤ◌, arith, [], ◌∷◌, mul-pos, true, false, not}
use Rattle.std.proofs.lemmas.Int.{ints, by_lt_z}
use Rattle.std.specs.Int.Signed.{lt_z, lt_z_yes, lt_z_no}
use Rattle.std.proofs.lemmas.Float.{T_from_true}
use lib.Signed.{<ℤ_irrefl}
use Rattle.integers.proofs.Identities.{den-ring, read, polys, lits}

-- ---- signs of products

-- a product of numbers that are at least 0 is
pub nonneg_mul : {a b : ℤ} → pos 0 ≤ℤ a → pos 0 ≤ℤ b → pos 0 ≤ℤ (a *ℤ b)
nonneg_mul {a = pos a} {b = pos b} h k = omega (arith, ints)
nonneg_mul {a = pos a} {b = negsuc b} h k = absurd k.le
nonneg_mul {a = negsuc a} h k = absurd h.le

-- a product of numbers above 0 is above 0
pub positive_mul : {a b : ℤ} → pos 0 <ℤ a → pos 0 <ℤ b → pos 0 <ℤ (a *ℤ b)
positive_mul {a = pos a} {b = pos b} h k = let p : 0 < a * b = mul-pos (omega (arith, ints)) (omega (arith, ints)) in omega (arith, ints)
positive_mul {a = pos a} {b = negsuc b} h k = absurd k.lt
positive_mul {a = negsuc a} h k = absurd h.lt

-- a square is at least 0
pub square_nonneg : (a : ℤ) → pos 0 ≤ℤ (a *ℤ a)
square_nonneg (pos a) = omega (arith, ints)
square_nonneg (negsuc a) = omega (arith, ints)

-- the square of a number that is not 0 is above 0
pub square_positive : (a : ℤ) → (a ≡ pos 0 → ⊥) → pos 0 <ℤ (a *ℤ a)
square_positive (pos zero) n = absurd (n refl)
square_positive (pos (suc a)) n = positive_mul {a = pos (suc a)} {b = pos (suc a)} (omega (arith, ints)) (omega (arith, ints))
square_positive (negsuc a) n = positive_mul {a = pos (suc a)} {b = pos (suc a)} (omega (arith, ints)) (omega (arith, ints))

-- a sum of numbers that are at least 0 is
pub nonneg_add : {a b : ℤ} → pos 0 ≤ℤ a → pos 0 ≤ℤ b → pos 0 ≤ℤ (a +ℤ b)
nonneg_add h k = omega (arith, ints)

-- a sum of a number above 0 and one that is at least 0 is above 0
pub positive_add : {a b : ℤ} → pos 0 <ℤ a → pos 0 ≤ℤ b → pos 0 <ℤ (a +ℤ b)
positive_add h k = omega (arith, ints)

-- a number of at least 1 is at least 0
pub nonneg_from_one : {a : ℤ} → pos 1 ≤ℤ a → pos 0 ≤ℤ a
nonneg_from_one h = omega (arith, ints)

-- the negative of a number that is at most 0 is at least 0
pub nonneg_neg : {a : ℤ} → a ≤ℤ pos 0 → pos 0 ≤ℤ neg_ℤ a
nonneg_neg h = omega (arith, ints)

-- a number above 0 is not 0
pub positive-not_zero : {a : ℤ} → pos 0 <ℤ a → a ≡ pos 0 → ⊥
positive-not_zero h e = omega (arith, ints)

-- a number above 0 is at least 1
pub at_least_one : {a : ℤ} → pos 0 <ℤ a → pos 1 ≤ℤ a
at_least_one h = omega (arith, ints)

-- a number of at least 1 is above 0
pub positive_from_one : {a : ℤ} → pos 1 ≤ℤ a → pos 0 <ℤ a
positive_from_one h = omega (arith, ints)

-- a product with a factor above 0 has the other's sign
pub nonneg_of_mul : {a : ℤ} (k : ℤ) → pos 0 <ℤ k → pos 0 ≤ℤ (k *ℤ a) → pos 0 ≤ℤ a
nonneg_of_mul {a} k h l =
    by_lt_z a (pos 0)
    (λ below. let p : pos 0 <ℤ (k *ℤ neg_ℤ a) = positive_mul h (omega (arith, ints)) in
    let e : k *ℤ neg_ℤ a ≡ neg_ℤ (k *ℤ a) = read (k ∷ a ∷ []) (λ xs p q. simp (p, q, polys) (den-ring xs _ _ tt)) in
    absurd (<ℤ_irrefl {a = pos 0} (omega (arith, ints))))
    (λ above. above)

-- and so has a product above 0 with a factor that is at least 0
pub positive_of_mul : {a : ℤ} (k : ℤ) → pos 0 ≤ℤ k → pos 0 <ℤ (k *ℤ a) → pos 0 <ℤ a
positive_of_mul {a} k h l =
    by_lt_z (pos 0) a
    (λ above. above)
    (λ below. let p : pos 0 ≤ℤ (k *ℤ neg_ℤ a) = nonneg_mul h (nonneg_neg below) in
    let e : k *ℤ neg_ℤ a ≡ neg_ℤ (k *ℤ a) = read (k ∷ a ∷ []) (λ xs p q. simp (p, q, polys) (den-ring xs _ _ tt)) in
    absurd (contrary p e l))
  where
    contrary : {x y : ℤ} → pos 0 ≤ℤ x → x ≡ neg_ℤ y → pos 0 <ℤ y → ⊥
    contrary h e l = omega (arith, ints)

-- ---- an order by the difference of its sides

-- a ≤ b, where b - a is at least 0
pub le_by : {a b d : ℤ} → pos 0 ≤ℤ d → b -ℤ a ≡ d → a ≤ℤ b
le_by h e = omega (arith, ints)

-- a < b, where b - a is above 0
pub lt_by : {a b d : ℤ} → pos 0 <ℤ d → b -ℤ a ≡ d → a <ℤ b
lt_by h e = omega (arith, ints)

-- the same where the difference stays as it is
pub le_from_difference : {a b : ℤ} → pos 0 ≤ℤ (b -ℤ a) → a ≤ℤ b
le_from_difference h = omega (arith, ints)

-- from a ≤ b, that b - a is at least 0
pub nonneg_difference : {a b : ℤ} → a ≤ℤ b → pos 0 ≤ℤ (b -ℤ a)
nonneg_difference h = omega (arith, ints)

-- from a < b, that b - a is above 0
pub positive_difference : {a b : ℤ} → a <ℤ b → pos 0 <ℤ (b -ℤ a)
positive_difference h = omega (arith, ints)

-- what is less is at most
pub le_from_lt : {a b : ℤ} → a <ℤ b → a ≤ℤ b
le_from_lt h = omega (arith, ints)

-- a chain of two orders
pub le_trans_ℤ : {a b c : ℤ} → a ≤ℤ b → b ≤ℤ c → a ≤ℤ c
le_trans_ℤ h k = omega (arith, ints)

-- and one of which the second is strict
pub le_lt_trans_ℤ : {a b c : ℤ} → a ≤ℤ b → b <ℤ c → a <ℤ c
le_lt_trans_ℤ h k = omega (arith, ints)

-- numbers in order both ways are equal
pub le_antisymm_ℤ : {a b : ℤ} → a ≤ℤ b → b ≤ℤ a → a ≡ b
le_antisymm_ℤ h k = omega (arith, ints)

-- equal numbers are in order
pub le_of_same : {a b : ℤ} → a ≡ b → a ≤ℤ b
le_of_same e = omega (arith, ints)

-- of two numbers one is at most the other
pub le_total_ℤ : (a b : ℤ) → (a ≤ℤ b) ⊎ (b ≤ℤ a)
le_total_ℤ a b = by_lt_z a b (λ h. inl (omega (arith, ints))) (λ h. inr h)

-- what code's test for below says where it passes
pub is_less : {a b : ℤ} → lt_z a b ≡ true → a <ℤ b
is_less {a} {b} e = lt_z_yes (T_from_true (lt_z a b) e)

-- and where it fails
pub is_not_less : {a b : ℤ} → lt_z a b ≡ false → b ≤ℤ a
is_not_less {a} {b} e = lt_z_no (T_from_true (not (lt_z a b)) (ap not e))

-- ---- monotone products

-- both sides times a number that is at least 0
pub mul_le_left : {a b : ℤ} (k : ℤ) → pos 0 ≤ℤ k → a ≤ℤ b → (k *ℤ a) ≤ℤ (k *ℤ b)
mul_le_left {a} {b} k h l =
    le_by (nonneg_mul h (nonneg_difference l)) (read (a ∷ b ∷ k ∷ []) (λ xs p q r. simp (p, q, r, polys) (den-ring xs _ _ tt)))

-- both sides times a number above 0
pub mul_lt_left : {a b : ℤ} (k : ℤ) → pos 0 <ℤ k → a <ℤ b → (k *ℤ a) <ℤ (k *ℤ b)
mul_lt_left {a} {b} k h l =
    lt_by (positive_mul h (positive_difference l)) (read (a ∷ b ∷ k ∷ []) (λ xs p q r. simp (p, q, r, polys) (den-ring xs _ _ tt)))

-- an order times an order
pub mul_le_both : {a b c d : ℤ} → pos 0 ≤ℤ a → pos 0 ≤ℤ c → a ≤ℤ b → c ≤ℤ d → (a *ℤ c) ≤ℤ (b *ℤ d)
mul_le_both {a} {b} {c} {d} ha hc l m =
    le_by
    (nonneg_add (nonneg_mul (nonneg_difference l) (le_trans_ℤ hc m)) (nonneg_mul ha (nonneg_difference m)))
    (read (a ∷ b ∷ c ∷ d ∷ []) (λ xs p q r s. simp (p, q, r, s, polys) (den-ring xs _ _ tt)))

-- ---- cancelling a factor

-- a factor above 0 on both sides of an order
pub le_of_mul_le : {a b : ℤ} (k : ℤ) → pos 0 <ℤ k → (k *ℤ a) ≤ℤ (k *ℤ b) → a ≤ℤ b
le_of_mul_le {a} {b} k h l =
    by_lt_z b a
    (λ below. let m : (k *ℤ b) <ℤ (k *ℤ a) = mul_lt_left k h below in absurd (<ℤ_irrefl {a = k *ℤ a} (omega (arith, ints))))
    (λ le. le)

-- a factor above 0 on both sides of a strict order
pub lt_of_mul_lt : {a b : ℤ} (k : ℤ) → pos 0 <ℤ k → (k *ℤ a) <ℤ (k *ℤ b) → a <ℤ b
lt_of_mul_lt {a} {b} k h l =
    by_lt_z a b
    (λ lt. lt)
    (λ above. let m : (k *ℤ b) ≤ℤ (k *ℤ a) = mul_le_left k (omega (arith, ints)) above in absurd (<ℤ_irrefl {a = k *ℤ a} (omega (arith, ints))))

-- a factor above 0 on both sides of an equation
pub same_of_mul : {a b : ℤ} (k : ℤ) → pos 0 <ℤ k → k *ℤ a ≡ k *ℤ b → a ≡ b
same_of_mul k h e = le_antisymm_ℤ (le_of_mul_le k h (le_of_same e)) (le_of_mul_le k h (le_of_same (sym e)))

-- ---- squares

-- a number whose square is at most that of b, which is at least 0, is at most b
pub le_of_square_le : {a b : ℤ} → pos 0 ≤ℤ b → (a *ℤ a) ≤ℤ (b *ℤ b) → a ≤ℤ b
le_of_square_le {a} {b} h l =
    by_lt_z b a
    (λ below. let p : pos 0 <ℤ ((a -ℤ b) *ℤ (a +ℤ b)) = positive_mul (positive_difference below) (omega (arith, ints)) in
    let q : (b *ℤ b) <ℤ (a *ℤ a) = lt_by p (read (a ∷ b ∷ []) (λ xs p q. simp (p, q, polys) (den-ring xs _ _ tt))) in
    absurd (<ℤ_irrefl {a = a *ℤ a} (omega (arith, ints))))
    (λ le. le)

-- a number whose square is at most 0 is 0
pub zero_of_square : (a : ℤ) → (a *ℤ a) ≤ℤ pos 0 → a ≡ pos 0
zero_of_square (pos zero) h = refl
zero_of_square (pos (suc n)) h = let p : pos 0 <ℤ (pos (suc n) *ℤ pos (suc n)) = square_positive (pos (suc n)) (λ e. absurd (cc)) in absurd (omega (arith, ints))
zero_of_square (negsuc n) h = let p : pos 0 <ℤ (negsuc n *ℤ negsuc n) = square_positive (negsuc n) (λ e. absurd (cc)) in absurd (omega (arith, ints))

-- ---- an equation by a linear combination of equations (the coefficients are written, the last premise is for `read`)

vanish : (c : ℤ) {p q : ℤ} → p ≡ q → c *ℤ (p -ℤ q) ≡ pos 0
vanish c {p} {q} h =
    ap (λ v. c *ℤ (v -ℤ q)) h ∙ read (q ∷ c ∷ []) (λ xs r s. simp (r, s, polys, lits xs) (den-ring xs _ _ tt))

-- a ≡ b from p ≡ q, where a - b is c times p - q
pub combine1 : {a b p q : ℤ} (c : ℤ) → p ≡ q → a -ℤ b ≡ c *ℤ (p -ℤ q) → a ≡ b
combine1 c h e = let v = vanish c h in omega (arith, ints)

-- from two equations
pub combine2 : {a b p q r s : ℤ} (c d : ℤ) → p ≡ q → r ≡ s → a -ℤ b ≡ c *ℤ (p -ℤ q) +ℤ d *ℤ (r -ℤ s) → a ≡ b
combine2 c d h k e = let v = vanish c h in let w = vanish d k in omega (arith, ints)

-- from three equations
pub combine3 : {a b p q r s t u : ℤ} (c d f : ℤ) → p ≡ q → r ≡ s → t ≡ u → a -ℤ b ≡ c *ℤ (p -ℤ q) +ℤ d *ℤ (r -ℤ s) +ℤ f *ℤ (t -ℤ u) → a ≡ b
combine3 c d f h k l e = let v = vanish c h in let w = vanish d k in let x = vanish f l in omega (arith, ints)
