-- The values of weightings by their sums, over plain variables.
--
-- Of one weighting M is the sum of the weights, Q the second moment and W the squared length of the moment; of another N, R and U are
-- the same, and A is the product of the moments. g is 1 for balls and 0 for distances, so that g M Q - W is the value times M².
use Rattle.std.proofs.Common.{◌≡◌, subst, ℤ, suc, pos, negsuc, ◌+ℤ◌, ◌-ℤ◌, ◌*ℤ◌, neg_ℤ, ◌≤ℤ◌, ◌<ℤ◌, arith, [], ◌∷◌}
use Rattle.std.proofs.lemmas.Int.{ints}
use Rattle.integers.proofs.Identities.{den-ring, read, polys, lits, below_lits}
use Rattle.integers.proofs.Order.{nonneg_mul, nonneg_add, positive_add, square_nonneg, le_from_lt, nonneg_difference, positive_difference, at_least_one, mul_le_both, le_by, lt_by, le_of_mul_le, combine1, combine2, nonneg_from_one}
use Rattle.bounds_model.specs.Space.{SpacePoint, plus, times, dot, squared_length}

-- ---- squared lengths of sums

-- the squared length of k a + l b
pub squared_length-blend : (k l : ℤ) (a b : SpacePoint) → squared_length (plus (times k a) (times l b)) ≡ k *ℤ k *ℤ squared_length a +ℤ pos 2 *ℤ (k *ℤ l *ℤ dot a b) +ℤ l *ℤ l *ℤ squared_length b
squared_length-blend k l a b =
    read (k ∷ l ∷ a.x ∷ a.y ∷ a.z ∷ b.x ∷ b.y ∷ b.z ∷ []) (λ xs p q r s t u v w. simp (p, q, r, s, t, u, v, w, polys, lits xs) (den-ring xs _ _ tt))

-- that of k a - l b is at least 0
pub spread_nonneg : (k l : ℤ) (a b : SpacePoint) → pos 0 ≤ℤ (k *ℤ k *ℤ squared_length a -ℤ pos 2 *ℤ (k *ℤ l *ℤ dot a b) +ℤ l *ℤ l *ℤ squared_length b)
spread_nonneg k l a b =
    subst (λ v. pos 0 ≤ℤ v)
    (read (k ∷ l ∷ a.x ∷ a.y ∷ a.z ∷ b.x ∷ b.y ∷ b.z ∷ []) (λ xs p q r s t u v w. simp (p, q, r, s, t, u, v, w, polys, lits xs) (den-ring xs _ _ tt)))
    (nonneg_add (nonneg_add (square_nonneg (k *ℤ a.x -ℤ l *ℤ b.x)) (square_nonneg (k *ℤ a.y -ℤ l *ℤ b.y))) (square_nonneg (k *ℤ a.z -ℤ l *ℤ b.z)))

-- ---- where nothing is low

-- a weighting with one slack p has no less value than one whose mean slack under it is at least p
pub level_is_best : (g M Q W N R U A p : ℤ) → pos 0 <ℤ M → pos 0 <ℤ N
    → M *ℤ p ≡ pos 2 *ℤ W -ℤ g *ℤ (M *ℤ Q)
    → (N *ℤ p) ≤ℤ (pos 2 *ℤ A -ℤ g *ℤ (M *ℤ R))
    → pos 0 ≤ℤ (M *ℤ M *ℤ U -ℤ pos 2 *ℤ (M *ℤ N *ℤ A) +ℤ N *ℤ N *ℤ W)
    → ((g *ℤ (N *ℤ R) -ℤ U) *ℤ (M *ℤ M)) ≤ℤ ((g *ℤ (M *ℤ Q) -ℤ W) *ℤ (N *ℤ N))
level_is_best g M Q W N R U A p hM hN level mean spread =
    le_by (nonneg_add spread (nonneg_mul (nonneg_mul (le_from_lt hN) (le_from_lt hM)) (nonneg_difference mean)))
    (combine1 (N *ℤ N) level (read (g ∷ M ∷ Q ∷ W ∷ N ∷ R ∷ U ∷ A ∷ p ∷ []) (λ xs a b c d e f h i j. simp (a, b, c, d, e, f, h, i, j, polys, lits xs) (den-ring xs _ _ tt))))

-- ---- along a line of weightings

-- the value of k u + l w is no less than that of u, where w has the slack p at its own vectors and at those of u
pub towards_is_no_less : (g M Q W N R U A p k l : ℤ) → pos 0 <ℤ M → pos 0 <ℤ N → pos 0 ≤ℤ k → pos 0 ≤ℤ l
    → M *ℤ p ≡ pos 2 *ℤ W -ℤ g *ℤ (M *ℤ Q)
    → N *ℤ p ≡ pos 2 *ℤ A -ℤ g *ℤ (M *ℤ R)
    → ((g *ℤ (N *ℤ R) -ℤ U) *ℤ (M *ℤ M)) ≤ℤ ((g *ℤ (M *ℤ Q) -ℤ W) *ℤ (N *ℤ N))
    → ((g *ℤ (N *ℤ R) -ℤ U) *ℤ ((k *ℤ N +ℤ l *ℤ M) *ℤ (k *ℤ N +ℤ l *ℤ M))) ≤ℤ ((g *ℤ ((k *ℤ N +ℤ l *ℤ M) *ℤ (k *ℤ R +ℤ l *ℤ Q)) -ℤ (k *ℤ k *ℤ U +ℤ pos 2 *ℤ (k *ℤ l *ℤ A) +ℤ l *ℤ l *ℤ W)) *ℤ (N *ℤ N))
towards_is_no_less g M Q W N R U A p k l hM hN hk hl level mean best =
    le_of_mul_le M hM
    (le_by
    (nonneg_mul
    (nonneg_add (nonneg_mul (two k hk) (nonneg_mul hl (le_from_lt hN))) (nonneg_mul (nonneg_mul hl hl) (le_from_lt hM)))
    (nonneg_difference best))
    (combine2 (neg_ℤ (k *ℤ l *ℤ N *ℤ N *ℤ N)) (k *ℤ l *ℤ N *ℤ N *ℤ M) level mean
    (read (g ∷ M ∷ Q ∷ W ∷ N ∷ R ∷ U ∷ A ∷ p ∷ k ∷ l ∷ []) (λ xs a b c d e f h i j m n. simp (a, b, c, d, e, f, h, i, j, m, n, polys, lits xs) (den-ring xs _ _ tt)))))
  where
    two : (k : ℤ) → pos 0 ≤ℤ k → pos 0 ≤ℤ (k +ℤ k)
    two k h = omega (arith, ints)

-- the value of k u + l n is no less than that of u, where n has mass and moment 0, and the second moment T
pub along_is_no_less : (g N R U T k l : ℤ) → pos 0 <ℤ N → pos 0 ≤ℤ k → pos 0 ≤ℤ l → pos 0 ≤ℤ (g *ℤ T)
    → ((g *ℤ (N *ℤ R) -ℤ U) *ℤ ((k *ℤ N) *ℤ (k *ℤ N))) ≤ℤ ((g *ℤ ((k *ℤ N) *ℤ (k *ℤ R +ℤ l *ℤ T)) -ℤ k *ℤ k *ℤ U) *ℤ (N *ℤ N))
along_is_no_less g N R U T k l hN hk hl side =
    let n = le_from_lt hN in
    le_by (nonneg_mul (nonneg_mul (nonneg_mul hk hl) (nonneg_mul n (nonneg_mul n n))) side)
    (read (g ∷ N ∷ R ∷ U ∷ T ∷ k ∷ l ∷ []) (λ xs a b c d e f h. simp (a, b, c, d, e, f, h, polys) (den-ring xs _ _ tt)))

-- ---- a step towards a low vector

-- a number that outweighs what may be below 0
pub outweighs : (x : ℤ) → (k : ℤ) × (pos 1 ≤ℤ k) × (pos 0 <ℤ (k +ℤ x))
outweighs (pos n) = (pos 1, omega (arith, ints), omega (arith, ints))
outweighs (negsuc n) = (pos (suc (suc n)), omega (arith, ints), omega (arith, ints))

-- the value of k w and one vector more, of squared length Y, is greater than that of w, where the vector's slack q is below p
pub step_raises : (g M Q W A Y p q k : ℤ) → pos 0 <ℤ M → pos 1 ≤ℤ k
    → M *ℤ p ≡ pos 2 *ℤ W -ℤ g *ℤ (M *ℤ Q)
    → q ≡ pos 2 *ℤ A -ℤ g *ℤ (M *ℤ Y)
    → q <ℤ p
    → pos 0 <ℤ (k +ℤ ((g -ℤ pos 1) *ℤ Y *ℤ (M *ℤ M) -ℤ (g *ℤ (M *ℤ Q) -ℤ W)))
    → ((g *ℤ (M *ℤ Q) -ℤ W) *ℤ ((pos 1 +ℤ k *ℤ M) *ℤ (pos 1 +ℤ k *ℤ M))) <ℤ ((g *ℤ ((pos 1 +ℤ k *ℤ M) *ℤ (Y +ℤ k *ℤ Q)) -ℤ (Y +ℤ pos 2 *ℤ (k *ℤ A) +ℤ k *ℤ k *ℤ W)) *ℤ (M *ℤ M))
step_raises g M Q W A Y p q k hM hk level is low large =
    let one = at_least_one hM in
    let ones = mul_le_both unit unit one one in
    let apart = at_least_one (positive_difference low) in
    let all : (pos 1 *ℤ pos 1 *ℤ pos 1) ≤ℤ (M *ℤ M *ℤ (p -ℤ q)) = mul_le_both unit unit ones apart in
    lt_by (positive_add large (nonneg_mul (nonneg_from_one hk) (nonneg_difference all)))
    (combine2 (neg_ℤ (k *ℤ M)) (k *ℤ M *ℤ M) level is
    (read (g ∷ M ∷ Q ∷ W ∷ A ∷ Y ∷ p ∷ q ∷ k ∷ []) (λ xs a b c d e f h i j. simp (a, b, c, d, e, f, h, i, j, polys, lits xs, below_lits xs) (den-ring xs _ _ tt))))
  where
    unit : pos 0 ≤ℤ pos 1
    unit = omega (arith, ints)
