-- The cone lemma: where X and Y are linear forms, at least 0 at two directions, and X Y ≥ m |d|² holds at both, it holds at each direction between them.
use Rattle.std.proofs.Common.{ℤ, pos, ◌+ℤ◌, ◌-ℤ◌, ◌*ℤ◌, ◌≤ℤ◌, ◌<ℤ◌, [], ◌∷◌, arith}
use Rattle.std.proofs.lemmas.Int.{ints}
use Rattle.integers.proofs.Identities.{den-ring, read, polys, lits}
use Rattle.integers.proofs.Order.{nonneg_mul, nonneg_add, square_nonneg, positive_mul, positive_add, le_by, lt_by, mul_le_both, mul_le_left, le_of_square_le, le_from_lt, nonneg_difference, positive_difference}
use Rattle.integers.proofs.Lagrange.{cauchy_schwarz_plane}

-- with n1 = |d1|², n2 = |d2|² and p = d1 · d2: (X1 Y2 + X2 Y1)² - (2 m p)² is a sum of terms that are at least 0
mixed_term : (X1 Y1 X2 Y2 m n1 n2 p : ℤ) → pos 0 ≤ℤ X1 → pos 0 ≤ℤ Y1 → pos 0 ≤ℤ X2 → pos 0 ≤ℤ Y2 → pos 0 ≤ℤ m → pos 0 ≤ℤ n1 → pos 0 ≤ℤ n2 → (p *ℤ p) ≤ℤ (n1 *ℤ n2) → (m *ℤ n1) ≤ℤ (X1 *ℤ Y1) → (m *ℤ n2) ≤ℤ (X2 *ℤ Y2) → (pos 2 *ℤ (m *ℤ p)) ≤ℤ (X1 *ℤ Y2 +ℤ X2 *ℤ Y1)
mixed_term X1 Y1 X2 Y2 m n1 n2 p x1 y1 x2 y2 hm hn1 hn2 hp h1 h2 =
    let product : (m *ℤ n1 *ℤ (m *ℤ n2)) ≤ℤ (X1 *ℤ Y1 *ℤ (X2 *ℤ Y2)) = mul_le_both (nonneg_mul hm hn1) (nonneg_mul hm hn2) h1 h2 in
    let dot : (m *ℤ m *ℤ (p *ℤ p)) ≤ℤ (m *ℤ m *ℤ (n1 *ℤ n2)) = mul_le_left (m *ℤ m) (square_nonneg m) hp in
    le_of_square_le (nonneg_add (nonneg_mul x1 y2) (nonneg_mul x2 y1))
    (le_by
    (nonneg_add (square_nonneg (X1 *ℤ Y2 -ℤ X2 *ℤ Y1)) (nonneg_mul {a = pos 4} (omega (arith, ints)) (nonneg_add (nonneg_difference product) (nonneg_difference dot))))
    (read (X1 ∷ Y1 ∷ X2 ∷ Y2 ∷ m ∷ n1 ∷ n2 ∷ p ∷ []) (λ xs a b c d e f g h. simp (a, b, c, d, e, f, g, h, polys, lits xs) (den-ring xs _ _ tt))))

-- X and Y have the values X1 and Y1 at (x1, y1), and X2 and Y2 at (x2, y2), so s X1 + t X2 and s Y1 + t Y2 at the direction between
pub cone : (x1 y1 x2 y2 X1 Y1 X2 Y2 m s t : ℤ) → pos 0 ≤ℤ X1 → pos 0 ≤ℤ Y1 → pos 0 ≤ℤ X2 → pos 0 ≤ℤ Y2 → pos 0 ≤ℤ m → pos 0 ≤ℤ s → pos 0 ≤ℤ t
    → (m *ℤ (x1 *ℤ x1 +ℤ y1 *ℤ y1)) ≤ℤ (X1 *ℤ Y1)
    → (m *ℤ (x2 *ℤ x2 +ℤ y2 *ℤ y2)) ≤ℤ (X2 *ℤ Y2)
    → (m *ℤ ((s *ℤ x1 +ℤ t *ℤ x2) *ℤ (s *ℤ x1 +ℤ t *ℤ x2) +ℤ (s *ℤ y1 +ℤ t *ℤ y2) *ℤ (s *ℤ y1 +ℤ t *ℤ y2))) ≤ℤ ((s *ℤ X1 +ℤ t *ℤ X2) *ℤ (s *ℤ Y1 +ℤ t *ℤ Y2))
cone x1 y1 x2 y2 X1 Y1 X2 Y2 m s t hX1 hY1 hX2 hY2 hm hs ht h1 h2 =
    let middle = mixed_term X1 Y1 X2 Y2 m (x1 *ℤ x1 +ℤ y1 *ℤ y1) (x2 *ℤ x2 +ℤ y2 *ℤ y2) (x1 *ℤ x2 +ℤ y1 *ℤ y2) hX1 hY1 hX2 hY2 hm (nonneg_add (square_nonneg x1) (square_nonneg y1)) (nonneg_add (square_nonneg x2) (square_nonneg y2)) (cauchy_schwarz_plane x1 y1 x2 y2) h1 h2 in
    le_by
    (nonneg_add (nonneg_add (nonneg_mul (square_nonneg s) (nonneg_difference h1)) (nonneg_mul (square_nonneg t) (nonneg_difference h2))) (nonneg_mul (nonneg_mul hs ht) (nonneg_difference middle)))
    (read (x1 ∷ y1 ∷ x2 ∷ y2 ∷ X1 ∷ Y1 ∷ X2 ∷ Y2 ∷ m ∷ s ∷ t ∷ []) (λ xs a b c d e f g h i j k. simp (a, b, c, d, e, f, g, h, i, j, k, polys, lits xs) (den-ring xs _ _ tt)))

-- where X Y is above m |d|² at the first direction, it is so at each direction between them but the second
pub cone_above : (x1 y1 x2 y2 X1 Y1 X2 Y2 m s t : ℤ) → pos 0 ≤ℤ X1 → pos 0 ≤ℤ Y1 → pos 0 ≤ℤ X2 → pos 0 ≤ℤ Y2 → pos 0 ≤ℤ m → pos 0 <ℤ s → pos 0 ≤ℤ t
    → (m *ℤ (x1 *ℤ x1 +ℤ y1 *ℤ y1)) <ℤ (X1 *ℤ Y1)
    → (m *ℤ (x2 *ℤ x2 +ℤ y2 *ℤ y2)) ≤ℤ (X2 *ℤ Y2)
    → (m *ℤ ((s *ℤ x1 +ℤ t *ℤ x2) *ℤ (s *ℤ x1 +ℤ t *ℤ x2) +ℤ (s *ℤ y1 +ℤ t *ℤ y2) *ℤ (s *ℤ y1 +ℤ t *ℤ y2))) <ℤ ((s *ℤ X1 +ℤ t *ℤ X2) *ℤ (s *ℤ Y1 +ℤ t *ℤ Y2))
cone_above x1 y1 x2 y2 X1 Y1 X2 Y2 m s t hX1 hY1 hX2 hY2 hm hs ht h1 h2 =
    let middle = mixed_term X1 Y1 X2 Y2 m (x1 *ℤ x1 +ℤ y1 *ℤ y1) (x2 *ℤ x2 +ℤ y2 *ℤ y2) (x1 *ℤ x2 +ℤ y1 *ℤ y2) hX1 hY1 hX2 hY2 hm (nonneg_add (square_nonneg x1) (square_nonneg y1)) (nonneg_add (square_nonneg x2) (square_nonneg y2)) (cauchy_schwarz_plane x1 y1 x2 y2) (le_from_lt h1) h2 in
    lt_by
    (positive_add (positive_mul (positive_mul hs hs) (positive_difference h1)) (nonneg_add (nonneg_mul (square_nonneg t) (nonneg_difference h2)) (nonneg_mul (nonneg_mul (le_from_lt hs) ht) (nonneg_difference middle))))
    (read (x1 ∷ y1 ∷ x2 ∷ y2 ∷ X1 ∷ Y1 ∷ X2 ∷ Y2 ∷ m ∷ s ∷ t ∷ []) (λ xs a b c d e f g h i j k. simp (a, b, c, d, e, f, g, h, i, j, k, polys, lits xs) (den-ring xs _ _ tt)))

-- with the linear forms X = a x + b y and Y = e x + f y written out
pub cone_of_forms : (a b e f x1 y1 x2 y2 m s t : ℤ)
    → pos 0 ≤ℤ (a *ℤ x1 +ℤ b *ℤ y1) → pos 0 ≤ℤ (e *ℤ x1 +ℤ f *ℤ y1) → pos 0 ≤ℤ (a *ℤ x2 +ℤ b *ℤ y2) → pos 0 ≤ℤ (e *ℤ x2 +ℤ f *ℤ y2)
    → pos 0 ≤ℤ m → pos 0 ≤ℤ s → pos 0 ≤ℤ t
    → (m *ℤ (x1 *ℤ x1 +ℤ y1 *ℤ y1)) ≤ℤ ((a *ℤ x1 +ℤ b *ℤ y1) *ℤ (e *ℤ x1 +ℤ f *ℤ y1))
    → (m *ℤ (x2 *ℤ x2 +ℤ y2 *ℤ y2)) ≤ℤ ((a *ℤ x2 +ℤ b *ℤ y2) *ℤ (e *ℤ x2 +ℤ f *ℤ y2))
    → (m *ℤ ((s *ℤ x1 +ℤ t *ℤ x2) *ℤ (s *ℤ x1 +ℤ t *ℤ x2) +ℤ (s *ℤ y1 +ℤ t *ℤ y2) *ℤ (s *ℤ y1 +ℤ t *ℤ y2))) ≤ℤ ((a *ℤ (s *ℤ x1 +ℤ t *ℤ x2) +ℤ b *ℤ (s *ℤ y1 +ℤ t *ℤ y2)) *ℤ (e *ℤ (s *ℤ x1 +ℤ t *ℤ x2) +ℤ f *ℤ (s *ℤ y1 +ℤ t *ℤ y2)))
cone_of_forms a b e f x1 y1 x2 y2 m s t hX1 hY1 hX2 hY2 hm hs ht h1 h2 =
    le_by (nonneg_difference (cone x1 y1 x2 y2 (a *ℤ x1 +ℤ b *ℤ y1) (e *ℤ x1 +ℤ f *ℤ y1) (a *ℤ x2 +ℤ b *ℤ y2) (e *ℤ x2 +ℤ f *ℤ y2) m s t hX1 hY1 hX2 hY2 hm hs ht h1 h2))
    (read (a ∷ b ∷ e ∷ f ∷ x1 ∷ y1 ∷ x2 ∷ y2 ∷ m ∷ s ∷ t ∷ []) (λ xs a b c d e f g h i j k. simp (a, b, c, d, e, f, g, h, i, j, k, polys) (den-ring xs _ _ tt)))
