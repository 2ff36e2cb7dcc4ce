-- Cramer's rule for two and three linear equations: what the unknowns are, times the determinant.
use Rattle.std.proofs.Common.{◌≡◌, ℤ, ◌+ℤ◌, ◌*ℤ◌, neg_ℤ, [], ◌∷◌}
use Rattle.integers.specs.Determinants.{det2, det3}
use Rattle.integers.proofs.Identities.{den-ring, read, polys}
use Rattle.integers.proofs.Order.{combine2, combine3}

-- ---- two unknowns: a x + b y = p and c x + d y = q

-- the first unknown, times the determinant
pub cramer2_x : (a b c d x y p q : ℤ) → a *ℤ x +ℤ b *ℤ y ≡ p → c *ℤ x +ℤ d *ℤ y ≡ q → det2 a b c d *ℤ x ≡ det2 p b q d
cramer2_x a b c d x y p q h k = combine2 d (neg_ℤ b) h k (read (a ∷ b ∷ c ∷ d ∷ x ∷ y ∷ p ∷ q ∷ []) (λ xs a b c d e f g h. simp (a, b, c, d, e, f, g, h, polys) (den-ring xs _ _ tt)))

-- the second unknown, times the determinant
pub cramer2_y : (a b c d x y p q : ℤ) → a *ℤ x +ℤ b *ℤ y ≡ p → c *ℤ x +ℤ d *ℤ y ≡ q → det2 a b c d *ℤ y ≡ det2 a p c q
cramer2_y a b c d x y p q h k = combine2 (neg_ℤ c) a h k (read (a ∷ b ∷ c ∷ d ∷ x ∷ y ∷ p ∷ q ∷ []) (λ xs a b c d e f g h. simp (a, b, c, d, e, f, g, h, polys) (den-ring xs _ _ tt)))

-- ---- three unknowns: the rows (ax, ay, az), (bx, by, bz), (cx, cy, cz) times (x, y, z) are p, q and r

-- the first unknown, times the determinant
pub cramer3_x : (ax ay az bx by bz cx cy cz x y z p q r : ℤ) → ax *ℤ x +ℤ ay *ℤ y +ℤ az *ℤ z ≡ p → bx *ℤ x +ℤ by *ℤ y +ℤ bz *ℤ z ≡ q → cx *ℤ x +ℤ cy *ℤ y +ℤ cz *ℤ z ≡ r → det3 ax ay az bx by bz cx cy cz *ℤ x ≡ det3 p ay az q by bz r cy cz
cramer3_x ax ay az bx by bz cx cy cz x y z p q r h k l =
    combine3 (det2 by bz cy cz) (neg_ℤ (det2 ay az cy cz)) (det2 ay az by bz) h k l
    (read (ax ∷ ay ∷ az ∷ bx ∷ by ∷ bz ∷ cx ∷ cy ∷ cz ∷ x ∷ y ∷ z ∷ p ∷ q ∷ r ∷ []) (λ xs a b c d e f g h i j k l m n o. simp (a, b, c, d, e, f, g, h, i, j, k, l, m, n, o, polys) (den-ring xs _ _ tt)))

-- the second unknown, times the determinant
pub cramer3_y : (ax ay az bx by bz cx cy cz x y z p q r : ℤ) → ax *ℤ x +ℤ ay *ℤ y +ℤ az *ℤ z ≡ p → bx *ℤ x +ℤ by *ℤ y +ℤ bz *ℤ z ≡ q → cx *ℤ x +ℤ cy *ℤ y +ℤ cz *ℤ z ≡ r → det3 ax ay az bx by bz cx cy cz *ℤ y ≡ det3 ax p az bx q bz cx r cz
cramer3_y ax ay az bx by bz cx cy cz x y z p q r h k l =
    combine3 (neg_ℤ (det2 bx bz cx cz)) (det2 ax az cx cz) (neg_ℤ (det2 ax az bx bz)) h k l
    (read (ax ∷ ay ∷ az ∷ bx ∷ by ∷ bz ∷ cx ∷ cy ∷ cz ∷ x ∷ y ∷ z ∷ p ∷ q ∷ r ∷ []) (λ xs a b c d e f g h i j k l m n o. simp (a, b, c, d, e, f, g, h, i, j, k, l, m, n, o, polys) (den-ring xs _ _ tt)))

-- the third unknown, times the determinant
pub cramer3_z : (ax ay az bx by bz cx cy cz x y z p q r : ℤ) → ax *ℤ x +ℤ ay *ℤ y +ℤ az *ℤ z ≡ p → bx *ℤ x +ℤ by *ℤ y +ℤ bz *ℤ z ≡ q → cx *ℤ x +ℤ cy *ℤ y +ℤ cz *ℤ z ≡ r → det3 ax ay az bx by bz cx cy cz *ℤ z ≡ det3 ax ay p bx by q cx cy r
cramer3_z ax ay az bx by bz cx cy cz x y z p q r h k l =
    combine3 (det2 bx by cx cy) (neg_ℤ (det2 ax ay cx cy)) (det2 ax ay bx by) h k l
    (read (ax ∷ ay ∷ az ∷ bx ∷ by ∷ bz ∷ cx ∷ cy ∷ cz ∷ x ∷ y ∷ z ∷ p ∷ q ∷ r ∷ []) (λ xs a b c d e f g h i j k l m n o. simp (a, b, c, d, e, f, g, h, i, j, k, l, m, n, o, polys) (den-ring xs _ _ tt)))
