-- Identities of points and vectors in the plane and in space.
use Rattle.std.specs.Prelude.{◌≡◌, ℕ, ℤ, pos, ◌+ℤ◌, ◌-ℤ◌, ◌*ℤ◌, ◌≤ℤ◌, List}
use Rattle.integers.specs.Total.{total}
use Rattle.integers.specs.Determinants.{det2, det3, square2, square3, turn, volume, in_circle, in_sphere}
use Rattle.integers.specs.Moments.{moment, second_moment2, second_moment3, distances2, distances3}

-- the product of two squared lengths is the square of the dot product and that of the cross product
abbrev pub Lagrange : Type 0
Lagrange = (ux uy vx vy : ℤ) → square2 ux uy *ℤ square2 vx vy ≡ (ux *ℤ vx +ℤ uy *ℤ vy) *ℤ (ux *ℤ vx +ℤ uy *ℤ vy) +ℤ det2 ux uy vx vy *ℤ det2 ux uy vx vy

-- the square of a dot product is at most the product of the squared lengths
abbrev pub CauchySchwarz : Type 0
CauchySchwarz = (ux uy uz vx vy vz : ℤ) → ((ux *ℤ vx +ℤ uy *ℤ vy +ℤ uz *ℤ vz) *ℤ (ux *ℤ vx +ℤ uy *ℤ vy +ℤ uz *ℤ vz)) ≤ℤ (square3 ux uy uz *ℤ square3 vx vy vz)

-- the total weight times the squared distances from (p, q) / k, by the centre of mass
abbrev pub ParallelAxisInPlane : Type 0
ParallelAxisInPlane = (weight x y : ℕ → ℤ) (k p q : ℤ) (s : List ℕ)
    → total weight s *ℤ distances2 weight x y k p q s
    ≡ square2 (total weight s *ℤ p -ℤ k *ℤ moment weight x s) (total weight s *ℤ q -ℤ k *ℤ moment weight y s)
    +ℤ k *ℤ k *ℤ (total weight s *ℤ second_moment2 weight x y s -ℤ square2 (moment weight x s) (moment weight y s))

-- the total weight times the squared distances from (p, q, r) / k, by the centre of mass
abbrev pub ParallelAxisInSpace : Type 0
ParallelAxisInSpace = (weight x y z : ℕ → ℤ) (k p q r : ℤ) (s : List ℕ)
    → total weight s *ℤ distances3 weight x y z k p q r s
    ≡ square3 (total weight s *ℤ p -ℤ k *ℤ moment weight x s) (total weight s *ℤ q -ℤ k *ℤ moment weight y s) (total weight s *ℤ r -ℤ k *ℤ moment weight z s)
    +ℤ k *ℤ k *ℤ (total weight s *ℤ second_moment3 weight x y z s -ℤ square3 (moment weight x s) (moment weight y s) (moment weight z s))

-- linear forms X = a x + b y and Y = e x + f y with X Y ≥ m |d|² at (x1, y1) and (x2, y2) have it at s (x1, y1) + t (x2, y2)
abbrev pub Cone : Type 0
Cone = (a b e f x1 y1 x2 y2 m s t : ℤ)
    → pos 0 ≤ℤ (a *ℤ x1 +ℤ b *ℤ y1) → pos 0 ≤ℤ (e *ℤ x1 +ℤ f *ℤ y1) → pos 0 ≤ℤ (a *ℤ x2 +ℤ b *ℤ y2) → pos 0 ≤ℤ (e *ℤ x2 +ℤ f *ℤ y2)
    → pos 0 ≤ℤ m → pos 0 ≤ℤ s → pos 0 ≤ℤ t
    → (m *ℤ square2 x1 y1) ≤ℤ ((a *ℤ x1 +ℤ b *ℤ y1) *ℤ (e *ℤ x1 +ℤ f *ℤ y1))
    → (m *ℤ square2 x2 y2) ≤ℤ ((a *ℤ x2 +ℤ b *ℤ y2) *ℤ (e *ℤ x2 +ℤ f *ℤ y2))
    → (m *ℤ square2 (s *ℤ x1 +ℤ t *ℤ x2) (s *ℤ y1 +ℤ t *ℤ y2)) ≤ℤ ((a *ℤ (s *ℤ x1 +ℤ t *ℤ x2) +ℤ b *ℤ (s *ℤ y1 +ℤ t *ℤ y2)) *ℤ (e *ℤ (s *ℤ x1 +ℤ t *ℤ x2) +ℤ f *ℤ (s *ℤ y1 +ℤ t *ℤ y2)))

-- the in-circle determinant is the sum of each point's square times the area of the other three, with signs
abbrev pub InCircleIsSum : Type 0
InCircleIsSum = (ax ay bx by cx cy dx dy : ℤ)
    → in_circle ax ay bx by cx cy dx dy
    ≡ square2 ax ay *ℤ turn bx by cx cy dx dy
    -ℤ square2 bx by *ℤ turn ax ay cx cy dx dy
    +ℤ square2 cx cy *ℤ turn ax ay bx by dx dy
    -ℤ square2 dx dy *ℤ turn ax ay bx by cx cy

-- the in-sphere determinant is the sum of each point's square times the volume of the other four, with signs
abbrev pub InSphereIsSum : Type 0
InSphereIsSum = (ax ay az bx by bz cx cy cz dx dy dz ex ey ez : ℤ)
    → in_sphere ax ay az bx by bz cx cy cz dx dy dz ex ey ez
    ≡ square3 ex ey ez *ℤ volume ax ay az bx by bz cx cy cz dx dy dz
    -ℤ square3 dx dy dz *ℤ volume ax ay az bx by bz cx cy cz ex ey ez
    +ℤ square3 cx cy cz *ℤ volume ax ay az bx by bz dx dy dz ex ey ez
    -ℤ square3 bx by bz *ℤ volume ax ay az cx cy cz dx dy dz ex ey ez
    +ℤ square3 ax ay az *ℤ volume bx by bz cx cy cz dx dy dz ex ey ez

-- the solution of a x + b y = p and c x + d y = q, times the determinant
abbrev pub CramerOfTwo : Type 0
CramerOfTwo = (a b c d x y p q : ℤ) → a *ℤ x +ℤ b *ℤ y ≡ p → c *ℤ x +ℤ d *ℤ y ≡ q → (det2 a b c d *ℤ x ≡ det2 p b q d) × (det2 a b c d *ℤ y ≡ det2 a p c q)

-- the solution of three equations, times the determinant
abbrev pub CramerOfThree : Type 0
CramerOfThree = (ax ay az bx by bz cx cy cz x y z p q r : ℤ) → ax *ℤ x +ℤ ay *ℤ y +ℤ az *ℤ z ≡ p → bx *ℤ x +ℤ by *ℤ y +ℤ bz *ℤ z ≡ q → cx *ℤ x +ℤ cy *ℤ y +ℤ cz *ℤ z ≡ r
    → (det3 ax ay az bx by bz cx cy cz *ℤ x ≡ det3 p ay az q by bz r cy cz)
    × (det3 ax ay az bx by bz cx cy cz *ℤ y ≡ det3 ax p az bx q bz cx r cz)
    × (det3 ax ay az bx by bz cx cy cz *ℤ z ≡ det3 ax ay p bx by q cx cy r)
