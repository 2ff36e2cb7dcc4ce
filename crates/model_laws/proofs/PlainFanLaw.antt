-- A plain fan has few directions: each edge of the hull calls for one at most.
use Rattle.std.proofs.Common.{◌≡◌, ◌≢◌, sym, ◌∙◌, subst, ℕ, suc, ◌+◌, ◌-◌, ◌<◌, ◌≤◌, ℤ, pos, neg_ℤ, ◌+ℤ◌, ◌-ℤ◌, ◌*ℤ◌, ◌<ℤ◌, List, [], ◌∷◌, length, arith}
use mathlib.Core.Logic.{inl, inr}
use Rattle.std.specs.Prelude.{◌⊎◌, SomeIndex}
use Rattle.std.proofs.lemmas.Int.{ints}
use Rattle.integers.proofs.Identities.{den-ring, read, polys, lits}
use Rattle.integers.proofs.Order.{positive_mul, positive_add, le_from_lt}
use Rattle.bounds_model.specs.Plane.{PlanePoint, origin, point_at, dot, cross}
use Rattle.bounds_model.specs.Fans.{north}
use Rattle.bounds_model.specs.PlainFans.{edge, IsNormal, IsNormalOrParallel}
use Rattle.model_laws.specs.Laws.{PlainHalfFansAreFew, PlainQuarterFansAreFew}
use Rattle.model_laws.proofs.Pigeonhole.{pigeonhole}
use Rattle.model_laws.proofs.TurningUp.{ordered, parallel, across}
use Rattle.model_laws.proofs.SizeDenominators.{long_vector}

-- a direction to the left of another is not on one line with it
not_parallel : (u w : PlanePoint) → pos 0 <ℤ cross u w → cross u w ≡ pos 0 → ⊥
not_parallel u w h e = zero_above (cross u w) h e
  where
    zero_above : (z : ℤ) → pos 0 <ℤ z → z ≡ pos 0 → ⊥
    zero_above z h e = omega (arith, ints)

-- and not the same
not_same : (u w : PlanePoint) → pos 0 <ℤ cross u w → u ≡ w → ⊥
not_same u w h e = not_parallel u w h (subst (λ d. cross u d ≡ pos 0) e (no_cross u.x u.y))
  where
    no_cross : (x y : ℤ) → x *ℤ y -ℤ y *ℤ x ≡ pos 0
    no_cross x y = read (x ∷ y ∷ []) (λ xs a b. simp (a, b, lits xs, polys) (den-ring xs _ _ tt))

-- ---- over half a turn: the upward direction stands behind those of the edges

abbrev IsCalledFor : List PlanePoint → PlanePoint → Type 0
IsCalledFor corners d = (d ≡ north) ⊎ SomeIndex corners (λ i. IsNormal (edge corners i) d)

abbrev half_cone_in_range : (corners : List PlanePoint) (d : PlanePoint) → IsCalledFor corners d → ℕ
half_cone_in_range corners d (inl up) = length corners
half_cone_in_range corners d (inr s) = s.0

half_below : (corners : List PlanePoint) (d : PlanePoint) (h : IsCalledFor corners d) → half_cone_in_range corners d h < suc (length corners)
half_below corners d (inl up) = omega arith
half_below corners d (inr s) = let l : s.0 < length corners = s.1 in omega (arith, l)

one_normal : (e u w : PlanePoint) → pos 0 <ℤ cross u w → IsNormal e u → IsNormal e w → ⊥
one_normal e u w h a b = not_parallel u w h (parallel e.x e.y u.x u.y w.x w.y (long_vector e a.long) a.right_angle b.right_angle)

half_apart : (corners : List PlanePoint) (u w : PlanePoint) → pos 0 <ℤ cross u w → (a : IsCalledFor corners u) (b : IsCalledFor corners w)
    → half_cone_in_range corners u a ≡ half_cone_in_range corners w b → ⊥
half_apart corners u w h (inl a) (inl b) e = not_same u w h (a ∙ sym b)
half_apart corners u w h (inl a) (inr b) e = let l : b.0 < length corners = b.1 in absurd (omega (arith, l, e))
half_apart corners u w h (inr a) (inl b) e = let l : a.0 < length corners = a.1 in absurd (omega (arith, l, e))
half_apart corners u w h (inr a) (inr b) e = one_normal (edge corners b.0) u w h (subst (λ i. IsNormal (edge corners i) u) e a.2) b.2

pub half_is_few : PlainHalfFansAreFew
half_is_few corners ds plain =
    few (length ds) (length corners) (pigeonhole (length ds - 2) (suc (length corners)) (λ i l. half_cone_in_range corners (point_at ds (suc i)) (called i l))
    (λ i l. half_below corners (point_at ds (suc i)) (called i l))
    (λ i k l l' h. half_apart corners (point_at ds (suc i)) (point_at ds (suc k)) (ordered ds plain.once.turns plain.in_range (suc i) (suc k)
    (omega arith) (omega (arith, h)) (omega (arith, l'))) (called i l) (called k l')))
  where
    called : (i : ℕ) → i < length ds - 2 → IsCalledFor corners (point_at ds (suc i))
    called i l = plain.no_others (suc i) (omega arith) (omega (arith, l))

    few : (n h : ℕ) → n - 2 ≤ suc h → n ≤ h + 3
    few n h l = omega (arith, l)

-- ---- over a quarter turn: one direction between east and north is at right angles to an edge or along it

-- a vector turned by a right angle
along_line : (p q ux uy : ℤ) → p *ℤ uy -ℤ q *ℤ ux ≡ pos 0 → neg_ℤ q *ℤ ux +ℤ p *ℤ uy ≡ pos 0
along_line p q ux uy h = turned p q ux uy ∙ h
  where
    turned : (p q ux uy : ℤ) → neg_ℤ q *ℤ ux +ℤ p *ℤ uy ≡ p *ℤ uy -ℤ q *ℤ ux
    turned p q ux uy = read (p ∷ q ∷ ux ∷ uy ∷ []) (λ xs a b c d. simp (a, b, c, d, polys) (den-ring xs _ _ tt))

turned_long : (p q : ℤ) → pos 0 <ℤ (p *ℤ p +ℤ q *ℤ q) → pos 0 <ℤ (neg_ℤ q *ℤ neg_ℤ q +ℤ p *ℤ p)
turned_long p q h = subst (λ z. pos 0 <ℤ z) (same p q) h
  where
    same : (p q : ℤ) → p *ℤ p +ℤ q *ℤ q ≡ neg_ℤ q *ℤ neg_ℤ q +ℤ p *ℤ p
    same p q = read (p ∷ q ∷ []) (λ xs a b. simp (a, b, polys) (den-ring xs _ _ tt))

abbrev IsBetween : PlanePoint → Type 0
IsBetween d = (pos 0 <ℤ d.x) × (pos 0 <ℤ d.y)

not_across : (u w : PlanePoint) → IsBetween u → IsBetween w → dot u w ≡ pos 0 → ⊥
not_across u w a b e = zero_above (dot u w) (positive_add (positive_mul a.0 b.0) (le_from_lt (positive_mul a.1 b.1))) e
  where
    zero_above : (z : ℤ) → pos 0 <ℤ z → z ≡ pos 0 → ⊥
    zero_above z h e = omega (arith, ints)

dot_other : (u w : PlanePoint) → dot w u ≡ dot u w
dot_other u w = exchanged u.x u.y w.x w.y
  where
    exchanged : (a b c d : ℤ) → c *ℤ a +ℤ d *ℤ b ≡ a *ℤ c +ℤ b *ℤ d
    exchanged a b c d = read (a ∷ b ∷ c ∷ d ∷ []) (λ xs p q r s. simp (p, q, r, s, polys) (den-ring xs _ _ tt))

one_of_both : (e u w : PlanePoint) → pos 0 <ℤ cross u w → IsBetween u → IsBetween w → e ≢ origin
    → (dot e u ≡ pos 0) ⊎ (cross e u ≡ pos 0) → (dot e w ≡ pos 0) ⊎ (cross e w ≡ pos 0) → ⊥
one_of_both e u w h bu bw n (inl a) (inl b) = not_parallel u w h (parallel e.x e.y u.x u.y w.x w.y (long_vector e n) a b)
one_of_both e u w h bu bw n (inl a) (inr b) = not_across u w bu bw (across e.x e.y u.x u.y w.x w.y (long_vector e n) a b)
one_of_both e u w h bu bw n (inr a) (inl b) = not_across u w bu bw (sym (dot_other u w) ∙ across e.x e.y w.x w.y u.x u.y (long_vector e n) b a)
one_of_both e u w h bu bw n (inr a) (inr b) =
    not_parallel u w h (parallel (neg_ℤ e.y) e.x u.x u.y w.x w.y (turned_long e.x e.y (long_vector e n)) (along_line e.x e.y u.x u.y a)
    (along_line e.x e.y w.x w.y b))

pub quarter_is_few : PlainQuarterFansAreFew
quarter_is_few corners ds plain =
    few (length ds) (length corners) (pigeonhole (length ds - 2) (length corners) (λ i l. (called i l).0) (λ i l. (called i l).1)
    (λ i k l l' h e.
    one_of_both (edge corners (called k l').0) (point_at ds (suc i)) (point_at ds (suc k))
    (ordered ds plain.once.turns (λ j p m. (plain.in_range j p m).1) (suc i) (suc k) (omega arith) (omega (arith, h)) (omega (arith, l')))
    (between i l) (between k l') (called k l').2.long (subst (λ j. IsNormalOrParallel (edge corners j) (point_at ds (suc i))) e
    (called i l).2).normal_or_parallel (called k l').2.normal_or_parallel))
  where
    called : (i : ℕ) → i < length ds - 2 → SomeIndex corners (λ j. IsNormalOrParallel (edge corners j) (point_at ds (suc i)))
    called i l = plain.no_others (suc i) (omega arith) (omega (arith, l))

    between : (i : ℕ) → i < length ds - 2 → IsBetween (point_at ds (suc i))
    between i l = plain.in_range (suc i) (omega arith) (omega (arith, l))

    few : (n h : ℕ) → n - 2 ≤ h → n ≤ h + 2
    few n h l = omega (arith, l)
