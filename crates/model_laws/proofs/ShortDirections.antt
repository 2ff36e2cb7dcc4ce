-- A direction in lowest terms at right angles to an edge, or along it, is no longer than the edge.
use Rattle.std.proofs.Common.{◌≡◌, ◌≢◌, refl, sym, ◌∙◌, subst, ℕ, zero, suc, ◌+◌, ◌-◌, ◌%◌, ◌<◌, ◌≤◌, ℤ, pos, neg_ℤ, ◌+ℤ◌, ◌-ℤ◌, ◌*ℤ◌, List, [], ◌∷◌, length, nat_abs, arith}
use mathlib.Core.Logic.{inl, inr}
use Rattle.std.specs.Prelude.{◌⊎◌, All, SomeIndex}
use Rattle.std.proofs.lemmas.Int.{ints}
use Rattle.std.proofs.lemmas.List.{get_or_default}
use Rattle.integers.proofs.Identities.{den-ring, read, polys}
use Rattle.bounds_model.specs.Numbers.{IsWithin}
use Rattle.bounds_model.specs.Plane.{PlanePoint, origin, point_at, vector, dot, cross, IsInPlane}
use Rattle.bounds_model.specs.Fractions.{HaveNoCommonFactor}
use Rattle.bounds_model.specs.Fans.{TurnLeft, east, west, north, IsShort}
use Rattle.bounds_model.specs.Hull.{around}
use Rattle.bounds_model.specs.PlainFans.{edge, IsNormal, IsNormalOrParallel}
use Rattle.model_laws.specs.Laws.{PlainHalfFansAreShort, PlainQuarterFansAreShort}
use Rattle.model_laws.proofs.Decisions.{by_test}
use Rattle.model_laws.proofs.DecideFans.{short}
use Rattle.model_laws.proofs.LowestDirections.{IsSmall, some_part, within_limit}

-- ---- the edges of a hull in bounds

corner_in_plane : (corners : List PlanePoint) → All IsInPlane corners → 0 < length corners → (i : ℕ) → IsInPlane (around corners i)
corner_in_plane corners all some i = all (i % length corners) origin (grind arith)

edge_is_small : (corners : List PlanePoint) → All IsInPlane corners → 0 < length corners → (i : ℕ) → IsSmall 400000 (edge corners i)
edge_is_small corners all some i =
    between (around corners i) (around corners (i + 1)) (corner_in_plane corners all some i) (corner_in_plane corners all some (i + 1))
  where
    apart : (a b : ℤ) → IsWithin 200000 a → IsWithin 200000 b → nat_abs (b -ℤ a) ≤ 400000
    apart a b h k = let hl = h.low in let hh = h.high in let kl = k.low in let kh = k.high in omega (arith, ints)

    between : (a b : PlanePoint) → IsInPlane a → IsInPlane b → IsSmall 400000 (vector a b)
    between a b h k = (apart a.x b.x h.x k.x, apart a.y b.y h.y k.y)

is_short : (d : PlanePoint) → IsSmall 400000 d → IsShort d
is_short d h = record { x = within d.x h.0; y = within d.y h.1 }
  where
    within : (z : ℤ) → nat_abs z ≤ 400000 → IsWithin 400000 z
    within z h = record { low = omega (arith, ints); high = omega (arith, ints) }

normal_is_short : (corners : List PlanePoint) → All IsInPlane corners → (d : PlanePoint) → HaveNoCommonFactor (d.x ∷ d.y ∷ [])
    → SomeIndex corners (λ i. IsNormal (edge corners i) d) → IsShort d
normal_is_short corners all d lowest s =
    let e = edge corners s.0 in
    let small = edge_is_small corners all (some s.0 (length corners) s.1) s.0 in
    is_short d (within_limit e.x e.y d 400000 lowest (some_part e s.2.long) s.2.right_angle small.0 small.1)
  where
    some : (i n : ℕ) → i < n → 0 < n
    some i n l = omega arith

either_is_short : (corners : List PlanePoint) → All IsInPlane corners → (d : PlanePoint) → HaveNoCommonFactor (d.x ∷ d.y ∷ [])
    → SomeIndex corners (λ i. IsNormalOrParallel (edge corners i) d) → IsShort d
either_is_short corners all d lowest s =
    let small = edge_is_small corners all (some s.0 (length corners) s.1) s.0 in
    by_side (edge corners s.0) d lowest s.2.long small s.2.normal_or_parallel
  where
    some : (i n : ℕ) → i < n → 0 < n
    some i n l = omega arith

    turned : (p q x y : ℤ) → neg_ℤ q *ℤ x +ℤ p *ℤ y ≡ p *ℤ y -ℤ q *ℤ x
    turned p q x y = read (p ∷ q ∷ x ∷ y ∷ []) (λ xs a b c d. simp (a, b, c, d, polys) (den-ring xs _ _ tt))

    same_size : (q : ℤ) → nat_abs (neg_ℤ q) ≡ nat_abs q
    same_size q = omega (arith, ints)

    other : (p q q' : ℕ) → q' ≡ q → 0 < p + q → 0 < q' + p
    other p q q' e h = omega arith

    by_side : (e d : PlanePoint) → HaveNoCommonFactor (d.x ∷ d.y ∷ []) → e ≢ origin → IsSmall 400000 e → (dot e d ≡ pos 0) ⊎ (cross e d ≡ pos 0)
        → IsShort d
    by_side e d lowest long small (inl vertical) = is_short d (within_limit e.x e.y d 400000 lowest (some_part e long) vertical small.0 small.1)
    by_side e d lowest long small (inr along) =
        is_short d
        (within_limit (neg_ℤ e.y) e.x d 400000 lowest (other (nat_abs e.x) (nat_abs e.y) (nat_abs (neg_ℤ e.y)) (same_size e.y)
        (some_part e long)) (turned e.x e.y d.x d.y ∙ along)
        (subst (λ n. n ≤ 400000) (sym (same_size e.y)) small.1) small.0)

-- ---- all directions: the first, the last and those between

each_direction : (ds : List PlanePoint) (first last : PlanePoint) → TurnLeft first last ds → IsShort first → IsShort last
    → ((i : ℕ) → 0 < i → i + 1 < length ds → IsShort (point_at ds i)) → All IsShort ds
each_direction ds first last turning at_first at_last inner i d l = subst IsShort (get_or_default ds i origin d l) (by_index i l)
  where
    last_or_inner : (i n : ℕ) → 0 < i → i < n → (i + 1 < n) ⊎ (i ≡ n - 1)
    last_or_inner i n p l = grind arith

    by_index : (i : ℕ) → i < length ds → IsShort (point_at ds i)
    by_index zero l = subst IsShort (sym turning.begins) at_first
    by_index (suc i) l =
        elim (last_or_inner (suc i) (length ds) (omega arith) l) [
          | inl m ↦ inner (suc i) (omega arith) m
          | inr e ↦ subst (λ j. IsShort (point_at ds j)) (sym e) (subst IsShort (sym turning.ends) at_last)
        ]

lowest_at : (ds : List PlanePoint) → All (λ d. HaveNoCommonFactor (d.x ∷ d.y ∷ [])) ds → (i : ℕ) → i + 1 < length ds
    → HaveNoCommonFactor ((point_at ds i).x ∷ (point_at ds i).y ∷ [])
lowest_at ds all i l = all i origin (omega (arith, l))

pub half_is_short : PlainHalfFansAreShort
half_is_short corners ds bounds plain =
    each_direction ds east west plain.once (by_test (short east) refl) (by_test (short west) refl)
    (λ i p l. elim (plain.no_others i p l) [
      | inl e ↦ subst IsShort (sym e) (by_test (short north) refl)
      | inr s ↦ normal_is_short corners bounds (point_at ds i) (lowest_at ds plain.lowest i l) s
    ])

pub quarter_is_short : PlainQuarterFansAreShort
quarter_is_short corners ds bounds plain =
    each_direction ds east north plain.once (by_test (short east) refl) (by_test (short north) refl)
    (λ i p l. either_is_short corners bounds (point_at ds i) (lowest_at ds plain.lowest i l) (plain.no_others i p l))
