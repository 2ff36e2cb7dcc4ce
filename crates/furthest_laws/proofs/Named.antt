-- The first furthest corner is the first greatest of its row.
use Rattle.std.proofs.Common.{◌≡◌, ◌≢◌, refl, sym, ap, ap₂, subst, ◌∙◌, ◌⊎◌, inl, inr, ℕ, zero, suc, ◌+◌, ◌<◌, ◌≤◌, ◌%◌, ℤ, pos, ◌-ℤ◌, ◌≤ℤ◌, ◌<ℤ◌, List, [], ◌∷◌, length, get_or, arith}
use Rattle.std.proofs.Math.Nat.{mod-lt}
use Rattle.std.proofs.lemmas.Int.{ints}
use Rattle.std.proofs.lemmas.List.{get_or_default}
use Rattle.integers.proofs.Order.{square_nonneg, nonneg_add}
use Rattle.integers.proofs.Identities.{den-ring, read, polys, lits}
use Rattle.bounds_model.specs.Plane.{PlanePoint, point_at, origin, squared_distance}
use Rattle.bounds_model.specs.Hull.{around, AreCorners}
use Rattle.model_laws.proofs.CornerLaw.{around-below}
use Rattle.bounds_model.specs.Furthest.{positions_after, IsFurthest}
use Rattle.furthest_laws.specs.Rows.{IsRowGreatest, distances}
use Rattle.furthest_laws.proofs.RowLaws.{one_first, greatest_of}
use Rattle.furthest_laws.proofs.Rounds.{after_below, after_is, after_none, after_same}
use Rattle.furthest_laws.proofs.HullRows.{next_apart}

-- a point is at no distance from itself
pub no_distance : (a : PlanePoint) → squared_distance a a ≡ pos 0
no_distance a = read (a.x ∷ a.y ∷ []) (λ xs p q. simp (p, q, polys, lits xs) (den-ring xs _ _ tt))

-- no distance is below 0
pub distance_nonneg : (a b : PlanePoint) → pos 0 ≤ℤ squared_distance a b
distance_nonneg a b = nonneg_add (square_nonneg (b.x -ℤ a.x)) (square_nonneg (b.y -ℤ a.y))

-- a later number is so many on
later : (i k : ℕ) → i ≤ k → (n : ℕ) × (k ≡ i + n)
later zero k h = (k, omega arith)
later (suc i) zero h = absurd (omega (arith, h))
later (suc i) (suc k) h = let l = later i k (omega (arith, h)) in (l.0, omega (arith, l.1))

-- the column of a position in the row of another
abbrev pub column : List PlanePoint → ℕ → ℕ → ℕ
column corners i far = i + positions_after (length corners) i far

-- the distance in a row is that of the two corners
pub distance_there : (corners : List PlanePoint) (i far : ℕ) → i < length corners → far < length corners
    → distances corners i (column corners i far) ≡ squared_distance (point_at corners i) (point_at corners far)
distance_there corners i far low high = ap₂ squared_distance (around-below corners i low) (after_is corners i far low high)

-- the first furthest corner is the first greatest of the row
pub row_of_furthest : (points corners : List PlanePoint) (i far : ℕ) → AreCorners points corners → 2 ≤ length corners → i < length corners → IsFurthest corners i far
    → IsRowGreatest (distances corners) (length corners) i (column corners i far)
row_of_furthest points corners i far hull two low f = record {
  from_first = positive (positions_after (length corners) i far) some_on;
  to_last = below i (positions_after (length corners) i far) (length corners) (after_below (length corners) i far (omega (arith, two)));
  before = λ k from less.
      let n = later i k (omega (arith, from)) in
      subst (λ c. distances corners i c <ℤ distances corners i (column corners i far)) (sym n.1)
      (subst (λ z. distances corners i (i + n.0) <ℤ z) (sym (distance_there corners i far low f.in_range))
      (subst (λ v. squared_distance v (around corners (i + n.0)) <ℤ squared_distance (point_at corners i) (point_at corners far)) (sym (around-below corners i low))
      (f.first n.0 (fewer i n.0 k (positions_after (length corners) i far) n.1 less))));
  after = λ k more high. at k;
}
  where
    at : (k : ℕ) → distances corners i k ≤ℤ distances corners i (column corners i far)
    at k = subst (λ z. distances corners i k ≤ℤ z) (sym (distance_there corners i far low f.in_range))
        (subst (λ v. squared_distance v (around corners k) ≤ℤ squared_distance (point_at corners i) (point_at corners far)) (sym (around-below corners i low))
        (f.furthest (k % length corners) origin (mod-lt k (omega (arith, two)))))

    positive : (s : ℕ) → s ≢ 0 → i + 1 ≤ i + s
    positive zero h = absurd (h refl)
    positive (suc s) h = omega arith

    below : (i s h : ℕ) → s < h → i + s < i + h
    below i s h l = omega (arith, l)

    fewer : (i n k s : ℕ) → k ≡ i + n → k < i + s → n < s
    fewer i n k s e l = omega (arith, e, l)

    some_on : positions_after (length corners) i far ≢ 0
    some_on none =
        let here : i ≡ far = after_none (length corners) i far low f.in_range none in
        let zero_there : squared_distance (point_at corners i) (point_at corners far) ≡ pos 0 = ap (λ n. squared_distance (point_at corners i) (point_at corners n)) (sym here)
        ∙ no_distance (point_at corners i) in
        clash (distances corners i (i + 1)) (squared_distance (point_at corners i) (point_at corners far)) (next_apart points corners hull two i)
        (subst (λ z. distances corners i (i + 1) ≤ℤ z) (distance_there corners i far low f.in_range) (at (i + 1))) zero_there
      where
        clash : (x y : ℤ) → pos 0 <ℤ x → x ≤ℤ y → y ≡ pos 0 → ⊥
        clash x y h k e = omega (arith, ints)

-- and the first greatest of the row is the first furthest corner
pub furthest_of_row : (points corners : List PlanePoint) (i far : ℕ) → AreCorners points corners → 2 ≤ length corners → i < length corners → far < length corners
    → IsRowGreatest (distances corners) (length corners) i (column corners i far) → IsFurthest corners i far
furthest_of_row points corners i far hull two low high r = record {
  in_range = high;
  furthest = λ j d below. subst (λ c. squared_distance (point_at corners i) c ≤ℤ squared_distance (point_at corners i) (point_at corners far)) (get_or_default corners j origin d below)
      (at j below (positions_after (length corners) i j) refl);
  first = λ s fewer. nearer s fewer;
}
  where
    there : distances corners i (column corners i far) ≡ squared_distance (point_at corners i) (point_at corners far)
    there = distance_there corners i far low high

    past : (i s : ℕ) → i + 1 ≤ i + suc s
    past i s = omega arith

    within : (i s h : ℕ) → s < h → i + s < i + h
    within i s h l = omega (arith, l)

    at : (j : ℕ) → j < length corners → (s : ℕ) → s ≡ positions_after (length corners) i j
        → squared_distance (point_at corners i) (point_at corners j) ≤ℤ squared_distance (point_at corners i) (point_at corners far)
    at j below zero e =
        let here : i ≡ j = after_none (length corners) i j low below (sym e) in
        subst (λ n. squared_distance (point_at corners i) (point_at corners n) ≤ℤ squared_distance (point_at corners i) (point_at corners far)) here
        (subst (λ z. z ≤ℤ squared_distance (point_at corners i) (point_at corners far)) (sym (no_distance (point_at corners i))) (distance_nonneg (point_at corners i) (point_at corners far)))
    at j below (suc s) e =
        let in_row = greatest_of (i + positions_after (length corners) i j) r (subst (λ n. i + 1 ≤ i + n) e (past i s))
        (within i (positions_after (length corners) i j) (length corners) (after_below (length corners) i j (omega (arith, two)))) in
        subst (λ z. z ≤ℤ squared_distance (point_at corners i) (point_at corners far)) (distance_there corners i j low below) (subst (λ z. distances corners i (column corners i j) ≤ℤ z) there in_row)

    seen : (k : ℕ) → distances corners i k <ℤ distances corners i (column corners i far)
        → squared_distance (point_at corners i) (around corners k) <ℤ squared_distance (point_at corners i) (point_at corners far)
    seen k h = subst (λ v. squared_distance v (around corners k) <ℤ squared_distance (point_at corners i) (point_at corners far)) (around-below corners i low)
        (subst (λ z. distances corners i k <ℤ z) there h)

    nearer : (s : ℕ) → s < positions_after (length corners) i far → squared_distance (point_at corners i) (around corners (i + s)) <ℤ squared_distance (point_at corners i) (point_at corners far)
    nearer zero fewer = seen (i + 0)
        (lt_of (distances corners i (i + 0)) (distances corners i (i + 1)) (distances corners i (column corners i far))
        (ap (λ n. squared_distance (around corners i) (around corners n)) (let e : i + 0 ≡ i = omega arith in e) ∙ no_distance (around corners i))
        (next_apart points corners hull two i) (greatest_of (i + 1) r (omega arith) (omega (arith, two))))
      where
        lt_of : (x y z : ℤ) → x ≡ pos 0 → pos 0 <ℤ y → y ≤ℤ z → x <ℤ z
        lt_of x y z e h k = omega (arith, ints)
    nearer (suc s) fewer = seen (i + suc s) (r.before (i + suc s) (past i s) (within i (suc s) (positions_after (length corners) i far) fewer))

-- the only corner is its own furthest
pub only_furthest : (corners : List PlanePoint) → length corners ≡ 1 → IsFurthest corners 0 0
only_furthest [] e = absurd (omega (arith, e))
only_furthest (a ∷ []) e = record {
  in_range = omega arith;
  furthest = λ j d low. itself j d low;
  first = λ s fewer. absurd (none s fewer);
}
  where
    itself : (j : ℕ) (d : PlanePoint) → j < 1 → squared_distance a (get_or (a ∷ []) j d) ≤ℤ squared_distance a a
    itself zero d low = least (squared_distance a a)
      where
        least : (z : ℤ) → z ≤ℤ z
        least z = omega (arith, ints)
    itself (suc j) d low = absurd (omega (arith, low))

    none : (s : ℕ) → s < positions_after 1 0 0 → ⊥
    none s fewer = omega (arith, fewer)
only_furthest (a ∷ b ∷ rest) e = absurd (omega (arith, e))

-- a corner has one first furthest corner
pub one_furthest : (points corners : List PlanePoint) (i f g : ℕ) → AreCorners points corners → i < length corners → IsFurthest corners i f → IsFurthest corners i g → f ≡ g
one_furthest points corners i f g hull low p q = elim (one_or_more (length corners)) [
  | inl one ↦ omega (arith, one, p.in_range, q.in_range)
  | inr more ↦
      after_same (length corners) i f g low p.in_range q.in_range
      (same i (positions_after (length corners) i f) (positions_after (length corners) i g)
      (one_first (distances corners i) (i + 1) (i + length corners) (column corners i f) (column corners i g) (row_of_furthest points corners i f hull more low p)
      (row_of_furthest points corners i g hull more low q)))
]
  where
    one_or_more : (n : ℕ) → (n < 2) ⊎ (2 ≤ n)
    one_or_more n = grind arith

    same : (i s t : ℕ) → i + s ≡ i + t → s ≡ t
    same i s t e = omega (arith, e)
