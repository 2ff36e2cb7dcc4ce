-- The corners that a checker accepts are the corners of the hull.
use Rattle.std.proofs.Common.{◌≡◌, ◌≢◌, refl, sym, ◌∙◌, ap, ap₂, subst, ℕ, zero, suc, ◌+◌, ◌-◌, ◌<◌, ◌≤◌, ℤ, pos, neg_ℤ, ◌-ℤ◌, ◌*ℤ◌, ◌≤ℤ◌, ◌<ℤ◌, List, [], ◌∷◌, length, map, arith}
use mathlib.Core.Logic.{inl, inr}
use Rattle.std.specs.Prelude.{◌⊎◌, All, AllPairs, Contains, slice_index_or}
use Rattle.std.proofs.Math.Nat.{mod-eq_of_lt}
use Rattle.std.proofs.lemmas.Int.{ints}
use Rattle.std.proofs.lemmas.List.{get_or_default}
use Rattle.std.proofs.lemmas.List.Elements.{All-contains, All-get_or, All-map}
use Rattle.integers.proofs.Identities.{den-ring, read, polys, lits}
use Rattle.integers.proofs.Order.{combine2, positive-not_zero}
use Rattle.bounds_model.specs.Plane.{PlanePoint, origin, point_at, vector, cross, IsBefore, IsLeastPoint}
use Rattle.bounds_model.specs.Hull.{around, AreCornerCycle}
use Rattle.bounds_model.specs.CornerTest.{GoAround, FirstIsOnce}
use Rattle.bounds_model.specs.KgonAnswer.{corner_points}
use Rattle.model_laws.specs.Laws.{PassingCornersAreCorners, PassingKgonsListCorners}
use Rattle.model_laws.proofs.Turning.{IsAhead, ahead_of_before, ahead_trans, on_one_line, between_turns, turn_from, edge_turn, no_turn}

-- below the length, the number around the circle is the number
pub around-below : (corners : List PlanePoint) (k : ℕ) → k < length corners → around corners k ≡ point_at corners k
around-below corners k h = ap (point_at corners) (mod-eq_of_lt h)

-- a corner as seen from the first
abbrev seen : List PlanePoint → ℕ → PlanePoint
seen corners k = vector (point_at corners 0) (point_at corners k)

-- what is known of three or more corners that pass
record Cycle (points corners : List PlanePoint) : Type 0 where
  listed : All (Contains points) corners
  from_least : IsLeastPoint points (around corners 0)
  once : FirstIsOnce corners
  round : GoAround points corners

-- no later corner is the first
not_first : (corners : List PlanePoint) (k : ℕ) → FirstIsOnce corners → 0 < k → k < length corners → point_at corners k ≢ point_at corners 0
not_first [] k h p l = absurd h
not_first (a ∷ rest) zero h p l = absurd (omega arith)
not_first (a ∷ rest) (suc k) h p l = All-get_or (λ c. c ≢ a) rest k origin (omega arith) h

-- the first corner is the least point
first_is : (points corners : List PlanePoint) → 0 < length corners → IsLeastPoint points (around corners 0) → IsLeastPoint points (point_at corners 0)
first_is points corners some h = subst (IsLeastPoint points) (around-below corners 0 some) h

-- the later corners are ahead of the first
ahead : (points corners : List PlanePoint) → Cycle points corners → (k : ℕ) → 0 < k → k < length corners → IsAhead (seen corners k)
ahead points corners r k p l =
    let first = first_is points corners (omega arith) r.from_least in
    ahead_of_before (point_at corners 0) (point_at corners k) (All-contains (IsBefore (point_at corners 0)) points (point_at corners k) first.least (All-get_or (Contains points) corners k origin l r.listed)) (not_first corners k r.once p l)

-- all points are to the left of the edge from corner k to the next
left_of_edge : (points corners : List PlanePoint) → Cycle points corners → (k : ℕ) → k + 1 < length corners → (q : PlanePoint) → Contains points q → pos 0 ≤ℤ cross (vector (point_at corners k) (point_at corners (k + 1))) (vector (point_at corners k) q)
left_of_edge points corners r k l q c =
    let h = All-contains (λ x. pos 0 ≤ℤ cross (vector (around corners k) (around corners (k + 1))) (vector (around corners k) x)) points q (r.round.all_left k (omega arith)) c in
    subst (λ v. pos 0 ≤ℤ v) (ap₂ (λ x y. cross (vector x y) (vector x q)) (around-below corners k (omega arith)) (around-below corners (k + 1) l)) h

-- so from the first corner each later one is to the left of the one before
one_left : (points corners : List PlanePoint) → Cycle points corners → (k : ℕ) → k + 1 < length corners → pos 0 ≤ℤ cross (seen corners k) (seen corners (k + 1))
one_left points corners r k l =
    let first = first_is points corners (omega arith) r.from_least in
    subst (λ v. pos 0 ≤ℤ v) (turn_from (point_at corners 0) (point_at corners k) (point_at corners (k + 1))) (left_of_edge points corners r k l (point_at corners 0) first.listed)

-- a vector makes no turn with itself
pub cross_self : (u : PlanePoint) → cross u u ≡ pos 0
cross_self u = nothing u.x u.y
  where
    nothing : (x y : ℤ) → x *ℤ y -ℤ y *ℤ x ≡ pos 0
    nothing x y = read (x ∷ y ∷ []) (λ xs a b. simp (a, b, polys, lits xs) (den-ring xs _ _ tt))

-- and to the left of all before
far_left : (points corners : List PlanePoint) → Cycle points corners → (k m j : ℕ) → 0 < k → j ≡ k + m → j < length corners → pos 0 ≤ℤ cross (seen corners k) (seen corners j)
far_left points corners r k zero j p e l =
    let same : j ≡ k = omega arith in
    subst (λ i. pos 0 ≤ℤ cross (seen corners k) (seen corners i)) (sym same) (subst (λ z. pos 0 ≤ℤ z) (sym (cross_self (seen corners k))) (zero_least))
  where
    zero_least : pos 0 ≤ℤ pos 0
    zero_least = omega (arith, ints)
far_left points corners r k (suc m) j p e l =
    let same : j ≡ k + m + 1 = omega arith in
    let below : k + m + 1 < length corners = omega arith in
    subst (λ i. pos 0 ≤ℤ cross (seen corners k) (seen corners i)) (sym same)
    (ahead_trans (seen corners k) (seen corners (k + m)) (seen corners (k + m + 1)) (ahead points corners r k p (omega arith)) (ahead points corners r (k + m) (omega arith) (omega arith)) (ahead points corners r (k + m + 1) (omega arith) below)
    (far_left points corners r k m (k + m) p refl (omega arith)) (one_left points corners r (k + m) below))

-- between two corners at one place, all others are on the line through it and the first
on_line : (points corners : List PlanePoint) → Cycle points corners → (i k j : ℕ) → 0 < i → i ≤ k → k ≤ j → j < length corners → point_at corners i ≡ point_at corners j → cross (seen corners i) (seen corners k) ≡ pos 0
on_line points corners r i k j p h m l e =
    between_turns (seen corners i) (seen corners k) (far_left points corners r i (k - i) k p (omega arith) (omega arith))
    (subst (λ q. pos 0 ≤ℤ cross (seen corners k) (vector (point_at corners 0) q)) (sym e) (far_left points corners r k (j - k) j (omega arith) (omega arith) l))

-- a corner is not equal to the next
next_differs : (points corners : List PlanePoint) → Cycle points corners → (i : ℕ) → i + 1 < length corners → point_at corners i ≢ point_at corners (i + 1)
next_differs points corners r i l e =
    positive-not_zero (r.round.left_turns i (omega arith)) (no_edge (around corners i) (around corners (i + 1)) (around corners (i + 2)) (around-below corners i (omega arith) ∙ e ∙ sym (around-below corners (i + 1) l)))
  where
    flat : (ax ay bx by : ℤ) → ax ≡ bx → ay ≡ by → (u v : ℤ) → (bx -ℤ ax) *ℤ u -ℤ (by -ℤ ay) *ℤ v ≡ pos 0
    flat ax ay bx by e f u v = combine2 (neg_ℤ u) v e f (read (ax ∷ ay ∷ bx ∷ by ∷ u ∷ v ∷ []) (λ xs a b c d e f. simp (a, b, c, d, e, f, polys, lits xs) (den-ring xs _ _ tt)))

    no_edge : (a b c : PlanePoint) → a ≡ b → cross (vector a b) (vector b c) ≡ pos 0
    no_edge a b c e = flat a.x a.y b.x b.y (ap (λ (p : PlanePoint). p.x) e) (ap (λ (p : PlanePoint). p.y) e) (c.y -ℤ b.y) (c.x -ℤ b.x)

-- nor to a later one
later_differs : (points corners : List PlanePoint) → Cycle points corners → (i j : ℕ) → 0 < i → i + 2 ≤ j → j < length corners → point_at corners i ≢ point_at corners j
later_differs points corners r i j p h l e =
    let to_next = on_line points corners r i (i + 1) j p (omega arith) (omega arith) l e in
    let to_second = on_line points corners r i (i + 2) j p (omega arith) h l e in
    let next_second = on_one_line (seen corners i) (seen corners (i + 1)) (seen corners (i + 2)) (ahead points corners r i p (omega arith)) to_next to_second in
    let none = no_turn (point_at corners 0) (point_at corners i) (point_at corners (i + 1)) (point_at corners (i + 2)) to_next to_second next_second in
    positive-not_zero (left_turn) (edge_turn (point_at corners i) (point_at corners (i + 1)) (point_at corners (i + 2)) ∙ none)
  where
    left_turn : pos 0 <ℤ cross (vector (point_at corners i) (point_at corners (i + 1))) (vector (point_at corners (i + 1)) (point_at corners (i + 2)))
    left_turn =
        subst (λ c. pos 0 <ℤ cross (vector (point_at corners i) (point_at corners (i + 1))) (vector (point_at corners (i + 1)) c)) (around-below corners (i + 2) (omega arith))
        (subst (λ v. pos 0 <ℤ v) (ap₂ (λ x y. cross (vector x y) (vector y (around corners (i + 2)))) (around-below corners i (omega arith)) (around-below corners (i + 1) (omega arith))) (r.round.left_turns i (omega arith)))

-- no two corners are equal
places_differ : (points corners : List PlanePoint) → Cycle points corners → (i j : ℕ) → i < j → j < length corners → point_at corners i ≢ point_at corners j
places_differ points corners r zero j h l e = not_first corners j r.once h l (sym e)
places_differ points corners r (suc i) j h l e = by_gap (gap (suc i) j h)
  where
    gap : (i j : ℕ) → i < j → (j ≡ i + 1) ⊎ (i + 2 ≤ j)
    gap i j h = grind arith

    by_gap : (j ≡ suc i + 1) ⊎ (suc i + 2 ≤ j) → ⊥
    by_gap s =
        elim s [
          | inl n ↦ next_differs points corners r (suc i) (omega arith) (e ∙ ap (point_at corners) n)
          | inr g ↦ later_differs points corners r (suc i) j (omega arith) g l e
        ]

-- so there are no repeats
distinct : (points corners : List PlanePoint) → Cycle points corners → AllPairs (λ a b. a ≢ b) corners
distinct points corners r i j d h l e =
    places_differ points corners r i j h l (get_or_default corners i origin d (omega arith) ∙ e ∙ get_or_default corners j d origin l)

-- three or more corners that pass are a cycle
cycle : (points corners : List PlanePoint) → Cycle points corners → AreCornerCycle points corners
cycle points corners r = record {
  listed = r.listed;
  from_least = r.from_least;
  distinct = distinct points corners r;
  left_turns = λ i h. subst (λ z. pos 0 <ℤ z) (edge_turn (around corners i) (around corners (i + 1)) (around corners (i + 2))) (r.round.left_turns i h);
  inside = r.round.all_left;
}

-- the corners that pass are the corners
pub passing_corners : PassingCornersAreCorners
passing_corners points [] listed h = h.surround
passing_corners points (a ∷ []) listed h = record { listed = h.from_least.listed; only = h.surround }
passing_corners points (a ∷ b ∷ []) listed h = record {
  from_least = h.from_least;
  to_greatest = h.surround.to_greatest;
  distinct = λ e. All-get_or (λ c. c ≢ a) (b ∷ []) 0 origin (omega arith) h.once (sym e);
  on_line = h.surround.on_line;
}
passing_corners points (a ∷ b ∷ c ∷ rest) listed h = cycle points (a ∷ b ∷ c ∷ rest) (record { listed = listed; from_least = h.from_least; once = h.once; round = h.surround })

-- the points of numbers below the length are points of the list
pub named_points : (points : List PlanePoint) (numbers : List ℕ) → All (λ number. number < length points) numbers → All (Contains points) (map (point_at points) numbers)
named_points points numbers h = All-map (Contains points) (point_at points) numbers (λ i d l. (slice_index_or numbers i d, h i d l, get_or_default points (slice_index_or numbers i d) (point_at points (slice_index_or numbers i d)) origin (h i d l)))

-- the corners of a polygon that passes are the corners of the hull
pub passing_kgon : PassingKgonsListCorners
passing_kgon k points a h = passing_corners points (corner_points points a) (named_points points a.corners h.numbers) h.corners
