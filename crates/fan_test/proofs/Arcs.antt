-- A point that is below an arc at the edge that decides for it is below the whole arc.
use Rattle.std.proofs.Common.{◌≡◌, sym, ◌∙◌, subst, ap, ◌⊎◌, inl, inr, ℕ, zero, suc, ◌+◌, ◌-◌, ◌<◌, ◌≤◌, ℤ, pos, neg_ℤ, ◌+ℤ◌, ◌-ℤ◌, ◌*ℤ◌, ◌≤ℤ◌, ◌<ℤ◌, [], ◌∷◌, arith, add-one}
use Rattle.std.proofs.lemmas.Int.{ints}
use Rattle.integers.proofs.Identities.{den-ring, read, polys, lits}
use Rattle.integers.proofs.Order.{nonneg_mul, nonneg_add, nonneg_difference, nonneg_of_mul, le_from_lt, le_trans_ℤ, le_of_same, le_antisymm_ℤ, le_by, nonneg_neg}
use Rattle.std.specs.Prelude.{List, All}
use Rattle.std.proofs.lemmas.List.Elements.{All-contains}
use Rattle.bounds_model.specs.Plane.{PlanePoint, dot, cross, vector}
use Rattle.fan_test.specs.Chains.{Turns, IsBelowAll, AreJoined, IsWithinEach, IsWithin, IsArc, AreEdges, IsEdgeFor, AreListed, Encloses}
use Rattle.directions.proofs.Reaches.{dot_vector}

-- ---- three directions

-- of three vectors, the middle one as a sum of the others, along w
between_is : (ux uy dx dy ex ey wx wy : ℤ)
    → (ux *ℤ ey -ℤ uy *ℤ ex) *ℤ (dx *ℤ wx +ℤ dy *ℤ wy) ≡ (dx *ℤ ey -ℤ dy *ℤ ex) *ℤ (ux *ℤ wx +ℤ uy *ℤ wy) +ℤ (ux *ℤ dy -ℤ uy *ℤ dx) *ℤ (ex *ℤ wx +ℤ ey *ℤ wy)
between_is ux uy dx dy ex ey wx wy = read (ux ∷ uy ∷ dx ∷ dy ∷ ex ∷ ey ∷ wx ∷ wy ∷ []) (λ xs a b c d e f g h. simp (a, b, c, d, e, f, g, h, polys) (den-ring xs _ _ tt))

-- and the last as the second less the first
beyond_is : (ux uy dx dy ex ey wx wy : ℤ)
    → (ux *ℤ dy -ℤ uy *ℤ dx) *ℤ (ex *ℤ wx +ℤ ey *ℤ wy) ≡ (ux *ℤ ey -ℤ uy *ℤ ex) *ℤ (dx *ℤ wx +ℤ dy *ℤ wy) +ℤ (dx *ℤ ey -ℤ dy *ℤ ex) *ℤ neg_ℤ (ux *ℤ wx +ℤ uy *ℤ wy)
beyond_is ux uy dx dy ex ey wx wy = read (ux ∷ uy ∷ dx ∷ dy ∷ ex ∷ ey ∷ wx ∷ wy ∷ []) (λ xs a b c d e f g h. simp (a, b, c, d, e, f, g, h, polys) (den-ring xs _ _ tt))

-- q is at least as far along d as p
further : (d p q : PlanePoint) → dot d p ≤ℤ dot d q → pos 0 ≤ℤ dot d (vector p q)
further d p q h = subst (λ z. pos 0 ≤ℤ z) (sym (dot_vector d p q)) (nonneg_difference h)

of_further : (d p q : PlanePoint) → pos 0 ≤ℤ dot d (vector p q) → dot d p ≤ℤ dot d q
of_further d p q h = le_by h (sym (dot_vector d p q))

-- where q is as far along u as p, and along e, so it is along d between them
pub between : (u d e p q : PlanePoint) → pos 0 <ℤ cross u e → pos 0 ≤ℤ cross u d → pos 0 ≤ℤ cross d e → dot u p ≤ℤ dot u q → dot e p ≤ℤ dot e q → dot d p ≤ℤ dot d q
between u d e p q ue ud de hu he =
    let w = vector p q in
    of_further d p q
    (nonneg_of_mul (cross u e) ue
    (subst (λ z. pos 0 ≤ℤ z) (sym (between_is u.x u.y d.x d.y e.x e.y w.x w.y)) (nonneg_add (nonneg_mul de (further u p q hu)) (nonneg_mul ud (further e p q he)))))

-- where q is as far along d as p, and not further along u, it is as far along e, which is to the left of both
pub beyond : (u d e p q : PlanePoint) → pos 0 <ℤ cross u d → pos 0 ≤ℤ cross u e → pos 0 ≤ℤ cross d e → dot u q ≤ℤ dot u p → dot d p ≤ℤ dot d q → dot e p ≤ℤ dot e q
beyond u d e p q ud ue de hu hd =
    let w = vector p q in
    let back : pos 0 ≤ℤ neg_ℤ (dot u w) = nonneg_neg (subst (λ z. z ≤ℤ pos 0) (sym (dot_vector u p q)) (lower hu)) in
    of_further e p q
    (nonneg_of_mul (cross u d) ud
    (subst (λ z. pos 0 ≤ℤ z) (sym (beyond_is u.x u.y d.x d.y e.x e.y w.x w.y)) (nonneg_add (nonneg_mul ue (further d p q hd)) (nonneg_mul de back))))
  where
    lower : {a b : ℤ} → b ≤ℤ a → (b -ℤ a) ≤ℤ pos 0
    lower h = omega (arith, ints)

-- where p is as far along e as q, and not further along d, it is not further along u
pub before : (u d e p q : PlanePoint) → pos 0 <ℤ cross d e → pos 0 <ℤ cross u e → pos 0 ≤ℤ cross u d → dot e p ≡ dot e q → dot d p ≤ℤ dot d q → dot u p ≤ℤ dot u q
before u d e p q de ue ud he hd =
    let w = vector p q in
    let flat : dot e w ≡ pos 0 = dot_vector e p q ∙ none he in
    of_further u p q (nonneg_of_mul (cross d e) de (less (cross u d) (dot e w) (subst (λ z. pos 0 ≤ℤ z) (between_is u.x u.y d.x d.y e.x e.y w.x w.y) (nonneg_mul (le_from_lt ue) (further d p q hd))) flat))
  where
    none : {a b : ℤ} → a ≡ b → b -ℤ a ≡ pos 0
    none e = omega (arith, ints)

    less : {a : ℤ} (b c : ℤ) → pos 0 ≤ℤ (a +ℤ b *ℤ c) → c ≡ pos 0 → pos 0 ≤ℤ a
    less {a} b c h e = subst (λ z. pos 0 ≤ℤ z) (dropped a b) (subst (λ z. pos 0 ≤ℤ (a +ℤ b *ℤ z)) e h)
      where
        dropped : (a b : ℤ) → a +ℤ b *ℤ pos 0 ≡ a
        dropped a b = read (a ∷ b ∷ []) (λ xs r s. simp (r, s, polys, lits xs) (den-ring xs _ _ tt))

-- ---- along an arc

-- p is below the point before the direction of the next cone, and the point after that direction is not further along the first direction than p
record IsPassed (D H : ℕ → PlanePoint) (from : ℕ) (p : PlanePoint) (i : ℕ) : Type 0 where
  out : dot (D (i + 1)) p ≤ℤ dot (D (i + 1)) (H (i + 1))
  along : dot (D from) (H (i + 1)) ≤ℤ dot (D from) p

-- so it goes on
passed_step : (D H : ℕ → PlanePoint) (from to : ℕ) (p : PlanePoint) → Turns D to → IsArc D H from to → (i : ℕ) → from ≤ i → i + 1 + 1 < to → IsPassed D H from p i → IsPassed D H from p (i + 1)
passed_step D H from to p turns arc i low high h =
    let edge = arc.edges (i + 1) (omega arith) high in
    let reached = beyond (D from) (D (i + 1)) (D (i + 1 + 1)) p (H (i + 1)) (arc.left i low (omega arith)) (le_from_lt (arc.left (i + 1) (omega arith) high)) (le_from_lt (turns (i + 1) (omega arith))) h.along h.out in
    record {
      out = le_trans_ℤ reached (le_of_same edge.level);
      along = le_trans_ℤ edge.falling h.along;
    }

-- of two numbers in order, the first is below the second, or they are equal
pub below_or_same : (i j : ℕ) → i ≤ suc j → (i ≤ j) ⊎ (i ≡ suc j)
below_or_same i j h = grind arith

passed_from : (D H : ℕ → PlanePoint) (from to : ℕ) (p : PlanePoint) → Turns D to → IsArc D H from to → (i : ℕ) → from ≤ i → IsPassed D H from p i → (j : ℕ) → i ≤ j → j + 1 < to → IsPassed D H from p j
passed_from D H from to p turns arc i low h zero above high = subst (λ k. IsPassed D H from p k) (none i above) h
  where
    none : (i : ℕ) → i ≤ 0 → i ≡ 0
    none i h = omega arith
passed_from D H from to p turns arc i low h (suc j) above high = elim (below_or_same i j above) [
  | inl less ↦ subst (λ k. IsPassed D H from p k) (add-one j) (passed_step D H from to p turns arc j (omega arith) (omega arith) (passed_from D H from to p turns arc i low h j less (omega arith)))
  | inr same ↦ subst (λ k. IsPassed D H from p k) same h
]

-- p is below the point after the direction of the next cone, and not further along the first direction than the point before it
record IsAwaited (D H : ℕ → PlanePoint) (from : ℕ) (p : PlanePoint) (i : ℕ) : Type 0 where
  out : dot (D (i + 1)) p ≤ℤ dot (D (i + 1)) (H (i + 1))
  along : dot (D from) p ≤ℤ dot (D from) (H i)

-- so it was before
awaited_step : (D H : ℕ → PlanePoint) (from to : ℕ) (p : PlanePoint) → Turns D to → IsArc D H from to → (i : ℕ) → from ≤ i → i + 1 + 1 < to → IsAwaited D H from p (i + 1) → IsAwaited D H from p i
awaited_step D H from to p turns arc i low high h =
    let edge = arc.edges i low (omega arith) in
    let next = arc.edges (i + 1) (omega arith) high in
    record {
      out = between (D from) (D (i + 1)) (D (i + 1 + 1)) p (H (i + 1)) (arc.left (i + 1) (omega arith) high) (le_from_lt (arc.left i low (omega arith))) (le_from_lt (turns (i + 1) (omega arith))) h.along (le_trans_ℤ h.out (le_of_same (sym next.level)));
      along = le_trans_ℤ h.along edge.falling;
    }

awaited_from : (D H : ℕ → PlanePoint) (from to : ℕ) (p : PlanePoint) → Turns D to → IsArc D H from to → (i : ℕ) → i + 1 < to → IsAwaited D H from p i → (j : ℕ) → from ≤ j → j ≤ i → IsAwaited D H from p j
awaited_from D H from to p turns arc zero high h j low below = subst (λ k. IsAwaited D H from p k) (none j below) h
  where
    none : (j : ℕ) → j ≤ 0 → 0 ≡ j
    none j h = omega arith
awaited_from D H from to p turns arc (suc i) high h j low below = elim (below_or_same j i below) [
  | inl less ↦ awaited_from D H from to p turns arc i (omega arith) (awaited_step D H from to p turns arc i (omega arith) (omega arith) (subst (λ k. IsAwaited D H from p k) (sym (add-one i)) h)) j low less
  | inr same ↦ subst (λ k. IsAwaited D H from p k) (sym same) h
]

-- along the first direction the points of an arc stand in order
pub falls : (D H : ℕ → PlanePoint) (from to : ℕ) → IsArc D H from to → (i j : ℕ) → from ≤ i → i ≤ j → j < to → dot (D from) (H j) ≤ℤ dot (D from) (H i)
falls D H from to arc i zero low above high = le_of_same (ap (λ k. dot (D from) (H k)) (none i above))
  where
    none : (i : ℕ) → i ≤ 0 → 0 ≡ i
    none i h = omega arith
falls D H from to arc i (suc j) low above high = elim (below_or_same i j above) [
  | inl less ↦ subst (λ k. dot (D from) (H k) ≤ℤ dot (D from) (H i)) (add-one j) (le_trans_ℤ (arc.edges j (omega arith) (omega arith)).falling (falls D H from to arc i j low less (omega arith)))
  | inr same ↦ le_of_same (ap (λ k. dot (D from) (H k)) (sym same))
]

three_ways : (i j : ℕ) → (i < j) ⊎ ((i ≡ j) ⊎ (j < i))
three_ways i j = grind arith

-- at the edge that decides, one direction decides for all between the first and the last
pub inner : (D H : ℕ → PlanePoint) (from to : ℕ) (p : PlanePoint) (i : ℕ) → Turns D to → IsArc D H from to → IsEdgeFor D H from to p i → dot (D (i + 1)) p ≤ℤ dot (D (i + 1)) (H (i + 1))
    → (j : ℕ) → from ≤ j → j + 1 < to → dot (D (j + 1)) p ≤ℤ dot (D (j + 1)) (H (j + 1))
inner D H from to p i turns arc edge h j low high = elim (three_ways i j) [
  | inl above ↦ (passed_from D H from to p turns arc i edge.after (record { out = h; along = passes edge.end above }) j (omega arith) high).out
  | inr rest ↦ elim rest [
    | inl same ↦ subst (λ k. dot (D (k + 1)) p ≤ℤ dot (D (k + 1)) (H (k + 1))) same h
    | inr below ↦ (awaited_from D H from to p turns arc i edge.before (record { out = h; along = awaits edge.begin below }) j low (omega arith)).out
  ]
]
  where
    passes : (i + 2 ≡ to) ⊎ (dot (D from) (H (i + 1)) ≤ℤ dot (D from) p) → i < j → dot (D from) (H (i + 1)) ≤ℤ dot (D from) p
    passes (inl e) less = absurd (omega (arith, high))
    passes (inr l) less = l

    awaits : (i ≡ from) ⊎ (dot (D from) p ≤ℤ dot (D from) (H i)) → j < i → dot (D from) p ≤ℤ dot (D from) (H i)
    awaits (inl e) less = absurd (omega (arith, low))
    awaits (inr l) less = l

-- ---- the parts of an arc

-- p is no further out than the points of these cones in the directions between the first and the last
abbrev IsBelowInner : (ℕ → PlanePoint) → (ℕ → PlanePoint) → ℕ → ℕ → PlanePoint → Type 0
IsBelowInner D H from to p = (i : ℕ) → from ≤ i → i + 1 < to → IsWithin D H (i + 1) (i + 1) p

-- below the first direction and the inner ones is below each
pub of_parts : (D H : ℕ → PlanePoint) (from to : ℕ) (p : PlanePoint) → IsWithin D H from from p → IsBelowInner D H from to p → IsWithinEach D H from to p
of_parts D H from to p first middle zero low high = subst (λ k. IsWithin D H k k p) (none from low) first
  where
    none : (i : ℕ) → i ≤ 0 → i ≡ 0
    none i h = omega arith
of_parts D H from to p first middle (suc j) low high = elim (below_or_same from j low) [
  | inl less ↦ subst (λ k. IsWithin D H k k p) (add-one j) (middle j less (omega arith))
  | inr same ↦ subst (λ k. IsWithin D H k k p) same first
]

-- what is below each is below the inner ones
pub inner_part : (D H : ℕ → PlanePoint) (from to : ℕ) (p : PlanePoint) → IsWithinEach D H from to p → IsBelowInner D H from to p
inner_part D H from to p each j low high = each (j + 1) (omega arith) high

-- an arc of two cones has one direction between
pub one_inner : (D H : ℕ → PlanePoint) (from to : ℕ) (p : PlanePoint) → to ≡ from + 2 → IsWithin D H (from + 1) (from + 1) p → IsBelowInner D H from to p
one_inner D H from to p two h j low high = subst (λ k. IsWithin D H (k + 1) (k + 1) p) (only j low high) h
  where
    only : (j : ℕ) → from ≤ j → j + 1 < to → from ≡ j
    only j low high = omega (arith, two)

-- ---- a chain that encloses its points

-- its cones are joined
pub enclosing_joined : (cloud : List PlanePoint) (D H : ℕ → PlanePoint) (cones : ℕ) → AreListed cloud H cones → Encloses cloud D H cones → AreJoined D H cones
enclosing_joined cloud D H cones listed all i high =
    let at = All-contains (IsBelowAll D H cones) cloud (H i) all (listed i (omega arith)) in
    let next = All-contains (IsBelowAll D H cones) cloud (H (i + 1)) all (listed (i + 1) high) in
    le_antisymm_ℤ (at (i + 1) high).begin (next i (omega arith)).end

-- and what is below all of them is below its last direction
pub last_part : (D H : ℕ → PlanePoint) (n cones : ℕ) (p : PlanePoint) → n ≡ cones → 0 < n → IsBelowAll D H cones p → IsWithin D H n (n - 1) p
last_part D H n cones p is some below = subst (λ k. IsWithin D H k (n - 1) p) after (below (n - 1) (omega arith)).end
  where
    after : (n - 1) + 1 ≡ n
    after = omega (arith, some)

-- there is an edge wherever it may be asked for
pub edges_enclosing : (cloud : List PlanePoint) (D H : ℕ → PlanePoint) (cones from : ℕ) → Turns D cones → AreListed cloud H cones → AreJoined D H cones → All (IsWithinEach D H 0 cones) cloud → AreEdges D H from cones
edges_enclosing cloud D H cones from turns listed joined all i low high aside left =
    let next = All-contains (IsWithinEach D H 0 cones) cloud (H (i + 1)) all (listed (i + 1) high) in
    record {
      level = joined i high;
      falling = before (D from) (D i) (D (i + 1)) (H (i + 1)) (H i) (turns i (omega arith)) left aside (sym (joined i high)) (next i (omega arith) (omega arith));
    }
