-- How arcs grow, one direction after another, and chains, one arc after another.
use Rattle.std.proofs.Common.{◌≡◌, sym, subst, ◌⊎◌, inl, inr, ℕ, ◌+◌, ◌-◌, ◌<◌, ◌≤◌, pos, ◌*ℤ◌, ◌-ℤ◌, ◌≤ℤ◌, ◌<ℤ◌, ℤ, [], ◌∷◌, arith}
use Rattle.integers.proofs.Order.{le_from_lt, le_of_same}
use Rattle.integers.proofs.Lists.{below_or_at}
use Rattle.bounds_model.specs.Plane.{PlanePoint, cross, dot}
use Rattle.fan_test.specs.Chains.{Turns, AreJoined, IsLevel, IsArc, AreEdges}
use Rattle.model_laws.proofs.CornerLaw.{cross_self}

-- the direction before the end of an arc is not to the right of the first
pub beside : (D H : ℕ → PlanePoint) (from to k : ℕ) → to ≡ k + 1 → from < to → IsArc D H from to → pos 0 ≤ℤ cross (D from) (D k)
beside D H from to k is some arc = elim (first_or_later k is) [
  | inl same ↦ subst (λ j. pos 0 ≤ℤ cross (D from) (D j)) same (le_of_same (sym (cross_self (D from))))
  | inr later ↦ subst (λ j. pos 0 ≤ℤ cross (D from) (D j)) later.1.1 (le_from_lt (arc.left later.0 later.1.0 (omega (arith, later.1.1))))
]
  where
    first_or_later : (k : ℕ) → to ≡ k + 1 → (from ≡ k) ⊎ ((j : ℕ) × ((from ≤ j) × (j + 1 ≡ k)))
    first_or_later k is = elim (below_or_at from k (omega arith)) [ inl less ↦ inr (k - 1, (omega arith, omega arith)) | inr same ↦ inl same ]

-- what the edge at the end of an arc is, if there are edges
edge_by : (D H : ℕ → PlanePoint) (from to cones k : ℕ) → to ≡ k + 1 → from < to → to < cones → IsArc D H from to → pos 0 <ℤ cross (D from) (D to) → AreEdges D H from cones → IsLevel (D from) (D to) (H k) (H to)
edge_by D H from to cones k is some below arc left edges =
    subst (λ j. IsLevel (D from) (D j) (H k) (H j)) (sym is) (edges k (omega arith) (omega arith) (beside D H from to k is some arc) (subst (λ j. pos 0 <ℤ cross (D from) (D j)) is left))

pub edge_at : (D H : ℕ → PlanePoint) (from to cones : ℕ) → from < to → to < cones → IsArc D H from to → pos 0 <ℤ cross (D from) (D to) → AreEdges D H from cones → IsLevel (D from) (D to) (H (to - 1)) (H to)
edge_at D H from to cones some below arc left edges = edge_by D H from to cones (to - 1) (omega arith) some below arc left edges

-- joined cones are level where they meet
joint_by : (D H : ℕ → PlanePoint) (to cones k : ℕ) → to ≡ k + 1 → to < cones → AreJoined D H cones → dot (D to) (H k) ≡ dot (D to) (H to)
joint_by D H to cones k is below joined = subst (λ j. dot (D j) (H k) ≡ dot (D j) (H j)) (sym is) (joined k (omega arith))

pub joint_at : (D H : ℕ → PlanePoint) (from to cones : ℕ) → from < to → to < cones → AreJoined D H cones → dot (D to) (H (to - 1)) ≡ dot (D to) (H to)
joint_at D H from to cones some below joined = joint_by D H to cones (to - 1) (omega arith) below joined

-- with the next direction to the left of the first, and an edge, an arc is longer
arc_by : (D H : ℕ → PlanePoint) (from to k : ℕ) → to ≡ k + 1 → IsArc D H from to → pos 0 <ℤ cross (D from) (D to) → IsLevel (D from) (D to) (H k) (H to) → IsArc D H from (to + 1)
arc_by D H from to k is arc left edge = record { left = lefts; edges = levels }
  where
    at_end : (i : ℕ) → i + 1 ≡ to → i ≡ k
    at_end i e = omega arith

    lefts : (i : ℕ) → from ≤ i → i + 1 < to + 1 → pos 0 <ℤ cross (D from) (D (i + 1))
    lefts i low high = elim (below_or_at (i + 1) to high) [
      | inl less ↦ arc.left i low less
      | inr same ↦ subst (λ j. pos 0 <ℤ cross (D from) (D j)) (sym same) left
    ]

    levels : (i : ℕ) → from ≤ i → i + 1 < to + 1 → IsLevel (D from) (D (i + 1)) (H i) (H (i + 1))
    levels i low high = elim (below_or_at (i + 1) to high) [
      | inl less ↦ arc.edges i low less
      | inr same ↦ subst (λ j. IsLevel (D from) (D j) (H i) (H j)) (sym same) (subst (λ j. IsLevel (D from) (D to) (H j) (H to)) (sym (at_end i same)) edge)
    ]

pub arc_more : (D H : ℕ → PlanePoint) (from to : ℕ) → from < to → IsArc D H from to → pos 0 <ℤ cross (D from) (D to) → IsLevel (D from) (D to) (H (to - 1)) (H to) → IsArc D H from (to + 1)
arc_more D H from to some arc left edge = arc_by D H from to (to - 1) (omega arith) arc left edge

-- each number below i + 1
pub turns_more : (D : ℕ → PlanePoint) (i : ℕ) → Turns D i → pos 0 <ℤ cross (D i) (D (i + 1)) → Turns D (i + 1)
turns_more D i before here k less = elim (below_or_at k i less) [
  | inl lower ↦ before k lower
  | inr same ↦ subst (λ j. pos 0 <ℤ cross (D j) (D (j + 1))) (sym same) here
]
