-- The search for the edge of an arc that decides for a point.
use Rattle.std.proofs.Common.{◌≡◌, refl, subst, ◌⊎◌, inl, inr, ℕ, ◌+◌, ◌-◌, ◌<◌, ◌≤◌, ℤ, ◌≤ℤ◌, arith}
use Rattle.integers.proofs.Order.{le_trans_ℤ}
use Rattle.bounds_model.specs.Plane.{PlanePoint, dot}
use Rattle.fan_test.specs.Chains.{IsArc, IsEdgeFor}
use Rattle.fan_test.proofs.Arcs.{falls}

-- the edge that decides for what is so far along the first direction is at low or after it, and before low + size
pub record HasEdge (D H : ℕ → PlanePoint) (from to : ℕ) (along : ℤ) (low size : ℕ) : Type 0 where
  pub after : from ≤ low
  pub some : 1 ≤ size
  pub before : low + size < to
  pub begin : (low ≡ from) ⊎ (along ≤ℤ dot (D from) (H low))
  pub end : (low + size + 1 ≡ to) ⊎ (dot (D from) (H (low + size)) ≤ℤ along)

-- it is one of all edges
pub whole_arc : (D H : ℕ → PlanePoint) (from to : ℕ) (along : ℤ) (size : ℕ) → from + 1 < to → size ≡ to - 1 - from → HasEdge D H from to along from size
whole_arc D H from to along size inner is = record {
  after = omega arith;
  some = omega (arith, inner, is);
  before = omega (arith, inner, is);
  begin = inl refl;
  end = inl (omega (arith, inner, is));
}

-- the point in the middle is behind: the edge is before it
pub stays : (D H : ℕ → PlanePoint) (from to : ℕ) (along : ℤ) (low size half : ℕ) → IsArc D H from to → HasEdge D H from to along low size → 1 < size → half + half ≤ size
    → dot (D from) (H (low + half)) ≤ℤ along → HasEdge D H from to along low (size - half)
stays D H from to along low size half arc near many small behind =
    let begins = near.after in
    let ends = near.before in
    record {
      after = near.after;
      some = omega arith;
      before = omega arith;
      begin = near.begin;
      end = inr (le_trans_ℤ (falls D H from to arc (low + half) (low + (size - half)) (omega arith) (omega arith) (omega arith)) behind);
    }

-- the point in the middle is ahead: the edge is there or after it
pub moves : (D H : ℕ → PlanePoint) (from to : ℕ) (along : ℤ) (low size half : ℕ) → HasEdge D H from to along low size → 1 < size → half + half ≤ size
    → along ≤ℤ dot (D from) (H (low + half)) → HasEdge D H from to along (low + half) (size - half)
moves D H from to along low size half near many small ahead =
    let begins = near.after in
    let ends = near.before in
    record {
      after = omega arith;
      some = omega arith;
      before = omega arith;
      begin = inr ahead;
      end = elim near.end [ inl e ↦ inl (omega arith) | inr l ↦ inr (subst (λ k. dot (D from) (H k) ≤ℤ along) (whole low size half small) l) ];
    }
  where
    whole : (low size half : ℕ) → half + half ≤ size → low + size ≡ low + half + (size - half)
    whole low size half small = omega arith

-- no edge is left but one
pub one_left : (D H : ℕ → PlanePoint) (from to : ℕ) (along : ℤ) (low size : ℕ) → HasEdge D H from to along low size → size ≤ 1 → HasEdge D H from to along low 1
one_left D H from to along low size near few = subst (λ n. HasEdge D H from to along low n) (one size near.some few) near
  where
    one : (n : ℕ) → 1 ≤ n → n ≤ 1 → n ≡ 1
    one n h k = omega arith

-- and it decides
pub found : (D H : ℕ → PlanePoint) (from to : ℕ) (p : PlanePoint) (along : ℤ) (low : ℕ) → HasEdge D H from to along low 1 → along ≡ dot (D from) p → IsEdgeFor D H from to p low
found D H from to p along low near is = record {
  after = near.after;
  before = near.before;
  begin = elim near.begin [ inl e ↦ inl e | inr l ↦ inr (subst (λ z. z ≤ℤ dot (D from) (H low)) is l) ];
  end = elim near.end [ inl e ↦ inl (two low e) | inr l ↦ inr (subst (λ z. dot (D from) (H (low + 1)) ≤ℤ z) is l) ];
}
  where
    two : (n : ℕ) → n + 1 + 1 ≡ to → n + 2 ≡ to
    two n e = omega (arith, e)
