-- The two ends of a chain: the lowest points in a direction are the furthest out in the opposite one.
use Rattle.std.proofs.Common.{◌≡◌, sym, subst, ap₂, ◌↔◌, ℕ, ◌+◌, ◌<◌, ℤ, pos, neg_ℤ, ◌+ℤ◌, ◌-ℤ◌, ◌*ℤ◌, ◌≤ℤ◌, ◌<ℤ◌, [], ◌∷◌, arith, length, get_or}
use Rattle.std.specs.Prelude.{List, Contains}
use Rattle.std.proofs.lemmas.Int.{ints}
use Rattle.std.proofs.lemmas.List.{get_or_default}
use Rattle.integers.proofs.Identities.{den-ring, read, polys}
use Rattle.bounds_model.specs.Plane.{PlanePoint, point_at, origin, dot, cross, quarter_turn}
use Rattle.fan_test.specs.Chains.{Turns, Encloses}
use Rattle.fan_test.specs.Ends.{opposite, AreEnds}

-- ---- opposite and turned directions

opposite_dot : (d p : PlanePoint) → dot (opposite d) p ≡ neg_ℤ (dot d p)
opposite_dot d p = parts d.x d.y p.x p.y
  where
    parts : (dx dy px py : ℤ) → neg_ℤ dx *ℤ px +ℤ neg_ℤ dy *ℤ py ≡ neg_ℤ (dx *ℤ px +ℤ dy *ℤ py)
    parts dx dy px py = read (dx ∷ dy ∷ px ∷ py ∷ []) (λ xs a b c d. simp (a, b, c, d, polys) (den-ring xs _ _ tt))

-- the order along the opposite direction
pub opposite_le : (d p q : PlanePoint) → (dot (opposite d) p ≤ℤ dot (opposite d) q) ↔ (dot d q ≤ℤ dot d p)
opposite_le d p q = subst (λ P. P ↔ (dot d q ≤ℤ dot d p)) (sym same) (flipped, flipped_back)
  where
    same : (dot (opposite d) p ≤ℤ dot (opposite d) q) ≡ (neg_ℤ (dot d p) ≤ℤ neg_ℤ (dot d q))
    same = ap₂ (λ a b. a ≤ℤ b) (opposite_dot d p) (opposite_dot d q)

    flipped : {a b : ℤ} → neg_ℤ a ≤ℤ neg_ℤ b → b ≤ℤ a
    flipped h = omega (arith, ints)

    flipped_back : {a b : ℤ} → b ≤ℤ a → neg_ℤ a ≤ℤ neg_ℤ b
    flipped_back h = omega (arith, ints)

opposite_cross : (d e : PlanePoint) → cross (opposite d) (opposite e) ≡ cross d e
opposite_cross d e = parts d.x d.y e.x e.y
  where
    parts : (dx dy ex ey : ℤ) → neg_ℤ dx *ℤ neg_ℤ ey -ℤ neg_ℤ dy *ℤ neg_ℤ ex ≡ dx *ℤ ey -ℤ dy *ℤ ex
    parts dx dy ex ey = read (dx ∷ dy ∷ ex ∷ ey ∷ []) (λ xs a b c d. simp (a, b, c, d, polys) (den-ring xs _ _ tt))

turned_cross : (d e : PlanePoint) → cross (quarter_turn d) (quarter_turn e) ≡ cross d e
turned_cross d e = parts d.x d.y e.x e.y
  where
    parts : (dx dy ex ey : ℤ) → neg_ℤ dy *ℤ ex -ℤ dx *ℤ neg_ℤ ey ≡ dx *ℤ ey -ℤ dy *ℤ ex
    parts dx dy ex ey = read (dx ∷ dy ∷ ex ∷ ey ∷ []) (λ xs a b c d. simp (a, b, c, d, polys) (den-ring xs _ _ tt))

-- opposite directions turn as the directions do
pub opposite_turns : (D : ℕ → PlanePoint) (cones : ℕ) → Turns D cones → Turns (λ i. opposite (D i)) cones
opposite_turns D cones turns k less = subst (λ z. pos 0 <ℤ z) (sym (opposite_cross (D k) (D (k + 1)))) (turns k less)

-- and so do directions that are turned by a right angle
pub turned_turns : (D : ℕ → PlanePoint) (cones : ℕ) → Turns D cones → Turns (λ i. quarter_turn (D i)) cones
turned_turns D cones turns k less = subst (λ z. pos 0 <ℤ z) (sym (turned_cross (D k) (D (k + 1)))) (turns k less)

-- ---- both ends

-- where the one end is furthest out in the directions, and the other in the opposite ones, both are extreme, and where both are, that holds
pub both_ends : (cloud : List PlanePoint) (D : ℕ → PlanePoint) (high low : ℕ → ℕ) (cones : ℕ)
    → Encloses cloud D (λ i. point_at cloud (high i)) cones → Encloses cloud (λ i. opposite (D i)) (λ i. point_at cloud (low i)) cones → AreEnds cloud D high low cones
both_ends cloud D high low cones highs lows i less = (
  record {
    highest = λ k d listed. (highs k d listed i less).begin;
    lowest = λ k d listed. (opposite_le (D i) (get_or cloud k d) (point_at cloud (low i))).0 (lows k d listed i less).begin;
  },
  record {
    highest = λ k d listed. (highs k d listed i less).end;
    lowest = λ k d listed. (opposite_le (D (i + 1)) (get_or cloud k d) (point_at cloud (low i))).0 (lows k d listed i less).end;
  },
)

pub high_end : (cloud : List PlanePoint) (D : ℕ → PlanePoint) (high low : ℕ → ℕ) (cones : ℕ) → AreEnds cloud D high low cones → Encloses cloud D (λ i. point_at cloud (high i)) cones
high_end cloud D high low cones ends k d listed i less = record { begin = (ends i less).0.highest k d listed; end = (ends i less).1.highest k d listed }

pub low_end : (cloud : List PlanePoint) (D : ℕ → PlanePoint) (high low : ℕ → ℕ) (cones : ℕ) → AreEnds cloud D high low cones → Encloses cloud (λ i. opposite (D i)) (λ i. point_at cloud (low i)) cones
low_end cloud D high low cones ends k d listed i less = record {
  begin = (opposite_le (D i) (get_or cloud k d) (point_at cloud (low i))).1 ((ends i less).0.lowest k d listed);
  end = (opposite_le (D (i + 1)) (get_or cloud k d) (point_at cloud (low i))).1 ((ends i less).1.lowest k d listed);
}

-- the point of a number is listed
pub listed_at : (cloud : List PlanePoint) (i : ℕ) → i < length cloud → Contains cloud (point_at cloud i)
listed_at cloud i below = (i, below, get_or_default cloud i (point_at cloud i) origin below)
