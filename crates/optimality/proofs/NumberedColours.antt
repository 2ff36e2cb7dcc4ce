-- Colours of points by their numbers: whatever tells that a point is listed, its colour depends on the number alone.
use Rattle.std.proofs.Common.{◌≡◌, ◌⊎◌, inl, inr, sym, ◌∙◌, subst, ℕ, zero, suc, ◌<◌, ◌≤◌, ℤ, ◌≤ℤ◌, ◌<ℤ◌, List, length, Contains, arith}
use Rattle.std.proofs.lemmas.Bool.{cases_eq}
use Rattle.std.proofs.lemmas.Int.{ints, by_lt_z}
use Rattle.std.proofs.lemmas.List.{get_or_default}
use Rattle.std.proofs.lemmas.List.Elements.{Contains-get_or}
use Rattle.integers.proofs.Lists.{before_or_after}
use Rattle.bounds_model.specs.Plane.{PlanePoint, point_at, origin}
use Rattle.optimality.proofs.Colours.{AreNear, Colouring, IsColoured}

-- so many colours, and points of one colour are near each other
pub record HasColours (side count : ℕ) (points : List PlanePoint) : Type 0 where
  pub colour : ℕ → ℕ
  pub below : (k : ℕ) → k < length points → colour k < count
  pub near : (j k : ℕ) → j < length points → k < length points → colour j ≡ colour k → AreNear side (point_at points j) (point_at points k)

-- the point at the number where a point is listed
pub listed_is : (points : List PlanePoint) (p : PlanePoint) (m : Contains points p) → point_at points m.0 ≡ p
listed_is points p m = get_or_default points m.0 origin p m.1 ∙ m.2

-- a colouring gives each number the colour of its point
pub by_number : (side count : ℕ) (points : List PlanePoint) (colour : Colouring points) → IsColoured side count points colour → HasColours side count points
by_number side count points colour h = record {
  colour = λ k. pick k (before_or_after k (length points));
  below = λ k l. pick_below k (before_or_after k (length points)) l;
  near = λ j k l m e. pick_near j k (before_or_after j (length points)) (before_or_after k (length points)) l m e;
}
  where
    pick : (k : ℕ) → (k < length points) ⊎ (length points ≤ k) → ℕ
    pick k (inl l) = colour (point_at points k) (Contains-get_or points k origin l)
    pick k (inr past) = 0

    past_none : {X : Type 0} (k : ℕ) → length points ≤ k → k < length points → X
    past_none k p l = absurd (omega (arith, p, l))

    pick_below : (k : ℕ) (d : (k < length points) ⊎ (length points ≤ k)) → k < length points → pick k d < count
    pick_below k (inl l) _ = h.below (point_at points k) (Contains-get_or points k origin l)
    pick_below k (inr past) l = past_none k past l

    pick_near : (j k : ℕ) (d : (j < length points) ⊎ (length points ≤ j)) (e : (k < length points) ⊎ (length points ≤ k)) → j < length points → k < length points → pick j d ≡ pick k e
        → AreNear side (point_at points j) (point_at points k)
    pick_near j k (inl l) (inl m) _ _ same = h.near (point_at points j) (point_at points k) (Contains-get_or points j origin l) (Contains-get_or points k origin m) same
    pick_near j k (inl l) (inr past) _ m same = past_none k past m
    pick_near j k (inr past) e l _ same = past_none j past l

-- and these are colours of the points
abbrev pub colour_of : {side count : ℕ} {points : List PlanePoint} → HasColours side count points → Colouring points
colour_of h p m = h.colour m.0

pub coloured_by_number : (side count : ℕ) (points : List PlanePoint) (h : HasColours side count points) → IsColoured side count points (colour_of h)
coloured_by_number side count points h = record {
  below = λ p m. h.below m.0 m.1;
  near = λ p q m n e. subst (λ p. AreNear side p q) (listed_is points p m) (subst (AreNear side (point_at points m.0)) (listed_is points q n) (h.near m.0 n.0 m.1 n.1 e));
}

-- of the numbers below n that have this colour, one has the least value
pub record HasLowest (colour : ℕ → ℕ) (value : ℕ → ℤ) (chosen n : ℕ) : Type 0 where
  pub number : ℕ
  pub below : number < n
  pub has : colour number ≡ chosen
  pub least : (k : ℕ) → k < n → colour k ≡ chosen → value number ≤ℤ value k

-- there is one, or none has the colour
pub lowest_or_none : (colour : ℕ → ℕ) (value : ℕ → ℤ) (chosen n : ℕ) → HasLowest colour value chosen n ⊎ ((k : ℕ) → k < n → ¬ (colour k ≡ chosen))
lowest_or_none colour value chosen zero = inr (λ k l e. absurd (omega (arith, l)))
lowest_or_none colour value chosen (suc n) = elim (lowest_or_none colour value chosen n) [
  | inl low ↦ elim (cases_eq (colour n) chosen) [ inl e ↦ inl (both low e) | inr other ↦ inl (kept low other) ]
  | inr none ↦ elim (cases_eq (colour n) chosen) [ inl e ↦ inl (alone none e) | inr other ↦ inr (λ k l. elim (earlier k l) [ inl sooner ↦ none k sooner | inr now ↦ λ e. other (subst (λ j. colour j ≡ chosen) now e) ]) ]
]
  where
    earlier : (k : ℕ) → k < suc n → (k < n) ⊎ (k ≡ n)
    earlier k l = elim (before_or_after k n) [ inl sooner ↦ inl sooner | inr late ↦ inr (omega (arith, l, late)) ]

    le_itself : (z : ℤ) → z ≤ℤ z
    le_itself z = omega (arith, ints)

    le_trans : (a b c : ℤ) → a ≤ℤ b → b ≤ℤ c → a ≤ℤ c
    le_trans a b c h k = omega (arith, ints, h, k)

    lt_le : (a b : ℤ) → a <ℤ b → a ≤ℤ b
    lt_le a b h = omega (arith, ints, h)

    later : (k : ℕ) → k < n → k < suc n
    later k l = omega (arith, l)

    last : n < suc n
    last = omega arith

    alone : ((k : ℕ) → k < n → ¬ (colour k ≡ chosen)) → colour n ≡ chosen → HasLowest colour value chosen (suc n)
    alone none e = record {
      number = n;
      below = last;
      has = e;
      least = λ k l has. elim (earlier k l) [ inl sooner ↦ absurd (none k sooner has) | inr now ↦ subst (λ j. value n ≤ℤ value j) (sym now) (le_itself (value n)) ];
    }

    kept : HasLowest colour value chosen n → ¬ (colour n ≡ chosen) → HasLowest colour value chosen (suc n)
    kept low other = record {
      number = low.number;
      below = later low.number low.below;
      has = low.has;
      least = λ k l has. elim (earlier k l) [ inl sooner ↦ low.least k sooner has | inr now ↦ absurd (other (subst (λ j. colour j ≡ chosen) now has)) ];
    }

    both : HasLowest colour value chosen n → colour n ≡ chosen → HasLowest colour value chosen (suc n)
    both low e = by_lt_z (value n) (value low.number)
        (λ lower. record {
          number = n;
          below = last;
          has = e;
          least = λ k l has. elim (earlier k l) [ inl sooner ↦ le_trans (value n) (value low.number) (value k) (lt_le (value n) (value low.number) lower) (low.least k sooner has) | inr now ↦ subst (λ j. value n ≤ℤ value j) (sym now) (le_itself (value n)) ];
        })
        (λ not_lower. record {
          number = low.number;
          below = later low.number low.below;
          has = low.has;
          least = λ k l has. elim (earlier k l) [ inl sooner ↦ low.least k sooner has | inr now ↦ subst (λ j. value low.number ≤ℤ value j) (sym now) not_lower ];
        })
