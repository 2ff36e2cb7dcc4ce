-- What the directions of a fan are.
use Prim.Native.Nat.{◌∣◌}
use Rattle.std.proofs.Common.{◌≡◌, ◌⊎◌, inl, inr, ℕ, zero, suc, ◌<◌, ◌≤◌, ℤ, pos, neg_ℤ, ◌<ℤ◌, List, [], ◌∷◌, length, refl, sym, ap, ap₂, subst, ◌∙◌, arith}
use Rattle.std.specs.Prelude.{SomeIndex, nat_abs}
use Rattle.std.specs.Int.{IsGcd}
use Rattle.std.proofs.lemmas.Int.{ints}
use Rattle.std.proofs.lemmas.Bool.{cases_order}
use Rattle.std.proofs.Math.Nat.{eq-one_of_dvd-one}
use Rattle.integers.proofs.Identities.{den-ring, read, polys}
use Rattle.bounds_model.specs.Plane.{PlanePoint, dot, cross}
use Rattle.bounds_model.specs.Fractions.{HaveNoCommonFactor}
use Rattle.bounds_model.specs.Fans.{IsShort, east, west, north}
use Rattle.bounds_model.specs.PlainFans.{edge, IsNormal, IsNormalOrParallel}
use Rattle.hull_calipers.specs.declared.sides.Side.{Side}
use Rattle.hull_calipers.specs.declared.sides.Side.TheVariants.{Right, Top, Left, Bottom}
use Rattle.hull_calipers.specs.declared.directions.Direction.{Direction}
use Rattle.hull_calipers.specs.declared.pairs.AntipodalPair.{AntipodalPair}
use Rattle.hull_calipers.specs.Vectors.{direction_of}
use Rattle.hull_calipers.specs.ExtremeCorners.{aligned, turned, next_side, IsUpper}
use Rattle.hull_calipers.specs.CaliperMoves.{IsLimited}
use Rattle.hull_calipers.specs.Fans.{IsHalfDirection, IsQuarterDirection}
use Rattle.hull_calipers.proofs.SeenVectors.{dot-turned, opposite_dot}
use Rattle.hull_calipers.proofs.NextDirections.{IsNext}
use Rattle.hull_calipers.proofs.AntipodalPairs.{IsTurningPair, MeetsOne, meets_edge}

-- ---- lowest terms and limits

abs_neg : (m : ℕ) → nat_abs (neg_ℤ (pos m)) ≡ m
abs_neg zero = refl
abs_neg (suc m) = refl

no_common : (x y : ℕ) (a b : ℤ) → IsGcd x y 1 → nat_abs a ≡ x → nat_abs b ≡ y → HaveNoCommonFactor (a ∷ b ∷ [])
no_common x y a b lowest is_a is_b = λ k all. eq-one_of_dvd-one (lowest.2 k (subst (λ v. k ∣ v) is_a (all 0 (pos 0) (omega arith))) (subst (λ v. k ∣ v) is_b (all 1 (pos 0) (omega arith))))

no_common_turned : (x y : ℕ) (a b : ℤ) → IsGcd x y 1 → nat_abs a ≡ y → nat_abs b ≡ x → HaveNoCommonFactor (a ∷ b ∷ [])
no_common_turned x y a b lowest is_a is_b = λ k all. eq-one_of_dvd-one (lowest.2 k (subst (λ v. k ∣ v) is_b (all 1 (pos 0) (omega arith))) (subst (λ v. k ∣ v) is_a (all 0 (pos 0) (omega arith))))

lowest_turned : (side : Side) (n : Direction) → IsGcd n.x n.y 1 → HaveNoCommonFactor ((turned side (direction_of n)).x ∷ (turned side (direction_of n)).y ∷ [])
lowest_turned Right n h = no_common n.x n.y (pos n.x) (pos n.y) h refl refl
lowest_turned Top n h = no_common_turned n.x n.y (neg_ℤ (pos n.y)) (pos n.x) h (abs_neg n.y) refl
lowest_turned Left n h = no_common n.x n.y (neg_ℤ (pos n.x)) (neg_ℤ (pos n.y)) h (abs_neg n.x) (abs_neg n.y)
lowest_turned Bottom n h = no_common_turned n.x n.y (pos n.y) (neg_ℤ (pos n.x)) h refl (abs_neg n.x)

short_turned : (side : Side) (n : Direction) → IsLimited n → IsShort (turned side (direction_of n))
short_turned side n h = of side h.x h.y
  where
    of : (side : Side) → n.x ≤ 400000 → n.y ≤ 400000 → IsShort (turned side (direction_of n))
    of Right x y = record { x = record { low = omega (arith, ints, x); high = omega (arith, ints, x) }; y = record { low = omega (arith, ints, y); high = omega (arith, ints, y) } }
    of Top x y = record { x = record { low = omega (arith, ints, y); high = omega (arith, ints, y) }; y = record { low = omega (arith, ints, x); high = omega (arith, ints, x) } }
    of Left x y = record { x = record { low = omega (arith, ints, x); high = omega (arith, ints, x) }; y = record { low = omega (arith, ints, y); high = omega (arith, ints, y) } }
    of Bottom x y = record { x = record { low = omega (arith, ints, y); high = omega (arith, ints, y) }; y = record { low = omega (arith, ints, x); high = omega (arith, ints, x) } }

pub up_is_north : (n : Direction) → n.x ≡ 0 → n.y ≡ 1 → direction_of n ≡ north
up_is_north n x y = ap₂ (λ x y. let r : PlanePoint = record { x = pos x; y = pos y } in r) x y

-- ---- half a turn

dot-comm : (a b : PlanePoint) → dot a b ≡ dot b a
dot-comm a b = read (a.x ∷ a.y ∷ b.x ∷ b.y ∷ []) (λ xs a b c d. simp (a, b, c, d, polys) (den-ring xs _ _ tt))

pub normal_same : (side : Side) (n e : PlanePoint) → dot n (aligned side e) ≡ pos 0 → dot e (turned side n) ≡ pos 0
normal_same side n e h = dot-comm e (turned side n) ∙ dot-turned side n e ∙ h

pub normal_opposite : (side : Side) (n e : PlanePoint) → dot n (aligned (next_side (next_side side)) e) ≡ pos 0 → dot e (turned side n) ≡ pos 0
normal_opposite side n e h = zero_of (dot e (turned side n)) (dot (turned side n) e) (dot (turned (next_side (next_side side)) n) e) (dot-comm e (turned side n)) (opposite_dot side n e) (dot-turned (next_side (next_side side)) n e ∙ h)
  where
    zero_of : (a b c : ℤ) → a ≡ b → c ≡ neg_ℤ b → c ≡ pos 0 → a ≡ pos 0
    zero_of a b c e f g = omega (arith, ints)

-- at right angles to an edge of one of the corners
pub pair_normal : (points corners : List PlanePoint) (side : Side) (high_at low_at : ℕ) (d n : Direction) (pair : AntipodalPair) → 1 ≤ length corners → IsTurningPair points corners side high_at low_at d pair → MeetsOne n pair
    → SomeIndex corners (λ i. IsNormal (edge corners i) (turned side (direction_of n)))
pair_normal points corners side high_at low_at d n pair some t (inl met) =
    let found = meets_edge corners pair.high n some t.high.caliper met in
    (found.0, found.1, record { long = found.2.0; right_angle = normal_same side (direction_of n) (edge corners found.0) (subst (λ s. dot (direction_of n) (aligned s (edge corners found.0)) ≡ pos 0) t.high.side_is found.2.1) })
pair_normal points corners side high_at low_at d n pair some t (inr met) =
    let found = meets_edge corners pair.low n some t.low.caliper met in
    (found.0, found.1, record { long = found.2.0; right_angle = normal_opposite side (direction_of n) (edge corners found.0) (subst (λ s. dot (direction_of n) (aligned s (edge corners found.0)) ≡ pos 0) t.low.side_is found.2.1) })

-- the next direction of a half fan
pub half_direction : (corners : List PlanePoint) (side : Side) (d n : Direction) → IsUpper side → IsNext d n → (0 < n.x → SomeIndex corners (λ i. IsNormal (edge corners i) (turned side (direction_of n)))) → IsHalfDirection corners (turned side (direction_of n))
half_direction corners side d n upper next met = record {
  lowest = lowest_turned side n next.lowest;
  short = short_turned side n next.limited;
  kind = elim (cases_order n.x 0) [
    | inl none ↦ at_end side upper (up_is_north n none (next.north none))
    | inr rest ↦ elim rest [ inl less ↦ absurd (omega arith) | inr more ↦ inr (inr (above side upper more next.up, inr (met more))) ]
  ];
}
  where
    at_end : (side : Side) → IsUpper side → direction_of n ≡ north → (turned side (direction_of n) ≡ east) ⊎ ((turned side (direction_of n) ≡ west) ⊎ ((pos 0 <ℤ (turned side (direction_of n)).y) × ((turned side (direction_of n) ≡ north) ⊎ SomeIndex corners (λ i. IsNormal (edge corners i) (turned side (direction_of n))))))
    at_end Right upper is = inr (inr (subst (λ v. pos 0 <ℤ v.y) (sym is) (omega (arith, ints)), inl is))
    at_end Top upper is = inr (inl (ap (turned Top) is))
    at_end Left upper is = absurd upper
    at_end Bottom upper is = absurd upper

    above : (side : Side) → IsUpper side → 0 < n.x → 0 < n.y → pos 0 <ℤ (turned side (direction_of n)).y
    above Right upper x y = omega (arith, ints, y)
    above Top upper x y = omega (arith, ints, x)
    above Left upper x y = absurd upper
    above Bottom upper x y = absurd upper

-- the first direction
pub half_direction_east : (corners : List PlanePoint) → IsHalfDirection corners east
half_direction_east corners = record {
  lowest = λ k all. eq-one_of_dvd-one (all 0 (pos 0) (omega arith));
  short = record { x = record { low = omega (arith, ints); high = omega (arith, ints) }; y = record { low = omega (arith, ints); high = omega (arith, ints) } };
  kind = inl refl;
}

-- ---- a quarter turn

pub normal_or_parallel : (side : Side) (n e : PlanePoint) → dot n (aligned side e) ≡ pos 0 → (dot e n ≡ pos 0) ⊎ (cross e n ≡ pos 0)
normal_or_parallel Right n e h = inl (normal_same Right n e h)
normal_or_parallel Left n e h = inl (normal_opposite Right n e h)
normal_or_parallel Top n e h = inr (zero_of (cross e n) (dot n (aligned Top e)) (read (n.x ∷ n.y ∷ e.x ∷ e.y ∷ []) (λ xs a b c d. simp (a, b, c, d, polys) (den-ring xs _ _ tt))) h)
  where
    zero_of : (a b : ℤ) → a ≡ neg_ℤ b → b ≡ pos 0 → a ≡ pos 0
    zero_of a b e f = omega (arith, ints)
normal_or_parallel Bottom n e h = inr (read (n.x ∷ n.y ∷ e.x ∷ e.y ∷ []) (λ xs a b c d. simp (a, b, c, d, polys) (den-ring xs _ _ tt)) ∙ h)

pub pair_normal_or_parallel : (points corners : List PlanePoint) (side : Side) (high_at low_at : ℕ) (d n : Direction) (pair : AntipodalPair) → 1 ≤ length corners → IsTurningPair points corners side high_at low_at d pair → MeetsOne n pair
    → SomeIndex corners (λ i. IsNormalOrParallel (edge corners i) (direction_of n))
pair_normal_or_parallel points corners side high_at low_at d n pair some t (inl met) =
    let found = meets_edge corners pair.high n some t.high.caliper met in
    (found.0, found.1, record { long = found.2.0; normal_or_parallel = normal_or_parallel pair.high.side (direction_of n) (edge corners found.0) found.2.1 })
pair_normal_or_parallel points corners side high_at low_at d n pair some t (inr met) =
    let found = meets_edge corners pair.low n some t.low.caliper met in
    (found.0, found.1, record { long = found.2.0; normal_or_parallel = normal_or_parallel pair.low.side (direction_of n) (edge corners found.0) found.2.1 })

-- the next direction of a quarter fan
pub quarter_direction : (corners : List PlanePoint) (d n : Direction) → IsNext d n → (0 < n.x → SomeIndex corners (λ i. IsNormalOrParallel (edge corners i) (direction_of n))) → IsQuarterDirection corners (direction_of n)
quarter_direction corners d n next met = record {
  lowest = lowest_turned Right n next.lowest;
  short = short_turned Right n next.limited;
  kind = elim (cases_order n.x 0) [
    | inl none ↦ inr (inl (up_is_north n none (next.north none)))
    | inr rest ↦ elim rest [ inl less ↦ absurd (omega arith) | inr more ↦ let up = next.up in inr (inr ((omega (arith, ints, more), omega (arith, ints, up)), met more)) ]
  ];
}

pub quarter_direction_east : (corners : List PlanePoint) → IsQuarterDirection corners east
quarter_direction_east corners = record {
  lowest = λ k all. eq-one_of_dvd-one (all 0 (pos 0) (omega arith));
  short = record { x = record { low = omega (arith, ints); high = omega (arith, ints) }; y = record { low = omega (arith, ints); high = omega (arith, ints) } };
  kind = inl refl;
}
