-- The numbers of a fan are in their ranges.
use Rattle.std.proofs.Common.{◌≡◌, inl, inr, ◌+◌, ◌≤◌, ℤ, List, length, sym, ap, ◌∙◌, arith}
use Rattle.std.proofs.lemmas.Int.{ints}
use Rattle.std.proofs.lemmas.Bool.{cases_order}
use Rattle.bounds_model.specs.Plane.{PlanePoint}
use Rattle.bounds_model.specs.Fans.{HalfFan, HalfRanges, QuarterFan, QuarterRanges, half_directions, quarter_directions, east, west, north}
use Rattle.hull_calipers.specs.Fans.{IsPath, IsHalfPath, IsExtremeHalfCone, IsHalfDirection, IsQuarterPath, IsExtremeQuarterCone, IsQuarterDirection}
use Rattle.hull_calipers.proofs.Paths.{length_path, path_last}
use Rattle.bounded_coords.proofs.Ranges.{direction_of_short}

-- a path that ends elsewhere than to the right has a cone
some_cone : {C : Type 0} (f : C → PlanePoint) (E : PlanePoint → C → Type 0) (D : PlanePoint → Type 0) (cones : List C) (d : PlanePoint) → IsPath f E D cones d → (east ≡ d → ⊥) → 1 ≤ length cones
some_cone f E D cones d h other = elim (cases_order (length cones) 0) [
  | inl none ↦ absurd (other (sym h.begins ∙ path_last f cones d 0 (sym none)))
  | inr rest ↦ elim rest [ inl less ↦ absurd (omega arith) | inr more ↦ more ]
]

pub half_ranges : (points corners : List PlanePoint) (fan : HalfFan) → IsHalfPath points corners fan.cones fan.last → fan.last ≡ west → length (half_directions fan) ≤ length corners + 3 → length corners ≤ 10000 → length points ≤ 10000 → HalfRanges fan
half_ranges points corners fan h is few corners_few points_few = record {
  count = record {
    at_least = some_cone (λ c. c.direction) (IsExtremeHalfCone points) (IsHalfDirection corners) fan.cones fan.last h (λ e. let x = ap (λ v. v.x) (e ∙ is) in omega (arith, ints, x));
    at_most = omega (arith, few, corners_few, length_path (λ c. c.direction) fan.cones fan.last);
  };
  directions = λ i d l. direction_of_short _ (h.each i d l).short;
  points = λ i c l. let s = (h.extremes i c l).0 in let a = s.high in let b = s.low in (omega (arith, a, points_few), omega (arith, b, points_few));
}

pub quarter_ranges : (points corners : List PlanePoint) (fan : QuarterFan) → IsQuarterPath points corners fan.cones fan.last → fan.last ≡ north → length (quarter_directions fan) ≤ length corners + 2 → length corners ≤ 10000 → length points ≤ 10000 → QuarterRanges fan
quarter_ranges points corners fan h is few corners_few points_few = record {
  count = record {
    at_least = some_cone (λ c. c.direction) (IsExtremeQuarterCone points) (IsQuarterDirection corners) fan.cones fan.last h (λ e. let x = ap (λ v. v.x) (e ∙ is) in omega (arith, ints, x));
    at_most = omega (arith, few, corners_few, length_path (λ c. c.direction) fan.cones fan.last);
  };
  directions = λ i d l. direction_of_short _ (h.each i d l).short;
  points = λ i c l. let s = (h.extremes i c l).0 in let a = s.high in let b = s.low in let u = s.over in let v = s.under in
      (omega (arith, a, points_few), omega (arith, b, points_few), omega (arith, u, points_few), omega (arith, v, points_few));
}
