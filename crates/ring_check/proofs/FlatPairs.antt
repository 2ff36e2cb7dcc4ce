-- Weighted pairs of points of the plane, seen at height 0.
use Rattle.std.proofs.Common.{◌≡◌, refl, ◌∙◌, ap, ap₂, ℕ, zero, suc, ℤ, pos, ◌+ℤ◌, ◌-ℤ◌, ◌*ℤ◌, List, [], ◌∷◌, map, arith}
use Rattle.std.specs.Prelude.{slice_index_or, fold}
use Rattle.std.specs.Int.{int_max, int_min}
use Rattle.std.proofs.lemmas.Int.{ints}
use Rattle.integers.specs.Extremes.{greatest, least}
use Rattle.integers.proofs.Sums.{total-same}
use Rattle.bounds_model.specs.Plane as plane
use Rattle.bounds_model.specs.Plane.{PlanePoint, PlaneRatio}
use Rattle.bounds_model.specs.Space.{SpacePoint, point_at, squared_length, flat, flat_ratio}
use Rattle.bounds_model.specs.Fractions.{Fraction}
use Rattle.bounds_model.specs.AnnulusAnswer as annuli
use Rattle.bounds_model.specs.AnnulusAnswer.{WeightedPair}
use Rattle.bounds_model.specs.ShellAnswer as shells

-- the point of a number
flat_at : (points : List PlanePoint) (i : ℕ) → point_at (map flat points) i ≡ flat (plane.point_at points i)
flat_at [] i = refl
flat_at (p ∷ points) zero = refl
flat_at (p ∷ points) (suc i) = flat_at points i

-- weighted differences of f at height 0 are those of g in the plane, where f is g there
pub flat_differences : (points : List PlanePoint) (f : SpacePoint → ℤ) (g : PlanePoint → ℤ) (pairs : List WeightedPair) → ((p : PlanePoint) → f (flat p) ≡ g p)
    → shells.weighted_differences (map flat points) f pairs ≡ annuli.weighted_differences points g pairs
flat_differences points f g pairs same =
    total-same (λ (pair : WeightedPair). pair.weight *ℤ (f (point_at (map flat points) pair.first) -ℤ f (point_at (map flat points) pair.second)))
    (λ (pair : WeightedPair). pair.weight *ℤ (g (plane.point_at points pair.first) -ℤ g (plane.point_at points pair.second))) pairs
    (λ k d l. let pair = slice_index_or pairs k d in ap₂ (λ a b. pair.weight *ℤ (a -ℤ b)) (at_number pair.first) (at_number pair.second))
  where
    at_number : (i : ℕ) → f (point_at (map flat points) i) ≡ g (plane.point_at points i)
    at_number i = ap f (flat_at points i) ∙ same (plane.point_at points i)

-- a height of 0 adds nothing
pub flat_square : (p : PlanePoint) → squared_length (flat p) ≡ plane.squared_length p
flat_square p = nothing (p.x *ℤ p.x +ℤ p.y *ℤ p.y)
  where
    nothing : (s : ℤ) → s +ℤ pos 0 *ℤ pos 0 ≡ s
    nothing s = omega (arith, ints)

pub flat_power : (c : PlaneRatio) (p : PlanePoint) → shells.power (flat_ratio c) (flat p) ≡ annuli.power c p
flat_power c p = ap₂ (λ s t. c.w *ℤ s -ℤ pos 2 *ℤ t) (flat_square p) (nothing (c.x *ℤ p.x +ℤ c.y *ℤ p.y))
  where
    nothing : (s : ℤ) → s +ℤ pos 0 *ℤ pos 0 ≡ s
    nothing s = omega (arith, ints)

pub flat_radius : (c : PlaneRatio) (h : ℤ) → shells.squared_radius_at (flat_ratio c) h ≡ annuli.squared_radius_at c h
flat_radius c h = ap (λ s. let f : Fraction = record { n = c.w *ℤ h +ℤ s; d = c.w *ℤ c.w } in f) (nothing (c.x *ℤ c.x +ℤ c.y *ℤ c.y))
  where
    nothing : (s : ℤ) → s +ℤ pos 0 *ℤ pos 0 ≡ s
    nothing s = omega (arith, ints)

-- a fold over equal values
flat_values : (f : SpacePoint → ℤ) (g : PlanePoint → ℤ) (points : List PlanePoint) → ((p : PlanePoint) → f (flat p) ≡ g p) → map f (map flat points) ≡ map g points
flat_values f g [] same = refl
flat_values f g (p ∷ points) same = ap₂ (λ v vs. v ∷ vs) (same p) (flat_values f g points same)

-- the greatest and the least value
pub flat_greatest : (f : SpacePoint → ℤ) (g : PlanePoint → ℤ) (points : List PlanePoint) → ((p : PlanePoint) → f (flat p) ≡ g p) → greatest f (map flat points) ≡ greatest g points
flat_greatest f g [] same = refl
flat_greatest f g (p ∷ points) same = ap₂ (λ v vs. fold int_max v vs) (same p) (flat_values f g points same)

pub flat_least : (f : SpacePoint → ℤ) (g : PlanePoint → ℤ) (points : List PlanePoint) → ((p : PlanePoint) → f (flat p) ≡ g p) → least f (map flat points) ≡ least g points
flat_least f g [] same = refl
flat_least f g (p ∷ points) same = ap₂ (λ v vs. fold int_min v vs) (same p) (flat_values f g points same)
