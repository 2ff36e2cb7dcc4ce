-- Polygons with few corners, each a corner of the hull.
use Rattle.std.specs.Prelude.{ℕ, zero, suc, ◌+◌, ◌-◌, ◌<◌, min, ℤ, pos, ◌+ℤ◌, List, [], ◌∷◌, length, map, All}
use Rattle.std.specs.Int.{int_max}
use Rattle.std.specs.List.Sorted.{IsStrictlyIncreasing}
use Rattle.bounds_model.specs.Numbers.{HasCount}
use Rattle.bounds_model.specs.Plane.{PlanePoint, point_at, turn}
use Rattle.bounds_model.specs.Fractions.{Fraction}

-- rising positions in the list of corners: at least one, and at most k
pub record FitsKgon (k : ℕ) (corners : List PlanePoint) (positions : List ℕ) : Type 0 where
  pub count : HasCount 1 (min k (length corners)) positions
  pub rising : IsStrictlyIncreasing positions
  pub in_range : All (λ i. i < length corners) positions

-- twice the area of the triangles from a to each two neighbours
abbrev pub triangulated_area : PlanePoint → List PlanePoint → ℤ
triangulated_area a [] = pos 0
triangulated_area a (b ∷ []) = pos 0
triangulated_area a (b ∷ c ∷ rest) = turn a b c +ℤ triangulated_area a (c ∷ rest)

-- twice the area of a polygon
abbrev pub twice_area : List PlanePoint → ℤ
twice_area [] = pos 0
twice_area (a ∷ rest) = triangulated_area a rest

-- the area
abbrev pub kgon_size : List PlanePoint → List ℕ → Fraction
kgon_size corners positions = record { n = twice_area (map (point_at corners) positions); d = pos 2 }

-- the greatest of 0 and of f at so many numbers from one on
abbrev pub greatest_from : (ℕ → ℤ) → ℕ → ℕ → ℤ
greatest_from f start zero = pos 0
greatest_from f start (suc count) = int_max (f start) (greatest_from f (start + 1) count)

-- how much at most so many corners after the last one add to twice the area of a polygon with this first corner
abbrev pub most_added : List PlanePoint → ℕ → ℕ → ℕ → ℤ
most_added corners first zero last = pos 0
most_added corners first (suc more) last =
    greatest_from (λ next. turn (point_at corners first) (point_at corners last) (point_at corners next) +ℤ most_added corners first more next) (last + 1) (length corners - (last + 1))
