-- The answers on annuli, and what a checker asks of them.
use Rattle.std.specs.Prelude.{◌≡◌, ℕ, ◌^◌, ◌<◌, ◌≤◌, ℤ, pos, ◌+ℤ◌, ◌-ℤ◌, ◌*ℤ◌, ◌≤ℤ◌, List, length, All}
use Rattle.integers.specs.Total.{total}
use Rattle.integers.specs.Extremes.{greatest, least}
use Rattle.bounds_model.specs.Numbers.{IsWithin, HasCount}
use Rattle.bounds_model.specs.Plane.{PlanePoint, PlaneRatio, point_at, dot, squared_length}
use Rattle.bounds_model.specs.Fractions.{Fraction, SameValue}
use Rattle.bounds_model.specs.Annulus.{Annulus}
use Rattle.bounds_model.specs.Ranges.{IsFraction, IsPlaneRatio, IsNatural, point_limit}

-- the numbers of two points with a weight
pub record WeightedPair : Type 0 where
  pub first : ℕ
  pub second : ℕ
  pub weight : ℤ

-- an annulus, and weighted pairs of points
pub record AnnulusAnswer : Type 0 where
  pub size : Fraction
  pub centre : PlaneRatio
  pub inner : Fraction
  pub outer : Fraction
  pub pairs : List WeightedPair

-- the annulus with this centre and these squared radii
abbrev pub annulus_of : AnnulusAnswer → Annulus
annulus_of a = record { centre = a.centre; inner = a.inner; outer = a.outer }

-- the numbers of a pair are in their ranges
abbrev pub IsPairInRange : WeightedPair → Type 0
IsPairInRange pair = (pair.first ≤ point_limit) × (pair.second ≤ point_limit) × IsNatural pair.weight

-- all numbers are in their ranges
pub record AnnulusRanges (a : AnnulusAnswer) : Type 0 where
  pub size : IsFraction a.size
  pub centre : IsPlaneRatio a.centre
  pub inner : IsFraction a.inner
  pub outer : IsFraction a.outer
  pub count : HasCount 1 3 a.pairs
  pub pairs : All IsPairInRange a.pairs

-- w times the power of a point with regard to the circle around the centre through the origin: the squared distance from the centre, less a term that is the same for all points
abbrev pub power : PlaneRatio → PlanePoint → ℤ
power c p = c.w *ℤ squared_length p -ℤ pos 2 *ℤ dot (record { x = c.x; y = c.y }) p

-- the squared distance from the centre of a point of this power
abbrev pub squared_radius_at : PlaneRatio → ℤ → Fraction
squared_radius_at c h = record { n = c.w *ℤ h +ℤ (c.x *ℤ c.x +ℤ c.y *ℤ c.y); d = c.w *ℤ c.w }

-- the sum of the weights
abbrev pub pair_sum : List WeightedPair → ℤ
pair_sum pairs = total (λ pair. pair.weight) pairs

-- the weighted sum of the differences of f at the points of the pairs
abbrev pub weighted_differences : List PlanePoint → (PlanePoint → ℤ) → List WeightedPair → ℤ
weighted_differences points f pairs = total (λ pair. pair.weight *ℤ (f (point_at points pair.first) -ℤ f (point_at points pair.second))) pairs

-- what a checker asks of an annulus
pub record PassesAnnulus (points : List PlanePoint) (a : AnnulusAnswer) : Type 0 where
  pub ranges : AnnulusRanges a
  pub numbers : All (λ pair. (pair.first < length points) × (pair.second < length points)) a.pairs
  pub w_limit : a.centre.w ≤ℤ pos (2 ^ 42)
  pub x_limit : IsWithin (2 ^ 58) a.centre.x
  pub y_limit : IsWithin (2 ^ 58) a.centre.y
  pub weights : All (λ pair. pos 1 ≤ℤ pair.weight) a.pairs
  pub weight_limit : pair_sum a.pairs ≤ℤ pos (2 ^ 42)
  pub balanced_x : weighted_differences points (λ p. p.x) a.pairs ≡ pos 0
  pub balanced_y : weighted_differences points (λ p. p.y) a.pairs ≡ pos 0
  pub size : SameValue a.size (record { n = greatest (power a.centre) points -ℤ least (power a.centre) points; d = a.centre.w })
  pub least_size : SameValue a.size (record { n = weighted_differences points squared_length a.pairs; d = pair_sum a.pairs })
  pub inner : SameValue a.inner (squared_radius_at a.centre (least (power a.centre) points))
  pub outer : SameValue a.outer (squared_radius_at a.centre (greatest (power a.centre) points))
