-- The answers on polygons, and what a checker asks of them.
use Rattle.std.specs.Prelude.{◌≡◌, ℕ, ◌+◌, ◌-◌, ◌*◌, ◌/◌, ◌<◌, ◌≤◌, min, if◌then◌else◌, nat_lt, ℤ, pos, ◌+ℤ◌, ◌*ℤ◌, ◌≤ℤ◌, ◌<ℤ◌, List, [], ◌∷◌, ◌++◌, length, map, take, All, slice_index_or}
use Rattle.bounds_model.specs.Numbers.{HasCount, EachBelow}
use Rattle.bounds_model.specs.Plane.{PlanePoint, point_at, turn}
use Rattle.bounds_model.specs.Fractions.{Fraction, SameValue}
use Rattle.bounds_model.specs.CornerTest.{CornersPass}
use Rattle.bounds_model.specs.Kgon.{FitsKgon, twice_area, kgon_size, most_added}
use Rattle.bounds_model.specs.Ranges.{IsFraction, IsNatural, point_limit}

-- the numbers of the hull's corners, the positions of the chosen ones, and potentials in layers
pub record KgonAnswer : Type 0 where
  pub size : Fraction
  pub corners : List ℕ
  pub chosen : List ℕ
  pub layers : ℕ
  pub potentials : List ℤ

-- the corners as points
abbrev pub corner_points : List PlanePoint → KgonAnswer → List PlanePoint
corner_points points a = map (point_at points) a.corners

-- how many pairs of positions below count have a first one below a
abbrev pub pairs_before : ℕ → ℕ → ℕ
pairs_before count a = a * (2 * count - a - 1) / 2

-- all numbers are in their ranges
pub record KgonRanges (a : KgonAnswer) : Type 0 where
  pub size : IsFraction a.size
  pub corner_count : HasCount 1 128 a.corners
  pub corners : All (λ number. number ≤ point_limit) a.corners
  pub chosen_count : HasCount 1 12 a.chosen
  pub chosen : All (λ i. i ≤ 127) a.chosen
  pub layers : a.layers ≤ 10
  pub potential_count : length a.potentials ≡ a.layers * pairs_before (length a.corners) (length a.corners)
  pub potentials : All IsNatural a.potentials

-- the potential of the positions a and b in a layer, the first of which is 1, and 0 below it: the list has the positions a in order, for each its layers, for each the positions b after a
abbrev pub potential : KgonAnswer → ℕ → ℕ → ℕ → ℤ
potential answer a layer b =
    if nat_lt 0 layer then slice_index_or answer.potentials (answer.layers * pairs_before (length answer.corners) a + (layer - 1) * (length answer.corners - 1 - a) + (b - a - 1)) (pos 0) else pos 0

-- a potential grows by at least twice the area of the triangle that one more corner adds
abbrev pub Grows : List PlanePoint → KgonAnswer → ℕ → ℕ → ℕ → ℕ → Type 0
Grows corners answer layer a b c =
    (potential answer a layer b +ℤ turn (point_at corners a) (point_at corners b) (point_at corners c)) ≤ℤ potential answer a (layer + 1) c

-- the position of the chosen corner at this place
abbrev pub chosen_at : KgonAnswer → ℕ → ℕ
chosen_at a place = slice_index_or a.chosen place 0

-- a number is below twice the size
abbrev pub IsBelowSize : KgonAnswer → ℤ → Type 0
IsBelowSize a u = (u *ℤ a.size.d) <ℤ (pos 2 *ℤ a.size.n)

-- all potentials of this first corner are below twice the size
abbrev pub StaysBelow : KgonAnswer → ℕ → Type 0
StaysBelow a first = EachBelow (length a.corners) (λ last. first < last → EachBelow a.layers (λ layer. IsBelowSize a (potential a first (layer + 1) last)))

-- twice what polygons cover at most on the chosen corners before a place, on another one there, and on later ones
abbrev pub most_with : List PlanePoint → KgonAnswer → ℕ → ℕ → ℤ
most_with corners a place other =
    twice_area (map (point_at corners) (take place a.chosen ++ other ∷ [])) +ℤ most_added corners (chosen_at a 0) (a.layers + 1 - place) other

-- with no corner between the one at a place and the next one, in place of that next one, the size is reached
abbrev pub NoneBetween : List PlanePoint → KgonAnswer → ℕ → Type 0
NoneBetween corners a place = EachBelow (chosen_at a (place + 1)) (λ other. chosen_at a place < other → IsBelowSize a (most_with corners a (place + 1) other))

-- what a checker asks of a polygon
pub record PassesKgon (k : ℕ) (points : List PlanePoint) (a : KgonAnswer) : Type 0 where
  pub ranges : KgonRanges a
  pub numbers : All (λ number. number < length points) a.corners
  pub corners : CornersPass points (corner_points points a)
  pub chosen : FitsKgon k (corner_points points a) a.chosen
  pub size : SameValue a.size (kgon_size (corner_points points a) a.chosen)
  pub layers : a.layers ≡ min k (length a.corners) - 2
  pub grows : EachBelow (length a.corners) (λ c. EachBelow c (λ b. EachBelow b (λ a'. EachBelow a.layers (λ layer. Grows (corner_points points a) a layer a' b c))))
  pub under_size : All (λ u. (u *ℤ a.size.d) ≤ℤ (pos 2 *ℤ a.size.n)) a.potentials
  pub earlier_below : EachBelow (chosen_at a 0) (StaysBelow a)
  pub few : length a.corners < 3 → a.chosen ≡ 0 ∷ []
  pub none_between : EachBelow (length a.chosen - 1) (NoneBetween (corner_points points a) a)
