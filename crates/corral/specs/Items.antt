-- Items: points as seen from the first one, or differences of the points of two sets.
use Rattle.std.specs.Prelude.{◌≡◌, ◌<◌, ℤ, pos, List, length, map}
use Rattle.std.specs.Coded.{Coded-set, coded_ℕ, ×_prop, le_prop}
use Rattle.bounds_model.specs.Space.{SpacePoint, vector, point_at}
use Rattle.bounded_coords.specs.Clouds.{points_of}
use Rattle.corral.specs.declared.items.Id.{Id}
use Rattle.corral.specs.declared.items.Items.{Items}
use Rattle.corral.specs.declared.items.Items.TheVariants.{Points, Differences}

-- there is an item of this name
abbrev pub IsItem : {K P : Type 0} → Items K P → Id → Type 0
IsItem (Points cloud) id = (id.first < length (points_of cloud)) × (id.second ≡ id.first)
IsItem (Differences p q) id = (id.first < length (points_of p)) × (id.second < length (points_of q))

-- the vector of an item, where `place` gives the coordinates of a point
abbrev pub item : {K P : Type 0} → (P → SpacePoint) → Items K P → Id → SpacePoint
item place (Points cloud) id = vector (point_at (map place (points_of cloud)) 0) (point_at (map place (points_of cloud)) id.first)
item place (Differences p q) id = vector (point_at (map place (points_of q)) id.second) (point_at (map place (points_of p)) id.first)

-- the points that the first numbers of names stand for
abbrev pub first_points : {K P : Type 0} → Items K P → List P
first_points (Points cloud) = points_of cloud
first_points (Differences p q) = points_of p

-- the points that the second numbers stand for
abbrev pub second_points : {K P : Type 0} → Items K P → List P
second_points (Points cloud) = points_of cloud
second_points (Differences p q) = points_of q

-- points come with the slack of balls, and differences with that of distances
abbrev pub square_of : {K P : Type 0} → Items K P → ℤ
square_of (Points cloud) = pos 1
square_of (Differences p q) = pos 0

-- this holds in one way at most
pub IsItem-prop : {K P : Type 0} (items : Items K P) (id : Id) → IsProp (IsItem items id)
IsItem-prop (Points cloud) id = ×_prop le_prop (Coded-set coded_ℕ id.second id.first)
IsItem-prop (Differences p q) id = ×_prop le_prop le_prop
