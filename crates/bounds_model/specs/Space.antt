-- Points and vectors of space, with whole coordinates of any size.
use Rattle.std.specs.Prelude.{◌≡◌, ℕ, ℤ, pos, ◌+ℤ◌, ◌-ℤ◌, ◌*ℤ◌, List, [], ◌∷◌, slice_index_or}
use Rattle.bounds_model.specs.Numbers.{IsWithin}
use Rattle.bounds_model.specs.Plane.{PlanePoint, PlaneRatio}

-- a point of space, or a vector
pub record SpacePoint : Type 0 where
  pub x : ℤ
  pub y : ℤ
  pub z : ℤ

-- the point (x/w, y/w, z/w)
pub record SpaceRatio : Type 0 where
  pub x : ℤ
  pub y : ℤ
  pub z : ℤ
  pub w : ℤ

-- the point with all coordinates 0
abbrev pub origin : SpacePoint
origin = record { x = pos 0; y = pos 0; z = pos 0 }

-- the point of this number
abbrev pub point_at : List SpacePoint → ℕ → SpacePoint
point_at points number = slice_index_or points number origin

-- the vector from a to b
abbrev pub vector : SpacePoint → SpacePoint → SpacePoint
vector a b = record { x = b.x -ℤ a.x; y = b.y -ℤ a.y; z = b.z -ℤ a.z }

-- the sum of two vectors
abbrev pub plus : SpacePoint → SpacePoint → SpacePoint
plus a b = record { x = a.x +ℤ b.x; y = a.y +ℤ b.y; z = a.z +ℤ b.z }

-- k times a vector
abbrev pub times : ℤ → SpacePoint → SpacePoint
times k a = record { x = k *ℤ a.x; y = k *ℤ a.y; z = k *ℤ a.z }

-- the product of two vectors
abbrev pub dot : SpacePoint → SpacePoint → ℤ
dot a b = a.x *ℤ b.x +ℤ a.y *ℤ b.y +ℤ a.z *ℤ b.z

-- the length times itself
abbrev pub squared_length : SpacePoint → ℤ
squared_length a = dot a a

-- the sum of the vectors, each times its weight
abbrev pub weighted_sum : {X : Type 0} → (X → ℤ) → (X → SpacePoint) → List X → SpacePoint
weighted_sum weight at [] = origin
weighted_sum weight at (x ∷ xs) = plus (times (weight x) (at x)) (weighted_sum weight at xs)

-- the entries of a point over a denominator, which are w times the point
abbrev pub entries : SpaceRatio → SpacePoint
entries c = record { x = c.x; y = c.y; z = c.z }

-- the two name the same point
pub record SamePlace (a b : SpaceRatio) : Type 0 where
  pub in_x : a.x *ℤ b.w ≡ b.x *ℤ a.w
  pub in_y : a.y *ℤ b.w ≡ b.y *ℤ a.w
  pub in_z : a.z *ℤ b.w ≡ b.z *ℤ a.w

-- the point of the plane as a point of space at height 0
abbrev pub flat : PlanePoint → SpacePoint
flat p = record { x = p.x; y = p.y; z = pos 0 }

-- the same for a point over a denominator
abbrev pub flat_ratio : PlaneRatio → SpaceRatio
flat_ratio c = record { x = c.x; y = c.y; z = pos 0; w = c.w }

-- how far out a point may be
abbrev pub space_limit : ℕ
space_limit = 8000

-- a point whose coordinates are in bounds
pub record IsInSpace (p : SpacePoint) : Type 0 where
  pub x : IsWithin space_limit p.x
  pub y : IsWithin space_limit p.y
  pub z : IsWithin space_limit p.z
