-- Coordinates of the centre that the points leave open: those that the coordinates before them determine at all points.
use Rattle.std.specs.Prelude.{◌≡◌, ◌≢◌, ◌⊎◌, ℕ, ◌<◌, pos, List, length}
use Rattle.bounds_model.specs.Space.{SpacePoint, SpaceRatio, point_at, dot as product}
use Rattle.min_shell.specs.declared.lifted_vectors.LiftedVector.{LiftedVector}
use Rattle.min_shell.specs.declared.lifted_vectors.Normal.{Normal}
use Rattle.min_shell.specs.declared.bases.Basis.{Basis}
use Rattle.min_shell.specs.declared.tetrahedra.Tetrahedron.{Tetrahedron}
use Rattle.min_shell.specs.Vectors.{difference_of, dot}

-- ---- of the points

-- all points are as far along this vector
abbrev pub AreLevel : List SpacePoint → SpacePoint → Type 0
AreLevel points n = (i j : ℕ) → i < length points → j < length points → product n (point_at points i) ≡ product n (point_at points j)

-- all points have the same x
pub record DeterminesX (points : List SpacePoint) (n : SpacePoint) : Type 0 where
  pub level : AreLevel points n
  pub x : n.x ≢ pos 0
  pub y : n.y ≡ pos 0
  pub z : n.z ≡ pos 0

-- their y follows from x: some a x + b y is the same at all points, with b not 0
pub record DeterminesY (points : List SpacePoint) (n : SpacePoint) : Type 0 where
  pub level : AreLevel points n
  pub y : n.y ≢ pos 0
  pub z : n.z ≡ pos 0

-- their z follows from x and y: some a x + b y + c z is the same at all points, with c not 0
pub record DeterminesZ (points : List SpacePoint) (n : SpacePoint) : Type 0 where
  pub level : AreLevel points n
  pub z : n.z ≢ pos 0

-- a coordinate that those before it determine is 0 at the centre. So it is at points in a plane, for one coordinate, on a line, for two, and in one place, for all
pub record IsZeroWhereDetermined (points : List SpacePoint) (centre : SpaceRatio) : Type 0 where
  pub x : (n : SpacePoint) → DeterminesX points n → centre.x ≡ pos 0
  pub y : (n : SpacePoint) → DeterminesY points n → centre.y ≡ pos 0
  pub z : (n : SpacePoint) → DeterminesZ points n → centre.z ≡ pos 0

-- ---- of the vertices

-- no pair of points has a part along the normal
abbrev pub AreFlat : List SpacePoint → Normal → Type 0
AreFlat points n = (i j : ℕ) → i < length points → j < length points → dot n (difference_of (point_at points i) (point_at points j)) ≡ pos 0

-- the directions of the axes
abbrev pub x_axis : LiftedVector
x_axis = record { x = pos 1; y = pos 0; z = pos 0; one = pos 0; lift = pos 0 }

abbrev pub y_axis : LiftedVector
y_axis = record { x = pos 0; y = pos 1; z = pos 0; one = pos 0; lift = pos 0 }

abbrev pub z_axis : LiftedVector
z_axis = record { x = pos 0; y = pos 0; z = pos 1; one = pos 0; lift = pos 0 }

-- a basis has the directions of the coordinates that are determined
pub record KeepsAxes (points : List SpacePoint) (b : Basis) : Type 0 where
  pub x : (n : SpacePoint) → DeterminesX points n → b.first.vector ≡ x_axis
  pub y : (n : SpacePoint) → DeterminesY points n → b.second.vector ≡ y_axis
  pub z : (n : SpacePoint) → DeterminesZ points n → b.third.vector ≡ z_axis

-- each vertex but the last is this direction, or in a plane that holds all differences of points and not the direction
pub record HasDirection (points : List SpacePoint) (direction : LiftedVector) (t : Tetrahedron) : Type 0 where
  pub normal : Normal
  pub flat : AreFlat points normal
  pub apart : dot normal direction ≡ pos 0 → ⊥
  pub a : (t.a.vector ≡ direction) ⊎ (dot normal t.a.vector ≡ pos 0)
  pub b : (t.b.vector ≡ direction) ⊎ (dot normal t.b.vector ≡ pos 0)
  pub c : (t.c.vector ≡ direction) ⊎ (dot normal t.c.vector ≡ pos 0)

-- so it is for the coordinates that are determined
pub record KeepsDirections (points : List SpacePoint) (t : Tetrahedron) : Type 0 where
  pub x : (n : SpacePoint) → DeterminesX points n → HasDirection points x_axis t
  pub y : (n : SpacePoint) → DeterminesY points n → HasDirection points y_axis t
  pub z : (n : SpacePoint) → DeterminesZ points n → HasDirection points z_axis t
