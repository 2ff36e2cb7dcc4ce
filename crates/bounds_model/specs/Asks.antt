-- The kinds of questions, the points that each is asked of, and what a point file gives.
use Rattle.std.specs.Prelude.{ℕ, ◌≤◌, ⊤, List}
use Rattle.bounds_model.specs.Plane.{PlanePoint}
use Rattle.bounds_model.specs.Space.{SpacePoint}
use Rattle.bounds_model.specs.EmptyRectangle.{Box, IsFrame}

-- what is asked: an empty rectangle in a frame, a polygon of at most so many corners, so many centres
pub data Ask : Type 0 where
  ask_circle : Ask
  ask_sphere : Ask
  ask_rectangle : Ask
  ask_parallelogram : Ask
  ask_strip : Ask
  ask_annulus : Ask
  ask_empty : Box → Ask
  ask_kgon : ℕ → Ask
  ask_distance : Ask
  ask_centres : ℕ → Ask
  ask_furthest : Ask
  ask_four : Ask
  ask_shell : Ask

-- the bound on the corners of a polygon is 3 to 12, there are 1 to 3 centres beside the question of four, and a frame is in bounds and has an inside
abbrev pub IsValid : Ask → Type 0
IsValid (ask_empty frame) = IsFrame frame
IsValid (ask_kgon k) = (3 ≤ k) × (k ≤ 12)
IsValid (ask_centres count) = (1 ≤ count) × (count ≤ 3)
IsValid ask = ⊤

-- the points that it is asked of; bare is the plane without points
pub data Sets : Type 0 where
  plane : List PlanePoint → Sets
  space : List SpacePoint → Sets
  two : List SpacePoint → List SpacePoint → Sets
  bare : Sets

-- which sets of points a question is asked of
pub data Shape : Type 0 where
  one_plane : Shape  -- one set of the plane
  plane_or_bare : Shape  -- one set of the plane, or none
  one_space : Shape  -- one set of space
  two_space : Shape  -- two sets of space

-- the shape that a question calls for
abbrev pub shape_of : Ask → Shape
shape_of ask_sphere = one_space
shape_of ask_shell = one_space
shape_of ask_distance = two_space
shape_of (ask_empty frame) = plane_or_bare
shape_of ask = one_plane

-- the sets are of this shape
abbrev pub HasShape : Shape → Sets → Type 0
HasShape one_plane (plane points) = ⊤
HasShape plane_or_bare (plane points) = ⊤
HasShape plane_or_bare bare = ⊤
HasShape one_space (space points) = ⊤
HasShape two_space (two ps qs) = ⊤
HasShape shape sets = ⊥

-- the points are of the kind that is asked of
abbrev pub Suits : Ask → Sets → Type 0
Suits ask sets = HasShape (shape_of ask) sets

-- what a point file gives: points in units of the file, of which so many make a whole one
pub record PointFile : Type 0 where
  pub scale : ℕ
  pub sets : Sets

-- the points of a file that says no scale
abbrev pub unscaled : Sets → PointFile
unscaled sets = record { scale = 1; sets = sets }

-- the greatest scale
abbrev pub scale_limit : ℕ
scale_limit = 1000
