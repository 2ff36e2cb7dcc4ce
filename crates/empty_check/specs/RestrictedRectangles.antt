-- What a checker asks of an empty rectangle for itself, before it compares it with others.
use Rattle.std.specs.Prelude.{◌≡◌, ℕ, pos, ◌≤ℤ◌, ◌<ℤ◌, List, Option, Some, None}
use Rattle.bounds_model.specs.Plane.{PlanePoint}
use Rattle.bounds_model.specs.Asks.{Sets, plane, bare}
use Rattle.bounds_model.specs.Fractions.{SameValue}
use Rattle.bounds_model.specs.Ranges.{IsFraction}
use Rattle.bounds_model.specs.EmptyRectangle.{Box, empty_size}
use Rattle.bounds_model.specs.EmptyAnswer.{Blocker, EmptyAnswer, empty_of, NamesBlockers, IsEmpty, BlocksVertical, BlocksLevel, AreBlocked}
use Rattle.bounded_coords.specs.declared.cloud.Cloud.{Cloud}
use Rattle.bounded_coords.specs.Clouds.{points_of}

-- the points of a cloud, or the plane without points
abbrev pub sets_of : Option (Cloud PlanePoint) → Sets
sets_of None = bare
sets_of (Some cloud) = plane (points_of cloud)

-- the box has a width and a height, and lies in the frame
pub record LiesIn (frame box : Box) : Type 0 where
  pub in_left : frame.left ≤ℤ box.left
  pub wide : box.left <ℤ box.right
  pub in_right : box.right ≤ℤ frame.right
  pub in_bottom : frame.bottom ≤ℤ box.bottom
  pub high : box.bottom <ℤ box.top
  pub in_top : box.top ≤ℤ frame.top

-- the rectangle lies in the frame, is as large as printed, and has no point strictly inside it, and each side rests on what the answer says
pub record IsRestricted (frame : Box) (points : List PlanePoint) (a : EmptyAnswer) : Type 0 where
  pub size_in_range : IsFraction a.size
  pub inside : LiesIn frame a.box
  pub numbers : NamesBlockers points a
  pub size : SameValue a.size (empty_size (empty_of a))
  pub empty : IsEmpty points a.box
  pub blocked : AreBlocked frame points a

-- it is, and this is its area
abbrev pub IsRestrictedTo : Box → List PlanePoint → EmptyAnswer → ℕ → Type 0
IsRestrictedTo frame points a size = IsRestricted frame points a × (a.size ≡ record { n = pos size; d = pos 1 })

-- the left side and the right side of the box rest on these
abbrev pub RestVertical : Box → List PlanePoint → Box → Blocker → Blocker → Type 0
RestVertical frame points box left right = BlocksVertical points frame.left box.left box.bottom box.top left
    × BlocksVertical points frame.right box.right box.bottom box.top right

-- the bottom and the top of the box rest on these
abbrev pub RestLevel : Box → List PlanePoint → Box → Blocker → Blocker → Type 0
RestLevel frame points box bottom top = BlocksLevel points frame.bottom box.bottom box.left box.right bottom
    × BlocksLevel points frame.top box.top box.left box.right top
