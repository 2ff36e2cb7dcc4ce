-- Obstacles in a frame, rectangles between them, and the rectangles that grow from a seed. All numbers are distances from the frame's
-- left side and from its bottom.
use Rattle.std.specs.Prelude.{◌≡◌, ◌⊎◌, ℕ, ◌+◌, ◌-◌, ◌*◌, ◌≤◌, ◌<◌, List, map, length, All, Contains}
use Rattle.std.specs.List.{AllWithin, HoldsAt}
use Rattle.answers.specs.declared.empty_rectangles.Blocker.TheVariants.{Side, Point}
use Rattle.empty_rectangle.specs.declared.obstacles.Obstacle.{Obstacle}
use Rattle.empty_rectangle.specs.declared.obstacles.Extent.{Extent}
use Rattle.empty_rectangle.specs.declared.rectangles.RestingSide.{RestingSide}
use Rattle.empty_rectangle.specs.declared.rectangles.Rectangle.{Rectangle}
use Rattle.empty_rectangle.specs.declared.rectangles.Window.{Window}
use Rattle.empty_rectangle.specs.declared.sweep.Seed.{Seed}

-- the obstacle is strictly inside the frame
pub record IsInExtent (extent : Extent) (s : Obstacle) : Type 0 where
  pub after_left : 0 < s.x
  pub before_right : s.x < extent.width
  pub above_bottom : 0 < s.y
  pub below_top : s.y < extent.height

-- the frame has an inside, and is no wider and no higher than a frame can be
pub record IsExtent (extent : Extent) : Type 0 where
  pub some_width : 0 < extent.width
  pub some_height : 0 < extent.height
  pub width : extent.width ≤ 400000
  pub height : extent.height ≤ 400000

-- the x is strictly between those of two vertical sides
pub record IsStrictlyBetween (left right x : ℕ) : Type 0 where
  pub after_left : left < x
  pub before_right : x < right

-- the x of the obstacles, in their order
abbrev pub columns : List Obstacle → List ℕ
columns obstacles = map (λ s. s.x) obstacles

-- the obstacle is strictly between two vertical sides, and above a bottom
pub record Enters (left bottom right : ℕ) (s : Obstacle) : Type 0 where
  pub after_left : left < s.x
  pub before_right : s.x < right
  pub above : bottom < s.y

-- no obstacle from one index in the order up to another is strictly between the sides and above the bottom
abbrev pub NoneEnters : List Obstacle → ℕ → ℕ → ℕ → ℕ → ℕ → Type 0
NoneEnters obstacles left bottom right from to = AllWithin (λ s. ¬ Enters left bottom right s) obstacles from to

-- the obstacle at k is the first one from an index on that is strictly between the sides and above the bottom
pub record IsNextEntering (obstacles : List Obstacle) (left bottom right from k : ℕ) : Type 0 where
  pub after : from ≤ k
  pub below : k < length obstacles
  pub earlier : NoneEnters obstacles left bottom right from k
  pub enters : HoldsAt (Enters left bottom right) obstacles k

-- the obstacle at k is the first one from an index on, and before another, that is strictly between the sides and above the bottom
pub record IsFirstEntering (obstacles : List Obstacle) (left bottom right from to k : ℕ) : Type 0 where
  pub after : from ≤ k
  pub before : k < to
  pub earlier : NoneEnters obstacles left bottom right from k
  pub enters : HoldsAt (Enters left bottom right) obstacles k

-- the obstacle is strictly inside a rectangle
pub record IsBetween (left bottom right top : ℕ) (s : Obstacle) : Type 0 where
  pub enters : Enters left bottom right s
  pub below : s.y < top

-- no obstacle is strictly inside the rectangle
abbrev pub IsFree : List Obstacle → ℕ → ℕ → ℕ → ℕ → Type 0
IsFree obstacles left bottom right top = All (λ s. ¬ IsBetween left bottom right top s) obstacles

-- a side of the frame
abbrev pub side : ℕ → RestingSide
side at = record { at = at; by = Side }

-- the vertical side through an obstacle, and the level one
abbrev pub vertical : Obstacle → RestingSide
vertical s = record { at = s.x; by = Point s.number }

abbrev pub level : Obstacle → RestingSide
level s = record { at = s.y; by = Point s.number }

-- a vertical side rests on an obstacle between its ends
pub record RestsVertical (obstacles : List Obstacle) (low high : ℕ) (resting_side : RestingSide) : Type 0 where
  pub obstacle : Obstacle
  pub listed : Contains obstacles obstacle
  pub is : resting_side ≡ vertical obstacle
  pub after : low < obstacle.y
  pub before : obstacle.y < high

-- a level side rests on an obstacle between its ends
pub record RestsLevel (obstacles : List Obstacle) (low high : ℕ) (resting_side : RestingSide) : Type 0 where
  pub obstacle : Obstacle
  pub listed : Contains obstacles obstacle
  pub is : resting_side ≡ level obstacle
  pub after : low < obstacle.x
  pub before : obstacle.x < high

-- a rectangle with its area, in the frame, with no obstacle strictly inside it, each side of which rests on the frame's side or on an obstacle
pub record IsRestricted (obstacles : List Obstacle) (extent : Extent) (h : Rectangle) : Type 0 where
  pub area : h.area ≡ (h.right.at - h.left.at) * (h.top.at - h.bottom.at)
  pub wide : h.left.at < h.right.at
  pub high : h.bottom.at < h.top.at
  pub in_right : h.right.at ≤ extent.width
  pub in_top : h.top.at ≤ extent.height
  pub free : IsFree obstacles h.left.at h.bottom.at h.right.at h.top.at
  pub left : (h.left ≡ side 0) ⊎ RestsVertical obstacles h.bottom.at h.top.at h.left
  pub bottom : (h.bottom ≡ side 0) ⊎ RestsLevel obstacles h.left.at h.right.at h.bottom
  pub right : (h.right ≡ side extent.width) ⊎ RestsVertical obstacles h.bottom.at h.top.at h.right
  pub top : (h.top ≡ side extent.height) ⊎ RestsLevel obstacles h.left.at h.right.at h.top

-- the rectangle in a window from a bottom to a top
abbrev pub rectangle_in : Window → RestingSide → RestingSide → Rectangle
rectangle_in window bottom top = record {
  area = (window.right.at - window.left.at) * (top.at - bottom.at);
  left = window.left;
  bottom = bottom;
  right = window.right;
  top = top;
}

-- the new rectangle is the old one, or the other, which is larger and higher than the least; and the other is not larger than it
pub record Larger (old other : Rectangle) (least : ℕ) (new : Rectangle) : Type 0 where
  pub kept : old.area ≤ new.area
  pub taken : least < other.top.at → other.area ≤ new.area
  pub is : (new ≡ old) ⊎ ((new ≡ other) × (old.area < other.area) × (least < other.top.at))

-- one side of the new window is the old one, and the other goes through the obstacle, so that the column is still inside
pub record Narrows (old : Window) (obstacle : Obstacle) (column : ℕ) (new : Window) : Type 0 where
  pub to_right : 2 * obstacle.x < column → new ≡ record { left = vertical obstacle; right = old.right }
  pub to_left : column ≤ 2 * obstacle.x → new ≡ record { left = old.left; right = vertical obstacle }

-- rectangles can grow from the seed: its column is inside the frame, its left side and its bottom rest on the frame's sides or on
-- obstacles, and the obstacles before `from` are not above it
pub record IsSeed (obstacles : List Obstacle) (extent : Extent) (from : ℕ) (seed : Seed) : Type 0 where
  pub start : from ≤ length obstacles
  pub earlier : AllWithin (λ s. s.y ≤ seed.bottom.at) obstacles 0 from
  pub order : seed.bottom.at ≤ seed.least
  pub below_top : seed.least < extent.height
  pub after_left : 2 * seed.left.at < seed.column
  pub before_right : seed.column < 2 * extent.width
  pub left : (seed.left ≡ side 0) ⊎ RestsVertical obstacles seed.bottom.at (seed.least + 1) seed.left
  pub bottom : (seed.bottom ≡ side 0) ⊎ ((s : Obstacle) × Contains obstacles s × (seed.bottom ≡ level s) × (2 * s.x ≡ seed.column))

-- a rectangle on the seed's bottom, with no obstacle strictly inside it, that meets the column and exceeds the least height
pub record IsThrough (obstacles : List Obstacle) (extent : Extent) (seed : Seed) (left right top : ℕ) : Type 0 where
  pub from_left : seed.left.at ≤ left
  pub before : 2 * left < seed.column
  pub after : seed.column < 2 * right
  pub to_right : right ≤ extent.width
  pub over : seed.least < top
  pub to_top : top ≤ extent.height
  pub free : IsFree obstacles left seed.bottom.at right top

-- no such rectangle has more than this area
abbrev pub Covers : List Obstacle → Extent → Seed → ℕ → Type 0
Covers obstacles extent seed area = (left right top : ℕ) → IsThrough obstacles extent seed left right top → (right - left) * (top - seed.bottom.at) ≤ area
