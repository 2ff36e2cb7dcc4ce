-- The seeds of all rectangles that can be the largest one.
use Rattle.std.specs.Prelude.{◌≡◌, ◌⊎◌, ℕ, ◌+◌, ◌-◌, ◌*◌, ◌≤◌, ◌<◌, List, Contains}
use Rattle.empty_rectangle.specs.declared.obstacles.Obstacle.{Obstacle}
use Rattle.empty_rectangle.specs.declared.obstacles.Extent.{Extent}
use Rattle.empty_rectangle.specs.declared.sweep.Seed.{Seed}
use Rattle.empty_rectangle.specs.Rectangles.{IsFree, side, vertical, level}

-- the seed in the lower left corner of the frame
abbrev pub corner : Seed
corner = record { left = side 0; column = 1; bottom = side 0; least = 0 }

-- the seed of the rectangles whose bottom rests on the obstacle
abbrev pub above : Obstacle → Seed
above s = record { left = side 0; column = 2 * s.x; bottom = level s; least = s.y }

-- the seed of the rectangles on the bottom of the frame whose left side rests on the obstacle
abbrev pub beside : Obstacle → Seed
beside s = record { left = vertical s; column = 2 * s.x + 1; bottom = side 0; least = s.y }

-- a rectangle in the frame with no obstacle strictly inside it, whose left side is on the frame's, or goes through an obstacle between its ends
pub record IsGap (obstacles : List Obstacle) (extent : Extent) (left bottom right top : ℕ) : Type 0 where
  pub wide : left < right
  pub in_right : right ≤ extent.width
  pub high : bottom < top
  pub in_top : top ≤ extent.height
  pub free : IsFree obstacles left bottom right top
  pub start : (left ≡ 0) ⊎ ((s : Obstacle) × Contains obstacles s × (s.x ≡ left) × (bottom < s.y) × (s.y < top))

-- no such rectangle has more than this area
abbrev pub NoneExceeds : List Obstacle → Extent → ℕ → Type 0
NoneExceeds obstacles extent area = (left bottom right top : ℕ) → IsGap obstacles extent left bottom right top → (right - left) * (top - bottom) ≤ area
