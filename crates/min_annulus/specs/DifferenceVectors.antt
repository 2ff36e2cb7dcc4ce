-- Differences of points, lifted by the differences of their squared lengths, around the target.
use Rattle.std.specs.Prelude.{ℕ, ◌^◌, ◌*◌, ◌/◌, ℤ, pos, ◌+ℤ◌, ◌-ℤ◌, ◌*ℤ◌, ◌≤ℤ◌, ◌<ℤ◌, nat_abs}
use Rattle.integers.specs.Size.{Size}
use Rattle.bounds_model.specs.Plane.{PlanePoint, squared_length}
use Rattle.min_annulus.specs.declared.difference_vectors.DifferenceVector.{DifferenceVector}

-- the difference of the points p and q, with the difference of their squared lengths as its lift
abbrev pub difference_of : PlanePoint → PlanePoint → DifferenceVector
difference_of p q = record { x = p.x -ℤ q.x; y = p.y -ℤ q.y; lift = squared_length p -ℤ squared_length q }

-- how far out a difference is
pub record IsDifference (d : DifferenceVector) : Type 0 where
  pub x : Size 400000 d.x
  pub y : Size 400000 d.y
  pub lift : Size 80000000000 d.lift

-- M: the target is the point (1/M, 1/M²). No line through two different differences of points in bounds meets it.
abbrev pub scale : ℤ
scale = pos (2 ^ 22)

-- M² times twice the area of the triangle from the target over a to b, by M = m: above 0 where the way from a to b has the target on its left
abbrev pub side_at : ℤ → DifferenceVector → DifferenceVector → ℤ
side_at m a b = (a.x *ℤ b.y -ℤ a.y *ℤ b.x) *ℤ (m *ℤ m) +ℤ ((a.y -ℤ b.y) *ℤ m +ℤ (b.x -ℤ a.x))

-- the same for the target itself
abbrev pub side : DifferenceVector → DifferenceVector → ℤ
side a b = side_at scale a b

-- the target is strictly inside the triangle of a, b and c, which turn left
pub record IsAround (a b c : DifferenceVector) : Type 0 where
  pub ab : pos 0 <ℤ side a b
  pub bc : pos 0 <ℤ side b c
  pub ca : pos 0 <ℤ side c a

-- the cross product of two differences
abbrev pub cross : DifferenceVector → DifferenceVector → ℤ
cross a b = a.x *ℤ b.y -ℤ a.y *ℤ b.x

-- their product
abbrev pub dot : DifferenceVector → DifferenceVector → ℤ
dot a b = a.x *ℤ b.x +ℤ a.y *ℤ b.y

-- how far a difference is to the side where the target is
abbrev pub toward : DifferenceVector → ℤ
toward d = d.x -ℤ scale *ℤ d.y

-- a difference to a point that is not before the other, in the order by x, then y
abbrev pub IsAhead : DifferenceVector → Type 0
IsAhead d = pos 0 ≤ℤ (pos (2 ^ 19) *ℤ d.x +ℤ d.y)

-- twice the area of the triangle of a, b and c
abbrev pub area : DifferenceVector → DifferenceVector → DifferenceVector → ℤ
area a b c = (b.x -ℤ a.x) *ℤ (c.y -ℤ a.y) -ℤ (b.y -ℤ a.y) *ℤ (c.x -ℤ a.x)

-- the target's lift on the plane through a, b and c is this ..
abbrev pub lift_over : DifferenceVector → DifferenceVector → DifferenceVector → ℤ
lift_over a b c = side b c *ℤ a.lift +ℤ side c a *ℤ b.lift +ℤ side a b *ℤ c.lift

-- .. over this, M² times twice the area
abbrev pub lift_under : DifferenceVector → DifferenceVector → DifferenceVector → ℤ
lift_under a b c = side b c +ℤ side c a +ℤ side a b

-- the most that a lift can be
abbrev pub lift_limit : ℕ
lift_limit = 80000000000

-- how far the target's lift can still rise, in parts of which each rise has at least one
abbrev pub measure : DifferenceVector → DifferenceVector → DifferenceVector → ℕ
measure a b c = nat_abs (pos lift_limit *ℤ lift_under a b c -ℤ lift_over a b c) * (2 ^ 85 * 2 ^ 85) / nat_abs (lift_under a b c)
