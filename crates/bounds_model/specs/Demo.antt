-- The points that the program makes up for a demonstration.
use Rattle.std.specs.Prelude.{ℕ, zero, suc, ◌+◌, ◌*◌, ◌/◌, ◌%◌, ◌^◌, ℤ, pos, ◌-ℤ◌, ◌+ℤ◌, List, [], ◌∷◌}
use Rattle.bounds_model.specs.Plane.{PlanePoint}
use Rattle.bounds_model.specs.Space.{SpacePoint}
use Rattle.bounds_model.specs.Asks.{Sets, plane, space, two, Shape, one_space, two_space}

-- the state after a state
abbrev pub next_state : ℕ → ℕ
next_state s = (s * 1103515245 + 12345) % 2 ^ 31

-- the state after so many draws from a seed
abbrev pub state_after : ℕ → ℕ → ℕ
state_after zero s = s
state_after (suc draws) s = state_after draws (next_state s)

-- the value of a state
abbrev pub drawn : ℕ → ℕ
drawn s = s / 1024

-- ---- coordinates

-- a coordinate of the plane
abbrev pub plane_coordinate : ℕ → ℤ
plane_coordinate s = pos (drawn s % 400001) -ℤ pos 200000

-- a coordinate of space
abbrev pub space_coordinate : ℕ → ℤ
space_coordinate s = pos (drawn s % 16001) -ℤ pos 8000

-- x of a point of the first set: below 0
abbrev pub left_coordinate : ℕ → ℤ
left_coordinate s = pos (drawn s % 8000) -ℤ pos 8000

-- x of a point of the second set: above 0
abbrev pub right_coordinate : ℕ → ℤ
right_coordinate s = pos (drawn s % 8000) +ℤ pos 1

-- ---- points, from the state before the first of them

-- points of the plane
abbrev pub plane_points : ℕ → ℕ → List PlanePoint
plane_points s zero = []
plane_points s (suc count) =
    record { x = plane_coordinate (state_after 1 s); y = plane_coordinate (state_after 2 s) } ∷ plane_points (state_after 2 s) count

-- points of space, whose x is made from a state in its own way
abbrev pub space_points : (ℕ → ℤ) → ℕ → ℕ → List SpacePoint
space_points x_coordinate s zero = []
space_points x_coordinate s (suc count) =
    record { x = x_coordinate (state_after 1 s); y = space_coordinate (state_after 2 s); z = space_coordinate (state_after 3 s) }
    ∷ space_points x_coordinate (state_after 3 s) count

-- the points of sets of this shape, from a seed, so many in each set; those of a second set are drawn after the first
abbrev pub demo_sets : Shape → ℕ → ℕ → Sets
demo_sets one_space seed count = space (space_points space_coordinate seed count)
demo_sets two_space seed count =
    two (space_points left_coordinate seed count) (space_points right_coordinate (state_after (3 * count) seed) count)
demo_sets shape seed count = plane (plane_points seed count)
