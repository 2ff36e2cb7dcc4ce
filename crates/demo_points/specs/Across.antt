-- Where the x of a point of space lies.
use Rattle.std.specs.Prelude.{ℕ, ℤ}
use Rattle.bounds_model.specs.Demo.{space_coordinate, left_coordinate, right_coordinate}
use Rattle.demo_points.specs.declared.making.Across.{Across}
use Rattle.demo_points.specs.declared.making.Across.TheVariants.{Whole, Left, Right}

-- the coordinate of a state
abbrev pub across : Across → ℕ → ℤ
across Whole = space_coordinate
across Left = left_coordinate
across Right = right_coordinate
