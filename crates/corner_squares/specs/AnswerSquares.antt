-- The size and the centres that squares stand for.
use Rattle.std.specs.Prelude.{ℕ, ◌/◌, ◌%◌, ◌==◌, List, map, pos, ◌+ℤ◌, ◌*ℤ◌, if◌then◌else◌}
use Rattle.bounds_model.specs.Plane.{PlaneRatio}
use Rattle.bounds_model.specs.Fractions.{Fraction}
use Rattle.corner_squares.specs.declared.square.Square.{Square}
use Rattle.corner_squares.specs.declared.answer_squares.Radius.{Radius}

-- half of a side, in lowest terms
abbrev pub half_of : ℕ → Fraction
half_of side = if side % 2 == 0 then record { n = pos (side / 2); d = pos 1 } else record { n = pos side; d = pos 2 }

-- the numbers of a fraction
abbrev pub fraction_of : Radius → Fraction
fraction_of radius = record { n = pos radius.n; d = pos radius.d }

-- the centre of the square, over the radius's denominator
abbrev pub centre_of : Square → Fraction → PlaneRatio
centre_of square radius = record { x = (square.left *ℤ radius.d) +ℤ radius.n; y = (square.bottom *ℤ radius.d) +ℤ radius.n; w = radius.d }

-- the centres of squares of this side
abbrev pub centres_of_squares : ℕ → List Square → List PlaneRatio
centres_of_squares side squares = map (λ s. centre_of s (half_of side)) squares
