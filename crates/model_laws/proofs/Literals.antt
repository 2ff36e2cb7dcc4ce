-- Short words for points, numbers and parts of answers in examples.
use Rattle.std.proofs.Common.{ℕ, ℤ, pos, neg_ℤ, List}
use Rattle.bounds_model.specs.Plane.{PlanePoint, PlaneRatio}
use Rattle.bounds_model.specs.Space.{SpacePoint, SpaceRatio}
use Rattle.bounds_model.specs.Fractions.{Fraction}
use Rattle.bounds_model.specs.Strip.{Span}
use Rattle.bounds_model.specs.EmptyRectangle.{Box}
use Rattle.bounds_model.specs.Fans.{HalfCone, QuarterCone}
use Rattle.bounds_model.specs.BallAnswer.{Weighted}
use Rattle.bounds_model.specs.AnnulusAnswer.{WeightedPair}
use Rattle.bounds_model.specs.CentresAnswer.{Leaf}
use Rattle.bounds_model.specs.ParallelogramAnswer.{Chord, ParallelogramAnswer}

-- the number -n
abbrev pub minus : ℕ → ℤ
minus n = neg_ℤ (pos n)

-- the point (x, y)
abbrev pub at : ℕ → ℕ → PlanePoint
at x y = record { x = pos x; y = pos y }

-- the point (-x, y)
abbrev pub left_at : ℕ → ℕ → PlanePoint
left_at x y = record { x = minus x; y = pos y }

-- the point (x, y, z)
abbrev pub in_space : ℕ → ℕ → ℕ → SpacePoint
in_space x y z = record { x = pos x; y = pos y; z = pos z }

-- the point (x/w, y/w)
abbrev pub over : ℕ → ℕ → ℕ → PlaneRatio
over x y w = record { x = pos x; y = pos y; w = pos w }

-- the point (x/w, y/w, z/w)
abbrev pub space_over : ℕ → ℕ → ℕ → ℕ → SpaceRatio
space_over x y z w = record { x = pos x; y = pos y; z = pos z; w = pos w }

-- the fraction n/d
abbrev pub fraction : ℕ → ℕ → Fraction
fraction n d = record { n = pos n; d = pos d }

-- the like for numbers of any sign
abbrev pub signed_at : ℤ → ℤ → PlanePoint
signed_at x y = record { x = x; y = y }

abbrev pub signed_in_space : ℤ → ℤ → ℤ → SpacePoint
signed_in_space x y z = record { x = x; y = y; z = z }

abbrev pub signed_over : ℤ → ℤ → ℤ → PlaneRatio
signed_over x y w = record { x = x; y = y; w = w }

abbrev pub signed_space_over : ℤ → ℤ → ℤ → ℤ → SpaceRatio
signed_space_over x y z w = record { x = x; y = y; z = z; w = w }

abbrev pub signed_fraction : ℤ → ℤ → Fraction
signed_fraction n d = record { n = n; d = d }

-- the bounds low and high
abbrev pub span : ℤ → ℤ → Span
span low high = record { low = low; high = high }

-- a box by its four sides
abbrev pub box : ℕ → ℕ → ℕ → ℕ → Box
box left bottom right top = record { left = pos left; bottom = pos bottom; right = pos right; top = pos top }

abbrev pub signed_box : ℤ → ℤ → ℤ → ℤ → Box
signed_box left bottom right top = record { left = left; bottom = bottom; right = right; top = top }

-- a support with its weight
abbrev pub support : ℕ → ℕ → Weighted
support point weight = record { point = point; weight = pos weight }

abbrev pub signed_support : ℕ → ℤ → Weighted
signed_support point weight = record { point = point; weight = weight }

-- a pair with its weight
abbrev pub pair : ℕ → ℕ → ℕ → WeightedPair
pair first second weight = record { first = first; second = second; weight = pos weight }

abbrev pub signed_pair : ℕ → ℕ → ℤ → WeightedPair
signed_pair first second weight = record { first = first; second = second; weight = weight }

-- a cone from the direction (x, y) on
abbrev pub half_cone : ℕ → ℕ → ℕ → ℕ → HalfCone
half_cone x y high low = record { direction = at x y; high = high; low = low }

-- a cone from the direction (x, y) on, with extreme points for two directions
abbrev pub quarter_cone : ℕ → ℕ → ℕ → ℕ → ℕ → ℕ → QuarterCone
quarter_cone x y high low over under = record { direction = at x y; high = high; low = low; over = over; under = under }

-- a leaf with two points
abbrev pub leaf : ℕ → ℕ → Leaf
leaf first second = record { first = first; second = second }

-- a chord from a to b and c, with the weights beta and gamma
abbrev pub signed_chord : ℕ → ℕ → ℕ → ℤ → ℤ → ℤ → Chord
signed_chord a b c beta gamma k = record { a = a; b = b; c = c; beta = beta; gamma = gamma; k = k }

abbrev pub chord : ℕ → ℕ → ℕ → ℕ → ℕ → ℤ → Chord
chord a b c beta gamma k = signed_chord a b c (pos beta) (pos gamma) k

-- a parallelogram with the fan of these cones, which ends in the west
abbrev pub slanted : Fraction → PlanePoint → Span → PlanePoint → Span → List HalfCone → List Chord → ParallelogramAnswer
slanted size first first_bounds second second_bounds cones chords = record {
  size = size;
  first = first;
  first_bounds = first_bounds;
  second = second;
  second_bounds = second_bounds;
  fan = record { cones = cones; last = left_at 1 0 };
  chords = chords;
}
