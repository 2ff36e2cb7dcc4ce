-- The size of an object that fits has a denominator above 0.
use Rattle.std.proofs.Common.{◌≡◌, ◌≢◌, ℕ, ℤ, pos, nat_abs, ◌+ℤ◌, ◌*ℤ◌, ◌≤ℤ◌, ◌<ℤ◌, List, arith}
use Rattle.std.proofs.lemmas.Int.{ints, by_lt_z}
use Rattle.integers.proofs.Order.{positive_mul, positive_from_one, square_nonneg, zero_of_square}
use Rattle.bounds_model.specs.Plane.{PlanePoint, origin, squared_length, cross}
use Rattle.bounds_model.specs.Space.{SpacePoint}
use Rattle.bounds_model.specs.Ball.{Ball, FitsBall, FitsCircle, ball_size}
use Rattle.bounds_model.specs.Strip.{Strip, FitsStrip, strip_size}
use Rattle.bounds_model.specs.Rectangle.{Rectangle, FitsRectangle, rectangle_size}
use Rattle.bounds_model.specs.Parallelogram.{Parallelogram, FitsParallelogram, parallelogram_size}
use Rattle.bounds_model.specs.Annulus.{Annulus, FitsAnnulus, annulus_size}
use Rattle.bounds_model.specs.EmptyRectangle.{Box, EmptyRectangle, FitsEmpty, empty_size}
use Rattle.bounds_model.specs.Distance.{Weights, FitsDistance, distance_size}
use Rattle.bounds_model.specs.Centres.{Cover, FitsCentres, centres_size}
use Rattle.bounds_model.specs.Shell.{Shell, FitsShell, shell_size}

-- a vector that is not 0 has a length
pub long_vector : (u : PlanePoint) → u ≢ origin → pos 0 <ℤ squared_length u
long_vector u n = by_lt_z (pos 0) (squared_length u) (λ l. l) (λ m. absurd (n (λ i. record { x = zero_of_square u.x (first_part (square_nonneg u.y) m) i; y = zero_of_square u.y (second_part (square_nonneg u.x) m) i })))
  where
    first_part : {a b : ℤ} → pos 0 ≤ℤ b → (a +ℤ b) ≤ℤ pos 0 → a ≤ℤ pos 0
    first_part h k = omega (arith, ints)

    second_part : {a b : ℤ} → pos 0 ≤ℤ a → (a +ℤ b) ≤ℤ pos 0 → b ≤ℤ pos 0
    second_part h k = omega (arith, ints)

-- a number that is not 0 has a magnitude above 0
magnitude_positive : (z : ℤ) → z ≢ pos 0 → pos 0 <ℤ pos (nat_abs z)
magnitude_positive z n = by_lt_z (pos 0) (pos (nat_abs z)) (λ l. l) (λ m. absurd (n (zero_magnitude z m)))
  where
    zero_magnitude : (z : ℤ) → pos (nat_abs z) ≤ℤ pos 0 → z ≡ pos 0
    zero_magnitude z m = omega (arith, ints)

-- the square of a denominator, times what is above 0
over_square : (w s : ℤ) → pos 1 ≤ℤ w → pos 0 <ℤ s → pos 0 <ℤ (w *ℤ w *ℤ s)
over_square w s h l = positive_mul (positive_mul (positive_from_one h) (positive_from_one h)) l

-- of a ball
pub ball_denominator : (points : List SpacePoint) (ball : Ball) → FitsBall points ball → pos 0 <ℤ (ball_size ball).d
ball_denominator points ball h = positive_from_one h.radius.denominator

-- of a circle
pub circle_denominator : (points : List PlanePoint) (circle : Ball) → FitsCircle points circle → pos 0 <ℤ (ball_size circle).d
circle_denominator points circle h = positive_from_one h.ball.radius.denominator

-- of a strip
pub strip_denominator : (points : List PlanePoint) (strip : Strip) → FitsStrip points strip → pos 0 <ℤ (strip_size strip).d
strip_denominator points strip h = over_square strip.w (squared_length strip.normal) h.denominator (long_vector strip.normal h.normal)

-- of a rectangle
pub rectangle_denominator : (points : List PlanePoint) (rectangle : Rectangle) → FitsRectangle points rectangle → pos 0 <ℤ (rectangle_size rectangle).d
rectangle_denominator points rectangle h = over_square rectangle.w (squared_length rectangle.direction) h.denominator (long_vector rectangle.direction h.direction)

-- of a parallelogram
pub parallelogram_denominator : (points : List PlanePoint) (p : Parallelogram) → FitsParallelogram points p → pos 0 <ℤ (parallelogram_size p).d
parallelogram_denominator points p h = over_square p.w (pos (nat_abs (cross p.first p.second))) h.denominator (magnitude_positive (cross p.first p.second) h.normals)

-- of an annulus
pub annulus_denominator : (points : List PlanePoint) (annulus : Annulus) → FitsAnnulus points annulus → pos 0 <ℤ (annulus_size annulus).d
annulus_denominator points annulus h = positive_mul (positive_from_one h.outer.denominator) (positive_from_one h.inner.denominator)

-- of a shell
pub shell_denominator : (points : List SpacePoint) (shell : Shell) → FitsShell points shell → pos 0 <ℤ (shell_size shell).d
shell_denominator points shell h = positive_mul (positive_from_one h.outer.denominator) (positive_from_one h.inner.denominator)

-- of an empty rectangle
pub empty_denominator : (frame : Box) (points : List PlanePoint) (rectangle : EmptyRectangle) → FitsEmpty frame points rectangle → pos 0 <ℤ (empty_size rectangle).d
empty_denominator frame points rectangle h = positive_mul (positive_from_one h.denominator) (positive_from_one h.denominator)

-- of weights
pub distance_denominator : (ps qs : List SpacePoint) (weights : Weights) → FitsDistance ps qs weights → pos 0 <ℤ (distance_size ps qs weights).d
distance_denominator ps qs weights h = positive_mul (positive_from_one h.sum) (positive_from_one h.sum)

-- of centres
pub centres_denominator : (count : ℕ) (points : List PlanePoint) (cover : Cover) → FitsCentres count points cover → pos 0 <ℤ (centres_size cover).d
centres_denominator count points cover h = positive_from_one h.radius.denominator
