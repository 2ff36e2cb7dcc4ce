-- The answers on parallelograms, and what a checker asks of them.
use Rattle.std.specs.Prelude.{◌≡◌, ◌≢◌, ℕ, ◌+◌, ◌^◌, ◌<◌, ◌≤◌, ℤ, pos, nat_abs, ◌+ℤ◌, ◌*ℤ◌, ◌≤ℤ◌, List, length, All, IsSomeAnd, slice_get}
use Rattle.bounds_model.specs.Numbers.{AllNumbered, IsWithin}
use Rattle.bounds_model.specs.Plane.{PlanePoint, point_at, dot, cross, plus, times, vector, quarter_turn}
use Rattle.bounds_model.specs.Fractions.{Fraction, SameValue}
use Rattle.bounds_model.specs.Strip.{Span, IsInSpan}
use Rattle.bounds_model.specs.Parallelogram.{Parallelogram, parallelogram_size}
use Rattle.bounds_model.specs.Ranges.{IsFraction, IsDirection, IsSpan, IsNumber, IsNatural, point_limit}
use Rattle.bounds_model.specs.Fans.{HalfFan, HalfCone, half_directions, HoldsHalf, HalfRanges, reach, IsShort}
use Rattle.bounds_model.specs.StripAnswer.{IsShortSpan}

-- from the point a to the mean of b and c with the weights beta and gamma: k / (beta + gamma) times a direction turned by a right angle
pub record Chord : Type 0 where
  pub a : ℕ
  pub b : ℕ
  pub c : ℕ
  pub beta : ℤ
  pub gamma : ℤ
  pub k : ℤ

-- a parallelogram, a fan over half a turn, and a chord for each direction of the fan
pub record ParallelogramAnswer : Type 0 where
  pub size : Fraction
  pub first : PlanePoint
  pub first_bounds : Span
  pub second : PlanePoint
  pub second_bounds : Span
  pub fan : HalfFan
  pub chords : List Chord

-- the parallelogram with these normals and bounds
abbrev pub parallelogram_of : ParallelogramAnswer → Parallelogram
parallelogram_of a = record { first = a.first; first_bounds = a.first_bounds; second = a.second; second_bounds = a.second_bounds; w = pos 1 }

-- all numbers of a chord are in their ranges
pub record ChordRanges (chord : Chord) : Type 0 where
  pub a : chord.a ≤ point_limit
  pub b : chord.b ≤ point_limit
  pub c : chord.c ≤ point_limit
  pub beta : IsNatural chord.beta
  pub gamma : IsNatural chord.gamma
  pub k : IsNumber chord.k

-- all numbers are in their ranges
pub record ParallelogramRanges (a : ParallelogramAnswer) : Type 0 where
  pub size : IsFraction a.size
  pub first : IsDirection a.first
  pub first_bounds : IsSpan a.first_bounds
  pub second : IsDirection a.second
  pub second_bounds : IsSpan a.second_bounds
  pub fan : HalfRanges a.fan
  pub chord_for_each : length a.chords ≡ length (half_directions a.fan)
  pub chords : All ChordRanges a.chords

-- how large the weights of a chord may be together, and its factor k
abbrev pub chord_limit : ℕ
chord_limit = 2 ^ 39

-- a chord within the checker's limit
pub record IsShortChord (chord : Chord) : Type 0 where
  pub some : pos 1 ≤ℤ (chord.beta +ℤ chord.gamma)
  pub weights : (chord.beta +ℤ chord.gamma) ≤ℤ pos chord_limit
  pub k : IsWithin chord_limit chord.k

-- the numbers of a chord are numbers of points
abbrev pub NamesEnds : List PlanePoint → Chord → Type 0
NamesEnds points chord = (chord.a < length points) × (chord.b < length points) × (chord.c < length points)

-- the way from a to b, beta times, and from a to c, gamma times, is k times the direction turned by a right angle
abbrev pub IsAcross : List PlanePoint → PlanePoint → Chord → Type 0
IsAcross points d chord =
    plus (times chord.beta (vector (point_at points chord.a) (point_at points chord.b))) (times chord.gamma (vector (point_at points chord.a) (point_at points chord.c))) ≡ times chord.k (quarter_turn d)

-- the strip around the points with this normal, times the chord across it, is not smaller than the size
abbrev pub IsNotSmaller : List PlanePoint → Fraction → PlanePoint → HalfCone → Chord → Type 0
IsNotSmaller points size d cone chord =
    (size.n *ℤ (chord.beta +ℤ chord.gamma)) ≤ℤ (reach points d cone.high cone.low *ℤ pos (nat_abs chord.k) *ℤ size.d)

-- the direction of this number has a chord, and with it that product is not smaller than the size
abbrev pub IsNotSmallerAt : List PlanePoint → ParallelogramAnswer → ℕ → HalfCone → Type 0
IsNotSmallerAt points a i cone = IsSomeAnd (slice_get a.chords i) (IsNotSmaller points a.size (point_at (half_directions a.fan) i) cone)

-- what a checker asks of a parallelogram
pub record PassesParallelogram (points : List PlanePoint) (a : ParallelogramAnswer) : Type 0 where
  pub ranges : ParallelogramRanges a
  pub chord_numbers : All (NamesEnds points) a.chords
  pub short_directions : All IsShort (half_directions a.fan)
  pub short_first : IsShort a.first
  pub short_second : IsShort a.second
  pub short_first_bounds : IsShortSpan a.first_bounds
  pub short_second_bounds : IsShortSpan a.second_bounds
  pub short_chords : All IsShortChord a.chords
  pub fan : HoldsHalf points a.fan
  pub across : AllNumbered (λ i chord. IsAcross points (point_at (half_directions a.fan) i) chord) a.chords
  pub not_smaller : AllNumbered (λ i cone. IsNotSmallerAt points a i cone × IsNotSmallerAt points a (i + 1) cone) a.fan.cones
  pub normals : cross a.first a.second ≢ pos 0
  pub inside_first : All (λ p. IsInSpan a.first_bounds (dot a.first p)) points
  pub inside_second : All (λ p. IsInSpan a.second_bounds (dot a.second p)) points
  pub size : SameValue a.size (parallelogram_size (parallelogram_of a))
