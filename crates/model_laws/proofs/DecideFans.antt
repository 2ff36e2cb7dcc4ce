-- Tests of the conditions on fans, strips, rectangles and parallelograms. Each decides the definition of the like name.
use Rattle.std.proofs.Common.{ℕ, ◌-◌, ◌+◌, ◌<◌, pos, ◌+ℤ◌, List, [], ◌∷◌, length}
use Rattle.std.specs.Prelude.{slice_get}
use Rattle.bounds_model.specs.Plane.{PlanePoint, point_at, cross, dot, origin, quarter_turn}
use Rattle.bounds_model.specs.Strip.{Span, AreTight, strip_size}
use Rattle.bounds_model.specs.Rectangle.{rectangle_size}
use Rattle.bounds_model.specs.Parallelogram.{parallelogram_size}
use Rattle.bounds_model.specs.Ranges.{point_limit, fan_limit, number_limit}
use Rattle.bounds_model.specs.Fans.{HalfFan, HalfCone, QuarterFan, half_directions, quarter_directions, AreExtreme, IsHalfExtreme, IsQuarterExtreme, TurnLeft, AtBothEnds, NamesPoints, NamesAllPoints, HoldsHalf, HoldsQuarter, IsReduced, IsFirstAt, IsFirst, IsShort, HalfRanges, QuarterRanges, east, west, north, direction_limit, span_limit}
use Rattle.bounds_model.specs.StripAnswer.{StripAnswer, StripRanges, IsShortSpan, IsNotThinner, IsThicker, PassesStrip, strip_of}
use Rattle.bounds_model.specs.RectangleAnswer.{RectangleAnswer, RectangleRanges, PassesRectangle, rectangle_of}
use Rattle.bounds_model.specs.RectangleAnswer
use Rattle.bounds_model.specs.ParallelogramAnswer.{Chord, chord_limit, ParallelogramAnswer, ParallelogramRanges, ChordRanges, IsShortChord, NamesEnds, IsAcross, IsNotSmallerAt, PassesParallelogram, parallelogram_of}
use Rattle.bounds_model.specs.ParallelogramAnswer
use Rattle.model_laws.proofs.Decisions.{Decision, like, both, together, three, four, negated, implies, all, any, all_numbered, each_below, some_below, some_and, most_ℕ, less_ℕ, equal_ℕ, equal_ℤ, most_ℤ, less_ℤ}
use Rattle.model_laws.proofs.DecideParts.{same_point, within, counted, natural, same_value, in_span, direction_in_range, span_in_range, fraction_in_range}
use Rattle.model_laws.proofs.CommonFactors.{no_common_factor}

abbrev pub extreme : (points : List PlanePoint) (d : PlanePoint) (high low : ℕ) → Decision (AreExtreme points d high low)
extreme points d high low =
    like (both (all (λ p. most_ℤ (dot d p) (dot d (point_at points high))) points) (all (λ p. most_ℤ (dot d (point_at points low)) (dot d p)) points))
    (λ h. record { highest = h.0; lowest = h.1 }) (λ h. (h.highest, h.lowest))

abbrev pub turn_left : (first last : PlanePoint) (ds : List PlanePoint) → Decision (TurnLeft first last ds)
turn_left first last ds =
    like (both (same_point (point_at ds 0) first) (both (same_point (point_at ds (length ds - 1)) last) (each_below (λ i. less_ℤ (pos 0) (cross (point_at ds i) (point_at ds (i + 1)))) (length ds - 1))))
    (λ h. record { begins = h.0; ends = h.1.0; turns = h.1.1 }) (λ h. (h.begins, (h.ends, h.turns)))

abbrev pub at_both_ends : {Cone : Type 0} {P : PlanePoint → Cone → Type 0} (ds : List PlanePoint) → ((d : PlanePoint) (cone : Cone) → Decision (P d cone)) → (cones : List Cone) → Decision (AtBothEnds ds P cones)
at_both_ends {P = P} ds each cones =
    all_numbered {P = λ i cone. P (point_at ds i) cone × P (point_at ds (i + 1)) cone} (λ i cone. together (each (point_at ds i) cone) (each
    (point_at ds (i + 1)) cone)) cones

abbrev pub names_points : (points : List PlanePoint) (fan : HalfFan) → Decision (NamesPoints points fan)
names_points points fan = all (λ cone. both (less_ℕ cone.high (length points)) (less_ℕ cone.low (length points))) fan.cones

abbrev pub holds_half : (points : List PlanePoint) (fan : HalfFan) → Decision (HoldsHalf points fan)
holds_half points fan =
    like (both (names_points points fan) (both (turn_left east west (half_directions fan)) (at_both_ends {P = IsHalfExtreme points} (half_directions fan) (λ d cone. extreme points d cone.high cone.low) fan.cones)))
    (λ h. record { numbers = h.0; directions = h.1.0; extremes = h.1.1 }) (λ h. (h.numbers, (h.directions, h.extremes)))

abbrev pub names_all_points : (points : List PlanePoint) (fan : QuarterFan) → Decision (NamesAllPoints points fan)
names_all_points points fan = all (λ cone. four (less_ℕ cone.high (length points)) (less_ℕ cone.low (length points)) (less_ℕ cone.over (length points)) (less_ℕ cone.under (length points))) fan.cones

abbrev pub holds_quarter : (points : List PlanePoint) (fan : QuarterFan) → Decision (HoldsQuarter points fan)
holds_quarter points fan =
    like (both (names_all_points points fan) (both (turn_left east north (quarter_directions fan)) (at_both_ends {P = IsQuarterExtreme points} (quarter_directions fan) (λ d cone. both (extreme points d cone.high cone.low) (extreme points (quarter_turn d) cone.over cone.under)) fan.cones)))
    (λ h. record { numbers = h.0; directions = h.1.0; extremes = h.1.1 }) (λ h. (h.numbers, (h.directions, h.extremes)))

abbrev pub reduced : (v u : PlanePoint) → Decision (IsReduced v u)
reduced v u =
    like (both (equal_ℤ (cross v u) (pos 0)) (both (less_ℤ (pos 0) (dot v u)) (no_common_factor (u.x ∷ u.y ∷ []))))
    (λ h. record { parallel = h.0; ahead = h.1.0; lowest = h.1.1 }) (λ h. (h.parallel, (h.ahead, h.lowest)))

abbrev pub first_at : {Cone : Type 0} {P : PlanePoint → Cone → Type 0} (ds : List PlanePoint) → ((d : PlanePoint) (cone : Cone) → Decision (P d cone)) → (cones : List Cone) (u : PlanePoint) (i : ℕ) → Decision (IsFirstAt ds P cones u i)
first_at {P = P} ds each cones u i =
    like (both (reduced (point_at ds i) u) (all_numbered {P = λ j cone. j < i → P (point_at ds j) cone} (λ j cone. implies (less_ℕ j i) (each (point_at ds j) cone)) cones))
    (λ h. record { reduced = h.0; before = h.1 }) (λ h. (h.reduced, h.before))

abbrev pub first : {Cone : Type 0} {P : PlanePoint → Cone → Type 0} (ds : List PlanePoint) → ((d : PlanePoint) (cone : Cone) → Decision (P d cone)) → (cones : List Cone) (u : PlanePoint) → Decision (IsFirst ds P cones u)
first {P = P} ds each cones u = some_below {P = λ i. IsFirstAt ds P cones u i} (λ i. first_at {P = P} ds each cones u i) (length cones)

abbrev pub tight : (points : List PlanePoint) (u : PlanePoint) (span : Span) → Decision (AreTight points u span)
tight points u span =
    like (both (all (λ p. in_span span (dot u p)) points) (both (any (λ p. equal_ℤ (dot u p) span.low) points) (any (λ p. equal_ℤ (dot u p) span.high) points)))
    (λ h. record { inside = h.0; low = h.1.0; high = h.1.1 }) (λ h. (h.inside, (h.low, h.high)))

abbrev pub short : (d : PlanePoint) → Decision (IsShort d)
short d = like (both (within direction_limit d.x) (within direction_limit d.y)) (λ h. record { x = h.0; y = h.1 }) (λ h. (h.x, h.y))

abbrev pub short_span : (span : Span) → Decision (IsShortSpan span)
short_span span = like (both (within span_limit span.low) (within span_limit span.high)) (λ h. record { low = h.0; high = h.1 }) (λ h. (h.low, h.high))

abbrev pub half_ranges : (fan : HalfFan) → Decision (HalfRanges fan)
half_ranges fan =
    like (both (counted 1 (fan_limit - 1) fan.cones) (both (all direction_in_range (half_directions fan)) (all (λ cone. both (most_ℕ cone.high point_limit) (most_ℕ cone.low point_limit)) fan.cones)))
    (λ h. record { count = h.0; directions = h.1.0; points = h.1.1 }) (λ h. (h.count, (h.directions, h.points)))

abbrev pub quarter_ranges : (fan : QuarterFan) → Decision (QuarterRanges fan)
quarter_ranges fan =
    like (both (counted 1 (fan_limit - 1) fan.cones) (both (all direction_in_range (quarter_directions fan)) (all (λ cone. four (most_ℕ cone.high point_limit) (most_ℕ cone.low point_limit) (most_ℕ cone.over point_limit) (most_ℕ cone.under point_limit)) fan.cones)))
    (λ h. record { count = h.0; directions = h.1.0; points = h.1.1 }) (λ h. (h.count, (h.directions, h.points)))

abbrev pub strip_ranges : (a : StripAnswer) → Decision (StripRanges a)
strip_ranges a =
    like (both (fraction_in_range a.size) (both (direction_in_range a.direction) (both (span_in_range a.bounds) (half_ranges a.fan))))
    (λ h. record { size = h.0; direction = h.1.0; bounds = h.1.1.0; fan = h.1.1.1 }) (λ h. (h.size, (h.direction, (h.bounds, h.fan))))

abbrev pub strip_passes : (points : List PlanePoint) (a : StripAnswer) → Decision (PassesStrip points a)
strip_passes points a =
    like
    (both (strip_ranges a)
    (both (all short (half_directions a.fan))
    (both (short a.direction)
    (both (short_span a.bounds)
    (both (negated (same_point a.direction origin))
    (both (holds_half points a.fan)
    (both (at_both_ends {P = IsNotThinner points a.size} (half_directions a.fan) (λ d cone. most_ℤ _ _) a.fan.cones)
    (both (first {P = IsThicker points a.size} (half_directions a.fan) (λ d cone. less_ℤ _ _) a.fan.cones a.direction)
    (both (tight points a.direction a.bounds)
    (same_value a.size (strip_size (strip_of a))))))))))))
    (λ h. record { ranges = h.0; short_directions = h.1.0; short_direction = h.1.1.0; short_bounds = h.1.1.1.0; normal = h.1.1.1.1.0; fan = h.1.1.1.1.1.0; not_thinner = h.1.1.1.1.1.1.0; first = h.1.1.1.1.1.1.1.0; tight = h.1.1.1.1.1.1.1.1.0; size = h.1.1.1.1.1.1.1.1.1 })
    (λ h. (h.ranges, (h.short_directions, (h.short_direction, (h.short_bounds, (h.normal, (h.fan, (h.not_thinner, (h.first, (h.tight, h.size))))))))))

abbrev pub rectangle_ranges : (a : RectangleAnswer) → Decision (RectangleRanges a)
rectangle_ranges a =
    like (both (fraction_in_range a.size) (both (direction_in_range a.direction) (both (span_in_range a.along) (both (span_in_range a.across) (quarter_ranges a.fan)))))
    (λ h. record { size = h.0; direction = h.1.0; along = h.1.1.0; across = h.1.1.1.0; fan = h.1.1.1.1 }) (λ h. (h.size, (h.direction, (h.along, (h.across, h.fan)))))

abbrev pub rectangle_passes : (points : List PlanePoint) (a : RectangleAnswer) → Decision (PassesRectangle points a)
rectangle_passes points a =
    like
    (both (rectangle_ranges a)
    (both (all short (quarter_directions a.fan))
    (both (short a.direction)
    (both (short_span a.along)
    (both (short_span a.across)
    (both (negated (same_point a.direction origin))
    (both (holds_quarter points a.fan)
    (both (at_both_ends {P = RectangleAnswer.IsNotSmaller points a.size} (quarter_directions a.fan) (λ d cone. most_ℤ _ _) a.fan.cones)
    (both (first {P = RectangleAnswer.IsLarger points a.size} (quarter_directions a.fan) (λ d cone. less_ℤ _ _) a.fan.cones a.direction)
    (both (tight points a.direction a.along)
    (both (tight points (quarter_turn a.direction) a.across)
    (same_value a.size (rectangle_size (rectangle_of a))))))))))))))
    (λ h. record { ranges = h.0; short_directions = h.1.0; short_direction = h.1.1.0; short_along = h.1.1.1.0; short_across = h.1.1.1.1.0; normal = h.1.1.1.1.1.0; fan = h.1.1.1.1.1.1.0; not_smaller = h.1.1.1.1.1.1.1.0; first = h.1.1.1.1.1.1.1.1.0; tight_along = h.1.1.1.1.1.1.1.1.1.0; tight_across = h.1.1.1.1.1.1.1.1.1.1.0; size = h.1.1.1.1.1.1.1.1.1.1.1 })
    (λ h. (h.ranges, (h.short_directions, (h.short_direction, (h.short_along, (h.short_across, (h.normal, (h.fan, (h.not_smaller, (h.first, (h.tight_along, (h.tight_across, h.size))))))))))))

abbrev pub chord_ranges : (chord : Chord) → Decision (ChordRanges chord)
chord_ranges chord =
    like (both (most_ℕ chord.a point_limit) (both (most_ℕ chord.b point_limit) (both (most_ℕ chord.c point_limit) (both (natural chord.beta) (both (natural chord.gamma) (within number_limit chord.k))))))
    (λ h. record { a = h.0; b = h.1.0; c = h.1.1.0; beta = h.1.1.1.0; gamma = h.1.1.1.1.0; k = h.1.1.1.1.1 }) (λ h. (h.a, (h.b, (h.c, (h.beta, (h.gamma, h.k))))))

abbrev pub parallelogram_ranges : (a : ParallelogramAnswer) → Decision (ParallelogramRanges a)
parallelogram_ranges a =
    like (both (fraction_in_range a.size) (both (direction_in_range a.first) (both (span_in_range a.first_bounds) (both (direction_in_range a.second) (both (span_in_range a.second_bounds) (both (half_ranges a.fan) (both (equal_ℕ (length a.chords) (length (half_directions a.fan))) (all chord_ranges a.chords))))))))
    (λ h. record { size = h.0; first = h.1.0; first_bounds = h.1.1.0; second = h.1.1.1.0; second_bounds = h.1.1.1.1.0; fan = h.1.1.1.1.1.0; chord_for_each = h.1.1.1.1.1.1.0; chords = h.1.1.1.1.1.1.1 })
    (λ h. (h.size, (h.first, (h.first_bounds, (h.second, (h.second_bounds, (h.fan, (h.chord_for_each, h.chords))))))))

abbrev pub names_ends : (points : List PlanePoint) (chord : Chord) → Decision (NamesEnds points chord)
names_ends points chord = three (less_ℕ chord.a (length points)) (less_ℕ chord.b (length points)) (less_ℕ chord.c (length points))

abbrev pub short_chord : (chord : Chord) → Decision (IsShortChord chord)
short_chord chord =
    like (both (most_ℤ (pos 1) (chord.beta +ℤ chord.gamma)) (both (most_ℤ (chord.beta +ℤ chord.gamma) (pos chord_limit)) (within chord_limit chord.k)))
    (λ h. record { some = h.0; weights = h.1.0; k = h.1.1 }) (λ h. (h.some, (h.weights, h.k)))

abbrev pub not_smaller_at : (points : List PlanePoint) (a : ParallelogramAnswer) (i : ℕ) (cone : HalfCone) → Decision (IsNotSmallerAt points a i cone)
not_smaller_at points a i cone =
    some_and {P = ParallelogramAnswer.IsNotSmaller points a.size (point_at (half_directions a.fan) i) cone} (λ chord. most_ℤ _ _) (slice_get a.chords i)

abbrev pub parallelogram_passes : (points : List PlanePoint) (a : ParallelogramAnswer) → Decision (PassesParallelogram points a)
parallelogram_passes points a =
    like
    (both (parallelogram_ranges a)
    (both (all {P = NamesEnds points} (names_ends points) a.chords)
    (both (all short (half_directions a.fan))
    (both (short a.first)
    (both (short a.second)
    (both (short_span a.first_bounds)
    (both (short_span a.second_bounds)
    (both (all short_chord a.chords)
    (both (holds_half points a.fan)
    (both (all_numbered {P = λ i chord. IsAcross points (point_at (half_directions a.fan) i) chord} (λ i chord. same_point _ _) a.chords)
    (both (all_numbered {P = λ i cone. IsNotSmallerAt points a i cone × IsNotSmallerAt points a (i + 1) cone} (λ i cone. together
    (not_smaller_at points a i cone) (not_smaller_at points a (i + 1) cone)) a.fan.cones)
    (both (negated (equal_ℤ (cross a.first a.second) (pos 0)))
    (both (all (λ p. in_span a.first_bounds (dot a.first p)) points)
    (both (all (λ p. in_span a.second_bounds (dot a.second p)) points)
    (same_value a.size (parallelogram_size (parallelogram_of a)))))))))))))))))
    (λ h. record { ranges = h.0; chord_numbers = h.1.0; short_directions = h.1.1.0; short_first = h.1.1.1.0; short_second = h.1.1.1.1.0; short_first_bounds = h.1.1.1.1.1.0; short_second_bounds = h.1.1.1.1.1.1.0; short_chords = h.1.1.1.1.1.1.1.0; fan = h.1.1.1.1.1.1.1.1.0; across = h.1.1.1.1.1.1.1.1.1.0; not_smaller = h.1.1.1.1.1.1.1.1.1.1.0; normals = h.1.1.1.1.1.1.1.1.1.1.1.0; inside_first = h.1.1.1.1.1.1.1.1.1.1.1.1.0; inside_second = h.1.1.1.1.1.1.1.1.1.1.1.1.1.0; size = h.1.1.1.1.1.1.1.1.1.1.1.1.1.1 })
    (λ h. (h.ranges, (h.chord_numbers, (h.short_directions, (h.short_first, (h.short_second, (h.short_first_bounds, (h.short_second_bounds, (h.short_chords, (h.fan, (h.across, (h.not_smaller, (h.normals, (h.inside_first, (h.inside_second, h.size)))))))))))))))
