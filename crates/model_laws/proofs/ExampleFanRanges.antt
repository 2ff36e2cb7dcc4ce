-- The limits of directions, of bounds and of the numbers of fans: at each limit, and one past it.
use Rattle.std.proofs.Common.{refl, ℕ, zero, suc, ◌+◌, ◌^◌, pos, List, [], ◌∷◌}
use Rattle.bounds_model.specs.Plane.{PlanePoint}
use Rattle.bounds_model.specs.Fans.{HalfFan, HalfCone, QuarterFan, QuarterCone, IsShort, HalfRanges, QuarterRanges}
use Rattle.bounds_model.specs.StripAnswer.{IsShortSpan}
use Rattle.bounds_model.specs.ParallelogramAnswer.{IsShortChord, ChordRanges}
use Rattle.model_laws.proofs.Decisions.{by_test, by_one_failure}
use Rattle.model_laws.proofs.DecideFans.{short, short_span, half_ranges, quarter_ranges, short_chord, chord_ranges}
use Rattle.model_laws.proofs.Literals.{minus, at, span, signed_at, half_cone, quarter_cone, signed_chord, chord}

-- ---- directions and bounds

longest : IsShort (signed_at (minus 400000) (pos 400000))
longest = by_test (short (signed_at (minus 400000) (pos 400000))) refl

long_x : ¬ IsShort (at 400001 0)
long_x = by_one_failure (short (at 400001 0)) refl refl

long_y : ¬ IsShort (signed_at (pos 0) (minus 400001))
long_y = by_one_failure (short (signed_at (pos 0) (minus 400001))) refl refl

widest : IsShortSpan (span (minus (2 ^ 40)) (pos (2 ^ 40)))
widest = by_test (short_span (span (minus (2 ^ 40)) (pos (2 ^ 40)))) refl

low_past : ¬ IsShortSpan (span (minus (2 ^ 40 + 1)) (pos 0))
low_past = by_one_failure (short_span (span (minus (2 ^ 40 + 1)) (pos 0))) refl refl

high_past : ¬ IsShortSpan (span (pos 0) (pos (2 ^ 40 + 1)))
high_past = by_one_failure (short_span (span (pos 0) (pos (2 ^ 40 + 1)))) refl refl

-- ---- chords

shortest_weights : IsShortChord (chord 0 1 2 0 1 (pos 0))
shortest_weights = by_test (short_chord (chord 0 1 2 0 1 (pos 0))) refl

greatest_weights : IsShortChord (chord 0 1 2 (2 ^ 38) (2 ^ 38) (minus (2 ^ 39)))
greatest_weights = by_test (short_chord (chord 0 1 2 (2 ^ 38) (2 ^ 38) (minus (2 ^ 39)))) refl

no_weight : ¬ IsShortChord (chord 0 1 2 0 0 (pos 1))
no_weight = by_one_failure (short_chord (chord 0 1 2 0 0 (pos 1))) refl refl

weights_past : ¬ IsShortChord (chord 0 1 2 (2 ^ 38) (2 ^ 38 + 1) (pos 1))
weights_past = by_one_failure (short_chord (chord 0 1 2 (2 ^ 38) (2 ^ 38 + 1) (pos 1))) refl refl

factor_past : ¬ IsShortChord (chord 0 1 2 1 0 (pos (2 ^ 39 + 1)))
factor_past = by_one_failure (short_chord (chord 0 1 2 1 0 (pos (2 ^ 39 + 1)))) refl refl

last_points : ChordRanges (chord 9999 9999 9999 (2 ^ 126) (2 ^ 126) (minus (2 ^ 126)))
last_points = by_test (chord_ranges (chord 9999 9999 9999 (2 ^ 126) (2 ^ 126) (minus (2 ^ 126)))) refl

a_past : ¬ ChordRanges (chord 10000 0 0 1 0 (pos 1))
a_past = by_one_failure (chord_ranges (chord 10000 0 0 1 0 (pos 1))) refl refl

b_past : ¬ ChordRanges (chord 0 10000 0 1 0 (pos 1))
b_past = by_one_failure (chord_ranges (chord 0 10000 0 1 0 (pos 1))) refl refl

c_past : ¬ ChordRanges (chord 0 0 10000 1 0 (pos 1))
c_past = by_one_failure (chord_ranges (chord 0 0 10000 1 0 (pos 1))) refl refl

negative_beta : ¬ ChordRanges (signed_chord 0 1 2 (minus 1) (pos 2) (pos 1))
negative_beta = by_one_failure (chord_ranges (signed_chord 0 1 2 (minus 1) (pos 2) (pos 1))) refl refl

negative_gamma : ¬ ChordRanges (signed_chord 0 1 2 (pos 2) (minus 1) (pos 1))
negative_gamma = by_one_failure (chord_ranges (signed_chord 0 1 2 (pos 2) (minus 1) (pos 1))) refl refl

k_past : ¬ ChordRanges (chord 0 1 2 1 0 (pos (2 ^ 126 + 1)))
k_past = by_one_failure (chord_ranges (chord 0 1 2 1 0 (pos (2 ^ 126 + 1)))) refl refl

-- ---- fans

-- the first number that is too great
abbrev past : ℕ
past = 2 ^ 126 + 1

abbrev half_fan : List HalfCone → PlanePoint → HalfFan
half_fan cones last = record { cones = cones; last = last }

far_half : HalfRanges (half_fan (half_cone (2 ^ 126) 0 9999 9999 ∷ []) (at 0 1))
far_half = by_test (half_ranges (half_fan (half_cone (2 ^ 126) 0 9999 9999 ∷ []) (at 0 1))) refl

no_cones : ¬ HalfRanges (half_fan [] (at 0 1))
no_cones = by_one_failure (half_ranges (half_fan [] (at 0 1))) refl refl

direction_past : ¬ HalfRanges (half_fan (half_cone past 0 0 0 ∷ []) (at 0 1))
direction_past = by_one_failure (half_ranges (half_fan (half_cone past 0 0 0 ∷ []) (at 0 1))) refl refl

last_past : ¬ HalfRanges (half_fan (half_cone 1 0 0 0 ∷ []) (at 0 past))
last_past = by_one_failure (half_ranges (half_fan (half_cone 1 0 0 0 ∷ []) (at 0 past))) refl refl

half_high_past : ¬ HalfRanges (half_fan (half_cone 1 0 10000 0 ∷ []) (at 0 1))
half_high_past = by_one_failure (half_ranges (half_fan (half_cone 1 0 10000 0 ∷ []) (at 0 1))) refl refl

half_low_past : ¬ HalfRanges (half_fan (half_cone 1 0 0 10000 ∷ []) (at 0 1))
half_low_past = by_one_failure (half_ranges (half_fan (half_cone 1 0 0 10000 ∷ []) (at 0 1))) refl refl

abbrev quarter_fan : List QuarterCone → PlanePoint → QuarterFan
quarter_fan cones last = record { cones = cones; last = last }

far_quarter : QuarterRanges (quarter_fan (quarter_cone (2 ^ 126) 0 9999 9999 9999 9999 ∷ []) (at 0 1))
far_quarter = by_test (quarter_ranges (quarter_fan (quarter_cone (2 ^ 126) 0 9999 9999 9999 9999 ∷ []) (at 0 1))) refl

no_quarter_cones : ¬ QuarterRanges (quarter_fan [] (at 0 1))
no_quarter_cones = by_one_failure (quarter_ranges (quarter_fan [] (at 0 1))) refl refl

quarter_direction_past : ¬ QuarterRanges (quarter_fan (quarter_cone past 0 0 0 0 0 ∷ []) (at 0 1))
quarter_direction_past = by_one_failure (quarter_ranges (quarter_fan (quarter_cone past 0 0 0 0 0 ∷ []) (at 0 1))) refl refl

quarter_last_past : ¬ QuarterRanges (quarter_fan (quarter_cone 1 0 0 0 0 0 ∷ []) (at 0 past))
quarter_last_past = by_one_failure (quarter_ranges (quarter_fan (quarter_cone 1 0 0 0 0 0 ∷ []) (at 0 past))) refl refl

quarter_high_past : ¬ QuarterRanges (quarter_fan (quarter_cone 1 0 10000 0 0 0 ∷ []) (at 0 1))
quarter_high_past = by_one_failure (quarter_ranges (quarter_fan (quarter_cone 1 0 10000 0 0 0 ∷ []) (at 0 1))) refl refl

quarter_low_past : ¬ QuarterRanges (quarter_fan (quarter_cone 1 0 0 10000 0 0 ∷ []) (at 0 1))
quarter_low_past = by_one_failure (quarter_ranges (quarter_fan (quarter_cone 1 0 0 10000 0 0 ∷ []) (at 0 1))) refl refl

quarter_over_past : ¬ QuarterRanges (quarter_fan (quarter_cone 1 0 0 0 10000 0 ∷ []) (at 0 1))
quarter_over_past = by_one_failure (quarter_ranges (quarter_fan (quarter_cone 1 0 0 0 10000 0 ∷ []) (at 0 1))) refl refl

quarter_under_past : ¬ QuarterRanges (quarter_fan (quarter_cone 1 0 0 0 0 10000 ∷ []) (at 0 1))
quarter_under_past = by_one_failure (quarter_ranges (quarter_fan (quarter_cone 1 0 0 0 0 10000 ∷ []) (at 0 1))) refl refl

-- a fan with the most directions, and with one more
abbrev many : ℕ → List HalfCone
many zero = []
many (suc count) = half_cone 1 0 0 0 ∷ many count

too_many_cones : ¬ HalfRanges (half_fan (many 10003) (at 0 1))
too_many_cones = by_one_failure (half_ranges (half_fan (many 10003) (at 0 1))) refl refl

most_cones : HalfRanges (half_fan (many 10002) (at 0 1))
most_cones = by_test (half_ranges (half_fan (many 10002) (at 0 1))) refl

abbrev many_quarters : ℕ → List QuarterCone
many_quarters zero = []
many_quarters (suc count) = quarter_cone 1 0 0 0 0 0 ∷ many_quarters count

too_many_quarters : ¬ QuarterRanges (quarter_fan (many_quarters 10003) (at 0 1))
too_many_quarters = by_one_failure (quarter_ranges (quarter_fan (many_quarters 10003) (at 0 1))) refl refl

most_quarters : QuarterRanges (quarter_fan (many_quarters 10002) (at 0 1))
most_quarters = by_test (quarter_ranges (quarter_fan (many_quarters 10002) (at 0 1))) refl
