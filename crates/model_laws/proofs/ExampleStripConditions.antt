-- Strips that pass, and strips that fail in conditions of a checker, most of them in one alone.
use Rattle.std.proofs.Common.{refl, ℕ, ◌+◌, ◌*◌, ◌^◌, pos, List, [], ◌∷◌, ◌++◌}
use Rattle.bounds_model.specs.Plane.{PlanePoint}
use Rattle.bounds_model.specs.Fractions.{Fraction}
use Rattle.bounds_model.specs.Strip.{Span}
use Rattle.bounds_model.specs.Fans.{HalfCone}
use Rattle.bounds_model.specs.StripAnswer.{StripAnswer, StripRanges, PassesStrip}
use Rattle.model_laws.proofs.Decisions.{by_test, by_failed_test, by_one_failure}
use Rattle.model_laws.proofs.DecideFans.{strip_ranges, strip_passes}
use Rattle.model_laws.proofs.ExampleBalls.{triangle}
use Rattle.model_laws.proofs.Literals.{minus, at, left_at, fraction, span, half_cone}

-- a strip with the fan of these cones, which ends in the west
abbrev strip : Fraction → PlanePoint → Span → List HalfCone → StripAnswer
strip size direction bounds cones = record { size = size; direction = direction; bounds = bounds; fan = record { cones = cones; last = left_at 1 0 } }

-- ---- around a triangle

abbrev cones : List HalfCone
cones = half_cone 1 0 1 0 ∷ half_cone 3 4 2 0 ∷ half_cone 0 1 2 1 ∷ []

abbrev along_longest : List HalfCone → StripAnswer
along_longest = strip (fraction 144 25) (at 3 4) (span (pos 0) (pos 12))

thinnest : PassesStrip triangle (along_longest cones)
thinnest = by_test (strip_passes triangle (along_longest cones)) refl

unreduced : ¬ PassesStrip triangle (strip (fraction 288 50) (at 3 4) (span (pos 0) (pos 12)) cones)
unreduced = by_one_failure (strip_passes triangle (strip (fraction 288 50) (at 3 4) (span (pos 0) (pos 12)) cones)) refl refl

other_size : ¬ PassesStrip triangle (strip (fraction 1 1) (at 3 4) (span (pos 0) (pos 12)) cones)
other_size = by_one_failure (strip_passes triangle (strip (fraction 1 1) (at 3 4) (span (pos 0) (pos 12)) cones)) refl refl

no_normal : ¬ PassesStrip triangle (strip (fraction 0 1) (at 0 0) (span (pos 0) (pos 0)) cones)
no_normal = by_failed_test (strip_passes triangle (strip (fraction 0 1) (at 0 0) (span (pos 0) (pos 0)) cones)) refl

-- bounds that leave a point out, and a strip that is not the thinnest
too_low : ¬ PassesStrip triangle (strip (fraction 121 25) (at 3 4) (span (pos 0) (pos 11)) cones)
too_low = by_failed_test (strip_passes triangle (strip (fraction 121 25) (at 3 4) (span (pos 0) (pos 11)) cones)) refl

too_high : ¬ PassesStrip triangle (strip (fraction 121 25) (at 3 4) (span (pos 1) (pos 12)) cones)
too_high = by_failed_test (strip_passes triangle (strip (fraction 121 25) (at 3 4) (span (pos 1) (pos 12)) cones)) refl

level : ¬ PassesStrip triangle (strip (fraction 9 1) (at 0 1) (span (pos 0) (pos 3)) cones)
level = by_failed_test (strip_passes triangle (strip (fraction 9 1) (at 0 1) (span (pos 0) (pos 3)) cones)) refl

-- a number that is no point's, where the point would be the origin
low_beyond : ¬ PassesStrip triangle (along_longest (half_cone 1 0 1 9 ∷ half_cone 3 4 2 0 ∷ half_cone 0 1 2 1 ∷ []))
low_beyond = by_one_failure (strip_passes triangle (along_longest (half_cone 1 0 1 9 ∷ half_cone 3 4 2 0 ∷ half_cone 0 1 2 1 ∷ []))) refl refl

-- a fan that begins late, stands still, or ends early
begun_late : ¬ PassesStrip triangle (along_longest (half_cone 3 4 2 0 ∷ half_cone 0 1 2 1 ∷ []))
begun_late = by_one_failure (strip_passes triangle (along_longest (half_cone 3 4 2 0 ∷ half_cone 0 1 2 1 ∷ []))) refl refl

abbrev standing : StripAnswer
standing = along_longest (half_cone 1 0 1 0 ∷ half_cone 3 4 2 0 ∷ half_cone 3 4 2 0 ∷ half_cone 0 1 2 1 ∷ [])

standing_fails : ¬ PassesStrip triangle standing
standing_fails = by_one_failure (strip_passes triangle standing) refl refl

abbrev ended_early : StripAnswer
ended_early = record (along_longest []) { fan = record { cones = half_cone 1 0 1 0 ∷ half_cone 3 4 2 0 ∷ []; last = at 0 1 } }

ended_early_fails : ¬ PassesStrip triangle ended_early
ended_early_fails = by_one_failure (strip_passes triangle ended_early) refl refl

-- ---- around three points on a line, with a size of 0

abbrev on_line : List PlanePoint
on_line = at 0 0 ∷ at 1 0 ∷ at 2 0 ∷ []

-- this direction, and these cones up to the north
abbrev level_line : PlanePoint → List HalfCone → StripAnswer
level_line direction cones = strip (fraction 0 1) direction (span (pos 0) (pos 0)) (cones ++ half_cone 0 1 0 2 ∷ [])

thin : PassesStrip on_line (level_line (at 0 1) (half_cone 1 0 2 0 ∷ []))
thin = by_test (strip_passes on_line (level_line (at 0 1) (half_cone 1 0 2 0 ∷ []))) refl

not_highest : ¬ PassesStrip on_line (level_line (at 0 1) (half_cone 1 0 1 0 ∷ []))
not_highest = by_one_failure (strip_passes on_line (level_line (at 0 1) (half_cone 1 0 1 0 ∷ []))) refl refl

not_lowest : ¬ PassesStrip on_line (level_line (at 0 1) (half_cone 1 0 2 1 ∷ []))
not_lowest = by_one_failure (strip_passes on_line (level_line (at 0 1) (half_cone 1 0 2 1 ∷ []))) refl refl

abbrev high_beyond : StripAnswer
high_beyond = strip (fraction 0 1) (at 0 1) (span (pos 0) (pos 0)) (half_cone 1 0 2 0 ∷ half_cone 0 1 9 2 ∷ [])

high_beyond_fails : ¬ PassesStrip on_line high_beyond
high_beyond_fails = by_one_failure (strip_passes on_line high_beyond) refl refl

longest : PassesStrip on_line (level_line (at 0 1) (half_cone 1 0 2 0 ∷ half_cone 1 400000 2 0 ∷ []))
longest = by_test (strip_passes on_line (level_line (at 0 1) (half_cone 1 0 2 0 ∷ half_cone 1 400000 2 0 ∷ []))) refl

-- a direction that is not in lowest terms
twice_as_long : ¬ PassesStrip on_line (level_line (at 0 2) (half_cone 1 0 2 0 ∷ []))
twice_as_long = by_one_failure (strip_passes on_line (level_line (at 0 2) (half_cone 1 0 2 0 ∷ []))) refl refl

long_direction : ¬ PassesStrip on_line (level_line (at 0 400001) (half_cone 1 0 2 0 ∷ []))
long_direction = by_failed_test (strip_passes on_line (level_line (at 0 400001) (half_cone 1 0 2 0 ∷ []))) refl

long_x : ¬ PassesStrip on_line (level_line (at 0 1) (half_cone 1 0 2 0 ∷ half_cone 400001 1 2 0 ∷ []))
long_x = by_one_failure (strip_passes on_line (level_line (at 0 1) (half_cone 1 0 2 0 ∷ half_cone 400001 1 2 0 ∷ []))) refl refl

long_y : ¬ PassesStrip on_line (level_line (at 0 1) (half_cone 1 0 2 0 ∷ half_cone 1 400001 2 0 ∷ []))
long_y = by_one_failure (strip_passes on_line (level_line (at 0 1) (half_cone 1 0 2 0 ∷ half_cone 1 400001 2 0 ∷ []))) refl refl

-- ---- around a square, with two strips of one width

abbrev unit_square : List PlanePoint
unit_square = at 0 0 ∷ at 1 0 ∷ at 1 1 ∷ at 0 1 ∷ []

abbrev square_cones : List HalfCone
square_cones = half_cone 1 0 2 0 ∷ half_cone 0 1 3 1 ∷ []

upright : PassesStrip unit_square (strip (fraction 1 1) (at 1 0) (span (pos 0) (pos 1)) square_cones)
upright = by_test (strip_passes unit_square (strip (fraction 1 1) (at 1 0) (span (pos 0) (pos 1)) square_cones)) refl

-- the later one, and the first one from its other side
later : ¬ PassesStrip unit_square (strip (fraction 1 1) (at 0 1) (span (pos 0) (pos 1)) square_cones)
later = by_one_failure (strip_passes unit_square (strip (fraction 1 1) (at 0 1) (span (pos 0) (pos 1)) square_cones)) refl refl

turned_around : ¬ PassesStrip unit_square (strip (fraction 1 1) (left_at 1 0) (span (minus 1) (pos 0)) square_cones)
turned_around = by_one_failure (strip_passes unit_square (strip (fraction 1 1) (left_at 1 0) (span (minus 1) (pos 0)) square_cones)) refl refl

-- a fan that goes around once and a half: it does not reach the later one before the first
abbrev around_again : List HalfCone
around_again = half_cone 1 0 2 0 ∷ half_cone 0 1 3 1 ∷ record { direction = left_at 1 0; high = 0; low = 2 } ∷ record { direction = record { x = pos 0; y = minus 1 }; high = 1; low = 3 } ∷ square_cones

upright_again : PassesStrip unit_square (strip (fraction 1 1) (at 1 0) (span (pos 0) (pos 1)) around_again)
upright_again = by_test (strip_passes unit_square (strip (fraction 1 1) (at 1 0) (span (pos 0) (pos 1)) around_again)) refl

turned_again : ¬ PassesStrip unit_square (strip (fraction 1 1) (left_at 1 0) (span (minus 1) (pos 0)) around_again)
turned_again = by_one_failure (strip_passes unit_square (strip (fraction 1 1) (left_at 1 0) (span (minus 1) (pos 0)) around_again)) refl refl

-- ---- between the long sides of a large rectangle

abbrev sides : ℕ → List PlanePoint
sides x = at 0 0 ∷ at x 0 ∷ at 0 (10 * x) ∷ at x (10 * x) ∷ []

abbrev between : ℕ → StripAnswer
between x = strip (fraction (x * x) 1) (at 1 0) (span (pos 0) (pos x)) (half_cone 1 0 3 0 ∷ half_cone 0 1 2 1 ∷ [])

widest : PassesStrip (sides (2 ^ 40)) (between (2 ^ 40))
widest = by_test (strip_passes (sides (2 ^ 40)) (between (2 ^ 40))) refl

too_wide : ¬ PassesStrip (sides (2 ^ 40 + 1)) (between (2 ^ 40 + 1))
too_wide = by_one_failure (strip_passes (sides (2 ^ 40 + 1)) (between (2 ^ 40 + 1))) refl refl

-- ---- ranges

no_cones : ¬ StripRanges (strip (fraction 1 1) (at 1 0) (span (pos 0) (pos 1)) [])
no_cones = by_one_failure (strip_ranges (strip (fraction 1 1) (at 1 0) (span (pos 0) (pos 1)) [])) refl refl

direction_past : ¬ StripRanges (strip (fraction 1 1) (at (2 ^ 126 + 1) 0) (span (pos 0) (pos 1)) cones)
direction_past = by_one_failure (strip_ranges (strip (fraction 1 1) (at (2 ^ 126 + 1) 0) (span (pos 0) (pos 1)) cones)) refl refl

bounds_past : ¬ StripRanges (strip (fraction 1 1) (at 1 0) (span (pos 0) (pos (2 ^ 126 + 1))) cones)
bounds_past = by_one_failure (strip_ranges (strip (fraction 1 1) (at 1 0) (span (pos 0) (pos (2 ^ 126 + 1))) cones)) refl refl

size_past : ¬ StripRanges (strip (fraction (2 ^ 126 + 1) 1) (at 1 0) (span (pos 0) (pos 1)) cones)
size_past = by_one_failure (strip_ranges (strip (fraction (2 ^ 126 + 1) 1) (at 1 0) (span (pos 0) (pos 1)) cones)) refl refl
