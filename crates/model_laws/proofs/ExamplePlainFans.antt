-- Fans that are plain, and some that fail in one condition alone.
use Rattle.std.proofs.Common.{refl, pos, [], ◌∷◌}
use Rattle.bounds_model.specs.Fans.{half_directions, quarter_directions}
use Rattle.bounds_model.specs.PlainFans.{IsNormal, IsNormalOrParallel, IsPlainHalf, IsPlainQuarter}
use Rattle.model_laws.proofs.Decisions.{by_test, by_failed_test, by_one_failure}
use Rattle.model_laws.proofs.DecidePlain.{is_normal, normal_or_parallel, plain_half, plain_quarter}
use Rattle.model_laws.proofs.Literals.{minus, at, left_at, signed_at}
use Rattle.model_laws.proofs.ExampleBalls.{triangle}
use Rattle.model_laws.proofs.ExampleStrips.{along_longest}
use Rattle.model_laws.proofs.ExampleRectangles.{diamond, slanted}

-- ---- directions at right angles to an edge, or along it

upwards : IsNormal (at 4 0) (at 0 1)
upwards = by_test (is_normal (at 4 0) (at 0 1)) refl

slanting : ¬ IsNormal (at 4 0) (at 1 1)
slanting = by_one_failure (is_normal (at 4 0) (at 1 1)) refl refl

no_length : ¬ IsNormal (at 0 0) (at 0 1)
no_length = by_one_failure (is_normal (at 0 0) (at 0 1)) refl refl

upwards_too : IsNormalOrParallel (at 4 0) (at 0 1)
upwards_too = by_test (normal_or_parallel (at 4 0) (at 0 1)) refl

along : IsNormalOrParallel (at 4 0) (at 1 0)
along = by_test (normal_or_parallel (at 4 0) (at 1 0)) refl

slanting_still : ¬ IsNormalOrParallel (at 4 0) (at 1 1)
slanting_still = by_one_failure (normal_or_parallel (at 4 0) (at 1 1)) refl refl

no_length_still : ¬ IsNormalOrParallel (at 0 0) (at 0 1)
no_length_still = by_one_failure (normal_or_parallel (at 0 0) (at 0 1)) refl refl

-- ---- over half a turn, for a triangle

half_is_plain : IsPlainHalf triangle (half_directions along_longest.fan)
half_is_plain = by_test (plain_half triangle (half_directions along_longest.fan)) refl

unreduced : ¬ IsPlainHalf triangle (at 1 0 ∷ at 6 8 ∷ at 0 1 ∷ left_at 1 0 ∷ [])
unreduced = by_one_failure (plain_half triangle (at 1 0 ∷ at 6 8 ∷ at 0 1 ∷ left_at 1 0 ∷ [])) refl refl

-- twice around
once_more_around : ¬ IsPlainHalf triangle (at 1 0 ∷ at 3 4 ∷ at 0 1 ∷ left_at 1 0 ∷ signed_at (pos 0) (minus 1) ∷ at 1 0 ∷ at 0 1 ∷ left_at 1 0 ∷ [])
once_more_around = by_one_failure (plain_half triangle (at 1 0 ∷ at 3 4 ∷ at 0 1 ∷ left_at 1 0 ∷ signed_at (pos 0) (minus 1) ∷ at 1 0 ∷ at 0 1 ∷ left_at 1 0 ∷ [])) refl refl

-- without the first direction, without the last, and with one twice
begun_late : ¬ IsPlainHalf triangle (at 3 4 ∷ at 0 1 ∷ left_at 1 0 ∷ [])
begun_late = by_one_failure (plain_half triangle (at 3 4 ∷ at 0 1 ∷ left_at 1 0 ∷ [])) refl refl

ended_early : ¬ IsPlainHalf triangle (at 1 0 ∷ at 3 4 ∷ at 0 1 ∷ [])
ended_early = by_one_failure (plain_half triangle (at 1 0 ∷ at 3 4 ∷ at 0 1 ∷ [])) refl refl

repeated : ¬ IsPlainHalf triangle (at 1 0 ∷ at 3 4 ∷ at 3 4 ∷ at 0 1 ∷ left_at 1 0 ∷ [])
repeated = by_one_failure (plain_half triangle (at 1 0 ∷ at 3 4 ∷ at 3 4 ∷ at 0 1 ∷ left_at 1 0 ∷ [])) refl refl

-- the normal of the longest side left out, and a direction too many
without_longest : ¬ IsPlainHalf triangle (at 1 0 ∷ at 0 1 ∷ left_at 1 0 ∷ [])
without_longest = by_one_failure (plain_half triangle (at 1 0 ∷ at 0 1 ∷ left_at 1 0 ∷ [])) refl refl

one_too_many : ¬ IsPlainHalf triangle (at 1 0 ∷ at 3 4 ∷ at 0 1 ∷ left_at 1 1 ∷ left_at 1 0 ∷ [])
one_too_many = by_one_failure (plain_half triangle (at 1 0 ∷ at 3 4 ∷ at 0 1 ∷ left_at 1 1 ∷ left_at 1 0 ∷ [])) refl refl

-- ---- for two corners and for one

two_corners : IsPlainHalf (at 0 0 ∷ at 4 3 ∷ []) (at 1 0 ∷ at 0 1 ∷ left_at 3 4 ∷ left_at 1 0 ∷ [])
two_corners = by_test (plain_half (at 0 0 ∷ at 4 3 ∷ []) (at 1 0 ∷ at 0 1 ∷ left_at 3 4 ∷ left_at 1 0 ∷ [])) refl

without_normal : ¬ IsPlainHalf (at 0 0 ∷ at 4 3 ∷ []) (at 1 0 ∷ at 0 1 ∷ left_at 1 0 ∷ [])
without_normal = by_one_failure (plain_half (at 0 0 ∷ at 4 3 ∷ []) (at 1 0 ∷ at 0 1 ∷ left_at 1 0 ∷ [])) refl refl

vertical_line : IsPlainHalf (at 0 0 ∷ at 0 3 ∷ []) (at 1 0 ∷ at 0 1 ∷ left_at 1 0 ∷ [])
vertical_line = by_test (plain_half (at 0 0 ∷ at 0 3 ∷ []) (at 1 0 ∷ at 0 1 ∷ left_at 1 0 ∷ [])) refl

-- the upward direction is there, though no edge calls for it
without_up : ¬ IsPlainHalf (at 0 0 ∷ at 4 3 ∷ []) (at 1 0 ∷ left_at 3 4 ∷ left_at 1 0 ∷ [])
without_up = by_one_failure (plain_half (at 0 0 ∷ at 4 3 ∷ []) (at 1 0 ∷ left_at 3 4 ∷ left_at 1 0 ∷ [])) refl refl

one_corner : IsPlainHalf (at 5 5 ∷ []) (at 1 0 ∷ at 0 1 ∷ left_at 1 0 ∷ [])
one_corner = by_test (plain_half (at 5 5 ∷ []) (at 1 0 ∷ at 0 1 ∷ left_at 1 0 ∷ [])) refl

-- an edge without length calls for no direction
more_for_one : ¬ IsPlainHalf (at 5 5 ∷ []) (at 1 0 ∷ at 3 4 ∷ at 0 1 ∷ left_at 1 0 ∷ [])
more_for_one = by_one_failure (plain_half (at 5 5 ∷ []) (at 1 0 ∷ at 3 4 ∷ at 0 1 ∷ left_at 1 0 ∷ [])) refl refl

-- without the upward direction the last does not turn left from the first
none_for_one : ¬ IsPlainHalf (at 5 5 ∷ []) (at 1 0 ∷ left_at 1 0 ∷ [])
none_for_one = by_failed_test (plain_half (at 5 5 ∷ []) (at 1 0 ∷ left_at 1 0 ∷ [])) refl

-- ---- over a quarter turn

quarter_is_plain : IsPlainQuarter diamond (quarter_directions slanted.fan)
quarter_is_plain = by_test (plain_quarter diamond (quarter_directions slanted.fan)) refl

unreduced_quarter : ¬ IsPlainQuarter diamond (at 1 0 ∷ at 2 2 ∷ at 0 1 ∷ [])
unreduced_quarter = by_one_failure (plain_quarter diamond (at 1 0 ∷ at 2 2 ∷ at 0 1 ∷ [])) refl refl

begun_slanting : ¬ IsPlainQuarter diamond (at 1 1 ∷ at 0 1 ∷ [])
begun_slanting = by_one_failure (plain_quarter diamond (at 1 1 ∷ at 0 1 ∷ [])) refl refl

ended_slanting : ¬ IsPlainQuarter diamond (at 1 0 ∷ at 1 1 ∷ [])
ended_slanting = by_one_failure (plain_quarter diamond (at 1 0 ∷ at 1 1 ∷ [])) refl refl

slanting_twice : ¬ IsPlainQuarter diamond (at 1 0 ∷ at 1 1 ∷ at 1 1 ∷ at 0 1 ∷ [])
slanting_twice = by_one_failure (plain_quarter diamond (at 1 0 ∷ at 1 1 ∷ at 1 1 ∷ at 0 1 ∷ [])) refl refl

-- once more around
all_around : ¬ IsPlainQuarter diamond (at 1 0 ∷ at 1 1 ∷ left_at 1 1 ∷ signed_at (minus 1) (minus 1) ∷ signed_at (pos 1) (minus 1) ∷ at 1 1 ∷ at 0 1 ∷ [])
all_around = by_one_failure (plain_quarter diamond (at 1 0 ∷ at 1 1 ∷ left_at 1 1 ∷ signed_at (minus 1) (minus 1) ∷ signed_at (pos 1) (minus 1) ∷ at 1 1 ∷ at 0 1 ∷ [])) refl refl

without_slant : ¬ IsPlainQuarter diamond (at 1 0 ∷ at 0 1 ∷ [])
without_slant = by_one_failure (plain_quarter diamond (at 1 0 ∷ at 0 1 ∷ [])) refl refl

one_more : ¬ IsPlainQuarter diamond (at 1 0 ∷ at 2 1 ∷ at 1 1 ∷ at 0 1 ∷ [])
one_more = by_one_failure (plain_quarter diamond (at 1 0 ∷ at 2 1 ∷ at 1 1 ∷ at 0 1 ∷ [])) refl refl

along_line : IsPlainQuarter (at 0 0 ∷ at 4 3 ∷ []) (at 1 0 ∷ at 4 3 ∷ at 0 1 ∷ [])
along_line = by_test (plain_quarter (at 0 0 ∷ at 4 3 ∷ []) (at 1 0 ∷ at 4 3 ∷ at 0 1 ∷ [])) refl

beside_line : IsPlainQuarter (at 0 4 ∷ at 3 0 ∷ []) (at 1 0 ∷ at 4 3 ∷ at 0 1 ∷ [])
beside_line = by_test (plain_quarter (at 0 4 ∷ at 3 0 ∷ []) (at 1 0 ∷ at 4 3 ∷ at 0 1 ∷ [])) refl

without_line : ¬ IsPlainQuarter (at 0 0 ∷ at 4 3 ∷ []) (at 1 0 ∷ at 0 1 ∷ [])
without_line = by_one_failure (plain_quarter (at 0 0 ∷ at 4 3 ∷ []) (at 1 0 ∷ at 0 1 ∷ [])) refl refl

quarter_of_vertical : IsPlainQuarter (at 0 0 ∷ at 0 3 ∷ []) (at 1 0 ∷ at 0 1 ∷ [])
quarter_of_vertical = by_test (plain_quarter (at 0 0 ∷ at 0 3 ∷ []) (at 1 0 ∷ at 0 1 ∷ [])) refl

quarter_of_one : IsPlainQuarter (at 5 5 ∷ []) (at 1 0 ∷ at 0 1 ∷ [])
quarter_of_one = by_test (plain_quarter (at 5 5 ∷ []) (at 1 0 ∷ at 0 1 ∷ [])) refl

more_of_one : ¬ IsPlainQuarter (at 5 5 ∷ []) (at 1 0 ∷ at 4 3 ∷ at 0 1 ∷ [])
more_of_one = by_one_failure (plain_quarter (at 5 5 ∷ []) (at 1 0 ∷ at 4 3 ∷ at 0 1 ∷ [])) refl refl
