-- Distances that fail in one of the conditions of a checker alone.
use Rattle.std.proofs.Common.{refl, ℕ, ◌+◌, ◌^◌, pos, List, [], ◌∷◌}
use Rattle.bounds_model.specs.Space.{SpacePoint}
use Rattle.bounds_model.specs.AnnulusAnswer.{WeightedPair}
use Rattle.bounds_model.specs.DistanceAnswer.{DistanceAnswer, DistanceRanges, PassesDistance}
use Rattle.model_laws.proofs.Decisions.{by_test, by_one_failure}
use Rattle.model_laws.proofs.DecideDistance.{distance_ranges, distance_passes}
use Rattle.model_laws.proofs.Literals.{minus, in_space, signed_in_space, space_over, fraction, pair}

-- ---- a point and a triangle

abbrev corner : List SpacePoint
corner = in_space 0 0 0 ∷ []

abbrev facing : List SpacePoint
facing = in_space 3 0 0 ∷ in_space 0 3 0 ∷ in_space 0 0 3 ∷ []

abbrev to_middle : DistanceAnswer
to_middle = record {
  size = fraction 3 1;
  from = space_over 0 0 0 1;
  to = space_over 1 1 1 1;
  direction = signed_in_space (minus 1) (minus 1) (minus 1);
  pairs = pair 0 0 1 ∷ pair 0 1 1 ∷ pair 0 2 1 ∷ [];
}

abbrev with_pairs : List WeightedPair → DistanceAnswer
with_pairs pairs = record to_middle { pairs = pairs }

middle : PassesDistance corner facing to_middle
middle = by_test (distance_passes corner facing to_middle) refl

four_pairs : PassesDistance corner facing (with_pairs (pair 0 0 1 ∷ pair 0 0 1 ∷ pair 0 1 2 ∷ pair 0 2 2 ∷ []))
four_pairs = by_test (distance_passes corner facing (with_pairs (pair 0 0 1 ∷ pair 0 0 1 ∷ pair 0 1 2 ∷ pair 0 2 2 ∷ []))) refl

unreduced_size : ¬ PassesDistance corner facing (record to_middle { size = fraction 6 2 })
unreduced_size = by_one_failure (distance_passes corner facing (record to_middle { size = fraction 6 2 })) refl refl

unreduced_from : ¬ PassesDistance corner facing (record to_middle { from = space_over 0 0 0 2 })
unreduced_from = by_one_failure (distance_passes corner facing (record to_middle { from = space_over 0 0 0 2 })) refl refl

unreduced_to : ¬ PassesDistance corner facing (record to_middle { to = space_over 2 2 2 2 })
unreduced_to = by_one_failure (distance_passes corner facing (record to_middle { to = space_over 2 2 2 2 })) refl refl

unreduced_direction : ¬ PassesDistance corner facing (record to_middle { direction = signed_in_space (minus 3) (minus 3) (minus 3) })
unreduced_direction =
    by_one_failure (distance_passes corner facing (record to_middle { direction = signed_in_space (minus 3) (minus 3) (minus 3) })) refl refl

other_size : ¬ PassesDistance corner facing (record to_middle { size = fraction 2 1 })
other_size = by_one_failure (distance_passes corner facing (record to_middle { size = fraction 2 1 })) refl refl

other_from : ¬ PassesDistance corner facing (record to_middle { from = space_over 0 0 1 1 })
other_from = by_one_failure (distance_passes corner facing (record to_middle { from = space_over 0 0 1 1 })) refl refl

other_to : ¬ PassesDistance corner facing (record to_middle { to = space_over 1 2 1 1 })
other_to = by_one_failure (distance_passes corner facing (record to_middle { to = space_over 1 2 1 1 })) refl refl

-- four pairs at most, and one at least: without pairs every size would pass
five_pairs : ¬ PassesDistance corner facing (with_pairs (pair 0 0 1 ∷ pair 0 0 1 ∷ pair 0 1 1 ∷ pair 0 1 1 ∷ pair 0 2 2 ∷ []))
five_pairs =
    by_one_failure (distance_passes corner facing (with_pairs (pair 0 0 1 ∷ pair 0 0 1 ∷ pair 0 1 1 ∷ pair 0 1 1 ∷ pair 0 2 2 ∷ []))) refl refl

no_pairs : ¬ PassesDistance corner facing (record (with_pairs []) { direction = in_space 0 0 0 })
no_pairs = by_one_failure (distance_passes corner facing (record (with_pairs []) { direction = in_space 0 0 0 })) refl refl

weightless : ¬ PassesDistance corner facing (with_pairs (pair 0 0 1 ∷ pair 0 1 1 ∷ pair 0 2 1 ∷ pair 0 0 0 ∷ []))
weightless = by_one_failure (distance_passes corner facing (with_pairs (pair 0 0 1 ∷ pair 0 1 1 ∷ pair 0 2 1 ∷ pair 0 0 0 ∷ []))) refl refl

first_beyond : ¬ PassesDistance corner facing (with_pairs (pair 9 0 1 ∷ pair 0 1 1 ∷ pair 0 2 1 ∷ []))
first_beyond = by_one_failure (distance_passes corner facing (with_pairs (pair 9 0 1 ∷ pair 0 1 1 ∷ pair 0 2 1 ∷ []))) refl refl

abbrev to_first : DistanceAnswer
to_first = record {
  size = fraction 9 1;
  from = space_over 0 0 0 1;
  to = space_over 3 0 0 1;
  direction = signed_in_space (minus 1) (pos 0) (pos 0);
  pairs = pair 0 0 1 ∷ [];
}

-- one of the three is not the nearest
others_nearer : ¬ PassesDistance corner facing to_first
others_nearer = by_one_failure (distance_passes corner facing to_first) refl refl

-- ---- other sets

abbrev from_middle : ℕ → DistanceAnswer
from_middle second = record to_middle {
  from = space_over 1 1 1 1;
  to = space_over 0 0 0 1;
  direction = in_space 1 1 1;
  pairs = pair 0 0 1 ∷ pair 1 second 1 ∷ pair 2 0 1 ∷ [];
}

exchanged : PassesDistance facing corner (from_middle 0)
exchanged = by_test (distance_passes facing corner (from_middle 0)) refl

second_beyond : ¬ PassesDistance facing corner (from_middle 9)
second_beyond = by_one_failure (distance_passes facing corner (from_middle 9)) refl refl

-- two points, unevenly weighted: the pair named first has the least product
abbrev two_points : List SpacePoint
two_points = in_space 3 0 0 ∷ in_space 0 3 0 ∷ []

abbrev uneven : DistanceAnswer
uneven = record to_middle { to = space_over 1 2 0 1; direction = signed_in_space (minus 1) (minus 2) (pos 0); pairs = pair 0 0 1 ∷ pair 0 1 2 ∷ [] }

other_products : ¬ PassesDistance corner two_points uneven
other_products = by_one_failure (distance_passes corner two_points uneven) refl refl

heaviest : PassesDistance corner (in_space 3 0 0 ∷ []) (record to_first { pairs = pair 0 0 (2 ^ 66) ∷ [] })
heaviest = by_test (distance_passes corner (in_space 3 0 0 ∷ []) (record to_first { pairs = pair 0 0 (2 ^ 66) ∷ [] })) refl

too_heavy : ¬ PassesDistance corner (in_space 3 0 0 ∷ []) (record to_first { pairs = pair 0 0 (2 ^ 66 + 1) ∷ [] })
too_heavy = by_one_failure (distance_passes corner (in_space 3 0 0 ∷ []) (record to_first { pairs = pair 0 0 (2 ^ 66 + 1) ∷ [] })) refl refl

-- ---- ranges

abbrev past : ℕ
past = 2 ^ 126 + 1

in_ranges : DistanceRanges (with_pairs (pair 9999 9999 (2 ^ 126) ∷ []))
in_ranges = by_test (distance_ranges (with_pairs (pair 9999 9999 (2 ^ 126) ∷ []))) refl

second_past : ¬ DistanceRanges (with_pairs (pair 0 10000 1 ∷ []))
second_past = by_one_failure (distance_ranges (with_pairs (pair 0 10000 1 ∷ []))) refl refl

x_past : ¬ DistanceRanges (record to_middle { direction = in_space past 0 0 })
x_past = by_one_failure (distance_ranges (record to_middle { direction = in_space past 0 0 })) refl refl

y_past : ¬ DistanceRanges (record to_middle { direction = in_space 0 past 0 })
y_past = by_one_failure (distance_ranges (record to_middle { direction = in_space 0 past 0 })) refl refl

z_past : ¬ DistanceRanges (record to_middle { direction = in_space 0 0 past })
z_past = by_one_failure (distance_ranges (record to_middle { direction = in_space 0 0 past })) refl refl

size_past : ¬ DistanceRanges (record to_middle { size = fraction past 1 })
size_past = by_one_failure (distance_ranges (record to_middle { size = fraction past 1 })) refl refl

from_past : ¬ DistanceRanges (record to_middle { from = space_over past 0 0 1 })
from_past = by_one_failure (distance_ranges (record to_middle { from = space_over past 0 0 1 })) refl refl

to_past : ¬ DistanceRanges (record to_middle { to = space_over past 0 0 1 })
to_past = by_one_failure (distance_ranges (record to_middle { to = space_over past 0 0 1 })) refl refl

none_in_ranges : ¬ DistanceRanges (with_pairs [])
none_in_ranges = by_one_failure (distance_ranges (with_pairs [])) refl refl
