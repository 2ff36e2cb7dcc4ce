-- The direction of a vector of space: the vector divided by the common factor of its entries.
use Rattle.std.proofs.Common.{refl, pos}
use Rattle.bounds_model.specs.DistanceAnswer.{IsMultipleOfLowest, IsDirectionOf}
use Rattle.model_laws.proofs.Decisions.{by_test, by_failed_test, by_one_failure}
use Rattle.model_laws.proofs.DecideDirection.{multiple_of_lowest}
use Rattle.model_laws.proofs.DecideDistance.{direction_of}
use Rattle.model_laws.proofs.Literals.{minus, in_space, signed_in_space}

-- ---- the direction of a vector

thrice : IsMultipleOfLowest (in_space 6 0 9) (in_space 2 0 3)
thrice = by_test (multiple_of_lowest (in_space 6 0 9) (in_space 2 0 3)) refl

once_unreduced : ¬ IsMultipleOfLowest (in_space 6 0 9) (in_space 6 0 9)
once_unreduced = by_failed_test (multiple_of_lowest (in_space 6 0 9) (in_space 6 0 9)) refl

elsewhere : ¬ IsMultipleOfLowest (in_space 6 0 9) (in_space 2 1 3)
elsewhere = by_one_failure (multiple_of_lowest (in_space 6 0 9) (in_space 2 1 3)) refl refl

turned_round : ¬ IsMultipleOfLowest (in_space 6 0 9) (signed_in_space (minus 2) (pos 0) (minus 3))
turned_round = by_failed_test (multiple_of_lowest (in_space 6 0 9) (signed_in_space (minus 2) (pos 0) (minus 3))) refl

of_vector : IsDirectionOf (in_space 6 0 9) (in_space 2 0 3)
of_vector = by_test (direction_of (in_space 6 0 9) (in_space 2 0 3)) refl

of_origin : IsDirectionOf (in_space 0 0 0) (in_space 0 0 0)
of_origin = by_test (direction_of (in_space 0 0 0) (in_space 0 0 0)) refl

of_origin_elsewhere : ¬ IsDirectionOf (in_space 0 0 0) (in_space 2 0 3)
of_origin_elsewhere = by_one_failure (direction_of (in_space 0 0 0) (in_space 2 0 3)) refl refl

none_of_vector : ¬ IsDirectionOf (in_space 6 0 9) (in_space 0 0 0)
none_of_vector = by_one_failure (direction_of (in_space 6 0 9) (in_space 0 0 0)) refl refl
