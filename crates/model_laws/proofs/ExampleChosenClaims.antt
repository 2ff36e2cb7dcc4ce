-- Answers on boxes, polygons, distances and squares whose object fits and whose size is printed, and some that fail in one condition alone.
use Rattle.std.proofs.Common.{refl, [], ◌∷◌}
use Rattle.bounds_model.specs.EmptyAnswer.{EmptyAnswer}
use Rattle.bounds_model.specs.KgonAnswer.{KgonAnswer}
use Rattle.bounds_model.specs.DistanceAnswer.{DistanceAnswer}
use Rattle.bounds_model.specs.CentresAnswer.{CentresAnswer}
use Rattle.bounds_model.specs.Asks.Ask.{ask_empty, ask_kgon, ask_distance, ask_centres}
use Rattle.bounds_model.specs.Asks.Sets.{plane, two, bare}
use Rattle.bounds_model.specs.Answers.{Fits}
use Rattle.bounds_model.specs.Answers.Answer.{empty, kgon, distance, centres}
use Rattle.model_laws.proofs.Decisions.{Decision, by_test, by_one_failure}
use Rattle.model_laws.proofs.DecideClaims.{fits}
use Rattle.model_laws.proofs.ExampleEmpty
use Rattle.model_laws.proofs.ExampleKgons
use Rattle.model_laws.proofs.ExampleDistances
use Rattle.model_laws.proofs.ExampleCentres
use Rattle.model_laws.proofs.Literals.{fraction, box, pair}

abbrev BoxFits : EmptyAnswer → Type 0
BoxFits a = Fits (ask_empty ExampleEmpty.frame) (plane ExampleEmpty.one_point) (empty a)

abbrev box_test : (a : EmptyAnswer) → Decision (BoxFits a)
box_test a = fits (ask_empty ExampleEmpty.frame) (plane ExampleEmpty.one_point) (empty a)

box_fits : BoxFits ExampleEmpty.below
box_fits = by_test (box_test ExampleEmpty.below) refl

box_other_size : ¬ BoxFits (record ExampleEmpty.below { size = fraction 9 1 })
box_other_size = by_one_failure (box_test (record ExampleEmpty.below { size = fraction 9 1 })) refl refl

box_unreduced : ¬ BoxFits (record ExampleEmpty.below { size = fraction 16 2 })
box_unreduced = by_one_failure (box_test (record ExampleEmpty.below { size = fraction 16 2 })) refl refl

box_not_empty : ¬ BoxFits (record ExampleEmpty.below { size = fraction 12 1; box = box 0 0 4 3 })
box_not_empty = by_one_failure (box_test (record ExampleEmpty.below { size = fraction 12 1; box = box 0 0 4 3 })) refl refl

box_of_none_fits : Fits (ask_empty ExampleEmpty.frame) bare (empty ExampleEmpty.beside)
box_of_none_fits = by_test (fits (ask_empty ExampleEmpty.frame) bare (empty ExampleEmpty.beside)) refl

abbrev PolygonFits : KgonAnswer → Type 0
PolygonFits a = Fits (ask_kgon 3) (plane ExampleKgons.square) (kgon a)

abbrev polygon_test : (a : KgonAnswer) → Decision (PolygonFits a)
polygon_test a = fits (ask_kgon 3) (plane ExampleKgons.square) (kgon a)

polygon_fits : PolygonFits ExampleKgons.half
polygon_fits = by_test (polygon_test ExampleKgons.half) refl

polygon_other_size : ¬ PolygonFits (record ExampleKgons.half { size = fraction 3 1 })
polygon_other_size = by_one_failure (polygon_test (record ExampleKgons.half { size = fraction 3 1 })) refl refl

polygon_unreduced : ¬ PolygonFits (record ExampleKgons.half { size = fraction 4 2 })
polygon_unreduced = by_one_failure (polygon_test (record ExampleKgons.half { size = fraction 4 2 })) refl refl

polygon_beyond : ¬ PolygonFits (record ExampleKgons.half { corners = 9 ∷ 1 ∷ 2 ∷ 3 ∷ [] })
polygon_beyond = by_one_failure (polygon_test (record ExampleKgons.half { corners = 9 ∷ 1 ∷ 2 ∷ 3 ∷ [] })) refl refl

polygon_of_other_corners : ¬ PolygonFits (record ExampleKgons.half { corners = 0 ∷ 1 ∷ 2 ∷ [] })
polygon_of_other_corners = by_one_failure (polygon_test (record ExampleKgons.half { corners = 0 ∷ 1 ∷ 2 ∷ [] })) refl refl

polygon_of_four : ¬ PolygonFits (record ExampleKgons.half { size = fraction 4 1; chosen = 0 ∷ 1 ∷ 2 ∷ 3 ∷ [] })
polygon_of_four = by_one_failure (polygon_test (record ExampleKgons.half { size = fraction 4 1; chosen = 0 ∷ 1 ∷ 2 ∷ 3 ∷ [] })) refl refl

abbrev DistanceFits : DistanceAnswer → Type 0
DistanceFits a = Fits ask_distance (two ExampleDistances.corner ExampleDistances.facing) (distance a)

abbrev distance_test : (a : DistanceAnswer) → Decision (DistanceFits a)
distance_test a = fits ask_distance (two ExampleDistances.corner ExampleDistances.facing) (distance a)

distance_fits : DistanceFits ExampleDistances.to_middle
distance_fits = by_test (distance_test ExampleDistances.to_middle) refl

distance_other_size : ¬ DistanceFits (record ExampleDistances.to_middle { size = fraction 2 1 })
distance_other_size = by_one_failure (distance_test (record ExampleDistances.to_middle { size = fraction 2 1 })) refl refl

distance_unreduced : ¬ DistanceFits (record ExampleDistances.to_middle { size = fraction 6 2 })
distance_unreduced = by_one_failure (distance_test (record ExampleDistances.to_middle { size = fraction 6 2 })) refl refl

-- the weights of the pairs are those of the points that they name
to_one_fits : DistanceFits (record ExampleDistances.to_middle { size = fraction 9 1; pairs = pair 0 1 5 ∷ [] })
to_one_fits = by_test (distance_test (record ExampleDistances.to_middle { size = fraction 9 1; pairs = pair 0 1 5 ∷ [] })) refl

to_two_fits : DistanceFits (record ExampleDistances.to_middle { size = fraction 5 1; pairs = pair 0 1 1 ∷ pair 0 2 1 ∷ pair 0 1 1 ∷ [] })
to_two_fits =
    by_test (distance_test (record ExampleDistances.to_middle { size = fraction 5 1; pairs = pair 0 1 1 ∷ pair 0 2 1 ∷ pair 0 1 1 ∷ [] })) refl

abbrev SquaresFits : CentresAnswer → Type 0
SquaresFits a = Fits (ask_centres 2) (plane ExampleCentres.four_points) (centres a)

abbrev squares_test : (a : CentresAnswer) → Decision (SquaresFits a)
squares_test a = fits (ask_centres 2) (plane ExampleCentres.four_points) (centres a)

squares_fits : SquaresFits ExampleCentres.two_squares
squares_fits = by_test (squares_test ExampleCentres.two_squares) refl

squares_too_small : ¬ SquaresFits (record ExampleCentres.two_squares { size = fraction 1 2 })
squares_too_small = by_one_failure (squares_test (record ExampleCentres.two_squares { size = fraction 1 2 })) refl refl

squares_unreduced : ¬ SquaresFits (record ExampleCentres.two_squares { size = fraction 2 2 })
squares_unreduced = by_one_failure (squares_test (record ExampleCentres.two_squares { size = fraction 2 2 })) refl refl
