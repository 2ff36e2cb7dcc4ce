-- The answer with four squares that cover the points, and the leaves at a side less by 1, passes what a checker asks.
use Rattle.std.proofs.Common.{◌≡◌, sym, subst, ℕ, ◌≤◌, List, length, arith}
use Rattle.bounds_model.specs.Plane.{PlanePoint, PlaneRatio}
use Rattle.bounds_model.specs.Fractions.{Fraction}
use Rattle.bounds_model.specs.CentresAnswer as model
use Rattle.bounds_model.specs.FourAnswer.{AreFourLeaves, PassesFour}
use Rattle.corner_squares.specs.declared.square.Square.{Square}
use Rattle.corner_squares.specs.Covers.{IsCover}
use Rattle.corner_squares.specs.AnswerSquares.{half_of, centres_of_squares}
use Rattle.corner_squares.proofs.Halves.{side-half}
use Rattle.corner_squares.proofs.SoundSquares.{AreSound, squares_sound}
use Rattle.four_centres.specs.Search.{AreFourLeavesOf}

-- an answer by its parts
abbrev answer_with : Fraction → List PlaneRatio → List model.Leaf → model.CentresAnswer
answer_with size squares leaves = record { size = size; squares = squares; leaves = leaves }

pub answer_passes : (points : List PlanePoint) (side : ℕ) (squares : List Square) (size : Fraction) (centres : List PlaneRatio) (leaves : List model.Leaf) → length points ≤ 10000 → side ≤ 400000 → IsCover points side 4 squares → length squares ≡ 4
    → size ≡ half_of side → centres ≡ centres_of_squares side squares → AreFourLeavesOf side points leaves → PassesFour points (answer_with size centres leaves)
answer_passes points side squares size centres leaves most limit cover as_many is_size is_centres h =
    subst (λ r. PassesFour points (answer_with r centres leaves)) (sym is_size) (subst (λ cs. PassesFour points (answer_with (half_of side) cs leaves)) (sym is_centres) (record {
      ranges = record {
        size = sound.size;
        square_count = (let e = sound.covers.as_many in record { at_least = omega (arith, e); at_most = omega (arith, e) });
        squares = sound.squares;
        leaf_count = record { at_least = omega arith; at_most = h.few };
        leaves = λ k d below. let names = h.names k d below in (let a = names.first in omega (arith, a, most), let a = names.second in omega (arith, a, most));
      };
      numbers = λ k d below. let names = h.names k d below in (names.first, names.second);
      halves = sound.halves;
      size_limit = sound.size_limit;
      centres = sound.centres;
      covers = sound.covers;
      leaves = subst (λ s. AreFourLeaves s points leaves) (sym (side-half side)) h.refute;
    }))
  where
    sound : AreSound 4 points (answer_with (half_of side) (centres_of_squares side squares) leaves)
    sound = squares_sound 4 points side squares leaves limit cover as_many
