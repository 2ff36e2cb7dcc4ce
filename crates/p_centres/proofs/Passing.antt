-- The answer with squares that cover the points, and the leaves of the tree at a side less by 1, passes what a checker asks.
use Rattle.std.proofs.Common.{◌≡◌, sym, subst, ap, ◌∙◌, ℕ, zero, suc, ◌≤◌, List, length, map, arith}
use Rattle.bounds_model.specs.Plane.{PlanePoint, PlaneRatio}
use Rattle.bounds_model.specs.Fractions.{Fraction}
use Rattle.bounds_model.specs.CentresAnswer as model
use Rattle.answers.specs.Answers.{leaf_of}
use Rattle.corner_squares.specs.declared.square.Square.{Square}
use Rattle.corner_squares.specs.Covers.{IsCover}
use Rattle.corner_squares.specs.AnswerSquares.{half_of, centres_of_squares}
use Rattle.corner_squares.proofs.Halves.{side-half}
use Rattle.corner_squares.proofs.SoundSquares.{AreSound, squares_sound}
use Rattle.p_centres.specs.declared.sides.Bracket.{Bracket}
use Rattle.p_centres.specs.Sides.{IsBracket}
use Rattle.p_centres.proofs.Halving.{room_for_tree}

few_leaves : (side count : ℕ) (points : List PlanePoint) (leaves : List model.Leaf) → 1 ≤ count → count ≤ 3 → model.AreLeaves side count points leaves → length leaves ≤ 16
few_leaves zero count points leaves some few h = (let e = ap length h in omega (arith, e))
few_leaves (suc side) count points leaves some few h = (let e = h.0 in let r = room_for_tree count some few in omega (arith, e, r))

-- an answer by its parts
abbrev answer_with : Fraction → List PlaneRatio → List model.Leaf → model.CentresAnswer
answer_with size squares leaves = record { size = size; squares = squares; leaves = leaves }

pub answer_passes : (points : List PlanePoint) (count : ℕ) (b : Bracket) (squares : List Square) (size : Fraction) (centres : List PlaneRatio) → 1 ≤ count → count ≤ 3 → length points ≤ 10000 → IsBracket points count b → b.low ≡ b.high
    → IsCover points b.high count squares → length squares ≡ count → size ≡ half_of b.high → centres ≡ centres_of_squares b.high squares → model.PassesCentres count points (answer_with size centres (map leaf_of b.leaves.items))
answer_passes points count b squares size centres some few most h least cover as_many is_size is_centres =
    subst (λ r. model.PassesCentres count points (answer_with r centres leaves)) (sym is_size) (subst (λ cs. model.PassesCentres count points (answer_with (half_of b.high) cs leaves)) (sym is_centres) (record {
      ranges = record {
        size = sound.size;
        square_count = (let e = sound.covers.as_many in record { at_least = omega (arith, e, some); at_most = omega (arith, e, few) });
        squares = sound.squares;
        leaf_count = record { at_least = omega arith; at_most = few_leaves b.low count points leaves some few h.leaves };
        leaves = λ k d below. let names = h.names k d below in (let a = names.first in omega (arith, a, most), let a = names.second in omega (arith, a, most));
      };
      numbers = λ k d below. let names = h.names k d below in (names.first, names.second);
      halves = sound.halves;
      size_limit = sound.size_limit;
      centres = sound.centres;
      covers = sound.covers;
      leaves = subst (λ side. model.AreLeaves side count points leaves) (least ∙ sym (side-half b.high)) h.leaves;
    }))
  where
    leaves : List model.Leaf
    leaves = map leaf_of b.leaves.items

    sound : AreSound count points (answer_with (half_of b.high) (centres_of_squares b.high squares) leaves)
    sound = squares_sound count points b.high squares leaves h.limit cover as_many
