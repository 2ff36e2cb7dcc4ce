use Rattle.std.proofs.Common.{◌≡◌, map, take}
use Rattle.corner_squares.specs.AnswerSquares.{half_of, centre_of}
use Rattle.corner_squares.proofs.answer_squares.square_centres.Given as goal

abbrev pub invariant-loop-square : goal.invariant-loop-square
invariant-loop-square g l = l.centres.items ≡ map (λ s. centre_of s (half_of l.side)) (take l.square-index l.squares)
