use Rattle.std.proofs.Common.{rules, sym, subst, ap, ◌∙◌, ℕ, ◌+◌, ◌*◌, ◌/◌, ◌≤◌, length, map, All, arith}
use Rattle.bounded_coords.specs.Clouds.{counted_points}
use Rattle.answers.specs.Answers.{leaf_of}
use Rattle.corner_squares.specs.Covers.{IsPlaced}
use Rattle.corner_squares.specs.AnswerSquares.{centres_of_squares}
use Rattle.corner_squares.proofs.SoundSquares.{some_square, filled_cover}
use Rattle.four_centres.specs.Windows.{reads}
use Rattle.four_centres.proofs.Passing.{answer_passes}
use Rattle.four_centres.proofs.Starting.{reads_in_all}
use Rattle.four_centres.proofs.squares.best_four.Goals as goal

no_more : (s x : ℕ) → s ≤ s + x
no_more s x = omega arith

pub returns-in_err-kept-clause-steps : goal.returns-in_err-kept-clause-steps
returns-in_err-kept-clause-steps g c =
    let n = length (counted_points c.args.cloud) in
    reads_in_all n (length c.in_ok-heights.heights.items) c.args.steps.now c.sorted_points.new.steps c.least_point-least.new.steps c.search.new.steps c.search.new.steps c.args.cloud.cloud.not_empty c.in_ok-heights.ensures.few
    c.sorted_points.ensures.steps c.least_point-least.ensures.steps
    (subst (λ hs. c.search.new.steps ≤ c.least_point-least.new.steps + (length hs / 16 + length hs) * (20 * reads n 2)) c.as_slice-heights.ensures.value c.search.ensures.steps)
    (no_more c.search.new.steps (length c.in_ok-heights.heights.items * reads n 2))

pub returns-in_err-leaves-clause-steps : goal.returns-in_err-leaves-clause-steps
returns-in_err-leaves-clause-steps g c =
    let count = c.in_ok-heights.ensures.few in
    reads_in_all (length (counted_points c.args.cloud)) (length c.in_ok-heights.heights.items) c.args.steps.now c.sorted_points.new.steps c.least_point-least.new.steps c.search.new.steps c.leaves_below.new.steps c.args.cloud.cloud.not_empty count
    c.sorted_points.ensures.steps c.least_point-least.ensures.steps
    (subst (λ hs. c.search.new.steps ≤ c.least_point-least.new.steps + (length hs / 16 + length hs) * (20 * reads (length (counted_points c.args.cloud)) 2)) c.as_slice-heights.ensures.value c.search.ensures.steps)
    (subst (λ hs. c.leaves_below.new.steps ≤ c.search.new.steps + length hs * reads (length (counted_points c.args.cloud)) 2) c.as_slice-heights.ensures.value c.leaves_below.ensures.steps)

pub filled_up-squares-requires : goal.filled_up-squares-requires
filled_up-squares-requires g c =
    let best = c.search.ensures.best in
    let some = some_square (counted_points c.args.cloud) c.search.new.best.side 4 c.search.new.best.squares.items c.args.cloud.cloud.not_empty best.cover in
    (search rules, (some, (best.cover.few, omega arith)))

pub square_centres-requires : goal.square_centres-requires
square_centres-requires g c =
    let best = c.search.ensures.best in
    let cover = filled_cover (counted_points c.args.cloud) c.search.new.best.side 4 c.search.new.best.squares.items c.filled_up-squares.result.items best.cover c.filled_up-squares.ensures in
    (search rules, (c.as_slice-2.ensures.fits, (subst (All (IsPlaced c.search.new.best.side)) (sym c.as_slice-2.ensures.value) cover.placed, best.limit)))

pub returns-clause-passes : goal.returns-clause-passes
returns-clause-passes g c =
    let points = counted_points c.args.cloud in
    let side = c.search.new.best.side in
    let cover = filled_cover points side 4 c.search.new.best.squares.items c.filled_up-squares.result.items c.search.ensures.best.cover c.filled_up-squares.ensures in
    answer_passes points side c.filled_up-squares.result.items c.square_radius.result c.square_centres.result.items (map leaf_of c.in_ok-leaves.leaves) c.args.cloud.cloud.limited c.search.ensures.best.limit cover
    c.filled_up-squares.ensures.as_many c.square_radius.ensures (c.square_centres.ensures ∙ ap (centres_of_squares side) c.as_slice-2.ensures.value) c.in_ok-leaves.ensures.leaves

pub returns-clause-steps : goal.returns-clause-steps
returns-clause-steps g c =
    let count = c.in_ok-heights.ensures.few in
    reads_in_all (length (counted_points c.args.cloud)) (length c.in_ok-heights.heights.items) c.args.steps.now c.sorted_points.new.steps c.least_point-least.new.steps c.search.new.steps c.leaves_below.new.steps c.args.cloud.cloud.not_empty count
    c.sorted_points.ensures.steps c.least_point-least.ensures.steps
    (subst (λ hs. c.search.new.steps ≤ c.least_point-least.new.steps + (length hs / 16 + length hs) * (20 * reads (length (counted_points c.args.cloud)) 2)) c.as_slice-heights.ensures.value c.search.ensures.steps)
    (subst (λ hs. c.leaves_below.new.steps ≤ c.search.new.steps + length hs * reads (length (counted_points c.args.cloud)) 2) c.as_slice-heights.ensures.value c.leaves_below.ensures.steps)
