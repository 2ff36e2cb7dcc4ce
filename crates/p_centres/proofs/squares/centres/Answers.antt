use Rattle.std.proofs.Common.{rules, sym, subst, ◌∙◌, ap, All, map}
use Rattle.bounded_coords.specs.Clouds.{counted_points}
use Rattle.answers.specs.Answers.{leaf_of}
use Rattle.corner_squares.specs.Covers.{IsPlaced, IsCover}
use Rattle.corner_squares.specs.AnswerSquares.{centres_of_squares}
use Rattle.corner_squares.proofs.SoundSquares.{some_square, filled_cover}
use Rattle.p_centres.proofs.Leaves.{only_leaves}
use Rattle.p_centres.proofs.Passing.{answer_passes}
use Rattle.p_centres.proofs.squares.centres.Goals as goal

pub filled_up-squares-requires : goal.filled_up-squares-requires
filled_up-squares-requires g c =
    let bracket = c.least_side-least.ensures.bracket in
    let some = some_square (counted_points c.args.cloud) c.least_side-least.result.high c.args.p c.least_side-least.result.squares.items c.args.cloud.cloud.not_empty bracket.cover in
    (search rules, (some, (bracket.cover.few, c.requires.few)))

pub square_centres-requires : goal.square_centres-requires
square_centres-requires g c =
    let bracket = c.least_side-least.ensures.bracket in
    let cover = filled_cover (counted_points c.args.cloud) c.least_side-least.result.high c.args.p c.least_side-least.result.squares.items c.filled_up-squares.result.items bracket.cover c.filled_up-squares.ensures in
    (search rules, (c.as_slice.ensures.fits, (subst (All (IsPlaced c.least_side-least.result.high)) (sym c.as_slice.ensures.value) cover.placed, bracket.limit)))

pub returns-clause-passes : goal.returns-clause-passes
returns-clause-passes g c =
    let points = counted_points c.args.cloud in
    let least = c.least_side-least in
    let cover = filled_cover points least.result.high c.args.p least.result.squares.items c.filled_up-squares.result.items least.ensures.bracket.cover c.filled_up-squares.ensures in
    answer_passes points c.args.p least.result c.filled_up-squares.result.items c.square_radius.result c.square_centres.result.items c.requires.some c.requires.few c.args.cloud.cloud.limited least.ensures.bracket least.ensures.least cover
    c.filled_up-squares.ensures.as_many c.square_radius.ensures (c.square_centres.ensures ∙ ap (centres_of_squares least.result.high) c.as_slice.ensures.value)

pub returns-clause-only_leaf : goal.returns-clause-only_leaf
returns-clause-only_leaf g c = λ one.
    let points = counted_points c.args.cloud in
    let least = c.least_side-least in
    let bracket = least.ensures.bracket in
    only_leaves points least.result.low c.args.p least.result.squares.items (map leaf_of least.result.leaves.items) one bracket.names
    (subst (λ side. IsCover points side c.args.p least.result.squares.items) (sym least.ensures.least) bracket.cover) bracket.leaves (bracket.earliest one)
