use Rattle.std.proofs.Common.{rules, ◌≡◌, ◌∙◌, SFits, w32}
use Rattle.std.specs.Int.{w128}
use Rattle.std.proofs.lemmas.Int.{to_z-of_z}
use Rattle.corner_squares.specs.AnswerSquares.{half_of, centre_of}
use Rattle.corner_squares.proofs.Ranges.{centre_given, place_x, ratio_at}
use Rattle.corner_squares.proofs.answer_squares.centre.Goals as goal

pub returns : goal.returns
returns c =
    let square = c.args.square.now in
    let fits_x : SFits w128 c.middle-x.result = search rules in
    let fits_y : SFits w128 c.middle-y.result = search rules in
    let fits_w : SFits w128 c.from.result = search rules in
    let fits_left : SFits w32 c.args.square.now.left = search rules in
    let fits_bottom : SFits w32 c.args.square.now.bottom = search rules in
    let is_x = simp to_z-of_z at c.middle-x.ensures in
    let is_y = simp to_z-of_z at c.middle-y.ensures in
    let kept = simp to_z-of_z at c.new.ensures.kept in
    let given : ratio_at c.middle-x.result c.middle-y.result c.from.result ≡ centre_of square (half_of square.side) =
    centre_given square.side square c.args.radius.n c.args.radius.d c.middle-x.result c.middle-y.result c.from.result c.requires.half is_x is_y c.from.ensures in
    kept (place_x square.side square c.middle-x.result c.middle-y.result c.from.result c.requires.placed c.requires.limit given) ∙ given
