use Rattle.std.proofs.Common.{append_assoc, FitsSigned, rules}
use Rattle.std.specs.Int.{w128}
use Rattle.std.proofs.lemmas.Int.{to_z-of_z}
use Rattle.answer_lines.proofs.line_printing.push_space_ratio.Goals as goal

pub returns : goal.returns
returns c =
    let fits_x : FitsSigned w128 c.x.result = search rules in
    let fits_y : FitsSigned w128 c.y.result = search rules in
    let fits_z : FitsSigned w128 c.z.result = search rules in
    let fits_w : FitsSigned w128 c.w.result = search rules in
    let first = simp to_z-of_z at c.in_ok-push_pair.ensures in
    let second = simp to_z-of_z at c.push_pair.ensures in
    search (rules, append_assoc, first, second)
