use Rattle.std.proofs.Common.{◌≡◌, ◌-◌, drop, take, length, length-drop, arith}
use Rattle.std.proofs.lemmas.List.{take_all}
use Rattle.byte_tools.proofs.FirstIndices.{index_missing}
use Rattle.point_text.proofs.FieldCuts.{is_no_blank}
use Rattle.point_text.proofs.LeadingFields.{next_number_read, uncommented-none}
use Rattle.point_text.proofs.line.next_number.Goals as goal

pub returns-in_err-start : goal.returns-in_err-start
returns-in_err-start c =
    let nothing = uncommented-none c.args.line.now (index_missing is_no_blank c.args.line.now c.in_err-start.ensures.index) in
    rw (c.from_residual.ensures, nothing) tt

pub returns : goal.returns
returns c =
    let line = c.args.line.now in
    let start = c.in_ok-start.start in
    let cut : take (length line - start) (drop start line) ≡ drop start line = take_all (length line - start) (drop start line) (let size = length-drop start line in omega (arith, size)) in
    next_number_read line _ start c.leading_number.result c.in_ok-start.ensures.index c.in_ok-start.ensures.within cut c.leading_number.ensures
