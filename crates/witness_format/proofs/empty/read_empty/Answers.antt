use Rattle.std.proofs.Common.{refl, [], ◌∷◌, codes, rules}
use Rattle.bounds_model.specs.AnswerText.Fields.{blocker}
use Rattle.bounds_model.specs.AnswerText.LineFormats.{titled}
use Rattle.bounds_model.specs.AnswerText.Formats.{line}
use Rattle.bounds_model.specs.AnswerText.Kinds.{empty_kind, side_fields}
use Rattle.answers.specs.Answers.{blocker_of}
use Rattle.answer_lines.specs.Lines.{lines_left}
use Rattle.witness_format.proofs.KindTexts.{part_read, body_read}
use Rattle.witness_format.proofs.SaidAnswers.{empty_is}
use Rattle.witness_format.proofs.empty.read_empty.Goals as goal

pub returns : goal.returns
returns c =
    let edges-part = line (titled (codes "rectangle") (side_fields)) in
    let left-part = line (titled (codes "left") (blocker ∷ [])) in
    let bottom-part = line (titled (codes "bottom") (blocker ∷ [])) in
    let right-part = line (titled (codes "right") (blocker ∷ [])) in
    let top-part = line (titled (codes "top") (blocker ∷ [])) in
    let one = lines_left c.args.text.now in
    let two = lines_left c.read_titled.new.text in
    let three = lines_left c.read_titled-2.new.text in
    let four = lines_left c.read_titled-3.new.text in
    let five = lines_left c.read_titled-4.new.text in
    let six = lines_left c.read_titled-5.new.text in
    let read =
    body_read empty_kind c.args.size one _ six _
    (part_read edges-part (left-part ∷ bottom-part ∷ right-part ∷ top-part ∷ []) [] one ((c.in_ok-edges.edges.left, (c.in_ok-edges.edges.bottom, (c.in_ok-edges.edges.right, (c.in_ok-edges.edges.top, tt))))) two _ six c.in_ok-edges.ensures
    (part_read left-part (bottom-part ∷ right-part ∷ top-part ∷ []) [] two ((blocker_of c.in_ok-left.left, tt)) three _ six c.in_ok-left.ensures
    (part_read bottom-part (right-part ∷ top-part ∷ []) [] three ((blocker_of c.in_ok-bottom.bottom, tt)) four _ six c.in_ok-bottom.ensures
    (part_read right-part (top-part ∷ []) [] four ((blocker_of c.in_ok-right.right, tt)) five _ six c.in_ok-right.ensures
    (part_read top-part [] [] five ((blocker_of c.in_ok-top.top, tt)) six tt six c.in_ok-top.ensures refl)))))
    (empty_is (record { size = c.args.size; l = c.in_ok-edges.edges.left; b = c.in_ok-edges.edges.bottom; r = c.in_ok-edges.edges.right; t = c.in_ok-edges.edges.top; left = c.in_ok-left.left; bottom = c.in_ok-bottom.bottom; right = c.in_ok-right.right; top = c.in_ok-top.top })) in
    search (rules, read)
