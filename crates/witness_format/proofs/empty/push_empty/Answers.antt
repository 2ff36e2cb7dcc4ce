use Rattle.std.proofs.Common.{◌∙◌, ap, codes, [], ◌∷◌, ◌++◌}
use Rattle.std.proofs.lemmas.Result.{on_ok_weaker}
use Rattle.bounds_model.specs.AnswerText.Fields.{blocker}
use Rattle.bounds_model.specs.AnswerText.LineFormats.{titled}
use Rattle.bounds_model.specs.AnswerText.Kinds.{side_fields}
use Rattle.bounds_model.specs.AnswerText.Written.{format_line}
use Rattle.answers.specs.Answers.{blocker_of}
use Rattle.witness_format.specs.declared.line.Edges.{Edges}
use Rattle.answer_lines.proofs.PrintedWords.{one_behind, last_behind}
use Rattle.witness_format.proofs.empty.push_empty.Goals as goal

pub returns : goal.returns
returns c =
    let a = c.args.a.now in
    let one = format_line (titled (codes "rectangle") (side_fields)) (a.l, (a.b, (a.r, (a.t, tt)))) in
    let two = format_line (titled (codes "left") (blocker ∷ [])) (blocker_of a.left, tt) in
    let three = format_line (titled (codes "bottom") (blocker ∷ [])) (blocker_of a.bottom, tt) in
    let four = format_line (titled (codes "right") (blocker ∷ [])) (blocker_of a.right, tt) in
    let five = format_line (titled (codes "top") (blocker ∷ [])) (blocker_of a.top, tt) in
    on_ok_weaker c.push_titled-5.result (λ e. one_behind c.args.text.now.items c.push_titled.new.text.items c.push_titled-5.new.text.items one (two ++ (three ++ (four ++ (five ++ [])))) (c.in_ok-push_titled.ensures ∙ ap (λ (x : Edges). c.args.text.now.items ++ format_line (titled (codes "rectangle") side_fields) (x.left, (x.bottom, (x.right, (x.top, tt))))) c.edges-edges.ensures)
    (one_behind c.push_titled.new.text.items c.push_titled-2.new.text.items c.push_titled-5.new.text.items two (three ++ (four ++ (five ++ []))) c.in_ok-push_titled-2.ensures
    (one_behind c.push_titled-2.new.text.items c.push_titled-3.new.text.items c.push_titled-5.new.text.items three (four ++ (five ++ [])) c.in_ok-push_titled-3.ensures
    (one_behind c.push_titled-3.new.text.items c.push_titled-4.new.text.items c.push_titled-5.new.text.items four (five ++ []) c.in_ok-push_titled-4.ensures
    (last_behind c.push_titled-4.new.text.items c.push_titled-5.new.text.items five (e)))))) c.push_titled-5.ensures
