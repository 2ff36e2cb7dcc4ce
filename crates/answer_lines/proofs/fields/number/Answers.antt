use Rattle.std.proofs.Common.{◌≡◌, ◌∙◌, sym, ap, Some, FitsSigned, rules}
use Rattle.std.specs.Int.{w128}
use Rattle.std.proofs.lemmas.Int.{to_z-of_z}
use Rattle.bounds_model.specs.AnswerText.Fields.{number}
use Rattle.answer_lines.specs.Judging.{judged_field}
use Rattle.answer_lines.specs.Lines.{words_left}
use Rattle.answer_lines.proofs.Clamping.{number_at}
use Rattle.answer_lines.proofs.fields.number.Goals as goal

pub returns : goal.returns
returns c =
    let fits : FitsSigned w128 c.in_ok-n.n = search rules in
    let judged : c.judged_number-2.result ≡ judged_field number c.in_ok-n.n = simp to_z-of_z at c.judged_number-2.ensures in
    number_at c.in_ok-word.word.now (words_left c.args.words) (words_left c.in_ok-word.others) c.in_ok-n.n c.in_ok-word.ensures c.in_ok-n.ensures ∙ sym (ap (λ j. Some (j, words_left c.in_ok-word.others)) judged)
