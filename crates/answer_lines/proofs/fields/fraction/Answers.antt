use Rattle.std.proofs.Common.{◌≡◌, ◌∙◌, sym, ap, Some, FitsSigned, rules}
use Rattle.std.specs.Int.{w128}
use Rattle.std.specs.Option.{option_map}
use Rattle.std.proofs.lemmas.Int.{to_z-of_z}
use Rattle.bounds_model.specs.AnswerText.Numerals.{whole_number}
use Rattle.bounds_model.specs.AnswerText.Fields.{fraction}
use Rattle.answer_lines.specs.Judging.{judged_field}
use Rattle.answer_lines.specs.Lines.{words_left}
use Rattle.answer_lines.proofs.Clamping.{clamped, fraction_at}
use Rattle.answer_lines.proofs.fields.fraction.Goals as goal

pub returns : goal.returns
returns c =
    let fits_n : FitsSigned w128 c.in_ok-n.n = search rules in
    let fits_d : FitsSigned w128 c.in_ok-d.d = search rules in
    let judged : c.judged_fraction.result ≡ judged_field fraction (record { n = c.in_ok-n.n; d = c.in_ok-d.d }) = simp to_z-of_z at c.judged_fraction.ensures in
    fraction_at c.in_ok-word.word.now (words_left c.args.words) (words_left c.in_ok-word.others) c.in_ok-n.n c.in_ok-d.d c.in_ok-word.ensures
    (c.in_ok-n.ensures ∙ ap (λ w. option_map clamped (whole_number w)) c.cut.ensures.before) (c.in_ok-d.ensures ∙ ap (λ w. option_map clamped (whole_number w)) c.cut.ensures.after)
    ∙ sym (ap (λ j. Some (j, words_left c.in_ok-word.others)) judged)
