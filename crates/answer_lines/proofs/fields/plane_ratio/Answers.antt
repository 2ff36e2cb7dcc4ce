use Rattle.std.proofs.Common.{◌≡◌, ◌∙◌, sym, ap, ◌∷◌, Some, FitsSigned, rules}
use Rattle.std.specs.Int.{w128}
use Rattle.std.proofs.lemmas.Int.{to_z-of_z}
use Rattle.bounds_model.specs.AnswerText.Fields.{plane_ratio}
use Rattle.answer_lines.specs.Judging.{judged_field}
use Rattle.answer_lines.specs.Lines.{words_left}
use Rattle.answer_lines.proofs.Clamping.{plane_ratio_at}
use Rattle.answer_lines.proofs.fields.plane_ratio.Goals as goal

pub returns : goal.returns
returns c =
    let fits_x : FitsSigned w128 c.in_ok-x.x = search rules in
    let fits_y : FitsSigned w128 c.in_ok-y.y = search rules in
    let fits_w : FitsSigned w128 c.in_ok-w.w = search rules in
    let judged : c.judged_plane_ratio.result ≡ judged_field plane_ratio (record { x = c.in_ok-x.x; y = c.in_ok-y.y; w = c.in_ok-w.w }) = simp to_z-of_z at c.judged_plane_ratio.ensures in
    let words : words_left c.args.words ≡ c.in_ok-first.first.now ∷ c.in_ok-second.second.now ∷ c.in_ok-third.third.now ∷ words_left c.in_ok-third.words =
    c.in_ok-first.ensures ∙ ap (λ ws. c.in_ok-first.first.now ∷ ws) (c.in_ok-second.ensures ∙ ap (λ ws. c.in_ok-second.second.now ∷ ws) c.in_ok-third.ensures) in
    plane_ratio_at c.in_ok-first.first.now c.in_ok-second.second.now c.in_ok-third.third.now (words_left c.args.words) (words_left c.in_ok-third.words) c.in_ok-x.x c.in_ok-y.y c.in_ok-w.w words
    c.in_ok-x.ensures c.in_ok-y.ensures c.in_ok-w.ensures
    ∙ sym (ap (λ j. Some (j, words_left c.in_ok-third.words)) judged)
