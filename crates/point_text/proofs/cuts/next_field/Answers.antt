use Rattle.std.proofs.Common.{arith, sym, ap, take, drop, ◌-◌, ◌<◌, ◌≡◌, ◌∙◌, length, length-drop, ◌∷◌}
use Rattle.std.proofs.lemmas.List.{take_all}
use Rattle.std.specs.List.{position_or_len, before_first, after_first}
use Rattle.bounds_model.specs.PointText.{is_blank, fields_of}
use Rattle.byte_tools.proofs.FirstIndices.{index_found, index_missing}
use Rattle.point_text.proofs.FieldCuts.{is_no_blank, fields_of-start, fields_of-none, fields_of-first, start_is_filled}
use Rattle.point_text.proofs.cuts.next_field.Goals as goal

pub returns-in_err-start : goal.returns-in_err-start
returns-in_err-start c = rw c.from_residual.ensures (fields_of-none c.args.text.now (index_missing is_no_blank c.args.text.now c.in_err-start.ensures.index))

pub returns : goal.returns
returns c =
    let start = c.in_ok-start.start in
    let text = c.args.text.now in
    let found : start ≡ position_or_len is_no_blank text = index_found is_no_blank text start c.in_ok-start.ensures.index in
    let filled : 0 < position_or_len is_blank (drop start text) = rw found (start_is_filled text (omega (arith, found, c.in_ok-start.ensures.within))) in
    let rest : take (length text - start) (drop start text) ≡ drop start text = take_all (length text - start) (drop start text) (omega (arith, length-drop start text)) in
    let before : c.parted.result.0.now ≡ before_first is_blank (drop start text) = c.parted.ensures.before is_blank c.field_end.ensures.index ∙ ap (before_first is_blank) rest in
    let after : c.parted.result.1.now ≡ after_first is_blank (drop start text) = c.parted.ensures.after is_blank c.field_end.ensures.index ∙ ap (after_first is_blank) rest in
    sym (fields_of-start text) ∙ (sym (ap (λ n. fields_of (drop n text)) found)
    ∙ (fields_of-first (drop start text) filled ∙ (ap (λ field. field ∷ fields_of (after_first is_blank (drop start text))) (sym before) ∙ ap (λ behind. c.parted.result.0.now ∷ fields_of behind) (sym after))))
