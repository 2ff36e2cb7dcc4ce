use Rattle.std.proofs.Common.{◌≡◌, ◌-◌, ◌∷◌, ◌++◌, ◌∙◌, ap, sym, get_or, take, drop, append_assoc, length, length-drop, arith}
use Rattle.std.proofs.Math.Seq.{drop-cons}
use Rattle.std.proofs.lemmas.List.{take_all}
use Rattle.point_text.proofs.Linewise.{comment_more}
use Rattle.point_text.proofs.Runs.{adds_more}
use Rattle.point_text.proofs.line_in_hand.LineInHand.with.Goals as goal

pub returns-in-Commented : goal.returns-in-Commented
returns-in-Commented c bytes is =
    let so_far = c.bytes.invariant in
    let rest = c.bytes.rest.now in
    let whole = append_assoc bytes so_far.added rest ∙ ap (λ ys. bytes ++ ys) (sym so_far.text_is) in
    let more = comment_more c.in-Commented.content (bytes ++ so_far.added) rest (rw c.in-Commented.is at (so_far.stands bytes is)) in
    rw whole at more

pub bytes-preserved : goal.bytes-preserved
bytes-preserved c =
    let rest = c.bytes.rest.now in
    let some = c.in-len1-up.len_at_least in
    let behind : take (length rest - 1) (drop 1 rest) ≡ drop 1 rest = take_all (length rest - 1) (drop 1 rest) (let size = length-drop 1 rest in omega (arith, size)) in
    let is : rest ≡ get_or rest 0 0 ∷ drop 1 rest = drop-cons rest 0 0 (omega (arith, some)) in
    adds_more c.args.self c.bytes.line c.with_byte.result c.with_digits.result.0 c.args.part.now rest (take (length rest - 1) (drop 1 rest)) c.with_digits.result.1.now (get_or rest 0 0) c.bytes.invariant
    (is ∙ ap (λ ys. get_or rest 0 0 ∷ ys) (sym behind)) c.with_byte.ensures c.with_digits.ensures
