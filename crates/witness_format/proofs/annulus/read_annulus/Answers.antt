use Rattle.std.proofs.Common.{refl, [], ◌∷◌, codes}
use Rattle.bounds_model.specs.AnswerText.Fields.{plane_ratio, fraction}
use Rattle.bounds_model.specs.AnswerText.LineFormats.{titled}
use Rattle.bounds_model.specs.AnswerText.Formats.{line}
use Rattle.bounds_model.specs.AnswerText.Kinds.{annulus_kind, pairs}
use Rattle.answer_lines.specs.Lines.{lines_left}
use Rattle.witness_format.proofs.KindTexts.{part_read, body_read}
use Rattle.witness_format.proofs.SaidAnswers.{annulus_is}
use Rattle.witness_format.proofs.annulus.read_annulus.Goals as goal

pub returns : goal.returns
returns c =
    let center-part = line (titled (codes "center") (plane_ratio ∷ [])) in
    let inner-part = line (titled (codes "inner") (fraction ∷ [])) in
    let outer-part = line (titled (codes "outer") (fraction ∷ [])) in
    let pairs-part = pairs 3 in
    let one = lines_left c.args.text.now in
    let two = lines_left c.read_titled.new.text in
    let three = lines_left c.read_titled-2.new.text in
    let four = lines_left c.read_titled-3.new.text in
    let five = lines_left c.read_counted.new.text in
    body_read annulus_kind c.args.size one _ five _
    (part_read center-part (inner-part ∷ outer-part ∷ pairs-part ∷ []) [] one ((c.in_ok-center.center, tt)) two _ five c.in_ok-center.ensures
    (part_read inner-part (outer-part ∷ pairs-part ∷ []) [] two ((c.in_ok-inner.inner, tt)) three _ five c.in_ok-inner.ensures
    (part_read outer-part (pairs-part ∷ []) [] three ((c.in_ok-outer.outer, tt)) four _ five c.in_ok-outer.ensures
    (part_read pairs-part [] [] four _ five tt five c.in_ok-pairs.ensures refl))))
    (annulus_is (record { size = c.args.size; center = c.in_ok-center.center; inner = c.in_ok-inner.inner; outer = c.in_ok-outer.outer; pairs = c.in_ok-pairs.pairs }))
