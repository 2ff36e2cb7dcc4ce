use Rattle.std.proofs.Common.{refl, rules, [], ◌∷◌, codes}
use Rattle.bounds_model.specs.AnswerText.Fields.{number, space_ratio}
use Rattle.bounds_model.specs.AnswerText.LineFormats.{titled}
use Rattle.bounds_model.specs.AnswerText.Formats.{line}
use Rattle.bounds_model.specs.AnswerText.Kinds.{shell_kind, pairs}
use Rattle.answer_lines.specs.Lines.{lines_left}
use Rattle.witness_format.specs.Bodies.{span_values}
use Rattle.witness_format.proofs.KindTexts.{part_read, body_read}
use Rattle.witness_format.proofs.SaidAnswers.{shell_is}
use Rattle.witness_format.proofs.shell.read_shell.Goals as goal

pub returns : goal.returns
returns c =
    let center-part = line (titled (codes "center") (space_ratio ∷ [])) in
    let levels-part = line (titled (codes "levels") (number ∷ number ∷ [])) in
    let pairs-part = pairs 4 in
    let levels = c.in_ok-levels.levels in
    let one = lines_left c.args.text.now in
    let two = lines_left c.read_titled.new.text in
    let three = lines_left c.read_titled-2.new.text in
    let four = lines_left c.read_counted.new.text in
    let read =
    body_read shell_kind c.args.size one _ four _
    (part_read center-part (levels-part ∷ pairs-part ∷ []) [] one ((c.in_ok-center.center, tt)) two _ four c.in_ok-center.ensures
    (part_read levels-part (pairs-part ∷ []) [] two (span_values levels) three _ four c.in_ok-levels.ensures
    (part_read pairs-part [] [] three _ four tt four c.in_ok-pairs.ensures refl)))
    (shell_is (record { size = c.args.size; center = c.in_ok-center.center; low = levels.lo; high = levels.hi; pairs = c.in_ok-pairs.pairs })) in
    search (rules, read)
