use Rattle.std.proofs.Common.{◌∙◌, sym, ap, subst}
use Rattle.std.proofs.lemmas.Result.{err_from_is_err_and}
use Rattle.bounds_model.specs.AnswerText.Formats.{◌>>=◌}
use Rattle.bounds_model.specs.AnswerText.Heads.{named_by, sizes_at, head_at}
use Rattle.bounds_model.specs.AnswerText.Kinds.{kinds}
use Rattle.answer_lines.specs.Lines.{lines_left}
use Rattle.answer_lines.specs.Outcomes.{Reads}
use Rattle.witness_format.specs.Heads.{known_formats, head_of, first_at}
use Rattle.witness_format.proofs.FirstLines.{head_by_first}
use Rattle.answer_lines.proofs.LineReadings.{refuses_too}
use Rattle.witness_format.proofs.head.read_head.Goals as goal

pub returns-in_err-named-clause-head : goal.returns-in_err-named-clause-head
returns-in_err-named-clause-head c =
    let formats = known_formats c.args.formats in
    let from = lines_left c.args.text.now in
    let refused = refuses_too c.in_err-named.field-0.0 (first_at formats kinds from) (head_at formats kinds from)
    (λ refusal e. sym (head_by_first (named_by formats kinds from) from) ∙ ap (λ r. r >>= λ n. sizes_at n.0.format n.0.kind n.1) e) c.in_err-named.ensures in
    let exit = err_from_is_err_and c.from_residual.result c.from_residual.ensures.1 in
    rw (exit.1, exit.2) refused

pub returns-clause-head : goal.returns-clause-head
returns-clause-head c =
    let formats = known_formats c.args.formats in
    let from = lines_left c.args.text.now in
    let steps = sym (head_by_first (named_by formats kinds from) from) ∙ ap (λ r. r >>= λ n. sizes_at n.0.format n.0.kind n.1) c.in_ok-named.ensures in
    subst (λ r. Reads (λ head. (head_of head, lines_left c.read_sizes.new.text)) c.read_sizes.result r) (sym steps) c.read_sizes.ensures.head
