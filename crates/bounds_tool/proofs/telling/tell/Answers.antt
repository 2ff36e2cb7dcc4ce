use Rattle.std.proofs.Common.{◌∙◌, subst}
use Rattle.bounds_tool.specs.Telling.{Told}
use Rattle.bounds_tool.proofs.Outcomes.{Told-outcome}
use Rattle.bounds_tool.proofs.telling.tell.Goals as goal

pub returns : goal.returns
returns g c =
    let before = g.E.Sink.state c.args.err.now in
    let now = g.E.Sink.state c.write_all.new.out in
    let told = c.write_all.ensures in
    subst (λ line. Told g.E.Sink.last_count line before now) (c.as_bytes.ensures.value ∙ c.as_str.ensures.value ∙ c.line_of-line.ensures)
    (Told-outcome g.E.Sink.last_count _ before now c.write_all.result told.written told.prefix told.cause told.refused)
