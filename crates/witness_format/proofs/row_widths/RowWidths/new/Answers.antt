use Rattle.std.proofs.Common.{◌∙◌, sym, ap}
use Rattle.bounds_model.specs.AnswerText.Kinds.{triangle}
use Rattle.witness_format.proofs.RowReadings.{no_layers, all_rows}
use Rattle.witness_format.proofs.row_widths.RowWidths.new.Goals as goal

pub returns-then-layers-eq0 : goal.returns-then-layers-eq0
returns-then-layers-eq0 c = sym (ap (triangle c.args.longest) c.if-layers-eq0.true ∙ no_layers c.args.longest)

pub returns : goal.returns
returns c = all_rows c.args.longest c.args.layers
