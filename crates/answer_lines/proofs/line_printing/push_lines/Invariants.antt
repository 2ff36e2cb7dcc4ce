use Rattle.std.proofs.Common.{◌≡◌, ◌++◌, take}
use Rattle.std.specs.List.{flat_map}
use Rattle.bounds_model.specs.AnswerText.LineFormats.{untitled}
use Rattle.bounds_model.specs.AnswerText.Written.{format_line}
use Rattle.answer_lines.proofs.line_printing.push_lines.Given as goal

abbrev pub invariant-loop-line : goal.invariant-loop-line
invariant-loop-line g l = l.text.items ≡ l.fn.text.items ++ flat_map (λ v. format_line (untitled g.T.Fields.FieldList.fields) (g.T.Fields.FieldList.values (g.T.Line.parts v))) (take l.line-index l.lines)
