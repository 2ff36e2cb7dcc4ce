use Rattle.std.proofs.Common.{append_assoc, rules}
use Rattle.bounds_model.specs.AnswerText.Written.{values_words}
use Rattle.answer_lines.proofs.PrintedWords.{untitled_line}
use Rattle.answer_lines.proofs.line_printing.push_line.Goals as goal

pub returns : goal.returns
returns g c = rw (untitled_line (values_words g.T.Fields.FieldList.fields (g.T.Fields.FieldList.values (g.T.Line.parts c.args.value.now)))) (search (rules, append_assoc))
