use Rattle.std.proofs.Common.{append_assoc, rules}
use Rattle.bounds_model.specs.AnswerText.Written.{field_words, values_words}
use Rattle.answer_lines.proofs.PrintedWords.{joined_more}
use Rattle.answer_lines.proofs.field_list.Tuple2FieldList.print.Goals as goal

pub returns : goal.returns
returns g c =
    let first = field_words g.A.FieldValue.field (g.A.FieldValue.value c.args.self.now.0) in
    let others = values_words g.B.FieldList.fields (g.B.FieldList.values c.args.self.now.1) in
    rw (joined_more first others (g.met.A.FieldValue.written c.args.self.now.0)) (search (rules, append_assoc))
