use Rattle.std.proofs.Common.{◌++◌, ◌∷◌, [], map}
use Rattle.bounds_model.specs.Asks.{HasShape}
use Rattle.bounds_model.specs.PointText.{file_of_text}
use Rattle.point_text.specs.Reading.{line_fields}
use Rattle.point_text.proofs.TextLines.{text_parts, text_keeps-last}
use Rattle.point_text.proofs.ShapedSets.{answer_gives, file_of_text-shaped, all_shaped}
use Rattle.point_text.proofs.reader.Reader.finish.Goals as goal

pub returns-clause-sets : goal.returns-clause-sets
returns-clause-sets c shape bytes is =
    let judged = c.take.ensures.judged shape (map line_fields is.whole) (line_fields is.last) is.judged (c.end.ensures is.last is.in_hand) in
    rw (text_parts shape bytes is.whole is.last is.lines) (c.end-2.ensures.sets shape (map line_fields is.whole ++ line_fields is.last ∷ []) judged)

pub returns-clause-suits : goal.returns-clause-suits
returns-clause-suits c =
    all_shaped c.args.self c.end-2.result (λ shape bytes is. answer_gives (HasShape shape) c.end-2.result (file_of_text shape bytes) (returns-clause-sets c shape bytes is) (file_of_text-shaped shape bytes))

pub returns-clause-memory : goal.returns-clause-memory
returns-clause-memory c wants shape bytes is =
    let judged = c.take.ensures.judged shape (map line_fields is.whole) (line_fields is.last) is.judged (c.end.ensures is.last is.in_hand) in
    text_keeps-last shape bytes is.whole is.last is.lines (c.end-2.ensures.memory wants shape (map line_fields is.whole ++ line_fields is.last ∷ []) judged)
