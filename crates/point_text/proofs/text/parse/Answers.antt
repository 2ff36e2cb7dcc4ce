use Rattle.bounds_model.specs.Asks.{HasShape, shape_of}
use Rattle.bounded_coords.specs.Asked.{asked}
use Rattle.point_text.specs.declared.text.Form.TheVariants.{Text, Csv}
use Rattle.point_text.specs.Files.{file_of_bytes}
use Rattle.point_text.proofs.ShapedSets.{answer_gives, file_of_bytes-shaped}
use Rattle.point_text.proofs.text.parse.Goals as goal

pub returns-in-Text-clause-suits : goal.returns-in-Text-clause-suits
returns-in-Text-clause-suits c =
    let shape = shape_of (asked c.args.ask.now) in
    answer_gives (HasShape shape) c.read_text.result (file_of_bytes Text shape c.args.bytes.now) c.read_text.ensures.sets (file_of_bytes-shaped Text shape c.args.bytes.now)

pub returns-in-Csv-clause-suits : goal.returns-in-Csv-clause-suits
returns-in-Csv-clause-suits c =
    let shape = shape_of (asked c.args.ask.now) in
    answer_gives (HasShape shape) c.read_records.result (file_of_bytes Csv shape c.args.bytes.now) c.read_records.ensures (file_of_bytes-shaped Csv shape c.args.bytes.now)
