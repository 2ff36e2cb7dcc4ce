use Rattle.std.proofs.Common.{[], append-nil}
use Rattle.bounds_model.specs.Asks.{shape_of}
use Rattle.bounded_coords.specs.Asked.{asked}
use Rattle.point_text.proofs.text.read_text.Goals as goal

pub returns-in-Err-clause-memory : goal.returns-in-Err-clause-memory
returns-in-Err-clause-memory c wants =
    let bytes = c.args.bytes.now in
    let keeps = c.in-Err.ensures.memory (shape_of (asked c.args.ask.now)) [] [] c.new-reader.ensures.stands in
    rw (append-nil bytes) at keeps

pub returns-in-Ok-clause-memory : goal.returns-in-Ok-clause-memory
returns-in-Ok-clause-memory c wants = c.finish.ensures.memory wants (shape_of (asked c.args.ask.now)) c.args.bytes.now (c.in-Ok.ensures.stands (shape_of (asked c.args.ask.now)) [] c.new-reader.ensures.stands)
