use Rattle.std.proofs.Common.{length}
use Rattle.point_text.specs.Reading.{Reads}
use Rattle.point_text.proofs.reader.Reader.feed.Given as goal

abbrev pub invariant-lines : goal.invariant-lines
invariant-lines l = Reads l.fn.self l.self l.piece l.rest

abbrev pub decreases-lines : goal.decreases-lines
decreases-lines l = length l.rest
