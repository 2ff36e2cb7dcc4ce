use Rattle.std.proofs.Common.{◌++◌, refl, length-append, arith}
use Rattle.bounds_model.specs.PointText.{is_line_feed}
use Rattle.point_text.proofs.Splits.{split_joined_all}
use Rattle.point_text.proofs.reader.Reader.go_on.Goals as goal

pub returns-clause-stands : goal.returns-clause-stands
returns-clause-stands c shape bytes is =
    let part = c.args.part.now in
    let more = length-append bytes part in
    record {
      taken = omega (arith, is.taken, more);
      whole = is.whole;
      last = is.last ++ part;
      lines = split_joined_all is_line_feed part bytes is.whole is.last is.lines c.requires.within;
      judged = is.judged;
      in_hand = c.with-self.ensures is.last is.in_hand;
      begun = λ none. let empty = c.has_byte-self.ensures none in rw (is.begun empty.0, empty.1) refl;
    }
