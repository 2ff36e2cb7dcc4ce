use Rattle.std.proofs.Common.{◌≡◌, ◌∙◌, ◌++◌, ◌∷◌, [], codes, map, refl, ap, false, length-append, arith}
use Rattle.std.proofs.lemmas.Grind.{common_steps}
use Rattle.std.specs.List.{slice_split}
use Rattle.std.proofs.lemmas.List.{map-append}
use Rattle.bounds_model.specs.PointText.{is_line_feed}
use Rattle.point_text.specs.Reading.{line_fields}
use Rattle.point_text.proofs.Splits.{split_joined_all, split_parted}
use Rattle.point_text.proofs.reader.Reader.end_line.Goals as goal

pub returns-then-not-self-clause-stands : goal.returns-then-not-self-clause-stands
returns-then-not-self-clause-stands c shape bytes is =
    let part = c.args.part.now in
    let none : c.args.self.now.begun ≡ false = grind (arith, common_steps) in
    let empty = is.begun none in
    let size = length-append bytes part in
    let more = length-append (bytes ++ part) (codes "\n") in
    let start : slice_split is_line_feed bytes ≡ is.whole ++ [] ∷ [] = is.lines ∙ ap (λ last. is.whole ++ last ∷ []) empty in
    let joined = split_joined_all is_line_feed part bytes is.whole [] start c.requires.within in
    record {
      taken = omega (arith, is.taken, size, more);
      whole = is.whole ++ part ∷ [];
      last = [];
      lines = split_parted is_line_feed (bytes ++ part) 10 is.whole part joined refl;
      judged = rw (map-append line_fields is.whole (part ∷ [])) (c.take_line.ensures.judged shape (map line_fields is.whole) is.judged);
      in_hand = rw empty at is.in_hand;
      begun = λ same. refl;
    }

pub returns-clause-stands : goal.returns-clause-stands
returns-clause-stands c shape bytes is =
    let part = c.args.part.now in
    let line = is.last ++ part in
    let size = length-append bytes part in
    let more = length-append (bytes ++ part) (codes "\n") in
    let joined = split_joined_all is_line_feed part bytes is.whole is.last is.lines c.requires.within in
    let fields = c.end.ensures line (c.with.ensures is.last is.in_hand) in
    record {
      taken = omega (arith, is.taken, size, more);
      whole = is.whole ++ line ∷ [];
      last = [];
      lines = split_parted is_line_feed (bytes ++ part) 10 is.whole line joined refl;
      judged = rw (map-append line_fields is.whole (line ∷ [])) (c.take.ensures.judged shape (map line_fields is.whole) (line_fields line) is.judged fields);
      in_hand = c.new-self.ensures;
      begun = λ none. refl;
    }
