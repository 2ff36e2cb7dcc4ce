use Rattle.std.proofs.Common.{◌≡◌, ◌∙◌, sym, ap, ◌+◌, ◌-◌, ◌<◌, length, length-drop, take, drop, Ok, arith}
use Rattle.std.specs.List.{slice_split, position_or_len}
use Rattle.std.proofs.lemmas.List.{take_all}
use Rattle.bounds_model.specs.AnswerText.Lines.{lines_of}
use Rattle.byte_tools.proofs.FirstIndices.{index_found, index_missing}
use Rattle.answer_lines.proofs.LineCuts.{is_feed, is_blank, next_words-cut, next_words-refused}
use Rattle.answer_lines.proofs.lines.Unread.next_line.Goals as goal

pub returns-in-Some : goal.returns-in-Some
returns-in-Some c =
    let bytes = c.args.self.now.bytes.now in
    let index = c.in-Some.index in
    let found : index ≡ position_or_len is_feed bytes = index_found is_feed bytes index c.in-Some.ensures.index in
    let before : position_or_len is_feed bytes < length bytes = omega (arith, found, c.in-Some.ensures.within) in
    let behind : take (length bytes - (index + 1)) (drop (index + 1) bytes) ≡ drop (index + 1) bytes = take_all (length bytes - (index + 1)) (drop (index + 1) bytes) (omega (arith, length-drop (index + 1) bytes)) in
    next_words-cut c.args.self.now.number bytes before
    ∙ (ap (λ n. Ok (slice_split is_blank (take n bytes), record { number = c.args.self.now.number + 1; lines = lines_of (drop (n + 1) bytes) })) (sym found)
    ∙ (λ i. Ok (sym c.new.ensures i, record { number = c.args.self.now.number + 1; lines = lines_of (sym behind i) })))

pub returns-in-None : goal.returns-in-None
returns-in-None c =
    let bytes = c.args.self.now.bytes.now in
    next_words-refused c.args.self.now.number bytes (index_missing is_feed bytes c.in-None.ensures.index)
