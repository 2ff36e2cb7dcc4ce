use Rattle.std.proofs.Common.{◌≡◌, ◌∙◌, sym, ap, List, ℕ, ◌∷◌, take, drop, ◌+◌, ◌-◌, ◌<◌, length, length-drop, Bool, arith}
use Rattle.std.specs.Prelude.{◌==◌}
use Rattle.std.specs.List.{slice_split, position_or_len}
use Rattle.std.proofs.lemmas.List.{take_all}
use Rattle.std.proofs.lemmas.List.Splits.{slice_split_first, slice_split_none}
use Rattle.std.proofs.lemmas.List.Sums.{fails_before_first}
use Rattle.answer_lines.specs.Lines.{words_in, words_left}
use Rattle.byte_tools.proofs.FirstIndices.{index_found, index_missing}
use Rattle.answer_lines.proofs.words.Words.next.Goals as goal

abbrev is_blank : ℕ → Bool
is_blank b = b == 32

pub returns-in-Some : goal.returns-in-Some
returns-in-Some c =
    let text = c.in_ok-text.text.now in
    let index = c.in-Some.index in
    let found : index ≡ position_or_len is_blank text = index_found is_blank text index c.in-Some.ensures.index in
    let before : position_or_len is_blank text < length text = omega (arith, found, c.in-Some.ensures.within) in
    let behind : take (length text - (index + 1)) (drop (index + 1) text) ≡ drop (index + 1) text = take_all (length text - (index + 1)) (drop (index + 1) text) (omega (arith, length-drop (index + 1) text)) in
    let others : words_left c.new.result ≡ slice_split is_blank (drop (index + 1) text) = c.new.ensures ∙ ap (slice_split is_blank) behind in
    ap words_in c.in_ok-text.was ∙ (slice_split_first is_blank text 0 before ∙ (ap (λ n. take n text ∷ slice_split is_blank (drop (n + 1) text)) (sym found) ∙ ap (λ (ws : List (List ℕ)). take index text ∷ ws) (sym others)))

pub returns-in-None : goal.returns-in-None
returns-in-None c =
    let text = c.in_ok-text.text.now in
    let missing : position_or_len is_blank text ≡ length text = index_missing is_blank text c.in-None.ensures.index in
    ap words_in c.in_ok-text.was ∙ slice_split_none is_blank text (λ k d lt. fails_before_first is_blank text k d (omega arith))
