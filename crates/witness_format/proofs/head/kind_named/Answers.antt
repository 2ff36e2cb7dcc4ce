use Rattle.std.proofs.Common.{◌≡◌, ◌∙◌, refl, sym, ap, subst, ℕ, List, [], ◌∷◌, codes, Some, None}
use Rattle.bounds_model.specs.AnswerText.Heads.{format_word}
use Rattle.bounds_model.specs.AnswerText.Kinds.{kinds}
use Rattle.bounds_model.specs.AnswerText.LineFormats.{after_words}
use Rattle.witness_format.specs.Heads.{text_format}
use Rattle.witness_format.specs.Kinds.{format_of}
use Rattle.answer_lines.specs.Lines.{words_left}
use Rattle.answer_lines.specs.Outcomes.{Finds}
use Rattle.witness_format.proofs.FirstLines.{other_first, other_second, other_third, behind_name, by_name}
use Rattle.witness_format.proofs.head.kind_named.Goals as goal

pub returns-in_err-words : goal.returns-in_err-words
returns-in_err-words c =
    let format = text_format c.args.format in
    rw c.from_residual.ensures (other_first format (codes "answer") (format_word format) kinds (words_left c.args.words) (λ name. refl) c.in_err-words.ensures)

pub returns-in_err-words-2 : goal.returns-in_err-words-2
returns-in_err-words-2 c =
    let format = text_format c.args.format in
    let second : after_words (format_word format ∷ []) (words_left c.in_ok-words.words) ≡ None = ap (λ w. after_words (w ∷ []) (words_left c.in_ok-words.words)) (sym c.format_word.ensures) ∙ c.in_err-words-2.ensures in
    rw c.from_residual-in_err-words-2.ensures (other_second format (codes "answer") (format_word format) kinds (words_left c.args.words) (words_left c.in_ok-words.words) (λ name. refl) c.in_ok-words.ensures second)

pub returns-in_err-end : goal.returns-in_err-end
returns-in_err-end c =
    let format = text_format c.args.format in
    let second : after_words (format_word format ∷ []) (words_left c.in_ok-words.words) ≡ Some (words_left c.in_ok-words-2.words) = ap (λ w. after_words (w ∷ []) (words_left c.in_ok-words.words)) (sym c.format_word.ensures) ∙ c.in_ok-words-2.ensures in
    rw c.from_residual-in_err-end.ensures
    (other_third format (codes "answer") (format_word format) kinds (words_left c.args.words) (words_left c.in_ok-words.words) (words_left c.in_ok-words-2.words) (λ name. refl) c.in_ok-words.ensures second
    (λ word alone. c.in_err-end.ensures (behind_name c.in_ok-name.name.now word (words_left c.in_ok-name.words) (sym c.in_ok-name.ensures ∙ alone))))

pub returns : goal.returns
returns c =
    let format = text_format c.args.format in
    let second : after_words (format_word format ∷ []) (words_left c.in_ok-words.words) ≡ Some (words_left c.in_ok-words-2.words) = ap (λ w. after_words (w ∷ []) (words_left c.in_ok-words.words)) (sym c.format_word.ensures) ∙ c.in_ok-words-2.ensures in
    let alone = c.in_ok-name.ensures ∙ ap (λ (ws : List (List ℕ)). c.in_ok-name.name.now ∷ ws) c.in_ok-end.ensures in
    subst (Finds format_of c.kind_of.result)
    (sym (by_name format (codes "answer") (format_word format) kinds (words_left c.args.words) (words_left c.in_ok-words.words) (words_left c.in_ok-words-2.words) c.in_ok-name.name.now (λ name. refl) c.in_ok-words.ensures second alone)) c.kind_of.ensures
