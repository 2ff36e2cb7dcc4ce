-- A text without a line feed is refused at its first line, however long it is.
use Rattle.std.proofs.Common.{◌≡◌, ℕ, true, not, cond, List, [], ◌∷◌, refl, ap, ◌∙◌, Ok, Err}
use Rattle.std.specs.Prelude.{Option, Some, None, Result, is_ok, ◌==◌}
use Rattle.std.specs.List.{list_all}
use Rattle.bounds_model.specs.AnswerText.Numerals as steps
use Rattle.bounds_model.specs.AnswerText.LineFormats.{LineFormat, Values, after_words, values_of, form_of}
use Rattle.bounds_model.specs.AnswerText.Formats.{Refusal, bad_answer, ◌>>=◌, Unread, judged, line_at}
use Rattle.bounds_model.specs.AnswerText.Kinds.{Kind}
use Rattle.bounds_model.specs.AnswerText.Heads.{Format, first_format, Named, kind_of, named_or, named_by, head_of}
use Rattle.bounds_model.specs.AnswerText.Reading.{report_behind, report_at, report_of}
use Rattle.text_laws.proofs.AnswerTexts.LineLaws.{lines_without_feed, words_without_feed}

-- a single line without a line feed is refused under every format
line_refused : (format : LineFormat) (line : List ℕ) → list_all (λ b. not (b == 10)) line ≡ true → line_at format (record { number = 1; lines = line ∷ [] }) ≡ Err (bad_answer 1)
line_refused format line w =
    let none : form_of format line ≡ None = ap (λ (words : Option (List (List ℕ))). steps.◌>>=◌ words (λ found. steps.◌>>=◌ (after_words format.words found) (values_of format.fields))) (words_without_feed line w) in
    ap (λ (found : Option (Values format.fields)). next_after format (judged format.fields 1 found)) none
  where
    next_after : (f : LineFormat) → Result (Values f.fields) Refusal → Result (Values f.fields × Unread) Refusal
    next_after f r = r >>= λ values. Ok (values, record { number = 2; lines = [] })

-- so it names no kind
none_found : (format : Format) (known : List Kind) (line : List ℕ) → list_all (λ b. not (b == 10)) line ≡ true → kind_of format known (record { number = 1; lines = line ∷ [] }) ≡ None
none_found format [] line w = refl
none_found format (kind ∷ known) line w =
    ap (λ (r : Result (Unit {0} × Unread) Refusal). cond (is_ok r) (Some kind) (kind_of format known (record { number = 1; lines = line ∷ [] }))) (line_refused (first_format format kind.name) line w) ∙ none_found format known line w

-- in no format
none_named : (formats : List Format) (known : List Kind) (line : List ℕ) → list_all (λ b. not (b == 10)) line ≡ true → named_by formats known (record { number = 1; lines = line ∷ [] }) ≡ None
none_named [] known line w = refl
none_named (format ∷ formats) known line w =
    ap (λ (found : Option Kind). named_or format found (named_by formats known (record { number = 1; lines = line ∷ [] }))) (none_found format known line w) ∙ none_named formats known line w

-- whatever formats and kinds are known, such a text is refused at its first line
pub unended_refused : (formats : List Format) (known : List Kind) (b : ℕ) (bytes : List ℕ) → list_all (λ c. not (c == 10)) (b ∷ bytes) ≡ true → report_of formats known (b ∷ bytes) ≡ Err (bad_answer 1)
unended_refused formats known b bytes w =
    let one = lines_without_feed b bytes w in
    ap (λ (lines : List (List ℕ)). report_at formats known (record { number = 1; lines = lines })) one
    ∙ ap (λ (named : Option Named). head_of named (record { number = 1; lines = (b ∷ bytes) ∷ [] }) >>= λ head. report_behind head.0 head.1) (none_named formats known (b ∷ bytes) w)
