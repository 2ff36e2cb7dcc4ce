-- One line: what was written is read again, and what was read was written so.
use Rattle.std.proofs.Common.{◌≡◌, ℕ, zero, suc, ◌+◌, ◌<◌, Bool, true, false, not, ◌&&◌, cond, List, [], ◌∷◌, ◌++◌, length, refl, sym, ap, subst, ◌∙◌, arith, Ok, Err}
use Rattle.std.specs.Prelude.{Option, Some, None, Result, nat_lt, ◌==◌}
use Rattle.std.specs.List.{concat}
use Rattle.std.specs.Str.{bytes_eq}
use Rattle.std.proofs.lemmas.List.Folds.{list_all-append}
use Rattle.std.proofs.lemmas.Slice.Eq.{bytes_eq-Decides}
use Rattle.std.proofs.lemmas.Bool.{eqb-true}
use Rattle.bounds_model.specs.AnswerText.Numerals as steps
use Rattle.bounds_model.specs.AnswerText.Lines.{lines_of, words_of}
use Rattle.bounds_model.specs.AnswerText.Fields.{Field, number, natural, naturals, bounded, fraction, plane_ratio, space_ratio, blocker, Value, is_in_range}
use Rattle.bounds_model.specs.AnswerText.LineFormats.{LineFormat, Values, after_words, values_of, form_of, are_small, are_in_range}
use Rattle.bounds_model.specs.AnswerText.Formats.{Refusal, bad_answer, big_number, ◌>>=◌, judged, Unread, next_line, line_at}
use Rattle.bounds_model.specs.AnswerText.Written.{field_words, values_words, line_bytes, line_words, format_line}
use Rattle.text_laws.proofs.AnswerTexts.NumberLaws.{bind_some, some_is, step_again, both_true, is_word}
use Rattle.text_laws.proofs.AnswerTexts.LineLaws.{are_words, lines_again, words_again, words_back}
use Rattle.text_laws.proofs.AnswerTexts.ValueLaws.{Fits, first_fits, values_are_words, values_again, values_back}

-- ---- tools

-- two steps that read something
pub then_again : {A B : Type 0} (r : Result A Refusal) (x : A) (f : A → Result B Refusal) (y : Result B Refusal) → r ≡ Ok x → f x ≡ y → (r >>= f) ≡ y
then_again r x f y e g = ap (λ (q : Result _ Refusal). q >>= f) e ∙ g

-- the steps of a reading that was not refused
pub bind_ok : {A B : Type 0} (r : Result A Refusal) (f : A → Result B Refusal) (y : B) → (r >>= f) ≡ Ok y → (x : A) × (r ≡ Ok x) × (f x ≡ Ok y)
bind_ok (Ok x) f y e = (x, refl, e)
bind_ok (Err refusal) f y e = absurd cc

-- what was not refused
abbrev read : {A : Type 0} → A → Result A Refusal
read x = Ok x

-- two readings that were not refused
pub read_is : {A : Type 0} (x y : A) → read x ≡ read y → x ≡ y
read_is x y e = cc

-- ---- the words that a line begins with

-- the words of a format are found again
after_words_again : (words rest : List (List ℕ)) → after_words words (words ++ rest) ≡ Some rest
after_words_again [] rest = refl
after_words_again (word ∷ words) rest =
    ap (λ (t : Bool). cond t (after_words words (words ++ rest)) None) ((bytes_eq-Decides word word).1 refl) ∙ after_words_again words rest

-- one word of a format, and the others
after_words_cases : (t : Bool) (expected word : List ℕ) (words others rest : List (List ℕ)) → bytes_eq expected word ≡ t → (after_words others words ≡ Some rest → words ≡ others ++ rest)
    → cond t (after_words others words) None ≡ Some rest → word ∷ words ≡ (expected ∷ others) ++ rest
after_words_cases true expected word words others rest test back e =
    ap (λ (w : List ℕ). w ∷ words) (sym ((bytes_eq-Decides expected word).0 test)) ∙ ap (λ (ws : List (List ℕ)). expected ∷ ws) (back e)
after_words_cases false expected word words others rest test back e = absurd cc

-- what stands behind the words of a format
after_words_back : (expected words rest : List (List ℕ)) → after_words expected words ≡ Some rest → words ≡ expected ++ rest
after_words_back [] words rest e = some_is words rest e
after_words_back (word ∷ expected) [] rest e = absurd cc
after_words_back (first ∷ expected) (word ∷ words) rest e =
    after_words_cases (bytes_eq first word) first word words expected rest refl (λ f. after_words_back expected words rest f) e

-- ---- the form of a line

-- a field takes a word at least
abbrev takes_word : Field → Bool
takes_word (naturals count) = nat_lt 0 count
takes_word field = true

-- there is a word
abbrev has_word : List (List ℕ) → List Field → Bool
has_word [] [] = false
has_word [] (field ∷ fields) = takes_word field
has_word (word ∷ words) fields = true

-- a format of lines that have a word, and whose own words are words
abbrev pub is_format : LineFormat → Bool
is_format format = are_words format.words && has_word format.words format.fields

-- a field has a word
field_has_word : (field : Field) (v : Value field) (rest : List (List ℕ)) → takes_word field ≡ true → is_in_range field v ≡ true → 0 < length (field_words field v ++ rest)
field_has_word number v rest takes range = omega arith
field_has_word natural v rest takes range = omega arith
field_has_word (naturals zero) v rest takes range = absurd cc
field_has_word (naturals (suc count)) [] rest takes range =
    let none : 0 ≡ suc count = eqb-true 0 (suc count) (both_true (0 == suc count) true range).0 in
    absurd (omega arith)
field_has_word (naturals (suc count)) (z ∷ zs) rest takes range = omega arith
field_has_word (bounded low high) v rest takes range = omega arith
field_has_word fraction v rest takes range = omega arith
field_has_word plane_ratio v rest takes range = omega arith
field_has_word space_ratio v rest takes range = omega arith
field_has_word blocker v rest takes range = omega arith

-- a line has a word
line_has_word : (words : List (List ℕ)) (fields : List Field) (values : Values fields) → has_word words fields ≡ true → Fits fields values → 0 < length (words ++ values_words fields values)
line_has_word [] [] values has fits = absurd cc
line_has_word [] (field ∷ fields) values has fits = field_has_word field values.0 (values_words fields values.1) has (first_fits field fields values fits).1
line_has_word (word ∷ words) fields values has fits = omega arith

-- a line is made of words
line_are_words : (format : LineFormat) (values : Values format.fields) → is_format format ≡ true → Fits format.fields values → are_words (line_words format values) ≡ true
line_are_words format values sound fits =
    list_all-append is_word format.words (values_words format.fields values)
    ∙ ap (λ (t : Bool). t && are_words (values_words format.fields values)) (both_true (are_words format.words) (has_word format.words format.fields) sound).0
    ∙ values_are_words format.fields values fits

-- the fields of a line that has words
words_again_some : (words : List (List ℕ)) → 0 < length words → are_words words ≡ true → words_of (line_bytes words) ≡ Some words
words_again_some [] some e = absurd (omega arith)
words_again_some (word ∷ words) some e = words_again word words e

-- the first line of a text, where it has words
lines_again_some : (words : List (List ℕ)) (rest : List ℕ) → 0 < length words → are_words words ≡ true → lines_of (line_bytes words ++ rest) ≡ line_bytes words ∷ lines_of rest
lines_again_some [] rest some e = absurd (omega arith)
lines_again_some (word ∷ words) rest some e = lines_again word words rest e

-- a line that was written has its form
form_again : (format : LineFormat) (values : Values format.fields) → is_format format ≡ true → Fits format.fields values → form_of format (format_line format values) ≡ Some values
form_again format values sound fits =
    let some = line_has_word format.words format.fields values (both_true (are_words format.words) (has_word format.words format.fields) sound).1 fits in
    step_again (words_of (format_line format values)) (line_words format values) _ _ (words_again_some (line_words format values) some (line_are_words format values sound fits))
    (step_again (after_words format.words (line_words format values)) (values_words format.fields values) _ _ (after_words_again format.words (values_words format.fields values)) (values_again format.fields values fits))

-- a line of this form was written so
form_back : (format : LineFormat) (line : List ℕ) (values : Values format.fields) → form_of format line ≡ Some values → are_small format.fields values ≡ true → line ≡ format_line format values
form_back format line values e small =
    let r = bind_some (words_of line) (λ words. steps.◌>>=◌ (after_words format.words words) (values_of format.fields)) values e in
    let q = bind_some (after_words format.words r.0) (values_of format.fields) values r.2 in
    words_back line r.0 r.1 ∙ ap line_bytes (after_words_back format.words r.0 q.0 q.1 ∙ ap (λ (ws : List (List ℕ)). format.words ++ ws) (values_back format.fields q.0 values q.2 small))

-- ---- the judgement of a line

-- fields that fit are accepted
judged_again : (fields : List Field) (line : ℕ) (values : Values fields) → Fits fields values → judged fields line (Some values) ≡ Ok values
judged_again fields line values fits =
    ap (λ (t : Bool). choice t (choice_range (are_in_range fields values))) fits.small ∙ ap choice_range fits.range
  where
    choice_range : Bool → Result (Values fields) Refusal
    choice_range t = cond (not t) (Err (bad_answer line)) (Ok values)

    choice : Bool → Result (Values fields) Refusal → Result (Values fields) Refusal
    choice t other = cond (not t) (Err (big_number line)) other

-- what the tests of a line say
judged_cases : (small range : Bool) (fields : List Field) (line : ℕ) (found values : Values fields) → cond (not small) (Err (big_number line)) (cond (not range) (Err (bad_answer line)) (Ok found)) ≡ Ok values
    → (found ≡ values) × (small ≡ true) × (range ≡ true)
judged_cases true true fields line found values e = (read_is found values e, refl, refl)
judged_cases true false fields line found values e = absurd cc
judged_cases false range fields line found values e = absurd cc

-- fields that were accepted fit
judged_back : (fields : List Field) (line : ℕ) (found : Option (Values fields)) (values : Values fields) → judged fields line found ≡ Ok values → (found ≡ Some values) × Fits fields values
judged_back fields line None values e = absurd cc
judged_back fields line (Some found) values e =
    let r = judged_cases (are_small fields found) (are_in_range fields found) fields line found values e in
    (ap (λ (v : Values fields). Some v) r.0, subst (λ (v : Values fields). Fits fields v) r.0 (record { small = r.1; range = r.2 }))

-- ---- the next line

-- the lines of a text, from a number on
abbrev pub unread : ℕ → List ℕ → Unread
unread n bytes = record { number = n; lines = lines_of bytes }

-- a line that was written is the first line of a text
pub format_lines : (format : LineFormat) (values : Values format.fields) (rest : List ℕ) → is_format format ≡ true → Fits format.fields values
    → lines_of (format_line format values ++ rest) ≡ format_line format values ∷ lines_of rest
format_lines format values rest sound fits =
    let some = line_has_word format.words format.fields values (both_true (are_words format.words) (has_word format.words format.fields) sound).1 fits in
    lines_again_some (line_words format values) rest some (line_are_words format values sound fits)

-- what was written as a line is read from the front of a text
pub line_again : (format : LineFormat) (values : Values format.fields) (n : ℕ) (rest : List ℕ) → is_format format ≡ true → Fits format.fields values
    → line_at format (unread n (format_line format values ++ rest)) ≡ Ok (values, unread (n + 1) rest)
line_again format values n rest sound fits =
    ap (next_line format n) (format_lines format values rest sound fits)
    ∙ then_again (judged format.fields n (form_of format (format_line format values))) values _ _
    (ap (judged format.fields n) (form_again format values sound fits) ∙ judged_again format.fields n values fits) refl

-- a line that was read stands at the front of the text
pub line_back : (format : LineFormat) (from : Unread) (values : Values format.fields) (to : Unread) → line_at format from ≡ Ok (values, to)
    → (concat from.lines ≡ format_line format values ++ concat to.lines) × Fits format.fields values
line_back format from values to e = next_back from.number from.lines e
  where
    behind : ℕ → List (List ℕ) → Values format.fields → Result (Values format.fields × Unread) Refusal
    behind n lines v = Ok (v, record { number = n + 1; lines = lines })

    next_back : (n : ℕ) (lines : List (List ℕ)) → next_line format n lines ≡ Ok (values, to) → (concat lines ≡ format_line format values ++ concat to.lines) × Fits format.fields values
    next_back n [] f = absurd cc
    next_back n (line ∷ lines) f =
        let r = bind_ok (judged format.fields n (form_of format line)) (behind n lines) (values, to) f in
        let is : ◌≡◌ {A = Values format.fields × Unread} (r.0, record { number = n + 1; lines = lines }) (values, to) = read_is {A = Values format.fields × Unread} (r.0, record { number = n + 1; lines = lines }) (values, to) r.2 in
        let j = judged_back format.fields n (form_of format line) values (r.1 ∙ ap (λ (p : Values format.fields × Unread). Ok p.0) is) in
        let line-is : line ≡ format_line format values = form_back format line values j.0 j.1.small in
        let lines-is : lines ≡ to.lines = ap (λ (p : Values format.fields × Unread). p.1.lines) is in
        (ap (λ (l : List ℕ). l ++ concat lines) line-is ∙ ap (λ (ls : List (List ℕ)). format_line format values ++ concat ls) lines-is, j.1)
