-- The first word of a text, where it is a number of few digits.
use Rattle.std.proofs.Common.{◌≡◌, ◌∙◌, sym, ap, ℕ, ◌+◌, ◌<◌, ◌≤◌, pos, Bool, true, List, [], ◌∷◌, length, take, drop, get_or, Some, arith}
use Rattle.std.specs.Prelude.{◌==◌}
use Rattle.std.specs.Char.{is_ascii_digit}
use Rattle.std.specs.List.{list_all, slice_split, position_or_len}
use Rattle.std.specs.Str.Parse.{digits_value}
use Rattle.std.proofs.lemmas.Bool.{eq-eqb}
use Rattle.std.proofs.lemmas.List.{take_all}
use Rattle.std.proofs.lemmas.List.Sums.{position_or_len_is, fails_before_first}
use Rattle.std.proofs.lemmas.List.Splits.{slice_split_first, slice_split_none}
use Rattle.bounds_model.specs.AnswerText.Numerals.{◌>>=◌}
use Rattle.bounds_model.specs.AnswerText.Fields.{natural, value_of}
use Rattle.byte_tools.proofs.NumeralLaws.{number_of_digits, digits_no_blank}

abbrev pub is_blank : ℕ → Bool
is_blank b = b == 32

-- ---- the first word is cut behind its digits

-- where a blank stands behind digits, it is the first one
first_blank : (text : List ℕ) (count : ℕ) → count ≤ length text → list_all is_ascii_digit (take count text) ≡ true → (count < length text → get_or text count 0 ≡ 32) → position_or_len is_blank text ≡ count
first_blank text count within digits blank =
    position_or_len_is is_blank text count 0 within (λ k lt. digits_no_blank text count k within digits lt) (λ lt. eq-eqb (get_or text count 0) 32 (blank lt))

-- digits up to the end
pub last_word : (text : List ℕ) (count : ℕ) → count ≡ length text → list_all is_ascii_digit (take count text) ≡ true → slice_split is_blank text ≡ take count text ∷ []
last_word text count end digits =
    let missing : position_or_len is_blank text ≡ count = first_blank text count (omega arith) digits (λ lt. absurd (omega arith)) in
    slice_split_none is_blank text (λ k d lt. fails_before_first is_blank text k d (omega (arith, missing))) ∙ ap (λ (w : List ℕ). w ∷ []) (sym (take_all count text (omega arith)))

-- digits up to a blank
pub next_word : (text : List ℕ) (count : ℕ) → count < length text → list_all is_ascii_digit (take count text) ≡ true → get_or text count 0 ≡ 32
    → slice_split is_blank text ≡ take count text ∷ slice_split is_blank (drop (count + 1) text)
next_word text count within digits blank =
    let found : position_or_len is_blank text ≡ count = first_blank text count (omega arith) digits (λ lt. blank) in
    slice_split_first is_blank text 0 (omega (arith, found)) ∙ ap (λ n. take n text ∷ slice_split is_blank (drop (n + 1) text)) found

-- ---- what the first word writes

-- digits write a number without a sign
pub natural_first : (text : List ℕ) (count : ℕ) (words others : List (List ℕ)) → 0 < count → count ≤ length text → (1 < count → get_or text 0 0 ≡ 48 → ⊥) → list_all is_ascii_digit (take count text) ≡ true
    → words ≡ take count text ∷ others → value_of natural words ≡ Some (pos (digits_value 10 (take count text)), others)
natural_first text count words others some within first digits is =
    ap (value_of natural) is ∙ ap (λ read. read >>= λ n. Some (pos n, others)) (number_of_digits text count some within first digits)
