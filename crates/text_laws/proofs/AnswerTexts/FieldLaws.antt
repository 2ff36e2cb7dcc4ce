-- A field that was written is read again.
use Rattle.std.proofs.Common.{◌≡◌, ℕ, ◌^◌, ◌<◌, ◌≤◌, ℤ, pos, negsuc, nat_abs, Bool, true, false, ◌&&◌, cond, List, [], ◌∷◌, ◌++◌, length, map, refl, sym, ap, ◌∙◌, arith}
use Rattle.std.specs.Prelude.{Option, Some, decimal, int_le, ◌==◌, nat_eq, nat_le, codes}
use Rattle.std.specs.Fmt.{signed_decimal}
use Rattle.std.specs.List.{list_all}
use Rattle.std.specs.Str.{bytes_eq}
use Rattle.std.proofs.lemmas.Bool.{eqb-true, leb-true}
use Rattle.std.proofs.lemmas.Bool.Decides.{nat_tests}
use Rattle.bounds_model.specs.Fractions.{Fraction}
use Rattle.bounds_model.specs.Ranges.{number_limit}
use Rattle.bounds_model.specs.EmptyAnswer.{Blocker, side, point}
use Rattle.bounds_model.specs.AnswerText.Numerals.{◌>>=◌, is_numeral, natural_number, whole_number}
use Rattle.bounds_model.specs.AnswerText.Fields.{Field, number, natural, naturals, bounded, fraction, plane_ratio, space_ratio, blocker, Value, naturals_of, blocker_of, value_of, is_small, is_in_range}
use Rattle.bounds_model.specs.AnswerText.Written.{fraction_text}
use Rattle.bounds_model.specs.AnswerText.Written.{blocker_text}
use Rattle.bounds_model.specs.AnswerText.Written.{field_words}
use Rattle.text_laws.proofs.AnswerTexts.NumberLaws.{step_again, both_true, is_word, numeral_begins, is_numeral-decimal, natural_again, is_word-decimal}
use Rattle.text_laws.proofs.AnswerTexts.WholeLaws.{whole_again, is_word-signed, fraction_again, is_word-fraction}
use Rattle.text_laws.proofs.AnswerTexts.LineLaws.{are_words}

-- ---- numbers within the limit

-- the number is not past the limit
abbrev pub within : ℤ → Bool
within z = nat_le (nat_abs z) number_limit

-- such a number has fewer than 64 digits
pub within_digits : (z : ℤ) → within z ≡ true → nat_abs z < 10 ^ 64
within_digits z e = let le : nat_abs z ≤ 2 ^ 126 = leb-true (nat_abs z) number_limit e in omega arith

-- the first of several numbers
pub first_within : (z : ℤ) (zs : List ℤ) → list_all within (z ∷ zs) ≡ true → nat_abs z < 10 ^ 64
first_within z zs e = within_digits z (both_true (within z) (list_all within zs) e).0

-- the numbers behind the first
pub rest_within : (z : ℤ) (zs : List ℤ) → list_all within (z ∷ zs) ≡ true → list_all within zs ≡ true
rest_within z zs e = (both_true (within z) (list_all within zs) e).1

-- the second
pub two_within : (y z : ℤ) (zs : List ℤ) → list_all within (y ∷ z ∷ zs) ≡ true → nat_abs z < 10 ^ 64
two_within y z zs e = first_within z zs (rest_within y (z ∷ zs) e)

-- the third
pub three_within : (x y z : ℤ) (zs : List ℤ) → list_all within (x ∷ y ∷ z ∷ zs) ≡ true → nat_abs z < 10 ^ 64
three_within x y z zs e = two_within y z zs (rest_within x (y ∷ z ∷ zs) e)

-- the fourth
pub four_within : (w x y z : ℤ) (zs : List ℤ) → list_all within (w ∷ x ∷ y ∷ z ∷ zs) ≡ true → nat_abs z < 10 ^ 64
four_within w x y z zs e = three_within x y z zs (rest_within w (x ∷ y ∷ z ∷ zs) e)

-- ---- the words are words

-- numbers are written as words
words_of_all : (zs : List ℤ) → list_all within zs ≡ true → are_words (map signed_decimal zs) ≡ true
words_of_all [] e = refl
words_of_all (z ∷ zs) e =
    ap (λ (t : Bool). t && are_words (map signed_decimal zs)) (is_word-signed z (first_within z zs e)) ∙ words_of_all zs (rest_within z zs e)

-- one word
one_word : (word : List ℕ) → is_word word ≡ true → are_words (word ∷ []) ≡ true
one_word word e = ap (λ (t : Bool). t && true) e

-- a blocker is written as a word
blocker_word : (b : Blocker) → is_small blocker b ≡ true → is_word (blocker_text b) ≡ true
blocker_word side e = refl
blocker_word (point n) e = is_word-decimal n (first_within (pos n) [] e)

-- each field is written as words
pub field_words_are_words : (field : Field) (v : Value field) → is_small field v ≡ true → are_words (field_words field v) ≡ true
field_words_are_words number z e = words_of_all (z ∷ []) e
field_words_are_words natural z e = words_of_all (z ∷ []) e
field_words_are_words (naturals count) zs e = words_of_all zs e
field_words_are_words (bounded low high) n e = one_word (decimal n) (is_word-decimal n (first_within (pos n) [] e))
field_words_are_words fraction a e = one_word (fraction_text a) (is_word-fraction a (first_within a.n (a.d ∷ []) e) (two_within a.n a.d [] e))
field_words_are_words plane_ratio c e = words_of_all (c.x ∷ c.y ∷ c.w ∷ []) e
field_words_are_words space_ratio c e = words_of_all (c.x ∷ c.y ∷ c.z ∷ c.w ∷ []) e
field_words_are_words blocker b e = one_word (blocker_text b) (blocker_word b e)

-- ---- what was written is read again

-- numbers without a sign that were written are read again
naturals_again : (zs : List ℤ) (rest : List (List ℕ)) → list_all within zs ≡ true → list_all (λ z. int_le (pos 0) z) zs ≡ true → naturals_of (length zs) (map signed_decimal zs ++ rest) ≡ Some (zs, rest)
naturals_again [] rest small e = refl
naturals_again (pos n ∷ zs) rest small e =
    step_again (natural_number (decimal n)) n (λ k. naturals_of (length zs) (map signed_decimal zs ++ rest) >>= λ others. Some (pos k ∷ others.0, others.1)) (pos n ∷ zs, rest) (natural_again n (first_within (pos n) zs small))
    (step_again (naturals_of (length zs) (map signed_decimal zs ++ rest)) (zs, rest) (λ others. Some (pos n ∷ others.0, others.1)) (pos n ∷ zs, rest) (naturals_again zs rest (rest_within (pos n) zs small) (both_true (int_le (pos 0) (pos n)) (list_all (λ z. int_le (pos 0) z) zs) e).1) refl)
naturals_again (negsuc n ∷ zs) rest small e = absurd cc

-- a number is not the word of a side
not_box : (digits : List ℕ) → is_numeral digits ≡ true → bytes_eq digits (codes "box") ≡ false
not_box [] e = refl
not_box (b ∷ rest) e =
    let range = numeral_begins b rest e in
    let other : nat_eq b 98 ≡ false = grind (arith, nat_tests) in
    ap (λ (t : Bool). t && bytes_eq rest (codes "ox")) other

-- a blocker that was written is read again
blocker_again : (b : Blocker) → is_small blocker b ≡ true → blocker_of (blocker_text b) ≡ Some b
blocker_again side small = refl
blocker_again (point n) small =
    let digits = first_within (pos n) [] small in
    ap (λ (t : Bool). cond t (Some side) (natural_number (decimal n) >>= λ k. Some (point k))) (not_box (decimal n) (is_numeral-decimal n digits))
    ∙ ap (λ (r : Option ℕ). r >>= λ k. Some (point k)) (natural_again n digits)

-- a field that was written is read again
pub value_again : (field : Field) (v : Value field) (rest : List (List ℕ)) → is_small field v ≡ true → is_in_range field v ≡ true → value_of field (field_words field v ++ rest) ≡ Some (v, rest)
value_again number z rest small range = ap (λ (r : Option ℤ). r >>= λ y. Some (y, rest)) (whole_again z (first_within z [] small))
value_again natural (pos n) rest small range = ap (λ (r : Option ℕ). r >>= λ k. Some (pos k, rest)) (natural_again n (first_within (pos n) [] small))
value_again natural (negsuc n) rest small range = absurd cc
value_again (naturals count) zs rest small range =
    let parts = both_true (length zs == count) (list_all (λ z. int_le (pos 0) z) zs) range in
    ap (λ (k : ℕ). naturals_of k (map signed_decimal zs ++ rest)) (sym (eqb-true (length zs) count parts.0)) ∙ naturals_again zs rest small parts.1
value_again (bounded low high) n rest small range = ap (λ (r : Option ℕ). r >>= λ k. Some (k, rest)) (natural_again n (first_within (pos n) [] small))
value_again fraction a rest small range =
    ap (λ (r : Option Fraction). r >>= λ b. Some (b, rest)) (fraction_again a (first_within a.n (a.d ∷ []) small) (two_within a.n a.d [] small))
value_again plane_ratio c rest small range =
    step_again (whole_number (signed_decimal c.x)) c.x _ _ (whole_again c.x (first_within c.x (c.y ∷ c.w ∷ []) small))
    (step_again (whole_number (signed_decimal c.y)) c.y _ _ (whole_again c.y (two_within c.x c.y (c.w ∷ []) small))
    (step_again (whole_number (signed_decimal c.w)) c.w _ _ (whole_again c.w (three_within c.x c.y c.w [] small)) refl))
value_again space_ratio c rest small range =
    step_again (whole_number (signed_decimal c.x)) c.x _ _ (whole_again c.x (first_within c.x (c.y ∷ c.z ∷ c.w ∷ []) small))
    (step_again (whole_number (signed_decimal c.y)) c.y _ _ (whole_again c.y (two_within c.x c.y (c.z ∷ c.w ∷ []) small))
    (step_again (whole_number (signed_decimal c.z)) c.z _ _ (whole_again c.z (three_within c.x c.y c.z (c.w ∷ []) small))
    (step_again (whole_number (signed_decimal c.w)) c.w _ _ (whole_again c.w (four_within c.x c.y c.z c.w [] small)) refl)))
value_again blocker b rest small range = ap (λ (r : Option Blocker). r >>= λ k. Some (k, rest)) (blocker_again b small)
