-- When a word is a numeral, and how great a number of few digits is.
use Rattle.std.proofs.Common.{◌≡◌, ◌∙◌, refl, sym, ap, cond, ℕ, zero, suc, ◌<◌, ◌≤◌, ◌^◌, Bool, true, false, not, ◌&&◌, List, [], ◌∷◌, length, take, length-take, get_or, get_or-take, Some, None, arith}
use Rattle.std.specs.Prelude.{◌==◌}
use Rattle.std.specs.Char.{is_ascii_digit}
use Rattle.std.specs.List.{list_all}
use Rattle.std.specs.Str.{all_ascii_digits}
use Rattle.std.specs.Str.Parse.{digits_value}
use Rattle.std.proofs.lemmas.Bool.{eq-eqb, ne_eqb, true_from_ne_false, false≢true}
use Rattle.std.proofs.lemmas.Bool.Decides.{nat_tests}
use Rattle.std.proofs.lemmas.List.Folds.{list_all_at}
use Rattle.std.proofs.lemmas.Str.Parse.{digits_value_short, numerals_by_value, tells_all_ascii_digits}
use Rattle.bounds_model.specs.AnswerText.Numerals.{is_numeral, natural_number}

-- the two tests for digits are one
all_digits : (ds : List ℕ) → all_ascii_digits ds ≡ list_all is_ascii_digit ds
all_digits [] = refl
all_digits (d ∷ ds) = ap (λ t. is_ascii_digit d && t) (all_digits ds)

-- the test for several digits
several : (a b c : Bool) → a ≡ false → b ≡ true → c ≡ true → not a && b ≡ true
several false true c p q r = refl
several false false c p q r = absurd cc
several true b c p q r = absurd cc

-- digits that do not begin with 0, or one digit
pub is_numeral-digits : (word : List ℕ) → 0 < length word → (1 < length word → get_or word 0 0 ≡ 48 → ⊥) → list_all is_ascii_digit word ≡ true → is_numeral word ≡ true
is_numeral-digits [] some first digits = absurd (omega arith)
is_numeral-digits (d ∷ []) some first digits = elim (is_ascii_digit d) as (λ t. t && true ≡ true → t ≡ true) [ true ↦ λ e. refl | false ↦ λ e. e ] digits
is_numeral-digits (d ∷ e ∷ rest) some first digits =
    let other : d ≡ 48 → ⊥ = first (omega arith) in
    let test : (d == 48) ≡ false = grind (arith, nat_tests) in
    several (d == 48) (all_ascii_digits (d ∷ e ∷ rest)) true test (all_digits (d ∷ e ∷ rest) ∙ digits) refl

-- no digits
pub is_numeral-empty : (word : List ℕ) → length word ≡ 0 → is_numeral word ≡ false
is_numeral-empty [] none = refl
is_numeral-empty (d ∷ rest) none = absurd (omega arith)

-- several digits that begin with 0
pub is_numeral-zero : (word : List ℕ) → 1 < length word → get_or word 0 0 ≡ 48 → is_numeral word ≡ false
is_numeral-zero [] several first = absurd (omega arith)
is_numeral-zero (d ∷ []) several first = absurd (omega arith)
is_numeral-zero (d ∷ e ∷ rest) several first = ap (λ t. not t && all_ascii_digits (d ∷ e ∷ rest)) (eq-eqb d 48 first)

-- a test that fails
and_false : (a b : Bool) → b ≡ false → a && b ≡ false
and_false true b e = e
and_false false b e = refl

-- a byte that is no digit
not_all_digits : (word : List ℕ) (i : ℕ) → i < length word → is_ascii_digit (get_or word i 0) ≡ false → all_ascii_digits word ≡ false
not_all_digits [] i lt other = absurd (omega arith)
not_all_digits (d ∷ rest) zero lt other = ap (λ t. t && all_ascii_digits rest) other
not_all_digits (d ∷ rest) (suc i) lt other = and_false (is_ascii_digit d) (all_ascii_digits rest) (not_all_digits rest i (omega arith) other)

-- the same in a word
pub is_numeral-other : (word : List ℕ) (i : ℕ) → i < length word → is_ascii_digit (get_or word i 0) ≡ false → is_numeral word ≡ false
is_numeral-other [] i lt other = absurd (omega arith)
is_numeral-other (d ∷ []) zero lt other = other
is_numeral-other (d ∷ []) (suc i) lt other = absurd (omega arith)
is_numeral-other (d ∷ e ∷ rest) i lt other = and_false (not (d == 48)) (all_ascii_digits (d ∷ e ∷ rest)) (not_all_digits (d ∷ e ∷ rest) i lt other)

-- ---- the first digits of a text

-- they write a number
pub number_of_digits : (text : List ℕ) (count : ℕ) → 0 < count → count ≤ length text → (1 < count → get_or text 0 0 ≡ 48 → ⊥) → list_all is_ascii_digit (take count text) ≡ true
    → natural_number (take count text) ≡ Some (digits_value 10 (take count text))
number_of_digits text count some within first digits =
    let long : length (take count text) ≡ count = omega (arith, length-take count text) in
    let begins : 1 < length (take count text) → get_or (take count text) 0 0 ≡ 48 → ⊥ = λ several zero. first (omega (arith, long)) (sym (get_or-take count text 0 0 some) ∙ zero) in
    ap (λ t. cond t (Some (digits_value 10 (take count text))) None) (is_numeral-digits (take count text) (omega (arith, long)) begins digits)

-- so few are a number below this one
pub few_digits : (text : List ℕ) (count : ℕ) → count ≤ 18 → list_all is_ascii_digit (take count text) ≡ true → digits_value 10 (take count text) < 10 ^ 18
few_digits text count few digits =
    digits_value_short (numerals_by_value (λ ds. all_ascii_digits ds ≡ true) tells_all_ascii_digits) (take count text) 18 (all_digits (take count text) ∙ digits) (omega (arith, length-take count text))

-- none of them is a blank
pub digits_no_blank : (text : List ℕ) (count k : ℕ) → count ≤ length text → list_all is_ascii_digit (take count text) ≡ true → k < count → (get_or text k 0 == 32) ≡ false
digits_no_blank text count k within digits lt =
    let same : get_or (take count text) k 0 ≡ get_or text k 0 = get_or-take count text k 0 lt in
    let long : length (take count text) ≡ count = omega (arith, length-take count text) in
    let is : is_ascii_digit (get_or (take count text) k 0) ≡ true =
    true_from_ne_false _ (λ other. false≢true (sym (list_all_at is_ascii_digit (take count text) k 0 (omega (arith, long)) other) ∙ digits)) in
    let range = (tells_all_ascii_digits.parts (get_or text k 0) [] (ap (λ t. t && true) (sym (ap is_ascii_digit same) ∙ is))).0 in
    ne_eqb (get_or text k 0) 32 (omega (arith, range))
