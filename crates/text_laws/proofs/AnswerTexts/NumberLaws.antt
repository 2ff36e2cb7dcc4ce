-- A number that was written is read again, and a number that was read was written so.
use Rattle.std.proofs.Common.{◌≡◌, ℕ, zero, suc, ◌+◌, ◌*◌, ◌/◌, ◌%◌, ◌^◌, ◌<◌, ◌≤◌, Bool, true, false, not, ◌&&◌, cond, List, [], ◌∷◌, ◌++◌, length, get_or, refl, sym, ap, ◌∙◌, append_assoc, arith}
use Rattle.std.specs.Prelude.{Option, Some, None, decimal, ◌==◌, nat_lt}
use Rattle.std.specs.List.{list_all}
use Rattle.std.specs.Char.{digit_value, is_ascii_digit}
use Rattle.std.specs.Str.{all_ascii_digits}
use Rattle.std.specs.Str.Parse.{AllDigits, digits_value, digits_value_after}
use Rattle.std.proofs.lemmas.List.{append-nil, length-append, get_or_append_left}
use Rattle.std.proofs.lemmas.Str.{digit_value_digit}
use Rattle.std.proofs.lemmas.Str.Parse.{digit_from_value, tells_all_ascii_digits, numerals_by_value}
use Rattle.std.proofs.lemmas.Bool.Decides.{nat_tests}
use Rattle.std.proofs.lemmas.Fmt.{decimal_digit, decimal_step_wide, decimal_by_steps_wide, decimal_is_IsNumeral_wide}
use Rattle.bounds_model.specs.AnswerText.Numerals.{◌>>=◌, is_numeral, natural_number}

-- ---- tools

-- the steps of a reading that gave something
pub bind_some : {A B : Type 0} (r : Option A) (f : A → Option B) (y : B) → (r >>= f) ≡ Some y → (x : A) × (r ≡ Some x) × (f x ≡ Some y)
bind_some (Some x) f y e = (x, refl, e)
bind_some None f y e = absurd cc

-- something
abbrev given : {A : Type 0} → A → Option A
given x = Some x

-- two things that are given
pub some_is : {A : Type 0} (x y : A) → given x ≡ given y → x ≡ y
some_is x y e = cc

-- two steps that give something
pub step_again : {A B : Type 0} (r : Option A) (x : A) (f : A → Option B) (y : B) → r ≡ Some x → f x ≡ Some y → (r >>= f) ≡ Some y
step_again r x f y e g = ap (λ (q : Option _). q >>= f) e ∙ g

-- a test that passed
pub guard_some : {A : Type 0} (b : Bool) (x : Option A) (y : A) → cond b x None ≡ Some y → (b ≡ true) × (x ≡ Some y)
guard_some true x y e = (refl, e)
guard_some false x y e = absurd cc

-- two tests that passed
pub both_true : (a b : Bool) → a && b ≡ true → (a ≡ true) × (b ≡ true)
both_true true true e = (refl, refl)
both_true true false e = absurd cc
both_true false b e = absurd cc

-- a test that failed
pub not_true : (b : Bool) → not b ≡ true → b ≡ false
not_true true e = absurd cc
not_true false e = refl

-- ---- words: lists of bytes above the blank

-- each byte is above the blank
abbrev pub is_word : List ℕ → Bool
is_word bytes = list_all (λ b. nat_lt 32 b) bytes

-- digits are a word
digits_are_word : (ds : List ℕ) → AllDigits 10 ds → is_word ds ≡ true
digits_are_word [] d = refl
digits_are_word (c ∷ cs) d =
    let in_range = digit_from_value c d.0 in
    let above : nat_lt 32 c ≡ true = grind (arith, nat_tests) in
    rw (above, digits_are_word cs d.1) refl

-- ---- numbers without a sign

-- what a number's digits are like: some, and 0 first only for the number 0
abbrev Leads : ℕ → List ℕ → Type 0
Leads n ds = (0 < length ds) × (0 < n → 48 < get_or ds 0 0) × (n ≡ 0 → length ds ≡ 1)

-- the digits of a number are like that
decimal_leads : (n : ℕ) → n < 10 ^ 64 → Leads n (decimal n)
decimal_leads = decimal_by_steps_wide Leads (λ n l. (omega arith, λ p. omega arith, λ e. refl)) more
  where
    more : (n : ℕ) (ds : List ℕ) → 10 ≤ n → Leads (n / 10) ds → Leads n (ds ++ ((48 + n % 10) ∷ []))
    more n ds h l = (omega (arith, length-append ds ((48 + n % 10) ∷ [])), λ p. omega (arith, get_or_append_left ds ((48 + n % 10) ∷ []) 0 0 l.0, l.1 (omega arith)), λ e. absurd (omega arith))

-- such digits are a numeral
numeral_from_digits : (ds : List ℕ) → AllDigits 10 ds → 0 < length ds → (get_or ds 0 0 ≡ 48 → length ds ≡ 1) → is_numeral ds ≡ true
numeral_from_digits [] d some lead = absurd (omega arith)
numeral_from_digits (c ∷ []) d some lead = (both_true (is_ascii_digit c) true ((numerals_by_value _ tells_all_ascii_digits).from (c ∷ []) d)).0
numeral_from_digits (c ∷ e ∷ cs) d some lead =
    let never : c ≡ 48 → ⊥ = λ z. omega (arith, lead z) in
    let first : (c == 48) ≡ false = grind (arith, nat_tests) in
    rw (first, (numerals_by_value _ tells_all_ascii_digits).from (c ∷ e ∷ cs) d) refl

-- the digits of a number are a numeral
pub is_numeral-decimal : (n : ℕ) → n < 10 ^ 64 → is_numeral (decimal n) ≡ true
is_numeral-decimal n h =
    let l = decimal_leads n h in
    numeral_from_digits (decimal n) (decimal_is_IsNumeral_wide n h).0.1 l.0 (λ e. l.2 (elim_zero n (λ p. omega (arith, l.1 p))))
  where
    elim_zero : (m : ℕ) → (0 < m → ⊥) → m ≡ 0
    elim_zero zero never = refl
    elim_zero (suc m) never = absurd (never (omega arith))

-- a number that was written is read again
pub natural_again : (n : ℕ) → n < 10 ^ 64 → natural_number (decimal n) ≡ Some n
natural_again n h = ap (λ b. cond b (Some (digits_value 10 (decimal n))) None) (is_numeral-decimal n h) ∙ ap (λ k. Some k) (decimal_is_IsNumeral_wide n h).1

-- a number is written as a word
pub is_word-decimal : (n : ℕ) → n < 10 ^ 64 → is_word (decimal n) ≡ true
is_word-decimal n h = digits_are_word (decimal n) (decimal_is_IsNumeral_wide n h).0.1

-- more digits make no smaller number
le_value_after : (n : ℕ) (ds : List ℕ) → n ≤ digits_value_after 10 n ds
le_value_after n [] = omega arith
le_value_after n (c ∷ cs) = omega (arith, le_value_after (n * 10 + digit_value c) cs)

-- the digits of a number behind those of another
decimal_value_after : (n : ℕ) (ds : List ℕ) → 0 < n → AllDigits 10 ds → digits_value_after 10 n ds < 10 ^ 64 → decimal (digits_value_after 10 n ds) ≡ decimal n ++ ds
decimal_value_after n [] some d small = sym (append-nil (decimal n))
decimal_value_after n (c ∷ cs) some d small =
    let m : ℕ = n * 10 + digit_value c in
    let k = digit_value_digit c (digit_from_value c d.0) in
    let front : m / 10 ≡ n = omega (arith, d.0) in
    let end : 48 + m % 10 ≡ c = omega (arith, d.0) in
    decimal_value_after m cs (omega arith) d.1 small
    ∙ ap (λ x. x ++ cs) (decimal_step_wide m (omega arith) (omega (arith, le_value_after m cs)) ∙ (λ i. decimal (front i) ++ (end i ∷ [])))
    ∙ append_assoc (decimal n) (c ∷ []) cs

-- a numeral has digits alone
numeral_digits : (ds : List ℕ) → is_numeral ds ≡ true → AllDigits 10 ds
numeral_digits [] e = absurd cc
numeral_digits (c ∷ []) e = (numerals_by_value _ tells_all_ascii_digits).to (c ∷ []) (rw e refl)
numeral_digits (c ∷ d ∷ cs) e = (numerals_by_value _ tells_all_ascii_digits).to (c ∷ d ∷ cs) (both_true (not (c == 48)) (all_ascii_digits (c ∷ d ∷ cs)) e).1

-- digits that do not begin with 0 are those of their value
decimal_value : (ds : List ℕ) → is_numeral ds ≡ true → digits_value 10 ds < 10 ^ 64 → decimal (digits_value 10 ds) ≡ ds
decimal_value [] e small = absurd cc
decimal_value (c ∷ []) e small =
    let d = (numeral_digits (c ∷ []) e).0 in
    let k = digit_value_digit c (digit_from_value c d) in
    decimal_digit (0 * 10 + digit_value c) (omega (arith, d)) ∙ ap (λ x. x ∷ []) (omega arith)
decimal_value (c ∷ f ∷ cs) e small =
    let d = numeral_digits (c ∷ f ∷ cs) e in
    let k = digit_value_digit c (digit_from_value c d.0) in
    let first = not_true (c == 48) (both_true (not (c == 48)) (all_ascii_digits (c ∷ f ∷ cs)) e).0 in
    let never : c ≡ 48 → ⊥ = λ z. grind (arith, nat_tests) in
    let in_range = digit_from_value c d.0 in
    let is : 48 + (0 * 10 + digit_value c) ≡ c = omega arith in
    decimal_value_after (0 * 10 + digit_value c) (f ∷ cs) (omega (arith, never)) d.1 small
    ∙ ap (λ x. x ++ (f ∷ cs)) (decimal_digit (0 * 10 + digit_value c) (omega (arith, d.0)) ∙ ap (λ x. x ∷ []) is)

-- a number that was read was written so
pub natural_back : (word : List ℕ) (n : ℕ) → natural_number word ≡ Some n → n < 10 ^ 64 → word ≡ decimal n
natural_back word n e small =
    let g = guard_some (is_numeral word) (Some (digits_value 10 word)) n e in
    let value : digits_value 10 word ≡ n = cc in
    sym (ap decimal (sym value) ∙ decimal_value word g.0 (omega arith))

-- a numeral begins with a digit
pub numeral_begins : (b : ℕ) (rest : List ℕ) → is_numeral (b ∷ rest) ≡ true → (47 < b) × (b < 58)
numeral_begins b rest e = let in_range = digit_from_value b (numeral_digits (b ∷ rest) e).0 in (omega arith, omega arith)

-- digits are no slashes
no_slash_digits : (ds : List ℕ) → AllDigits 10 ds → list_all (λ b. not (b == 47)) ds ≡ true
no_slash_digits [] d = refl
no_slash_digits (c ∷ cs) d =
    let in_range = digit_from_value c d.0 in
    let other : (c == 47) ≡ false = grind (arith, nat_tests) in
    rw (other, no_slash_digits cs d.1) refl

-- a number is written without a slash
pub no_slash-decimal : (n : ℕ) → n < 10 ^ 64 → list_all (λ b. not (b == 47)) (decimal n) ≡ true
no_slash-decimal n h = no_slash_digits (decimal n) (decimal_is_IsNumeral_wide n h).0.1
