-- A field, as one more byte is read.
use Rattle.std.proofs.Common.{◌≡◌, ◌≢◌, ◌∙◌, refl, sym, ap, ℕ, pos, neg_ℤ, suc, zero, ◌+◌, ◌*◌, ◌≤◌, ◌==◌, ◌&&◌, ◌<◌, Bool, true, false, take, get_or, nat_lt, cond, List, [], ◌∷◌, ◌++◌, length, length-append, nat_le, codes, append_assoc, append-nil, Option, Some, None, arith}
use Rattle.std.specs.Option.{option_map}
use Rattle.std.specs.List.{list_all}
use Rattle.std.specs.Char.{is_ascii_digit}
use Rattle.std.specs.Str.{bytes_eq}
use Rattle.std.proofs.Math.Bool.{and-false}
use Rattle.std.proofs.lemmas.Bool.{eqb-true}
use Rattle.std.proofs.lemmas.Bool.Decides.{nat_tests}
use Rattle.std.proofs.lemmas.List.Folds.{list_all-append}
use Rattle.std.proofs.lemmas.List.Sums.{fold-append}
use Rattle.bounds_model.specs.PointText.{natural, number, digits_number, digit_size}
use Rattle.point_text.specs.Clamps.{clamped_size, clamped}
use Rattle.byte_tools.specs.LeadingDigits.{number_behind}
use Rattle.point_text.specs.Fields.{Write, IsUnknown, clamped_number, sign_bytes, signed, letters}
use Rattle.point_text.specs.declared.number.Sign.{Sign}
use Rattle.point_text.specs.declared.number.Sign.TheVariants.{Absent, Plus, Minus}
use Rattle.point_text.specs.declared.fields.Keyword.{Keyword}
use Rattle.point_text.specs.declared.fields.Keyword.TheVariants.{Separator, Scale}
use Rattle.point_text.specs.declared.field_in_hand.FieldInHand.{FieldInHand}
use Rattle.point_text.specs.declared.field_in_hand.FieldInHand.TheVariants as field
use Rattle.point_text.specs.Lines.{BeginsWithNoSign}
use Rattle.point_text.specs.InHand.{IsOther, IsFieldInHand, is_next_letter}

-- ---- digits

record AllDigits (digits : List ℕ) (n : ℕ) : Type 0 where
  pub all : list_all is_ascii_digit digits ≡ true
  pub some : nat_le 1 (length digits) ≡ true
  pub is : digits_number digits ≡ n

all_digits : (digits : List ℕ) (n : ℕ) → natural digits ≡ Some n → AllDigits digits n
all_digits digits n e = by (nat_le 1 (length digits)) (list_all is_ascii_digit digits) refl refl e
  where
    by : (s a : Bool) → nat_le 1 (length digits) ≡ s → list_all is_ascii_digit digits ≡ a → cond (s && a) (Some (digits_number digits)) None ≡ Some n → AllDigits digits n
    by true true some all is = record { all = all; some = some; is = cc }
    by true false some all is = cc
    by false a some all is = cc

pub natural_all : (digits : List ℕ) → nat_le 1 (length digits) ≡ true → list_all is_ascii_digit digits ≡ true → natural digits ≡ Some (digits_number digits)
natural_all digits some all = rw (some, all) refl

-- a byte that is no digit
pub natural_none : (digits : List ℕ) (b : ℕ) (more : List ℕ) → is_ascii_digit b ≡ false → natural (digits ++ b ∷ more) ≡ None
natural_none digits b more other =
    let none : list_all is_ascii_digit (digits ++ b ∷ more) ≡ false =
    list_all-append is_ascii_digit digits (b ∷ more) ∙ (ap (λ t. list_all is_ascii_digit digits && (t && list_all is_ascii_digit more)) other ∙ and-false (list_all is_ascii_digit digits)) in
    ap (λ t. cond (nat_le 1 (length (digits ++ b ∷ more)) && t) (Some (digits_number (digits ++ b ∷ more))) None) none
    ∙ ap (λ t. cond t (Some (digits_number (digits ++ b ∷ more))) None) (and-false (nat_le 1 (length (digits ++ b ∷ more))))

written_number : (digits : List ℕ) (size : ℕ) (a : Option ℕ) → natural digits ≡ a → option_map clamped_size a ≡ Some size → (n : ℕ) × (natural digits ≡ Some n) × (size ≡ clamped_size n)
written_number digits size None is e = cc
written_number digits size (Some n) is e = (n, is, cc)

pub write_some : (digits : List ℕ) (size : ℕ) → Write digits size → nat_le 1 (length digits) ≡ true
write_some digits size is = let w = written_number digits size (natural digits) refl is in (all_digits digits w.0 w.1).some

-- the first digit
pub write_one : (d size : ℕ) → is_ascii_digit d ≡ true → size ≡ digit_size d → size ≤ 9 → Write (d ∷ []) size
write_one d size digit is small =
    let one : natural (d ∷ []) ≡ Some (10 * 0 + digit_size d) = rw digit refl in
    let same : clamped_size (10 * 0 + digit_size d) ≡ size = omega (arith, is, small) in
    ap (option_map clamped_size) one ∙ ap Some same

-- one more digit
pub write_more : (digits : List ℕ) (size d next : ℕ) → Write digits size → is_ascii_digit d ≡ true → next ≡ digit_size d → next ≤ 9
    → Write (digits ++ d ∷ []) (clamped_size (10 * clamped_size size + next))
write_more digits size d next is digit counts small =
    let w = written_number digits size (natural digits) refl is in
    let digits_all = all_digits digits w.0 w.1 in
    let all : list_all is_ascii_digit (digits ++ d ∷ []) ≡ true =
    list_all-append is_ascii_digit digits (d ∷ []) ∙ rw (digits_all.all, digit) refl in
    let some : nat_le 1 (length (digits ++ d ∷ [])) ≡ true = let size = length-append digits (d ∷ []) in grind (arith, nat_tests) in
    let value : digits_number (digits ++ d ∷ []) ≡ 10 * w.0 + digit_size d =
    fold-append (λ n digit. 10 * n + digit_size digit) 0 digits (d ∷ []) ∙ ap (λ n. 10 * n + digit_size d) digits_all.is in
    let same : clamped_size (10 * w.0 + digit_size d) ≡ clamped_size (10 * clamped_size size + next) = omega (arith, w.2, counts, small) in
    ap (option_map clamped_size) (natural_all (digits ++ d ∷ []) some all ∙ ap Some value) ∙ ap Some same

-- ---- bytes that a number or a word begins with, and then another

no_byte : (b c : ℕ) → b ≢ c → (b == c) ≡ false
no_byte b c other = grind (arith, nat_tests)

pub other_start : (b : ℕ) → b ≢ 43 → b ≢ 45 → b ≢ 115 → is_ascii_digit b ≡ false → IsOther (b ∷ [])
other_start b no_plus dash letter other more =
    rw (no_byte b 45 dash, no_byte b 43 no_plus, no_byte b 115 letter, natural_none [] b more other) (refl, refl, refl)

pub other_plus : (b : ℕ) → is_ascii_digit b ≡ false → IsOther (43 ∷ b ∷ [])
other_plus b other more = rw (natural_none [] b more other) (refl, refl, refl)

pub other_more : (bytes : List ℕ) (b : ℕ) → IsOther bytes → IsOther (bytes ++ b ∷ [])
other_more bytes b is more = rw (append_assoc bytes (b ∷ []) more) (is (b ∷ more))

-- ---- the first bytes of a word

take_next : (xs : List ℕ) (n : ℕ) → n < length xs → take n xs ++ get_or xs n 0 ∷ [] ≡ take (suc n) xs
take_next [] n below = absurd (omega (arith, below))
take_next (x ∷ xs) zero below = refl
take_next (x ∷ xs) (suc n) below = ap (λ ys. x ∷ ys) (take_next xs n (omega (arith, below)))

-- the next one of its bytes
pub next_letter : (word : Keyword) (seen b : ℕ) → is_next_letter word seen b ≡ true → (take seen (letters word) ++ b ∷ [] ≡ take (suc seen) (letters word)) × (suc seen ≤ length (letters word))
next_letter word seen b is = by (nat_lt seen (length (letters word))) (get_or (letters word) seen 0 == b) refl refl is
  where
    by : (s t : Bool) → nat_lt seen (length (letters word)) ≡ s → (get_or (letters word) seen 0 == b) ≡ t → (s && t) ≡ true
        → (take seen (letters word) ++ b ∷ [] ≡ take (suc seen) (letters word)) × (suc seen ≤ length (letters word))
    by true true below same is =
        let within : seen < length (letters word) = grind (arith, nat_tests) in
        let letter : get_or (letters word) seen 0 ≡ b = eqb-true _ b same in
        (ap (λ c. take seen (letters word) ++ c ∷ []) (sym letter) ∙ take_next (letters word) seen within, omega (arith, within))
    by true false below same is = cc
    by false t below same is = cc

-- a dash, and then neither another nor a digit
other_dash : (b : ℕ) → (45 == b) ≡ false → is_ascii_digit b ≡ false → IsOther (45 ∷ b ∷ [])
other_dash b dash other more =
    let no : (b == 45) ≡ false = no_byte b 45 (λ same. let wrong : (45 == 45) ≡ false = ap (λ c. 45 == c) (sym same) ∙ dash in cc) in
    (ap (option_map (λ n. neg_ℤ (pos n))) (natural_none [] b more other), rw no refl, refl)

other_dashes : (b : ℕ) → (45 == b) ≡ false → IsOther (45 ∷ 45 ∷ b ∷ [])
other_dashes b dash more =
    let no : (b == 45) ≡ false = no_byte b 45 (λ same. let wrong : (45 == 45) ≡ false = ap (λ c. 45 == c) (sym same) ∙ dash in cc) in
    (ap (option_map (λ n. neg_ℤ (pos n))) (natural_none [] 45 (b ∷ more) refl), rw no refl, refl)

turned : (b c : ℕ) → (c == b) ≡ false → (b == c) ≡ false
turned b c other = no_byte b c (λ same. let wrong : (c == c) ≡ false = ap (λ d. c == d) (sym same) ∙ other in let right : (c == c) ≡ true = grind (arith, nat_tests) in cc)

-- a byte that does not go on with the word
pub other_letter : (word : Keyword) (seen b : ℕ) → 1 ≤ seen → seen ≤ length (letters word) → is_next_letter word seen b ≡ false → (word ≡ Separator → seen ≡ 1 → is_ascii_digit b ≡ false)
    → IsOther (take seen (letters word) ++ b ∷ [])
other_letter word zero b some within other digit = absurd (omega (arith, some))
other_letter Separator (suc zero) b some within other digit = other_dash b other (digit refl refl)
other_letter Separator (suc (suc zero)) b some within other digit = other_dashes b other
other_letter Separator (suc (suc (suc zero))) b some within other digit = λ more. (ap (option_map (λ n. neg_ℤ (pos n))) (natural_none [] 45 (45 ∷ b ∷ more) refl), refl, refl)
other_letter Separator (suc (suc (suc (suc n)))) b some within other digit = absurd (omega (arith, within))
other_letter Scale (suc zero) b some within other digit = λ more. (ap (option_map pos) (natural_none [] 115 (b ∷ more) refl), refl, rw (turned b 99 other) refl)
other_letter Scale (suc (suc zero)) b some within other digit = λ more. (ap (option_map pos) (natural_none [] 115 (99 ∷ b ∷ more) refl), refl, rw (turned b 97 other) refl)
other_letter Scale (suc (suc (suc zero))) b some within other digit = λ more. (ap (option_map pos) (natural_none [] 115 (99 ∷ 97 ∷ b ∷ more) refl), refl, rw (turned b 108 other) refl)
other_letter Scale (suc (suc (suc (suc zero)))) b some within other digit = λ more. (ap (option_map pos) (natural_none [] 115 (99 ∷ 97 ∷ 108 ∷ b ∷ more) refl), refl, rw (turned b 101 other) refl)
other_letter Scale (suc (suc (suc (suc (suc zero))))) b some within other digit = λ more. (ap (option_map pos) (natural_none [] 115 (99 ∷ 97 ∷ 108 ∷ 101 ∷ b ∷ more) refl), refl, refl)
other_letter Scale (suc (suc (suc (suc (suc (suc n)))))) b some within other digit = absurd (omega (arith, within))

-- first bytes that are not all
pub part_unknown : (word : Keyword) (seen : ℕ) → 1 ≤ seen → seen ≤ length (letters word) → (seen ≡ length (letters word) → ⊥) → IsUnknown (take seen (letters word))
part_unknown word zero some within part = absurd (omega (arith, some))
part_unknown Separator (suc zero) some within part = (refl, refl, refl)
part_unknown Separator (suc (suc zero)) some within part = (refl, refl, refl)
part_unknown Separator (suc (suc (suc zero))) some within part = absurd (part refl)
part_unknown Separator (suc (suc (suc (suc n)))) some within part = absurd (omega (arith, within))
part_unknown Scale (suc zero) some within part = (refl, refl, refl)
part_unknown Scale (suc (suc zero)) some within part = (refl, refl, refl)
part_unknown Scale (suc (suc (suc zero))) some within part = (refl, refl, refl)
part_unknown Scale (suc (suc (suc (suc zero)))) some within part = (refl, refl, refl)
part_unknown Scale (suc (suc (suc (suc (suc zero))))) some within part = absurd (part refl)
part_unknown Scale (suc (suc (suc (suc (suc (suc n)))))) some within part = absurd (omega (arith, within))

-- all of them
pub whole_word : (word : Keyword) (seen : ℕ) → seen ≡ length (letters word) → take seen (letters word) ≡ letters word
whole_word Separator seen is = ap (λ n. take n (codes "---")) is
whole_word Scale seen is = ap (λ n. take n (codes "scale")) is

-- ---- digits, and then another byte

pub no_digit : (d k : ℕ) → is_ascii_digit d ≡ true → is_ascii_digit k ≡ false → (d == k) ≡ false
no_digit d k digit other = by (d == k) refl
  where
    by : (t : Bool) → (d == k) ≡ t → (d == k) ≡ false
    by true e = let same : d ≡ k = eqb-true d k e in let wrong : is_ascii_digit d ≡ false = ap is_ascii_digit same ∙ other in cc
    by false e = e

record Begins (digits : List ℕ) : Type 0 where
  pub first : ℕ
  pub behind : List ℕ
  pub is : digits ≡ first ∷ behind
  pub digit : is_ascii_digit first ≡ true

begins : (digits : List ℕ) (size : ℕ) → Write digits size → Begins digits
begins [] size is = cc
begins (d ∷ digits) size is =
    let w = written_number (d ∷ digits) size (natural (d ∷ digits)) refl is in
    let all = all_digits (d ∷ digits) w.0 w.1 in
    record { first = d; behind = digits; is = refl; digit = by (is_ascii_digit d) refl all.all }
  where
    by : (t : Bool) → is_ascii_digit d ≡ t → (t && list_all is_ascii_digit digits) ≡ true → is_ascii_digit d ≡ true
    by true e all = e
    by false e all = cc

-- digits are no sign
number_unsigned : (d : ℕ) (digits : List ℕ) → is_ascii_digit d ≡ true → number (d ∷ digits) ≡ option_map pos (natural (d ∷ digits))
number_unsigned d digits digit = rw (no_digit d 45 digit refl, no_digit d 43 digit refl) refl

other_unsigned : (digits : List ℕ) (size b : ℕ) → Write digits size → is_ascii_digit b ≡ false → IsOther (digits ++ b ∷ [])
other_unsigned digits size b is other more =
    let start = begins digits size is in
    let none : natural ((digits ++ b ∷ []) ++ more) ≡ None = ap natural (append_assoc digits (b ∷ []) more) ∙ natural_none digits b more other in
    by digits start none
  where
    by : (all : List ℕ) (start : Begins all) → natural ((all ++ b ∷ []) ++ more) ≡ None → IsUnknown ((all ++ b ∷ []) ++ more)
    by [] start none = let wrong = start.is in cc
    by (d ∷ all) start none =
        let first : d ≡ start.first = let is = start.is in cc in
        let digit : is_ascii_digit d ≡ true = ap is_ascii_digit first ∙ start.digit in (
          number_unsigned d ((all ++ b ∷ []) ++ more) digit ∙ ap (option_map pos) none,
          rw (no_digit d 45 digit refl) refl,
          rw (no_digit d 115 digit refl) refl,
        )

other_behind_minus : (digits : List ℕ) (size b : ℕ) → Write digits size → is_ascii_digit b ≡ false → IsOther (45 ∷ (digits ++ b ∷ []))
other_behind_minus digits size b is other more =
    (ap (option_map (λ n. neg_ℤ (pos n))) (ap natural (append_assoc digits (b ∷ []) more) ∙ natural_none digits b more other), by digits (begins digits size is), refl)
  where
    by : (all : List ℕ) (start : Begins all) → bytes_eq (45 ∷ ((all ++ b ∷ []) ++ more)) (codes "---") ≡ false
    by [] start = let wrong = start.is in cc
    by (d ∷ all) start =
        let first : d ≡ start.first = let is = start.is in cc in
        let digit : is_ascii_digit d ≡ true = ap is_ascii_digit first ∙ start.digit in
        rw (no_digit d 45 digit refl) refl

pub other_digits : (sign : Sign) (digits : List ℕ) (size b : ℕ) → Write digits size → is_ascii_digit b ≡ false → IsOther (sign_bytes sign ++ (digits ++ b ∷ []))
other_digits Absent digits size b is other = other_unsigned digits size b is other
other_digits Plus digits size b is other = λ more. (ap (option_map pos) (ap natural (append_assoc digits (b ∷ []) more) ∙ natural_none digits b more other), refl, refl)
other_digits Minus digits size b is other = other_behind_minus digits size b is other

-- ---- whole fields

pub unsigned_number : (digits : List ℕ) (size : ℕ) → Write digits size → clamped_number digits ≡ Some (pos size)
unsigned_number digits size is =
    let start = begins digits size is in
    let w = written_number digits size (natural digits) refl is in
    let plain : number digits ≡ option_map pos (natural digits) = ap number start.is ∙ (number_unsigned start.first start.behind start.digit ∙ ap (λ ds. option_map pos (natural ds)) (sym start.is)) in
    ap (option_map clamped) (plain ∙ ap (option_map pos) w.1) ∙ ap (λ n. Some (pos n)) (sym w.2)

pub plus_number : (digits : List ℕ) (size : ℕ) → Write digits size → clamped_number (43 ∷ digits) ≡ Some (pos size)
plus_number digits size is =
    let w = written_number digits size (natural digits) refl is in
    ap (λ a. option_map clamped (option_map pos a)) w.1 ∙ ap (λ n. Some (pos n)) (sym w.2)

clamped_negative : (n : ℕ) → clamped (neg_ℤ (pos n)) ≡ neg_ℤ (pos (clamped_size n))
clamped_negative zero = refl
clamped_negative (suc n) = ap (λ m. neg_ℤ (pos m)) (omega arith)

pub minus_number : (digits : List ℕ) (size : ℕ) → Write digits size → clamped_number (45 ∷ digits) ≡ Some (neg_ℤ (pos size))
minus_number digits size is =
    let w = written_number digits size (natural digits) refl is in
    ap (λ a. option_map clamped (option_map (λ n. neg_ℤ (pos n)) a)) w.1 ∙ (ap Some (clamped_negative w.0) ∙ ap (λ n. Some (neg_ℤ (pos n))) (sym w.2))

-- a number with its sign
pub signed_number : (sign : Sign) (size : ℕ) (bytes digits : List ℕ) → bytes ≡ sign_bytes sign ++ digits → Write digits size → clamped_number bytes ≡ Some (signed sign size)
signed_number Absent size bytes digits is write = ap clamped_number is ∙ unsigned_number digits size write
signed_number Plus size bytes digits is write = ap clamped_number is ∙ plus_number digits size write
signed_number Minus size bytes digits is write = ap clamped_number is ∙ minus_number digits size write

-- a field in hand that is no number and no word is none where it ends
pub other_field : (f : FieldInHand) (bytes : List ℕ) → IsFieldInHand f bytes → ((sign : Sign) (size : ℕ) → f ≡ field.Digits sign size → ⊥) → ((word : Keyword) (seen : ℕ) → f ≡ field.Word word seen → ⊥)
    → IsUnknown bytes
other_field field.Empty bytes is digits word = rw is (refl, refl, refl)
other_field field.Plus bytes is digits word = rw is (refl, refl, refl)
other_field (field.Digits sign size) bytes is digits word = absurd (digits sign size refl)
other_field (field.Word w seen) bytes is digits word = absurd (word w seen refl)
other_field field.Other bytes is digits word = let end = is [] in rw (append-nil bytes) at end

-- digits without a sign are no number where the field is none
pub natural_unknown : (bytes : List ℕ) → number bytes ≡ None → natural bytes ≡ None
natural_unknown [] none = refl
natural_unknown (b ∷ rest) none = by (b == 45) (b == 43) refl refl none
  where
    is_none : (a : Option ℕ) → option_map pos a ≡ None → a ≡ None
    is_none None e = refl
    is_none (Some n) e = cc

    by : (m p : Bool) → (b == 45) ≡ m → (b == 43) ≡ p
        → cond m (option_map (λ n. neg_ℤ (pos n)) (natural rest)) (cond p (option_map pos (natural rest)) (option_map pos (natural (b ∷ rest)))) ≡ None → natural (b ∷ rest) ≡ None
    by true p minus plus e = natural_none [] b rest (ap is_ascii_digit (eqb-true b 45 minus))
    by false true minus plus e = natural_none [] b rest (ap is_ascii_digit (eqb-true b 43 plus))
    by false false minus plus e = is_none (natural (b ∷ rest)) e

-- digits that write no number
pub unwritten : (digits : List ℕ) → option_map clamped_size (natural digits) ≡ None → natural digits ≡ None
unwritten digits none = by (natural digits) none
  where
    by : (a : Option ℕ) → option_map clamped_size a ≡ None → a ≡ None
    by None e = refl
    by (Some n) e = cc

-- and the field is none where they are none
pub number_unknown : (sign : Sign) (bytes rest : List ℕ) → bytes ≡ sign_bytes sign ++ rest → (sign ≡ Absent → BeginsWithNoSign rest) → natural rest ≡ None → number bytes ≡ None
number_unknown Absent bytes [] is plain none = ap number is
number_unknown Absent bytes (b ∷ rest) is plain none = let sign = plain refl in ap number is ∙ rw (sign.0, sign.1) (ap (option_map pos) none)
number_unknown Plus bytes rest is plain none = ap number is ∙ ap (option_map pos) none
number_unknown Minus bytes rest is plain none = ap number is ∙ ap (option_map (λ n. neg_ℤ (pos n))) none

-- nor behind a sign
pub natural_signed : (sign : Sign) (bytes digits : List ℕ) → bytes ≡ sign_bytes sign ++ digits → (sign ≡ Absent → ⊥) → natural bytes ≡ None
natural_signed Absent bytes digits is some = absurd (some refl)
natural_signed Plus bytes digits is some = ap natural is ∙ natural_none [] 43 digits refl
natural_signed Minus bytes digits is some = ap natural is ∙ natural_none [] 45 digits refl

-- ---- more digits at once

clamped_behind : (digits : List ℕ) (a b : ℕ) → clamped_size a ≡ clamped_size b → clamped_size (number_behind a digits) ≡ clamped_size (number_behind b digits)
clamped_behind [] a b same = same
clamped_behind (d ∷ digits) a b same = clamped_behind digits (10 * a + digit_size d) (10 * b + digit_size d) (omega (arith, same))

pub write_digits : (digits more : List ℕ) (size written : ℕ) → Write digits size → list_all is_ascii_digit more ≡ true → written ≡ clamped_size (number_behind (clamped_size size) more)
    → Write (digits ++ more) written
write_digits digits more size written is all counts =
    let w = written_number digits size (natural digits) refl is in
    let digits_all = all_digits digits w.0 w.1 in
    let whole : list_all is_ascii_digit (digits ++ more) ≡ true = list_all-append is_ascii_digit digits more ∙ rw (digits_all.all, all) refl in
    let some : nat_le 1 (length (digits ++ more)) ≡ true = let size = length-append digits more in let first = digits_all.some in grind (arith, nat_tests) in
    let value : digits_number (digits ++ more) ≡ number_behind w.0 more = fold-append (λ n digit. 10 * n + digit_size digit) 0 digits more ∙ ap (λ n. number_behind n more) digits_all.is in
    let same : clamped_size (number_behind w.0 more) ≡ clamped_size (number_behind (clamped_size size) more) = clamped_behind more w.0 (clamped_size size) (let e = w.2 in omega (arith, e)) in
    ap (option_map clamped_size) (natural_all (digits ++ more) some whole ∙ ap Some value) ∙ ap Some (same ∙ sym counts)
