-- The field that a line begins with, and its number.
use Rattle.std.proofs.Common.{◌≡◌, ◌≢◌, ◌⊎◌, ◌∙◌, refl, sym, ap, ℕ, ℤ, pos, neg_ℤ, suc, zero, ◌<◌, ◌==◌, inl, inr, Bool, true, false, ◌&&◌, ◌||◌, cond, not, nat_le, List, [], ◌∷◌, ◌++◌, length, length-append, map, take, drop, append-nil, get_or, Bor, MatchOption, Option, Some, None, arith}
use Rattle.std.proofs.Math.ListN.{drop_of_length-le}
use Rattle.std.proofs.Math.Seq.{drop-cons}
use Rattle.std.proofs.lemmas.Bool.{eqb-true, not-true}
use Rattle.std.proofs.lemmas.List.Sums.{passes_at_first}
use Rattle.std.proofs.lemmas.List.{take-append-drop, append_cancel_left}
use Rattle.std.proofs.lemmas.List.Elements.{All-head, All-tail, All-cons}
use Rattle.std.specs.Char.{is_ascii_digit}
use Rattle.std.specs.List.{All, list_all, position_from, position_or_len, before_first, after_first}
use Rattle.std.specs.Option.{option_map}
use Rattle.bounds_model.specs.Plane.{plane_limit}
use Rattle.bounds_model.specs.PointText.{is_blank, is_comment_sign, fields_of, number, bad_form, plane_meaning, space_meaning}
use Rattle.point_text.specs.Clamps.{clamped_size, clamped}
use Rattle.byte_tools.specs.LeadingDigits.{number_behind, BeginsWithNoDigit}
use Rattle.point_text.specs.Fields.{clamped_number}
use Rattle.point_text.specs.Fields.{Write}
use Rattle.point_text.specs.Lines.{numbers_of, uncommented, is_field_end, first_field, are_behind_field, IsUnsigned, HasNoNumber}
use Rattle.point_text.proofs.Bytewise.{natural_all, natural_none, no_digit, unsigned_number, plus_number, minus_number}
use Rattle.point_text.proofs.Clamping.{plane_clamped}
use Rattle.point_text.proofs.FieldCuts.{is_no_blank, fields_of-blank, fields_of-first, start_is_filled}
use Rattle.byte_tools.proofs.Clamping.{number_found}
use Rattle.byte_tools.proofs.FirstIndices.{index_found, position-cons_no, position-cons_yes, before_first-cons_no, before_first-cons_yes, after_first-cons_no, after_first-cons_yes, before_first_all, before_first_at}

-- ---- where a field ends

abbrev NoEnd : List ℕ → Type 0
NoEnd bytes = All (λ b. is_field_end b ≡ false) bytes

digit_no_end : (b : ℕ) → is_ascii_digit b ≡ true → is_field_end b ≡ false
digit_no_end b digit = rw (no_digit b 32 digit refl, no_digit b 9 digit refl, no_digit b 35 digit refl) refl

digits_no_end : (digits : List ℕ) → list_all is_ascii_digit digits ≡ true → NoEnd digits
digits_no_end [] all = λ k d below. absurd (omega (arith, below))
digits_no_end (b ∷ digits) all = by (is_ascii_digit b) refl all (digits_no_end digits)
  where
    by : (t : Bool) → is_ascii_digit b ≡ t → (t && list_all is_ascii_digit digits) ≡ true → (list_all is_ascii_digit digits ≡ true → NoEnd digits) → NoEnd (b ∷ digits)
    by true e rest more = All-cons (λ b. is_field_end b ≡ false) b digits (digit_no_end b e) (more rest)
    by false e rest more = cc

sign_no_end : (b : ℕ) (digits : List ℕ) → is_field_end b ≡ false → NoEnd digits → NoEnd (b ∷ digits)
sign_no_end b digits sign none = All-cons (λ b. is_field_end b ≡ false) b digits sign none

-- bytes that end no field, and then such as end it
ended : (xs rest : List ℕ) → NoEnd xs → are_behind_field rest ≡ true → first_field (xs ++ rest) ≡ xs
ended xs [] none ends = ap first_field (append-nil xs) ∙ before_first_all is_field_end xs none
ended xs (b ∷ rest) none ends = before_first_at is_field_end xs b rest none ends

-- and then such as do not
going_on : (xs : List ℕ) (b : ℕ) (more : List ℕ) → NoEnd xs → is_field_end b ≡ false → first_field (xs ++ b ∷ more) ≡ xs ++ b ∷ first_field more
going_on [] b more none goes = before_first-cons_no is_field_end b more goes
going_on (x ∷ xs) b more none goes =
    before_first-cons_no is_field_end x (xs ++ b ∷ more) (All-head (λ b. is_field_end b ≡ false) x xs none)
    ∙ ap (λ ys. x ∷ ys) (going_on xs b more (All-tail (λ b. is_field_end b ≡ false) x xs none) goes)

-- ---- the number of a leading field

-- the text begins with a field of this number, clamped, and the rest stands behind it
abbrev pub LeadsTo : List ℕ → ℤ → List ℕ → Type 0
LeadsTo text x rest = (clamped_number (first_field text) ≡ Some x) × (text ≡ first_field text ++ rest)

leads : (text field rest : List ℕ) (x : ℤ) → text ≡ field ++ rest → first_field (field ++ rest) ≡ field → clamped_number field ≡ Some x → LeadsTo text x rest
leads text field rest x is first number_is =
    let same : first_field text ≡ field = ap first_field is ∙ first in
    (ap clamped_number same ∙ number_is, is ∙ ap (λ f. f ++ rest) (sym same))

pub leading_some : (text : List ℕ) (negative : Bool) (unsigned digits rest : List ℕ) (size : ℕ) → IsUnsigned text negative unsigned → unsigned ≡ digits ++ rest
    → list_all is_ascii_digit digits ≡ true → nat_le 1 (length digits) ≡ true → size ≡ clamped_size (number_behind 0 digits) → are_behind_field rest ≡ true
    → LeadsTo text (cond negative (neg_ℤ (pos size)) (pos size)) rest
leading_some text negative unsigned digits rest size signed is all some counts ends = by negative signed
  where
    write : Write digits size
    write = ap (option_map clamped_size) (natural_all digits some all) ∙ ap Some (sym counts)

    none : NoEnd digits
    none = digits_no_end digits all

    by : (n : Bool) → IsUnsigned text n unsigned → LeadsTo text (cond n (neg_ℤ (pos size)) (pos size)) rest
    by true behind = leads text (45 ∷ digits) rest _ (behind ∙ ap (λ ys. 45 ∷ ys) is) (ended (45 ∷ digits) rest (sign_no_end 45 digits refl none) ends) (minus_number digits size write)
    by false (inl behind) = leads text (43 ∷ digits) rest _ (behind ∙ ap (λ ys. 43 ∷ ys) is) (ended (43 ∷ digits) rest (sign_no_end 43 digits refl none) ends) (plus_number digits size write)
    by false (inr (same, plain)) = leads text digits rest _ (same ∙ is) (ended digits rest none ends) (unsigned_number digits size write)

no_number : (text field : List ℕ) → first_field text ≡ field → number field ≡ None → number (first_field text) ≡ None
no_number text field first none = ap number first ∙ none

-- digits, and then a byte that is none and does not end the field
broken : (text : List ℕ) (negative : Bool) (unsigned digits : List ℕ) (b : ℕ) (more : List ℕ) → IsUnsigned text negative unsigned → unsigned ≡ digits ++ b ∷ more
    → NoEnd digits → is_ascii_digit b ≡ false → is_field_end b ≡ false → number (first_field text) ≡ None
broken text true unsigned digits b more behind is none other goes =
    no_number text (45 ∷ digits ++ b ∷ first_field more) (ap first_field (behind ∙ ap (λ ys. 45 ∷ ys) is) ∙ going_on (45 ∷ digits) b more (sign_no_end 45 digits refl none) goes)
    (ap (option_map (λ n. neg_ℤ (pos n))) (natural_none digits b (first_field more) other))
broken text false unsigned digits b more (inl behind) is none other goes =
    no_number text (43 ∷ digits ++ b ∷ first_field more) (ap first_field (behind ∙ ap (λ ys. 43 ∷ ys) is) ∙ going_on (43 ∷ digits) b more (sign_no_end 43 digits refl none) goes)
    (ap (option_map pos) (natural_none digits b (first_field more) other))
broken text false unsigned [] b more (inr (same, plain)) is none other goes =
    let sign = rw is at plain in
    no_number text (b ∷ first_field more) (ap first_field (same ∙ is) ∙ going_on [] b more none goes) (rw (sign.0, sign.1) (ap (option_map pos) (natural_none [] b (first_field more) other)))
broken text false unsigned (d ∷ digits) b more (inr (same, plain)) is none other goes =
    let sign = rw is at plain in
    no_number text (d ∷ digits ++ b ∷ first_field more) (ap first_field (same ∙ is) ∙ going_on (d ∷ digits) b more none goes)
    (rw (sign.0, sign.1) (ap (option_map pos) (natural_none (d ∷ digits) b (first_field more) other)))

-- a sign alone, or nothing
bare : (text : List ℕ) (negative : Bool) (rest : List ℕ) → IsUnsigned text negative rest → are_behind_field rest ≡ true → number (first_field text) ≡ None
bare text true rest behind ends = no_number text (45 ∷ []) (ap first_field behind ∙ ended (45 ∷ []) rest (sign_no_end 45 [] refl (digits_no_end [] refl)) ends) refl
bare text false rest (inl behind) ends = no_number text (43 ∷ []) (ap first_field behind ∙ ended (43 ∷ []) rest (sign_no_end 43 [] refl (digits_no_end [] refl)) ends) refl
bare text false rest (inr (same, plain)) ends = no_number text [] (ap first_field same ∙ ended [] rest (digits_no_end [] refl) ends) refl

pub leading_none : (text : List ℕ) (negative : Bool) (unsigned digits rest : List ℕ) → IsUnsigned text negative unsigned → unsigned ≡ digits ++ rest → list_all is_ascii_digit digits ≡ true
    → BeginsWithNoDigit rest → (length rest ≡ length unsigned) ⊎ (are_behind_field rest ≡ false) → number (first_field text) ≡ None
leading_none text negative unsigned digits [] signed is all ends (inr goes) = cc
leading_none text negative unsigned digits (b ∷ more) signed is all ends (inr goes) = broken text negative unsigned digits b more signed is (digits_no_end digits all) ends goes
leading_none text negative unsigned (d ∷ digits) rest signed is all ends (inl same) =
    let size = ap length is in let more = length-append digits rest in absurd (omega (arith, size, more, same))
leading_none text negative unsigned [] rest signed is all ends (inl same) = by rest is ends (are_behind_field rest) refl
  where
    by : (behind : List ℕ) → unsigned ≡ behind → BeginsWithNoDigit behind → (t : Bool) → are_behind_field behind ≡ t → number (first_field text) ≡ None
    by behind whole none true e = bare text negative behind (rw whole at signed) e
    by [] whole none false e = cc
    by (b ∷ more) whole none false e = broken text negative unsigned [] b more signed whole (digits_no_end [] refl) none e

-- ---- fields before a comment

blank_no_comment : (b : ℕ) → is_blank b ≡ true → is_comment_sign b ≡ false
blank_no_comment b blank = by (b == 32) refl blank
  where
    by : (t : Bool) → (b == 32) ≡ t → (t || (b == 9)) ≡ true → is_comment_sign b ≡ false
    by true e is = ap is_comment_sign (eqb-true b 32 e)
    by false e is = ap is_comment_sign (eqb-true b 9 is)

-- blanks before the first field are skipped
pub uncommented-start : (xs : List ℕ) → fields_of (uncommented (drop (position_or_len is_no_blank xs) xs)) ≡ fields_of (uncommented xs)
uncommented-start [] = refl
uncommented-start (b ∷ rest) = by (is_blank b) refl (uncommented-start rest)
  where
    by : (t : Bool) → is_blank b ≡ t → fields_of (uncommented (drop (position_or_len is_no_blank rest) rest)) ≡ fields_of (uncommented rest) → fields_of (uncommented (drop (position_or_len is_no_blank (b ∷ rest)) (b ∷ rest))) ≡ fields_of (uncommented (b ∷ rest))
    by true blank more =
        ap (λ n. fields_of (uncommented (drop n (b ∷ rest)))) (position-cons_no is_no_blank b rest (ap not blank))
        ∙ (more
        ∙ (sym (fields_of-blank b (uncommented rest) blank) ∙ ap fields_of (sym (before_first-cons_no is_comment_sign b rest (blank_no_comment b blank)))))
    by false other more = ap (λ n. fields_of (uncommented (drop n (b ∷ rest)))) (position-cons_yes is_no_blank b rest (ap not other))

pub uncommented-none : (xs : List ℕ) → position_or_len is_no_blank xs ≡ length xs → fields_of (uncommented xs) ≡ []
uncommented-none xs missing =
    let nothing : drop (position_or_len is_no_blank xs) xs ≡ [] = drop_of_length-le xs {i = position_or_len is_no_blank xs} (omega arith) in
    sym (uncommented-start xs) ∙ ap (λ ys. fields_of (uncommented ys)) nothing

field_end : (b : ℕ) (blank comment : Bool) → is_blank b ≡ blank → is_comment_sign b ≡ comment → is_field_end b ≡ (blank || comment)
field_end b blank comment is_b is_c = ap (λ t. t || is_comment_sign b) is_b ∙ ap (λ t. blank || t) is_c

-- the bytes before the first blank and the first comment sign
pub first_of_uncommented : (xs : List ℕ) → before_first is_blank (uncommented xs) ≡ first_field xs
first_of_uncommented [] = refl
first_of_uncommented (b ∷ xs) = by (is_blank b) (is_comment_sign b) refl refl (first_of_uncommented xs)
  where
    by : (blank comment : Bool) → is_blank b ≡ blank → is_comment_sign b ≡ comment → before_first is_blank (uncommented xs) ≡ first_field xs
        → before_first is_blank (uncommented (b ∷ xs)) ≡ first_field (b ∷ xs)
    by true comment is_b is_c more =
        ap (before_first is_blank) (before_first-cons_no is_comment_sign b xs (blank_no_comment b is_b))
        ∙ (before_first-cons_yes is_blank b (uncommented xs) is_b ∙ sym (before_first-cons_yes is_field_end b xs (field_end b true comment is_b is_c)))
    by false true is_b is_c more =
        ap (before_first is_blank) (before_first-cons_yes is_comment_sign b xs is_c) ∙ sym (before_first-cons_yes is_field_end b xs (field_end b false true is_b is_c))
    by false false is_b is_c more =
        ap (before_first is_blank) (before_first-cons_no is_comment_sign b xs is_c)
        ∙ (before_first-cons_no is_blank b (uncommented xs) is_b
        ∙ (ap (λ ys. b ∷ ys) more ∙ sym (before_first-cons_no is_field_end b xs (field_end b false false is_b is_c))))

-- the fields behind the first one
behind_first : (xs : List ℕ) → fields_of (after_first is_blank (uncommented xs)) ≡ fields_of (uncommented (drop (position_or_len is_field_end xs) xs))
behind_first [] = refl
behind_first (b ∷ xs) = by (is_blank b) (is_comment_sign b) refl refl (behind_first xs)
  where
    Behind : Type 0
    Behind = fields_of (after_first is_blank (uncommented (b ∷ xs))) ≡ fields_of (uncommented (drop (position_or_len is_field_end (b ∷ xs)) (b ∷ xs)))

    here : is_field_end b ≡ true → fields_of (uncommented (drop (position_or_len is_field_end (b ∷ xs)) (b ∷ xs))) ≡ fields_of (uncommented (b ∷ xs))
    here ends = ap (λ n. fields_of (uncommented (drop n (b ∷ xs)))) (position-cons_yes is_field_end b xs ends)

    by : (blank comment : Bool) → is_blank b ≡ blank → is_comment_sign b ≡ comment
        → fields_of (after_first is_blank (uncommented xs)) ≡ fields_of (uncommented (drop (position_or_len is_field_end xs) xs)) → Behind
    by true comment is_b is_c more =
        let u : uncommented (b ∷ xs) ≡ b ∷ uncommented xs = before_first-cons_no is_comment_sign b xs (blank_no_comment b is_b) in
        ap (λ ys. fields_of (after_first is_blank ys)) u
        ∙ (ap fields_of (after_first-cons_yes is_blank b (uncommented xs) is_b)
        ∙ (sym (fields_of-blank b (uncommented xs) is_b) ∙ (ap fields_of (sym u) ∙ sym (here (field_end b true comment is_b is_c)))))
    by false true is_b is_c more =
        let u : uncommented (b ∷ xs) ≡ [] = before_first-cons_yes is_comment_sign b xs is_c in
        ap (λ ys. fields_of (after_first is_blank ys)) u ∙ (ap fields_of (sym u) ∙ sym (here (field_end b false true is_b is_c)))
    by false false is_b is_c more =
        ap (λ ys. fields_of (after_first is_blank ys)) (before_first-cons_no is_comment_sign b xs is_c)
        ∙ (ap fields_of (after_first-cons_no is_blank b (uncommented xs) is_b)
        ∙ (more ∙ ap (λ n. fields_of (uncommented (drop n (b ∷ xs)))) (sym (position-cons_no is_field_end b xs (field_end b false false is_b is_c)))))

rest_is : (xs rest : List ℕ) → xs ≡ first_field xs ++ rest → rest ≡ drop (position_or_len is_field_end xs) xs
rest_is xs rest is = append_cancel_left (first_field xs) rest (drop (position_or_len is_field_end xs) xs) (sym is ∙ sym (take-append-drop (position_or_len is_field_end xs) xs))

-- a line that does not begin with a blank
fields_parted : (xs : List ℕ) → 0 < position_or_len is_blank (uncommented xs) → fields_of (uncommented xs) ≡ first_field xs ∷ fields_of (after_first is_blank (uncommented xs))
fields_parted xs some = fields_of-first (uncommented xs) some ∙ ap (λ f. f ∷ fields_of (after_first is_blank (uncommented xs))) (first_of_uncommented xs)

pub numbers_some : (xs rest : List ℕ) (x : ℤ) → LeadsTo xs x rest → (z : ℤ) × (x ≡ clamped z) × (numbers_of (uncommented xs) ≡ Some z ∷ numbers_of (uncommented rest))
numbers_some xs rest x (is, parts) =
    let read = number_found plane_limit (number (first_field xs)) x (sym is) in
    let behind : fields_of (after_first is_blank (uncommented xs)) ≡ fields_of (uncommented rest) = behind_first xs ∙ ap (λ ys. fields_of (uncommented ys)) (sym (rest_is xs rest parts)) in
    let fields : fields_of (uncommented xs) ≡ first_field xs ∷ fields_of (uncommented rest) = fields_parted xs (some (position_or_len is_blank (uncommented xs)) refl) ∙ ap (λ fs. first_field xs ∷ fs) behind in
    (read.0, read.1, ap (map number) fields ∙ ap (λ a. a ∷ numbers_of (uncommented rest)) read.2)
  where
    some : (n : ℕ) → position_or_len is_blank (uncommented xs) ≡ n → 0 < position_or_len is_blank (uncommented xs)
    some zero e =
        let empty : first_field xs ≡ [] = sym (first_of_uncommented xs) ∙ ap (λ n. take n (uncommented xs)) e in
        let wrong : None ≡ Some x = sym (ap clamped_number empty) ∙ is in
        cc
    some (suc n) e = omega (arith, e)

-- a line that begins neither with a blank nor with a comment
past_start : (b : ℕ) (xs : List ℕ) → is_blank b ≡ false → is_comment_sign b ≡ false → 0 < position_or_len is_blank (uncommented (b ∷ xs))
past_start b xs is_b is_c =
    let u : uncommented (b ∷ xs) ≡ b ∷ uncommented xs = before_first-cons_no is_comment_sign b xs is_c in
    let past : position_or_len is_blank (uncommented (b ∷ xs)) ≡ suc (position_or_len is_blank (uncommented xs)) = ap (position_or_len is_blank) u ∙ position-cons_no is_blank b (uncommented xs) is_b in
    omega (arith, past)

pub numbers_none : (xs : List ℕ) → 0 < position_or_len is_blank xs → number (first_field xs) ≡ None → HasNoNumber (numbers_of (uncommented xs))
numbers_none [] some none = tt
numbers_none (b ∷ xs) some none = by (is_blank b) (is_comment_sign b) refl refl
  where
    by : (blank comment : Bool) → is_blank b ≡ blank → is_comment_sign b ≡ comment → HasNoNumber (numbers_of (uncommented (b ∷ xs)))
    by true comment is_b is_c = let wrong = position-cons_yes is_blank b xs is_b in absurd (omega (arith, some, wrong))
    by false true is_b is_c = rw (before_first-cons_yes is_comment_sign b xs is_c) tt
    by false false is_b is_c = rw (fields_parted (b ∷ xs) (past_start b xs is_b is_c), none) tt

-- ---- the first byte that is no blank

pub no_field : (xs : List ℕ) (i : ℕ) → Some i ≡ position_from is_no_blank 0 xs → i < length xs → (get_or xs i 0 == 35) ≡ true → fields_of (uncommented xs) ≡ []
no_field xs i is within sign =
    let index : i ≡ position_or_len is_no_blank xs = index_found is_no_blank xs i is in
    sym (uncommented-start xs)
    ∙ (ap (λ n. fields_of (uncommented (drop n xs))) (sym index)
    ∙ (ap (λ ys. fields_of (uncommented ys)) (drop-cons xs i 0 within) ∙ ap fields_of (before_first-cons_yes is_comment_sign (get_or xs i 0) (drop (suc i) xs) sign)))

pub some_field : (xs : List ℕ) (i : ℕ) → Some i ≡ position_from is_no_blank 0 xs → i < length xs → (get_or xs i 0 == 35) ≡ false → fields_of (uncommented xs) ≢ []
some_field xs i is within other nothing =
    let index : i ≡ position_or_len is_no_blank xs = index_found is_no_blank xs i is in
    let below : position_or_len is_no_blank xs < length xs = omega (arith, index, within) in
    let filled : is_blank (get_or xs i 0) ≡ false = not-true (is_blank (get_or xs i 0)) (ap (λ n. is_no_blank (get_or xs n 0)) index ∙ passes_at_first is_no_blank xs 0 below) in
    let start : drop i xs ≡ get_or xs i 0 ∷ drop (suc i) xs = drop-cons xs i 0 within in
    let some = fields_parted (get_or xs i 0 ∷ drop (suc i) xs) (past_start (get_or xs i 0) (drop (suc i) xs) filled other) in
    let wrong : fields_of (uncommented (get_or xs i 0 ∷ drop (suc i) xs)) ≡ [] =
    ap (λ ys. fields_of (uncommented ys)) (sym start) ∙ (ap (λ n. fields_of (uncommented (drop n xs))) index ∙ (uncommented-start xs ∙ nothing)) in
    cc

-- ---- the next number of a line

pub next_number_read : (line text : List ℕ) (start : ℕ) (read : Option (ℤ × Bor (List ℕ))) → Some start ≡ position_from is_no_blank 0 line → start < length line → text ≡ drop start line
    → MatchOption read (number (first_field text) ≡ None) (λ parts. LeadsTo text parts.0 parts.1.now)
    → MatchOption read (HasNoNumber (numbers_of (uncommented line))) (λ parts. (z : ℤ) × (parts.0 ≡ clamped z) × (numbers_of (uncommented line) ≡ Some z ∷ numbers_of (uncommented parts.1.now)))
next_number_read line text start read is within cut leads = by read leads
  where
    index : start ≡ position_or_len is_no_blank line
    index = index_found is_no_blank line start is

    same : numbers_of (uncommented text) ≡ numbers_of (uncommented line)
    same = ap (map number) (ap (λ ys. fields_of (uncommented ys)) cut ∙ (ap (λ n. fields_of (uncommented (drop n line))) index ∙ uncommented-start line))

    filled : 0 < position_or_len is_blank text
    filled = rw (cut, index) (start_is_filled line (omega (arith, index, within)))

    by : (r : Option (ℤ × Bor (List ℕ))) → MatchOption r (number (first_field text) ≡ None) (λ parts. LeadsTo text parts.0 parts.1.now)
        → MatchOption r (HasNoNumber (numbers_of (uncommented line))) (λ parts. (z : ℤ) × (parts.0 ≡ clamped z) × (numbers_of (uncommented line) ≡ Some z ∷ numbers_of (uncommented parts.1.now)))
    by None none = rw same at (numbers_none text filled none)
    by (Some (x, rest)) leads = let some = numbers_some text rest.now x leads in (some.0, some.1, sym same ∙ some.2)

-- ---- points

pub plane_more : (all behind : List (Option ℤ)) (fields : List (List ℕ)) (z w : ℤ) → all ≡ Some z ∷ behind → behind ≡ Some w ∷ map number fields → fields ≢ [] → bad_form ≡ plane_meaning all
plane_more all behind [] z w first second some = absurd (some refl)
plane_more all behind (f ∷ fields) z w first second some = rw (first, second) refl

pub plane_done : (all behind : List (Option ℤ)) (fields : List (List ℕ)) (x y z w : ℤ) → x ≡ clamped z → all ≡ Some z ∷ behind → y ≡ clamped w → behind ≡ Some w ∷ map number fields → fields ≡ []
    → plane_meaning (Some x ∷ Some y ∷ []) ≡ plane_meaning all
plane_done all behind fields x y z w is_x first is_y second none = rw (first, second, none, is_x, is_y) (plane_clamped z w)

pub space_more : (all behind further : List (Option ℤ)) (fields : List (List ℕ)) (u v w : ℤ) → all ≡ Some u ∷ behind → behind ≡ Some v ∷ further → further ≡ Some w ∷ map number fields → fields ≢ []
    → bad_form ≡ space_meaning all
space_more all behind further [] u v w first second third some = absurd (some refl)
space_more all behind further (f ∷ fields) u v w first second third some = rw (first, second, third) refl
