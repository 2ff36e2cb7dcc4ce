-- Whole numbers and fractions: what was written is read again, and what was read was written so.
use Rattle.std.proofs.Common.{◌≡◌, ℕ, zero, suc, ◌+◌, ◌^◌, ◌<◌, ◌≤◌, ℤ, pos, negsuc, nat_abs, Bool, true, false, not, ◌&&◌, cond, List, [], ◌∷◌, ◌++◌, length, take, drop, refl, sym, ap, subst, ◌∙◌, append_assoc, arith, inl, inr}
use Rattle.std.specs.Prelude.{Option, Some, decimal, ◌==◌, nat_lt}
use Rattle.std.specs.Fmt.{signed_decimal}
use Rattle.std.specs.List.{list_all, position_or_len, before_first, after_first}
use Rattle.std.proofs.lemmas.List.{take_at, drop_at, length-drop, nil_from_length}
use Rattle.std.proofs.lemmas.List.Sums.{split_at_first, passes_at_first}
use Rattle.std.proofs.lemmas.List.Folds.{list_all-append}
use Rattle.std.proofs.lemmas.Bool.{eqb-true, cases_lt}
use Rattle.std.proofs.lemmas.Bool.Decides.{nat_tests}
use Rattle.bounds_model.specs.Fractions.{Fraction}
use Rattle.bounds_model.specs.AnswerText.Numerals.{◌>>=◌, is_numeral, natural_number, below_zero, whole_number, fraction_of, fraction_number}
use Rattle.bounds_model.specs.AnswerText.Written.{fraction_text}
use Rattle.text_laws.proofs.AnswerTexts.NumberLaws.{bind_some, some_is, both_true, is_word, is_numeral-decimal, numeral_begins, no_slash-decimal, natural_again, natural_back, is_word-decimal}

-- ---- whole numbers

-- digits are a whole number
digits_are_whole : (word : List ℕ) → is_numeral word ≡ true → whole_number word ≡ (natural_number word >>= λ n. Some (pos n))
digits_are_whole [] e = absurd cc
digits_are_whole (b ∷ rest) e =
    let above = numeral_begins b rest e in
    let first : (b == 45) ≡ false = grind (arith, nat_tests) in
    ap (λ t. cond t (natural_number rest >>= below_zero) (natural_number (b ∷ rest) >>= λ n. Some (pos n))) first

-- a whole number that was written is read again
pub whole_again : (z : ℤ) → nat_abs z < 10 ^ 64 → whole_number (signed_decimal z) ≡ Some z
whole_again (pos n) small = digits_are_whole (decimal n) (is_numeral-decimal n small) ∙ ap (λ r. r >>= λ k. Some (pos k)) (natural_again n small)
whole_again (negsuc n) small = ap (λ r. r >>= below_zero) (natural_again (suc n) small)

-- a minus sign and digits that were read
negative_back : (rest : List ℕ) (n : ℕ) (z : ℤ) → natural_number rest ≡ Some n → below_zero n ≡ Some z → nat_abs z < 10 ^ 64 → 45 ∷ rest ≡ signed_decimal z
negative_back rest zero z read e small = absurd cc
negative_back rest (suc n) z read e small =
    let is : negsuc n ≡ z = some_is (negsuc n) z e in
    let below : suc n < 10 ^ 64 = subst (λ (y : ℤ). nat_abs y < 10 ^ 64) (sym is) small in
    ap (λ (ds : List ℕ). 45 ∷ ds) (natural_back rest (suc n) read below) ∙ ap signed_decimal is

-- digits that were read
positive_back : (word : List ℕ) (n : ℕ) (z : ℤ) → natural_number word ≡ Some n → (λ (k : ℕ). Some (pos k)) n ≡ Some z → nat_abs z < 10 ^ 64 → word ≡ signed_decimal z
positive_back word n z read e small =
    let is : pos n ≡ z = some_is (pos n) z e in
    let below : n < 10 ^ 64 = subst (λ (y : ℤ). nat_abs y < 10 ^ 64) (sym is) small in
    natural_back word n read below ∙ ap signed_decimal is

-- with a minus sign and without
whole_cases : (t : Bool) (b : ℕ) (rest : List ℕ) (z : ℤ) → (b == 45) ≡ t → cond t (natural_number rest >>= below_zero) (natural_number (b ∷ rest) >>= λ n. Some (pos n)) ≡ Some z
    → nat_abs z < 10 ^ 64 → b ∷ rest ≡ signed_decimal z
whole_cases true b rest z test e small =
    let r = bind_some (natural_number rest) below_zero z e in
    ap (λ (c : ℕ). c ∷ rest) (eqb-true b 45 test) ∙ negative_back rest r.0 z r.1 r.2 small
whole_cases false b rest z test e small =
    let r = bind_some (natural_number (b ∷ rest)) (λ n. Some (pos n)) z e in
    positive_back (b ∷ rest) r.0 z r.1 r.2 small

-- a whole number that was read was written so
pub whole_back : (word : List ℕ) (z : ℤ) → whole_number word ≡ Some z → nat_abs z < 10 ^ 64 → word ≡ signed_decimal z
whole_back [] z e small = absurd cc
whole_back (b ∷ rest) z e small = whole_cases (b == 45) b rest z refl e small

-- a whole number is written as a word
pub is_word-signed : (z : ℤ) → nat_abs z < 10 ^ 64 → is_word (signed_decimal z) ≡ true
is_word-signed (pos n) small = is_word-decimal n small
is_word-signed (negsuc n) small = is_word-decimal (suc n) small

-- ---- fractions

-- the byte is a slash
abbrev is_slash : ℕ → Bool
is_slash b = b == 47

-- a whole number is written without a slash
no_slash-signed : (z : ℤ) → nat_abs z < 10 ^ 64 → list_all (λ b. not (b == 47)) (signed_decimal z) ≡ true
no_slash-signed (pos n) small = no_slash-decimal n small
no_slash-signed (negsuc n) small = no_slash-decimal (suc n) small

-- the first slash stands behind bytes that are none
slash_index : (front : List ℕ) (back : List ℕ) → list_all (λ b. not (b == 47)) front ≡ true → position_or_len is_slash (front ++ 47 ∷ back) ≡ length front
slash_index [] back e = refl
slash_index (c ∷ front) back e =
    let parts = both_true (not (c == 47)) (list_all (λ b. not (b == 47)) front) e in
    let more : 1 + position_or_len is_slash (front ++ 47 ∷ back) ≡ suc (length front) = omega (arith, slash_index front back parts.1) in
    ap (λ (t : Bool). cond t (1 + position_or_len is_slash (front ++ 47 ∷ back)) 0) parts.0 ∙ more

-- what stands before the first slash
before_slash : (front back : List ℕ) → list_all (λ b. not (b == 47)) front ≡ true → before_first is_slash (front ++ 47 ∷ back) ≡ front
before_slash front back e = ap (λ k. take k (front ++ 47 ∷ back)) (slash_index front back e) ∙ take_at front (47 ∷ back) (length front) refl

-- one byte more is left out
drop_next : (k : ℕ) (xs : List ℕ) (x : ℕ) (ys : List ℕ) → drop k xs ≡ x ∷ ys → drop (suc k) xs ≡ ys
drop_next zero [] x ys e = absurd cc
drop_next zero (y ∷ xs) x ys e = ap (drop 1) e
drop_next (suc k) [] x ys e = absurd cc
drop_next (suc k) (y ∷ xs) x ys e = drop_next k xs x ys e

-- what stands behind the first slash
after_slash : (front back : List ℕ) → list_all (λ b. not (b == 47)) front ≡ true → after_first is_slash (front ++ 47 ∷ back) ≡ back
after_slash front back e =
    let index : position_or_len is_slash (front ++ 47 ∷ back) + 1 ≡ suc (length front) = omega (arith, slash_index front back e) in
    ap (λ k. drop k (front ++ 47 ∷ back)) index ∙ drop_next (length front) (front ++ 47 ∷ back) 47 back (drop_at front (47 ∷ back) (length front) refl)

-- a fraction is two numbers around a slash
fraction_text_is : (a : Fraction) → fraction_text a ≡ signed_decimal a.n ++ 47 ∷ signed_decimal a.d
fraction_text_is a = append_assoc (signed_decimal a.n) (47 ∷ []) (signed_decimal a.d)

-- the parts of a fraction are read again
fraction_of_parts : (a : Fraction) → nat_abs a.n < 10 ^ 64 → nat_abs a.d < 10 ^ 64 → fraction_of (signed_decimal a.n) (signed_decimal a.d) ≡ Some a
fraction_of_parts a n-small d-small =
    ap (λ (r : Option ℤ). r >>= λ n. whole_number (signed_decimal a.d) >>= λ d. Some (record { n = n; d = d })) (whole_again a.n n-small)
    ∙ ap (λ (r : Option ℤ). r >>= λ d. Some (record { n = a.n; d = d })) (whole_again a.d d-small)

-- a fraction that was written is read again
pub fraction_again : (a : Fraction) → nat_abs a.n < 10 ^ 64 → nat_abs a.d < 10 ^ 64 → fraction_number (fraction_text a) ≡ Some a
fraction_again a n-small d-small =
    let front = before_slash (signed_decimal a.n) (signed_decimal a.d) (no_slash-signed a.n n-small) in
    let back = after_slash (signed_decimal a.n) (signed_decimal a.d) (no_slash-signed a.n n-small) in
    ap fraction_number (fraction_text_is a) ∙ ap (λ (f : List ℕ). fraction_of f (after_first is_slash (signed_decimal a.n ++ 47 ∷ signed_decimal a.d))) front ∙ ap (λ (b : List ℕ). fraction_of (signed_decimal a.n) b) back ∙ fraction_of_parts a n-small d-small

-- a word with something behind a slash
slash_splits : (word : List ℕ) (z : ℤ) → whole_number (after_first is_slash word) ≡ Some z → word ≡ before_first is_slash word ++ 47 ∷ after_first is_slash word
slash_splits word z e = elim (cases_lt (position_or_len is_slash word) (length word)) [
  | inl lt ↦ split_at_first is_slash word 0 lt ∙ ap (λ (c : ℕ). before_first is_slash word ++ c ∷ after_first is_slash word) (eqb-true _ 47 (passes_at_first is_slash word 0 lt))
  | inr le ↦ absurd (nothing_read z (ap whole_number (sym (drop_past (position_or_len is_slash word + 1) word (omega arith))) ∙ e))
]
  where
    nothing_read : (y : ℤ) → whole_number [] ≡ Some y → ⊥
    nothing_read y f = absurd cc

    drop_past : (k : ℕ) (xs : List ℕ) → length xs ≤ k → drop k xs ≡ []
    drop_past k xs le = nil_from_length (drop k xs) (omega (arith, length-drop k xs))

-- a fraction that was read was written so
pub fraction_back : (word : List ℕ) (a : Fraction) → fraction_number word ≡ Some a → nat_abs a.n < 10 ^ 64 → nat_abs a.d < 10 ^ 64 → word ≡ fraction_text a
fraction_back word a e n-small d-small =
    parts_back (before_first is_slash word) (after_first is_slash word) a e n-small d-small word (λ z read. slash_splits word z read)
  where
    parts_back : (front back : List ℕ) (f : Fraction) → fraction_of front back ≡ Some f → nat_abs f.n < 10 ^ 64 → nat_abs f.d < 10 ^ 64
        → (w : List ℕ) → ((z : ℤ) → whole_number back ≡ Some z → w ≡ front ++ 47 ∷ back) → w ≡ fraction_text f
    parts_back front back f read n-small d-small w splits =
        let r = bind_some (whole_number front) (λ n. whole_number back >>= λ d. Some (record { n = n; d = d })) f read in
        let q = bind_some (whole_number back) (λ d. Some (record { n = r.0; d = d })) f r.2 in
        let is : record { n = r.0; d = q.0 } ≡ f = some_is (record { n = r.0; d = q.0 }) f q.2 in
        let front-is : front ≡ signed_decimal f.n = whole_back front f.n (r.1 ∙ ap (λ (g : Fraction). Some g.n) is) n-small in
        let back-is : back ≡ signed_decimal f.d = whole_back back f.d (q.1 ∙ ap (λ (g : Fraction). Some g.d) is) d-small in
        splits q.0 q.1 ∙ ap (λ (x : List ℕ). x ++ 47 ∷ back) front-is ∙ ap (λ (x : List ℕ). signed_decimal f.n ++ 47 ∷ x) back-is ∙ sym (fraction_text_is f)

-- a fraction is written as a word
pub is_word-fraction : (a : Fraction) → nat_abs a.n < 10 ^ 64 → nat_abs a.d < 10 ^ 64 → is_word (fraction_text a) ≡ true
is_word-fraction a n-small d-small =
    let whole = list_all-append (λ b. nat_lt 32 b) (signed_decimal a.n) (47 ∷ signed_decimal a.d) in
    let n-word : list_all (λ b. nat_lt 32 b) (signed_decimal a.n) ≡ true = is_word-signed a.n n-small in
    let d-word : list_all (λ b. nat_lt 32 b) (signed_decimal a.d) ≡ true = is_word-signed a.d d-small in
    ap is_word (fraction_text_is a) ∙ whole ∙ ap (λ (t : Bool). t && list_all (λ b. nat_lt 32 b) (signed_decimal a.d)) n-word ∙ d-word
