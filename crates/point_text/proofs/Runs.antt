-- Digits that are added at once to a field, a content or a line in hand.
use Rattle.std.proofs.Common.{◌≡◌, ◌∙◌, refl, sym, ap, ℕ, ◌&&◌, Bool, true, false, List, [], ◌∷◌, ◌++◌, append_assoc, append-nil, arith}
use Rattle.std.specs.Char.{is_ascii_digit}
use Rattle.std.specs.List.{All, list_all}
use Rattle.std.specs.Str.Lines.{strip_carriage_return}
use Rattle.std.proofs.lemmas.List.Elements.{All-append, All-cons}
use Rattle.bounds_model.specs.PointText.{is_blank, is_comment_sign}
use Rattle.byte_tools.specs.LeadingDigits.{AreCut}
use Rattle.point_text.specs.InHand.{IsFieldInHand, IsContentInHand, IsLineInHand, Adds, AddsDigits}
use Rattle.point_text.specs.declared.field_in_hand.FieldInHand.{FieldInHand}
use Rattle.point_text.specs.declared.field_in_hand.FieldInHand.TheVariants.{Digits}
use Rattle.point_text.specs.declared.number.Sign.{Sign}
use Rattle.point_text.specs.Fields.{sign_bytes}
use Rattle.point_text.specs.Clamps.{clamped_size}
use Rattle.bounds_model.specs.Plane.{plane_limit}
use Rattle.point_text.specs.declared.line_in_hand.ContentInHand.{ContentInHand}
use Rattle.point_text.specs.declared.line_in_hand.LineInHand.{LineInHand}
use Rattle.point_text.specs.declared.line_in_hand.LineInHand.TheVariants.{Open}
use Rattle.point_text.proofs.Bytewise.{no_digit, write_digits}
use Rattle.point_text.proofs.Linewise.{strip_other}
use Rattle.point_text.proofs.Splits.{split_joined_all}

-- nothing is added
pub adds_none : {A : Type 0} (IsInHand : A → List ℕ → Type 0) (held : A) (text : List ℕ) → AddsDigits IsInHand held held text text
adds_none IsInHand held text = record { adds = record { added = []; text_is = refl; stands = λ bytes is. rw (append-nil bytes) is }; digits = refl }

-- ---- to a field

pub adds_digits : (sign : Sign) (size least written : ℕ) (text rest : List ℕ) → least ≡ clamped_size size → AreCut plane_limit least text written rest
    → AddsDigits IsFieldInHand (Digits sign size) (Digits sign written) text rest
adds_digits sign size least written text rest is cut = record {
  adds = record {
    added = cut.digits;
    text_is = cut.text_is;
    stands = λ bytes (digits, same, write).
        let more = write_digits digits cut.digits size written write cut.are_digits (rw is at cut.number) in
        (digits ++ cut.digits, ap (λ bs. bs ++ cut.digits) same ∙ append_assoc (sign_bytes sign) digits cut.digits, more);
  };
  digits = cut.are_digits;
}

-- ---- to a content

digits_pass : (p : ℕ → Bool) → ((b : ℕ) → is_ascii_digit b ≡ true → p b ≡ false) → (digits : List ℕ) → list_all is_ascii_digit digits ≡ true → All (λ b. p b ≡ false) digits
digits_pass p other [] all = λ k d below. absurd (omega (arith, below))
digits_pass p other (b ∷ digits) all = by (is_ascii_digit b) refl all (digits_pass p other digits)
  where
    by : (t : Bool) → is_ascii_digit b ≡ t → (t && list_all is_ascii_digit digits) ≡ true → (list_all is_ascii_digit digits ≡ true → All (λ b. p b ≡ false) digits) → All (λ b. p b ≡ false) (b ∷ digits)
    by true e rest more = All-cons (λ b. p b ≡ false) b digits (other b e) (more rest)
    by false e rest more = cc

digit_no_blank : (b : ℕ) → is_ascii_digit b ≡ true → is_blank b ≡ false
digit_no_blank b digit = rw (no_digit b 32 digit refl, no_digit b 9 digit refl) refl

pub adds_to_content : (content : ContentInHand) (field : FieldInHand) (text rest : List ℕ) → AddsDigits IsFieldInHand content.field field text rest
    → AddsDigits IsContentInHand content (record { fields = content.fields; field = field }) text rest
adds_to_content content field text rest more = record {
  adds = record {
    added = more.adds.added;
    text_is = more.adds.text_is;
    stands = λ bytes (whole, last, parts, fields, in_hand).
        (whole, last ++ more.adds.added, split_joined_all is_blank more.adds.added bytes whole last parts (digits_pass is_blank digit_no_blank more.adds.added more.digits), fields, more.adds.stands last in_hand);
  };
  digits = more.digits;
}

-- ---- to a line

strip_digits : (digits xs : List ℕ) → list_all is_ascii_digit digits ≡ true → strip_carriage_return xs ≡ xs → strip_carriage_return (xs ++ digits) ≡ xs ++ digits
strip_digits [] xs all stays = rw (append-nil xs) stays
strip_digits (d ∷ digits) xs all stays = by (is_ascii_digit d) refl all (strip_digits digits (xs ++ d ∷ []))
  where
    by : (t : Bool) → is_ascii_digit d ≡ t → (t && list_all is_ascii_digit digits) ≡ true
        → (list_all is_ascii_digit digits ≡ true → strip_carriage_return (xs ++ d ∷ []) ≡ xs ++ d ∷ [] → strip_carriage_return ((xs ++ d ∷ []) ++ digits) ≡ (xs ++ d ∷ []) ++ digits)
        → strip_carriage_return (xs ++ d ∷ digits) ≡ xs ++ d ∷ digits
    by true e rest more = rw (append_assoc xs (d ∷ []) digits) at (more rest (strip_other xs d (no_digit d 13 e refl)))
    by false e rest more = cc

digit_no_comment : (b : ℕ) → is_ascii_digit b ≡ true → is_comment_sign b ≡ false
digit_no_comment b digit = no_digit b 35 digit refl

pub adds_to_line : (content next : ContentInHand) (text rest : List ℕ) → AddsDigits IsContentInHand content next text rest → AddsDigits IsLineInHand (Open content) (Open next) text rest
adds_to_line content next text rest more = record {
  adds = record {
    added = more.adds.added;
    text_is = more.adds.text_is;
    stands = λ bytes (none, stays, in_hand).
        (All-append (λ b. is_comment_sign b ≡ false) bytes more.adds.added none (digits_pass is_comment_sign digit_no_comment more.adds.added more.digits), strip_digits more.adds.added bytes more.digits stays, more.adds.stands bytes in_hand);
  };
  digits = more.digits;
}

-- one more byte, and the digits behind it
pub adds_more : (old now stepped next : LineInHand) (part rest behind after : List ℕ) (b : ℕ) → Adds IsLineInHand old now part rest → rest ≡ b ∷ behind
    → ((bytes : List ℕ) → IsLineInHand now bytes → IsLineInHand stepped (bytes ++ b ∷ [])) → AddsDigits IsLineInHand stepped next behind after → Adds IsLineInHand old next part after
adds_more old now stepped next part rest behind after b so_far is step more = record {
  added = so_far.added ++ b ∷ more.adds.added;
  text_is = so_far.text_is ∙ (ap (λ ys. so_far.added ++ ys) (is ∙ ap (λ ys. b ∷ ys) more.adds.text_is) ∙ sym (append_assoc so_far.added (b ∷ more.adds.added) after));
  stands = λ bytes in_hand.
      let next = more.adds.stands ((bytes ++ so_far.added) ++ b ∷ []) (step (bytes ++ so_far.added) (so_far.stands bytes in_hand)) in
      let same = append_assoc (bytes ++ so_far.added) (b ∷ []) more.adds.added ∙ append_assoc bytes so_far.added (b ∷ more.adds.added) in
      rw same at next;
}
