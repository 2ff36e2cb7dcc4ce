-- What the bytes so far of a field and of a line come to.
use Rattle.std.specs.Prelude.{◌≡◌, ◌≤◌, ◌==◌, ◌&&◌, ℕ, Bool, false, true, List, [], ◌∷◌, ◌++◌, codes, nat_le, nat_lt, length, filter, take, slice_index_or}
use Rattle.std.specs.List.{All, list_all, slice_split}
use Rattle.std.specs.Char.{is_ascii_digit}
use Rattle.std.specs.Str.Lines.{strip_carriage_return}
use Rattle.bounds_model.specs.PointText.{is_blank, is_comment_sign}
use Rattle.point_text.specs.declared.field_in_hand.FieldInHand.{FieldInHand}
use Rattle.point_text.specs.declared.field_in_hand.FieldInHand.TheVariants.{Empty, Plus, Digits, Word, Other}
use Rattle.point_text.specs.declared.line_in_hand.ContentInHand.{ContentInHand}
use Rattle.point_text.specs.declared.line_in_hand.LineInHand.{LineInHand}
use Rattle.point_text.specs.declared.line_in_hand.LineInHand.TheVariants.{Open, Returned, Commented}
use Rattle.point_text.specs.declared.fields.Keyword.{Keyword}
use Rattle.point_text.specs.Fields.{AreFields, IsUnknown, Write, sign_bytes, letters}

-- whatever bytes follow these, the field is neither a number nor a word
abbrev pub IsOther : List ℕ → Type 0
IsOther bytes = (more : List ℕ) → IsUnknown (bytes ++ more)

-- the byte follows so many first ones of the word
abbrev pub is_next_letter : Keyword → ℕ → ℕ → Bool
is_next_letter word seen byte = nat_lt seen (length (letters word)) && (slice_index_or (letters word) seen 0 == byte)

-- the bytes so far of a field
abbrev pub IsFieldInHand : FieldInHand → List ℕ → Type 0
IsFieldInHand Empty bytes = bytes ≡ []
IsFieldInHand Plus bytes = bytes ≡ codes "+"
IsFieldInHand (Digits sign size) bytes = (digits : List ℕ) × (bytes ≡ sign_bytes sign ++ digits) × Write digits size
IsFieldInHand (Word word seen) bytes = (bytes ≡ take seen (letters word)) × (1 ≤ seen) × (seen ≤ length (letters word))
IsFieldInHand Other bytes = IsOther bytes

-- the fields that have a byte
abbrev pub filled : List (List ℕ) → List (List ℕ)
filled fields = filter (λ field. nat_le 1 (length field)) fields

-- the bytes so far of what counts of a line: blanks part them into whole fields, and the field in hand, which may be empty
abbrev pub IsContentInHand : ContentInHand → List ℕ → Type 0
IsContentInHand content bytes = (whole : List (List ℕ)) × (last : List ℕ) × (slice_split is_blank bytes ≡ whole ++ last ∷ []) × AreFields content.fields (filled whole) × IsFieldInHand content.field last

-- no comment begins among these bytes
abbrev pub HasNoComment : List ℕ → Type 0
HasNoComment bytes = All (λ b. is_comment_sign b ≡ false) bytes

-- the bytes so far of a line: all count, or all but the last, a carriage return, or all before the first comment sign
abbrev pub IsLineInHand : LineInHand → List ℕ → Type 0
IsLineInHand (Open content) bytes = HasNoComment bytes × (strip_carriage_return bytes ≡ bytes) × IsContentInHand content bytes
IsLineInHand (Returned content) bytes = (before : List ℕ) × (bytes ≡ before ++ codes "\r") × HasNoComment before × IsContentInHand content before
IsLineInHand (Commented content) bytes = (before : List ℕ) × (comment : List ℕ) × (bytes ≡ before ++ (codes "#" ++ comment)) × HasNoComment before × IsContentInHand content before

-- from the start of the text, up to the rest, bytes were added to what is in hand
pub record Adds {A : Type 0} (IsInHand : A → List ℕ → Type 0) (old new : A) (text rest : List ℕ) : Type 0 where
  pub added : List ℕ
  pub text_is : text ≡ added ++ rest
  pub stands : (bytes : List ℕ) → IsInHand old bytes → IsInHand new (bytes ++ added)

-- and all of them are digits
pub record AddsDigits {A : Type 0} (IsInHand : A → List ℕ → Type 0) (old new : A) (text rest : List ℕ) : Type 0 where
  pub adds : Adds IsInHand old new text rest
  pub digits : list_all is_ascii_digit adds.added ≡ true
