-- A line, as one more byte is read.
use Rattle.std.proofs.Common.{◌≡◌, ◌∙◌, refl, sym, ap, ℕ, zero, suc, ◌≤◌, ◌-◌, ◌==◌, Bool, true, false, cond, List, [], ◌∷◌, ◌++◌, length, length-append, take, get_or, nat_le, codes, append_assoc, arith, None}
use Rattle.std.specs.List.{before_first}
use Rattle.std.specs.Str.Lines.{strip_carriage_return}
use Rattle.std.proofs.Math.Seq.{take-append_seam, get_or-append_seam}
use Rattle.std.proofs.lemmas.Bool.Decides.{nat_tests}
use Rattle.std.proofs.lemmas.List.Elements.{filter-append, All-append, All-cons}
use Rattle.bounds_model.specs.PointText.{is_comment_sign, content, number}
use Rattle.point_text.specs.declared.field_in_hand.FieldInHand.{FieldInHand}
use Rattle.point_text.specs.declared.field_in_hand.FieldInHand.TheVariants.{Empty, Plus, Digits, Word, Other}
use Rattle.point_text.specs.declared.number.Sign.{Sign}
use Rattle.point_text.specs.declared.number.Sign.TheVariants as signs
use Rattle.point_text.specs.declared.fields.Keyword.{Keyword}
use Rattle.point_text.specs.declared.fields.Keyword.TheVariants.{Separator, Scale}
use Rattle.point_text.specs.Fields.{Write, sign_bytes, letters}
use Rattle.point_text.specs.declared.line_in_hand.LineInHand.TheVariants.{Commented}
use Rattle.point_text.specs.declared.line_in_hand.ContentInHand.{ContentInHand}
use Rattle.point_text.specs.InHand.{IsFieldInHand, IsLineInHand, HasNoComment, filled}
use Rattle.point_text.proofs.Bytewise.{write_some}
use Rattle.byte_tools.proofs.FirstIndices.{before_first_all, before_first_at}

-- a sign or none, and digits, have a byte
digits_some : (sign : Sign) (bytes digits : List ℕ) (size : ℕ) → bytes ≡ sign_bytes sign ++ digits → Write digits size → nat_le 1 (length bytes) ≡ true
digits_some signs.Absent bytes digits size is write = rw is (write_some digits size write)
digits_some signs.Plus bytes digits size is write = rw is (grind (arith, nat_tests))
digits_some signs.Minus bytes digits size is write = rw is (grind (arith, nat_tests))

-- so have some bytes of a word
word_some : (word : Keyword) (seen : ℕ) (bytes : List ℕ) → bytes ≡ take seen (letters word) → 1 ≤ seen → nat_le 1 (length bytes) ≡ true
word_some word zero bytes is some = absurd (omega (arith, some))
word_some Separator (suc n) bytes is some = rw is (grind (arith, nat_tests))
word_some Scale (suc n) bytes is some = rw is (grind (arith, nat_tests))

-- a field in hand other than the empty one has a byte
pub field_some : (f : FieldInHand) (bytes : List ℕ) → IsFieldInHand f bytes → (f ≡ Empty → ⊥) → nat_le 1 (length bytes) ≡ true
field_some Empty bytes is some = absurd (some refl)
field_some Plus bytes is some = rw is refl
field_some (Digits sign size) bytes (digits, is, write) some = digits_some sign bytes digits size is write
field_some (Word word seen) bytes (is, least, most) some = word_some word seen bytes is least
field_some Other [] is some = let wrong : number (codes "1") ≡ None = (is (codes "1")).0 in cc
field_some Other (b ∷ bytes) is some = grind (arith, nat_tests)

-- the fields with one more that has a byte
pub filled_more : (whole : List (List ℕ)) (last : List ℕ) → nat_le 1 (length last) ≡ true → filled (whole ++ last ∷ []) ≡ filled whole ++ last ∷ []
filled_more whole last some = filter-append (λ field. nat_le 1 (length field)) whole (last ∷ []) ∙ ap (λ t. filled whole ++ cond t (last ∷ []) []) some

-- ---- what counts of a line

strip_last : (xs : List ℕ) (b : ℕ) → strip_carriage_return (xs ++ b ∷ []) ≡ cond (b == 13) xs (xs ++ b ∷ [])
strip_last xs b =
    let before : length (xs ++ b ∷ []) - 1 ≡ length xs = let size = length-append xs (b ∷ []) in omega (arith, size) in
    ap (λ n. cond (get_or (xs ++ b ∷ []) n 0 == 13) (take n (xs ++ b ∷ [])) (xs ++ b ∷ [])) before
    ∙ (ap (λ c. cond (c == 13) (take (length xs) (xs ++ b ∷ [])) (xs ++ b ∷ [])) (get_or-append_seam xs b [] 0)
    ∙ ap (λ ys. cond (b == 13) ys (xs ++ b ∷ [])) (take-append_seam xs (b ∷ [])))

pub strip_other : (xs : List ℕ) (b : ℕ) → (b == 13) ≡ false → strip_carriage_return (xs ++ b ∷ []) ≡ xs ++ b ∷ []
strip_other xs b other = strip_last xs b ∙ ap (λ t. cond t xs (xs ++ b ∷ [])) other

pub content_open : (bytes : List ℕ) → HasNoComment bytes → strip_carriage_return bytes ≡ bytes → content bytes ≡ bytes
content_open bytes none stays = ap (before_first is_comment_sign) stays ∙ before_first_all is_comment_sign bytes none

pub content_returned : (before : List ℕ) → HasNoComment before → content (before ++ codes "\r") ≡ before
content_returned before none = ap (before_first is_comment_sign) (strip_last before 13) ∙ before_first_all is_comment_sign before none

record Ends (b : ℕ) (ys : List ℕ) : Type 0 where
  pub start : List ℕ
  pub last : ℕ
  pub is : b ∷ ys ≡ start ++ last ∷ []

ends : (b : ℕ) (ys : List ℕ) → Ends b ys
ends b [] = record { start = []; last = b; is = refl }
ends b (c ∷ ys) = let more = ends c ys in record { start = b ∷ more.start; last = more.last; is = ap (λ zs. b ∷ zs) more.is }

pub content_commented : (before comment : List ℕ) → HasNoComment before → content (before ++ (codes "#" ++ comment)) ≡ before
content_commented before [] none = ap (before_first is_comment_sign) (strip_other before 35 refl) ∙ before_first_at is_comment_sign before 35 [] none refl
content_commented before (b ∷ comment) none =
    let end = ends b comment in
    let parts : before ++ 35 ∷ b ∷ comment ≡ (before ++ 35 ∷ end.start) ++ end.last ∷ [] = ap (λ ys. before ++ 35 ∷ ys) end.is ∙ sym (append_assoc before (35 ∷ end.start) (end.last ∷ [])) in
    ap content parts ∙ (ap (before_first is_comment_sign) (strip_last (before ++ 35 ∷ end.start) end.last) ∙ by end.start end.last (end.last == 13))
  where
    by : (start : List ℕ) (last : ℕ) (t : Bool) → before_first is_comment_sign (cond t (before ++ 35 ∷ start) ((before ++ 35 ∷ start) ++ last ∷ [])) ≡ before
    by start last true = before_first_at is_comment_sign before 35 start none refl
    by start last false = ap (before_first is_comment_sign) (append_assoc before (35 ∷ start) (last ∷ [])) ∙ before_first_at is_comment_sign before 35 (start ++ last ∷ []) none refl

-- a comment goes on
pub comment_more : (counted : ContentInHand) (bytes more : List ℕ) → IsLineInHand (Commented counted) bytes → IsLineInHand (Commented counted) (bytes ++ more)
comment_more counted bytes more (before, comment, is, none, in_hand) =
    (before, comment ++ more, ap (λ ys. ys ++ more) is ∙ append_assoc before (35 ∷ comment) more, none, in_hand)

-- a carriage return begins no comment
pub no_comment_returned : (before : List ℕ) → HasNoComment before → HasNoComment (before ++ codes "\r")
no_comment_returned before none = All-append (λ b. is_comment_sign b ≡ false) before (codes "\r") none (All-cons (λ b. is_comment_sign b ≡ false) 13 [] refl (λ k d below. absurd (omega (arith, below))))
