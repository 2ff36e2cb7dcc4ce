-- What fields come to, as one more is read.
use Rattle.std.proofs.Common.{◌≡◌, ◌∙◌, refl, sym, ap, ℕ, ℤ, Bool, true, false, List, [], ◌∷◌, ◌++◌, map, codes, append_assoc, Option, Some, None}
use Rattle.std.proofs.lemmas.List.{map-append}
use Rattle.std.specs.Str.{bytes_eq}
use Rattle.bounds_model.specs.Plane.{plane_limit}
use Rattle.bounds_model.specs.PointText.{natural, number, fields_meaning, plane_meaning, space_meaning, bad_form}
use Rattle.std.proofs.lemmas.Slice.Eq.{bytes_eq-Decides}
use Rattle.byte_tools.proofs.Clamping.{number_found}
use Rattle.point_text.specs.Clamps.{clamped}
use Rattle.point_text.specs.Fields.{clamped_number, IsField, IsUnknown, AreBad, AreFields}
use Rattle.point_text.specs.declared.number.Sign.{Sign}
use Rattle.point_text.specs.declared.number.Sign.TheVariants.{Absent, Plus, Minus}
use Rattle.point_text.specs.declared.fields.Keyword.{Keyword}
use Rattle.point_text.specs.declared.fields.Keyword.TheVariants.{Separator, Scale}
use Rattle.point_text.proofs.Bytewise.{natural_signed, natural_unknown}
use Rattle.point_text.specs.declared.fields.Field.{Field}
use Rattle.point_text.specs.declared.fields.Field.TheVariants as field
use Rattle.point_text.specs.declared.fields.Fields.{Fields}
use Rattle.point_text.specs.declared.fields.Fields.TheVariants as fields

-- ---- fields with these clamped numbers

pub record One (line : List (List ℕ)) (x : ℤ) : Type 0 where
  pub first : List ℕ
  pub z : ℤ
  pub fields : line ≡ first ∷ []
  pub first_number : number first ≡ Some z
  pub first_clamped : x ≡ clamped z

pub one_number : (line : List (List ℕ)) (x : ℤ) → map clamped_number line ≡ Some x ∷ [] → One line x
one_number [] x e = cc
one_number (a ∷ []) x e =
    let h : clamped_number a ≡ Some x = cc in
    let n = number_found plane_limit (number a) x (sym h) in
    record { first = a; z = n.0; fields = refl; first_number = n.2; first_clamped = n.1 }
one_number (a ∷ b ∷ line) x e = cc

pub record Two (line : List (List ℕ)) (x y : ℤ) : Type 0 where
  pub first : List ℕ
  pub second : List ℕ
  pub z : ℤ
  pub w : ℤ
  pub fields : line ≡ first ∷ second ∷ []
  pub first_number : number first ≡ Some z
  pub second_number : number second ≡ Some w
  pub first_clamped : x ≡ clamped z
  pub second_clamped : y ≡ clamped w

pub two_numbers : (line : List (List ℕ)) (x y : ℤ) → map clamped_number line ≡ Some x ∷ Some y ∷ [] → Two line x y
two_numbers [] x y e = cc
two_numbers (a ∷ line) x y e =
    let h : clamped_number a ≡ Some x = cc in
    let rest : map clamped_number line ≡ Some y ∷ [] = cc in
    let n = number_found plane_limit (number a) x (sym h) in
    let m = one_number line y rest in
    record {
      first = a;
      second = m.first;
      z = n.0;
      w = m.z;
      fields = ap (λ l. a ∷ l) m.fields;
      first_number = n.2;
      second_number = m.first_number;
      first_clamped = n.1;
      second_clamped = m.first_clamped;
    }

pub record Three (line : List (List ℕ)) (x y z : ℤ) : Type 0 where
  pub first : List ℕ
  pub u : ℤ
  pub behind : List (List ℕ)
  pub fields : line ≡ first ∷ behind
  pub first_number : number first ≡ Some u
  pub first_clamped : x ≡ clamped u
  pub two : Two behind y z

pub three_numbers : (line : List (List ℕ)) (x y z : ℤ) → map clamped_number line ≡ Some x ∷ Some y ∷ Some z ∷ [] → Three line x y z
three_numbers [] x y z e = cc
three_numbers (a ∷ line) x y z e =
    let h : clamped_number a ≡ Some x = cc in
    let rest : map clamped_number line ≡ Some y ∷ Some z ∷ [] = cc in
    let n = number_found plane_limit (number a) x (sym h) in
    record { first = a; u = n.0; behind = line; fields = refl; first_number = n.2; first_clamped = n.1; two = two_numbers line y z rest }

-- one more number
pub numbers_more : (line : List (List ℕ)) (next : List ℕ) (numbers : List (Option ℤ)) (z : ℤ) → map clamped_number line ≡ numbers → clamped_number next ≡ Some z
    → map clamped_number (line ++ next ∷ []) ≡ numbers ++ Some z ∷ []
numbers_more line next numbers z is more = map-append clamped_number line (next ∷ []) ∙ (ap (λ ns. ns ++ clamped_number next ∷ []) is ∙ ap (λ n. numbers ++ n ∷ []) more)

-- ---- a number is no word

no_word : (a word : List ℕ) (z : ℤ) → number a ≡ Some z → number word ≡ None → bytes_eq a word ≡ false
no_word a word z is none = by (bytes_eq a word) refl
  where
    by : (b : Bool) → bytes_eq a word ≡ b → bytes_eq a word ≡ false
    by true e = let same : a ≡ word = (bytes_eq-Decides a word).0 e in let wrong : number a ≡ None = ap number same ∙ none in cc
    by false e = e

pub no_separator : (a : List ℕ) (z : ℤ) → number a ≡ Some z → bytes_eq a (codes "---") ≡ false
no_separator a z is = no_word a (codes "---") z is refl

pub no_scale : (a : List ℕ) (z : ℤ) → number a ≡ Some z → bytes_eq a (codes "scale") ≡ false
no_scale a z is = no_word a (codes "scale") z is refl

-- ---- fields of bad lines

-- a field that is read as no number is none
pub not_number : (f : Field) (next : List ℕ) → IsField f next → ((sign : Sign) (size : ℕ) → f ≡ field.Number sign size → ⊥) → number next ≡ None
not_number (field.Number sign size) next is other = absurd (other sign size refl)
not_number (field.Word Separator) next is other = ap number is
not_number (field.Word Scale) next is other = ap number is
not_number field.Other next is other = is.0

-- nor are its digits
not_natural : (f : Field) (next : List ℕ) → IsField f next → ((size : ℕ) → f ≡ field.Number Absent size → ⊥) → natural next ≡ None
not_natural (field.Number Absent size) next is other = absurd (other size refl)
not_natural (field.Number Plus size) next (digits, is, write) other = natural_signed Plus next digits is (λ e. cc)
not_natural (field.Number Minus size) next (digits, is, write) other = natural_signed Minus next digits is (λ e. cc)
not_natural (field.Word Separator) next is other = ap natural is
not_natural (field.Word Scale) next is other = ap natural is
not_natural field.Other next is other = natural_unknown next is.0

pub bad_first : (a : List ℕ) → IsUnknown a → AreBad (a ∷ [])
bad_first a is [] = rw (is.1, is.2, is.0) (refl, refl)
bad_first a is (b ∷ more) = rw (is.2, is.0) (refl, refl)

pub bad_behind_separator : (next : List ℕ) → AreBad (codes "---" ∷ next ∷ [])
bad_behind_separator next more = (refl, refl)

-- a scale of no digits
pub bad_scale : (f : Field) (next : List ℕ) → IsField f next → ((size : ℕ) → f ≡ field.Number Absent size → ⊥) → AreBad (codes "scale" ∷ next ∷ [])
bad_scale f next field_is other more = by more (not_natural f next field_is other)
  where
    by : (more : List (List ℕ)) → natural next ≡ None → (fields_meaning plane_meaning (codes "scale" ∷ next ∷ more) ≡ bad_form) × (fields_meaning space_meaning (codes "scale" ∷ next ∷ more) ≡ bad_form)
    by [] none = rw none (refl, refl)
    by (second ∷ more) none = (refl, refl)

-- a scale and more
bad_behind_scale : (digits next : List ℕ) → AreBad (codes "scale" ∷ digits ∷ next ∷ [])
bad_behind_scale digits next more = (refl, refl)

bad_second : (a b : List ℕ) (z : ℤ) → number a ≡ Some z → number b ≡ None → AreBad (a ∷ b ∷ [])
bad_second a b z first none more = rw (no_scale a z first, first, none) (refl, refl)

bad_third : (a b c : List ℕ) (z w : ℤ) → number a ≡ Some z → number b ≡ Some w → number c ≡ None → AreBad (a ∷ b ∷ c ∷ [])
bad_third a b c z w first second none more = rw (no_scale a z first, first, second, none) (refl, refl)

bad_fourth : (a b c d : List ℕ) (u v w : ℤ) → number a ≡ Some u → number b ≡ Some v → number c ≡ Some w → AreBad (a ∷ b ∷ c ∷ d ∷ [])
bad_fourth a b c d u v w first second third more = rw (no_scale a u first, first, second, third) (refl, refl)

-- bad fields stay bad
pub bad_more : (line : List (List ℕ)) (next : List ℕ) → AreBad line → AreBad (line ++ next ∷ [])
bad_more line next bad more = rw (append_assoc line (next ∷ []) more) (bad (next ∷ more))

-- behind one number, a field that is none
pub bad_behind_one : (line : List (List ℕ)) (next : List ℕ) (x : ℤ) → map clamped_number line ≡ Some x ∷ [] → number next ≡ None → AreBad (line ++ next ∷ [])
bad_behind_one line next x is none =
    let one = one_number line x is in
    rw one.fields (bad_second one.first next one.z one.first_number none)

pub bad_behind_two : (line : List (List ℕ)) (next : List ℕ) (x y : ℤ) → map clamped_number line ≡ Some x ∷ Some y ∷ [] → number next ≡ None → AreBad (line ++ next ∷ [])
bad_behind_two line next x y is none =
    let two = two_numbers line x y is in
    rw two.fields (bad_third two.first two.second next two.z two.w two.first_number two.second_number none)

bad_behind_three : (line : List (List ℕ)) (next : List ℕ) (x y z : ℤ) → map clamped_number line ≡ Some x ∷ Some y ∷ Some z ∷ [] → AreBad (line ++ next ∷ [])
bad_behind_three line next x y z is =
    let three = three_numbers line x y z is in
    let two = three.two in
    rw (three.fields, two.fields) (bad_fourth three.first two.first two.second next three.u two.z two.w three.first_number two.first_number two.second_number)

-- behind anything but no fields, one word, one number or two, any field
pub bad_behind : (seen : Fields) (line : List (List ℕ)) (next : List ℕ) → AreFields seen line → (seen ≡ fields.Empty → ⊥) → ((word : Keyword) → seen ≡ fields.Word word → ⊥) → ((x : ℤ) → seen ≡ fields.One x → ⊥)
    → ((x y : ℤ) → seen ≡ fields.Two x y → ⊥) → AreBad (line ++ next ∷ [])
bad_behind fields.Empty line next are empty word one two = absurd (empty refl)
bad_behind (fields.Word w) line next are empty word one two = absurd (word w refl)
bad_behind (fields.Scale size) line next (digits, are, write) empty word one two = rw are (bad_behind_scale digits next)
bad_behind (fields.One x) line next are empty word one two = absurd (one x refl)
bad_behind (fields.Two x y) line next are empty word one two = absurd (two x y refl)
bad_behind (fields.Three x y z) line next are empty word one two = bad_behind_three line next x y z are
bad_behind fields.Other line next are empty word one two = bad_more line next are
