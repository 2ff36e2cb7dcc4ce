-- What the fields of a line or of a record come to.
use Rattle.std.specs.Prelude.{◌≡◌, ℕ, ℤ, pos, neg_ℤ, false, List, [], ◌∷◌, ◌++◌, map, codes}
use Rattle.std.specs.declared.option.Option.{Option}
use Rattle.std.specs.declared.option.Option.TheVariants.{Some, None}
use Rattle.std.specs.Option.{option_map}
use Rattle.std.specs.Str.{bytes_eq}
use Rattle.bounds_model.specs.PointText.{natural, number, fields_meaning, plane_meaning, space_meaning, bad_form}
use Rattle.point_text.specs.Clamps.{clamped_size, clamped}
use Rattle.point_text.specs.declared.number.Sign.{Sign}
use Rattle.point_text.specs.declared.number.Sign.TheVariants.{Absent, Plus, Minus}
use Rattle.point_text.specs.declared.fields.Keyword.{Keyword}
use Rattle.point_text.specs.declared.fields.Keyword.TheVariants.{Separator, Scale}
use Rattle.point_text.specs.declared.fields.Field.{Field}
use Rattle.point_text.specs.declared.fields.Field.TheVariants as field
use Rattle.point_text.specs.declared.fields.Fields.{Fields}
use Rattle.point_text.specs.declared.fields.Fields.TheVariants as fields

-- the bytes of a sign
abbrev pub sign_bytes : Sign → List ℕ
sign_bytes Absent = []
sign_bytes Plus = codes "+"
sign_bytes Minus = codes "-"

-- the number of this magnitude with the sign
abbrev pub signed : Sign → ℕ → ℤ
signed Absent size = pos size
signed Plus size = pos size
signed Minus size = neg_ℤ (pos size)

-- the bytes of a word
abbrev pub letters : Keyword → List ℕ
letters Separator = codes "---"
letters Scale = codes "scale"

-- the digits write this number, clamped
abbrev pub Write : List ℕ → ℕ → Type 0
Write digits size = option_map clamped_size (natural digits) ≡ Some size

-- the field is neither a number nor a word
abbrev pub IsUnknown : List ℕ → Type 0
IsUnknown bytes = (number bytes ≡ None) × (bytes_eq bytes (codes "---") ≡ false) × (bytes_eq bytes (codes "scale") ≡ false)

-- the number of a field, clamped, or none where the field has another form
abbrev pub clamped_number : List ℕ → Option ℤ
clamped_number bytes = option_map clamped (number bytes)

-- what the bytes of a field are
abbrev pub IsField : Field → List ℕ → Type 0
IsField (field.Number sign size) bytes = (digits : List ℕ) × (bytes ≡ sign_bytes sign ++ digits) × Write digits size
IsField (field.Word word) bytes = bytes ≡ letters word
IsField field.Other bytes = IsUnknown bytes

-- whatever fields follow these, the line is bad
abbrev pub AreBad : List (List ℕ) → Type 0
AreBad line = (more : List (List ℕ)) → (fields_meaning plane_meaning (line ++ more) ≡ bad_form) × (fields_meaning space_meaning (line ++ more) ≡ bad_form)

-- what these fields come to
abbrev pub AreFields : Fields → List (List ℕ) → Type 0
AreFields fields.Empty line = line ≡ []
AreFields (fields.Word word) line = line ≡ letters word ∷ []
AreFields (fields.Scale size) line = (digits : List ℕ) × (line ≡ codes "scale" ∷ digits ∷ []) × Write digits size
AreFields (fields.One x) line = map clamped_number line ≡ Some x ∷ []
AreFields (fields.Two x y) line = map clamped_number line ≡ Some x ∷ Some y ∷ []
AreFields (fields.Three x y z) line = map clamped_number line ≡ Some x ∷ Some y ∷ Some z ∷ []
AreFields fields.Other line = AreBad line
