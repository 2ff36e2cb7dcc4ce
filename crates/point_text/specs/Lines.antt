-- What a line says, in the words of the model.
use Rattle.std.specs.Prelude.{◌≡◌, ◌⊎◌, ⊤, ℕ, ℤ, Bool, true, false, ◌||◌, List, [], ◌∷◌, ◌++◌, map, codes}
use Rattle.std.specs.declared.option.Option.{Option}
use Rattle.std.specs.declared.option.Option.TheVariants.{Some}
use Rattle.std.specs.List.{before_first}
use Rattle.bounds_model.specs.PointText.{Meaning, says_nothing, ends_set, says_point, says_scale, bad_form, out_of_bounds, is_blank, is_comment_sign, is_minus, is_plus, fields_of, number}
use Rattle.point_text.specs.declared.line.Line.{Line}
use Rattle.point_text.specs.declared.line.Line.TheVariants.{Nothing, EndOfSet, Scale, Point, Bad, OutOfRange}
use Rattle.point_text.specs.Clamps.{clamped_size}

-- the line has this meaning in the model; the number of a scale is clamped
abbrev pub Means : {P : Type 0} → Line P → Meaning P → Type 0
Means Nothing meaning = says_nothing ≡ meaning
Means EndOfSet meaning = ends_set ≡ meaning
Means (Scale size) meaning = (scale : ℕ) × (says_scale scale ≡ meaning) × (size ≡ clamped_size scale)
Means (Point p) meaning = says_point p ≡ meaning
Means Bad meaning = bad_form ≡ meaning
Means OutOfRange meaning = out_of_bounds ≡ meaning

-- the numbers of the fields, none where a field has another form
abbrev pub numbers_of : List ℕ → List (Option ℤ)
numbers_of fields = map number (fields_of fields)

-- the text does not begin with a sign
abbrev pub BeginsWithNoSign : List ℕ → Type 0
BeginsWithNoSign [] = ⊤
BeginsWithNoSign (b ∷ rest) = (is_minus b ≡ false) × (is_plus b ≡ false)

-- what stands before a comment
abbrev pub uncommented : List ℕ → List ℕ
uncommented line = before_first is_comment_sign line

-- whether a field ends before this byte
abbrev pub is_field_end : ℕ → Bool
is_field_end b = is_blank b || is_comment_sign b

-- the field that a line begins with, without a byte where it begins with a blank or a comment, or has none
abbrev pub first_field : List ℕ → List ℕ
first_field line = before_first is_field_end line

-- whether no field goes on with these bytes
abbrev pub are_behind_field : List ℕ → Bool
are_behind_field [] = true
are_behind_field (b ∷ rest) = is_field_end b

-- the text is a sign, a minus or not, and the rest, or it has no sign and is the rest
abbrev pub IsUnsigned : List ℕ → Bool → List ℕ → Type 0
IsUnsigned text true rest = text ≡ codes "-" ++ rest
IsUnsigned text false rest = (text ≡ codes "+" ++ rest) ⊎ ((text ≡ rest) × BeginsWithNoSign rest)

-- there is no field, or the first one is no number
abbrev pub HasNoNumber : List (Option ℤ) → Type 0
HasNoNumber (Some z ∷ numbers) = ⊥
HasNoNumber numbers = ⊤
