-- Formats of one line, and what a line says under them.
use Rattle.std.specs.Prelude.{ℕ, Bool, true, ◌&&◌, if◌then◌else◌, List, [], ◌∷◌, Option, Some, None}
use Rattle.std.specs.Str.{bytes_eq}
use Rattle.bounds_model.specs.AnswerText.Numerals.{◌>>=◌}
use Rattle.bounds_model.specs.AnswerText.Lines.{words_of}
use Rattle.bounds_model.specs.AnswerText.Fields.{Field, Value, value_of, is_small, is_in_range}

-- words, and fields behind them
pub record LineFormat : Type 0 where
  pub words : List (List ℕ)
  pub fields : List Field

-- a word, and fields behind it
abbrev pub titled : List ℕ → List Field → LineFormat
titled word fields = record { words = word ∷ []; fields = fields }

-- fields alone
abbrev pub untitled : List Field → LineFormat
untitled fields = record { words = []; fields = fields }

-- what the fields of a line say
abbrev pub Values : List Field → Type 0
Values [] = Unit {0}
Values (field ∷ fields) = Value field × Values fields

-- what stands behind the words that a line begins with
abbrev pub after_words : List (List ℕ) → List (List ℕ) → Option (List (List ℕ))
after_words [] words = Some words
after_words (expected ∷ others) [] = None
after_words (expected ∷ others) (word ∷ words) = if bytes_eq expected word then after_words others words else None

-- what the fields say, or none where the words have another form or another number
abbrev pub values_of : (fields : List Field) → List (List ℕ) → Option (Values fields)
values_of [] [] = Some tt
values_of [] (word ∷ words) = None
values_of (field ∷ fields) words = do
  first ← value_of field words
  others ← values_of fields first.1
  Some (first.0, others)

-- what a line of this format says
abbrev pub form_of : (format : LineFormat) → List ℕ → Option (Values format.fields)
form_of format line = do
  words ← words_of line
  rest ← after_words format.words words
  values_of format.fields rest

-- no number of the fields is past the limit
abbrev pub are_small : (fields : List Field) → Values fields → Bool
are_small [] values = true
are_small (field ∷ fields) values = is_small field values.0 && are_small fields values.1

-- each field is in its range
abbrev pub are_in_range : (fields : List Field) → Values fields → Bool
are_in_range [] values = true
are_in_range (field ∷ fields) values = is_in_range field values.0 && are_in_range fields values.1
