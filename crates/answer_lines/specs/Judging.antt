-- What the words of a line say once their form is right: first the limit of all numbers, then their ranges.
use Rattle.std.specs.Prelude.{ℕ, Bool, not, if◌then◌else◌, List, [], ◌∷◌}
use Rattle.std.specs.declared.option.Option.{Option}
use Rattle.std.specs.declared.option.Option.TheVariants.{Some, None}
use Rattle.std.specs.declared.result.Result.{Result}
use Rattle.std.specs.declared.result.Result.TheVariants.{Ok, Err}
use Rattle.bounds_model.specs.AnswerText.Numerals.{◌>>=◌}
use Rattle.bounds_model.specs.AnswerText.Fields.{Field, Value, value_of, is_small, is_in_range}
use Rattle.bounds_model.specs.AnswerText.LineFormats.{LineFormat, Values, after_words}
use Rattle.answer_lines.specs.declared.judging.Flaw.{Flaw}
use Rattle.answer_lines.specs.declared.judging.Flaw.TheVariants.{PastLimit, OutOfRange}

-- a value, or what is wrong with its numbers
abbrev pub Judged : Type 0 → Type 0
Judged A = Result A Flaw

-- a value whose numbers are within the limit or not, and in their ranges or not
abbrev pub judged_by : {A : Type 0} → Bool → Bool → A → Judged A
judged_by small in_range value = if not small then Err PastLimit else if not in_range then Err OutOfRange else Ok value

-- two values: a number past the limit goes before one outside the range of its in_range
abbrev pub both : {A B : Type 0} → Judged A → Judged B → Judged (A × B)
both (Ok x) (Ok y) = Ok (x, y)
both (Ok x) (Err flaw) = Err flaw
both (Err PastLimit) b = Err PastLimit
both (Err OutOfRange) (Ok y) = Err OutOfRange
both (Err OutOfRange) (Err flaw) = Err flaw

-- the value seen in another way
abbrev pub seen : {A B : Type 0} → (A → B) → Judged A → Judged B
seen view (Ok x) = Ok (view x)
seen view (Err flaw) = Err flaw

-- a field's value
abbrev pub judged_field : (field : Field) → Value field → Judged (Value field)
judged_field field value = judged_by (is_small field value) (is_in_range field value) value

-- the next field, and the words behind it
abbrev pub field_at : (field : Field) → List (List ℕ) → Option (Judged (Value field) × List (List ℕ))
field_at field words = value_of field words >>= λ first. Some (judged_field field first.0, first.1)

-- fields that take all words
abbrev pub fields_at : (fields : List Field) → List (List ℕ) → Option (Judged (Values fields))
fields_at [] [] = Some (Ok tt)
fields_at [] (word ∷ words) = None
fields_at (field ∷ fields) words = do
  first ← field_at field words
  others ← fields_at fields first.1
  Some (both first.0 others)

-- what the words of a line of this format say
abbrev pub said : (format : LineFormat) → List (List ℕ) → Option (Judged (Values format.fields))
said format words = after_words format.words words >>= λ rest. fields_at format.fields rest
