-- The fields of a line: what was written is read again, and what was read was written so.
use Rattle.std.proofs.Common.{◌≡◌, ℕ, Bool, true, ◌&&◌, List, [], ◌∷◌, ◌++◌, refl, ap, ◌∙◌}
use Rattle.std.specs.Prelude.{Option, Some}
use Rattle.std.proofs.lemmas.List.Folds.{list_all-append}
use Rattle.bounds_model.specs.AnswerText.Numerals as steps
use Rattle.bounds_model.specs.AnswerText.Fields.{Field, Value, value_of, is_small, is_in_range}
use Rattle.bounds_model.specs.AnswerText.LineFormats.{Values, values_of, are_small, are_in_range}
use Rattle.bounds_model.specs.AnswerText.Written.{field_words, values_words}
use Rattle.text_laws.proofs.AnswerTexts.NumberLaws.{bind_some, some_is, step_again, both_true, is_word}
use Rattle.text_laws.proofs.AnswerTexts.LineLaws.{are_words}
use Rattle.text_laws.proofs.AnswerTexts.FieldLaws.{field_words_are_words, value_again}
use Rattle.text_laws.proofs.AnswerTexts.FieldBack.{value_back}

-- the numbers of a line are within the limit and in the ranges of their ranges
pub record Fits (fields : List Field) (values : Values fields) : Type 0 where
  pub small : are_small fields values ≡ true
  pub range : are_in_range fields values ≡ true

-- the first field fits
pub first_fits : (field : Field) (fields : List Field) (values : Values (field ∷ fields)) → Fits (field ∷ fields) values → (is_small field values.0 ≡ true) × (is_in_range field values.0 ≡ true)
first_fits field fields values fits = ((both_true (is_small field values.0) (are_small fields values.1) fits.small).0, (both_true (is_in_range field values.0) (are_in_range fields values.1) fits.range).0)

-- the fields behind the first fit
pub rest_fits : (field : Field) (fields : List Field) (values : Values (field ∷ fields)) → Fits (field ∷ fields) values → Fits fields values.1
rest_fits field fields values fits = record {
  small = (both_true (is_small field values.0) (are_small fields values.1) fits.small).1;
  range = (both_true (is_in_range field values.0) (are_in_range fields values.1) fits.range).1;
}

-- a field and the fields behind it
pub both_fit : (field : Field) (fields : List Field) (values : Values (field ∷ fields)) → is_small field values.0 ≡ true → is_in_range field values.0 ≡ true → Fits fields values.1 → Fits (field ∷ fields) values
both_fit field fields values small range fits = record {
  small = ap (λ (t : Bool). t && are_small fields values.1) small ∙ fits.small;
  range = ap (λ (t : Bool). t && are_in_range fields values.1) range ∙ fits.range;
}

-- no fields
pub none_fit : Fits [] tt
none_fit = record { small = refl; range = refl }

-- the fields are written as words
pub values_are_words : (fields : List Field) (values : Values fields) → Fits fields values → are_words (values_words fields values) ≡ true
values_are_words [] values fits = refl
values_are_words (field ∷ fields) values fits =
    let first = field_words_are_words field values.0 (first_fits field fields values fits).0 in
    list_all-append is_word (field_words field values.0) (values_words fields values.1) ∙ ap (λ (t : Bool). t && are_words (values_words fields values.1)) first
    ∙ values_are_words fields values.1 (rest_fits field fields values fits)

-- fields that were written are read again
pub values_again : (fields : List Field) (values : Values fields) → Fits fields values → values_of fields (values_words fields values) ≡ Some values
values_again [] values fits = refl
values_again (field ∷ fields) values fits =
    let first = first_fits field fields values fits in
    step_again (value_of field (values_words (field ∷ fields) values)) (values.0, values_words fields values.1) _ _ (value_again field values.0 (values_words fields values.1) first.0 first.1)
    (step_again (values_of fields (values_words fields values.1)) values.1 _ _ (values_again fields values.1 (rest_fits field fields values fits)) refl)

-- fields that were read were written so
pub values_back : (fields : List Field) (words : List (List ℕ)) (values : Values fields) → values_of fields words ≡ Some values → are_small fields values ≡ true → words ≡ values_words fields values
values_back [] [] values e small = refl
values_back [] (word ∷ words) values e small = absurd cc
values_back (field ∷ fields) words values e small =
    let r = bind_some (value_of field words) (λ first. steps.◌>>=◌ {B = Values (field ∷ fields)} (values_of fields first.1) (λ others. Some (first.0, others))) values e in
    let q = bind_some (values_of fields r.0.1) (both r.0.0) values r.2 in
    let is : ◌≡◌ {A = Values (field ∷ fields)} (r.0.0, q.0) values = some_is {A = Values (field ∷ fields)} (r.0.0, q.0) values q.2 in
    let parts = both_true (is_small field values.0) (are_small fields values.1) small in
    let first-is : r.0.0 ≡ values.0 = ap (λ (v : Values (field ∷ fields)). v.0) is in
    let rest-is : q.0 ≡ values.1 = ap (λ (v : Values (field ∷ fields)). v.1) is in
    let others = values_back fields r.0.1 values.1 (q.1 ∙ ap (λ (v : Values fields). Some v) rest-is) parts.1 in
    value_back field words values.0 r.0.1 (r.1 ∙ ap (λ (v : Value field). Some (v, r.0.1)) first-is) parts.0 ∙ ap (λ (ws : List (List ℕ)). field_words field values.0 ++ ws) others
  where
    both : Value field → Values fields → Option (Values (field ∷ fields))
    both v vs = Some (v, vs)
