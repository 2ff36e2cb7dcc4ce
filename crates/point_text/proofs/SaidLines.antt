-- What a line says that is read as a point.
use Rattle.std.proofs.Common.{◌≡◌, ◌∙◌, refl, ap, subst, ℕ, ℤ, List, [], ◌∷◌, map, Option, Some, None}
use Rattle.bounds_model.specs.PointText.{Meaning, bad_form, number, fields_meaning}
use Rattle.point_text.specs.Lines.{Means}
use Rattle.point_text.specs.declared.line.Line.{Line}
use Rattle.point_text.specs.declared.line.Line.TheVariants.{Nothing, EndOfSet, Scale, Point, Bad, OutOfRange}
use Rattle.point_text.proofs.FieldLaws.{no_separator, no_scale}

-- only a bad line is said to be bad
pub bad_line_is : {P : Type 0} (line : Line P) (meaning : Meaning P) → Means line meaning → meaning ≡ bad_form → line ≡ Bad
bad_line_is Nothing meaning is bad = cc
bad_line_is EndOfSet meaning is bad = cc
bad_line_is (Scale size) meaning (scale, is, clamped) bad = cc
bad_line_is (Point p) meaning is bad = cc
bad_line_is Bad meaning is bad = refl
bad_line_is OutOfRange meaning is bad = cc

-- where the numbers say something, there is a first one, and so no word
pub numbers_said : {P : Type 0} (say : List (Option ℤ) → Meaning P) → (say [] ≡ bad_form) × ((more : List (Option ℤ)) → say (None ∷ more) ≡ bad_form) → (fields : List (List ℕ))
    → (say (map number fields) ≡ bad_form → ⊥) → say (map number fields) ≡ fields_meaning say fields
numbers_said say laws [] some = absurd (some laws.0)
numbers_said say laws (a ∷ fields) some = by (number a) refl fields
  where
    by : (n : Option ℤ) → number a ≡ n → (rest : List (List ℕ)) → say (map number (a ∷ fields)) ≡ fields_meaning say (a ∷ fields)
    by None none rest = absurd (some (ap (λ n. say (n ∷ map number fields)) none ∙ laws.1 (map number fields)))
    by (Some z) is rest = whole fields
      where
        whole : (rest : List (List ℕ)) → say (map number (a ∷ rest)) ≡ fields_meaning say (a ∷ rest)
        whole [] = rw (no_separator a z is, no_scale a z is) refl
        whole (b ∷ rest) = rw (no_scale a z is) refl

-- a line that is not bad is read as its numbers
pub said_as_point : {P : Type 0} (say : List (Option ℤ) → Meaning P) → (say [] ≡ bad_form) × ((more : List (Option ℤ)) → say (None ∷ more) ≡ bad_form) → (fields : List (List ℕ))
    (line : Line P) → Means line (say (map number fields)) → (line ≡ Bad → ⊥) → Means line (fields_meaning say fields)
said_as_point say laws fields line is good =
    subst (Means line) (numbers_said say laws fields (λ bad. good (bad_line_is line (say (map number fields)) is bad))) is
