-- A text is judged as the fields of its lines are.
use Rattle.std.proofs.Common.{◌≡◌, ◌∙◌, refl, ap, ℕ, Bool, true, false, List, [], ◌∷◌, ◌++◌, map}
use Rattle.std.proofs.lemmas.List.{map-append}
use Rattle.bounds_model.specs.Asks.{Shape, one_plane, plane_or_bare, one_space, two_space}
use Rattle.bounds_model.specs.PointText.{judged, fields_meaning, line_meaning, plane_meaning, space_meaning, plane_set, plane_set_or_bare, space_set, space_sets, text_lines, file_of_text}
use Rattle.point_text.specs.Files.{file_of_fields}
use Rattle.point_text.specs.Judged.{plane_meanings, space_meanings, plane_shape, plane_outcome, space_shape, space_outcome}
use Rattle.point_text.specs.Reading.{line_fields}
use Rattle.point_text.proofs.Refusing.{judged_nothing}

-- ---- the shapes that are called for

pub plane_called : (may_be_bare : Bool) (lines : List (List (List ℕ))) → file_of_fields (plane_shape may_be_bare) lines ≡ judged (plane_outcome may_be_bare) (plane_meanings lines)
unfolding file_of_fields
plane_called true lines = refl
plane_called false lines = refl

pub space_called : (are_two : Bool) (lines : List (List (List ℕ))) → file_of_fields (space_shape are_two) lines ≡ judged (space_outcome are_two) (space_meanings lines)
unfolding file_of_fields
space_called true lines = refl
space_called false lines = refl

-- ---- lines of a text

plane_lines : (lines : List (List ℕ)) → map (line_meaning plane_meaning) lines ≡ plane_meanings (map line_fields lines)
plane_lines [] = refl
plane_lines (line ∷ lines) = ap (λ rest. line_meaning plane_meaning line ∷ rest) (plane_lines lines)

space_lines : (lines : List (List ℕ)) → map (line_meaning space_meaning) lines ≡ space_meanings (map line_fields lines)
space_lines [] = refl
space_lines (line ∷ lines) = ap (λ rest. line_meaning space_meaning line ∷ rest) (space_lines lines)

pub text_fields : (shape : Shape) (bytes : List ℕ) → file_of_text shape bytes ≡ file_of_fields shape (map line_fields (text_lines bytes))
unfolding file_of_text file_of_fields
text_fields one_plane bytes = ap (judged plane_set) (plane_lines (text_lines bytes))
text_fields plane_or_bare bytes = ap (judged plane_set_or_bare) (plane_lines (text_lines bytes))
text_fields one_space bytes = ap (judged space_set) (space_lines (text_lines bytes))
text_fields two_space bytes = ap (judged space_sets) (space_lines (text_lines bytes))

-- ---- a line without fields

plane_nothing : (judge : List (List _) → _) (lines : List (List (List ℕ))) → judged judge (plane_meanings (lines ++ [] ∷ [])) ≡ judged judge (plane_meanings lines)
plane_nothing judge lines = ap (judged judge) (map-append (fields_meaning plane_meaning) lines ([] ∷ [])) ∙ judged_nothing judge (plane_meanings lines)

space_nothing : (judge : List (List _) → _) (lines : List (List (List ℕ))) → judged judge (space_meanings (lines ++ [] ∷ [])) ≡ judged judge (space_meanings lines)
space_nothing judge lines = ap (judged judge) (map-append (fields_meaning space_meaning) lines ([] ∷ [])) ∙ judged_nothing judge (space_meanings lines)

pub fields_nothing : (shape : Shape) (lines : List (List (List ℕ))) → file_of_fields shape (lines ++ [] ∷ []) ≡ file_of_fields shape lines
unfolding file_of_fields
fields_nothing one_plane lines = plane_nothing plane_set lines
fields_nothing plane_or_bare lines = plane_nothing plane_set_or_bare lines
fields_nothing one_space lines = space_nothing space_set lines
fields_nothing two_space lines = space_nothing space_sets lines
