-- The lines of a text by the parts between its line feeds.
use Rattle.std.proofs.Common.{◌≡◌, ◌∙◌, refl, sym, ap, ℕ, ◌<◌, Bool, true, false, cond, List, [], ◌∷◌, ◌++◌, map, length, arith}
use Rattle.std.specs.List.{onto_first, slice_split}
use Rattle.std.proofs.lemmas.List.{map-append}
use Rattle.std.proofs.lemmas.List.Splits.{length-slice_split}
use Rattle.bounds_model.specs.Asks.{Shape}
use Rattle.bounds_model.specs.PointText.{is_line_feed, text_lines, file_of_text}
use Rattle.point_text.specs.Files.{file_of_fields}
use Rattle.point_text.specs.Reading.{line_fields}
use Rattle.point_text.specs.Keeping.{fields_keep_point, KeepsPoint}
use Rattle.point_text.proofs.Judging.{text_fields, fields_nothing}
use Rattle.point_text.proofs.KeptPoints.{fields_keep_more, fields_keep_nothing}

-- the parts without the last one, where that is empty
abbrev lines_of_parts : List (List ℕ) → List (List ℕ)
lines_of_parts [] = []
lines_of_parts ([] ∷ []) = []
lines_of_parts ((b ∷ part) ∷ []) = (b ∷ part) ∷ []
lines_of_parts (part ∷ next ∷ parts) = part ∷ lines_of_parts (next ∷ parts)

parts_onto : (b : ℕ) (parts : List (List ℕ)) → 0 < length parts → onto_first b (lines_of_parts parts) ≡ lines_of_parts (onto_first b parts)
parts_onto b [] some = absurd (omega arith)
parts_onto b ([] ∷ []) some = refl
parts_onto b ((c ∷ part) ∷ []) some = refl
parts_onto b ([] ∷ next ∷ parts) some = refl
parts_onto b ((c ∷ part) ∷ next ∷ parts) some = refl

parts_begun : (parts : List (List ℕ)) → 0 < length parts → [] ∷ lines_of_parts parts ≡ lines_of_parts ([] ∷ parts)
parts_begun [] some = absurd (omega arith)
parts_begun (part ∷ parts) some = refl

text_lines-parts : (bytes : List ℕ) → text_lines bytes ≡ lines_of_parts (slice_split is_line_feed bytes)
text_lines-parts [] = refl
text_lines-parts (b ∷ rest) = by (is_line_feed b) (text_lines-parts rest)
  where
    some : 0 < length (slice_split is_line_feed rest)
    some = let many = length-slice_split is_line_feed rest in omega (arith, many)

    by : (t : Bool) → text_lines rest ≡ lines_of_parts (slice_split is_line_feed rest)
        → cond t ([] ∷ text_lines rest) (onto_first b (text_lines rest)) ≡ lines_of_parts (cond t ([] ∷ slice_split is_line_feed rest) (onto_first b (slice_split is_line_feed rest)))
    by true more = ap (λ lines. [] ∷ lines) more ∙ parts_begun (slice_split is_line_feed rest) some
    by false more = ap (onto_first b) more ∙ parts_onto b (slice_split is_line_feed rest) some

lines_before_none : (whole : List (List ℕ)) → lines_of_parts (whole ++ [] ∷ []) ≡ whole
lines_before_none [] = refl
lines_before_none (part ∷ []) = refl
lines_before_none (part ∷ next ∷ whole) = ap (λ parts. part ∷ parts) (lines_before_none (next ∷ whole))

lines_before_some : (b : ℕ) (last : List ℕ) (whole : List (List ℕ)) → lines_of_parts (whole ++ (b ∷ last) ∷ []) ≡ whole ++ (b ∷ last) ∷ []
lines_before_some b last [] = refl
lines_before_some b last (part ∷ []) = refl
lines_before_some b last (part ∷ next ∷ whole) = ap (λ parts. part ∷ parts) (lines_before_some b last (next ∷ whole))

-- the lines are these parts, or all of them but the last, where it is empty
text_lines-of_parts : (bytes : List ℕ) (whole : List (List ℕ)) (last : List ℕ) → slice_split is_line_feed bytes ≡ whole ++ last ∷ []
    → text_lines bytes ≡ lines_of_parts (whole ++ last ∷ [])
text_lines-of_parts bytes whole last is = text_lines-parts bytes ∙ ap lines_of_parts is

-- of a text a point is kept where one is of its whole lines
pub text_keeps : (shape : Shape) (bytes : List ℕ) (whole : List (List ℕ)) (last : List ℕ) → slice_split is_line_feed bytes ≡ whole ++ last ∷ []
    → fields_keep_point shape (map line_fields whole) ≡ true → KeepsPoint shape bytes
text_keeps shape bytes whole [] is keeps =
    let lines : text_lines bytes ≡ whole = text_lines-of_parts bytes whole [] is ∙ lines_before_none whole in
    ap (λ ls. fields_keep_point shape (map line_fields ls)) lines ∙ keeps
text_keeps shape bytes whole (b ∷ last) is keeps =
    let lines : text_lines bytes ≡ whole ++ (b ∷ last) ∷ [] = text_lines-of_parts bytes whole (b ∷ last) is ∙ lines_before_some b last whole in
    ap (λ ls. fields_keep_point shape (map line_fields ls)) lines
    ∙ (ap (fields_keep_point shape) (map-append line_fields whole ((b ∷ last) ∷ [])) ∙ fields_keep_more shape (map line_fields whole) (line_fields (b ∷ last) ∷ []) keeps)

-- so it is where one is of all its parts: an empty one keeps none
pub text_keeps-last : (shape : Shape) (bytes : List ℕ) (whole : List (List ℕ)) (last : List ℕ) → slice_split is_line_feed bytes ≡ whole ++ last ∷ []
    → fields_keep_point shape (map line_fields whole ++ line_fields last ∷ []) ≡ true → KeepsPoint shape bytes
text_keeps-last shape bytes whole [] is keeps = text_keeps shape bytes whole [] is (sym (fields_keep_nothing shape (map line_fields whole)) ∙ keeps)
text_keeps-last shape bytes whole (b ∷ last) is keeps =
    let lines : text_lines bytes ≡ whole ++ (b ∷ last) ∷ [] = text_lines-of_parts bytes whole (b ∷ last) is ∙ lines_before_some b last whole in
    ap (λ ls. fields_keep_point shape (map line_fields ls)) lines ∙ (ap (fields_keep_point shape) (map-append line_fields whole ((b ∷ last) ∷ [])) ∙ keeps)

-- a text is judged as its parts are, the last one too where it is empty
pub text_parts : (shape : Shape) (bytes : List ℕ) (whole : List (List ℕ)) (last : List ℕ) → slice_split is_line_feed bytes ≡ whole ++ last ∷ []
    → file_of_text shape bytes ≡ file_of_fields shape (map line_fields whole ++ line_fields last ∷ [])
text_parts shape bytes whole [] is =
    let lines : text_lines bytes ≡ whole = text_lines-parts bytes ∙ (ap lines_of_parts is ∙ lines_before_none whole) in
    text_fields shape bytes ∙ (ap (λ ls. file_of_fields shape (map line_fields ls)) lines ∙ sym (fields_nothing shape (map line_fields whole)))
text_parts shape bytes whole (b ∷ last) is =
    let lines : text_lines bytes ≡ whole ++ (b ∷ last) ∷ [] = text_lines-parts bytes ∙ (ap lines_of_parts is ∙ lines_before_some b last whole) in
    text_fields shape bytes ∙ (ap (λ ls. file_of_fields shape (map line_fields ls)) lines ∙ ap (file_of_fields shape) (map-append line_fields whole ((b ∷ last) ∷ [])))
