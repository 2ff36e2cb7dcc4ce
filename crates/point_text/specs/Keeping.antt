-- Texts of which a point is kept.
use Rattle.std.specs.Prelude.{◌≡◌, ⊤, ℕ, Bool, true, false, ◌&&◌, not, List, [], ◌∷◌, ◌++◌, map}
use Rattle.std.specs.Option.{is_some}
use Rattle.bounds_model.specs.Asks.{Shape, one_plane, plane_or_bare, one_space, two_space}
use Rattle.bounds_model.specs.PointText.{Meaning, says_point, line_refusal, fields_meaning, plane_meaning, space_meaning, text_lines, fields_of, content}
use Rattle.point_text.specs.declared.text.Form.{Form}
use Rattle.point_text.specs.declared.text.Form.TheVariants.{Text, Csv}

-- whether one of the lines that follow these says a point, and none before it is refused
abbrev pub keeps_behind : {P : Type 0} → List (Meaning P) → List (Meaning P) → Bool
keeps_behind before [] = false
keeps_behind before (says_point p ∷ rest) = true
keeps_behind before (line ∷ rest) = not (is_some (line_refusal before line)) && keeps_behind (before ++ line ∷ []) rest

-- whether a line says a point, and no line before it is refused
abbrev pub keeps_point : {P : Type 0} → List (Meaning P) → Bool
keeps_point lines = keeps_behind [] lines

-- the same of lines with these fields, read for sets of this shape
abbrev pub fields_keep_point : Shape → List (List (List ℕ)) → Bool
fields_keep_point one_plane lines = keeps_point (map (fields_meaning plane_meaning) lines)
fields_keep_point plane_or_bare lines = keeps_point (map (fields_meaning plane_meaning) lines)
fields_keep_point one_space lines = keeps_point (map (fields_meaning space_meaning) lines)
fields_keep_point two_space lines = keeps_point (map (fields_meaning space_meaning) lines)

-- the same of a text
abbrev pub KeepsPoint : Shape → List ℕ → Type 0
KeepsPoint shape bytes = fields_keep_point shape (map (λ line. fields_of (content line)) (text_lines bytes)) ≡ true

-- a file in this form may want memory: a text only where a point is kept, and records always, since their reader takes some for itself
abbrev pub MayWantMemory : Form → Shape → List ℕ → Type 0
MayWantMemory Text shape bytes = KeepsPoint shape bytes
MayWantMemory Csv shape bytes = ⊤
