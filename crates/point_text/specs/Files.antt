-- The text of a point file in each of its forms.
use Rattle.std.specs.Prelude.{ℕ, List, map}
use Rattle.std.specs.declared.result.Result.{Result}
use Rattle.csv.specs.Reading.{records, default_config, strip_bom}
use Rattle.bounds_model.specs.Asks.{Shape, one_plane, plane_or_bare, one_space, two_space, PointFile}
use Rattle.bounds_model.specs.PointText.{Refusal, fields_meaning, plane_meaning, space_meaning, judged, plane_set, plane_set_or_bare, space_set, space_sets, file_of_text}
use Rattle.point_text.specs.declared.text.Form.{Form}
use Rattle.point_text.specs.declared.text.Form.TheVariants.{Text, Csv}

-- the sets that lines of these fields say, in order, with their scale, or why one is refused: a line is refused and read as one of a text is that has
-- its fields
unfoldable pub file_of_fields : Shape → List (List (List ℕ)) → Result PointFile Refusal
file_of_fields one_plane lines = judged plane_set (map (fields_meaning plane_meaning) lines)
file_of_fields plane_or_bare lines = judged plane_set_or_bare (map (fields_meaning plane_meaning) lines)
file_of_fields one_space lines = judged space_set (map (fields_meaning space_meaning) lines)
file_of_fields two_space lines = judged space_sets (map (fields_meaning space_meaning) lines)

-- the records of a text of comma-separated fields, with no header row: each has one field or more
abbrev pub records_of : List ℕ → List (List (List ℕ))
records_of bytes = records default_config (strip_bom bytes)

-- the sets of a file in this form with their scale, or why it is refused: in a file of comma-separated fields a line is a record
abbrev pub file_of_bytes : Form → Shape → List ℕ → Result PointFile Refusal
file_of_bytes Text shape bytes = file_of_text shape bytes
file_of_bytes Csv shape bytes = file_of_fields shape (records_of bytes)
