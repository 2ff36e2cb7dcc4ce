-- The bytes that a format writes, from the words of a field up to a whole text.
use Rattle.std.specs.Prelude.{ℕ, ◌+◌, ℤ, List, [], ◌∷◌, ◌++◌, length, map, take, drop, decimal, codes}
use Rattle.std.specs.Fmt.{signed_decimal}
use Rattle.std.specs.List.{flat_map}
use Rattle.bounds_model.specs.Fractions.{Fraction}
use Rattle.bounds_model.specs.EmptyAnswer.{Blocker, side, point}
use Rattle.bounds_model.specs.AnswerText.Fields.{Field, number, natural, naturals, bounded, fraction, plane_ratio, space_ratio, blocker, Value}
use Rattle.bounds_model.specs.AnswerText.LineFormats.{LineFormat, untitled, Values}
use Rattle.bounds_model.specs.AnswerText.Formats.{count_format, Part, line, counted, count, rows, PartValue, counts_after, Body}
use Rattle.bounds_model.specs.AnswerText.Kinds.{Kind}
use Rattle.bounds_model.specs.AnswerText.Heads.{Format, plain, scaled, Head, whole_size, first_format, scale_format, size_format, last_format}

-- ---- words

-- numerator and denominator, parted by a slash
abbrev pub fraction_text : Fraction → List ℕ
fraction_text a = signed_decimal a.n ++ codes "/" ++ signed_decimal a.d

-- the frame's side, or the number of a point
abbrev pub blocker_text : Blocker → List ℕ
blocker_text side = codes "box"
blocker_text (point n) = decimal n

-- the words of a field
abbrev pub field_words : (field : Field) → Value field → List (List ℕ)
field_words number z = signed_decimal z ∷ []
field_words natural z = signed_decimal z ∷ []
field_words (naturals amount) zs = map signed_decimal zs
field_words (bounded low high) n = decimal n ∷ []
field_words fraction a = fraction_text a ∷ []
field_words plane_ratio c = signed_decimal c.x ∷ signed_decimal c.y ∷ signed_decimal c.w ∷ []
field_words space_ratio c = signed_decimal c.x ∷ signed_decimal c.y ∷ signed_decimal c.z ∷ signed_decimal c.w ∷ []
field_words blocker b = blocker_text b ∷ []

-- the words of the fields
abbrev pub values_words : (fields : List Field) → Values fields → List (List ℕ)
values_words [] values = []
values_words (field ∷ fields) values = field_words field values.0 ++ values_words fields values.1

-- ---- one line

-- the words of a line, parted by blanks and ended by a line feed
abbrev pub line_bytes : List (List ℕ) → List ℕ
line_bytes [] = 10 ∷ []
line_bytes (word ∷ []) = word ++ 10 ∷ []
line_bytes (word ∷ next ∷ words) = word ++ 32 ∷ line_bytes (next ∷ words)

-- the words of a line
abbrev pub line_words : (format : LineFormat) → Values format.fields → List (List ℕ)
line_words format values = format.words ++ values_words format.fields values

-- the bytes of a line
abbrev pub format_line : (format : LineFormat) → Values format.fields → List ℕ
format_line format values = line_bytes (line_words format values)

-- ---- several lines

-- the format of a row
abbrev pub row_format : ℕ → LineFormat
row_format width = untitled (naturals width ∷ [])

-- the bytes of rows of these widths
abbrev pub rows_bytes : List ℕ → List ℤ → List ℕ
rows_bytes [] zs = []
rows_bytes (width ∷ widths) zs = format_line (row_format width) (take width zs, tt) ++ rows_bytes widths (drop width zs)

-- the bytes of a part
abbrev pub part_bytes : (part : Part) → List ℕ → PartValue part → List ℕ
part_bytes (line format) counts values = format_line format values
part_bytes (counted c less fields) counts vs = format_line (count_format c) (length vs + less, tt) ++ flat_map (format_line (untitled fields)) vs
part_bytes (count c) counts n = format_line (count_format c) (n, tt)
part_bytes (rows widths) counts zs = rows_bytes (widths counts) zs

-- the bytes of parts, one after the other
abbrev pub body_bytes : (parts : List Part) → List ℕ → Body parts → List ℕ
body_bytes [] counts body = []
body_bytes (part ∷ parts) counts body = part_bytes part counts body.0 ++ body_bytes parts (counts_after part body.0 counts) body.1

-- ---- whole texts

-- the line of a size
unfoldable pub size_line : Fraction → List ℕ
size_line size = format_line size_format (size, tt)

-- the lines of a head
abbrev pub head_bytes : Format → Head → List ℕ
head_bytes plain head = format_line (first_format plain head.kind.name) tt ++ format_line size_format (head.size, tt)
head_bytes scaled head = format_line (first_format scaled head.kind.name) tt ++ (format_line scale_format (head.scale, tt) ++ format_line size_format (whole_size head, tt))

-- the text of a head and a body: the head, the body and the last line
abbrev pub text_bytes : Format → (head : Head) → Body head.kind.body → List ℕ
text_bytes format head body = head_bytes format head ++ (body_bytes head.kind.body [] body ++ format_line last_format tt)

-- the head of a size in whole units
abbrev pub plain_head : Kind → Fraction → Head
plain_head kind size = record { kind = kind; scale = 1; size = size }

-- the text of a kind in whole units
abbrev pub kind_bytes : (kind : Kind) → Fraction → Body kind.body → List ℕ
kind_bytes kind size body = text_bytes plain (plain_head kind size) body
