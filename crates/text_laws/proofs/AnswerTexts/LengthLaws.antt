-- How long lines, parts and bodies can be.
use Rattle.std.proofs.Common.{◌≡◌, ℕ, suc, ◌+◌, ◌*◌, ◌^◌, ◌≤◌, ℤ, pos, negsuc, true, ◌&&◌, List, [], ◌∷◌, ◌++◌, length, map, take, drop, ap, arith}
use Rattle.std.specs.Prelude.{decimal, ◌==◌, int_le}
use Rattle.std.specs.Fmt.{signed_decimal}
use Rattle.std.specs.List.{list_all, flat_map}
use Rattle.std.proofs.Math.Nat.{mul-le-mul_left}
use Rattle.std.proofs.lemmas.List.{length-append, take-append-drop}
use Rattle.std.proofs.lemmas.Bool.{eqb-true, leb-true}
use Rattle.std.proofs.lemmas.Fmt.{length-decimal-le_wide}
use Rattle.bounds_model.specs.EmptyAnswer.{Blocker, side, point}
use Rattle.bounds_model.specs.Ranges.{number_limit}
use Rattle.bounds_model.specs.AnswerText.Fields.{Field, number, natural, naturals, bounded, fraction, plane_ratio, space_ratio, blocker, Value, is_small, is_in_range}
use Rattle.bounds_model.specs.AnswerText.LineFormats.{LineFormat, untitled, Values}
use Rattle.bounds_model.specs.AnswerText.Formats.{count_format, Part, line, counted, count, rows, PartValue, counts_after, Body}
use Rattle.bounds_model.specs.AnswerText.Written.{blocker_text}
use Rattle.bounds_model.specs.AnswerText.Written.{field_words, values_words, line_bytes, line_words, format_line, row_format, rows_bytes, part_bytes, body_bytes}
use Rattle.text_laws.proofs.AnswerTexts.NumberLaws.{both_true}
use Rattle.text_laws.proofs.AnswerTexts.FieldLaws.{within}
use Rattle.text_laws.proofs.AnswerTexts.ValueLaws.{Fits, first_fits, rest_fits}
use Rattle.text_laws.proofs.AnswerTexts.BodyLaws.{AllFit, RowsFit, PartFits, BodyFits}
use Rattle.text_laws.proofs.AnswerTexts.RangeLaws.{line_ranges}

-- the bytes of words, each with a byte behind it
abbrev words_size : List (List ℕ) → ℕ
words_size [] = 0
words_size (word ∷ words) = length word + 1 + words_size words

-- the size of two lists of words
words_size-append : (xs ys : List (List ℕ)) → words_size (xs ++ ys) ≡ words_size xs + words_size ys
words_size-append [] ys = omega arith
words_size-append (x ∷ xs) ys = omega (arith, words_size-append xs ys)

-- a line is as long as its words, or a byte longer
length-line_bytes : (words : List (List ℕ)) → length (line_bytes words) ≤ 1 + words_size words
length-line_bytes [] = omega arith
length-line_bytes (word ∷ []) = omega (arith, length-append word (10 ∷ []))
length-line_bytes (word ∷ next ∷ words) = omega (arith, length-append word (32 ∷ line_bytes (next ∷ words)), length-line_bytes (next ∷ words))

-- ---- fields

-- a number has 38 digits at most
decimal_length : (n : ℕ) → within (pos n) ≡ true → length (decimal n) ≤ 38
decimal_length n e = let le : n ≤ 2 ^ 126 = leb-true n number_limit e in length-decimal-le_wide 38 n (omega arith) (omega arith) (omega arith)

-- and a sign
signed_length : (z : ℤ) → within z ≡ true → length (signed_decimal z) ≤ 39
signed_length (pos n) e = omega (arith, decimal_length n e)
signed_length (negsuc n) e = let le : suc n ≤ 2 ^ 126 = leb-true (suc n) number_limit e in let most : length (decimal (suc n)) ≤ 38 = length-decimal-le_wide 38 (suc n) (omega arith) (omega arith) (omega arith) in omega arith

-- several numbers
numbers_length : (zs : List ℤ) → list_all within zs ≡ true → words_size (map signed_decimal zs) ≤ 40 * length zs
numbers_length [] e = omega arith
numbers_length (z ∷ zs) e =
    let parts = both_true (within z) (list_all within zs) e in
    omega (arith, signed_length z parts.0, numbers_length zs parts.1)

-- how long the words of a field can be
abbrev field_bound : Field → ℕ
field_bound (naturals amount) = 40 * amount
field_bound fraction = 80
field_bound plane_ratio = 120
field_bound space_ratio = 160
field_bound field = 40

-- a blocker
blocker_length : (b : Blocker) → is_small blocker b ≡ true → length (blocker_text b) ≤ 38
blocker_length side e = omega arith
blocker_length (point n) e = decimal_length n (both_true (within (pos n)) true e).0

-- the words of a field are no longer
field_length : (field : Field) (v : Value field) → is_small field v ≡ true → is_in_range field v ≡ true → words_size (field_words field v) ≤ field_bound field
field_length number z small range = numbers_length (z ∷ []) small
field_length natural z small range = numbers_length (z ∷ []) small
field_length (naturals amount) zs small range =
    let is : length zs ≡ amount = eqb-true (length zs) amount (both_true (length zs == amount) (list_all (λ z. int_le (pos 0) z) zs) range).0 in
    omega (arith, numbers_length zs small)
field_length (bounded low high) n small range = omega (arith, decimal_length n (both_true (within (pos n)) true small).0)
field_length fraction a small range =
    let n = both_true (within a.n) (within a.d && true) small in
    let d = both_true (within a.d) true n.1 in
    omega (arith, length-append (signed_decimal a.n ++ 47 ∷ []) (signed_decimal a.d), length-append (signed_decimal a.n) (47 ∷ []), signed_length a.n n.0, signed_length a.d d.0)
field_length plane_ratio c small range = numbers_length (c.x ∷ c.y ∷ c.w ∷ []) small
field_length space_ratio c small range = numbers_length (c.x ∷ c.y ∷ c.z ∷ c.w ∷ []) small
field_length blocker b small range = omega (arith, blocker_length b small)

-- ---- lines

-- how long the words of fields can be
abbrev fields_bound : List Field → ℕ
fields_bound [] = 0
fields_bound (field ∷ fields) = field_bound field + fields_bound fields

-- they are no longer
fields_length : (fields : List Field) (values : Values fields) → Fits fields values → words_size (values_words fields values) ≤ fields_bound fields
fields_length [] values fits = omega arith
fields_length (field ∷ fields) values fits =
    let first = first_fits field fields values fits in
    omega (arith, words_size-append (field_words field values.0) (values_words fields values.1), field_length field values.0 first.0 first.1, fields_length fields values.1 (rest_fits field fields values fits))

-- how long a line can be
abbrev pub line_bound : LineFormat → ℕ
line_bound format = 1 + words_size format.words + fields_bound format.fields

-- a line is no longer
pub line_length : (format : LineFormat) (values : Values format.fields) → Fits format.fields values → length (format_line format values) ≤ line_bound format
line_length format values fits =
    omega (arith, length-line_bytes (line_words format values), words_size-append format.words (values_words format.fields values), fields_length format.fields values fits)

-- lines of one format are no longer
lines_length : (format : LineFormat) (vs : List (Values format.fields)) → AllFit format vs → length (flat_map (format_line format) vs) ≤ line_bound format * length vs
lines_length format [] fits = omega arith
lines_length format (v ∷ vs) fits = omega (arith, length-append (format_line format v) (flat_map (format_line format) vs), line_length format v fits.0, lines_length format vs fits.1)

-- a row of no numbers is a line feed, and one of some numbers has no more than 41 bytes for each
rows_length : (widths : List ℕ) (zs : List ℤ) → RowsFit widths zs → length (rows_bytes widths zs) ≤ length widths + 40 * length zs
rows_length [] zs fits = omega arith
rows_length (width ∷ widths) zs fits =
    let row = line_length (row_format width) (take width zs, tt) fits.0 in
    let amount = (line_ranges (naturals width ∷ []) (take width zs, tt) fits.0).0.0 in
    let whole : length zs ≡ width + length (drop width zs) = omega (arith, ap length (take-append-drop width zs), length-append (take width zs) (drop width zs)) in
    omega (arith, length-append (format_line (row_format width) (take width zs, tt)) (rows_bytes widths (drop width zs)), rows_length widths (drop width zs) fits.1)

-- ---- parts and bodies

-- how long a part can be
abbrev pub part_bound : (part : Part) → List ℕ → PartValue part → ℕ
part_bound (line format) counts values = line_bound format
part_bound (counted c less fields) counts values = line_bound (count_format c) + line_bound (untitled fields) * c.high
part_bound (count c) counts n = line_bound (count_format c)
part_bound (rows widths) counts zs = length (widths counts) + 40 * length zs

-- a part is no longer
part_length : (part : Part) (counts : List ℕ) (v : PartValue part) → PartFits part counts v → length (part_bytes part counts v) ≤ part_bound part counts v
part_length (line format) counts values fits = line_length format values fits
part_length (counted c less fields) counts vs fits =
    let range = (line_ranges (bounded c.low c.high ∷ []) (length vs + less, tt) fits.0).0 in
    let most : length vs ≤ c.high = omega (arith, range.1) in
    omega (arith, length-append (format_line (count_format c) (length vs + less, tt)) (flat_map (format_line (untitled fields)) vs), line_length (count_format c) (length vs + less, tt) fits.0, lines_length (untitled fields) vs fits.1, mul-le-mul_left (line_bound (untitled fields)) most)
part_length (count c) counts n fits = line_length (count_format c) (n, tt) fits
part_length (rows widths) counts zs fits = rows_length (widths counts) zs fits

-- how long a body can be
abbrev pub body_bound : (parts : List Part) → List ℕ → Body parts → ℕ
body_bound [] counts body = 0
body_bound (part ∷ parts) counts body = part_bound part counts body.0 + body_bound parts (counts_after part body.0 counts) body.1

-- a body is no longer
pub body_length : (parts : List Part) (counts : List ℕ) (body : Body parts) → BodyFits parts counts body → length (body_bytes parts counts body) ≤ body_bound parts counts body
body_length [] counts body fits = omega arith
body_length (part ∷ parts) counts body fits =
    let after = counts_after part body.0 counts in
    omega (arith, length-append (part_bytes part counts body.0) (body_bytes parts after body.1), part_length part counts body.0 fits.0, body_length parts after body.1 fits.1)
