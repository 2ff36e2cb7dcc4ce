-- Formats of lists of lines, and what lines read as under them, up to the first refused line.
use Rattle.std.specs.Prelude.{ℕ, zero, suc, ◌+◌, ◌-◌, ℤ, not, if◌then◌else◌, List, [], ◌∷◌, ◌++◌, length, Option, Some, None, Result, Ok, Err}
use Rattle.bounds_model.specs.AnswerText.Fields.{Field, bounded, naturals}
use Rattle.bounds_model.specs.AnswerText.LineFormats.{LineFormat, titled, untitled, Values, form_of, are_small, are_in_range}

-- why a text is refused, and at which line
pub data Refusal : Type 0 where
  bad_answer : ℕ → Refusal  -- the line is not what the lines before it call for, or a number is outside its range
  big_number : ℕ → Refusal  -- a number of the line is past the limit

-- one step after another, up to the first refusal
infixl 10 ◌>>=◌
abbrev pub ◌>>=◌ : {A B : Type 0} → Result A Refusal → (A → Result B Refusal) → Result B Refusal
(Ok x) >>= f = f x
(Err refusal) >>= f = Err refusal

-- ---- the lines of a text, one after the other

-- the order of causes on one line: its form, then a number past the limit, then a number outside its range
abbrev pub judged : (fields : List Field) → ℕ → Option (Values fields) → Result (Values fields) Refusal
judged fields number None = Err (bad_answer number)
judged fields number (Some values) =
    if not (are_small fields values) then Err (big_number number) else if not (are_in_range fields values) then Err (bad_answer number) else Ok values

-- the lines that are not yet read, and the number of the first of them
pub record Unread : Type 0 where
  pub number : ℕ
  pub lines : List (List ℕ)

-- the next line; a line that is missing is refused
abbrev pub next_line : (format : LineFormat) → ℕ → List (List ℕ) → Result (Values format.fields × Unread) Refusal
next_line format number [] = Err (bad_answer number)
next_line format number (line ∷ lines) = do
  values ← judged format.fields number (form_of format line)
  Ok (values, record { number = number + 1; lines = lines })

-- the next of the lines that are not yet read
abbrev pub line_at : (format : LineFormat) → Unread → Result (Values format.fields × Unread) Refusal
line_at format unread = next_line format unread.number unread.lines

-- so many lines of one format
abbrev pub lines_at : ℕ → (format : LineFormat) → Unread → Result (List (Values format.fields) × Unread) Refusal
lines_at zero format unread = Ok ([], unread)
lines_at (suc count) format unread = do
  first ← line_at format unread
  others ← lines_at count format first.1
  Ok (first.0 ∷ others.0, others.1)

-- a line of numbers for each width, and all their numbers in order
abbrev pub rows_at : List ℕ → Unread → Result (List ℤ × Unread) Refusal
rows_at [] unread = Ok ([], unread)
rows_at (width ∷ widths) unread = do
  row ← line_at (untitled (naturals width ∷ [])) unread
  others ← rows_at widths row.1
  Ok (row.0.0 ++ others.0, others.1)

-- ---- lists of lines

-- the line of a count: a word and a number from a least to a greatest one
pub record Count : Type 0 where
  pub word : List ℕ
  pub low : ℕ
  pub high : ℕ

-- the format of that line
abbrev pub count_format : Count → LineFormat
count_format count = titled count.word (bounded count.low count.high ∷ [])

-- a part of a text
pub data Part : Type 0 where
  line : LineFormat → Part  -- one line
  counted : Count → ℕ → List Field → Part  -- the line of a count, and as many lines, less a few
  count : Count → Part  -- the line of a count alone
  rows : (List ℕ → List ℕ) → Part  -- lines of numbers, whose widths the counts so far give, the latest first

-- what a part says
abbrev pub PartValue : Part → Type 0
PartValue (line format) = Values format.fields
PartValue (counted c less fields) = List (Values fields)
PartValue (count c) = ℕ
PartValue (rows widths) = List ℤ

-- the counts up to a part's end, the latest first
abbrev pub counts_after : (part : Part) → PartValue part → List ℕ → List ℕ
counts_after (line format) values counts = counts
counts_after (counted c less fields) values counts = (length values + less) ∷ counts
counts_after (count c) n counts = n ∷ counts
counts_after (rows widths) values counts = counts

-- what the next lines say as this part
abbrev pub part_at : (part : Part) → List ℕ → Unread → Result (PartValue part × Unread) Refusal
part_at (line format) counts unread = line_at format unread
part_at (counted c less fields) counts unread = do
  n ← line_at (count_format c) unread
  lines_at (n.0.0 - less) (untitled fields) n.1
part_at (count c) counts unread = do
  n ← line_at (count_format c) unread
  Ok (n.0.0, n.1)
part_at (rows widths) counts unread = rows_at (widths counts) unread

-- what parts say, one after the other
abbrev pub Body : List Part → Type 0
Body [] = Unit {0}
Body (part ∷ parts) = PartValue part × Body parts

-- what the next lines say as these parts
abbrev pub body_at : (parts : List Part) → List ℕ → Unread → Result (Body parts × Unread) Refusal
body_at [] counts unread = Ok (tt, unread)
body_at (part ∷ parts) counts unread = do
  first ← part_at part counts unread
  others ← body_at parts (counts_after part first.0 counts) first.1
  Ok ((first.0, others.0), others.1)
