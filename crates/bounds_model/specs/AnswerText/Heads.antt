-- The head of a text, in two formats: the line that names the format and the kind, the scale where the format has one, and the size.
use Rattle.std.specs.Prelude.{ℕ, ◌^◌, nat_abs, nat_le, find, is_ok, if◌then◌else◌, List, [], ◌∷◌, codes, Option, Some, None, Result, Ok, Err}
use Rattle.bounds_model.specs.Fractions.{Fraction, lowest_form, over, multiple}
use Rattle.bounds_model.specs.Ranges.{number_limit}
use Rattle.bounds_model.specs.Asks.{scale_limit}
use Rattle.bounds_model.specs.AnswerText.Fields.{bounded, fraction}
use Rattle.bounds_model.specs.AnswerText.LineFormats.{LineFormat, titled}
use Rattle.bounds_model.specs.AnswerText.Formats.{Refusal, bad_answer, ◌>>=◌, Unread, line_at}
use Rattle.bounds_model.specs.AnswerText.Kinds.{Kind}

-- a format of texts
pub data Format : Type 0 where
  plain : Format  -- numbers in whole units
  scaled : Format  -- numbers in units of a file, of which a scale makes a whole one

-- its number
abbrev pub format_word : Format → List ℕ
format_word plain = codes "1"
format_word scaled = codes "2"

-- ---- the lines that all kinds have

-- the first line, which names the format and the kind
abbrev pub first_format : Format → List ℕ → LineFormat
first_format format name = record { words = codes "answer" ∷ format_word format ∷ name ∷ []; fields = [] }

-- the line of the scale; a scale of 1 is not written
abbrev pub scale_format : LineFormat
scale_format = titled (codes "scale") (bounded 2 scale_limit ∷ [])

-- the line of the size, which is given in whole units
abbrev pub size_format : LineFormat
size_format = titled (codes "size") (fraction ∷ [])

-- the last line
abbrev pub last_format : LineFormat
last_format = titled (codes "end") []

-- ---- the head

-- what a head says: the kind, the scale, and the size in units of the file
pub record Head : Type 0 where
  pub kind : Kind
  pub scale : ℕ
  pub size : Fraction

-- the size in whole units
abbrev pub whole_size : Head → Fraction
whole_size head = lowest_form (over (head.scale ^ head.kind.power) head.size)

-- a size in units of the file, unless its numerator is past the limit
abbrev pub size_within : ℕ → Fraction → Result Fraction Refusal
size_within number own = if nat_le (nat_abs own.n) number_limit then Ok own else Err (bad_answer number)

-- the size in units of the file, of a size in whole units on the line of this number
abbrev pub own_size : Kind → ℕ → ℕ → Fraction → Result Fraction Refusal
own_size kind scale number size = size_within number (lowest_form (multiple (scale ^ kind.power) size))

-- the scale and the size behind the first line
abbrev pub sizes_at : Format → Kind → Unread → Result (Head × Unread) Refusal
sizes_at plain kind unread = do
  size ← line_at size_format unread
  Ok (record { kind = kind; scale = 1; size = size.0.0 }, size.1)
sizes_at scaled kind unread = do
  scale ← line_at scale_format unread
  size ← line_at size_format scale.1
  own ← own_size kind scale.0.0 scale.1.number size.0.0
  Ok (record { kind = kind; scale = scale.0.0; size = own }, size.1)

-- ---- the first line

-- what a first line names
pub record Named : Type 0 where
  pub format : Format
  pub kind : Kind

-- the one of the known kinds that the first line names in a format
abbrev pub kind_of : Format → List Kind → Unread → Option Kind
kind_of format known unread = find (λ kind. is_ok (line_at (first_format format kind.name) unread)) known

-- a kind that was found in this format, or what was found in others
abbrev pub named_or : Format → Option Kind → Option Named → Option Named
named_or format (Some kind) others = Some (record { format = format; kind = kind })
named_or format None others = others

-- the first of the known formats in which the first line names a known kind, and that kind
abbrev pub named_by : List Format → List Kind → Unread → Option Named
named_by [] known unread = None
named_by (format ∷ formats) known unread = named_or format (kind_of format known unread) (named_by formats known unread)

-- the head of this format and kind; a first line that names none is refused
abbrev pub head_of : Option Named → Unread → Result (Head × Unread) Refusal
head_of None unread = Err (bad_answer unread.number)
head_of (Some named) unread = do
  first ← line_at (first_format named.format named.kind.name) unread
  sizes_at named.format named.kind first.1

-- the head of a text, where these formats and kinds are known
abbrev pub head_at : List Format → List Kind → Unread → Result (Head × Unread) Refusal
head_at formats known unread = head_of (named_by formats known unread) unread
