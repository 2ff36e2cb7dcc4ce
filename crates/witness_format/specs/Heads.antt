-- What the code keeps of a head, in the words of the model, and the first line by its words.
use Rattle.std.specs.Prelude.{ℕ, ◌++◌, List, [], ◌∷◌, find, is_some, Result, Ok, Err}
use Rattle.std.specs.declared.option.Option.{Option}
use Rattle.std.specs.declared.option.Option.TheVariants.{Some, None}
use Rattle.bounds_model.specs.Fractions.{Fraction}
use Rattle.bounds_model.specs.AnswerText.Formats.{Refusal, bad_answer, ◌>>=◌, Unread, line_at}
use Rattle.bounds_model.specs.AnswerText.Kinds.{Kind}
use Rattle.bounds_model.specs.AnswerText.Heads as model
use Rattle.bounds_model.specs.AnswerText.Heads.{plain, scaled, first_format, scale_format, size_format, named_or, named_by}
use Rattle.bounds_model.specs.AnswerText.Written.{format_line}
use Rattle.witness_format.specs.declared.head.Format.{Format}
use Rattle.witness_format.specs.declared.head.Format.TheVariants.{Plain, Scaled}
use Rattle.witness_format.specs.declared.head.Formats.{Formats}
use Rattle.witness_format.specs.declared.head.Formats.TheVariants.{PlainAlone, Both}
use Rattle.witness_format.specs.declared.head.Named.{Named}
use Rattle.witness_format.specs.declared.head.Head.{Head}
use Rattle.answer_lines.specs.Judging.{said}
use Rattle.witness_format.specs.Kinds.{format_of}

-- ---- in the words of the model

-- a format of texts
abbrev pub text_format : Format → model.Format
text_format Plain = plain
text_format Scaled = scaled

-- the formats that are known
abbrev pub known_formats : Formats → List model.Format
known_formats PlainAlone = plain ∷ []
known_formats Both = plain ∷ scaled ∷ []

-- what a first line names
abbrev pub named_of : Named → model.Named
named_of named = record { format = text_format named.format; kind = format_of named.kind }

-- a head
abbrev pub head_of : Head → model.Head
head_of head = record { kind = format_of head.kind; scale = head.scale; size = head.size }

-- ---- the first line

-- the first of these kinds that the words of the first line name in a format
abbrev pub kind_in : model.Format → List (List ℕ) → List Kind → Option Kind
kind_in format words kinds = find (λ kind. is_some (said (first_format format kind.name) words)) kinds

-- the first of these formats in which they name a kind, and that kind
abbrev pub named_in : List model.Format → List (List ℕ) → List Kind → Option model.Named
named_in [] words kinds = None
named_in (format ∷ formats) words kinds = named_or format (kind_in format words kinds) (named_in formats words kinds)

-- the lines behind a first line that names this
abbrev pub behind : Option model.Named → Unread → Result (model.Named × Unread) Refusal
behind None unread = Err (bad_answer unread.number)
behind (Some named) unread = line_at (first_format named.format named.kind.name) unread >>= λ first. Ok (named, first.1)

-- what the first line names, and the lines behind it; a line that names nothing is refused
abbrev pub first_at : List model.Format → List Kind → Unread → Result (model.Named × Unread) Refusal
first_at formats kinds unread = behind (named_by formats kinds unread) unread

-- ---- the bytes

-- the lines of a head whose size is given as it is written
abbrev pub head_lines : model.Format → List ℕ → ℕ → Fraction → List ℕ
head_lines plain name scale size = format_line (first_format plain name) tt ++ format_line size_format (size, tt)
head_lines scaled name scale size = format_line (first_format scaled name) tt ++ (format_line scale_format (scale, tt) ++ format_line size_format (size, tt))
