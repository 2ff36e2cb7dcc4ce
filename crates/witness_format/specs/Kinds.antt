-- The kinds of answers, where memory may be wanting for them, and how a report of a kind is read behind its head.
use Rattle.std.specs.Prelude.{ℕ, Bool, false, true, ◌||◌, nat_lt, List, [], ◌∷◌, Result, Ok, Err}
use Rattle.bounds_model.specs.Fractions.{Fraction}
use Rattle.bounds_model.specs.Answers.{Answer}
use Rattle.bounds_model.specs.Reports.{Report}
use Rattle.bounds_model.specs.AnswerText.Formats.{Refusal, ◌>>=◌, Unread, line_at, Part, line, counted, count, rows, body_at}
use Rattle.bounds_model.specs.AnswerText.Kinds.{Kind, circle_kind, sphere_kind, rectangle_kind, parallelogram_kind, strip_kind, annulus_kind, empty_kind, kgon_kind, distance_kind, centres_kind, furthest_kind, four_kind, shell_kind}
use Rattle.bounds_model.specs.AnswerText.Heads.{Format, plain, Head, head_at, last_format}
use Rattle.bounds_model.specs.AnswerText.Reading.{ended}
use Rattle.witness_format.specs.declared.kinds.AnswerKind.{AnswerKind}
use Rattle.witness_format.specs.declared.kinds.AnswerKind.TheVariants.{Circle, Sphere, Rectangle, Parallelogram, Strip, Annulus, Empty, Kgon, Distance, Centres, Furthest, Four, Shell}

-- ---- the kinds

-- the kinds of one object around all points
abbrev pub enclosing : List Kind
enclosing = circle_kind ∷ sphere_kind ∷ rectangle_kind ∷ strip_kind ∷ parallelogram_kind ∷ annulus_kind ∷ []

-- the other kinds
abbrev pub others : List Kind
others = empty_kind ∷ kgon_kind ∷ distance_kind ∷ centres_kind ∷ furthest_kind ∷ four_kind ∷ shell_kind ∷ []

-- the format of a kind
abbrev pub format_of : AnswerKind → Kind
format_of Circle = circle_kind
format_of Sphere = sphere_kind
format_of Rectangle = rectangle_kind
format_of Parallelogram = parallelogram_kind
format_of Strip = strip_kind
format_of Annulus = annulus_kind
format_of Empty = empty_kind
format_of Kgon = kgon_kind
format_of Distance = distance_kind
format_of Centres = centres_kind
format_of Furthest = furthest_kind
format_of Four = four_kind
format_of Shell = shell_kind

-- ---- memory

-- there is a list that an answer does not hold in itself: one of more than 16 lines, or rows of numbers
abbrev pub has_list : List Part → Bool
has_list [] = false
has_list (line format ∷ parts) = has_list parts
has_list (counted c less fields ∷ parts) = nat_lt 16 c.high || has_list parts
has_list (count c ∷ parts) = has_list parts
has_list (rows widths ∷ parts) = true

-- memory may be wanting where this is so
abbrev pub WantsIf : Bool → Type 0
WantsIf true = Unit {0}
WantsIf false = ⊥

-- memory may be wanting for answers of a kind with such a list, and for no others
abbrev pub MayWant : Kind → Type 0
MayWant kind = WantsIf (has_list kind.body)

-- a head was read, and names such a kind
abbrev pub HeadMayWant : Result (Head × Unread) Refusal → Type 0
HeadMayWant (Ok head) = MayWant head.0.kind
HeadMayWant (Err refusal) = ⊥

-- the head of a text names such a kind, where these formats and kinds are known
abbrev pub ReportMayWant : List Format → List Kind → Unread → Type 0
ReportMayWant formats kinds unread = HeadMayWant (head_at formats kinds unread)

-- the head of a text in whole units names such a kind
abbrev pub TextMayWant : List Kind → Unread → Type 0
TextMayWant kinds unread = ReportMayWant (plain ∷ []) kinds unread

-- ---- the lines behind the head

-- what the lines behind the size say as an answer of this kind, and the lines behind them
abbrev pub body_of : Kind → Fraction → Unread → Result (Answer × Unread) Refusal
body_of kind size unread = body_at kind.body [] unread >>= λ body. Ok (kind.answer size body.0, body.1)

-- the last line, and nothing behind it
abbrev pub closed : ℕ → Answer → Unread → Result Report Refusal
closed scale answer unread = line_at last_format unread >>= λ last. ended (record { scale = scale; answer = answer }) last.1.number last.1.lines

-- what all lines say as a report of the kind that the head names
abbrev pub report_by : List Format → List Kind → Unread → Result Report Refusal
report_by formats kinds unread = do
  head ← head_at formats kinds unread
  answer ← body_of head.0.kind head.0.size head.1
  closed head.0.scale answer.0 answer.1
