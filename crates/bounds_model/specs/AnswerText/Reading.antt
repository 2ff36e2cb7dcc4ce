-- What a text reads as: an answer, or a report of one at a scale, or the first refused line with its cause.
use Rattle.std.specs.Prelude.{ℕ, List, [], ◌∷◌, Result, Ok, Err}
use Rattle.bounds_model.specs.Answers.{Answer}
use Rattle.bounds_model.specs.Reports.{Report}
use Rattle.bounds_model.specs.AnswerText.Lines.{lines_of}
use Rattle.bounds_model.specs.AnswerText.Formats.{Refusal, bad_answer, ◌>>=◌, Unread, line_at, body_at}
use Rattle.bounds_model.specs.AnswerText.Kinds.{Kind, kinds}
use Rattle.bounds_model.specs.AnswerText.Heads.{Format, plain, scaled, Head, head_at, last_format}

-- nothing may follow the last line
abbrev pub ended : Report → ℕ → List (List ℕ) → Result Report Refusal
ended report number [] = Ok report
ended report number (line ∷ lines) = Err (bad_answer number)

-- what the lines behind a head say
abbrev pub report_behind : Head → Unread → Result Report Refusal
report_behind head unread = do
  body ← body_at head.kind.body [] unread
  last ← line_at last_format body.1
  ended (record { scale = head.scale; answer = head.kind.answer head.size body.0 }) last.1.number last.1.lines

-- what lines say, where these formats and kinds are known
abbrev pub report_at : List Format → List Kind → Unread → Result Report Refusal
report_at formats known unread = head_at formats known unread >>= λ head. report_behind head.0 head.1

-- all lines of a text
abbrev pub all_lines : List ℕ → Unread
all_lines bytes = record { number = 1; lines = lines_of bytes }

-- what a text says, where these formats and kinds are known
abbrev pub report_of : List Format → List Kind → List ℕ → Result Report Refusal
report_of formats known bytes = report_at formats known (all_lines bytes)

-- the answer of a report
abbrev pub answer_in : Result Report Refusal → Result Answer Refusal
answer_in read = read >>= λ report. Ok report.answer

-- what a text in whole units reads as where these kinds are known
abbrev pub reading_of : List Kind → List ℕ → Result Answer Refusal
reading_of known bytes = answer_in (report_of (plain ∷ []) known bytes)

-- what a text in whole units reads as
abbrev pub reading : List ℕ → Result Answer Refusal
reading bytes = reading_of kinds bytes

-- what a text reads as at its scale
abbrev pub reading_report : List ℕ → Result Report Refusal
reading_report bytes = report_of (plain ∷ scaled ∷ []) kinds bytes
