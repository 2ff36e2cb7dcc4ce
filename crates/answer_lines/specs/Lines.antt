-- The lines of a text that are not yet read, and the words of a line.
use Rattle.std.specs.Prelude.{ℕ, ◌+◌, ◌==◌, List, [], ◌∷◌}
use Rattle.std.specs.Borrow.{Bor}
use Rattle.std.specs.List.{slice_split}
use Rattle.std.specs.declared.option.Option.{Option}
use Rattle.std.specs.declared.option.Option.TheVariants.{Some, None}
use Rattle.std.specs.declared.result.Result.{Result}
use Rattle.std.specs.declared.result.Result.TheVariants.{Ok, Err}
use Rattle.bounds_model.specs.AnswerText.Lines.{lines_of, words_of}
use Rattle.bounds_model.specs.AnswerText.Formats as model
use Rattle.bounds_model.specs.AnswerText.Formats.{Refusal, bad_answer, big_number, ◌>>=◌}
use Rattle.answer_lines.specs.declared.lines.Unread.{Unread}
use Rattle.answer_lines.specs.declared.words.Words.{Words}
use Rattle.answer_lines.specs.declared.judging.Flaw.TheVariants.{PastLimit, OutOfRange}
use Rattle.answer_lines.specs.Judging.{Judged}

-- the words of a text in which single blanks part them, or none
abbrev pub words_in : Option (Bor (List ℕ)) → List (List ℕ)
words_in None = []
words_in (Some text) = slice_split (λ b. b == 32) text.now

-- the words of a line that are not yet read
abbrev pub words_left : Words → List (List ℕ)
words_left words = words_in words.text

-- the lines of a text that are not yet read
abbrev pub lines_left : Unread → model.Unread
lines_left unread = record { number = unread.number; lines = lines_of unread.bytes.now }

-- what a line says, or the refusal of the line of this number
abbrev pub decided : {A : Type 0} → ℕ → Option (Judged A) → Result A Refusal
decided number None = Err (bad_answer number)
decided number (Some (Err PastLimit)) = Err (big_number number)
decided number (Some (Err OutOfRange)) = Err (bad_answer number)
decided number (Some (Ok value)) = Ok value

-- the words of the line of this number, where it ends with a line feed
abbrev pub numbered_words : ℕ → Option (List (List ℕ)) → Result (List (List ℕ)) Refusal
numbered_words number None = Err (bad_answer number)
numbered_words number (Some words) = Ok words

-- the words of the first of these lines, and the lines behind it
abbrev pub first_words : ℕ → List (List ℕ) → Result (List (List ℕ) × model.Unread) Refusal
first_words number [] = Err (bad_answer number)
first_words number (line ∷ lines) = do
  words ← numbered_words number (words_of line)
  Ok (words, record { number = number + 1; lines = lines })

-- the words of the next line, and the lines behind it
abbrev pub next_words : model.Unread → Result (List (List ℕ) × model.Unread) Refusal
next_words unread = first_words unread.number unread.lines

-- there are no more of these lines
abbrev pub no_more : ℕ → List (List ℕ) → Result (Unit {0}) Refusal
no_more number [] = Ok tt
no_more number (line ∷ lines) = Err (bad_answer number)

-- there are no more lines
abbrev pub no_lines : model.Unread → Result (Unit {0}) Refusal
no_lines unread = no_more unread.number unread.lines
