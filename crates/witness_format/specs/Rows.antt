-- Rows of numbers whose widths are given, and what is read behind numbers that were read before.
use Rattle.std.specs.Prelude.{ℕ, zero, suc, ℤ, List, [], ◌∷◌, ◌++◌, replicate}
use Rattle.std.specs.declared.option.Option.{Option}
use Rattle.std.specs.declared.option.Option.TheVariants.{Some, None}
use Rattle.std.specs.declared.result.Result.{Result}
use Rattle.std.specs.declared.result.Result.TheVariants.{Ok, Err}
use Rattle.bounds_model.specs.AnswerText.Numerals as steps
use Rattle.bounds_model.specs.AnswerText.Fields.{natural}
use Rattle.bounds_model.specs.AnswerText.Formats.{Refusal, ◌>>=◌, Unread, line_at, rows_at}
use Rattle.bounds_model.specs.AnswerText.Kinds.{triangle}
use Rattle.bounds_model.specs.AnswerText.Written.{row_format}
use Rattle.witness_format.specs.declared.row_widths.RowWidths.{RowWidths}
use Rattle.answer_lines.specs.declared.judging.Flaw.{Flaw}
use Rattle.answer_lines.specs.declared.judging.Flaw.TheVariants.{PastLimit, OutOfRange}
use Rattle.answer_lines.specs.Judging.{Judged, both, seen, field_at}

-- so many rows of this width, and so many of each smaller one
abbrev pub rows_from : ℕ → ℕ → ℕ → List ℕ
rows_from zero left layers = []
rows_from (suc width) left layers = replicate left (suc width) ++ triangle width layers

-- the widths of the rows that are left
abbrev pub widths_left : RowWidths → List ℕ
widths_left rows = rows_from rows.width rows.left rows.layers

-- numbers, and those of the next line behind them
abbrev pub row_behind : List ℤ → ℕ → Unread → Result (List ℤ × Unread) Refusal
row_behind front width unread = line_at (row_format width) unread >>= λ row. Ok (front ++ row.0.0, row.1)

-- numbers, and those of the next lines behind them
abbrev pub rows_behind : List ℤ → List ℕ → Unread → Result (List ℤ × Unread) Refusal
rows_behind front widths unread = rows_at widths unread >>= λ rows. Ok (front ++ rows.0, rows.1)

-- a number behind those before it, or what is wrong with one of them
abbrev pub put_behind : Judged (List ℤ) → Judged ℤ → Judged (List ℤ)
put_behind front n = seen (λ x. x.0 ++ x.1 ∷ []) (both front n)

-- what is wrong with numbers of which the last has a flaw
abbrev pub worse_of : Judged (Unit {0}) → Flaw → Flaw
worse_of (Err PastLimit) flaw = PastLimit
worse_of (Err OutOfRange) flaw = flaw
worse_of (Ok u) flaw = flaw

-- numbers, and so many behind them that take all words
abbrev pub naturals_behind : Judged (List ℤ) → ℕ → List (List ℕ) → Option (Judged (List ℤ))
naturals_behind front zero [] = Some front
naturals_behind front zero (word ∷ words) = None
naturals_behind front (suc count) words = steps.◌>>=◌ (field_at natural words) (λ first. naturals_behind (put_behind front first.0) count first.1)
