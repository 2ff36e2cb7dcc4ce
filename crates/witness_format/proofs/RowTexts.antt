-- How rows of potentials are printed.
use Rattle.std.proofs.Common.{◌≡◌, ◌∙◌, refl, sym, ap, ℕ, ◌<◌, List, [], ◌∷◌, ◌++◌, length, map, take, drop, get_or, min, pos, arith}
use Rattle.std.specs.Prelude.{decimal}
use Rattle.std.specs.Fmt.{signed_decimal}
use Rattle.std.proofs.lemmas.List.{drop-map, drop_min, take-map, take_min}
use Rattle.bounds_model.specs.AnswerText.Written.{line_bytes, format_line, row_format, rows_bytes}
use Rattle.answer_lines.specs.Printed.{behind_blanks, numbers_behind}
use Rattle.answer_lines.proofs.PrintedWords.{titled_line}

-- numbers without a sign as words
words_are : (numbers : List ℕ) → map signed_decimal (map pos numbers) ++ [] ≡ map decimal numbers
words_are [] = refl
words_are (n ∷ numbers) = ap (λ (ws : List (List ℕ)). decimal n ∷ ws) (words_are numbers)

-- numbers behind blanks are their words behind blanks
behind_are : (numbers : List ℕ) → behind_blanks (map decimal numbers) ≡ numbers_behind numbers
behind_are [] = refl
behind_are (n ∷ numbers) = ap (λ (x : List ℕ). 32 ∷ decimal n ++ x) (behind_are numbers)

-- the line of numbers
row_line : (n : ℕ) (numbers : List ℕ) → format_line (row_format (length (n ∷ numbers))) (map pos (n ∷ numbers), tt) ≡ decimal n ++ (numbers_behind numbers ++ 10 ∷ [])
row_line n numbers =
    ap (λ (ws : List (List ℕ)). line_bytes (decimal n ∷ ws)) (words_are numbers) ∙ titled_line (decimal n) (map decimal numbers) ∙ ap (λ (x : List ℕ). decimal n ++ (x ++ 10 ∷ [])) (behind_are numbers)

-- by its first number and the others
pub some_row : (row : List ℕ) → 0 < length row → format_line (row_format (length row)) (map pos row, tt) ≡ decimal (get_or row 0 0) ++ (numbers_behind (drop 1 row) ++ 10 ∷ [])
some_row [] some = absurd (omega arith)
some_row (n ∷ numbers) some = row_line n numbers

-- the line of no number
pub no_row : (row : List ℕ) → length row ≡ 0 → format_line (row_format (length row)) (map pos row, tt) ≡ 10 ∷ []
no_row [] none = refl
no_row (n ∷ numbers) none = absurd (omega arith)

-- the next row, and those behind it
pub row_printed : (width : ℕ) (widths numbers row others : List ℕ) → row ≡ take (min width (length numbers)) numbers → others ≡ drop (min width (length numbers)) numbers
    → rows_bytes (width ∷ widths) (map pos numbers) ≡ format_line (row_format (length row)) (map pos row, tt) ++ rows_bytes widths (map pos others)
row_printed width widths numbers row others first rest =
    let row-is : take width (map pos numbers) ≡ map pos row = take-map pos width numbers ∙ ap (map pos) (sym (take_min width numbers) ∙ sym first) in
    let others-are : drop width (map pos numbers) ≡ map pos others = drop-map pos width numbers ∙ ap (map pos) (sym (drop_min width numbers) ∙ sym rest) in
    λ i. format_line (row_format width) (row-is i, tt) ++ rows_bytes widths (others-are i)
