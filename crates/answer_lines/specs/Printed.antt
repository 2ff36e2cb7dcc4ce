-- How the words of a line are printed one after the other.
use Rattle.std.specs.Prelude.{ℕ, ◌+◌, List, [], ◌∷◌, ◌++◌, length, decimal}
use Rattle.std.specs.List.{flat_map}
use Rattle.bounds_model.specs.AnswerText.Fields.{Field}
use Rattle.bounds_model.specs.AnswerText.LineFormats.{Values, untitled}
use Rattle.bounds_model.specs.AnswerText.Written.{line_bytes, format_line}

-- the words, parted by blanks
abbrev pub joined : List (List ℕ) → List ℕ
joined [] = []
joined (word ∷ []) = word
joined (word ∷ next ∷ words) = word ++ 32 ∷ joined (next ∷ words)

-- each word behind a blank
abbrev pub behind_blanks : List (List ℕ) → List ℕ
behind_blanks [] = []
behind_blanks (word ∷ words) = 32 ∷ word ++ behind_blanks words

-- there is a word
abbrev pub HasWord : List (List ℕ) → Type 0
HasWord [] = ⊥
HasWord (word ∷ words) = Unit {0}

-- the line of a word and a count
abbrev pub count_bytes : List ℕ → ℕ → List ℕ
count_bytes word amount = line_bytes (word ∷ decimal amount ∷ [])

-- the line of a count, and as many lines, less a few
abbrev pub counted_bytes : List ℕ → ℕ → (fields : List Field) → List (Values fields) → List ℕ
counted_bytes word less fields lines = count_bytes word (length lines + less) ++ flat_map (format_line (untitled fields)) lines

-- numbers, each behind a blank
abbrev pub numbers_behind : List ℕ → List ℕ
numbers_behind numbers = flat_map (λ n. 32 ∷ decimal n) numbers
