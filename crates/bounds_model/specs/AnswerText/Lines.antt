-- A text as the list of its lines, and a line as the list of its words.
use Rattle.std.specs.Prelude.{ℕ, ◌==◌, if◌then◌else◌, List, [], ◌∷◌, Option, Some, None}

-- the lines that begin with a byte, where the lines after it are known
abbrev pub with_byte : ℕ → List (List ℕ) → List (List ℕ)
with_byte b [] = (b ∷ []) ∷ []
with_byte b (line ∷ lines) = if b == 10 then (b ∷ []) ∷ line ∷ lines else (b ∷ line) ∷ lines

-- the lines of a text, each with the line feed that ends it; the last one may lack it
abbrev pub lines_of : List ℕ → List (List ℕ)
lines_of [] = []
lines_of (b ∷ rest) = with_byte b (lines_of rest)

-- the words of a line that begins with a byte, where the words after it are known
abbrev pub word_byte : ℕ → Option (List (List ℕ)) → Option (List (List ℕ))
word_byte b (Some (word ∷ words)) = Some (if b == 32 then [] ∷ word ∷ words else (b ∷ word) ∷ words)
word_byte b words = None

-- the words of a line, parted by single blanks, or none where the line does not end with a line feed
abbrev pub words_of : List ℕ → Option (List (List ℕ))
words_of [] = None
words_of (b ∷ []) = if b == 10 then Some ([] ∷ []) else None
words_of (b ∷ c ∷ rest) = word_byte b (words_of (c ∷ rest))
