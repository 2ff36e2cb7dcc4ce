-- Words that are printed one after the other are the words of a line.
use Rattle.std.proofs.Common.{◌≡◌, ◌∙◌, refl, sym, ap, ℕ, List, [], ◌∷◌, ◌++◌, append_assoc}
use Rattle.std.proofs.lemmas.List.{append-nil}
use Rattle.bounds_model.specs.AnswerText.Written.{line_bytes}
use Rattle.answer_lines.specs.Printed.{joined, behind_blanks, HasWord}

-- words behind a first one
joined_first : (word : List ℕ) (words : List (List ℕ)) → joined (word ∷ words) ≡ word ++ behind_blanks words
joined_first word [] = sym (append-nil word)
joined_first word (next ∷ words) = ap (λ (x : List ℕ). word ++ 32 ∷ x) (joined_first next words)

-- the words of two lists, each behind a blank
behind_both : (xs ys : List (List ℕ)) → behind_blanks (xs ++ ys) ≡ behind_blanks xs ++ behind_blanks ys
behind_both [] ys = refl
behind_both (x ∷ xs) ys = ap (λ (z : List ℕ). 32 ∷ x ++ z) (behind_both xs ys) ∙ ap (λ (z : List ℕ). 32 ∷ z) (sym (append_assoc x (behind_blanks xs) (behind_blanks ys)))

-- a field behind a blank, and more fields
pub behind_more : (xs ys : List (List ℕ)) → HasWord xs → behind_blanks (xs ++ ys) ≡ 32 ∷ joined xs ++ behind_blanks ys
behind_more [] ys has = absurd has
behind_more (x ∷ xs) ys has = behind_both (x ∷ xs) ys ∙ ap (λ (z : List ℕ). 32 ∷ z ++ behind_blanks ys) (sym (joined_first x xs))

-- a first field, and more fields
pub joined_more : (xs ys : List (List ℕ)) → HasWord xs → joined (xs ++ ys) ≡ joined xs ++ behind_blanks ys
joined_more [] ys has = absurd has
joined_more (x ∷ xs) ys has =
    joined_first x (xs ++ ys) ∙ ap (λ (z : List ℕ). x ++ z) (behind_both xs ys) ∙ sym (append_assoc x (behind_blanks xs) (behind_blanks ys))
    ∙ ap (λ (z : List ℕ). z ++ behind_blanks ys) (sym (joined_first x xs))

-- a line of a word and more words
pub titled_line : (word : List ℕ) (words : List (List ℕ)) → line_bytes (word ∷ words) ≡ word ++ (behind_blanks words ++ 10 ∷ [])
titled_line word [] = refl
titled_line word (next ∷ words) = ap (λ (x : List ℕ). word ++ 32 ∷ x) (titled_line next words ∙ sym (append_assoc next (behind_blanks words) (10 ∷ [])))

-- a line of words
pub untitled_line : (words : List (List ℕ)) → line_bytes words ≡ joined words ++ 10 ∷ []
untitled_line [] = refl
untitled_line (word ∷ words) =
    titled_line word words ∙ sym (append_assoc word (behind_blanks words) (10 ∷ [])) ∙ ap (λ (x : List ℕ). x ++ 10 ∷ []) (sym (joined_first word words))

-- ---- pieces that are written one behind the other

-- a piece, and what is written behind it
pub one_behind : (old now new piece rest : List ℕ) → now ≡ old ++ piece → new ≡ now ++ rest → new ≡ old ++ (piece ++ rest)
one_behind old now new piece rest p q = q ∙ ap (λ (x : List ℕ). x ++ rest) p ∙ append_assoc old piece rest

-- the last piece
pub last_behind : (old new piece : List ℕ) → new ≡ old ++ piece → new ≡ old ++ (piece ++ [])
last_behind old new piece p = p ∙ ap (λ (x : List ℕ). old ++ x) (sym (append-nil piece))

-- the last two
pub two_behind : (old new piece last : List ℕ) → new ≡ old ++ (piece ++ last) → new ≡ old ++ (piece ++ (last ++ []))
two_behind old new piece last p = p ∙ ap (λ (x : List ℕ). old ++ (piece ++ x)) (sym (append-nil last))
