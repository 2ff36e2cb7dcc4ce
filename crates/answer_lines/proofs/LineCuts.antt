-- A line cut off a text, and its words.
use Rattle.std.proofs.Common.{◌≡◌, ◌∙◌, refl, sym, ap, ℕ, suc, ◌+◌, ◌<◌, Bool, true, false, not, ◌&&◌, cond, List, [], ◌∷◌, ◌++◌, length, take, Some, Ok, Err, arith}
use Rattle.std.specs.Prelude.{◌==◌}
use Rattle.std.specs.List.{list_all, concat, onto_first, slice_split, position_or_len, before_first, after_first}
use Rattle.std.proofs.lemmas.Bool.{eqb-true}
use Rattle.std.proofs.lemmas.List.{take_all}
use Rattle.std.proofs.lemmas.List.Splits.{length-slice_split}
use Rattle.std.proofs.lemmas.List.Sums.{split_at_first, passes_at_first}
use Rattle.bounds_model.specs.AnswerText.Lines.{lines_of, word_byte, words_of}
use Rattle.bounds_model.specs.AnswerText.Formats.{bad_answer}
use Rattle.text_laws.proofs.AnswerTexts.LineLaws.{lines_at_feed, lines_without_feed, words_without_feed, concat-lines_of}
use Rattle.answer_lines.specs.Lines.{first_words, next_words, no_more}

-- a line feed
abbrev pub is_feed : ℕ → Bool
is_feed b = b == 10

-- a blank
abbrev pub is_blank : ℕ → Bool
is_blank b = b == 32

-- ---- words

-- a byte before the words of a line
byte_before : (b : ℕ) (words : List (List ℕ)) → 0 < length words → word_byte b (Some words) ≡ Some (cond (is_blank b) ([] ∷ words) (onto_first b words))
byte_before b [] some = absurd (omega arith)
byte_before b (word ∷ words) some = refl

-- the words of a line are parted by its blanks
pub words_of-split : (line : List ℕ) → words_of (line ++ 10 ∷ []) ≡ Some (slice_split is_blank line)
words_of-split [] = refl
words_of-split (b ∷ []) = refl
words_of-split (b ∷ c ∷ rest) =
    ap (word_byte b) (words_of-split (c ∷ rest)) ∙ byte_before b (slice_split is_blank (c ∷ rest)) (omega (arith, length-slice_split is_blank (c ∷ rest)))

-- ---- lines

-- before the first line feed there is none
feed_free : (bytes : List ℕ) → list_all (λ b. not (is_feed b)) (before_first is_feed bytes) ≡ true
feed_free [] = refl
feed_free (b ∷ rest) = step (is_feed b) refl (feed_free rest)
  where
    step : (t : Bool) → is_feed b ≡ t → list_all (λ x. not (is_feed x)) (before_first is_feed rest) ≡ true
        → list_all (λ x. not (is_feed x)) (take (cond (not t) (1 + position_or_len is_feed rest) 0) (b ∷ rest)) ≡ true
    step true is free = refl
    step false is free =
        let more : 1 + position_or_len is_feed rest ≡ suc (position_or_len is_feed rest) = omega arith in
        ap (λ n. list_all (λ x. not (is_feed x)) (take n (b ∷ rest))) more
        ∙ (ap (λ v. not v && list_all (λ x. not (is_feed x)) (before_first is_feed rest)) is ∙ free)

-- a text is what stands before its first line feed, the line feed and the rest
parted : (bytes : List ℕ) → position_or_len is_feed bytes < length bytes → bytes ≡ before_first is_feed bytes ++ 10 ∷ after_first is_feed bytes
parted bytes lt = split_at_first is_feed bytes 0 lt ∙ ap (λ (c : ℕ). before_first is_feed bytes ++ c ∷ after_first is_feed bytes) (eqb-true _ 10 (passes_at_first is_feed bytes 0 lt))

-- the words of the first of these lines
words_at_first : (number : ℕ) (lines rest : List (List ℕ)) (line : List ℕ) (words : List (List ℕ)) → lines ≡ line ∷ rest → words_of line ≡ Some words → first_words number lines ≡ Ok (words, record { number = number + 1; lines = rest })
words_at_first number lines rest line words e f = ap (first_words number) e ∙ rw f refl

-- the next line ends at the first line feed
pub next_words-cut : (number : ℕ) (bytes : List ℕ) → position_or_len is_feed bytes < length bytes
    → next_words (record { number = number; lines = lines_of bytes }) ≡ Ok (slice_split is_blank (before_first is_feed bytes), record { number = number + 1; lines = lines_of (after_first is_feed bytes) })
next_words-cut number bytes lt =
    let front = before_first is_feed bytes in
    let rest = after_first is_feed bytes in
    words_at_first number (lines_of bytes) (lines_of rest) (front ++ 10 ∷ []) (slice_split is_blank front) (ap lines_of (parted bytes lt) ∙ lines_at_feed front rest (feed_free bytes)) (words_of-split front)

-- without a line feed there is no line
no_feed_refused : (number : ℕ) (bytes : List ℕ) → list_all (λ b. not (is_feed b)) bytes ≡ true → first_words number (lines_of bytes) ≡ Err (bad_answer number)
no_feed_refused number [] free = refl
no_feed_refused number (b ∷ rest) free =
    let lines = lines_without_feed b rest free in
    let words = words_without_feed (b ∷ rest) free in
    ap (first_words number) lines ∙ rw words refl

-- the same of what is not yet read
pub next_words-refused : (number : ℕ) (bytes : List ℕ) → position_or_len is_feed bytes ≡ length bytes → next_words (record { number = number; lines = lines_of bytes }) ≡ Err (bad_answer number)
next_words-refused number bytes missing =
    let whole : before_first is_feed bytes ≡ bytes = take_all (position_or_len is_feed bytes) bytes (omega arith) in
    no_feed_refused number bytes (sym (ap (list_all (λ b. not (is_feed b))) whole) ∙ feed_free bytes)

-- where there are bytes there is a line
pub some_lines : (number : ℕ) (bytes : List ℕ) → 0 < length bytes → no_more number (lines_of bytes) ≡ Err (bad_answer number)
some_lines number bytes some = by_lines (lines_of bytes) refl
  where
    by_lines : (lines : List (List ℕ)) → lines_of bytes ≡ lines → no_more number lines ≡ Err (bad_answer number)
    by_lines [] none =
        let nothing : bytes ≡ [] = sym (concat-lines_of bytes) ∙ ap concat none in
        absurd (omega (arith, ap length nothing))
    by_lines (line ∷ lines) is = refl
