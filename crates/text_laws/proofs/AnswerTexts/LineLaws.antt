-- A text is its lines, and a line is its words.
use Rattle.std.proofs.Common.{◌≡◌, ℕ, Bool, true, false, not, ◌&&◌, cond, List, [], ◌∷◌, ◌++◌, refl, sym, ap, ◌∙◌, append_assoc, arith}
use Rattle.std.specs.Prelude.{Option, Some, None, ◌==◌, nat_lt}
use Rattle.std.specs.List.{list_all, concat}
use Rattle.std.proofs.lemmas.List.{append-nil}
use Rattle.std.proofs.lemmas.Bool.{eqb-true}
use Rattle.std.proofs.lemmas.Bool.Decides.{nat_tests}
use Rattle.bounds_model.specs.AnswerText.Lines.{with_byte, lines_of, word_byte, words_of}
use Rattle.bounds_model.specs.AnswerText.Written.{line_bytes}
use Rattle.text_laws.proofs.AnswerTexts.NumberLaws.{some_is, both_true, not_true, is_word}

-- each of them is a word
abbrev pub are_words : List (List ℕ) → Bool
are_words words = list_all is_word words

-- a byte of a word is no blank
no_blank : (b : ℕ) → nat_lt 32 b ≡ true → (b == 32) ≡ false
no_blank b e = grind (arith, nat_tests)

-- a byte of a word is no line feed
no_feed : (b : ℕ) → nat_lt 32 b ≡ true → (b == 10) ≡ false
no_feed b e = grind (arith, nat_tests)

-- ---- lines

-- a line feed ends a line of its own
feed_ends : (lines : List (List ℕ)) → with_byte 10 lines ≡ (10 ∷ []) ∷ lines
feed_ends [] = refl
feed_ends (line ∷ lines) = refl

-- bytes without a line feed before a text belong to its first line
pub line_begins : (front bytes line : List ℕ) (lines : List (List ℕ)) → list_all (λ b. not (b == 10)) front ≡ true → lines_of bytes ≡ line ∷ lines → lines_of (front ++ bytes) ≡ (front ++ line) ∷ lines
line_begins [] bytes line lines w e = e
line_begins (b ∷ front) bytes line lines w e =
    let parts = both_true (not (b == 10)) (list_all (λ c. not (c == 10)) front) w in
    ap (with_byte b) (line_begins front bytes line lines parts.1 e)
    ∙ ap (λ (t : Bool). cond t ((b ∷ []) ∷ (front ++ line) ∷ lines) ((b ∷ front ++ line) ∷ lines)) (not_true (b == 10) parts.0)

-- the first line ends with the first line feed
pub lines_at_feed : (front rest : List ℕ) → list_all (λ b. not (b == 10)) front ≡ true → lines_of (front ++ 10 ∷ rest) ≡ (front ++ 10 ∷ []) ∷ lines_of rest
lines_at_feed front rest w = line_begins front (10 ∷ rest) (10 ∷ []) (lines_of rest) w (feed_ends (lines_of rest))

-- bytes without a line feed are one line, which is not ended
pub lines_without_feed : (b : ℕ) (bytes : List ℕ) → list_all (λ c. not (c == 10)) (b ∷ bytes) ≡ true → lines_of (b ∷ bytes) ≡ (b ∷ bytes) ∷ []
lines_without_feed b [] w = refl
lines_without_feed b (c ∷ bytes) w =
    let parts = both_true (not (b == 10)) (list_all (λ d. not (d == 10)) (c ∷ bytes)) w in
    ap (with_byte b) (lines_without_feed c bytes parts.1) ∙ ap (λ (t : Bool). cond t ((b ∷ []) ∷ (c ∷ bytes) ∷ []) ((b ∷ c ∷ bytes) ∷ [])) (not_true (b == 10) parts.0)

-- a word has no line feed
word_has_no_feed : (word : List ℕ) → is_word word ≡ true → list_all (λ b. not (b == 10)) word ≡ true
word_has_no_feed [] w = refl
word_has_no_feed (b ∷ word) w =
    let parts = both_true (nat_lt 32 b) (is_word word) w in
    ap (λ (t : Bool). not t && list_all (λ c. not (c == 10)) word) (no_feed b parts.0) ∙ word_has_no_feed word parts.1

-- a line that is made of words is the first line of a text
pub lines_again : (word : List ℕ) (words : List (List ℕ)) (rest : List ℕ) → are_words (word ∷ words) ≡ true → lines_of (line_bytes (word ∷ words) ++ rest) ≡ line_bytes (word ∷ words) ∷ lines_of rest
lines_again word [] rest w =
    let parts = both_true (is_word word) true w in
    ap lines_of (append_assoc word (10 ∷ []) rest) ∙ lines_at_feed word rest (word_has_no_feed word parts.0)
lines_again word (next ∷ words) rest w =
    let parts = both_true (is_word word) (are_words (next ∷ words)) w in
    ap lines_of (append_assoc word (32 ∷ line_bytes (next ∷ words)) rest)
    ∙ line_begins word (32 ∷ line_bytes (next ∷ words) ++ rest) (32 ∷ line_bytes (next ∷ words)) (lines_of rest) (word_has_no_feed word parts.0) (ap (with_byte 32) (lines_again next words rest parts.1))

-- a byte before lines, where it ends a line and where it does not
concat_byte_cases : (t : Bool) (b : ℕ) (line : List ℕ) (lines : List (List ℕ)) → concat (cond t ((b ∷ []) ∷ line ∷ lines) ((b ∷ line) ∷ lines)) ≡ b ∷ line ++ concat lines
concat_byte_cases true b line lines = refl
concat_byte_cases false b line lines = refl

-- a byte before lines
concat_byte : (b : ℕ) (lines : List (List ℕ)) → concat (with_byte b lines) ≡ b ∷ concat lines
concat_byte b [] = refl
concat_byte b (line ∷ lines) = concat_byte_cases (b == 10) b line lines

-- the lines are the text
pub concat-lines_of : (bytes : List ℕ) → concat (lines_of bytes) ≡ bytes
concat-lines_of [] = refl
concat-lines_of (b ∷ bytes) = concat_byte b (lines_of bytes) ∙ ap (λ (rest : List ℕ). b ∷ rest) (concat-lines_of bytes)

-- ---- fields

-- a blank before a line begins an empty word
blank_words : (line field : List ℕ) (fields : List (List ℕ)) → words_of line ≡ Some (field ∷ fields) → words_of (32 ∷ line) ≡ Some ([] ∷ field ∷ fields)
blank_words [] field fields e = absurd cc
blank_words (c ∷ rest) field fields e = ap (word_byte 32) e

-- bytes without a blank before a line belong to its first word
pub word_begins : (front : List ℕ) (c : ℕ) (rest field : List ℕ) (fields : List (List ℕ)) → list_all (λ b. not (b == 32)) front ≡ true → words_of (c ∷ rest) ≡ Some (field ∷ fields)
    → words_of (front ++ c ∷ rest) ≡ Some ((front ++ field) ∷ fields)
word_begins [] c rest field fields w e = e
word_begins (b ∷ []) c rest field fields w e =
    let parts = both_true (not (b == 32)) true w in
    ap (word_byte b) e ∙ ap (λ (t : Bool). Some (cond t ([] ∷ field ∷ fields) ((b ∷ field) ∷ fields))) (not_true (b == 32) parts.0)
word_begins (b ∷ d ∷ front) c rest field fields w e =
    let parts = both_true (not (b == 32)) (list_all (λ g. not (g == 32)) (d ∷ front)) w in
    ap (word_byte b) (word_begins (d ∷ front) c rest field fields parts.1 e)
    ∙ ap (λ (t : Bool). Some (cond t ([] ∷ (d ∷ front ++ field) ∷ fields) ((b ∷ d ∷ front ++ field) ∷ fields))) (not_true (b == 32) parts.0)

-- the last word ends with the line feed
pub words_at_feed : (front : List ℕ) → list_all (λ b. not (b == 32)) front ≡ true → words_of (front ++ 10 ∷ []) ≡ Some (front ∷ [])
words_at_feed front w = word_begins front 10 [] [] [] w refl ∙ ap (λ (x : List ℕ). Some (x ∷ [])) (append-nil front)

-- a word ends with a blank
pub words_at_blank : (front rest field : List ℕ) (fields : List (List ℕ)) → list_all (λ b. not (b == 32)) front ≡ true → words_of rest ≡ Some (field ∷ fields) → words_of (front ++ 32 ∷ rest) ≡ Some (front ∷ field ∷ fields)
words_at_blank front rest field fields w e =
    word_begins front 32 rest [] (field ∷ fields) w (blank_words rest field fields e) ∙ ap (λ (x : List ℕ). Some (x ∷ field ∷ fields)) (append-nil front)

-- a word has no blank
word_has_no_blank : (word : List ℕ) → is_word word ≡ true → list_all (λ b. not (b == 32)) word ≡ true
word_has_no_blank [] w = refl
word_has_no_blank (b ∷ word) w =
    let parts = both_true (nat_lt 32 b) (is_word word) w in
    ap (λ (t : Bool). not t && list_all (λ c. not (c == 32)) word) (no_blank b parts.0) ∙ word_has_no_blank word parts.1

-- a line that is made of words has these words
pub words_again : (word : List ℕ) (words : List (List ℕ)) → are_words (word ∷ words) ≡ true → words_of (line_bytes (word ∷ words)) ≡ Some (word ∷ words)
words_again word [] w = words_at_feed word (word_has_no_blank word (both_true (is_word word) true w).0)
words_again word (next ∷ words) w =
    let parts = both_true (is_word word) (are_words (next ∷ words)) w in
    words_at_blank word (line_bytes (next ∷ words)) next words (word_has_no_blank word parts.0) (words_again next words parts.1)

-- a byte before a line
byte_line : (b : ℕ) (field : List ℕ) (fields : List (List ℕ)) → line_bytes ((b ∷ field) ∷ fields) ≡ b ∷ line_bytes (field ∷ fields)
byte_line b field [] = refl
byte_line b field (next ∷ fields) = refl

-- a byte before a line, where it is a blank and where it is not
byte_line_cases : (t : Bool) (b : ℕ) (field : List ℕ) (fields words : List (List ℕ)) → (b == 32) ≡ t → cond t ([] ∷ field ∷ fields) ((b ∷ field) ∷ fields) ≡ words → line_bytes words ≡ b ∷ line_bytes (field ∷ fields)
byte_line_cases true b field fields words is e = ap line_bytes (sym e) ∙ ap (λ (c : ℕ). c ∷ line_bytes (field ∷ fields)) (sym (eqb-true b 32 is))
byte_line_cases false b field fields words is e = ap line_bytes (sym e) ∙ byte_line b field fields

-- the last byte of a line
last_byte_cases : (t : Bool) (b : ℕ) (words : List (List ℕ)) → (b == 10) ≡ t → cond t (Some ([] ∷ [])) None ≡ Some words → b ∷ [] ≡ line_bytes words
last_byte_cases true b words is e = ap (λ (c : ℕ). c ∷ []) (eqb-true b 10 is) ∙ ap line_bytes (some_is ([] ∷ []) words e)
last_byte_cases false b words is e = absurd cc

-- one byte more
words_back_step : (b : ℕ) (line : List ℕ) (fields : Option (List (List ℕ))) (words : List (List ℕ)) → ((found : List (List ℕ)) → fields ≡ Some found → line ≡ line_bytes found) → word_byte b fields ≡ Some words → b ∷ line ≡ line_bytes words
words_back_step b line None words back e = absurd cc
words_back_step b line (Some []) words back e = absurd cc
words_back_step b line (Some (field ∷ fields)) words back e =
    ap (λ (x : List ℕ). b ∷ x) (back (field ∷ fields) refl) ∙ sym (byte_line_cases (b == 32) b field fields words refl (some_is _ words e))

-- a line is made of its words
pub words_back : (line : List ℕ) (words : List (List ℕ)) → words_of line ≡ Some words → line ≡ line_bytes words
words_back [] words e = absurd cc
words_back (b ∷ []) words e = last_byte_cases (b == 10) b words refl e
words_back (b ∷ c ∷ rest) words e = words_back_step b (c ∷ rest) (words_of (c ∷ rest)) words (λ found f. words_back (c ∷ rest) found f) e

-- a line without a line feed has no words
pub words_without_feed : (line : List ℕ) → list_all (λ b. not (b == 10)) line ≡ true → words_of line ≡ None
words_without_feed [] w = refl
words_without_feed (b ∷ []) w = ap (λ (t : Bool). cond t (Some ([] ∷ [])) None) (not_true (b == 10) (both_true (not (b == 10)) true w).0)
words_without_feed (b ∷ c ∷ rest) w = ap (word_byte b) (words_without_feed (c ∷ rest) (both_true (not (b == 10)) (list_all (λ d. not (d == 10)) (c ∷ rest)) w).1)
