-- The words of the first line, and the kind that it names.
use Rattle.std.proofs.Common.{◌≡◌, ◌∙◌, refl, sym, ap, subst, ℕ, ◌+◌, Bool, true, false, cond, List, [], ◌∷◌, Option, Some, None, Result, Ok, Err}
use Rattle.std.specs.Prelude.{find, is_some, is_ok}
use Rattle.std.specs.Str.{bytes_eq}
use Rattle.bounds_model.specs.AnswerText.Numerals as steps
use Rattle.bounds_model.specs.AnswerText.Lines.{words_of}
use Rattle.bounds_model.specs.AnswerText.LineFormats.{LineFormat, after_words, values_of, Values}
use Rattle.bounds_model.specs.AnswerText.Formats.{Refusal, bad_answer, Unread, ◌>>=◌, judged, line_at}
use Rattle.bounds_model.specs.AnswerText.Kinds.{Kind}
use Rattle.bounds_model.specs.AnswerText.Heads.{Format, first_format, Named, kind_of, named_or, named_by, sizes_at, head_of}
use Rattle.answer_lines.specs.Judging.{Judged, fields_at, said}
use Rattle.witness_format.specs.Heads.{kind_in, named_in, behind, first_at}
use Rattle.answer_lines.specs.Lines.{decided, numbered_words, first_words, next_words}
use Rattle.answer_lines.proofs.LineReadings.{line_by_words}

-- ---- the first element of a list that passes a test

-- tests that agree find the same
found_same : {A : Type 0} (p q : A → Bool) → ((x : A) → p x ≡ q x) → (xs : List A) → find p xs ≡ find q xs
found_same p q same [] = refl
found_same p q same (x ∷ xs) = λ i. cond (same x i) (Some x) (found_same p q same xs i)

-- a test that nothing passes finds nothing
found_none : {A : Type 0} (p : A → Bool) → ((x : A) → p x ≡ false) → (xs : List A) → find p xs ≡ None
found_none p none [] = refl
found_none p none (x ∷ xs) = (λ i. cond (none x i) (Some x) (find p xs)) ∙ found_none p none xs

-- what is found passes the test
found_passes : {A : Type 0} (p : A → Bool) (xs : List A) (y : A) → find p xs ≡ Some y → p y ≡ true
found_passes p [] y e = absurd cc
found_passes p (x ∷ xs) y e = by_test (p x) refl (λ f. found_passes p xs y f) e
  where
    by_test : (t : Bool) → p x ≡ t → (find p xs ≡ Some y → p y ≡ true) → cond t (Some x) (find p xs) ≡ Some y → p y ≡ true
    by_test true is others f = let same : x ≡ y = cc in subst (λ z. p z ≡ true) same is
    by_test false is others f = others f

-- ---- the words of the first line

-- the words behind a first one
after_first_word : (a : List ℕ) (others : List (List ℕ)) (words rest : List (List ℕ)) → after_words (a ∷ []) words ≡ Some rest → after_words (a ∷ others) words ≡ after_words others rest
after_first_word a others [] rest e = absurd cc
after_first_word a others (word ∷ words) rest e = by_test (bytes_eq a word) e
  where
    by_test : (t : Bool) → cond t (Some words) None ≡ Some rest → cond t (after_words others words) None ≡ after_words others rest
    by_test true is = let same : words ≡ rest = cc in ap (after_words others) same
    by_test false is = absurd cc

-- a line without fields whose words do not fit
no_words : (words : List (List ℕ)) (line : List (List ℕ)) → after_words words line ≡ None → said (record { words = words; fields = [] }) line ≡ None
no_words words line e = ap (λ (rest : Option (List (List ℕ))). steps.◌>>=◌ {B = Judged (Values [])} rest (λ ws. fields_at [] ws)) e

-- words that name no kind
named_none : (format : Format) (words : List (List ℕ)) (known : List Kind) → ((name : List ℕ) → said (first_format format name) words ≡ None) → kind_in format words known ≡ None
named_none format words known none = found_none (λ kind. is_some (said (first_format format kind.name) words)) (λ kind. ap (λ (s : Option (Judged (Values []))). is_some s) (none kind.name)) known

-- a first word that is another
other_word : (a : List ℕ) (others words : List (List ℕ)) → after_words (a ∷ []) words ≡ None → after_words (a ∷ others) words ≡ None
other_word a others [] e = refl
other_word a others (word ∷ words) e = by_test (bytes_eq a word) e
  where
    by_test : (t : Bool) → cond t (Some words) None ≡ None → cond t (after_words others words) None ≡ None
    by_test true is = absurd cc
    by_test false is = refl

-- such a line names no kind
pub other_first : (format : Format) (a b : List ℕ) (known : List Kind) (words : List (List ℕ)) → ((name : List ℕ) → (first_format format name).words ≡ a ∷ b ∷ name ∷ []) → after_words (a ∷ []) words ≡ None → kind_in format words known ≡ None
other_first format a b known words is none =
    named_none format words known (λ name. no_words (first_format format name).words words (ap (λ (ws : List (List ℕ)). after_words ws words) (is name) ∙ other_word a (b ∷ name ∷ []) words none))

-- nor does one whose second word is another
pub other_second : (format : Format) (a b : List ℕ) (known : List Kind) (words one : List (List ℕ)) → ((name : List ℕ) → (first_format format name).words ≡ a ∷ b ∷ name ∷ []) → after_words (a ∷ []) words ≡ Some one → after_words (b ∷ []) one ≡ None
    → kind_in format words known ≡ None
other_second format a b known words one is p none =
    named_none format words known (λ name. no_words (first_format format name).words words
    (ap (λ (ws : List (List ℕ)). after_words ws words) (is name) ∙ after_first_word a (b ∷ name ∷ []) words one p ∙ other_word b (name ∷ []) one none))

-- the words of the first line, by those behind the first two
said_third : (format : Format) (a b : List ℕ) (words one two : List (List ℕ)) (name : List ℕ) → (first_format format name).words ≡ a ∷ b ∷ name ∷ [] → after_words (a ∷ []) words ≡ Some one → after_words (b ∷ []) one ≡ Some two
    → said (first_format format name) words ≡ said (record { words = name ∷ []; fields = [] }) two
said_third format a b words one two name is p q =
    ap (λ (rest : Option (List (List ℕ))). steps.◌>>=◌ {B = Judged (Values [])} rest (λ ws. fields_at [] ws))
    (ap (λ (ws : List (List ℕ)). after_words ws words) is ∙ after_first_word a (b ∷ name ∷ []) words one p ∙ after_first_word b (name ∷ []) one two q)

-- no third word, or one that is not the last
not_alone : (name : List ℕ) (words : List (List ℕ)) → ((word : List ℕ) → words ≡ word ∷ [] → ⊥) → said (record { words = name ∷ []; fields = [] }) words ≡ None
not_alone name [] other = refl
not_alone name (word ∷ []) other = absurd (other word refl)
not_alone name (word ∷ more ∷ words) other = by_test (bytes_eq name word)
  where
    by_test : (t : Bool) → steps.◌>>=◌ {B = Judged (Values [])} (cond t (Some (more ∷ words)) None) (λ ws. fields_at [] ws) ≡ None
    by_test true = refl
    by_test false = refl

-- such a line names no kind
pub other_third : (format : Format) (a b : List ℕ) (known : List Kind) (words one two : List (List ℕ)) → ((name : List ℕ) → (first_format format name).words ≡ a ∷ b ∷ name ∷ []) → after_words (a ∷ []) words ≡ Some one → after_words (b ∷ []) one ≡ Some two
    → ((word : List ℕ) → two ≡ word ∷ [] → ⊥) → kind_in format words known ≡ None
other_third format a b known words one two is p q other = named_none format words known (λ name. said_third format a b words one two name (is name) p q ∙ not_alone name two other)

-- what stands behind a word that is alone
pub behind_name : (name word : List ℕ) (rest : List (List ℕ)) → name ∷ rest ≡ word ∷ [] → rest ≡ []
behind_name name word [] e = refl
behind_name name word (more ∷ rest) e = absurd cc

-- a third word alone names the kind of this name
pub by_name : (format : Format) (a b : List ℕ) (known : List Kind) (words one two : List (List ℕ)) (word : List ℕ) → ((name : List ℕ) → (first_format format name).words ≡ a ∷ b ∷ name ∷ []) → after_words (a ∷ []) words ≡ Some one
    → after_words (b ∷ []) one ≡ Some two → two ≡ word ∷ [] → kind_in format words known ≡ find (λ kind. bytes_eq kind.name word) known
by_name format a b known words one two word is p q alone =
    found_same (λ kind. is_some (said (first_format format kind.name) words)) (λ kind. bytes_eq kind.name word)
    (λ kind. ap (λ (s : Option (Judged (Values []))). is_some s) (said_third format a b words one two kind.name (is kind.name) p q ∙ ap (said (record { words = kind.name ∷ []; fields = [] })) alone) ∙ by_test (bytes_eq kind.name word)) known
  where
    by_test : (t : Bool) → is_some (steps.◌>>=◌ {B = Judged (Values [])} (cond t (Some []) None) (λ ws. fields_at [] ws)) ≡ t
    by_test true = refl
    by_test false = refl

-- ---- the kind of a text

-- a line without fields is read where its words fit
bare_ok : (number : ℕ) (after : Unread) (rest : Option (List (List ℕ)))
    → is_ok (◌>>=◌ {B = Values [] × Unread} (decided number (steps.◌>>=◌ {B = Judged (Values [])} rest (λ ws. fields_at [] ws))) (λ v. Ok (v, after))) ≡ is_some (steps.◌>>=◌ {B = Judged (Values [])} rest (λ ws. fields_at [] ws))
bare_ok number after None = refl
bare_ok number after (Some []) = refl
bare_ok number after (Some (word ∷ words)) = refl

-- and then the lines behind it are left
bare_read : (number : ℕ) (after : Unread) (rest : Option (List (List ℕ))) → is_some (steps.◌>>=◌ {B = Judged (Values [])} rest (λ ws. fields_at [] ws)) ≡ true
    → ◌>>=◌ {B = Values [] × Unread} (decided number (steps.◌>>=◌ {B = Judged (Values [])} rest (λ ws. fields_at [] ws))) (λ v. Ok (v, after)) ≡ Ok (tt, after)
bare_read number after None e = absurd cc
bare_read number after (Some []) e = refl
bare_read number after (Some (word ∷ words)) e = absurd cc

-- the kind that a text names in a format is the one that the words of its first line name
kind_by_words : (format : Format) (known : List Kind) (text : Unread) (words : List (List ℕ)) (after : Unread) → next_words text ≡ Ok (words, after) → kind_of format known text ≡ kind_in format words known
kind_by_words format known text words after next =
    found_same (λ kind. is_ok (line_at (first_format format kind.name) text)) (λ kind. is_some (said (first_format format kind.name) words))
    (λ kind. ap (λ r. is_ok r) (line_by_words (first_format format kind.name) text words after next) ∙ bare_ok text.number after (after_words (first_format format kind.name).words words)) known

-- likewise in some formats
named_by_words : (formats : List Format) (known : List Kind) (text : Unread) (words : List (List ℕ)) (after : Unread) → next_words text ≡ Ok (words, after) → named_by formats known text ≡ named_in formats words known
named_by_words [] known text words after next = refl
named_by_words (format ∷ formats) known text words after next = λ i. named_or format (kind_by_words format known text words after next i) (named_by_words formats known text words after next i)

-- the words of a first line fit what it names
named_fits : (formats : List Format) (known : List Kind) (words : List (List ℕ)) (named : Named) → named_in formats words known ≡ Some named → is_some (said (first_format named.format named.kind.name) words) ≡ true
named_fits [] known words named e = absurd cc
named_fits (format ∷ formats) known words named e = by_kind (λ f. named_fits formats known words named f) (kind_in format words known) refl e
  where
    by_kind : (named_in formats words known ≡ Some named → is_some (said (first_format named.format named.kind.name) words) ≡ true) → (found : Option Kind) → kind_in format words known ≡ found
        → named_or format found (named_in formats words known) ≡ Some named → is_some (said (first_format named.format named.kind.name) words) ≡ true
    by_kind others None is f = others f
    by_kind others (Some kind) is f =
        let here : record { format = format; kind = kind } ≡ named = cc in
        subst (λ (n : Named). is_some (said (first_format n.format n.kind.name) words) ≡ true) here (found_passes (λ k. is_some (said (first_format format k.name) words)) known kind is)

-- a first line that names something
pub first_read : (formats : List Format) (known : List Kind) (text : Unread) (words : List (List ℕ)) (after : Unread) (named : Named) → next_words text ≡ Ok (words, after) → named_in formats words known ≡ Some named → first_at formats known text ≡ Ok (named, after)
first_read formats known text words after named next e =
    let fits = named_fits formats known words named e in
    let format = first_format named.format named.kind.name in
    let line : line_at format text ≡ Ok (tt, after) = line_by_words format text words after next ∙ bare_read text.number after (after_words format.words words) fits in
    ap (λ found. behind found text) (named_by_words formats known text words after next ∙ e) ∙ ap (λ (r : Result (Values [] × Unread) Refusal). r >>= λ first. Ok (named, first.1)) line

-- one that names nothing
pub first_unknown : (formats : List Format) (known : List Kind) (text : Unread) (words : List (List ℕ)) (after : Unread) → next_words text ≡ Ok (words, after) → named_in formats words known ≡ None → first_at formats known text ≡ Err (bad_answer text.number)
first_unknown formats known text words after next none = ap (λ found. behind found text) (named_by_words formats known text words after next ∙ none)

-- ---- no first line

-- a line that has no words is refused under every format
no_line : (format : LineFormat) (number : ℕ) (lines : List (List ℕ)) (refusal : Refusal) → first_words number lines ≡ Err refusal → (line_at format (record { number = number; lines = lines }) ≡ Err (bad_answer number)) × (refusal ≡ bad_answer number)
no_line format number [] refusal e = (refl, cc)
no_line format number (line ∷ lines) refusal e = by_words (words_of line) refl e
  where
    say : Option (List (List ℕ)) → Option (Values format.fields)
    say words = steps.◌>>=◌ words (λ found. steps.◌>>=◌ (after_words format.words found) (values_of format.fields))

    told : Option (List (List ℕ)) → Result (Values format.fields × Unread) Refusal
    told words = ◌>>=◌ {B = Values format.fields × Unread} (judged format.fields number (say words)) (λ values. Ok (values, record { number = number + 1; lines = lines }))

    by_words : (found : Option (List (List ℕ))) → words_of line ≡ found → ◌>>=◌ {B = List (List ℕ) × Unread} (numbered_words number found) (λ words. Ok (words, record { number = number + 1; lines = lines })) ≡ Err refusal
        → (told (words_of line) ≡ Err (bad_answer number)) × (refusal ≡ bad_answer number)
    by_words None is f = (ap told is, cc)
    by_words (Some words) is f = absurd cc

-- then nothing is named
none_named : (formats : List Format) (known : List Kind) (text : Unread) (refusal : Refusal) → next_words text ≡ Err refusal → named_by formats known text ≡ None
none_named [] known text refusal e = refl
none_named (format ∷ formats) known text refusal e =
    let none : kind_of format known text ≡ None = found_none (λ kind. is_ok (line_at (first_format format kind.name) text)) (λ kind. ap (λ r. is_ok r) (no_line (first_format format kind.name) text.number text.lines refusal e).0) known in
    λ i. named_or format (none i) (none_named formats known text refusal e i)

-- and the first line is refused
pub first_refused : (formats : List Format) (known : List Kind) (text : Unread) (refusal : Refusal) → next_words text ≡ Err refusal → first_at formats known text ≡ Err refusal
first_refused formats known text refusal e =
    ap (λ found. behind found text) (none_named formats known text refusal e) ∙ ap (λ (r : Refusal). refuse r) (sym (no_line (record { words = []; fields = [] }) text.number text.lines refusal e).1)
  where
    refuse : Refusal → Result (Named × Unread) Refusal
    refuse r = Err r

-- ---- the head

-- what stands behind the first line
by_first : (named : Named) (read : Result (Values [] × Unread) Refusal) → (◌>>=◌ {B = Named × Unread} read (λ first. Ok (named, first.1)) >>= λ n. sizes_at n.0.format n.0.kind n.1) ≡ (read >>= λ first. sizes_at named.format named.kind first.1)
by_first named (Ok first) = refl
by_first named (Err refusal) = refl

-- a head is its first line and what stands behind it
pub head_by_first : (found : Option Named) (text : Unread) → (behind found text >>= λ n. sizes_at n.0.format n.0.kind n.1) ≡ head_of found text
head_by_first None text = refl
head_by_first (Some named) text = by_first named (line_at (first_format named.format named.kind.name) text)
