-- What is read word by word is what the formats of the model read.
use Rattle.std.proofs.Common.{◌≡◌, ◌∙◌, refl, sym, ap, subst, ℕ, suc, ◌+◌, ◌-◌, ◌<◌, Bool, true, false, not, ◌&&◌, List, [], ◌∷◌, ◌++◌, append_assoc, map, Option, Some, None, Result, Ok, Err, arith}
use Rattle.std.specs.Prelude.{if◌then◌else◌}
use Rattle.std.specs.Option.{option_map}
use Rattle.std.proofs.lemmas.List.{map-append}
use Rattle.bounds_model.specs.AnswerText.Lines.{words_of}
use Rattle.bounds_model.specs.AnswerText.Numerals as steps
use Rattle.bounds_model.specs.AnswerText.Fields.{Field, Value, value_of, is_small, is_in_range}
use Rattle.bounds_model.specs.AnswerText.LineFormats.{LineFormat, untitled, Values, after_words, values_of, are_small, are_in_range}
use Rattle.bounds_model.specs.AnswerText.Formats.{Refusal, bad_answer, big_number, Unread, ◌>>=◌, judged, line_at, lines_at}
use Rattle.text_laws.proofs.AnswerTexts.FormLaws.{read_is}
use Rattle.answer_lines.specs.declared.fault.ReadFault.{ReadFault}
use Rattle.answer_lines.specs.declared.fault.ReadFault.TheVariants.{BadAnswer, BigNumber, OutOfMemory}
use Rattle.answer_lines.specs.declared.judging.Flaw.TheVariants.{PastLimit, OutOfRange}
use Rattle.answer_lines.specs.Judging.{Judged, judged_by, both, seen, judged_field, fields_at, said}
use Rattle.answer_lines.specs.Lines.{decided, numbered_words, first_words, next_words}
use Rattle.answer_lines.specs.Outcomes.{Finds, RefusesOr, Refuses, Reads}

-- ---- fields

-- two values that are judged together
both_judged : {A B : Type 0} (s p t q : Bool) (x : A) (y : B) → both (judged_by s p x) (judged_by t q y) ≡ judged_by (s && t) (p && q) (x, y)
both_judged true true true true x y = refl
both_judged true true true false x y = refl
both_judged true true false q x y = refl
both_judged true false true true x y = refl
both_judged true false true false x y = refl
both_judged true false false q x y = refl
both_judged false p t q x y = refl

-- several values
abbrev pub judged_values : (fields : List Field) → Values fields → Judged (Values fields)
judged_values fields values = judged_by (are_small fields values) (are_in_range fields values) values

-- the fields behind the first
abbrev judged_rest : (field : Field) (fields : List Field) → Value field → Option (Values fields) → Option (Judged (Values (field ∷ fields)))
judged_rest field fields v others = steps.◌>>=◌ {B = Judged (Values (field ∷ fields))} (steps.◌>>=◌ {B = Values (field ∷ fields)} others (λ vs. Some (v, vs))) (λ vs. Some (judged_values (field ∷ fields) vs))

-- the first field and those behind it
first_and_rest : (field : Field) (fields : List Field) (v : Value field) (others : Option (Values fields))
    → steps.◌>>=◌ {B = Judged (Values (field ∷ fields))} (steps.◌>>=◌ {B = Judged (Values fields)} others (λ vs. Some (judged_values fields vs))) (λ js. Some (both (judged_field field v) js)) ≡ judged_rest field fields v others
first_and_rest field fields v None = refl
first_and_rest field fields v (Some vs) = ap (λ (j : Judged (Values (field ∷ fields))). Some j) (both_judged (is_small field v) (is_in_range field v) (are_small fields vs) (are_in_range fields vs) v vs)

-- fields are judged one by one as they are together
pub fields_judged : (fields : List Field) (words : List (List ℕ)) → fields_at fields words ≡ steps.◌>>=◌ {B = Judged (Values fields)} (values_of fields words) (λ vs. Some (judged_values fields vs))
fields_judged [] [] = refl
fields_judged [] (word ∷ words) = refl
fields_judged (field ∷ fields) words = by_first (λ rest. fields_judged fields rest) (value_of field words)
  where
    by_first : ((rest : List (List ℕ)) → fields_at fields rest ≡ steps.◌>>=◌ {B = Judged (Values fields)} (values_of fields rest) (λ vs. Some (judged_values fields vs))) → (r : Option (Value field × List (List ℕ)))
        → steps.◌>>=◌ {B = Judged (Values (field ∷ fields))} (steps.◌>>=◌ {B = Judged (Value field) × List (List ℕ)} r (λ first. Some (judged_field field first.0, first.1))) (λ first. steps.◌>>=◌ {B = Judged (Values (field ∷ fields))} (fields_at fields first.1) (λ others. Some (both first.0 others)))
        ≡ steps.◌>>=◌ {B = Judged (Values (field ∷ fields))} (steps.◌>>=◌ {B = Values (field ∷ fields)} r (λ first. steps.◌>>=◌ {B = Values (field ∷ fields)} (values_of fields first.1) (λ others. Some (first.0, others)))) (λ vs. Some (judged_values (field ∷ fields) vs))
    by_first others None = refl
    by_first others (Some (v, rest)) = ap (λ (js : Option (Judged (Values fields))). steps.◌>>=◌ {B = Judged (Values (field ∷ fields))} js (λ others. Some (both (judged_field field v) others))) (others rest) ∙ first_and_rest field fields v (values_of fields rest)

-- ---- one line

-- the order of causes
by_causes : {A : Type 0} (small in_range : Bool) (number : ℕ) (v : A)
    → decided number (Some (judged_by small in_range v)) ≡ (if not small then Err (big_number number) else if not in_range then Err (bad_answer number) else Ok v)
by_causes true true number v = refl
by_causes true false number v = refl
by_causes false in_range number v = refl

-- the fields of a line
by_values : (fields : List Field) (number : ℕ) (values : Option (Values fields)) → decided number (steps.◌>>=◌ {B = Judged (Values fields)} values (λ vs. Some (judged_values fields vs))) ≡ judged fields number values
by_values fields number None = refl
by_values fields number (Some vs) = by_causes (are_small fields vs) (are_in_range fields vs) number vs

-- the words of a line
by_words : (format : LineFormat) (number : ℕ) (rest : Option (List (List ℕ)))
    → decided number (steps.◌>>=◌ {B = Judged (Values format.fields)} rest (λ words. fields_at format.fields words)) ≡ judged format.fields number (steps.◌>>=◌ {B = Values format.fields} rest (λ words. values_of format.fields words))
by_words format number None = refl
by_words format number (Some words) = ap (decided number) (fields_judged format.fields words) ∙ by_values format.fields number (values_of format.fields words)

-- a line by its words
by_line : (format : LineFormat) (number : ℕ) (next : Unread) (read : Option (List (List ℕ))) (words : List (List ℕ)) (after : Unread)
    → ◌≡◌ {A = Result (List (List ℕ) × Unread) Refusal} (numbered_words number read >>= λ ws. Ok (ws, next)) (Ok (words, after))
    → ◌>>=◌ {B = Values format.fields × Unread} (judged format.fields number (steps.◌>>=◌ {B = Values format.fields} read (λ ws. steps.◌>>=◌ {B = Values format.fields} (after_words format.words ws) (λ rest. values_of format.fields rest)))) (λ v. Ok (v, next))
    ≡ (decided number (said format words) >>= λ v. Ok (v, after))
by_line format number next None words after e = absurd cc
by_line format number next (Some ws) words after e =
    let both_same : ◌≡◌ {A = List (List ℕ) × Unread} (ws, next) (words, after) = read_is (ws, next) (words, after) e in
    let same : ws ≡ words = ap (λ (x : List (List ℕ) × Unread). x.0) both_same in
    let rest : next ≡ after = ap (λ (x : List (List ℕ) × Unread). x.1) both_same in
    ap (λ (r : Result (Values format.fields) Refusal). ◌>>=◌ {B = Values format.fields × Unread} r (λ v. Ok (v, next))) (sym (by_words format number (after_words format.words ws)))
    ∙ (λ i. ◌>>=◌ {B = Values format.fields × Unread} (decided number (said format (same i))) (λ v. Ok (v, rest i)))

-- a line of a format, by its words
pub line_by_words : (format : LineFormat) (text : Unread) (words : List (List ℕ)) (after : Unread) → next_words text ≡ Ok (words, after) → line_at format text ≡ (decided text.number (said format words) >>= λ v. Ok (v, after))
line_by_words format text words after e = by_lines text.number text.lines e
  where
    by_lines : (number : ℕ) (lines : List (List ℕ)) → first_words number lines ≡ Ok (words, after) → line_at format (record { number = number; lines = lines }) ≡ (decided number (said format words) >>= λ v. Ok (v, after))
    by_lines number [] f = absurd cc
    by_lines number (line ∷ lines) f = by_line format number (record { number = number + 1; lines = lines }) (words_of line) words after f

-- ---- what the code reads

-- a refusal of one reading is that of another
pub refuses_too : {A B : Type 0} (fault : ReadFault) (a : Result A Refusal) (b : Result B Refusal) → ((refusal : Refusal) → a ≡ Err refusal → b ≡ Err refusal) → Refuses fault a → Refuses fault b
refuses_too (BadAnswer line) a b same refused = same (bad_answer line) refused
refuses_too (BigNumber line) a b same refused = same (big_number line) refused
refuses_too OutOfMemory a b same refused = absurd refused

-- steps behind what is read
pub reads_then : {X Y : Type 0} (view : X → Y) (result : Result X ReadFault) (read : Result X Refusal) → Reads (λ x. x) result read → Reads view result (read >>= λ x. Ok (view x))
reads_then view (Ok x) read reads = ap (λ r. r >>= λ y. Ok (view y)) reads
reads_then view (Err fault) read reads = refuses_too fault read (read >>= λ x. Ok (view x)) (λ refusal e. ap (λ r. r >>= λ y. Ok (view y)) e) reads

-- what is found, seen by a view
pub finds_is : {X Y : Type 0} (view : X → Y) (result : Option X) (there : Option Y) → Finds view result there → there ≡ option_map view result
finds_is view None there finds = finds
finds_is view (Some x) there finds = finds

-- what the words say, seen by a view
pub decided_seen : {X Y : Type 0} (view : X → Y) (number : ℕ) (says : Option (Judged X)) (after : Unread) → ◌>>=◌ {B = Y × Unread} (decided number (option_map (seen view) says)) (λ v. Ok (v, after)) ≡ (decided number says >>= λ x. Ok (view x, after))
decided_seen view number None after = refl
decided_seen view number (Some (Ok x)) after = refl
decided_seen view number (Some (Err PastLimit)) after = refl
decided_seen view number (Some (Err OutOfRange)) after = refl

-- a line whose words say this
pub line_read : {X : Type 0} (format : LineFormat) (values : X → Values format.fields) (text : Unread) (words : List (List ℕ)) (after : Unread) (says : Option (Judged X)) (result : Result X ReadFault)
    → next_words text ≡ Ok (words, after) → Finds (seen values) says (said format words) → Reads (λ x. x) result (decided text.number says) → Reads (λ x. (values x, after)) result (line_at format text)
line_read format values text words after says result next finds reads =
    let line : line_at format text ≡ (decided text.number says >>= λ x. Ok (values x, after)) =
    line_by_words format text words after next ∙ ap (λ (s : Option (Judged (Values format.fields))). ◌>>=◌ {B = Values format.fields × Unread} (decided text.number s) (λ v. Ok (v, after))) (finds_is (seen values) says (said format words) finds) ∙ decided_seen values text.number says after in
    subst (λ r. Reads (λ x. (values x, after)) result r) (sym line) (reads_then (λ x. (values x, after)) result (decided text.number says) reads)

-- ---- several lines, read in a loop

-- what was read before, and what is still read
abbrev pub with_front : {A : Type 0} → List A → Result (List A × Unread) Refusal → Result (List A × Unread) Refusal
with_front front read = read >>= λ x. Ok (front ++ x.0, x.1)

-- the first of the lines that are still read goes to those before
regrouped : {A : Type 0} (front : List A) (x : A) (read : Result (List A × Unread) Refusal) → with_front front (read >>= λ others. Ok (x ∷ others.0, others.1)) ≡ with_front (front ++ x ∷ []) read
regrouped front x (Ok others) = ap (λ xs. Ok (xs, others.1)) (sym (append_assoc front (x ∷ []) others.0))
regrouped front x (Err refusal) = refl

-- one line more is read
pub one_more : {X : Type 0} (fields : List Field) (values : X → Values fields) (front : List X) (count i : ℕ) (text : Unread) (x : X) (after : Unread) (total : Result (List (Values fields) × Unread) Refusal) → i < count
    → line_at (untitled fields) text ≡ Ok (values x, after) → with_front (map values front) (lines_at (count - i) (untitled fields) text) ≡ total
    → with_front (map values (front ++ x ∷ [])) (lines_at (count - (i + 1)) (untitled fields) after) ≡ total
one_more fields values front count i text x after total lt line so_far =
    let left : count - i ≡ suc (count - (i + 1)) = omega arith in
    let one : with_front (map values front) (lines_at (count - i) (untitled fields) text) ≡ with_front (map values front ++ values x ∷ []) (lines_at (count - (i + 1)) (untitled fields) after) =
    rw (left, line) (regrouped (map values front) (values x) (lines_at (count - (i + 1)) (untitled fields) after)) in
    ap (λ vs. with_front vs (lines_at (count - (i + 1)) (untitled fields) after)) (map-append values front (x ∷ [])) ∙ sym one ∙ so_far

-- a line that is refused
line_refused : (fields : List Field) (front : List (Values fields)) (left : ℕ) (text : Unread) (refusal : Refusal) → line_at (untitled fields) text ≡ Err refusal → with_front front (lines_at (suc left) (untitled fields) text) ≡ Err refusal
line_refused fields front left text refusal e =
    ap (λ (r : Result (Values fields × Unread) Refusal). with_front front (◌>>=◌ {B = List (Values fields) × Unread} r (λ first. ◌>>=◌ {B = List (Values fields) × Unread} (lines_at left (untitled fields) first.1) (λ others. Ok (first.0 ∷ others.0, others.1))))) e

-- and with it all lines
pub lines_refused : (fault : ReadFault) (fields : List Field) (front : List (Values fields)) (count i : ℕ) (text : Unread) (total : Result (List (Values fields) × Unread) Refusal) → i < count
    → Refuses fault (line_at (untitled fields) text) → with_front front (lines_at (count - i) (untitled fields) text) ≡ total → RefusesOr (Unit {0}) fault total
lines_refused fault fields front count i text total lt refused so_far = by_fault fault refused
  where
    left : count - i ≡ suc (count - (i + 1))
    left = omega (arith, lt)

    all_of : (refusal : Refusal) → line_at (untitled fields) text ≡ Err refusal → total ≡ Err refusal
    all_of refusal e = sym so_far ∙ ap (λ (k : ℕ). with_front front (lines_at k (untitled fields) text)) left ∙ line_refused fields front (count - (i + 1)) text refusal e

    by_fault : (f : ReadFault) → Refuses f (line_at (untitled fields) text) → RefusesOr (Unit {0}) f total
    by_fault (BadAnswer line) e = all_of (bad_answer line) e
    by_fault (BigNumber line) e = all_of (big_number line) e
    by_fault OutOfMemory e = tt
