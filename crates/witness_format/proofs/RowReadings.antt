-- Rows of potentials: their widths, how they are read number by number, and how they are printed.
use Rattle.std.proofs.Common.{◌≡◌, ◌∙◌, refl, sym, ap, subst, ℕ, zero, suc, ◌+◌, ◌-◌, ◌*◌, ◌<◌, ◌≤◌, ℤ, pos, nat_abs, Bool, true, false, ◌&&◌, List, [], ◌∷◌, ◌++◌, length, append_assoc, Option, Some, None, Result, Ok, Err, arith}
use Rattle.std.specs.Prelude.{nat_le, int_le}
use Rattle.std.specs.List.{list_all}
use Rattle.std.specs.Option.{option_map}
use Rattle.std.proofs.Math.Nat.{mul-le-mul}
use Rattle.std.proofs.lemmas.Bool.{le-leb, eq-eqb}
use Rattle.std.proofs.lemmas.List.{append-nil}
use Rattle.bounds_model.specs.Ranges.{number_limit}
use Rattle.bounds_model.specs.AnswerText.Numerals as steps
use Rattle.bounds_model.specs.AnswerText.Numerals.{natural_number}
use Rattle.bounds_model.specs.AnswerText.Fields.{natural, naturals, naturals_of, is_in_range}
use Rattle.bounds_model.specs.AnswerText.LineFormats.{Values, values_of}
use Rattle.bounds_model.specs.AnswerText.Formats.{Refusal, ◌>>=◌, Unread, line_at, rows_at}
use Rattle.bounds_model.specs.AnswerText.Kinds.{triangle}
use Rattle.bounds_model.specs.AnswerText.Written.{row_format}
use Rattle.text_laws.proofs.AnswerTexts.FormLaws.{read_is}
use Rattle.text_laws.proofs.AnswerTexts.NumberLaws.{some_is, bind_some}
use Rattle.text_laws.proofs.AnswerTexts.RangeLaws.{two_true}
use Rattle.text_laws.proofs.AnswerTexts.KgonKind.{sum_replicate}
use Rattle.answer_lines.specs.declared.fault.ReadFault.{ReadFault}
use Rattle.answer_lines.specs.declared.fault.ReadFault.TheVariants.{BadAnswer, BigNumber, OutOfMemory}
use Rattle.answer_lines.specs.declared.judging.Flaw.TheVariants.{PastLimit, OutOfRange}
use Rattle.answer_lines.specs.Judging.{Judged, judged_by, seen, judged_field, field_at, fields_at}
use Rattle.answer_lines.specs.Lines.{decided, next_words}
use Rattle.answer_lines.specs.Outcomes.{Finds, ReadsOr, Reads}
use Rattle.witness_format.specs.Rows.{rows_from, row_behind, rows_behind, put_behind, naturals_behind}
use Rattle.answer_lines.proofs.LineReadings.{fields_judged, judged_values, line_by_words, finds_is, decided_seen, reads_then}

-- ---- widths

-- no layers have no rows
pub no_layers : (longest : ℕ) → triangle longest 0 ≡ []
no_layers zero = refl
no_layers (suc longest) = no_layers longest

-- all rows of a width and of the smaller ones
pub all_rows : (longest layers : ℕ) → rows_from longest layers layers ≡ triangle longest layers
all_rows zero layers = refl
all_rows (suc longest) layers = refl

-- a row that is not the last of its width
pub row_more : (width left layers : ℕ) → 1 ≤ width → 1 < left → rows_from width left layers ≡ width ∷ rows_from width (left - 1) layers
row_more zero left layers some more = absurd (omega arith)
row_more (suc width) zero layers some more = absurd (omega arith)
row_more (suc width) (suc left) layers some more =
    let before : suc left - 1 ≡ left = omega arith in
    ap (λ (k : ℕ). suc width ∷ rows_from (suc width) k layers) (sym before)

-- the last row of its width
pub row_last : (width left layers : ℕ) → 1 ≤ width → left ≡ 1 → rows_from width left layers ≡ width ∷ rows_from (width - 1) layers layers
row_last zero left layers some last = absurd (omega arith)
row_last (suc width) left layers some last =
    let before : suc width - 1 ≡ width = omega arith in
    ap (λ (k : ℕ). rows_from (suc width) k layers) last ∙ ap (λ (ws : List ℕ). suc width ∷ ws) (sym (all_rows width layers)) ∙ ap (λ (k : ℕ). suc width ∷ rows_from k layers layers) (sym before)

-- how many numbers rows of these widths have
abbrev pub width_sum : List ℕ → ℕ
width_sum [] = 0
width_sum (width ∷ widths) = width + width_sum widths

-- in all layers
sum_most : (longest layers : ℕ) → width_sum (triangle longest layers) ≤ layers * longest * longest
sum_most zero layers = omega arith
sum_most (suc longest) layers = omega (arith, sum_replicate layers (suc longest) (triangle longest layers), sum_most longest layers)

-- ten layers over 127 positions at most
pub few_numbers : (longest layers : ℕ) → longest ≤ 127 → layers ≤ 10 → width_sum (triangle longest layers) ≤ 161290
few_numbers longest layers long deep =
    let one : layers * longest ≤ 10 * 127 = mul-le-mul deep long in
    let two : layers * longest * longest ≤ 1270 * 127 = mul-le-mul one long in
    omega (arith, sum_most longest layers)

-- ---- rows that are read one by one

-- nothing was read before
pub none_before : (widths : List ℕ) (text : Unread) → rows_behind [] widths text ≡ rows_at widths text
none_before widths text = by_rows (rows_at widths text)
  where
    by_rows : (r : Result (List ℤ × Unread) Refusal) → ◌>>=◌ {B = List ℤ × Unread} r (λ rows. Ok ([] ++ rows.0, rows.1)) ≡ r
    by_rows (Ok rows) = refl
    by_rows (Err refusal) = refl

-- the numbers of a row go to those before
regrouped : (front row : List ℤ) (read : Result (List ℤ × Unread) Refusal)
    → ◌>>=◌ {B = List ℤ × Unread} (◌>>=◌ {B = List ℤ × Unread} read (λ others. Ok (row ++ others.0, others.1))) (λ rows. Ok (front ++ rows.0, rows.1)) ≡ ◌>>=◌ {B = List ℤ × Unread} read (λ rows. Ok ((front ++ row) ++ rows.0, rows.1))
regrouped front row (Ok others) = ap (λ (zs : List ℤ). Ok (zs, others.1)) (sym (append_assoc front row others.0))
regrouped front row (Err refusal) = refl

-- one row more is read
pub row_read : (front next : List ℤ) (width : ℕ) (widths : List ℕ) (text after : Unread) → row_behind front width text ≡ Ok (next, after) → rows_behind front (width ∷ widths) text ≡ rows_behind next widths after
row_read front next width widths text after e = by_row (line_at (row_format width) text) e
  where
    by_row : (r : Result (Values (row_format width).fields × Unread) Refusal) → ◌>>=◌ {B = List ℤ × Unread} r (λ row. Ok (front ++ row.0.0, row.1)) ≡ Ok (next, after)
        → ◌>>=◌ {B = List ℤ × Unread} (◌>>=◌ {B = List ℤ × Unread} r (λ row. rows_at widths row.1 >>= λ others. Ok (row.0.0 ++ others.0, others.1))) (λ rows. Ok (front ++ rows.0, rows.1)) ≡ rows_behind next widths after
    by_row (Err refusal) f = absurd cc
    by_row (Ok row) f =
        let is : ◌≡◌ {A = List ℤ × Unread} (front ++ row.0.0, row.1) (next, after) = read_is (front ++ row.0.0, row.1) (next, after) f in
        regrouped front row.0.0 (rows_at widths row.1) ∙ (λ i. rows_behind (is i).0 widths (is i).1)

-- ---- the numbers of a row

-- the number is within the limit
abbrev within : ℤ → Bool
within z = nat_le (nat_abs z) number_limit

-- a number without a sign is not below 0
not_below : (n : ℕ) → int_le (pos 0) (pos n) ≡ true
not_below n = le-leb 0 n (omega arith)

-- numbers behind which a number is put
put_judged : (s t : Bool) (front : List ℤ) (z : ℤ) → put_behind (judged_by s true front) (judged_by t true z) ≡ judged_by (s && t) true (front ++ z ∷ [])
put_judged true true front z = refl
put_judged true false front z = refl
put_judged false true front z = refl
put_judged false false front z = refl

-- what is judged number by number is judged together
judged_together : (s t u : Bool) (front zs : List ℤ) (z : ℤ) → judged_by ((s && (t && true)) && u) true ((front ++ z ∷ []) ++ zs) ≡ judged_by (s && (t && u)) true (front ++ z ∷ zs)
judged_together true true u front zs z = ap (λ (ys : List ℤ). judged_by u true ys) (append_assoc front (z ∷ []) zs)
judged_together true false u front zs z = refl
judged_together false t u front zs z = refl

-- a test and a second one that always passes
and_true : (s : Bool) → s && true ≡ s
and_true true = refl
and_true false = refl

-- numbers that take all words, behind some
abbrev all_taken : Bool → List ℤ → Option (List ℤ × List (List ℕ)) → Option (Judged (List ℤ))
all_taken s front read = steps.◌>>=◌ {B = Judged (List ℤ)} read (λ x. steps.◌>>=◌ {B = Judged (List ℤ)} (values_of [] x.1) (λ v. Some (judged_by (s && list_all within x.0) true (front ++ x.0))))

-- one number more
taken_more : (s : Bool) (front : List ℤ) (n : ℕ) (read : Option (List ℤ × List (List ℕ)))
    → all_taken (s && (within (pos n) && true)) (front ++ pos n ∷ []) read ≡ all_taken s front (steps.◌>>=◌ {B = List ℤ × List (List ℕ)} read (λ others. Some (pos n ∷ others.0, others.1)))
taken_more s front n None = refl
taken_more s front n (Some x) = by_values (values_of [] x.1)
  where
    by_values : (v : Option (Values []))
        → steps.◌>>=◌ {B = Judged (List ℤ)} v (λ w. Some (judged_by ((s && (within (pos n) && true)) && list_all within x.0) true ((front ++ pos n ∷ []) ++ x.0))) ≡ steps.◌>>=◌ {B = Judged (List ℤ)} v (λ w. Some (judged_by (s && (within (pos n) && list_all within x.0)) true (front ++ pos n ∷ x.0)))
    by_values None = refl
    by_values (Some v) = ap (λ (j : Judged (List ℤ)). Some j) (judged_together s (within (pos n)) (list_all within x.0) front x.0 (pos n))

-- numbers read one by one
one_by_one : (s : Bool) (front : List ℤ) (count : ℕ) (words : List (List ℕ)) → naturals_behind (judged_by s true front) count words ≡ all_taken s front (naturals_of count words)
one_by_one s front zero [] = (λ i. Some (judged_by (sym (and_true s) i) true (sym (append-nil front) i)))
one_by_one s front zero (word ∷ words) = refl
one_by_one s front (suc count) [] = refl
one_by_one s front (suc count) (word ∷ words) = by_number (λ t ys. one_by_one t ys count words) (natural_number word)
  where
    by_number : ((t : Bool) (ys : List ℤ) → naturals_behind (judged_by t true ys) count words ≡ all_taken t ys (naturals_of count words)) → (r : Option ℕ)
        → steps.◌>>=◌ {B = Judged (List ℤ)} (steps.◌>>=◌ {B = Judged ℤ × List (List ℕ)} (steps.◌>>=◌ {B = ℤ × List (List ℕ)} r (λ n. Some (pos n, words))) (λ first. Some (judged_field natural first.0, first.1))) (λ first. naturals_behind (put_behind (judged_by s true front) first.0) count first.1)
        ≡ all_taken s front (steps.◌>>=◌ {B = List ℤ × List (List ℕ)} r (λ n. steps.◌>>=◌ {B = List ℤ × List (List ℕ)} (naturals_of count words) (λ others. Some (pos n ∷ others.0, others.1))))
    by_number rest None = refl
    by_number rest (Some n) =
        ap (λ (j : Judged ℤ). naturals_behind (put_behind (judged_by s true front) j) count words) (ap (λ (p : Bool). judged_by (within (pos n) && true) p (pos n)) (not_below n))
        ∙ ap (λ (j : Judged (List ℤ)). naturals_behind j count words) (put_judged s (within (pos n) && true) front (pos n))
        ∙ rest (s && (within (pos n) && true)) (front ++ pos n ∷ []) ∙ taken_more s front n (naturals_of count words)

-- numbers that were read are in their ranges
read_in_range : (count : ℕ) (words : List (List ℕ)) (x : List ℤ × List (List ℕ)) → naturals_of count words ≡ Some x → (length x.0 ≡ count) × (list_all (λ z. int_le (pos 0) z) x.0 ≡ true)
read_in_range zero words x e = subst (λ (y : List ℤ × List (List ℕ)). (length y.0 ≡ 0) × (list_all (λ z. int_le (pos 0) z) y.0 ≡ true)) (some_is ([], words) x e) (refl, refl)
read_in_range (suc count) [] x e = absurd cc
read_in_range (suc count) (word ∷ words) x e =
    let r = bind_some (natural_number word) (λ n. steps.◌>>=◌ {B = List ℤ × List (List ℕ)} (naturals_of count words) (λ others. Some (pos n ∷ others.0, others.1))) x e in
    let q = bind_some {B = List ℤ × List (List ℕ)} (naturals_of count words) (λ others. Some (pos r.0 ∷ others.0, others.1)) x r.2 in
    let others = read_in_range count words q.0 q.1 in
    let is : ◌≡◌ {A = List ℤ × List (List ℕ)} (pos r.0 ∷ q.0.0, q.0.1) x = some_is (pos r.0 ∷ q.0.0, q.0.1) x q.2 in
    subst (λ (y : List ℤ × List (List ℕ)). (length y.0 ≡ suc count) × (list_all (λ z. int_le (pos 0) z) y.0 ≡ true)) is (ap suc others.0, two_true _ _ (not_below r.0) others.1)

-- a row as its format reads it, behind numbers
pub row_says : (front : List ℤ) (count : ℕ) (words : List (List ℕ)) → naturals_behind (Ok front) count words ≡ option_map (seen (λ (v : Values (naturals count ∷ [])). front ++ v.0)) (fields_at (naturals count ∷ []) words)
row_says front count words =
    one_by_one true front count words ∙ by_read (naturals_of count words) (λ x e. read_in_range count words x e)
    ∙ sym (ap (λ (o : Option (Judged (Values (naturals count ∷ [])))). option_map (seen (λ (v : Values (naturals count ∷ [])). front ++ v.0)) o) (fields_judged (naturals count ∷ []) words))
  where
    by_tests : (s p : Bool) (zs : List ℤ) → p ≡ true → judged_by (true && s) true (front ++ zs) ≡ seen {A = Values (naturals count ∷ [])} (λ v. front ++ v.0) (judged_by (s && true) (p && true) (zs, tt))
    by_tests true true zs e = refl
    by_tests true false zs e = absurd cc
    by_tests false p zs e = refl

    by_end : (zs : List ℤ) (p : is_in_range (naturals count) zs ≡ true) (v : Option (Values []))
        → steps.◌>>=◌ {B = Judged (List ℤ)} v (λ w. Some (judged_by (true && list_all within zs) true (front ++ zs)))
        ≡ option_map (seen (λ (u : Values (naturals count ∷ [])). front ++ u.0)) (steps.◌>>=◌ {B = Judged (Values (naturals count ∷ []))} (steps.◌>>=◌ {B = Values (naturals count ∷ [])} v (λ others. Some (zs, others))) (λ vs. Some (judged_values (naturals count ∷ []) vs)))
    by_end zs p None = refl
    by_end zs p (Some v) = ap (λ (j : Judged (List ℤ)). Some j) (by_tests (list_all within zs) (is_in_range (naturals count) zs) zs p)

    by_read : (r : Option (List ℤ × List (List ℕ))) → ((x : List ℤ × List (List ℕ)) → r ≡ Some x → (length x.0 ≡ count) × (list_all (λ z. int_le (pos 0) z) x.0 ≡ true))
        → all_taken true front r
        ≡ option_map (seen (λ (v : Values (naturals count ∷ [])). front ++ v.0)) (steps.◌>>=◌ {B = Judged (Values (naturals count ∷ []))} (steps.◌>>=◌ {B = Values (naturals count ∷ [])} r (λ first. steps.◌>>=◌ {B = Values (naturals count ∷ [])} (values_of [] first.1) (λ others. Some (first.0, others)))) (λ vs. Some (judged_values (naturals count ∷ []) vs)))
    by_read None ranges = refl
    by_read (Some x) ranges =
        let in_range = ranges x refl in
        by_end x.0 (two_true _ _ (eq-eqb (length x.0) count in_range.0) in_range.1) (values_of [] x.1)

-- ---- a loop over words

-- one number more is read
pub number_more : (front : Judged (List ℤ)) (count i : ℕ) (words others : List (List ℕ)) (n : Judged ℤ) (total : Option (Judged (List ℤ))) → i < count → field_at natural words ≡ Some (n, others)
    → naturals_behind front (count - i) words ≡ total → naturals_behind (put_behind front n) (count - (i + 1)) others ≡ total
number_more front count i words others n total lt first so_far =
    let left : count - i ≡ suc (count - (i + 1)) = omega arith in
    let next : naturals_behind front (suc (count - (i + 1))) words ≡ naturals_behind (put_behind front n) (count - (i + 1)) others = ap (λ (o : Option (Judged ℤ × List (List ℕ))). steps.◌>>=◌ {B = Judged (List ℤ)} o (λ f. naturals_behind (put_behind front f.0) (count - (i + 1)) f.1)) first in
    sym next ∙ ap (λ (k : ℕ). naturals_behind front k words) (sym left) ∙ so_far

-- ---- a row

-- what the words say, with the numbers behind those before
by_said : (front : List ℤ) (width number : ℕ) (after : Unread) (s : Option (Judged (Values (naturals width ∷ []))))
    → ◌>>=◌ {B = List ℤ × Unread} (◌>>=◌ {B = Values (naturals width ∷ []) × Unread} (decided number s) (λ v. Ok (v, after))) (λ row. Ok (front ++ row.0.0, row.1)) ≡ ◌>>=◌ {B = List ℤ × Unread} (decided number (option_map (seen (λ (v : Values (naturals width ∷ [])). front ++ v.0)) s)) (λ zs. Ok (zs, after))
by_said front width number after None = refl
by_said front width number after (Some (Ok v)) = refl
by_said front width number after (Some (Err PastLimit)) = refl
by_said front width number after (Some (Err OutOfRange)) = refl

-- where memory may be wanting, what reads without it reads too
reads_weaker : {X Y : Type 0} (view : X → Y) (result : Result X ReadFault) (read : Result Y Refusal) → Reads view result read → ReadsOr (Unit {0}) view result read
reads_weaker view (Ok x) read reads = reads
reads_weaker view (Err (BadAnswer line)) read reads = reads
reads_weaker view (Err (BigNumber line)) read reads = reads
reads_weaker view (Err OutOfMemory) read reads = tt

-- a row whose words say this
pub row_reads : (front next : List ℤ) (width : ℕ) (text : Unread) (words : List (List ℕ)) (after : Unread) (says : Option (Judged (Unit {0}))) (result : Result (Unit {0}) ReadFault) → next_words text ≡ Ok (words, after)
    → Finds (seen (λ (u : Unit {0}). next)) says (naturals_behind (Ok front) width words) → Reads (λ x. x) result (decided text.number says) → ReadsOr (Unit {0}) (λ u. (next, after)) result (row_behind front width text)
row_reads front next width text words after says result line finds reads =
    let row : row_behind front width text ≡ ◌>>=◌ {B = List ℤ × Unread} (decided text.number says) (λ u. Ok (next, after)) =
    ap (λ (r : Result (Values (naturals width ∷ []) × Unread) Refusal). ◌>>=◌ {B = List ℤ × Unread} r (λ row. Ok (front ++ row.0.0, row.1))) (line_by_words (row_format width) text words after line)
    ∙ by_said front width text.number after (fields_at (naturals width ∷ []) words)
    ∙ ap (λ (s : Option (Judged (List ℤ))). ◌>>=◌ {B = List ℤ × Unread} (decided text.number s) (λ zs. Ok (zs, after))) (sym (row_says front width words) ∙ finds_is (seen (λ (u : Unit {0}). next)) says (naturals_behind (Ok front) width words) finds)
    ∙ decided_seen (λ (u : Unit {0}). next) text.number says after in
    reads_weaker (λ u. (next, after)) result (row_behind front width text) (subst (λ r. Reads (λ (u : Unit {0}). (next, after)) result r) (sym row) (reads_then (λ u. (next, after)) result (decided text.number says) reads))
