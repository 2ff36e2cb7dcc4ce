-- The records of a text, read one by one.
use Rattle.std.proofs.Common.{◌≡◌, ◌∙◌, refl, sym, ap, ℕ, zero, suc, ◌+◌, ◌<◌, ◌≤◌, ◌==◌, ◌||◌, Bool, true, false, cond, List, [], ◌∷◌, ◌++◌, length, take, Option, Some, None, arith, append_assoc, append-nil, Bor, inl}
use Rattle.csv.specs.Machine.{Read, step, in_field, start_field, start_record, ends_at_end, is_end, fields_after, field_after, next_record}
use Rattle.csv.specs.Reading.{is_bom, default_config, strip_bom, records_from, Reached, Ready, ReadRecord, source_of}
use Rattle.csv.specs.Records.{field_at}
use Rattle.csv.specs.declared.parser.State.{State}
use Rattle.csv.specs.declared.parser.State.TheVariants as st
use Rattle.csv.specs.declared.parser.Action.{Action}
use Rattle.csv.specs.declared.parser.Action.TheVariants as act
use Rattle.csv.specs.declared.reader.Reader.{Reader}
use Rattle.csv.specs.declared.reader.Trim.TheVariants as trim
use Rattle.csv.proofs.ReadFacts.{rows-more, rows-end}
use Rattle.bounds_model.specs.Asks.{Shape}
use Rattle.point_text.specs.declared.judgement.Judgement.{Judgement}
use Rattle.point_text.specs.Files.{records_of}
use Rattle.point_text.specs.Judged.{IsJudgement, lines_judged}

-- ---- fields of a record

pub take_field : (fields : List (List ℕ)) (i : ℕ) (f : List ℕ) → Some f ≡ field_at fields i → take (suc i) fields ≡ take i fields ++ f ∷ []
unfolding field_at
take_field [] i f is = cc
take_field (g ∷ fields) zero f is = ap (λ h. h ∷ []) (cc)
take_field (g ∷ fields) (suc i) f is = ap (λ fs. g ∷ fs) (take_field fields i f is)

pub take_fields : (fields : List (List ℕ)) (i : ℕ) → None ≡ field_at fields i → take i fields ≡ fields
unfolding field_at
take_fields [] zero is = refl
take_fields [] (suc i) is = refl
take_fields (g ∷ fields) zero is = cc
take_fields (g ∷ fields) (suc i) is = ap (λ fs. g ∷ fs) (take_fields fields i is)

-- ---- the machine between records

-- where this step ends a record, the machine stands before the next
abbrev EndsBefore : State × Action → Type 0
EndsBefore after = is_end after.1 ≡ true → ends_at_end after.0 ≡ false

ends_guard : (test : Bool) (s : State) (a : Action) (rest : State × Action) → is_end a ≡ false → EndsBefore rest → EndsBefore (cond test (s, a) rest)
ends_guard true s a rest none ends = λ e. cc
ends_guard false s a rest none ends = ends

ends_last : (test feed : Bool) → EndsBefore (cond test (cond feed st.AfterCr st.StartRecord, act.EndRecord) (st.InField, act.Copy))
ends_last true true = λ e. refl
ends_last true false = λ e. refl
ends_last false feed = λ e. cc

in_field_ends : (c : ℕ) → EndsBefore (in_field default_config c)
in_field_ends c = ends_guard (c == 44) st.StartField act.EndField _ refl (ends_last ((c == 13) || (c == 10)) (c == 13))

start_field_ends : (c : ℕ) → EndsBefore (start_field default_config c)
start_field_ends c = ends_guard (c == 34) st.InQuoted act.Skip _ refl (in_field_ends c)

start_record_ends : (c : ℕ) → EndsBefore (start_record default_config c)
start_record_ends c = ends_guard ((c == 13) || (c == 10)) st.StartRecord act.Skip _ refl (start_field_ends c)

step_ends : (s : State) (c : ℕ) → EndsBefore (step default_config s c)
step_ends st.StartRecord c = start_record_ends c
step_ends st.StartField c = start_field_ends c
step_ends st.InField c = in_field_ends c
step_ends st.InQuoted c = ends_guard (c == 34) st.AfterQuote act.Skip (st.InQuoted, act.Copy) refl (λ e. cc)
step_ends st.InEscape c = λ e. cc
step_ends st.AfterQuote c = ends_guard (c == 34) st.InQuoted act.Copy _ refl (in_field_ends c)
step_ends st.InComment c = ends_guard (c == 10) st.StartRecord act.Skip (st.InComment, act.Skip) refl (λ e. cc)
step_ends st.AfterCr c = ends_guard (c == 10) st.StartRecord act.Skip _ refl (start_record_ends c)

-- a read leaves no more than it was given, and the machine before the next record
next_left : (s : State) (fields : List (List ℕ)) (field xs : List ℕ) (p : Read) → next_record default_config s fields field xs ≡ Some p
    → (length p.2 ≤ length xs) × (ends_at_end p.1 ≡ false)
unfolding next_record
next_left s fields field [] p is = by (ends_at_end s) is
  where
    by : (b : Bool) → cond b (Some (fields ++ field ∷ [], st.StartRecord, [])) None ≡ Some p → (length p.2 ≤ 0) × (ends_at_end p.1 ≡ false)
    by true e = let same : (fields ++ field ∷ [], st.StartRecord, []) ≡ p = cc in rw⁻¹ same (omega arith, refl)
    by false e = cc
next_left s fields field (c ∷ rest) p is =
    by (is_end (step default_config s c).1) refl is
    (next_left (step default_config s c).0 (fields_after (step default_config s c).1 fields field) (field_after (step default_config s c).1 c field) rest p)
  where
    by : (b : Bool) → is_end (step default_config s c).1 ≡ b
        → cond b (Some (fields_after (step default_config s c).1 fields field, (step default_config s c).0, rest))
        (next_record default_config (step default_config s c).0 (fields_after (step default_config s c).1 fields field) (field_after (step default_config s c).1 c field) rest) ≡ Some p
        → (next_record default_config (step default_config s c).0 (fields_after (step default_config s c).1 fields field) (field_after (step default_config s c).1 c field) rest ≡ Some p
        → (length p.2 ≤ length rest) × (ends_at_end p.1 ≡ false))
        → (length p.2 ≤ suc (length rest)) × (ends_at_end p.1 ≡ false)
    by true ends e more =
        let same : (fields_after (step default_config s c).1 fields field, (step default_config s c).0, rest) ≡ p = cc in
        rw⁻¹ same (omega arith, step_ends s c ends)
    by false ends e more = let left = more e in (omega (arith, left.0), left.1)

-- a read from before a record takes a byte at least
next_shorter : (s : State) (xs : List ℕ) (p : Read) → ends_at_end s ≡ false → next_record default_config s [] [] xs ≡ Some p → length p.2 < length xs
unfolding next_record
next_shorter s [] p before is = let none : None ≡ Some p = rw before at is in cc
next_shorter s (c ∷ rest) p before is = by (is_end (step default_config s c).1) is
  where
    by : (b : Bool)
        → cond b (Some (fields_after (step default_config s c).1 [] [], (step default_config s c).0, rest))
        (next_record default_config (step default_config s c).0 (fields_after (step default_config s c).1 [] []) (field_after (step default_config s c).1 c []) rest) ≡ Some p
        → length p.2 < suc (length rest)
    by true e = let same : (fields_after (step default_config s c).1 [] [], (step default_config s c).0, rest) ≡ p = cc in rw⁻¹ same (omega arith)
    by false e =
        let left = next_left (step default_config s c).0 (fields_after (step default_config s c).1 [] []) (field_after (step default_config s c).1 c []) rest p e in
        omega (arith, left.0)

-- ---- the records that are left

-- these are the first records of the text, and what is left of it gives the others
pub record Left (bytes : List ℕ) (s : State) (rest : List ℕ) (before : List (List (List ℕ))) : Type 0 where
  pub turns : ℕ
  pub all : records_of bytes ≡ before ++ records_from default_config turns s rest
  pub enough : length rest < turns
  pub between : ends_at_end s ≡ false

left_at_start : (bytes : List ℕ) → Left bytes st.StartRecord (strip_bom bytes) []
left_at_start bytes = record { turns = length (strip_bom bytes) + 1; all = refl; enough = omega arith; between = refl }

records_more : (turns : ℕ) (s : State) (rest : List ℕ) (p : Read) → length rest < turns → ends_at_end s ≡ false → next_record default_config s [] [] rest ≡ Some p
    → (fewer : ℕ) × (records_from default_config turns s rest ≡ p.0 ∷ records_from default_config fewer p.1 p.2) × (length p.2 < fewer)
unfolding records_from
records_more zero s rest p enough between is = absurd (omega (arith, enough))
records_more (suc n) s rest p enough between is = (n, rw is refl, let shorter = next_shorter s rest p between is in omega (arith, shorter, enough))

left_more : (bytes : List ℕ) (s : State) (rest : List ℕ) (before : List (List (List ℕ))) (p : Read) → Left bytes s rest before → next_record default_config s [] [] rest ≡ Some p
    → Left bytes p.1 p.2 (before ++ p.0 ∷ []) × (length p.2 < length rest)
left_more bytes s rest before p left is =
    let more = records_more left.turns s rest p left.enough left.between is in (
      record {
        turns = more.0;
        all = left.all ∙ (ap (λ rows. before ++ rows) more.1 ∙ sym (append_assoc before (p.0 ∷ []) (records_from default_config more.0 p.1 p.2)));
        enough = more.2;
        between = (next_left s [] [] rest p is).1;
      },
      next_shorter s rest p left.between is,
    )

records_none : (turns : ℕ) (s : State) (rest : List ℕ) → next_record default_config s [] [] rest ≡ None → records_from default_config turns s rest ≡ []
unfolding records_from
records_none zero s rest is = refl
records_none (suc n) s rest is = rw is refl

left_none : (bytes : List ℕ) (s : State) (rest : List ℕ) (before : List (List (List ℕ))) → Left bytes s rest before → next_record default_config s [] [] rest ≡ None → records_of bytes ≡ before
left_none bytes s rest before left is = left.all ∙ (ap (λ rows. before ++ rows) (records_none left.turns s rest is) ∙ append-nil before)

-- a text without its byte order mark is no longer
strip_bom_shorter : (bytes : List ℕ) → length (strip_bom bytes) ≤ length bytes
unfolding strip_bom
strip_bom_shorter [] = omega arith
strip_bom_shorter (a ∷ []) = omega arith
strip_bom_shorter (a ∷ b ∷ []) = omega arith
strip_bom_shorter (a ∷ b ∷ c ∷ rest) = by (is_bom a b c)
  where
    by : (mark : Bool) → length (cond mark rest (a ∷ b ∷ c ∷ rest)) ≤ suc (suc (suc (length rest)))
    by true = omega arith
    by false = omega arith

-- ---- records that are judged

abbrev known : Bor (List ℕ) → Option (List ℕ)
known bytes = Some bytes.now

-- the reader stands between records, and those before it were judged
pub record Judges (shape : Shape) (bytes : List ℕ) (reader : Reader (Bor (List ℕ))) (judgement : Judgement) : Type 0 where
  pub untrimmed : reader.trim ≡ trim.None
  pub ready : Ready reader
  pub config : reader.config ≡ default_config
  pub rest : List ℕ
  pub source : source_of known reader ≡ Some rest
  pub before : List (List (List ℕ))
  pub left : Left bytes reader.state rest before
  pub judged : IsJudgement judgement shape before
  pub few : lines_judged judgement + length rest ≤ length bytes

pub judges_none : (shape : Shape) (bytes : List ℕ) (reader : Reader (Bor (List ℕ))) (judgement : Judgement) → reader.trim ≡ trim.None → Ready reader → reader.config ≡ default_config
    → source_of known reader ≡ Some (strip_bom bytes) → reader.state ≡ st.StartRecord → IsJudgement judgement shape [] → lines_judged judgement ≡ 0 → Judges shape bytes reader judgement
judges_none shape bytes reader judgement untrimmed ready config source start judged none = record {
  untrimmed = untrimmed;
  ready = ready;
  config = config;
  rest = strip_bom bytes;
  source = source;
  before = [];
  left = rw start (left_at_start bytes);
  judged = judged;
  few = let shorter = strip_bom_shorter bytes in omega (arith, shorter, none);
}

left_as : (bytes : List ℕ) (s t : State) (xs ys : List ℕ) (before : List (List (List ℕ))) (f g : List (List ℕ)) → Left bytes s xs (before ++ f ∷ []) → g ≡ f → s ≡ t → xs ≡ ys
    → Left bytes t ys (before ++ g ∷ [])
left_as bytes s t xs ys before f g left is_f is_s is_xs = rw (is_f, ← is_s, ← is_xs) left

-- a read gives the next record of what is left
row_read : (reader next : Reader (Bor (List ℕ))) (row : List (List ℕ)) (rest : List ℕ) → reader.config ≡ default_config → source_of known reader ≡ Some rest → ReadRecord known reader next true row
    → (p : Read) × (next_record default_config reader.state [] [] rest ≡ Some p) × (row ≡ p.0) × (p.1 ≡ next.state) × (source_of known next ≡ Some p.2)
unfolding Reached
row_read reader next row rest config source read =
    let (z, source', (p, is, fields, (state, left))) = rows-more known reader next row default_config reader.state rest rest [] config source (refl, refl) read in
    (p, is, fields, state, rw left source')

-- a record that was read
pub judges_more : (shape : Shape) (bytes : List ℕ) (reader next : Reader (Bor (List ℕ))) (judgement judgement' : Judgement) (row : List (List ℕ)) (is : Judges shape bytes reader judgement)
    → ReadRecord known reader next true row → next.first ≡ true → IsJudgement judgement' shape (is.before ++ row ∷ []) → lines_judged judgement' ≤ lines_judged judgement + 1
    → Judges shape bytes next judgement'
judges_more shape bytes reader next judgement judgement' row is read first judged more =
    let (p, is_next, fields, state, source) = row_read reader next row is.rest is.config is.source read in
    let left = left_more bytes reader.state is.rest is.before p is.left is_next in
    record {
      untrimmed = read.3 ∙ is.untrimmed;
      ready = inl first;
      config = read.2 ∙ is.config;
      rest = p.2;
      source = source;
      before = is.before ++ row ∷ [];
      left = left_as bytes p.1 next.state p.2 p.2 is.before p.0 row left.0 fields state refl;
      judged = judged;
      few = omega (arith, is.few, left.1, more);
    }

-- no further record was read
pub judges_all : (shape : Shape) (bytes : List ℕ) (reader next : Reader (Bor (List ℕ))) (judgement : Judgement) (is : Judges shape bytes reader judgement)
    → ReadRecord known reader next false [] → records_of bytes ≡ is.before
judges_all shape bytes reader next judgement is read =
    left_none bytes reader.state is.rest is.before is.left (rows-end known reader next [] default_config is.rest is.config is.source read)
