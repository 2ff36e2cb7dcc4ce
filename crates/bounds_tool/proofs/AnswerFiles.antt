-- What an answer file reads as.
use Rattle.std.proofs.Common.{◌≡◌, ◌∙◌, inl, inr, refl, ap, sym, subst, ℕ, ◌<◌, ◌≤◌, cond, is_ok, Bool, true, false, List, [], ◌∷◌, length, Option, Some, None, Result, Ok, Err, IfSome, arith}
use Rattle.std.specs.Prelude.{nat_le}
use Rattle.std.proofs.lemmas.Bool.Decides.{nat_tests}
use Rattle.bounds_model.specs.Reports.{Report}
use Rattle.bounds_model.specs.AnswerText.Formats.{Refusal, bad_answer, big_number}
use Rattle.bounds_model.specs.AnswerText.Kinds.{kinds}
use Rattle.bounds_model.specs.AnswerText.Heads.{plain, scaled}
use Rattle.bounds_model.specs.AnswerText.Reading.{reading_report, all_lines}
use Rattle.bounds_model.specs.ErrorLines.{Cause, points_file, answer_file, open_fault, read_fault, too_long, out_of_memory}
use Rattle.bnd_io.specs.Faults.{Rose}
use Rattle.bnd_io.specs.Files.{Folder, FilesState, Continues, bytes_of}
use Rattle.answer_lines.specs.declared.fault.ReadFault.{ReadFault}
use Rattle.answer_lines.specs.declared.fault.ReadFault.TheVariants.{BadAnswer, BigNumber, OutOfMemory}
use Rattle.witness_format.specs.Kinds.{ReportMayWant}
use Rattle.answer_lines.specs.Outcomes.{RefusesOr}
use Rattle.bounds_tool.specs.Causes.{unread}
use Rattle.bounds_tool.specs.Judging.{◌>>=◌, limit_of, answer_in, read_answer}
use Rattle.bounds_tool.specs.Run.{FileCause, AnswerCause}
use Rattle.bounds_tool.proofs.PointFiles.{short}

-- a file within its limit reads as its text does
pub answer_in-text : (bytes : List ℕ) → length bytes ≤ limit_of answer_file → answer_in bytes ≡ read_answer (reading_report bytes)
answer_in-text bytes h = ap (λ t. cond t (Ok bytes) (Err (too_long answer_file)) >>= λ whole. read_answer (reading_report whole)) (short (length bytes) (limit_of answer_file) h)

-- the same of a file that is told
pub answer_in-told : (told : Option Folder) (name bytes : List ℕ) (judged : Result Report Refusal) → IfSome told (λ folder. bytes_of folder name ≡ bytes) → length bytes ≤ limit_of answer_file → reading_report bytes ≡ judged
    → IfSome told (λ folder. answer_in (bytes_of folder name) ≡ read_answer judged)
answer_in-told None name bytes judged is h reads = tt
answer_in-told (Some folder) name bytes judged is h reads = ap answer_in is ∙ (answer_in-text bytes h ∙ ap read_answer reads)

-- ---- a text of no bytes

-- it is no answer
no_answer : (r : Report) → answer_in [] ≡ Ok r → ⊥
no_answer r e = let no : false ≡ true = ap is_ok e in cc

answer_has_bytes : (bytes : List ℕ) (r : Report) → answer_in bytes ≡ Ok r → 0 < length bytes
answer_has_bytes [] r e = absurd (no_answer r e)
answer_has_bytes (byte ∷ bytes) r e = omega arith

-- no memory is wanted for it
want_has_bytes : (bytes : List ℕ) → ReportMayWant (plain ∷ scaled ∷ []) kinds (all_lines bytes) → 0 < length bytes
want_has_bytes [] wants = absurd wants
want_has_bytes (byte ∷ bytes) wants = omega arith

-- a file that gave bytes has some
told_bytes : (told : Option Folder) (name bytes : List ℕ) → IfSome told (λ folder. bytes_of folder name ≡ bytes) → 0 < length bytes → IfSome told (λ folder. 0 < length (bytes_of folder name))
told_bytes None name bytes is some = tt
told_bytes (Some folder) name bytes is some = subst (λ all. 0 < length all) (sym is) some

-- a file that reads as an answer has bytes
pub answer_file_has_bytes : (told : Option Folder) (name : List ℕ) (r : Report) → IfSome told (λ folder. answer_in (bytes_of folder name) ≡ Ok r) → IfSome told (λ folder. 0 < length (bytes_of folder name))
answer_file_has_bytes None name r is = tt
answer_file_has_bytes (Some folder) name r is = answer_has_bytes (bytes_of folder name) r is

-- ---- causes

-- a text that is no answer
pub answer_refused : (last : Option ℕ) (name bytes : List ℕ) (old new : FilesState) (fault : ReadFault) → IfSome old.told (λ folder. bytes_of folder name ≡ bytes) → length bytes ≤ limit_of answer_file
    → RefusesOr (ReportMayWant (plain ∷ scaled ∷ []) kinds (all_lines bytes)) fault (reading_report bytes) → AnswerCause last name old new (unread fault)
answer_refused last name bytes old new (BadAnswer line) is h reads = (tt, answer_in-told old.told name bytes (Err (bad_answer line)) is h reads)
answer_refused last name bytes old new (BigNumber line) is h reads = (tt, answer_in-told old.told name bytes (Err (big_number line)) is h reads)
answer_refused last name bytes old new OutOfMemory is h wants = told_bytes old.told name bytes is (want_has_bytes bytes wants)

-- a file that is too long is refused for it
too_long_in : (bytes : List ℕ) → limit_of answer_file < length bytes → answer_in bytes ≡ Err (too_long answer_file)
too_long_in bytes h = ap (λ t. cond t (Ok bytes) (Err (too_long answer_file)) >>= λ whole. read_answer (reading_report whole)) (long (length bytes) (limit_of answer_file) h)
  where
    long : (n limit : ℕ) → limit < n → nat_le n limit ≡ false
    long n limit h = grind (arith, nat_tests)

-- a file that was not read to its end
pub answer_unread : (last : Option ℕ) (name : List ℕ) (old new : FilesState) (cause : Cause) → FileCause last answer_file name old new cause
    → (cause ≡ out_of_memory → IfSome old.told (λ folder. 0 < length (bytes_of folder name))) → AnswerCause last name old new cause
answer_unread last name old new (open_fault answer_file) h some = h.1
answer_unread last name old new (open_fault points_file) h some = absurd (let e = h.0 in cc)
answer_unread last name old new (read_fault answer_file) h some = h.1
answer_unread last name old new (read_fault points_file) h some = absurd (let e = h.0 in cc)
answer_unread last name old new (too_long answer_file) h some = (tt, told old.told h.1)
  where
    told : (told : Option Folder) → IfSome told (λ folder. limit_of answer_file < length (bytes_of folder name)) → IfSome told (λ folder. answer_in (bytes_of folder name) ≡ Err (too_long answer_file))
    told None long = tt
    told (Some folder) long = too_long_in (bytes_of folder name) long
answer_unread last name old new (too_long points_file) h some = absurd (let e = h.0 in cc)
answer_unread last name old new out_of_memory h some = some refl
answer_unread last name old new cause h some = absurd h

-- a count that rose rose from before
rose_before : (last : Option ℕ) (a b c : ℕ) → a ≤ b → Rose last b c → Rose last a c
rose_before None a b c h r = omega arith
rose_before (Some last) a b c h (inl r) = inl (omega (arith, h, r))
rose_before (Some last) a b c h (inr r) = inr r

-- the cause of a file that is read behind another
pub answer_cause_before : (last : Option ℕ) (name : List ℕ) (old middle new : FilesState) (cause : Cause) → Continues old middle → AnswerCause last name middle new cause → AnswerCause last name old new cause
answer_cause_before last name old middle new (open_fault answer_file) on h = rose_before last (old.open_faults name) (middle.open_faults name) (new.open_faults name) (on.open_faults name) h
answer_cause_before last name old middle new (read_fault answer_file) on h = rose_before last (old.read_faults name) (middle.read_faults name) (new.read_faults name) (on.read_faults name) h
answer_cause_before last name old middle new out_of_memory on h = subst (λ (told : Option Folder). IfSome told (λ folder. 0 < length (bytes_of folder name))) on.told h
answer_cause_before last name old middle new cause on h = (h.0, subst (λ (told : Option Folder). IfSome told (λ folder. answer_in (bytes_of folder name) ≡ Err cause)) on.told h.1)
