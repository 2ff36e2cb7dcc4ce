-- What is left of files by functions that read them.
use Rattle.std.proofs.Common.{◌≡◌, inl, inr, subst, ℕ, ◌≤◌, max, Bool, List, Result, Ok, Err, arith}
use Rattle.std.specs.Prelude.{OnOk, IfErr, IsErrAnd}
use Rattle.bounds_model.specs.Asks.{Ask}
use Rattle.bounds_model.specs.ErrorLines.{InputFile, points_file, answer_file}
use Rattle.bnd_io.specs.Files.{FilesState}
use Rattle.point_text.specs.declared.text.Form.{Form}
use Rattle.command_line.specs.Words.{solve_task, check_task}
use Rattle.pouring.proofs.Counts.{no_fault_on}
use Rattle.bounds_tool.specs.declared.cause.Cause.{Cause}
use Rattle.bounds_tool.specs.Causes.{meant}
use Rattle.bounds_tool.specs.Run.{IsOfFault, PointsAccepted, most_of}
use Rattle.bounds_tool.specs.FilesLeft.{ReadFrom, LeftBy}
use Rattle.bounds_tool.proofs.OpenedFiles.{reads_both}

-- what holds anyway holds where a call ends well
on_any_ok : {U E P : Type 0} (s : Result U E) → P → OnOk s P
on_any_ok (Ok x) p = p
on_any_ok (Err e) p = tt

-- a cause that is handed on names no fault, where it did not before
same_cause : {U : Type 0} (s : Result U Cause) (cause : Cause) → IsErrAnd s (λ c. c ≡ cause) → IfErr s (λ c. ¬ IsOfFault (meant c)) → ¬ IsOfFault (meant cause)
same_cause (Ok x) cause h f = absurd h
same_cause (Err other) cause h f = subst (λ c. ¬ IsOfFault (meant c)) h f

-- where it was handed on, there is nothing else
on_no_ok : {U : Type 0} (P : Type 0) (s : Result U Cause) (cause : Cause) → IsErrAnd s (λ c. c ≡ cause) → OnOk s P
on_no_ok P (Ok x) cause h = absurd h
on_no_ok P (Err other) cause h = tt

-- ---- one file

-- a file that was read whole, whatever comes of its bytes
pub read_on : {T U : Type 0} (file : InputFile) (name : List ℕ) (old new : FilesState) (x : T) (s : Result U Cause) → ReadFrom file name old new (Ok x) → ReadFrom file name old new s
read_on file name old new x s h = record { reads = h.reads; most = h.most; no_fault = λ _. h.no_fault tt; to_its_end = on_any_ok s h.to_its_end }

-- a file that was not, by a cause that is handed on
pub read_failed : {T U : Type 0} (file : InputFile) (name : List ℕ) (old new : FilesState) (cause : Cause) (s : Result U Cause) → IsErrAnd s (λ c. c ≡ cause) → ReadFrom {T = T} file name old new (Err cause)
    → ReadFrom file name old new s
read_failed file name old new cause s is h = record { reads = h.reads; most = h.most; no_fault = λ f. h.no_fault (same_cause s cause is f); to_its_end = on_no_ok _ s cause is }

-- ---- the files of a task

pub solving_read : {T U : Type 0} (ask : Ask) (form : Form) (brief : Bool) (file : List ℕ) (old new : FilesState) (x : T) (s : Result U Cause) → ReadFrom points_file file old new (Ok x)
    → LeftBy (Ok (solve_task ask form brief file)) old new s
solving_read ask form brief file old new x s h = record { reads = h.reads; most = h.most; no_fault = λ _. h.no_fault tt; to_its_end = on_any_ok s h.to_its_end }

pub solving_failed : {T U : Type 0} (ask : Ask) (form : Form) (brief : Bool) (file : List ℕ) (old new : FilesState) (cause : Cause) (s : Result U Cause) → IsErrAnd s (λ c. c ≡ cause)
    → ReadFrom {T = T} points_file file old new (Err cause) → LeftBy (Ok (solve_task ask form brief file)) old new s
solving_failed ask form brief file old new cause s is h = record { reads = h.reads; most = h.most; no_fault = λ f. h.no_fault (same_cause s cause is f); to_its_end = on_no_ok _ s cause is }

-- the most that was taken of one of two files
most_of_both : (a b x y z : ℕ) → a ≤ b → y ≤ max x a → z ≤ max y b → z ≤ max x b
most_of_both a b x y z h k l = omega arith

more : (a b x y : ℕ) → a ≤ b → y ≤ max x a → y ≤ max x b
more a b x y h k = omega arith

-- an answer file may be longer than a point file
longer : most_of points_file ≤ most_of answer_file
longer = omega arith

pub checking_read : {T U V : Type 0} (ask : Ask) (form : Form) (points answer : List ℕ) (old middle new : FilesState) (x : T) (y : U) (s : Result V Cause) → PointsAccepted form ask points old
    → ReadFrom points_file points old middle (Ok x) → ReadFrom answer_file answer middle new (Ok y) → LeftBy (Ok (check_task ask form points answer)) old new s
checking_read ask form points answer old middle new x y s accepted h k = record {
  reads = inr (accepted, reads_both points answer (most_of points_file) (most_of answer_file) old middle new h.reads k.reads);
  most = most_of_both (most_of points_file) (most_of answer_file) old.taken middle.taken new.taken longer h.most k.most;
  no_fault = λ _. no_fault_on old middle new (h.no_fault tt) (k.no_fault tt);
  to_its_end = on_any_ok s k.to_its_end;
}

pub checking_failed : {T U V : Type 0} (ask : Ask) (form : Form) (points answer : List ℕ) (old middle new : FilesState) (x : T) (cause : Cause) (s : Result V Cause) → IsErrAnd s (λ c. c ≡ cause)
    → PointsAccepted form ask points old → ReadFrom points_file points old middle (Ok x) → ReadFrom {T = U} answer_file answer middle new (Err cause) → LeftBy (Ok (check_task ask form points answer)) old new s
checking_failed ask form points answer old middle new x cause s is accepted h k = record {
  reads = inr (accepted, reads_both points answer (most_of points_file) (most_of answer_file) old middle new h.reads k.reads);
  most = most_of_both (most_of points_file) (most_of answer_file) old.taken middle.taken new.taken longer h.most k.most;
  no_fault = λ f. no_fault_on old middle new (h.no_fault tt) (k.no_fault (same_cause s cause is f));
  to_its_end = on_no_ok _ s cause is;
}

pub checking_unread : {T U : Type 0} (ask : Ask) (form : Form) (points answer : List ℕ) (old new : FilesState) (cause : Cause) (s : Result U Cause) → IsErrAnd s (λ c. c ≡ cause)
    → ReadFrom {T = T} points_file points old new (Err cause) → LeftBy (Ok (check_task ask form points answer)) old new s
checking_unread ask form points answer old new cause s is h = record {
  reads = inl h.reads;
  most = more (most_of points_file) (most_of answer_file) old.taken new.taken longer h.most;
  no_fault = λ f. h.no_fault (same_cause s cause is f);
  to_its_end = on_no_ok _ s cause is;
}
