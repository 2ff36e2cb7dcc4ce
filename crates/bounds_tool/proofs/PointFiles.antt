-- What a point file reads as.
use Rattle.std.proofs.Common.{◌≡◌, refl, sym, ◌∙◌, ap, subst, ℕ, ◌<◌, ◌≤◌, true, false, cond, List, length, nat_le, Option, Some, None, Result, Ok, Err, IfSome, arith}
use Rattle.std.specs.Prelude.{IfErr, IsErrAnd}
use Rattle.std.proofs.lemmas.Bool.Decides.{nat_tests}
use Rattle.bounds_model.specs.Asks.{Ask, PointFile, Shape, shape_of}
use Rattle.bounds_model.specs.PointText.{Refusal}
use Rattle.bounds_model.specs.ErrorLines.{Cause, points_file, answer_file, open_fault, read_fault, too_long, out_of_memory}
use Rattle.bnd_io.specs.Files.{Folder, FilesState, bytes_of}
use Rattle.point_text.specs.declared.text.Form.{Form}
use Rattle.point_text.specs.declared.text.Form.TheVariants.{Text}
use Rattle.point_text.specs.declared.text.TextFault.{TextFault}
use Rattle.point_text.specs.declared.text.TextFault.TheVariants.{BadLine, OutOfRange, TooMany, NoPoints, WrongSets, OutOfMemory}
use Rattle.point_text.specs.Files.{file_of_bytes}
use Rattle.point_text.specs.Keeping.{KeepsPoint, MayWantMemory}
use Rattle.point_text.specs.Refusals.{refusal_of}
use Rattle.bounds_tool.specs.declared.cause.Cause as code
use Rattle.bounds_tool.specs.Causes.{without_sets}
use Rattle.bounds_tool.specs.Judging.{◌>>=◌, limit_of, points_in, read_points}
use Rattle.bounds_tool.specs.Run.{FileCause, PointsCause}

-- a text within its limit
pub short : (n limit : ℕ) → n ≤ limit → nat_le n limit ≡ true
short n limit h = grind (arith, nat_tests)

-- a file within its limit reads as its text does
points_in-text : (form : Form) (ask : Ask) (bytes : List ℕ) → length bytes ≤ limit_of points_file → points_in form ask bytes ≡ read_points (file_of_bytes form (shape_of ask) bytes)
points_in-text form ask bytes h = ap (λ t. cond t (Ok bytes) (Err (too_long points_file)) >>= λ whole. read_points (file_of_bytes form (shape_of ask) whole)) (short (length bytes) (limit_of points_file) h)

-- the same of a file that is told
pub points_in-told : (form : Form) (ask : Ask) (told : Option Folder) (name bytes : List ℕ) (judged : Result PointFile Refusal) → IfSome told (λ folder. bytes_of folder name ≡ bytes) → length bytes ≤ limit_of points_file
    → file_of_bytes form (shape_of ask) bytes ≡ judged → IfSome told (λ folder. points_in form ask (bytes_of folder name) ≡ read_points judged)
points_in-told form ask None name bytes judged is h reads = tt
points_in-told form ask (Some folder) name bytes judged is h reads = ap (points_in form ask) is ∙ (points_in-text form ask bytes h ∙ ap read_points reads)

-- a text without its sets
pub points_refused : (last : Option ℕ) (form : Form) (ask : Ask) (name bytes : List ℕ) (old new : FilesState) (fault : TextFault) → IfSome old.told (λ folder. bytes_of folder name ≡ bytes) → length bytes ≤ limit_of points_file
    → IfSome (refusal_of fault) (λ refusal. file_of_bytes form (shape_of ask) bytes ≡ Err refusal) → (fault ≡ OutOfMemory → MayWantMemory form (shape_of ask) bytes)
    → PointsCause last form ask name old new (without_sets (refusal_of fault))
points_refused last form ask name bytes old new (BadLine line) is h reads wants = (tt, points_in-told form ask old.told name bytes _ is h reads)
points_refused last form ask name bytes old new (OutOfRange line) is h reads wants = (tt, points_in-told form ask old.told name bytes _ is h reads)
points_refused last form ask name bytes old new (TooMany line) is h reads wants = (tt, points_in-told form ask old.told name bytes _ is h reads)
points_refused last form ask name bytes old new (NoPoints set) is h reads wants = (tt, points_in-told form ask old.told name bytes _ is h reads)
points_refused last form ask name bytes old new (WrongSets count) is h reads wants = (tt, points_in-told form ask old.told name bytes _ is h reads)
points_refused last form ask name bytes old new OutOfMemory is h reads wants = told old.told is
  where
    told : (told : Option Folder) → IfSome told (λ folder. bytes_of folder name ≡ bytes) → IfSome told (λ folder. MayWantMemory form (shape_of ask) (bytes_of folder name))
    told None is = tt
    told (Some folder) is = subst (MayWantMemory form (shape_of ask)) (sym is) (wants refl)

-- a file that is too long is refused for it
too_long_in : (form : Form) (ask : Ask) (bytes : List ℕ) → limit_of points_file < length bytes → points_in form ask bytes ≡ Err (too_long points_file)
too_long_in form ask bytes h = ap (λ t. cond t (Ok bytes) (Err (too_long points_file)) >>= λ whole. read_points (file_of_bytes form (shape_of ask) whole)) (long (length bytes) (limit_of points_file) h)
  where
    long : (n limit : ℕ) → limit < n → nat_le n limit ≡ false
    long n limit h = grind (arith, nat_tests)

-- a text that was not read to its end
pub points_unread : (last : Option ℕ) (ask : Ask) (name : List ℕ) (old new : FilesState) (cause : Cause) → FileCause last points_file name old new cause
    → (cause ≡ out_of_memory → IfSome old.told (λ folder. KeepsPoint (shape_of ask) (bytes_of folder name))) → PointsCause last Text ask name old new cause
points_unread last ask name old new (open_fault points_file) h wants = h.1
points_unread last ask name old new (open_fault answer_file) h wants = absurd (let e = h.0 in cc)
points_unread last ask name old new (read_fault points_file) h wants = h.1
points_unread last ask name old new (read_fault answer_file) h wants = absurd (let e = h.0 in cc)
points_unread last ask name old new (too_long points_file) h wants = (tt, told old.told h.1)
  where
    told : (told : Option Folder) → IfSome told (λ folder. limit_of points_file < length (bytes_of folder name)) → IfSome told (λ folder. points_in Text ask (bytes_of folder name) ≡ Err (too_long points_file))
    told None long = tt
    told (Some folder) long = too_long_in Text ask (bytes_of folder name) long
points_unread last ask name old new (too_long answer_file) h wants = absurd (let e = h.0 in cc)
points_unread last ask name old new out_of_memory h wants = wants refl
points_unread last ask name old new cause h wants = absurd h

-- what holds of the cause that is handed on
pub if_same : {X : Type 0} (P : code.Cause → Type 0) (result : Result X code.Cause) (fault : code.Cause) → IsErrAnd result (λ cause. cause ≡ fault) → P fault → IfErr result P
if_same P (Ok x) fault h p = tt
if_same P (Err cause) fault h p = subst P (sym h) p
