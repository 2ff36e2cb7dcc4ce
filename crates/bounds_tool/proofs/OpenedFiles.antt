-- What is opened and read.
use Rattle.std.proofs.Common.{◌≡◌, inl, inr, refl, sym, subst, ℕ, ◌+◌, ◌≤◌, cond, List, [], ◌∷◌, Option, Some, None, Result, Ok, Err, IfSome, arith}
use Rattle.std.specs.Prelude.{IsOk}
use Rattle.bounds_model.specs.ErrorLines.{Cause}
use Rattle.std.specs.Str.{bytes_eq}
use Rattle.bnd_io.specs.Files.{Folder, FilesState, Continues}
use Rattle.command_line.specs.Words.{Task, solve_task, check_task, demo_task}
use Rattle.pouring.proofs.Counts.{continues_on}
use Rattle.bounds_tool.specs.Run.{ReadsOnly, ReadsOfTask}

-- ---- counts

pub continues_same : (a : FilesState) → Continues a a
continues_same a = record { open_faults = λ name. same (a.open_faults name); read_faults = λ name. same (a.read_faults name); told = refl }
  where
    same : (n : ℕ) → n ≤ n
    same n = omega arith

-- ---- opens

-- one file behind another
pub reads_both : (first second : List ℕ) (m n : ℕ) (old middle new : FilesState) → ReadsOnly (first ∷ []) m old middle → ReadsOnly (second ∷ []) n middle new → ReadsOnly (first ∷ second ∷ []) (m + n) old new
reads_both first second m n old middle new h k = record {
  continues = continues_on old middle new h.continues k.continues;
  opens = λ name. add (old.opens name) (middle.opens name) (new.opens name) (cond (bytes_eq first name) 1 0) (cond (bytes_eq second name) 1 0) (h.opens name) (k.opens name);
  total = sum old.total middle.total new.total m n h.total k.total;
}
  where
    add : (a b c x y : ℕ) → b ≤ a + (x + 0) → c ≤ b + (y + 0) → c ≤ a + (x + (y + 0))
    add a b c x y h k = omega arith

    sum : (a b c m n : ℕ) → b ≤ a + m → c ≤ b + n → c ≤ a + (m + n)
    sum a b c m n h k = omega arith

-- ---- acceptance

-- points that were read were accepted
pub accepted : {X : Type 0} (told : Option Folder) (read : Folder → Result X Cause) (x : X) → IfSome told (λ folder. read folder ≡ Ok x) → IfSome told (λ folder. IsOk (read folder))
accepted None read x h = tt
accepted (Some folder) read x h = subst IsOk (sym h) refl

-- ---- the whole run

pub continues_of : (task : Result Task Cause) (old new : FilesState) → ReadsOfTask task old new → Continues old new
continues_of (Err cause) old new same = subst (Continues old) (sym same) (continues_same old)
continues_of (Ok (solve_task ask form brief file)) old new h = h.continues
continues_of (Ok (check_task ask form points answer)) old new (inl h) = h.continues
continues_of (Ok (check_task ask form points answer)) old new (inr h) = h.1.continues
continues_of (Ok (demo_task ask seed count)) old new same = subst (Continues old) (sym same) (continues_same old)
