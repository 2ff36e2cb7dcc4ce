-- From what is found in the words to what they call for.
use Rattle.std.proofs.Common.{◌≡◌, ◌∙◌, refl, ap, sym, ℕ, List, Some, Result, Ok, Err}
use Rattle.std.specs.Prelude.{◌≢◌, IfOk, IfErr, IsErrAnd}
use Rattle.std.proofs.lemmas.Result.{err_from_is_err_and}
use Rattle.clap.specs.Words.{Row}
use Rattle.command_line.specs.declared.fault.UsageFault.{UsageFault}
use Rattle.command_line.specs.declared.fault.UsageFault.TheVariants.{Words, UnknownCommand, FileCount, MissingOption, UnneededOption, BadValue, OutOfMemory}
use Rattle.command_line.specs.declared.task.Task.{Task}
use Rattle.command_line.specs.Faults.{meant_fault, Finds, Judges}
use Rattle.command_line.specs.Parsing.{Given, found_rows, given_in}
use Rattle.command_line.specs.Tasks.{meant_task}
use Rattle.command_line.specs.Words.{judged, task_found, task_of}

-- the words are judged by what is found in them
pub task_of-found : (words : List (List ℕ)) (rows : List Row) (given : Given) → found_rows words ≡ Some rows → given ≡ given_in rows → task_of words ≡ judged given
unfolding task_of
task_of-found words rows given found is = ap task_found found ∙ ap judged (sym is)

pub judged_task : (words : List (List ℕ)) (given : Given) (result : Result Task UsageFault) → task_of words ≡ judged given → Judges meant_task result (judged given)
    → IfOk result (λ task. task_of words ≡ Ok (meant_task task))
judged_task words given (Ok task) e is = e ∙ is
judged_task words given (Err fault) e is = tt

pub judged_fault : (words : List (List ℕ)) (given : Given) (result : Result Task UsageFault) → task_of words ≡ judged given → Judges meant_task result (judged given)
    → IfErr result (λ fault. fault ≢ OutOfMemory → task_of words ≡ Err (meant_fault fault))
judged_fault words given (Ok task) e is = tt
judged_fault words given (Err fault) e is = λ _. e ∙ is

-- words in which nothing is found are not understood
unfound : {T : Type 0} (view : T → List Row) (words : List (List ℕ)) (fault : UsageFault) → Finds view (Err fault) (found_rows words) → fault ≢ OutOfMemory
    → task_of words ≡ Err (meant_fault fault)
unfolding task_of
unfound view words Words none memory = ap task_found none
unfound view words UnknownCommand none memory = absurd none
unfound view words FileCount none memory = absurd none
unfound view words (MissingOption option) none memory = absurd none
unfound view words (UnneededOption option) none memory = absurd none
unfound view words (BadValue option) none memory = absurd none
unfound view words OutOfMemory none memory = absurd (memory refl)

pub unfound_exit : {T : Type 0} (view : T → List Row) (words : List (List ℕ)) (fault : UsageFault) (result : Result Task UsageFault) → IsErrAnd result (λ e. e ≡ fault)
    → Finds view (Err fault) (found_rows words) → IfErr result (λ fault. fault ≢ OutOfMemory → task_of words ≡ Err (meant_fault fault))
unfound_exit view words fault result passed none =
    let p = err_from_is_err_and result passed in
    rw (p.1, p.2) (unfound view words fault none)
