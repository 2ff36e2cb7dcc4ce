-- The first cause in a list of options.
use Rattle.std.proofs.Common.{◌≡◌, ◌∙◌, refl, ap, true, ℕ, map, Result, List, [], ◌∷◌, length, Option, Some, None, Err}
use Rattle.std.specs.Prelude.{◌==◌, IsErrAnd}
use Rattle.std.proofs.lemmas.Result.{err_from_is_err_and}
use Rattle.bounds_model.specs.ErrorLines.{Cause, kind_option, form_option, p_option, k_option, box_option, seed_option, count_option, brief_option}
use Rattle.command_line.specs.declared.kind.Kind.{Kind}
use Rattle.command_line.specs.declared.fault.UsageFault.{UsageFault}
use Rattle.command_line.specs.declared.task.Task.{Task}
use Rattle.command_line.specs.Faults.{meant_fault, Judges}
use Rattle.command_line.specs.Tasks.{meant_task}
use Rattle.command_line.specs.Options.{Command, only_if, belongs_to, usage, option_fault, first_cause}
use Rattle.command_line.specs.Parsing.{Given}
use Rattle.command_line.specs.Parts.{kind_fault}
use Rattle.command_line.specs.Words.{asked_kind, fault_at, file_count, options, judged_as}

skipped : (a : Option Cause) (rest : List (Option Cause)) → a ≡ None → first_cause (a ∷ rest) ≡ first_cause rest
skipped a rest e = ap (λ o. first_cause (o ∷ rest)) e

of_three : (p k box : Option Cause) (rest : List (Option Cause)) (cause : Cause) → first_cause (p ∷ k ∷ box ∷ []) ≡ Some cause
    → first_cause (p ∷ k ∷ box ∷ rest) ≡ Some cause
of_three (Some p) k box rest cause e = e
of_three None (Some k) box rest cause e = e
of_three None None (Some box) rest cause e = e
of_three None None None rest cause e = absurd cc

-- the faults of the options that belong to kinds, before other faults
abbrev three_at : Command → Option Kind → Given → List (Option Cause) → List (Option Cause)
three_at command asked given rest = option_fault (usage p_option command asked) p_option given.p ∷ option_fault (usage k_option command asked) k_option given.k
    ∷ option_fault (usage box_option command asked) box_option given.box ∷ rest

three_refused : (command : Command) (asked : Option Kind) (given : Given) (rest : List (Option Cause)) (kind : Kind) (cause : Cause) → asked ≡ Some kind
    → kind_fault kind given ≡ Some cause → first_cause (three_at command asked given rest) ≡ Some cause
three_refused command asked given rest kind cause e some = rw e (of_three (option_fault (only_if (belongs_to p_option (Some kind))) p_option given.p)
    (option_fault (only_if (belongs_to k_option (Some kind))) k_option given.k) (option_fault (only_if (belongs_to box_option (Some kind))) box_option given.box)
    rest cause some)

-- a command whose kind and form are right is refused where its question is
pub ask_refused : (command : Command) (given : Given) (kind : Kind) (cause : Cause) → (length given.files == file_count command) ≡ true
    → asked_kind command given ≡ Some kind → fault_at command given kind_option ≡ None → fault_at command given form_option ≡ None
    → kind_fault kind given ≡ Some cause → judged_as command given ≡ Err cause
ask_refused command given kind cause count asked no_kind no_form some =
    let others : List (Option Cause) = map (fault_at command given) (seed_option ∷ count_option ∷ brief_option ∷ []) in
    let three : List (Option Cause) = three_at command (asked_kind command given) given others in
    let whole : first_cause (map (fault_at command given) options) ≡ Some cause = skipped (fault_at command given kind_option) (fault_at command given form_option ∷ three) no_kind
    ∙ skipped (fault_at command given form_option) three no_form ∙ three_refused command (asked_kind command given) given others kind cause asked some in
    rw (count, whole) refl

-- the same of the code's result
pub ask_exit : (command : Command) (given : Given) (kind : Kind) (fault : UsageFault) (result : Result Task UsageFault) → IsErrAnd result (λ e. e ≡ fault)
    → (length given.files == file_count command) ≡ true → asked_kind command given ≡ Some kind → fault_at command given kind_option ≡ None
    → fault_at command given form_option ≡ None → kind_fault kind given ≡ Some (meant_fault fault) → Judges meant_task result (judged_as command given)
ask_exit command given kind fault result passed count asked no_kind no_form some =
    let p = err_from_is_err_and result passed in
    rw (p.1, p.2) (ask_refused command given kind (meant_fault fault) count asked no_kind no_form some)

-- as many names as there are
pub one_name : (names : List (List ℕ)) (a : List ℕ) → names ≡ a ∷ [] → (length names == 1) ≡ true
one_name names a e = rw e refl

pub two_names : (names : List (List ℕ)) (a b : List ℕ) → names ≡ a ∷ b ∷ [] → (length names == 2) ≡ true
two_names names a b e = rw e refl

pub no_names : (names : List (List ℕ)) → names ≡ [] → (length names == 0) ≡ true
no_names names e = rw e refl
