-- Why words are no task, in the words of the model.
use Rattle.std.specs.Prelude.{◌≡◌, ⊤}
use Rattle.std.specs.declared.option.Option.{Option}
use Rattle.std.specs.declared.option.Option.TheVariants.{Some, None}
use Rattle.std.specs.declared.result.Result.{Result}
use Rattle.std.specs.declared.result.Result.TheVariants.{Ok, Err}
use Rattle.bounds_model.specs.ErrorLines as model
use Rattle.clap.specs.declared.error.kind.ErrorKind.{ErrorKind}
use Rattle.clap.specs.declared.error.kind.ErrorKind.TheVariants as kind
use Rattle.command_line.specs.declared.fault.Opt.{Opt}
use Rattle.command_line.specs.declared.fault.Opt.TheVariants.{Kind, Form, P, K, Frame, Seed, Count, Brief}
use Rattle.command_line.specs.declared.fault.UsageFault.{UsageFault}
use Rattle.command_line.specs.declared.fault.UsageFault.TheVariants.{Words, UnknownCommand, FileCount, MissingOption, UnneededOption, BadValue, OutOfMemory}

-- the option
abbrev pub meant_option : Opt → model.OptionName
meant_option Kind = model.kind_option
meant_option Form = model.form_option
meant_option P = model.p_option
meant_option K = model.k_option
meant_option Frame = model.box_option
meant_option Seed = model.seed_option
meant_option Count = model.count_option
meant_option Brief = model.brief_option

-- the cause of the error line
abbrev pub meant_fault : UsageFault → model.Cause
meant_fault Words = model.words_not_understood
meant_fault UnknownCommand = model.unknown_command
meant_fault FileCount = model.wrong_file_count
meant_fault (MissingOption option) = model.missing_option (meant_option option)
meant_fault (UnneededOption option) = model.unneeded_option (meant_option option)
meant_fault (BadValue option) = model.bad_value (meant_option option)
meant_fault OutOfMemory = model.out_of_memory

-- the fault of words for which a parse ends with an error of this kind
abbrev pub fault_by_kind : ErrorKind → UsageFault
fault_by_kind kind.OutOfMemory = OutOfMemory
fault_by_kind other = Words

-- the code refuses exactly what has a cause, and for that cause
abbrev pub HasFault : {T : Type 0} → Result T UsageFault → Option model.Cause → Type 0
HasFault (Ok value) cause = cause ≡ None
HasFault (Err fault) cause = cause ≡ Some (meant_fault fault)

-- what the code made, seen by a view, is what was judged, or the fault is its cause
abbrev pub Judges : {T M : Type 0} → (T → M) → Result T UsageFault → Result M model.Cause → Type 0
Judges view (Ok value) judged = judged ≡ Ok (view value)
Judges view (Err fault) judged = judged ≡ Err (meant_fault fault)

-- what the code found, seen by a view, is what is there; it refuses for want of memory, or where nothing is there
abbrev pub Finds : {T M : Type 0} → (T → M) → Result T UsageFault → Option M → Type 0
Finds view (Ok value) there = there ≡ Some (view value)
Finds view (Err Words) there = there ≡ None
Finds view (Err OutOfMemory) there = ⊤
Finds view (Err fault) there = ⊥
