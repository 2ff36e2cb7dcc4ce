-- What the code found, against what the model reads.
use Rattle.std.specs.Prelude.{◌≡◌}
use Rattle.std.specs.declared.option.Option.{Option}
use Rattle.std.specs.declared.option.Option.TheVariants.{Some, None}
use Rattle.std.specs.declared.result.Result.{Result}
use Rattle.std.specs.declared.result.Result.TheVariants.{Ok, Err}
use Rattle.bounds_model.specs.AnswerText.Formats.{Refusal, bad_answer, big_number}
use Rattle.answer_lines.specs.declared.fault.ReadFault.{ReadFault}
use Rattle.answer_lines.specs.declared.fault.ReadFault.TheVariants.{BadAnswer, BigNumber, OutOfMemory}

-- what was found, seen by a view, is what is there, or nothing is
abbrev pub Finds : {X Y : Type 0} → (X → Y) → Option X → Option Y → Type 0
Finds view None there = there ≡ None
Finds view (Some x) there = there ≡ Some (view x)

-- the fault is the refusal, or want of memory, where that may come
abbrev pub RefusesOr : {Y : Type 0} → Type 0 → ReadFault → Result Y Refusal → Type 0
RefusesOr wants (BadAnswer line) reading = reading ≡ Err (bad_answer line)
RefusesOr wants (BigNumber line) reading = reading ≡ Err (big_number line)
RefusesOr wants OutOfMemory reading = wants

-- what was read, seen by a view, is the reading, or the fault is its refusal, or memory was wanting, where that may come
abbrev pub ReadsOr : {X Y : Type 0} → Type 0 → (X → Y) → Result X ReadFault → Result Y Refusal → Type 0
ReadsOr wants view (Ok x) reading = reading ≡ Ok (view x)
ReadsOr wants view (Err fault) reading = RefusesOr wants fault reading

-- the fault is the refusal: nothing is kept that could want memory
abbrev pub Refuses : {Y : Type 0} → ReadFault → Result Y Refusal → Type 0
Refuses fault reading = RefusesOr ⊥ fault reading

-- what was read, seen by a view, is the reading, or the fault is its refusal
abbrev pub Reads : {X Y : Type 0} → (X → Y) → Result X ReadFault → Result Y Refusal → Type 0
Reads view result reading = ReadsOr ⊥ view result reading

-- what was found meets this, or memory was wanting, where that may come
abbrev pub IsFound : {X : Type 0} → Type 0 → Result X ReadFault → (X → Type 0) → Type 0
IsFound wants (Ok x) meets = meets x
IsFound wants (Err OutOfMemory) meets = wants
IsFound wants (Err fault) meets = ⊥
