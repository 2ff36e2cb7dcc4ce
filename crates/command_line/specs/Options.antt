-- The options of the commands: which command uses which, and with which values.
use Rattle.std.specs.Prelude.{ℕ, Bool, true, false, List, [], ◌∷◌, is_some, if◌then◌else◌}
use Rattle.std.specs.declared.option.Option.{Option}
use Rattle.std.specs.declared.option.Option.TheVariants.{Some, None}
use Rattle.bounds_model.specs.ErrorLines.{OptionName, kind_option, form_option, p_option, k_option, box_option, seed_option, count_option, brief_option, Cause, missing_option, unneeded_option, bad_value}
use Rattle.command_line.specs.declared.kind.Kind.{Kind}
use Rattle.command_line.specs.declared.kind.Kind.TheVariants.{Empty, Kgon, Centres}
use Rattle.command_line.specs.Kinds.{kind_named}
use Rattle.command_line.specs.Values.{number_within, frame_written, form_named}

-- what a command does: it answers a question of a kind, judges an answer, or shows what it can do
pub data Command : Type 0 where
  solving : Kind → Command
  checking : Command
  demonstrating : Command

-- how a command uses an option
pub data Usage : Type 0 where
  needed : Usage
  allowed : Usage
  unused : Usage

-- needed in this case alone
abbrev pub only_if : Bool → Usage
only_if true = needed
only_if false = unused

-- the kind of question that an option belongs to
abbrev pub belongs_to : OptionName → Option Kind → Bool
belongs_to p_option (Some Centres) = true
belongs_to k_option (Some Kgon) = true
belongs_to box_option (Some Empty) = true
belongs_to option kind = false

-- how a command uses an option, where its question is of this kind
abbrev pub usage : OptionName → Command → Option Kind → Usage
usage kind_option (solving kind) asked = unused
usage kind_option command asked = needed
usage form_option demonstrating asked = unused
usage form_option command asked = allowed
usage p_option command asked = only_if (belongs_to p_option asked)
usage k_option command asked = only_if (belongs_to k_option asked)
usage box_option command asked = only_if (belongs_to box_option asked)
usage seed_option demonstrating asked = needed
usage seed_option command asked = unused
usage count_option demonstrating asked = needed
usage count_option command asked = unused
usage brief_option (solving kind) asked = allowed
usage brief_option command asked = unused

-- the values that an option takes; the flag has none
abbrev pub takes : OptionName → List ℕ → Bool
takes kind_option word = is_some (kind_named word)
takes form_option word = is_some (form_named word)
takes p_option word = is_some (number_within 1 4 word)
takes k_option word = is_some (number_within 3 12 word)
takes box_option word = is_some (frame_written word)
takes seed_option word = is_some (number_within 0 2147483647 word)
takes count_option word = is_some (number_within 1 10000 word)
takes brief_option word = true

-- ---- faults

-- the fault of an option that takes the values of a test
abbrev pub fault_by : (List ℕ → Bool) → Usage → OptionName → Option (List ℕ) → Option Cause
fault_by test needed option None = Some (missing_option option)
fault_by test usage option None = None
fault_by test unused option (Some value) = Some (unneeded_option option)
fault_by test usage option (Some value) = if test value then None else Some (bad_value option)

-- the fault of an option that is used so, and given with a value or not given
abbrev pub option_fault : Usage → OptionName → Option (List ℕ) → Option Cause
option_fault usage option value = fault_by (takes option) usage option value

-- the first cause
abbrev pub first_cause : List (Option Cause) → Option Cause
first_cause [] = None
first_cause (None ∷ rest) = first_cause rest
first_cause (Some cause ∷ rest) = Some cause
