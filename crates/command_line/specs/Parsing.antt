-- What stands in the words of a command line, by `clap`'s own function of the words.
use Rattle.std.specs.Prelude.{ℕ, Bool, true, false, List, [], ◌∷◌, codes, unwrap_or}
use Rattle.std.specs.Str.{bytes_eq}
use Rattle.std.specs.declared.option.Option.{Option}
use Rattle.std.specs.declared.option.Option.TheVariants.{Some, None}
use Rattle.clap.specs.Words.{App, Shape, Row, Rule, new_rule, Kinds, matches_of, fault_of, first_of, all_of}
use Rattle.clap.specs.Simple.{new_shape}
use Rattle.clap.specs.declared.builder.action.ArgAction.TheVariants.{Append, SetTrue}

-- ---- the command

-- the word of the command, which is required
abbrev pub command_rule : Rule
command_rule = record (new_rule (codes "command")) { required = true }

-- the names of files, as many as there are
abbrev pub files_rule : Rule
files_rule = record (new_rule (codes "files")) { action = Some Append }

-- an option with one value
abbrev pub option_rule : List ℕ → Rule
option_rule name = record (new_rule name) { long = Some name }

-- the flag
abbrev pub brief_rule : Rule
brief_rule = record (new_rule (codes "brief")) { long = Some (codes "brief"); action = Some SetTrue }

-- all that may stand in the words after the program's name: no help and no version
abbrev pub bounds_shape : Shape
bounds_shape = record (new_shape (codes "bounds")) {
  rules = command_rule ∷ files_rule ∷ option_rule (codes "kind") ∷ option_rule (codes "form") ∷ option_rule (codes "p") ∷ option_rule (codes "k")
      ∷ option_rule (codes "box") ∷ option_rule (codes "seed") ∷ option_rule (codes "count") ∷ brief_rule ∷ [];
  no_binary_name = true;
  disable_help_flag = true;
}

abbrev pub bounds_command : App
bounds_command = record { top = bounds_shape; subs = [] }

-- ---- what is found

-- the kinds of errors for which `clap` may refuse the words, and what it finds in them
unfoldable pub faults_in : List (List ℕ) → Kinds
faults_in words = fault_of bounds_command words

unfoldable pub matches_in : List (List ℕ) → List Row
matches_in words = matches_of bounds_command words

-- what is found in the words, where they are not refused
abbrev pub found_with : Kinds → List Row → Option (List Row)
found_with [] rows = Some rows
found_with (kind ∷ kinds) rows = None

unfoldable pub found_rows : List (List ℕ) → Option (List Row)
found_rows words = found_with (faults_in words) (matches_in words)

-- what the words give: the word of the command, the names of its files, the values of its options, and whether its flag is there
pub record Given : Type 0 where
  pub command : List ℕ
  pub files : List (List ℕ)
  pub kind : Option (List ℕ)
  pub form : Option (List ℕ)
  pub p : Option (List ℕ)
  pub k : Option (List ℕ)
  pub box : Option (List ℕ)
  pub seed : Option (List ℕ)
  pub count : Option (List ℕ)
  pub brief : Bool

-- the value of the flag says that it is there
abbrev pub says_true : Option (List ℕ) → Bool
says_true None = false
says_true (Some value) = bytes_eq value (codes "true")

-- what is found as what the words give; the word of the command is always found
unfoldable pub given_in : List Row → Given
given_in rows = record {
  command = unwrap_or (first_of (codes "command") rows) [];
  files = unwrap_or (all_of (codes "files") rows) [];
  kind = first_of (codes "kind") rows;
  form = first_of (codes "form") rows;
  p = first_of (codes "p") rows;
  k = first_of (codes "k") rows;
  box = first_of (codes "box") rows;
  seed = first_of (codes "seed") rows;
  count = first_of (codes "count") rows;
  brief = says_true (first_of (codes "brief") rows);
}
