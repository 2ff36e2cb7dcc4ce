-- The words of a command line, and the tasks that they call for.
use Rattle.std.specs.Prelude.{ℕ, Bool, true, false, ◌==◌, List, [], ◌∷◌, map, length, codes, option_map, option_and_then, if◌then◌else◌}
use Rattle.std.specs.Str.{bytes_eq}
use Rattle.std.specs.declared.option.Option.{Option}
use Rattle.std.specs.declared.option.Option.TheVariants.{Some, None}
use Rattle.std.specs.declared.result.Result.{Result}
use Rattle.std.specs.declared.result.Result.TheVariants.{Ok, Err}
use Rattle.bounds_model.specs.Asks.{Ask, ask_circle, ask_sphere, ask_rectangle, ask_parallelogram, ask_strip, ask_annulus, ask_empty, ask_kgon, ask_distance, ask_centres, ask_furthest, ask_four, ask_shell}
use Rattle.bounds_model.specs.ErrorLines.{OptionName, kind_option, form_option, p_option, k_option, box_option, seed_option, count_option, brief_option, Cause, words_not_understood, unknown_command, wrong_file_count}
use Rattle.bounds_model.specs.AnswerText.Numerals.{◌>>=◌}
use Rattle.point_text.specs.declared.text.Form.{Form}
use Rattle.point_text.specs.declared.text.Form.TheVariants.{Text}
use Rattle.command_line.specs.declared.kind.Kind.{Kind}
use Rattle.command_line.specs.declared.kind.Kind.TheVariants.{Circle, Sphere, Rectangle, Parallelogram, Strip, Annulus, Empty, Kgon, Distance, Centres, Furthest, Shell}
use Rattle.command_line.specs.Kinds.{kind_named}
use Rattle.command_line.specs.Values.{number_within, frame_written, form_named}
use Rattle.command_line.specs.Options.{Command, solving, checking, demonstrating, usage, option_fault, first_cause}
use Rattle.clap.specs.Words.{Row}
use Rattle.command_line.specs.Parsing.{Given, found_rows, given_in}

-- what is to be done; files are given by their names
pub data Task : Type 0 where
  solve_task : Ask → Form → Bool → List ℕ → Task  -- to answer what is asked of the points in a file of a form, or to tell the size alone
  check_task : Ask → Form → List ℕ → List ℕ → Task  -- to judge, by the points in the first file, the answer in the second
  demo_task : Ask → ℕ → ℕ → Task  -- to answer what is asked of points made from a seed, so many in each set

-- ---- commands

-- what the word of a command says to do
abbrev pub command_named : List ℕ → Option Command
command_named word =
    if bytes_eq word (codes "check") then Some checking
    else if bytes_eq word (codes "demo") then Some demonstrating
    else option_map solving (kind_named word)

-- how many files a command takes
abbrev pub file_count : Command → ℕ
file_count (solving kind) = 1
file_count checking = 2
file_count demonstrating = 0

-- the kind of its question
abbrev pub asked_kind : Command → Given → Option Kind
asked_kind (solving kind) given = Some kind
asked_kind command given = option_and_then kind_named given.kind

-- ---- faults

-- the options, in the order in which they are judged
abbrev pub options : List OptionName
options = kind_option ∷ form_option ∷ p_option ∷ k_option ∷ box_option ∷ seed_option ∷ count_option ∷ brief_option ∷ []

-- the value of a flag that is given
abbrev pub flag_value : Bool → Option (List ℕ)
flag_value true = Some []
flag_value false = None

-- the value of an option, where it is given
abbrev pub value_of : OptionName → Given → Option (List ℕ)
value_of kind_option given = given.kind
value_of form_option given = given.form
value_of p_option given = given.p
value_of k_option given = given.k
value_of box_option given = given.box
value_of seed_option given = given.seed
value_of count_option given = given.count
value_of brief_option given = flag_value given.brief

-- the fault of one option of a command
abbrev pub fault_at : Command → Given → OptionName → Option Cause
fault_at command given option = option_fault (usage option command (asked_kind command given)) option (value_of option given)

-- the first fault of a command's files and options
abbrev pub command_fault : Command → Given → Option Cause
command_fault command given =
    if length given.files == file_count command then first_cause (map (fault_at command given) options)
    else Some wrong_file_count

-- ---- tasks

-- the form of the point file: text, where the option is not given
abbrev pub form_by : Option (List ℕ) → Option Form
form_by None = Some Text
form_by (Some word) = form_named word

-- a number in its range
abbrev pub number_by : ℕ → ℕ → Option (List ℕ) → Option ℕ
number_by low high value = option_and_then (number_within low high) value

-- the question of so many squares: four are a question of their own
abbrev pub ask_squares : ℕ → Ask
ask_squares p = if p == 4 then ask_four else ask_centres p

-- the question of a kind with its options
abbrev pub ask_by : Kind → Given → Option Ask
ask_by Circle given = Some ask_circle
ask_by Sphere given = Some ask_sphere
ask_by Rectangle given = Some ask_rectangle
ask_by Parallelogram given = Some ask_parallelogram
ask_by Strip given = Some ask_strip
ask_by Annulus given = Some ask_annulus
ask_by Empty given = option_map ask_empty (option_and_then frame_written given.box)
ask_by Kgon given = option_map ask_kgon (number_by 3 12 given.k)
ask_by Distance given = Some ask_distance
ask_by Centres given = option_map ask_squares (number_by 1 4 given.p)
ask_by Furthest given = Some ask_furthest
ask_by Shell given = Some ask_shell

-- the question of a command
abbrev pub question : Command → Given → Option Ask
question command given = asked_kind command given >>= λ kind. ask_by kind given

-- the task of a command with these files
abbrev pub task_with : Command → Given → List (List ℕ) → Option Task
task_with (solving kind) given (file ∷ []) = do
  ask ← question (solving kind) given
  form ← form_by given.form
  Some (solve_task ask form given.brief file)
task_with checking given (points ∷ answer ∷ []) = do
  ask ← question checking given
  form ← form_by given.form
  Some (check_task ask form points answer)
task_with demonstrating given [] = do
  ask ← question demonstrating given
  seed ← number_by 0 2147483647 given.seed
  count ← number_by 1 10000 given.count
  Some (demo_task ask seed count)
task_with command given files = None

-- the first fault, or else the task
abbrev pub first_or_task : Option Cause → Option Task → Result Task Cause
first_or_task (Some cause) task = Err cause
first_or_task None (Some task) = Ok task
first_or_task None None = Err words_not_understood

-- a command with what the words give
abbrev pub judged_as : Command → Given → Result Task Cause
judged_as command given = first_or_task (command_fault command given) (task_with command given given.files)

-- what the words give
abbrev pub judged_command : Option Command → Given → Result Task Cause
judged_command None given = Err unknown_command
judged_command (Some command) given = judged_as command given

abbrev pub judged : Given → Result Task Cause
judged given = judged_command (command_named given.command) given

-- what was found in the words, if `clap` takes them
abbrev pub task_found : Option (List Row) → Result Task Cause
task_found None = Err words_not_understood
task_found (Some rows) = judged (given_in rows)

-- the task of the words after the program's name, or their first fault
unfoldable pub task_of : List (List ℕ) → Result Task Cause
task_of words = task_found (found_rows words)
