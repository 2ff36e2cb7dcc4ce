-- The line that tells why there is no whole answer.
use Rattle.std.specs.Prelude.{ℕ, List, ◌++◌, decimal, codes}

-- the files that a command names
pub data InputFile : Type 0 where
  points_file : InputFile
  answer_file : InputFile

-- the options of commands
pub data OptionName : Type 0 where
  kind_option : OptionName
  form_option : OptionName
  p_option : OptionName
  k_option : OptionName
  box_option : OptionName
  seed_option : OptionName
  count_option : OptionName
  brief_option : OptionName

-- why there is no whole answer; a number is that of a line or of a set, or how many there are
pub data Cause : Type 0 where
  words_not_understood : Cause
  unknown_command : Cause
  wrong_file_count : Cause
  missing_option : OptionName → Cause
  unneeded_option : OptionName → Cause
  bad_value : OptionName → Cause
  open_fault : InputFile → Cause
  read_fault : InputFile → Cause
  too_long : InputFile → Cause
  bad_line : ℕ → Cause
  out_of_range : ℕ → Cause
  too_many_points : ℕ → Cause
  no_points : ℕ → Cause
  wrong_sets : ℕ → Cause
  too_many_corners : ℕ → Cause
  too_many_for_four : ℕ → Cause
  bad_answer : ℕ → Cause
  big_number : ℕ → Cause
  write_fault : Cause
  out_of_memory : Cause

-- what a file is called
abbrev pub file_name : InputFile → List ℕ
file_name points_file = codes "points"
file_name answer_file = codes "answer"

-- the word of an option without its dashes
abbrev pub option_name : OptionName → List ℕ
option_name kind_option = codes "kind"
option_name form_option = codes "form"
option_name p_option = codes "p"
option_name k_option = codes "k"
option_name box_option = codes "box"
option_name seed_option = codes "seed"
option_name count_option = codes "count"
option_name brief_option = codes "brief"

-- what is said of a cause
abbrev pub cause_text : Cause → List ℕ
cause_text words_not_understood = codes "usage: words are not understood"
cause_text unknown_command = codes "usage: unknown command"
cause_text wrong_file_count = codes "usage: wrong number of files"
cause_text (missing_option name) = codes "usage: option --" ++ option_name name ++ codes " is missing"
cause_text (unneeded_option name) = codes "usage: option --" ++ option_name name ++ codes " is not used here"
cause_text (bad_value name) = codes "usage: option --" ++ option_name name ++ codes " has a bad value"
cause_text (open_fault file) = file_name file ++ codes ": cannot be opened"
cause_text (read_fault file) = file_name file ++ codes ": cannot be read"
cause_text (too_long file) = file_name file ++ codes ": file is too long"
cause_text (bad_line n) = codes "points: line " ++ decimal n ++ codes " is not a point"
cause_text (out_of_range n) = codes "points: line " ++ decimal n ++ codes " is out of range"
cause_text (too_many_points n) = codes "points: line " ++ decimal n ++ codes " is one point too many"
cause_text (no_points n) = codes "points: set " ++ decimal n ++ codes " has no points"
cause_text (wrong_sets n) = codes "points: found " ++ decimal n ++ codes " sets"
cause_text (too_many_corners n) = codes "points: " ++ decimal n ++ codes " corners, at most 128 are taken"
cause_text (too_many_for_four n) = codes "points: " ++ decimal n ++ codes " points, at most 1000 are taken for four centres"
cause_text (bad_answer n) = codes "answer: line " ++ decimal n ++ codes " is not understood"
cause_text (big_number n) = codes "answer: line " ++ decimal n ++ codes " has a number past the limit"
cause_text write_fault = codes "output cannot be written"
cause_text out_of_memory = codes "out of memory"

-- the line of a cause
unfoldable pub error_line : Cause → List ℕ
error_line cause = codes "bounds: " ++ cause_text cause ++ codes "\n"
