-- The text of a point file: a point a line, its coordinates parted by spaces or tabs, lines that part the sets of points, and before them all maybe a line
-- that says how many units of the file make a whole one.
use Rattle.std.specs.Prelude.{ℕ, ℤ, pos, neg_ℤ, nat_abs, ◌+◌, ◌-◌, ◌*◌, Bool, true, false, ◌&&◌, ◌||◌, ◌==◌, nat_le, if◌then◌else◌, List, [], ◌∷◌, ◌++◌, length, map, fold, filter, codes}
use Rattle.std.specs.declared.option.Option.{Option}
use Rattle.std.specs.declared.option.Option.TheVariants.{Some, None}
use Rattle.std.specs.declared.result.Result.{Result}
use Rattle.std.specs.declared.result.Result.TheVariants.{Ok, Err}
use Rattle.std.specs.Option.{option_map, option_or}
use Rattle.std.specs.List.{list_all, list_any, onto_first, slice_split, before_first}
use Rattle.std.specs.Char.{is_ascii_digit}
use Rattle.std.specs.Str.{bytes_eq}
use Rattle.std.specs.Str.Lines.{strip_carriage_return}
use Rattle.bounds_model.specs.Plane.{PlanePoint, plane_limit}
use Rattle.bounds_model.specs.Space.{SpacePoint, space_limit}
use Rattle.bounds_model.specs.Asks.{Sets, plane, space, two, bare, Shape, one_plane, plane_or_bare, one_space, two_space, PointFile, scale_limit}

-- how many points a set has at most
abbrev pub most_points : ℕ
most_points = 10000

-- ---- the bytes with a meaning of their own, by their codes

abbrev pub is_line_feed : ℕ → Bool
is_line_feed b = b == 10

-- a space or a tab
abbrev pub is_blank : ℕ → Bool
is_blank b = b == 32 || b == 9

-- the sign before a comment, `#`
abbrev pub is_comment_sign : ℕ → Bool
is_comment_sign b = b == 35

abbrev pub is_minus : ℕ → Bool
is_minus b = b == 45

abbrev pub is_plus : ℕ → Bool
is_plus b = b == 43

-- what a digit counts
abbrev pub digit_size : ℕ → ℕ
digit_size digit = digit - 48

-- ---- from bytes to lines

-- the lines, each ended by a line feed; a last one without it is a line if it is not empty
abbrev pub text_lines : List ℕ → List (List ℕ)
text_lines [] = []
text_lines (b ∷ rest) = if is_line_feed b then [] ∷ text_lines rest else onto_first b (text_lines rest)

-- ---- from a line to its fields

-- what counts of a line: neither a carriage return at its end, nor what stands from the first comment sign on
abbrev pub content : List ℕ → List ℕ
content line = before_first is_comment_sign (strip_carriage_return line)

-- the fields, which are parted by runs of blanks
abbrev pub fields_of : List ℕ → List (List ℕ)
fields_of bytes = filter (λ field. nat_le 1 (length field)) (slice_split is_blank bytes)

-- the one field of a line that parts two sets
abbrev pub is_separator : List (List ℕ) → Bool
is_separator (field ∷ []) = bytes_eq field (codes "---")
is_separator fields = false

-- the word that a line with a scale begins with
abbrev pub is_scale_word : List ℕ → Bool
is_scale_word field = bytes_eq field (codes "scale")

-- ---- from a field to a number

-- the number that these digits write
abbrev pub digits_number : List ℕ → ℕ
digits_number digits = fold (λ n digit. 10 * n + digit_size digit) 0 digits

-- the number of one digit or more
abbrev pub natural : List ℕ → Option ℕ
natural digits = if nat_le 1 (length digits) && list_all is_ascii_digit digits then Some (digits_number digits) else None

-- the number of digits with or without a sign before them
abbrev pub number : List ℕ → Option ℤ
number [] = None
number (b ∷ rest) =
    if is_minus b then option_map (λ n. neg_ℤ (pos n)) (natural rest)
    else (if is_plus b then option_map pos (natural rest) else option_map pos (natural (b ∷ rest)))

-- ---- what a line says

-- what a line says, where P are the points
pub data Meaning (P : Type 0) : Type 0 where
  says_nothing : Meaning P
  ends_set : Meaning P
  says_point : P → Meaning P
  says_scale : ℕ → Meaning P
  bad_form : Meaning P
  out_of_bounds : Meaning P

-- the number is between -limit and limit
abbrev pub is_within : ℕ → ℤ → Bool
is_within limit z = nat_le (nat_abs z) limit

-- two numbers are a point of the plane, where both are in bounds
abbrev pub plane_meaning : List (Option ℤ) → Meaning PlanePoint
plane_meaning (Some x ∷ Some y ∷ []) = if is_within plane_limit x && is_within plane_limit y then says_point (record { x = x; y = y }) else out_of_bounds
plane_meaning numbers = bad_form

-- three numbers are a point of space, where all are in bounds
abbrev pub space_meaning : List (Option ℤ) → Meaning SpacePoint
space_meaning (Some x ∷ Some y ∷ Some z ∷ []) =
    if is_within space_limit x && is_within space_limit y && is_within space_limit z then says_point (record { x = x; y = y; z = z }) else out_of_bounds
space_meaning numbers = bad_form

-- a number that was written
abbrev pub scale_of_number : {P : Type 0} → Option ℕ → Meaning P
scale_of_number (Some scale) = says_scale scale
scale_of_number None = bad_form

-- the scale that these fields say behind the word `scale`: one field of digits without a sign, a number of any length
abbrev pub scale_meaning : {P : Type 0} → List (List ℕ) → Meaning P
scale_meaning (digits ∷ []) = scale_of_number (natural digits)
scale_meaning fields = bad_form

-- what a line with these fields says, where its numbers have such a meaning
abbrev pub fields_meaning : {P : Type 0} → (List (Option ℤ) → Meaning P) → List (List ℕ) → Meaning P
fields_meaning numbers_meaning [] = says_nothing
fields_meaning numbers_meaning (field ∷ fields) =
    if is_separator (field ∷ fields) then ends_set else (if is_scale_word field then scale_meaning fields else numbers_meaning (map number (field ∷ fields)))

abbrev pub line_meaning : {P : Type 0} → (List (Option ℤ) → Meaning P) → List ℕ → Meaning P
line_meaning numbers_meaning line = fields_meaning numbers_meaning (fields_of (content line))

-- what the lines of a text say, in order
abbrev pub meanings : {P : Type 0} → (List (Option ℤ) → Meaning P) → List ℕ → List (Meaning P)
meanings numbers_meaning bytes = map (line_meaning numbers_meaning) (text_lines bytes)

-- ---- from lines to sets

-- the sets of points that the lines say, of which there is one more than ends of sets
abbrev pub sets_of : {P : Type 0} → List (Meaning P) → List (List P)
sets_of [] = [] ∷ []
sets_of (ends_set ∷ rest) = [] ∷ sets_of rest
sets_of (says_point p ∷ rest) = onto_first p (sets_of rest)
sets_of (line ∷ rest) = sets_of rest

abbrev pub last_set : {P : Type 0} → List (List P) → List P
last_set [] = []
last_set (points ∷ []) = points
last_set (points ∷ sets) = last_set sets

-- the scale that the lines say, or 1
abbrev pub scale_of : {P : Type 0} → List (Meaning P) → ℕ
scale_of [] = 1
scale_of (says_scale scale ∷ rest) = scale
scale_of (line ∷ rest) = scale_of rest

-- ---- refusals

-- why a text is refused: because of a line, of an empty set, or of the number of sets; lines and sets are counted from 1
pub data Refusal : Type 0 where
  bad_line : ℕ → Refusal
  out_of_range : ℕ → Refusal
  too_many : ℕ → Refusal
  no_points : ℕ → Refusal
  wrong_sets : ℕ → Refusal

-- a line that a scale may not follow: a point, an end of a set, another scale
abbrev pub begins : {P : Type 0} → Meaning P → Bool
begins ends_set = true
begins (says_point p) = true
begins (says_scale scale) = true
begins line = false

-- why a scale is refused that follows these lines, if it is: it stands before all points and ends of sets and alone, and is from 1 to 1000
abbrev pub scale_refusal : {P : Type 0} → List (Meaning P) → ℕ → Option Refusal
scale_refusal before scale =
    if list_any begins before then Some (bad_line (length before + 1))
    else (if nat_le 1 scale && nat_le scale scale_limit then None else Some (out_of_range (length before + 1)))

-- why a line is refused that follows these lines, if it is
abbrev pub line_refusal : {P : Type 0} → List (Meaning P) → Meaning P → Option Refusal
line_refusal before bad_form = Some (bad_line (length before + 1))
line_refusal before out_of_bounds = Some (out_of_range (length before + 1))
line_refusal before (says_point p) = if nat_le most_points (length (last_set (sets_of before))) then Some (too_many (length before + 1)) else None
line_refusal before (says_scale scale) = scale_refusal before scale
line_refusal before line = None

-- why the first refused line is refused of the lines that follow these, if one is
abbrev pub first_refusal : {P : Type 0} → List (Meaning P) → List (Meaning P) → Option Refusal
first_refusal before [] = None
first_refusal before (line ∷ rest) = option_or (line_refusal before line) (first_refusal (before ++ line ∷ []) rest)

-- one set of the plane
abbrev pub plane_set : List (List PlanePoint) → Result Sets Refusal
plane_set ([] ∷ []) = Err (no_points 1)
plane_set (points ∷ []) = Ok (plane points)
plane_set sets = Err (wrong_sets (length sets))

-- one set of the plane, which may be empty
abbrev pub plane_set_or_bare : List (List PlanePoint) → Result Sets Refusal
plane_set_or_bare ([] ∷ []) = Ok bare
plane_set_or_bare (points ∷ []) = Ok (plane points)
plane_set_or_bare sets = Err (wrong_sets (length sets))

-- one set of space
abbrev pub space_set : List (List SpacePoint) → Result Sets Refusal
space_set ([] ∷ []) = Err (no_points 1)
space_set (points ∷ []) = Ok (space points)
space_set sets = Err (wrong_sets (length sets))

-- two sets of space
abbrev pub space_sets : List (List SpacePoint) → Result Sets Refusal
space_sets ([] ∷ qs ∷ []) = Err (no_points 1)
space_sets (ps ∷ [] ∷ []) = Err (no_points 2)
space_sets (ps ∷ qs ∷ []) = Ok (two ps qs)
space_sets sets = Err (wrong_sets (length sets))

-- the sets with their scale
abbrev pub at_scale : ℕ → Result Sets Refusal → Result PointFile Refusal
at_scale scale (Ok sets) = Ok (record { scale = scale; sets = sets })
at_scale scale (Err refusal) = Err refusal

abbrev pub unless_refused : Option Refusal → Result PointFile Refusal → Result PointFile Refusal
unless_refused None answer = answer
unless_refused (Some refusal) answer = Err refusal

-- the first refused line decides; where none is refused, the sets do
abbrev pub judged : {P : Type 0} → (List (List P) → Result Sets Refusal) → List (Meaning P) → Result PointFile Refusal
judged judge lines = unless_refused (first_refusal [] lines) (at_scale (scale_of lines) (judge (sets_of lines)))

-- the sets of a text in file order, repeats kept, with their scale, or why it is refused, where sets of this shape are called for
unfoldable pub file_of_text : Shape → List ℕ → Result PointFile Refusal
file_of_text one_plane bytes = judged plane_set (meanings plane_meaning bytes)
file_of_text plane_or_bare bytes = judged plane_set_or_bare (meanings plane_meaning bytes)
file_of_text one_space bytes = judged space_set (meanings space_meaning bytes)
file_of_text two_space bytes = judged space_sets (meanings space_meaning bytes)
