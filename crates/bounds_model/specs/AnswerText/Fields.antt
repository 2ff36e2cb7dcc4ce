-- The kinds of fields, each of one word or several: their form, the numbers in them, and the ranges of their ranges.
use Rattle.std.specs.Prelude.{ℕ, zero, suc, ℤ, pos, int_le, nat_abs, nat_le, Bool, true, ◌&&◌, ◌==◌, List, [], ◌∷◌, length, Option, Some, None}
use Rattle.std.specs.List.{list_all}
use Rattle.std.specs.Str.{bytes_eq}
use Rattle.std.specs.Prelude.{codes, if◌then◌else◌}
use Rattle.bounds_model.specs.Fractions.{Fraction, common_factor}
use Rattle.bounds_model.specs.Plane.{PlaneRatio}
use Rattle.bounds_model.specs.Space.{SpaceRatio}
use Rattle.bounds_model.specs.EmptyAnswer.{Blocker, side, point}
use Rattle.bounds_model.specs.Ranges.{number_limit, point_limit}
use Rattle.bounds_model.specs.AnswerText.Numerals.{◌>>=◌, natural_number, whole_number, fraction_number}

-- what may stand in a line
pub data Field : Type 0 where
  number : Field  -- a whole number
  natural : Field  -- a number without a sign
  naturals : ℕ → Field  -- so many numbers without a sign
  bounded : ℕ → ℕ → Field  -- a number without a sign from a least to a greatest one
  fraction : Field  -- a fraction in lowest terms, at least 0
  plane_ratio : Field  -- three numbers, x and y over w
  space_ratio : Field  -- four numbers, x, y and z over w
  blocker : Field  -- the word `box`, or the number of a point

-- what such a field says
abbrev pub Value : Field → Type 0
Value number = ℤ
Value natural = ℤ
Value (naturals count) = List ℤ
Value (bounded low high) = ℕ
Value fraction = Fraction
Value plane_ratio = PlaneRatio
Value space_ratio = SpaceRatio
Value blocker = Blocker

-- the number of a point
abbrev pub point_number : Field
point_number = bounded 0 point_limit

-- ---- the form

-- so many numbers without a sign, and the words behind them
abbrev pub naturals_of : ℕ → List (List ℕ) → Option (List ℤ × List (List ℕ))
naturals_of zero words = Some ([], words)
naturals_of (suc count) [] = None
naturals_of (suc count) (word ∷ words) = do
  n ← natural_number word
  others ← naturals_of count words
  Some (pos n ∷ others.0, others.1)

-- what a side of an empty rectangle rests on
abbrev pub blocker_of : List ℕ → Option Blocker
blocker_of word = if bytes_eq word (codes "box") then Some side else natural_number word >>= λ n. Some (point n)

-- what a field says, and the words behind it, or none where the words have another form
abbrev pub value_of : (field : Field) → List (List ℕ) → Option (Value field × List (List ℕ))
value_of number (word ∷ words) = do
  z ← whole_number word
  Some (z, words)
value_of natural (word ∷ words) = do
  n ← natural_number word
  Some (pos n, words)
value_of (naturals count) words = naturals_of count words
value_of (bounded low high) (word ∷ words) = do
  n ← natural_number word
  Some (n, words)
value_of fraction (word ∷ words) = do
  a ← fraction_number word
  Some (a, words)
value_of plane_ratio (x-word ∷ y-word ∷ w-word ∷ words) = do
  x ← whole_number x-word
  y ← whole_number y-word
  w ← whole_number w-word
  Some (record { x = x; y = y; w = w }, words)
value_of space_ratio (x-word ∷ y-word ∷ z-word ∷ w-word ∷ words) = do
  x ← whole_number x-word
  y ← whole_number y-word
  z ← whole_number z-word
  w ← whole_number w-word
  Some (record { x = x; y = y; z = z; w = w }, words)
value_of blocker (word ∷ words) = do
  b ← blocker_of word
  Some (b, words)
value_of field words = None

-- ---- the magnitude

-- the number of a blocking point
abbrev pub blocker_numbers : Blocker → List ℤ
blocker_numbers side = []
blocker_numbers (point n) = pos n ∷ []

-- the numbers that a field holds
abbrev pub numbers_of : (field : Field) → Value field → List ℤ
numbers_of number z = z ∷ []
numbers_of natural z = z ∷ []
numbers_of (naturals count) zs = zs
numbers_of (bounded low high) n = pos n ∷ []
numbers_of fraction a = a.n ∷ a.d ∷ []
numbers_of plane_ratio c = c.x ∷ c.y ∷ c.w ∷ []
numbers_of space_ratio c = c.x ∷ c.y ∷ c.z ∷ c.w ∷ []
numbers_of blocker b = blocker_numbers b

-- no number of the field is past the limit
abbrev pub is_small : (field : Field) → Value field → Bool
is_small field value = list_all (λ z. nat_le (nat_abs z) number_limit) (numbers_of field value)

-- ---- the range

-- a denominator is at least 1, and the entries with it have no common factor
abbrev pub is_lowest : ℤ → List ℤ → Bool
is_lowest denominator entries = int_le (pos 1) denominator && common_factor entries == 1

-- the number of a blocking point is in range
abbrev pub is_blocker : Blocker → Bool
is_blocker side = true
is_blocker (point n) = nat_le n point_limit

-- the field is in its range
abbrev pub is_in_range : (field : Field) → Value field → Bool
is_in_range number z = true
is_in_range natural z = int_le (pos 0) z
is_in_range (naturals count) zs = length zs == count && list_all (λ z. int_le (pos 0) z) zs
is_in_range (bounded low high) n = nat_le low n && nat_le n high
is_in_range fraction a = int_le (pos 0) a.n && is_lowest a.d (a.n ∷ a.d ∷ [])
is_in_range plane_ratio c = is_lowest c.w (c.x ∷ c.y ∷ c.w ∷ [])
is_in_range space_ratio c = is_lowest c.w (c.x ∷ c.y ∷ c.z ∷ c.w ∷ [])
is_in_range blocker b = is_blocker b
