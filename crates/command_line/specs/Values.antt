-- Numbers, boxes and forms, as words write them.
use Rattle.std.specs.Prelude.{ℕ, ◌&&◌, ◌==◌, nat_le, int_lt, unsigned_abs, ℤ, List, codes, if◌then◌else◌}
use Rattle.std.specs.List.{before_first, after_first}
use Rattle.std.specs.Str.{bytes_eq}
use Rattle.std.specs.declared.option.Option.{Option}
use Rattle.std.specs.declared.option.Option.TheVariants.{Some, None}
use Rattle.bounds_model.specs.AnswerText.Numerals.{◌>>=◌, natural_number, whole_number}
use Rattle.bounds_model.specs.EmptyRectangle.{Box}
use Rattle.point_text.specs.declared.text.Form.{Form}
use Rattle.point_text.specs.declared.text.Form.TheVariants.{Text, Csv}

-- a number from a least to a greatest one, in decimal digits without a sign and without a leading zero
unfoldable pub number_within : ℕ → ℕ → List ℕ → Option ℕ
number_within low high word = do
  n ← natural_number word
  if nat_le low n && nat_le n high then Some n else None

-- ---- boxes

-- a whole number from -200000 to 200000, with a minus sign only where it is below 0
unfoldable pub coordinate : List ℕ → Option ℤ
coordinate word = do
  z ← whole_number word
  if nat_le (unsigned_abs z) 200000 then Some z else None

-- what stands before the first comma of a text, and what stands behind it
abbrev pub before_comma : List ℕ → List ℕ
before_comma text = before_first (λ b. b == 44) text

abbrev pub after_comma : List ℕ → List ℕ
after_comma text = after_first (λ b. b == 44) text

-- the box, if it has an inside
abbrev pub with_inside : Box → Option Box
with_inside box = if int_lt box.left box.right && int_lt box.bottom box.top then Some box else None

-- left, bottom, right and top of a box with an inside, parted by single commas: what stands behind the third is one number
unfoldable pub frame_written : List ℕ → Option Box
frame_written text = do
  l ← coordinate (before_comma text)
  b ← coordinate (before_comma (after_comma text))
  r ← coordinate (before_comma (after_comma (after_comma text)))
  t ← coordinate (after_comma (after_comma (after_comma text)))
  with_inside (record { left = l; bottom = b; right = r; top = t })

-- ---- forms of point files

unfoldable pub form_named : List ℕ → Option Form
form_named word =
    if bytes_eq word (codes "text") then Some Text
    else if bytes_eq word (codes "csv") then Some Csv
    else None
