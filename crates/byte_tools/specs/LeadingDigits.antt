-- Digits at the start of a text.
use Rattle.std.specs.Prelude.{◌≡◌, ℕ, ◌+◌, ◌*◌, ⊤, false, true, List, [], ◌∷◌, ◌++◌, fold}
use Rattle.std.specs.List.{list_all}
use Rattle.std.specs.Char.{is_ascii_digit}
use Rattle.bounds_model.specs.PointText.{digit_size}
use Rattle.byte_tools.specs.Clamps.{clamped_size}

-- the number that these digits write behind the digits of this one
abbrev pub number_behind : ℕ → List ℕ → ℕ
number_behind size digits = fold (λ n digit. 10 * n + digit_size digit) size digits

-- the text does not begin with a digit
abbrev pub BeginsWithNoDigit : List ℕ → Type 0
BeginsWithNoDigit [] = ⊤
BeginsWithNoDigit (b ∷ rest) = is_ascii_digit b ≡ false

-- all digits that the text begins with are cut off, which leaves the rest; they write this number, clamped, behind the digits of the size
pub record AreCut (limit size : ℕ) (text : List ℕ) (written : ℕ) (rest : List ℕ) : Type 0 where
  pub digits : List ℕ
  pub text_is : text ≡ digits ++ rest
  pub are_digits : list_all is_ascii_digit digits ≡ true
  pub ends : BeginsWithNoDigit rest
  pub number : written ≡ clamped_size limit (number_behind size digits)
