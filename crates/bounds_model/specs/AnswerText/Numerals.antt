-- How the numbers of an answer text are written.
use Rattle.std.specs.Prelude.{ℕ, zero, suc, ℤ, pos, negsuc, Bool, false, not, ◌&&◌, ◌==◌, if◌then◌else◌, List, [], ◌∷◌, Option, Some, None}
use Rattle.std.specs.Char.{is_ascii_digit}
use Rattle.std.specs.Str.{all_ascii_digits}
use Rattle.std.specs.Str.Parse.{digits_value}
use Rattle.std.specs.List.{before_first, after_first}
use Rattle.bounds_model.specs.Fractions.{Fraction}

-- one step after another, where both give something
infixl 10 ◌>>=◌
abbrev pub ◌>>=◌ : {A B : Type 0} → Option A → (A → Option B) → Option B
(Some x) >>= f = f x
None >>= f = None

-- digits that do not begin with 0, or 0 alone
abbrev pub is_numeral : List ℕ → Bool
is_numeral [] = false
is_numeral (d ∷ []) = is_ascii_digit d
is_numeral (d ∷ e ∷ rest) = not (d == 48) && all_ascii_digits (d ∷ e ∷ rest)

-- the number that is written without a sign
abbrev pub natural_number : List ℕ → Option ℕ
natural_number digits = if is_numeral digits then Some (digits_value 10 digits) else None

-- a number above 0 as one below 0
abbrev pub below_zero : ℕ → Option ℤ
below_zero zero = None
below_zero (suc n) = Some (negsuc n)

-- the whole number: digits, or a minus sign and the digits of a number above 0
abbrev pub whole_number : List ℕ → Option ℤ
whole_number [] = None
whole_number (b ∷ rest) = if b == 45 then natural_number rest >>= below_zero else natural_number (b ∷ rest) >>= λ n. Some (pos n)

-- the fraction of a numerator and a denominator as they are written
abbrev pub fraction_of : List ℕ → List ℕ → Option Fraction
fraction_of numerator denominator = do
  n ← whole_number numerator
  d ← whole_number denominator
  Some (record { n = n; d = d })

-- two whole numbers, parted by a slash
abbrev pub fraction_number : List ℕ → Option Fraction
fraction_number word = fraction_of (before_first (λ b. b == 47) word) (after_first (λ b. b == 47) word)
