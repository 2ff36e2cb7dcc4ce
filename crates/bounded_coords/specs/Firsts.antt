-- Which of some points is the first of the least, or of the greatest.
use Rattle.std.specs.Prelude.{ℕ, ◌<◌, ◌≡◌, false, List, length, slice_get, Some}
use Rattle.std.specs.declared.cmp.Ordering.{Ordering}
use Rattle.std.specs.declared.cmp.Ordering.TheVariants.{Less}
use Rattle.std.specs.Ordering.{is_gt, flip_args}

-- the point of this number is not above any, and below each before it
pub record IsFirstLeast {P : Type 0} (order : P → P → Ordering) (points : List P) (number : ℕ) : Type 0 where
  pub listed : number < length points
  pub least : (other : ℕ) (p q : P) → slice_get points number ≡ Some p → slice_get points other ≡ Some q → is_gt (order p q) ≡ false
  pub first : (other : ℕ) (p q : P) → other < number → slice_get points number ≡ Some p → slice_get points other ≡ Some q → order p q ≡ Less

-- it is not below any, and above each before it
abbrev pub IsFirstGreatest : {P : Type 0} → (P → P → Ordering) → List P → ℕ → Type 0
IsFirstGreatest order = IsFirstLeast (flip_args order)
