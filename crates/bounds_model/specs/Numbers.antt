-- Ranges of whole numbers, lengths of lists, and what holds at each index of a list.
use Rattle.std.specs.Prelude.{ℕ, ℤ, pos, neg_ℤ, ◌≤ℤ◌, ◌<◌, ◌≤◌, List, length, slice_index_or}

-- the number is between -limit and limit
pub record IsWithin (limit : ℕ) (z : ℤ) : Type 0 where
  pub low : neg_ℤ (pos limit) ≤ℤ z
  pub high : z ≤ℤ pos limit

-- the list has from low to high elements
pub record HasCount {X : Type 0} (low high : ℕ) (xs : List X) : Type 0 where
  pub at_least : low ≤ length xs
  pub at_most : length xs ≤ high

-- P holds of each index of a list and the element there
abbrev pub AllNumbered : {X : Type 0} → (ℕ → X → Type 0) → List X → Type 0
AllNumbered {X} P xs = (k : ℕ) (d : X) → k < length xs → P k (slice_index_or xs k d)

-- P holds of each number below a bound
abbrev pub EachBelow : ℕ → (ℕ → Type 0) → Type 0
EachBelow bound P = (k : ℕ) → k < bound → P k
