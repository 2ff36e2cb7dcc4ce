-- The first greatest columns of rows, and how many steps finding them takes.
use Rattle.std.specs.Prelude.{◌≡◌, ℕ, ◌+◌, ◌*◌, ◌^◌, ◌<◌, ◌≤◌, ◌%◌, List, length, slice_index_or}
use Rattle.bounds_model.specs.Numbers.{EachBelow}
use Rattle.bounds_model.specs.Plane.{PlanePoint}
use Rattle.bounds_model.specs.Furthest.{IsFurthest}
use Rattle.furthest_laws.specs.Rows.{IsRowGreatest, distances}

-- b is the greatest number with 2 ^ b ≤ n
pub record IsLogarithm (n b : ℕ) : Type 0 where
  pub reached : 2 ^ b ≤ n
  pub greatest : n < 2 ^ (b + 1)

-- the column of this row
abbrev pub column_at : List ℕ → ℕ → ℕ
column_at columns i = slice_index_or columns i 0

-- a column for each row and the first one of the next round, right in the first row, in that one, and in each row whose number is a multiple of the stride
pub record HasColumns (corners : List PlanePoint) (stride : ℕ) (columns : List ℕ) : Type 0 where
  pub as_many : length columns ≡ length corners + 1
  pub last : IsRowGreatest (distances corners) (length corners) (length corners) (column_at columns (length corners))
  pub each : (t : ℕ) → t * stride < length corners → IsRowGreatest (distances corners) (length corners) (t * stride) (column_at columns (t * stride))

-- each column is less than two rounds on, and names the first furthest corner
pub record NamesFurthest (corners : List PlanePoint) (columns : List ℕ) : Type 0 where
  pub enough : length corners ≤ length columns
  pub within : EachBelow (length corners) (λ i. column_at columns i < 2 * length corners)
  pub furthest : EachBelow (length corners) (λ i. IsFurthest corners i (column_at columns i % length corners))
