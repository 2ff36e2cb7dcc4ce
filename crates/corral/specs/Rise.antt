-- How far the value of supports can rise.
use Rattle.std.specs.Prelude.{ℕ, ◌*◌, ◌/◌, ℤ, pos, ◌*ℤ◌, ◌-ℤ◌, ◌≤ℤ◌, ◌<ℤ◌, List, All, nat_abs}
use Rattle.bounds_model.specs.Space.{squared_length}
use Rattle.bounds_model.specs.Slacks.{WeightedVector, mass, value}

-- weights of at least 1 whose sum is from 1 to `limit`, of vectors whose squared lengths are at most `longest`
pub record AreBounded (longest limit : ℕ) (items : List WeightedVector) : Type 0 where
  pub weights : All (λ item. pos 1 ≤ℤ item.weight) items
  pub some : pos 0 <ℤ mass items
  pub light : mass items ≤ℤ pos limit
  pub short : All (λ item. squared_length item.vector ≤ℤ pos longest) items

-- the whole part of limit⁴ times the difference between `longest` and the value
abbrev pub measure : ℤ → ℕ → ℕ → List WeightedVector → ℕ
measure quadratic longest limit items =
    let v = value quadratic items in
    nat_abs (pos longest *ℤ v.d -ℤ v.n) * ((limit * limit) * (limit * limit)) / nat_abs v.d
