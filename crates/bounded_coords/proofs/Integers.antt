-- The first of the least and of the greatest, where values are integers.
use Rattle.std.proofs.Common.{◌≡◌, ℕ, ℤ, ◌≤ℤ◌, ◌<ℤ◌, List, arith, false}
use Rattle.std.specs.Prelude.{slice_get, Some}
use Rattle.std.specs.declared.cmp.Ordering.{Ordering}
use Rattle.std.specs.declared.cmp.Ordering.TheVariants.{Less, Equal, Greater}
use Rattle.std.specs.Ordering.{is_gt, int_cmp, on, MatchOrdering}
use Rattle.std.specs.Cmp.{int_ranks}
use Rattle.std.proofs.lemmas.Int.{ints}
use Rattle.bounded_coords.specs.Firsts.{IsFirstLeast, IsFirstGreatest}

at_most : (r : Ordering) (x y : ℤ) → MatchOrdering r (x <ℤ y) (x ≡ y) (y <ℤ x) → is_gt r ≡ false → x ≤ℤ y
at_most Less x y h e = omega (arith, ints)
at_most Equal x y h e = omega (arith, ints)
at_most Greater x y h e = absurd (cc)

-- no value is below the least
pub is_least : {P : Type 0} (measured : P → ℤ) (points : List P) (number other : ℕ) (p q : P) → IsFirstLeast (on measured int_cmp) points number
    → slice_get points number ≡ Some p → slice_get points other ≡ Some q → measured p ≤ℤ measured q
is_least measured points number other p q h e f = at_most (int_cmp (measured p) (measured q)) (measured p) (measured q) (int_ranks (measured p) (measured q)) (h.least other p q e f)

-- no value is above the greatest
pub is_greatest : {P : Type 0} (measured : P → ℤ) (points : List P) (number other : ℕ) (p q : P) → IsFirstGreatest (on measured int_cmp) points number
    → slice_get points number ≡ Some p → slice_get points other ≡ Some q → measured q ≤ℤ measured p
is_greatest measured points number other p q h e f = at_most (int_cmp (measured q) (measured p)) (measured q) (measured p) (int_ranks (measured q) (measured p)) (h.least other p q e f)
