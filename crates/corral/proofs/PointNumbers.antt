-- The points that numbers stand for, and which of them is least or greatest by a number.
use Rattle.std.proofs.Common.{sym, subst, ℕ, ◌<◌, ℤ, ◌≤ℤ◌, List, length, map, get_or}
use Rattle.std.specs.Ordering.{on, int_cmp}
use Rattle.std.proofs.lemmas.Option.{slice_get-get_or}
use Rattle.bounds_model.specs.Space.{SpacePoint, point_at}
use Rattle.bounded_coords.specs.Firsts.{IsFirstLeast, IsFirstGreatest}
use Rattle.bounded_coords.proofs.Integers.{is_least, is_greatest}
use Rattle.kernel_laws.proofs.Points.{point_at_place}

-- each number of a list stands for one of its points; any point serves to find it
module _ {P : Type 0} (place : P → SpacePoint) (f : SpacePoint → ℤ) (points : List P) (any : P) where
  chosen : (R : SpacePoint → Type 0) (i : ℕ) → i < length points → R (place (get_or points i any)) → R (point_at (map place points) i)
  chosen R i h = subst R (sym (point_at_place place points i (get_or points i any) (slice_get-get_or points i any h)))

  -- where its coordinates give the least number
  pub least_at : (number other : ℕ) → IsFirstLeast (on (λ p. f (place p)) int_cmp) points number → other < length points
      → f (point_at (map place points) number) ≤ℤ f (point_at (map place points) other)
  least_at number other h listed = chosen (λ v. f v ≤ℤ f (point_at (map place points) other)) number h.listed
      (chosen (λ v. f (place (get_or points number any)) ≤ℤ f v) other listed
      (is_least (λ p. f (place p)) points number other (get_or points number any) (get_or points other any) h (slice_get-get_or points number any h.listed) (slice_get-get_or points other any listed)))

  -- and the greatest
  pub greatest_at : (number other : ℕ) → IsFirstGreatest (on (λ p. f (place p)) int_cmp) points number → other < length points
      → f (point_at (map place points) other) ≤ℤ f (point_at (map place points) number)
  greatest_at number other h listed = chosen (λ v. f (point_at (map place points) other) ≤ℤ f v) number h.listed
      (chosen (λ v. f v ≤ℤ f (place (get_or points number any))) other listed
      (is_greatest (λ p. f (place p)) points number other (get_or points number any) (get_or points other any) h (slice_get-get_or points number any h.listed) (slice_get-get_or points other any listed)))
