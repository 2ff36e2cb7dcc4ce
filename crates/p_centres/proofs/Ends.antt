-- The first point of least or of greatest value, by the numbers of points, and the extent between the two.
use Rattle.std.proofs.Common.{◌≡◌, refl, sym, subst, subst₂, ◌∙◌, ap, inr, ℕ, ◌<◌, ℤ, ◌≤ℤ◌, ◌<ℤ◌, List, [], length, false, arith}
use Rattle.std.specs.Prelude.{slice_get, Some}
use Rattle.std.specs.declared.cmp.Ordering.{Ordering}
use Rattle.std.specs.declared.cmp.Ordering.TheVariants.{Less, Equal, Greater}
use Rattle.std.specs.Ordering.{is_gt, int_cmp, on, MatchOrdering}
use Rattle.std.specs.Cmp.{int_ranks}
use Rattle.std.proofs.lemmas.Int.{ints}
use Rattle.std.proofs.lemmas.Option.{slice_get_within, slice_get-get_or, get_or_from_slice_get}
use Rattle.bounds_model.specs.Numbers.{IsWithin}
use Rattle.bounds_model.specs.Plane.{PlanePoint, point_at, origin, plane_limit}
use Rattle.bounded_coords.specs.Firsts.{IsFirstLeast, IsFirstGreatest}
use Rattle.bounded_coords.proofs.Integers.{is_least, is_greatest}
use Rattle.corner_squares.specs.declared.extent.Extent.{Extent}
use Rattle.corner_squares.specs.Extents.{HasAt, IsSpan}
use Rattle.corner_squares.proofs.LeftOver.{none_covered}

-- ---- what an order of integers says

is_below : (r : Ordering) (x y : ℤ) → MatchOrdering r (x <ℤ y) (x ≡ y) (y <ℤ x) → r ≡ Less → x <ℤ y
is_below Less x y h e = h
is_below Equal x y h e = absurd (cc)
is_below Greater x y h e = absurd (cc)

less : (r : Ordering) (x y : ℤ) → MatchOrdering r (x <ℤ y) (x ≡ y) (y <ℤ x) → x <ℤ y → r ≡ Less
less Less x y h k = refl
less Equal x y h k = absurd (omega (arith, ints, h, k))
less Greater x y h k = absurd (omega (arith, ints, h, k))

not_above : (r : Ordering) (x y : ℤ) → MatchOrdering r (x <ℤ y) (x ≡ y) (y <ℤ x) → x ≤ℤ y → is_gt r ≡ false
not_above Less x y h k = refl
not_above Equal x y h k = refl
not_above Greater x y h k = absurd (omega (arith, ints, h, k))

module _ (of : PlanePoint → ℤ) (points : List PlanePoint) where
  listed_at : (i : ℕ) → i < length points → slice_get points i ≡ Some (point_at points i)
  listed_at i below = slice_get-get_or points i origin below

  is_at : (i : ℕ) (p : PlanePoint) → slice_get points i ≡ Some p → point_at points i ≡ p
  is_at i p there = get_or_from_slice_get points i p origin there

  -- a pair of points for which their numbers stand
  read_off : (R : ℤ → ℤ → Type 0) (i j : ℕ) (p q : PlanePoint) → slice_get points i ≡ Some p → slice_get points j ≡ Some q → R (of (point_at points i)) (of (point_at points j)) → R (of p) (of q)
  read_off R i j p q is_p is_q h = subst₂ (λ a b. R (of a) (of b)) (is_at i p is_p) (is_at j q is_q) h

  -- ---- the first of the least, and of the greatest, by numbers

  pub first_least : (number : ℕ) → number < length points → ((k : ℕ) → k < length points → of (point_at points number) ≤ℤ of (point_at points k))
      → ((k : ℕ) → k < number → of (point_at points number) <ℤ of (point_at points k)) → IsFirstLeast (on of int_cmp) points number
  first_least number listed least first = record {
    listed = listed;
    least = λ k p q is_p is_q. not_above (int_cmp (of p) (of q)) (of p) (of q) (int_ranks (of p) (of q)) (read_off (λ v w. v ≤ℤ w) number k p q is_p is_q (least k (slice_get_within points k q is_q)));
    first = λ k p q sooner is_p is_q. less (int_cmp (of p) (of q)) (of p) (of q) (int_ranks (of p) (of q)) (read_off (λ v w. v <ℤ w) number k p q is_p is_q (first k sooner));
  }

  pub first_greatest : (number : ℕ) → number < length points → ((k : ℕ) → k < length points → of (point_at points k) ≤ℤ of (point_at points number))
      → ((k : ℕ) → k < number → of (point_at points k) <ℤ of (point_at points number)) → IsFirstGreatest (on of int_cmp) points number
  first_greatest number listed greatest first = record {
    listed = listed;
    least = λ k p q is_p is_q. not_above (int_cmp (of q) (of p)) (of q) (of p) (int_ranks (of q) (of p)) (read_off (λ v w. w ≤ℤ v) number k p q is_p is_q (greatest k (slice_get_within points k q is_q)));
    first = λ k p q sooner is_p is_q. less (int_cmp (of q) (of p)) (of q) (of p) (int_ranks (of q) (of p)) (read_off (λ v w. w <ℤ v) number k p q is_p is_q (first k sooner));
  }

  -- ---- the extent between them

  end_at : (number : ℕ) (p : PlanePoint) (value : ℤ) → number < length points → slice_get points number ≡ Some p → value ≡ of p → HasAt of points [] number value
  end_at number p value listed is_p is = record {
    below = listed;
    free = λ covered. none_covered (point_at points number) covered;
    has = ap of (is_at number p is_p) ∙ sym is;
  }

  pub extent_of_ends : (e : Extent) (p q : PlanePoint) → IsFirstLeast (on of int_cmp) points e.low_at → IsFirstGreatest (on of int_cmp) points e.high_at
      → slice_get points e.low_at ≡ Some p → slice_get points e.high_at ≡ Some q → e.low ≡ of p → e.high ≡ of q → IsWithin plane_limit e.low → IsWithin plane_limit e.high
      → IsSpan of points [] e
  extent_of_ends e p q least greatest is_p is_q low high low_within high_within = record {
    inside = λ k below. inr (not_below k below, not_past k below);
    low_at = end_at e.low_at p e.low least.listed is_p low;
    high_at = end_at e.high_at q e.high greatest.listed is_q high;
    plane = record { low = low_within; high = high_within; order = subst (λ v. v ≤ℤ e.high) (sym low_is) (not_past e.low_at least.listed) };
  }
    where
      low_is : e.low ≡ of (point_at points e.low_at)
      low_is = low ∙ ap of (sym (is_at e.low_at p is_p))

      high_is : e.high ≡ of (point_at points e.high_at)
      high_is = high ∙ ap of (sym (is_at e.high_at q is_q))

      not_below : (k : ℕ) → k < length points → e.low ≤ℤ of (point_at points k)
      not_below k below = subst (λ v. v ≤ℤ of (point_at points k)) (sym low_is)
          (is_least of points e.low_at k (point_at points e.low_at) (point_at points k) least (listed_at e.low_at least.listed) (listed_at k below))

      not_past : (k : ℕ) → k < length points → of (point_at points k) ≤ℤ e.high
      not_past k below = subst (λ v. of (point_at points k) ≤ℤ v) (sym high_is)
          (is_greatest of points e.high_at k (point_at points e.high_at) (point_at points k) greatest (listed_at e.high_at greatest.listed) (listed_at k below))
