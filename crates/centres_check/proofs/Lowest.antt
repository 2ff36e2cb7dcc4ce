-- The lowest height from a value on, point by point; and the heights that were found, one after another.
use Rattle.std.proofs.Common.{◌≡◌, inl, inr, sym, subst, ap, ◌∙◌, ℕ, ◌+◌, ◌<◌, ℤ, ◌≤ℤ◌, List, arith}
use Rattle.std.specs.Prelude.{slice_get, Option, Some, None}
use Rattle.std.proofs.lemmas.Int.{ints}
use Rattle.std.proofs.lemmas.Option.{get_or_from_slice_get}
use Rattle.integers.proofs.Lists.{below_or_at}
use Rattle.bounds_model.specs.Plane.{PlanePoint, point_at, origin}
use Rattle.centres_check.specs.Heights.{IsBetween, IsLowestOf, IsLowestUpTo, IsLower, TakesLower}

-- ---- the lowest height from a value on

not_between : (from to v w : ℤ) → ¬ IsBetween from to v → w ≡ v → ¬ IsBetween from to w
not_between from to v w h e between = h (subst (IsBetween from to) e between)

lowest_again : (points : List PlanePoint) (i : ℕ) (from to value : ℤ) (found : Option ℤ) → IsLowestUpTo points i from to found → (point_at points i).y ≡ value → ¬ IsBetween from to value → IsLowestUpTo points (i + 1) from to found
lowest_again points i from to value None h is out = λ k low. elim (below_or_at k i low) [ inl sooner ↦ h k sooner | inr now ↦ not_between from to value (point_at points k).y out (ap (λ j. (point_at points j).y) now ∙ is) ]
lowest_again points i from to value (Some lowest) h is out = record {
  between = h.between;
  number = h.number;
  below = (let l = h.below in omega (arith, l));
  meets = h.meets;
  least = λ k low between. elim (below_or_at k i low) [ inl sooner ↦ h.least k sooner between | inr now ↦ absurd (not_between from to value (point_at points k).y out (ap (λ j. (point_at points j).y) now ∙ is) between) ];
}

lowest_new : (points : List PlanePoint) (i : ℕ) (from to value : ℤ) → (point_at points i).y ≡ value → IsBetween from to value → ((k : ℕ) → k < i → IsBetween from to (point_at points k).y → value ≤ℤ (point_at points k).y) → IsLowestOf points (i + 1) from to value
lowest_new points i from to value is between least = record {
  between = between;
  number = i;
  below = omega arith;
  meets = is;
  least = λ k low inside. elim (below_or_at k i low) [ inl sooner ↦ least k sooner inside | inr now ↦ same value (point_at points k).y (ap (λ j. (point_at points j).y) now ∙ is) ];
}
  where
    same : (v w : ℤ) → w ≡ v → v ≤ℤ w
    same v w e = omega (arith, ints, e)

lowest_taken : (points : List PlanePoint) (i : ℕ) (from to value : ℤ) (found new : Option ℤ) → IsLowestUpTo points i from to found → (point_at points i).y ≡ value → IsBetween from to value → TakesLower found value new → IsLowestUpTo points (i + 1) from to new
lowest_taken points i from to value None new h is between takes = subst (IsLowestUpTo points (i + 1) from to) (sym takes) (lowest_new points i from to value is between (λ k low inside. absurd (h k low inside)))
lowest_taken points i from to value (Some lowest) new h is between (inl less) = subst (IsLowestUpTo points (i + 1) from to) (sym less.1) (lowest_new points i from to value is between (λ k low inside. lower (point_at points k).y (h.least k low inside)))
  where
    lower : (w : ℤ) → lowest ≤ℤ w → value ≤ℤ w
    lower w l = let s = less.0 in omega (arith, ints, s, l)
lowest_taken points i from to value (Some lowest) new h is between (inr more) = subst (IsLowestUpTo points (i + 1) from to) (sym more.1) (record {
  between = h.between;
  number = h.number;
  below = (let l = h.below in omega (arith, l));
  meets = h.meets;
  least = λ k low inside. elim (below_or_at k i low) [ inl sooner ↦ h.least k sooner inside | inr now ↦ same (point_at points k).y (ap (λ j. (point_at points j).y) now ∙ is) ];
})
  where
    same : (w : ℤ) → w ≡ value → lowest ≤ℤ w
    same w e = let l = more.0 in omega (arith, ints, l, e)

-- one point more
pub lowest_next : (points : List PlanePoint) (i : ℕ) (p : PlanePoint) (from to value : ℤ) (found new : Option ℤ) → IsLowestUpTo points i from to found → slice_get points i ≡ Some p → value ≡ p.y → IsLower found value from to new → IsLowestUpTo points (i + 1) from to new
lowest_next points i p from to value found new h there is lower = elim lower [
  | inl out ↦ subst (IsLowestUpTo points (i + 1) from to) (sym out.1) (lowest_again points i from to value found h at out.0)
  | inr inside ↦ lowest_taken points i from to value found new h at inside.0 inside.1
]
  where
    at : (point_at points i).y ≡ value
    at = ap (λ p. p.y) (get_or_from_slice_get points i p origin there) ∙ sym is
