-- The greater of two numbers as code finds it, and the greatest of a list, one value after another.
use Rattle.std.proofs.Common.{◌≡◌, sym, subst, ◌∙◌, inl, inr, arith, ℤ, pos, ◌≤ℤ◌, ◌<ℤ◌, List, [], ◌∷◌, ◌++◌, int_cmp, cond, Ordering}
use Rattle.std.proofs.lemmas.Int.{ints, clamps}
use Rattle.std.specs.Int.{int_max}
use Rattle.std.specs.declared.cmp.Ordering.TheVariants.{Less, Equal, Greater}
use Rattle.std.specs.Ordering.{ord_max, is_lt, MatchOrdering}
use Rattle.std.specs.Cmp.{int_ranks}
use Rattle.integers.specs.Extremes.{greatest}
use Rattle.integers.proofs.Extremes.{greatest-one_more}
use Rattle.integers.proofs.MaxMin.{pick_max, right-le-max}

-- the greater of two numbers
greater : (o : Ordering) (x y : ℤ) → MatchOrdering o (y <ℤ x) (y ≡ x) (x <ℤ y) → cond (is_lt o) x y ≡ int_max x y
greater Less x y h = omega (arith, ints, clamps)
greater Equal x y h = omega (arith, ints, clamps)
greater Greater x y h = omega (arith, ints, clamps)

-- the same where it is found by `max`
pub max_is : (x y : ℤ) → ord_max int_cmp x y ≡ int_max x y
max_is x y = greater (int_cmp y x) x y (int_ranks y x)

-- one value more, none of which is below 0
pub more_greatest : {X : Type 0} (f : X → ℤ) (xs : List X) (x : X) → pos 0 ≤ℤ f x → int_max (greatest f xs) (f x) ≡ greatest f (xs ++ x ∷ [])
more_greatest f [] x h = largest (f x) h
  where
    largest : (z : ℤ) → pos 0 ≤ℤ z → int_max (pos 0) z ≡ z
    largest z h = elim (pick_max (pos 0) z) [ inl least ↦ least ∙ none_below (subst (λ m. z ≤ℤ m) least (right-le-max (pos 0) z)) h | inr same ↦ same ]
      where
        none_below : z ≤ℤ pos 0 → pos 0 ≤ℤ z → pos 0 ≡ z
        none_below l h = omega (arith, ints)
more_greatest f (a ∷ xs) x h = sym (greatest-one_more f (a ∷ xs) x (omega arith))
