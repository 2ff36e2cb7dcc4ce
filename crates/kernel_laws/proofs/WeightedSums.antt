-- Sums of vectors, each times its weight.
use Rattle.std.proofs.Common.{◌≡◌, refl, ◌∙◌, ap, ℤ, pos, ◌+ℤ◌, List, [], ◌∷◌, ◌++◌, map, arith}
use Rattle.std.proofs.lemmas.Int.{ints}
use Rattle.bounds_model.specs.Space.{SpacePoint, plus, times, weighted_sum}
use Rattle.kernel_laws.proofs.Points.{same_point}

-- sums in a row, in either grouping
plus-plus : (a b c : SpacePoint) → plus a (plus b c) ≡ plus (plus a b) c
plus-plus a b c = same_point (grouped a.x b.x c.x) (grouped a.y b.y c.y) (grouped a.z b.z c.z)
  where
    grouped : (x y z : ℤ) → x +ℤ (y +ℤ z) ≡ x +ℤ y +ℤ z
    grouped x y z = omega (arith, ints)

-- a weighted sum with one vector more
pub weighted_sum-one_more : {X : Type 0} (weight : X → ℤ) (at : X → SpacePoint) (xs : List X) (x : X) → weighted_sum weight at (xs ++ x ∷ []) ≡ plus (weighted_sum weight at xs) (times (weight x) (at x))
weighted_sum-one_more weight at [] x = same_point (sides (times (weight x) (at x)).x) (sides (times (weight x) (at x)).y) (sides (times (weight x) (at x)).z)
  where
    sides : (z : ℤ) → z +ℤ pos 0 ≡ pos 0 +ℤ z
    sides z = omega (arith, ints)
weighted_sum-one_more weight at (y ∷ xs) x = ap (plus (times (weight y) (at y))) (weighted_sum-one_more weight at xs x) ∙ plus-plus (times (weight y) (at y)) (weighted_sum weight at xs) (times (weight x) (at x))

-- over a mapped list
pub weighted_sum-map : {X Y : Type 0} (weight : Y → ℤ) (at : Y → SpacePoint) (f : X → Y) (xs : List X) → weighted_sum weight at (map f xs) ≡ weighted_sum (λ x. weight (f x)) (λ x. at (f x)) xs
weighted_sum-map weight at f [] = refl
weighted_sum-map weight at f (x ∷ xs) = ap (plus (times (weight (f x)) (at (f x)))) (weighted_sum-map weight at f xs)
