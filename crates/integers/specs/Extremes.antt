-- The least and the greatest value of a function over a list.
use Rattle.std.specs.Prelude.{ℤ, pos, List, [], ◌∷◌, map, fold}
use Rattle.std.specs.Int.{int_max, int_min}

-- the greatest value of f over a list
abbrev pub greatest : {A : Type 0} → (A → ℤ) → List A → ℤ
greatest f [] = pos 0
greatest f (a ∷ s) = fold int_max (f a) (map f s)

-- the least value of f over a list
abbrev pub least : {A : Type 0} → (A → ℤ) → List A → ℤ
least f [] = pos 0
least f (a ∷ s) = fold int_min (f a) (map f s)
