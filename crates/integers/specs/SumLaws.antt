-- Sums over lists, and the greatest and the least value.
use Rattle.std.specs.Prelude.{◌≡◌, ℕ, ℤ, ◌+ℤ◌, ◌*ℤ◌, ◌≤ℤ◌, ◌<◌, List, ◌++◌, length, All, Any}
use Rattle.integers.specs.Total.{total}
use Rattle.integers.specs.Extremes.{greatest, least}

-- the sum over two lists in a row is the sum of both
abbrev pub SumsAppend : Type 0
SumsAppend = (f : ℕ → ℤ) (s t : List ℕ) → total f (s ++ t) ≡ total f s +ℤ total f t

-- a common factor can be drawn out of a sum
abbrev pub SumsScale : Type 0
SumsScale = (k : ℤ) (f : ℕ → ℤ) (s : List ℕ) → total (λ a. k *ℤ f a) s ≡ k *ℤ total f s

-- two sums can be taken in either order
abbrev pub SumsExchange : Type 0
SumsExchange = (f : ℕ → ℕ → ℤ) (s t : List ℕ) → total (λ a. total (λ b. f a b) t) s ≡ total (λ b. total (λ a. f a b) s) t

-- an element of a list that is not empty has the greatest value, and no element has a greater one
abbrev pub GreatestIsReached : Type 0
GreatestIsReached = (f : ℕ → ℤ) (s : List ℕ) → 0 < length s → Any (λ x. greatest f s ≡ f x) s × All (λ x. f x ≤ℤ greatest f s) s

-- an element of a list that is not empty has the least value, and no element has a smaller one
abbrev pub LeastIsReached : Type 0
LeastIsReached = (f : ℕ → ℤ) (s : List ℕ) → 0 < length s → Any (λ x. least f s ≡ f x) s × All (λ x. least f s ≤ℤ f x) s
