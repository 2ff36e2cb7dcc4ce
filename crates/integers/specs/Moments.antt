-- Sums over weighted points: `weight`, `x`, `y` and `z` give an element's weight and coordinates.
use Rattle.std.specs.Prelude.{ℤ, ◌-ℤ◌, ◌*ℤ◌, List}
use Rattle.integers.specs.Total.{total}
use Rattle.integers.specs.Determinants.{square2, square3}

-- the weighted sum of one coordinate
abbrev pub moment : {A : Type 0} → (A → ℤ) → (A → ℤ) → List A → ℤ
moment weight x s = total (λ a. weight a *ℤ x a) s

-- the weighted sum of the squared lengths, in the plane
abbrev pub second_moment2 : {A : Type 0} → (A → ℤ) → (A → ℤ) → (A → ℤ) → List A → ℤ
second_moment2 weight x y s = total (λ a. weight a *ℤ square2 (x a) (y a)) s

-- and in space
abbrev pub second_moment3 : {A : Type 0} → (A → ℤ) → (A → ℤ) → (A → ℤ) → (A → ℤ) → List A → ℤ
second_moment3 weight x y z s = total (λ a. weight a *ℤ square3 (x a) (y a) (z a)) s

-- the weighted sum of the squared distances from the point (p, q) / k, times k²
abbrev pub distances2 : {A : Type 0} → (A → ℤ) → (A → ℤ) → (A → ℤ) → ℤ → ℤ → ℤ → List A → ℤ
distances2 weight x y k p q s = total (λ a. weight a *ℤ square2 (k *ℤ x a -ℤ p) (k *ℤ y a -ℤ q)) s

-- the weighted sum of the squared distances from the point (p, q, r) / k, times k²
abbrev pub distances3 : {A : Type 0} → (A → ℤ) → (A → ℤ) → (A → ℤ) → (A → ℤ) → ℤ → ℤ → ℤ → ℤ → List A → ℤ
distances3 weight x y z k p q r s = total (λ a. weight a *ℤ square3 (k *ℤ x a -ℤ p) (k *ℤ y a -ℤ q) (k *ℤ z a -ℤ r)) s
