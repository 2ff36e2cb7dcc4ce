-- Fractions: lowest terms, and how far apart they lie.
use Prim.Native.Nat.{◌∣◌}
use Rattle.std.specs.Prelude.{◌≡◌, ℕ, ◌*◌, ◌/◌, ◌<◌, ◌≤◌, ℤ, pos, ◌+ℤ◌, ◌*ℤ◌, ◌≤ℤ◌, ◌<ℤ◌}
use Rattle.std.specs.Int.{IsGcd}
use Rattle.integers.specs.LowestTerms.{IsLowestTerms}

-- a number that divides a product, and has no factor in common with one part, divides the other
abbrev pub DividesOtherFactor : Type 0
DividesOtherFactor = (k a b : ℕ) → IsGcd k a 1 → k ∣ a * b → k ∣ b

-- two forms in lowest terms of one value are the same
abbrev pub LowestTermsAreUnique : Type 0
LowestTermsAreUnique = (n d m e : ℕ) → IsLowestTerms n d → IsLowestTerms m e → n * e ≡ m * d → (n ≡ m) × (d ≡ e)

-- a / b + 1 / q² is at most c / d, where a / b is less and both denominators are at most q
abbrev pub FractionsLieApart : Type 0
FractionsLieApart = (a b c d q : ℤ) → pos 0 <ℤ b → pos 0 <ℤ d → b ≤ℤ q → d ≤ℤ q → (a *ℤ d) <ℤ (c *ℤ b) → (a *ℤ d *ℤ (q *ℤ q) +ℤ b *ℤ d) ≤ℤ (c *ℤ b *ℤ (q *ℤ q))

-- where a fraction with a denominator of at most q rises, so does the whole part of q² times it
abbrev pub FloorsRise : Type 0
FloorsRise = (a b c d q : ℕ) → 0 < b → 0 < d → b ≤ q → d ≤ q → a * d < c * b → a * (q * q) / b < c * (q * q) / d
