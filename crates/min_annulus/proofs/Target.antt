-- Where the target lies.
use Rattle.std.proofs.Common.{◌≡◌, sym, ◌^◌, ℤ, pos, ◌+ℤ◌, ◌-ℤ◌, ◌*ℤ◌, ◌≤ℤ◌, ◌<ℤ◌, arith}
use Rattle.std.proofs.lemmas.Int.{ints}
use Rattle.integers.specs.Size.{Size}
use Rattle.integers.proofs.Sizes.{size_sub, below_size, above_size}
use Rattle.min_annulus.specs.DifferenceVectors.{cross}
use Rattle.min_annulus.specs.Laws.{IsInGeneralPosition, HasOrigin}

-- ---- the sign of n M² + p M + q, by plain numbers

only_zero : (n p q : ℤ) → Size 800000 p → Size 800000 q → n *ℤ (pos (2 ^ 22) *ℤ pos (2 ^ 22)) +ℤ (p *ℤ pos (2 ^ 22) +ℤ q) ≡ pos 0 → (p ≡ pos 0) × (q ≡ pos 0)
only_zero n p q hp hq e =
    let pa = below_size hp in
    let pb = above_size hp in
    let qa = below_size hq in
    let qb = above_size hq in
    (omega (arith, ints), omega (arith, ints))

first_nonneg : (n p q : ℤ) → Size 800000 p → Size 800000 q → pos 0 <ℤ (n *ℤ (pos (2 ^ 22) *ℤ pos (2 ^ 22)) +ℤ (p *ℤ pos (2 ^ 22) +ℤ q)) → pos 0 ≤ℤ n
first_nonneg n p q hp hq e =
    let pa = below_size hp in
    let pb = above_size hp in
    let qa = below_size hq in
    let qb = above_size hq in
    omega (arith, ints)

same_of_difference : (a b : ℤ) → a -ℤ b ≡ pos 0 → a ≡ b
same_of_difference a b e = omega (arith, ints)

-- ---- of differences

-- a line through two differences that meets the target goes through one alone
pub general_position : IsInGeneralPosition
general_position a b ha hb e =
    let zero = only_zero (cross a b) (a.y -ℤ b.y) (b.x -ℤ a.x) (size_sub ha.y hb.y) (size_sub hb.x ha.x) e in
    (sym (same_of_difference b.x a.x zero.1), same_of_difference a.y b.y zero.0)

-- where the target is on the left of the way from a to b, the origin is not on its right
pub has_origin : HasOrigin
has_origin a b ha hb left = first_nonneg (cross a b) (a.y -ℤ b.y) (b.x -ℤ a.x) (size_sub ha.y hb.y) (size_sub hb.x ha.x) left
