use Rattle.std.proofs.Common.{◌≡◌, ap₂, ℕ, ℤ, nat_abs, ◌+ℤ◌, ◌≤◌, [], ◌∷◌, to_z, of_z}
use mir.Syntax.{w128}
use Rattle.bounds_model.specs.Numbers.{IsWithin}
use Rattle.integers.proofs.Sizes.{size_fits_in}
use Rattle.integers.proofs.UnsignedArithmetic.{limited, with_limited, amounts, amount_fits, amount_within}
use Rattle.directions.proofs.Bounds.{size_in, magnitude_read}
use Rattle.directions.proofs.Signs.{square_magnitude}
use Rattle.directions.proofs.products.squared_length.Goals as goal

-- a magnitude of a coordinate
magnitude_of : (n : ℕ) (z : ℤ) → IsWithin 400000 z → n ≡ nat_abs (to_z w128 (of_z w128 z)) → (n ≡ nat_abs z) × (n ≤ 400000)
magnitude_of n z h e = magnitude_read n z (size_fits_in w128 (size_in h) tt) h e

pub overflow_mul-result : goal.overflow_mul-result
overflow_mul-result c =
    let x = magnitude_of c.unsigned_abs-x.result c.args.d.x c.requires.x c.unsigned_abs-x.ensures.value in
    with_limited (limited _ 400000 x.1 ∷ []) (λ xs h a. simp (a, amounts) (amount_fits xs h w128 _ tt))

pub overflow_mul-result-2 : goal.overflow_mul-result-2
overflow_mul-result-2 c =
    let y = magnitude_of c.unsigned_abs-y.result c.args.d.y c.requires.y c.unsigned_abs-y.ensures.value in
    with_limited (limited _ 400000 y.1 ∷ []) (λ xs h a. simp (a, amounts) (amount_fits xs h w128 _ tt))

pub overflow_add-result : goal.overflow_add-result
overflow_add-result c =
    let x = magnitude_of c.unsigned_abs-x.result c.args.d.x c.requires.x c.unsigned_abs-x.ensures.value in
    let y = magnitude_of c.unsigned_abs-y.result c.args.d.y c.requires.y c.unsigned_abs-y.ensures.value in
    with_limited (limited _ 400000 x.1 ∷ limited _ 400000 y.1 ∷ []) (λ xs h a b. simp (a, b, amounts) (amount_fits xs h w128 _ tt))

pub returns : goal.returns
returns c =
    let x = magnitude_of c.unsigned_abs-x.result c.args.d.x c.requires.x c.unsigned_abs-x.ensures.value in
    let y = magnitude_of c.unsigned_abs-y.result c.args.d.y c.requires.y c.unsigned_abs-y.ensures.value in
    record {
      value = rw (x.0, y.0) (ap₂ (λ a b. a +ℤ b) (square_magnitude c.args.d.x) (square_magnitude c.args.d.y));
      limit = with_limited (limited _ 400000 x.1 ∷ limited _ 400000 y.1 ∷ []) (λ xs h a b. simp (a, b, amounts) (amount_within xs h _ tt));
    }
