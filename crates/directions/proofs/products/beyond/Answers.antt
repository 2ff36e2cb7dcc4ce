use Rattle.std.proofs.Common.{◌≡◌, subst, ap₂, ℕ, ℤ, pos, nat_abs, ◌-ℤ◌, ◌≤ℤ◌, FitsSigned, w64, to_z-of_z}
use Rattle.integers.specs.Size.{Size}
use Rattle.integers.proofs.Sizes.{size_fits_in, size_sub}
use Rattle.integers.proofs.Order.{nonneg_difference}
use Rattle.directions.proofs.Signs.{magnitude_of}
use Rattle.directions.proofs.products.beyond.Goals as goal

-- the magnitude of a difference, by the order of what is equal to its parts
difference_is : {n : ℕ} {x y p q : ℤ} → x ≡ q → y ≡ p → n ≡ nat_abs (x -ℤ y) → p ≤ℤ q → pos n ≡ q -ℤ p
difference_is hx hy e order = magnitude_of e (ap₂ (λ a b. a -ℤ b) hx hy) (nonneg_difference order)

pub returns : goal.returns
returns c =
    let fits_q : FitsSigned w64 c.along.result = size_fits_in w64 c.along.ensures.size tt in
    let fits_p : FitsSigned w64 c.along-2.result = size_fits_in w64 c.along-2.ensures.size tt in
    let fits : FitsSigned w64 (c.along.result -ℤ c.along-2.result) = size_fits_in w64 (size_sub c.along.ensures.size c.along-2.ensures.size) tt in
    let is : c.unsigned_abs.result ≡ nat_abs (c.along.result -ℤ c.along-2.result) = simp to_z-of_z at c.unsigned_abs.ensures.value in
    record {
      value = difference_is c.along.ensures.value c.along-2.ensures.value is c.requires.order;
      p_size = subst (Size 160000000000) c.along-2.ensures.value c.along-2.ensures.size;
      q_size = subst (Size 160000000000) c.along.ensures.value c.along.ensures.size;
    }
