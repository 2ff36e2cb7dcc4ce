-- Sums of three products, as code finds them in 128 bits: what they are, and that each step fits.
use Rattle.std.proofs.Common.{◌≡◌, sym, ◌∙◌, ap, ap₂, subst, ◌*◌, ◌+◌, ◌^◌, ℤ, ◌+ℤ◌, ◌*ℤ◌, FitsSigned, to_z, of_z}
use mir.Syntax.{w128}
use Rattle.integers.specs.Size.{Size}
use Rattle.integers.proofs.Sizes.{size_mul, size_add, size_more, size_fits, wrap_is}

-- a number that went to its bits and back
abbrev pub back : ℤ → ℤ
back x = to_z w128 (of_z w128 x)

-- ---- a product

abbrev pub product : ℤ → ℤ → ℤ
product r x = back r *ℤ back x

pub record Product (r x : ℤ) : Type 0 where
  pub fits : FitsSigned w128 (product r x)
  pub value : back (product r x) ≡ r *ℤ x
  pub size : Size (2 ^ 73) (r *ℤ x)

pub product_of : {r x : ℤ} → Size (2 ^ 42) r → Size (2 ^ 31) x → Product r x
product_of {r} {x} hr hx =
    let plain : product r x ≡ r *ℤ x = ap₂ (λ m n. m *ℤ n) (wrap_is hr tt) (wrap_is hx tt) in
    let whole : Size (2 ^ 42 * 2 ^ 31) (r *ℤ x) = size_mul hr hx in
    record { fits = subst (FitsSigned w128) (sym plain) (size_fits whole tt); value = ap back plain ∙ wrap_is whole tt; size = size_more whole tt }

-- ---- a sum of three

abbrev pub two_products : ℤ → ℤ → ℤ → ℤ → ℤ
two_products r x s y = back (product r x) +ℤ back (product s y)

abbrev pub three_products : ℤ → ℤ → ℤ → ℤ → ℤ → ℤ → ℤ
three_products r x s y t z = back (two_products r x s y) +ℤ back (product t z)

pub record ProductSum (r x s y t z : ℤ) : Type 0 where
  pub first : FitsSigned w128 (product r x)
  pub second : FitsSigned w128 (product s y)
  pub third : FitsSigned w128 (product t z)
  pub two : FitsSigned w128 (two_products r x s y)
  pub all : FitsSigned w128 (three_products r x s y t z)
  pub value : back (three_products r x s y t z) ≡ r *ℤ x +ℤ s *ℤ y +ℤ t *ℤ z
  pub size : Size (2 ^ 75) (back (three_products r x s y t z))

pub product_sum : {r x s y t z : ℤ} → Size (2 ^ 42) r → Size (2 ^ 31) x → Size (2 ^ 42) s → Size (2 ^ 31) y → Size (2 ^ 42) t → Size (2 ^ 31) z → ProductSum r x s y t z
product_sum {r} {x} {s} {y} {t} {z} hr hx hs hy ht hz =
    let p = product_of hr hx in
    let q = product_of hs hy in
    let o = product_of ht hz in
    let two_is : two_products r x s y ≡ r *ℤ x +ℤ s *ℤ y = ap₂ (λ m n. m +ℤ n) p.value q.value in
    let size_two : Size (2 ^ 73 + 2 ^ 73) (r *ℤ x +ℤ s *ℤ y) = size_add p.size q.size in
    let all_is : three_products r x s y t z ≡ r *ℤ x +ℤ s *ℤ y +ℤ t *ℤ z = ap₂ (λ m n. m +ℤ n) (ap back two_is ∙ wrap_is size_two tt) o.value in
    let size_all : Size (2 ^ 73 + 2 ^ 73 + 2 ^ 73) (r *ℤ x +ℤ s *ℤ y +ℤ t *ℤ z) = size_add size_two o.size in
    let value : back (three_products r x s y t z) ≡ r *ℤ x +ℤ s *ℤ y +ℤ t *ℤ z = ap back all_is ∙ wrap_is size_all tt in
    record {
      first = p.fits;
      second = q.fits;
      third = o.fits;
      two = subst (FitsSigned w128) (sym two_is) (size_fits size_two tt);
      all = subst (FitsSigned w128) (sym all_is) (size_fits size_all tt);
      value = value;
      size = subst (Size (2 ^ 75)) (sym value) (size_more size_all tt);
    }
