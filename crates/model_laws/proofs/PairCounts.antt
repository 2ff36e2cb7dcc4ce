-- How many pairs of corners come before those of a first corner.
use Rattle.std.proofs.Common.{◌≡◌, sym, ap, ◌∙◌, ℕ, ◌+◌, ◌-◌, ◌*◌, ◌/◌, ◌<◌, arith}
use Rattle.bounds_model.specs.KgonAnswer.{pairs_before}

-- the pairs of the next first corner begin where those of this one end
pub pairs-next : (count first : ℕ) → first < count → pairs_before count (first + 1) ≡ pairs_before count first + (count - 1 - first)
pairs-next count first h = halves (first * (2 * count - first - 1)) ((first + 1) * (2 * count - (first + 1) - 1)) (count - 1 - first) (twice (count - 1 - first) first count (whole h))
  where
    halves : (x y n : ℕ) → y ≡ x + 2 * n → y / 2 ≡ x / 2 + n
    halves x y n e = omega arith

    whole : first < count → count ≡ first + 1 + (count - 1 - first)
    whole h = omega arith

    product : (n a : ℕ) → (a + 1) * (a + 2 * n) ≡ a * (a + 1 + 2 * n) + 2 * n
    product n a = omega arith

    twice : (n a c : ℕ) → c ≡ a + 1 + n → (a + 1) * (2 * c - (a + 1) - 1) ≡ a * (2 * c - a - 1) + 2 * n
    twice n a c e =
        let upper : 2 * c - (a + 1) - 1 ≡ a + 2 * n = omega arith in
        let lower : 2 * c - a - 1 ≡ a + 1 + 2 * n = omega arith in
        ap (λ k. (a + 1) * k) upper ∙ product n a ∙ ap (λ k. a * k + 2 * n) (sym lower)
