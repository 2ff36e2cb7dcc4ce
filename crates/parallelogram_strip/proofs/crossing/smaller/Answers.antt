use Rattle.std.proofs.Common.{◌≡◌, ◌*◌, ◌≤◌, subst, ap₂, ℕ, ℤ, pos, ◌*ℤ◌, ◌≤ℤ◌, [], ◌∷◌, arith}
use Rattle.std.proofs.lemmas.Int.{ints}
use mir.Syntax.{w128}
use Rattle.integers.proofs.UnsignedArithmetic.{limited, with_limited, amounts, amount_fits}
use Rattle.parallelogram_strip.proofs.crossing.smaller.Goals as goal

pub overflow_mul-p : goal.overflow_mul-p
overflow_mul-p c = with_limited (limited _ _ c.area.ensures.limit ∷ limited _ _ c.weight.ensures.limit ∷ []) (λ xs h a b. simp (a, b, amounts) (amount_fits xs h w128 _ tt))

pub overflow_mul-q : goal.overflow_mul-q
overflow_mul-q c = with_limited (limited _ _ c.area-2.ensures.limit ∷ limited _ _ c.weight-2.ensures.limit ∷ []) (λ xs h a b. simp (a, b, amounts) (amount_fits xs h w128 _ tt))

-- products in order are so as whole numbers
in_order : {a b c d : ℕ} {x y z w : ℤ} → pos a ≡ x → pos b ≡ y → pos c ≡ z → pos d ≡ w → a * b ≤ c * d → (x *ℤ y) ≤ℤ (z *ℤ w)
in_order {a} {b} {c} {d} {x} {y} {z} {w} ea eb ec ed h =
    subst (λ l. l ≤ℤ (z *ℤ w)) (ap₂ (λ u v. u *ℤ v) ea eb) (subst (λ r. (pos a *ℤ pos b) ≤ℤ r) (ap₂ (λ u v. u *ℤ v) ec ed) (plain h))
  where
    plain : a * b ≤ c * d → (pos a *ℤ pos b) ≤ℤ (pos c *ℤ pos d)
    plain h = omega (arith, ints)

pub returns-then-q-p-clause-not_above_a : goal.returns-then-q-p-clause-not_above_a
returns-then-q-p-clause-not_above_a c = in_order c.area-2.ensures.value c.weight-2.ensures.value c.area.ensures.value c.weight.ensures.value (omega arith)

pub returns-else-q-p-clause-not_above_b : goal.returns-else-q-p-clause-not_above_b
returns-else-q-p-clause-not_above_b c = in_order c.area.ensures.value c.weight.ensures.value c.area-2.ensures.value c.weight-2.ensures.value (omega arith)
