use Rattle.std.proofs.Common.{◌≡◌, subst, ◌⊎◌, inl, inr, ℤ, ℕ, pos, ◌≤ℤ◌, arith}
use Rattle.std.proofs.lemmas.Int.{ints}
use Rattle.integers.specs.Size.{Size}
use Rattle.integers.proofs.Sizes.{size_more, size_between}
use Rattle.bounds_model.specs.Numbers.{IsWithin}
use Rattle.integers.proofs.Narrowing.{narrowed, narrowed_unsigned, widened, product64, reaches}
use Rattle.centres_check.proofs.cover.is_near.Goals as goal

one_or_two : {z : ℤ} → (z ≡ pos 1) ⊎ (z ≡ pos 2) → Size 2 z
one_or_two {z} (inl e) = record { abs = omega (arith, ints) }
one_or_two {z} (inr e) = record { abs = omega (arith, ints) }

within : {n : ℕ} {z r : ℤ} → r ≡ z → IsWithin n r → Size n z
within {n} {z} {r} e h = subst (Size n) e (size_between h.low h.high)

numerator : {m n : ℕ} {z : ℤ} → pos n ≡ z → z ≤ℤ pos m → Size m z
numerator {m} {n} {z} e h = record { abs = omega (arith, ints) }

pub returns-then-is_within_radius : goal.returns-then-is_within_radius
returns-then-is_within_radius c =
    let w = one_or_two c.requires.centre.near.halves in
    let d = one_or_two c.requires.radius.halves in
    let n = numerator c.num.ensures.value c.requires.radius.limit in
    let width = narrowed c.w.ensures.value (size_more w tt) in
    let below = narrowed_unsigned c.den.ensures.value (size_more d tt) in
    let across = product64 (narrowed_unsigned c.num.ensures.value n) width n w in
    let in_x = reaches width (widened c.from.ensures c.x.ensures.value (within c.x.ensures.value c.x.ensures.bounds)) (narrowed c.x-2.ensures.value (size_between c.requires.centre.near.x.low c.requires.centre.near.x.high)) below across c.is_within_radius.ensures in
    let in_y = reaches width (widened c.from-then-is_within_radius.ensures c.y.ensures.value (within c.y.ensures.value c.y.ensures.bounds)) (narrowed c.y-then-is_within_radius.ensures.value (size_between c.requires.centre.near.y.low c.requires.centre.near.y.high)) below across c.is_within_radius-then-is_within_radius.ensures in
    (λ yes. record { in_x = in_x.0 c.if-is_within_radius.true; in_y = in_y.0 yes }, λ near. in_y.1 near.in_y)

pub returns-else-is_within_radius : goal.returns-else-is_within_radius
returns-else-is_within_radius c =
    let w = one_or_two c.requires.centre.near.halves in
    let d = one_or_two c.requires.radius.halves in
    let n = numerator c.num.ensures.value c.requires.radius.limit in
    let width = narrowed c.w.ensures.value (size_more w tt) in
    let below = narrowed_unsigned c.den.ensures.value (size_more d tt) in
    let across = product64 (narrowed_unsigned c.num.ensures.value n) width n w in
    let in_x = reaches width (widened c.from.ensures c.x.ensures.value (within c.x.ensures.value c.x.ensures.bounds)) (narrowed c.x-2.ensures.value (size_between c.requires.centre.near.x.low c.requires.centre.near.x.high)) below across c.is_within_radius.ensures in
    (λ yes. absurd (cc (yes, c.if-is_within_radius.false)), λ near. in_x.1 near.in_x)
