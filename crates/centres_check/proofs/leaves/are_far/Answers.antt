use Rattle.std.proofs.Common.{◌≡◌, ◌∙◌, ap₂, ℕ, ℤ, nat_abs, ◌-ℤ◌, rules, to_z, of_z, w32}
use Rattle.integers.proofs.Sizes.{size_between, wrap_is_in}
use Rattle.bounds_model.specs.Numbers.{IsWithin}
use Rattle.centres_check.proofs.leaves.are_far.Goals as goal

-- a coordinate as the machine has it
kept : {r z : ℤ} → r ≡ z → IsWithin 200000 r → to_z w32 (of_z w32 r) ≡ z
kept {r} e h = wrap_is_in w32 (size_between h.low h.high) tt ∙ e

apart : {n : ℕ} {r s a b : ℤ} → n ≡ nat_abs (to_z w32 (of_z w32 r) -ℤ to_z w32 (of_z w32 s)) → r ≡ a → s ≡ b → IsWithin 200000 r → IsWithin 200000 s → n ≡ nat_abs (a -ℤ b)
apart is e f h k = is ∙ ap₂ (λ v w. nat_abs (v -ℤ w)) (kept e h) (kept f k)

pub returns-then-abs_diff-side : goal.returns-then-abs_diff-side
returns-then-abs_diff-side c =
    let x = apart c.abs_diff.ensures c.x.ensures.value c.x-2.ensures.value c.x.ensures.bounds c.x-2.ensures.bounds in
    search rules

pub returns-else-abs_diff-side : goal.returns-else-abs_diff-side
returns-else-abs_diff-side c =
    let x = apart c.abs_diff.ensures c.x.ensures.value c.x-2.ensures.value c.x.ensures.bounds c.x-2.ensures.bounds in
    let y = apart c.abs_diff-else-abs_diff-side.ensures c.y.ensures.value c.y-else-abs_diff-side.ensures.value c.y.ensures.bounds c.y-else-abs_diff-side.ensures.bounds in
    search rules
