use Rattle.std.proofs.Common.{◌≡◌, ap, ◌∙◌, ◌↔◌, ◌≤◌, ℕ, ℤ, pos, ◌≤ℤ◌, List, All, IsTrue, Bool, w64, arith}
use Rattle.std.specs.Prelude.{nat_abs}
use Rattle.std.proofs.lemmas.Int.{ints}
use Rattle.std.proofs.lemmas.List.Elements.{All-weaker}
use Rattle.integers.proofs.Sizes.{wrap_is_in}
use Rattle.polygon_check.proofs.polygons.are_under.Goals as goal

-- at most a number is at most its magnitude
under : {yes : Bool} {m : ℕ} (us : List ℕ) (a : ℤ) → pos 0 ≤ℤ a → m ≡ nat_abs a → (IsTrue yes ↔ All (λ u. u ≤ m) us) → IsTrue yes ↔ All (λ u. pos u ≤ℤ a) us
under {yes} {m} us a h e t = (λ y. All-weaker (λ u. u ≤ m) (λ u. pos u ≤ℤ a) (λ u k. up u k) us (t.0 y), λ all. t.1 (All-weaker (λ u. pos u ≤ℤ a) (λ u. u ≤ m) (λ u k. down u k) us all))
  where
    up : (u : ℕ) → u ≤ m → pos u ≤ℤ a
    up u k = omega (arith, ints)

    down : (u : ℕ) → pos u ≤ℤ a → u ≤ m
    down u k = omega (arith, ints)

pub returns : goal.returns
returns c = under c.args.potentials.now c.args.area c.requires.not_negative (c.from-most.ensures ∙ c.unsigned_abs.ensures.value ∙ ap nat_abs (wrap_is_in w64 c.requires.small tt)) c.are_at_most.ensures
