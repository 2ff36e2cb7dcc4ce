use Rattle.std.proofs.Common.{◌≡◌, subst, ℕ, ℤ, [], ◌∷◌, nat_abs, FitsSigned, to_z-of_z, rules}
use Prim.Native.Nat.{◌∣◌}
use mir.Syntax.{w128}
use Rattle.std.proofs.Math.Nat.{eq-one_of_dvd-one}
use Rattle.std.proofs.lemmas.Bool.Decides.{Decides-eqb}
use Rattle.std.proofs.lemmas.List.Elements.{All-nil, All-cons, All-head, All-tail}
use Rattle.std.proofs.lemmas.Nat.Gcd.{same_from_IsGcd}
use Rattle.std.specs.Int.{IsGcd}
use Rattle.integers.proofs.Divisors.{IsGcd-one}
use Rattle.bounds_model.specs.Fractions.{HaveNoCommonFactor}
use Rattle.fan_checks.proofs.spans.is_lowest.Goals as goal

-- two entries have no common factor exactly where their greatest common divisor is 1
lowest_is : (x y : ℤ) (g : ℕ) → IsGcd (nat_abs x) (nat_abs y) g → (g ≡ 1 → HaveNoCommonFactor (x ∷ y ∷ [])) × (HaveNoCommonFactor (x ∷ y ∷ []) → g ≡ 1)
lowest_is x y g h = (
  λ e k all. eq-one_of_dvd-one (subst (λ n. k ∣ n) e (h.2 k (All-head (λ z. k ∣ nat_abs z) x (y ∷ []) all) (All-head (λ z. k ∣ nat_abs z) y [] (All-tail (λ z. k ∣ nat_abs z) x (y ∷ []) all)))),
  λ none. same_from_IsGcd (nat_abs x) (nat_abs y) g 1 h (IsGcd-one (nat_abs x) (nat_abs y) (λ k p q. none k (All-cons (λ z. k ∣ nat_abs z) x (y ∷ []) p (All-cons (λ z. k ∣ nat_abs z) y [] q (All-nil (λ z. k ∣ nat_abs z)))))),
)

pub returns : goal.returns
returns c =
    let fits : FitsSigned w128 c.args.d.x = search rules in
    let fits_y : FitsSigned w128 c.args.d.y = search rules in
    let x : c.unsigned_abs.result ≡ nat_abs c.args.d.x = simp to_z-of_z at c.unsigned_abs.ensures.value in
    let y : c.unsigned_abs-2.result ≡ nat_abs c.args.d.y = simp to_z-of_z at c.unsigned_abs-2.ensures.value in
    let law = lowest_is c.args.d.x c.args.d.y c.gcd.result (subst (λ a. IsGcd a (nat_abs c.args.d.y) c.gcd.result) x (subst (λ b. IsGcd c.unsigned_abs.result b c.gcd.result) y c.gcd.ensures)) in
    let test = Decides-eqb c.gcd.result 1 in
    (λ same. law.0 (test.0 same), λ none. test.1 (law.1 none))
