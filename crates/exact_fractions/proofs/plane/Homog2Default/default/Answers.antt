use Prim.Native.Nat.{◌∣◌}
use Rattle.std.proofs.Common.{pos, [], ◌∷◌, nat_abs, rules}
use Rattle.std.proofs.Math.Nat.{eq-one_of_dvd-one}
use Rattle.std.proofs.lemmas.List.Elements.{All-head, All-tail}
use Rattle.exact_fractions.proofs.plane.Homog2Default.default.Goals as goal

pub invariant_of-result : goal.invariant_of-result
invariant_of-result c = record {
  x = search rules;
  y = search rules;
  w = search rules;
  denominator = search rules;
  lowest = λ k h. eq-one_of_dvd-one (All-head (λ e. k ∣ nat_abs e) (pos 1) [] (All-tail (λ e. k ∣ nat_abs e) (pos 0) (pos 1 ∷ []) (All-tail (λ e. k ∣ nat_abs e) (pos 0) (pos 0 ∷ pos 1 ∷ []) h)));
}
