use Prim.Native.Nat.{◌∣◌}
use Rattle.std.specs.Prelude.{ℕ, take, All}
use Rattle.pair_weights.proofs.lowest_terms.common_factor.Given as goal

abbrev pub invariant-loop-pair : goal.invariant-loop-pair
invariant-loop-pair l = record {
  divides : All (λ pair. l.factor ∣ pair.weight) (take l.pair-index l.pairs);
  greatest : (k : ℕ) → All (λ pair. k ∣ pair.weight) l.pairs → k ∣ l.factor;
}
