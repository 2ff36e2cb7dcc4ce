use Rattle.std.proofs.Common.{◌≡◌, ◌∙◌, sym, ap, ◌*◌, ◌^◌, ℕ, arith}
use Rattle.std.proofs.Math.Nat.{pow-zero, pow-suc}
use Rattle.witness_format.proofs.head.size_units.Goals as goal

-- a first power
first_power : (n : ℕ) → n ^ 1 ≡ n
first_power n = pow-suc n 0 ∙ ap (λ k. k * n) (pow-zero n) ∙ times_one
  where
    times_one : 1 * n ≡ n
    times_one = omega arith

pub returns-in-Centres-clause-units : goal.returns-in-Centres-clause-units
returns-in-Centres-clause-units c = rw c.in-Centres.is (sym (first_power c.args.scale))

pub returns-in-Four-clause-units : goal.returns-in-Four-clause-units
returns-in-Four-clause-units c = rw c.in-Four.is (sym (first_power c.args.scale))
