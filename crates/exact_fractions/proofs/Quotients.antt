-- Exact quotients in signed numbers.
use Prim.Native.Nat.{◌∣◌}
use Rattle.std.proofs.Common.{◌≡◌, ◌∙◌, ap, ℕ, zero, suc, ◌*◌, ◌/◌, ◌<◌, ℤ, pos, negsuc, ◌+ℤ◌, ◌*ℤ◌, neg_ℤ, nat_abs, arith}
use Rattle.std.specs.Prelude.{int_div, int_rem}
use Rattle.std.proofs.lemmas.Int.{ints, quot-rem}
use Rattle.std.proofs.Math.IntN.{*ℤ_comm}
use Rattle.std.proofs.Math.Nat.{mul-div_cancel'}
use Rattle.std.proofs.lemmas.Nat.Gcd.{mod-eq-zero_of_dvd}

no_rest : (n : ℤ) (d : ℕ) → d ∣ nat_abs n → int_rem n (pos d) ≡ pos 0
no_rest (pos a) d h = ap (λ r. pos r) (mod-eq-zero_of_dvd d h)
no_rest (negsuc a) d h = ap (λ r. neg_ℤ (pos r)) (mod-eq-zero_of_dvd d h)

-- a divisor times the quotient is the number
pub mul-int_div : (n : ℤ) (d : ℕ) → d ∣ nat_abs n → pos d *ℤ int_div n (pos d) ≡ n
mul-int_div n d h =
    let whole : int_div n (pos d) *ℤ pos d +ℤ int_rem n (pos d) ≡ n = quot-rem n (pos d) in
    let rest : int_rem n (pos d) ≡ pos 0 = no_rest n d h in
    *ℤ_comm (pos d) (int_div n (pos d)) ∙ omega (arith, ints)

-- a divisor of a number above 0 is above 0
pub divisor_positive : (d n : ℕ) → d ∣ n → 0 < n → 0 < d
divisor_positive zero n h p = let none : 0 * (n / 0) ≡ n = mul-div_cancel' 0 h in absurd (omega arith)
divisor_positive (suc d) n h p = omega arith
