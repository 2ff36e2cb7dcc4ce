-- Half a side is a fraction in lowest terms.
use Prim.Native.Nat.{◌∣◌}
use Rattle.std.proofs.Common.{◌≡◌, ◌⊎◌, ℕ, ◌/◌, ◌%◌, ◌==◌, ◌≤◌, Bool, true, false, [], ◌∷◌, ℤ, pos, ◌*ℤ◌, nat_abs, All, inl, inr, refl, sym, subst, arith}
use Rattle.std.specs.Prelude.{if◌then◌else◌}
use Rattle.std.specs.Int.{IsGcd}
use Rattle.std.proofs.lemmas.Nat.Gcd.{IsGcd-from_zero, IsGcd-from_mod}
use Rattle.integers.proofs.Divisors.{one_from_IsGcd}
use Rattle.std.proofs.lemmas.Int.{ints}
use Rattle.std.proofs.lemmas.Bool.Decides.{nat_tests}
use Rattle.std.proofs.Math.Nat.{eq-one_of_dvd-one}
use Rattle.bounds_model.specs.Fractions.{Fraction, IsLowest}
use Rattle.bounds_model.specs.Numbers.{IsWithin}
use Rattle.bounds_model.specs.Ranges.{IsFraction}
use Rattle.bounds_model.specs.CentresAnswer as model
use Rattle.corner_squares.specs.AnswerSquares.{half_of}
use Rattle.bounded_coords.proofs.Ranges.{within_more}

divides_one : (k : ℕ) (n : ℤ) → All (λ e. k ∣ nat_abs e) (n ∷ pos 1 ∷ []) → k ≡ 1
divides_one k n h = eq-one_of_dvd-one (h 1 (pos 1) (omega arith))

-- an odd number and 2 have no common factor
pub divides_two : (k n : ℕ) → n % 2 ≡ 1 → k ∣ n → k ∣ 2 → k ≡ 1
divides_two k n odd in_n in_two =
    one_from_IsGcd n 2 (IsGcd-from_mod n 2 1 (subst (λ r. IsGcd 2 r 1) (sym odd) (IsGcd-from_mod 2 1 1 (IsGcd-from_zero 1 0 refl)))) k in_n in_two

pub IsLowest-half : (side : ℕ) → IsLowest (half_of side)
IsLowest-half side = by_parity (side % 2 == 0) refl
  where
    by_parity : (b : Bool) → (side % 2 == 0) ≡ b → IsLowest (if b then record { n = pos (side / 2); d = pos 1 } else record { n = pos side; d = pos 2 })
    by_parity true e = record { not_negative = record { numerator = omega (arith, ints); denominator = omega (arith, ints) }; lowest = λ k h. divides_one k (pos (side / 2)) h }
    by_parity false e =
        let odd : side % 2 ≡ 1 = grind (arith, nat_tests, e) in
        record { not_negative = record { numerator = omega (arith, ints); denominator = omega (arith, ints) }; lowest = λ k h. divides_two k side odd (h 0 (pos side) (omega arith)) (h 1 (pos 2) (omega arith)) }

-- twice the half is the side
pub half-twice : (side : ℕ) → pos side *ℤ (half_of side).d ≡ pos 2 *ℤ (half_of side).n
half-twice side = by_parity (side % 2 == 0) refl
  where
    by_parity : (b : Bool) → (side % 2 == 0) ≡ b → let half : Fraction = (if b then record { n = pos (side / 2); d = pos 1 } else record { n = pos side; d = pos 2 }) in pos side *ℤ half.d ≡ pos 2 *ℤ half.n
    by_parity true e =
        let even : side % 2 ≡ 0 = grind (arith, nat_tests, e) in
        omega (arith, ints)
    by_parity false e = omega (arith, ints)

-- half a side has the denominator 1 or 2
pub half-denominator : (side : ℕ) → ((half_of side).d ≡ pos 1) ⊎ ((half_of side).d ≡ pos 2)
half-denominator side = by_parity (side % 2 == 0)
  where
    by_parity : (b : Bool) → let half : Fraction = (if b then record { n = pos (side / 2); d = pos 1 } else record { n = pos side; d = pos 2 }) in (half.d ≡ pos 1) ⊎ (half.d ≡ pos 2)
    by_parity true = inl refl
    by_parity false = inr refl

-- the side of a square with half this side as its radius
pub side-half : (side : ℕ) → model.side (half_of side) ≡ side
side-half side = by_parity (side % 2 == 0) refl
  where
    by_parity : (b : Bool) → (side % 2 == 0) ≡ b → model.side (if b then record { n = pos (side / 2); d = pos 1 } else record { n = pos side; d = pos 2 }) ≡ side
    by_parity true e =
        let even : side % 2 ≡ 0 = grind (arith, nat_tests, e) in
        omega arith
    by_parity false e = omega arith

-- half a side of at most 400000 has numbers of at most 400000 and 2
pub half-numbers : (side : ℕ) → side ≤ 400000 → IsWithin 400000 (half_of side).n × IsWithin 2 (half_of side).d
half-numbers side most = by_parity (side % 2 == 0)
  where
    by_parity : (b : Bool) → let half : Fraction = (if b then record { n = pos (side / 2); d = pos 1 } else record { n = pos side; d = pos 2 }) in IsWithin 400000 half.n × IsWithin 2 half.d
    by_parity true = (record { low = omega (arith, ints); high = omega (arith, ints) }, record { low = omega (arith, ints); high = omega (arith, ints) })
    by_parity false = (record { low = omega (arith, ints); high = omega (arith, ints) }, record { low = omega (arith, ints); high = omega (arith, ints) })

-- and is in its range
pub fraction_in_range : (side : ℕ) → side ≤ 400000 → IsFraction (half_of side)
fraction_in_range side most = record { numerator = within_more (half-numbers side most).0 tt; denominator = within_more (half-numbers side most).1 tt; lowest = IsLowest-half side }
