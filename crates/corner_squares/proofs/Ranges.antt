-- The numbers of the answer are in their ranges, and are kept as they are computed.
use Rattle.std.proofs.Common.{◌≡◌, ◌⊎◌, ◌∷◌, [], ℕ, ◌/◌, ◌%◌, ◌==◌, ◌≤◌, Bool, true, false, ℤ, pos, ◌+ℤ◌, ◌*ℤ◌, ◌≤ℤ◌, negsuc, nat_abs, neg_ℤ, inl, inr, refl, sym, ap, subst, ◌∙◌, arith}
use Rattle.std.specs.Prelude.{if◌then◌else◌}
use Rattle.std.proofs.lemmas.Int.{ints}
use Rattle.std.proofs.lemmas.Bool.Decides.{nat_tests}
use Rattle.std.proofs.Math.Nat.{eq-one_of_dvd-one}
use Rattle.bounds_model.specs.Fractions.{Fraction, HaveNoCommonFactor}
use Rattle.bounds_model.specs.Numbers.{IsWithin}
use Rattle.bounds_model.specs.Plane.{PlaneRatio}
use Rattle.bounds_model.specs.Ranges.{IsPlaneRatio}
use Rattle.bounds_model.specs.CentresAnswer.{IsCentreWithinLimits}
use Rattle.corner_squares.specs.declared.square.Square.{Square}
use Rattle.corner_squares.specs.Covers.{IsPlaced}
use Rattle.corner_squares.specs.AnswerSquares.{half_of, centre_of}
use Rattle.corner_squares.proofs.Halves.{divides_two}
use Rattle.bounded_coords.proofs.Ranges.{within_more}

-- ---- the centre

-- an even number and an odd one are together odd
odd_sum : (x : ℤ) (n : ℕ) → n % 2 ≡ 1 → nat_abs ((x *ℤ pos 2) +ℤ pos n) % 2 ≡ 1
odd_sum x n odd = by_sign ((x *ℤ pos 2) +ℤ pos n) refl
  where
    by_sign : (z : ℤ) → (x *ℤ pos 2) +ℤ pos n ≡ z → nat_abs z % 2 ≡ 1
    by_sign (pos a) e = omega (arith, ints, e, odd)
    by_sign (negsuc a) e = omega (arith, ints, e, odd)

-- the middle of a square that reaches into the bounds of points is near, as a whole number
whole_middle : (low : ℤ) (side : ℕ) → low ≤ℤ pos 200000 → neg_ℤ (pos 200000) ≤ℤ (low +ℤ pos side) → side ≤ 400000 → IsWithin 1000000 ((low *ℤ pos 1) +ℤ pos (side / 2))
whole_middle low side below above most = record { low = omega (arith, ints, below, above, most); high = omega (arith, ints, below, above, most) }

-- and as twice a half one
half_middle : (low : ℤ) (side : ℕ) → low ≤ℤ pos 200000 → neg_ℤ (pos 200000) ≤ℤ (low +ℤ pos side) → side ≤ 400000 → IsWithin 1000000 ((low *ℤ pos 2) +ℤ pos side)
half_middle low side below above most = record { low = omega (arith, ints, below, above, most); high = omega (arith, ints, below, above, most) }

-- a centre over 1 or 2, near and in lowest terms, is in its range
good : (c : PlaneRatio) → (c.w ≡ pos 1) ⊎ (c.w ≡ pos 2) → IsWithin 1000000 c.x → IsWithin 1000000 c.y → HaveNoCommonFactor (c.x ∷ c.y ∷ c.w ∷ []) → IsCentreWithinLimits c × IsPlaneRatio c
good c halves x y lowest =
    let w = small c.w halves in (
      record { halves = halves; x = x; y = y },
      record { x = within_more x tt; y = within_more y tt; w = within_more {m = 2} w.0 tt; denominator = w.1; lowest = lowest },
    )
  where
    small : (w : ℤ) → (w ≡ pos 1) ⊎ (w ≡ pos 2) → IsWithin 2 w × (pos 1 ≤ℤ w)
    small w (inl e) = (record { low = omega (arith, ints, e); high = omega (arith, ints, e) }, omega (arith, ints, e))
    small w (inr e) = (record { low = omega (arith, ints, e); high = omega (arith, ints, e) }, omega (arith, ints, e))

-- the centre of the square is near, and in lowest terms
centre_good : (side : ℕ) (square : Square) → IsPlaced side square → side ≤ 400000 → IsCentreWithinLimits (centre_of square (half_of side)) × IsPlaneRatio (centre_of square (half_of side))
centre_good side square placed most = by_parity (side % 2 == 0) refl
  where
    by_parity : (b : Bool) → (side % 2 == 0) ≡ b
        → let centre : PlaneRatio = centre_of square (if b then record { n = pos (side / 2); d = pos 1 } else record { n = pos side; d = pos 2 }) in IsCentreWithinLimits centre × IsPlaneRatio centre
    by_parity true e =
        good _ (inl refl) (whole_middle square.left side placed.left placed.right most) (whole_middle square.bottom side placed.bottom placed.top most) (λ k h. eq-one_of_dvd-one (h 2 (pos 1) (omega arith)))
    by_parity false e =
        let odd : side % 2 ≡ 1 = grind (arith, nat_tests, e) in
        good _ (inr refl) (half_middle square.left side placed.left placed.right most) (half_middle square.bottom side placed.bottom placed.top most)
        (λ k h. divides_two k _ (odd_sum square.left side odd) (h 0 (pos 0) (omega arith)) (h 2 (pos 2) (omega arith)))

-- it is near
pub centre_near : (side : ℕ) (square : Square) → IsPlaced side square → side ≤ 400000 → IsCentreWithinLimits (centre_of square (half_of side))
centre_near side square placed most = (centre_good side square placed most).0

-- it is in its range
pub centre_in_range : (side : ℕ) (square : Square) → IsPlaced side square → side ≤ 400000 → IsPlaneRatio (centre_of square (half_of side))
centre_in_range side square placed most = (centre_good side square placed most).1

-- ---- what is computed

-- a fraction by its numbers
abbrev pub fraction_at : ℕ → ℕ → Fraction
fraction_at n d = record { n = pos n; d = pos d }

-- a point by its numbers
abbrev pub ratio_at : ℤ → ℤ → ℤ → PlaneRatio
ratio_at x y w = record { x = x; y = y; w = w }

-- the centre over the radius that was halved
pub centre_given : (side : ℕ) (square : Square) (n d : ℕ) (x y w : ℤ) → fraction_at n d ≡ half_of side → x ≡ ((square.left *ℤ pos d) +ℤ pos n) → y ≡ ((square.bottom *ℤ pos d) +ℤ pos n) → w ≡ pos d
    → ratio_at x y w ≡ centre_of square (half_of side)
centre_given side square n d x y w half is_x is_y is_w =
    let given : ratio_at x y w ≡ centre_of square (fraction_at n d) = cc in
    given ∙ ap (λ r. centre_of square r) half

-- a number that is in its range
pub place_x : (side : ℕ) (square : Square) (x y w : ℤ) → IsPlaced side square → side ≤ 400000 → ratio_at x y w ≡ centre_of square (half_of side) → IsPlaneRatio (ratio_at x y w)
place_x side square x y w placed most is = subst IsPlaneRatio (sym is) (centre_in_range side square placed most)
