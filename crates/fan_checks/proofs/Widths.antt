-- Bounds on what is computed of a fan and a size.
use Rattle.std.proofs.Common.{◌≡◌, ◌↔◌, refl, subst, ap₂, ℕ, ◌*◌, ◌^◌, ◌≤◌, ℤ, pos, nat_abs, neg_ℤ, ◌*ℤ◌, ◌≤ℤ◌, ◌<ℤ◌, [], ◌∷◌, arith, ◌<◌}
use Rattle.std.proofs.Math.Nat.{mul-le-mul}
use Rattle.std.proofs.lemmas.Int.{ints}
use Rattle.integers.proofs.Identities.{den-ring, read, polys}
use Rattle.integers.proofs.Order.{nonneg_mul, positive_mul, positive_from_one, nonneg_from_one}
use Rattle.directions.proofs.Signs.{magnitude_of}

-- a number that is read as a magnitude is within the magnitude's bound
pub read_within : {w a b : ℕ} (z : ℤ) → w ≡ a → a ≡ nat_abs z → nat_abs z ≤ b → w ≤ b
read_within z h k l = omega (arith, h, k, l)

-- a number that stands for one within a bound is within it
pub stands_within : {n b : ℕ} {z : ℤ} → pos n ≡ z → z ≤ℤ pos b → n ≤ b
stands_within h k = omega (arith, ints)

-- a numerator of at most the square of a width of at most 2^41
pub square_within : {w : ℕ} {n : ℤ} (z : ℤ) → w ≡ nat_abs z → nat_abs z ≤ 2 ^ 41 → n ≤ℤ pos (w * w) → n ≤ℤ pos (2 ^ 82)
square_within {w} z is low h = let within : w ≤ 2 ^ 41 = omega (arith, is, low) in square (mul-le-mul within within) h
  where
    square : {s : ℕ} {n : ℤ} → s ≤ 2 ^ 41 * 2 ^ 41 → n ≤ℤ pos s → n ≤ℤ pos (2 ^ 82)
    square h k = omega (arith, ints)

-- a product below 0 is no numerator
pub no_value : {n d e : ℤ} (p : ℤ) → pos 0 ≤ℤ n → pos 1 ≤ℤ d → pos 1 ≤ℤ e → p <ℤ pos 0 → n *ℤ e ≡ p *ℤ d → ⊥
no_value {n} {d} {e} p low some more below same =
    contrary (nonneg_mul low (nonneg_from_one more)) (negative p d below some) same
  where
    negative : (p d : ℤ) → p <ℤ pos 0 → pos 1 ≤ℤ d → (p *ℤ d) <ℤ pos 0
    negative p d h k = turned_back (positive_mul (turned h) (positive_from_one k)) (is p d)
      where
        turned : {z : ℤ} → z <ℤ pos 0 → pos 0 <ℤ neg_ℤ z
        turned h = omega (arith, ints)

        is : (p d : ℤ) → p *ℤ d ≡ neg_ℤ (neg_ℤ p *ℤ d)
        is p d = read (p ∷ d ∷ []) (λ xs a b. simp (a, b, polys) (den-ring xs _ _ tt))

        turned_back : {a b : ℤ} → pos 0 <ℤ b → a ≡ neg_ℤ b → a <ℤ pos 0
        turned_back h e = omega (arith, ints)

    contrary : {a b : ℤ} → pos 0 ≤ℤ a → b <ℤ pos 0 → a ≡ b → ⊥
    contrary h k e = omega (arith, ints)

-- a magnitude of a number that is not below 0 is the number
pub magnitude_is : {n : ℕ} (z : ℤ) → n ≡ nat_abs z → pos 0 ≤ℤ z → pos n ≡ z
magnitude_is z h p = magnitude_of h refl p

-- an order of products, of numbers that stand for others
pub ordered : {n l a b d : ℕ} {n' l' a' b' d' : ℤ} → pos n ≡ n' → pos l ≡ l' → pos a ≡ a' → pos b ≡ b' → pos d ≡ d' → ((n * l) ≤ (a * b * d)) ↔ ((n' *ℤ l') ≤ℤ (a' *ℤ b' *ℤ d'))
ordered {n} {l} {a} {b} {d} {n'} {l'} {a'} {b'} {d'} en el ea eb ed =
    subst (λ z. ((n * l) ≤ (a * b * d)) ↔ (z ≤ℤ (a' *ℤ b' *ℤ d'))) (ap₂ (λ x y. x *ℤ y) en el)
    (subst (λ z. ((n * l) ≤ (a * b * d)) ↔ ((pos n *ℤ pos l) ≤ℤ z)) (ap₂ (λ x y. x *ℤ y) (ap₂ (λ x y. x *ℤ y) ea eb) ed) (plain n l a b d))
  where
    plain : (n l a b d : ℕ) → ((n * l) ≤ (a * b * d)) ↔ ((pos n *ℤ pos l) ≤ℤ (pos a *ℤ pos b *ℤ pos d))
    plain n l a b d = (λ h. omega (arith, ints), λ h. omega (arith, ints))

-- the same for one below the other
pub ordered_above : {n l a b d : ℕ} {n' l' a' b' d' : ℤ} → pos n ≡ n' → pos l ≡ l' → pos a ≡ a' → pos b ≡ b' → pos d ≡ d' → ((n * l) < (a * b * d)) ↔ ((n' *ℤ l') <ℤ (a' *ℤ b' *ℤ d'))
ordered_above {n} {l} {a} {b} {d} {n'} {l'} {a'} {b'} {d'} en el ea eb ed =
    subst (λ z. ((n * l) < (a * b * d)) ↔ (z <ℤ (a' *ℤ b' *ℤ d'))) (ap₂ (λ x y. x *ℤ y) en el)
    (subst (λ z. ((n * l) < (a * b * d)) ↔ ((pos n *ℤ pos l) <ℤ z)) (ap₂ (λ x y. x *ℤ y) (ap₂ (λ x y. x *ℤ y) ea eb) ed) (plain n l a b d))
  where
    plain : (n l a b d : ℕ) → ((n * l) < (a * b * d)) ↔ ((pos n *ℤ pos l) <ℤ (pos a *ℤ pos b *ℤ pos d))
    plain n l a b d = (λ h. omega (arith, ints), λ h. omega (arith, ints))
