-- Signs: what each says of its number, and the signs of orientations.
use Rattle.std.proofs.Common.{◌≡◌, refl, sym, ◌∙◌, ap, zero, suc, ℤ, pos, negsuc, ◌-ℤ◌, ◌<ℤ◌, arith}
use Rattle.std.proofs.lemmas.Int.{ints}
use Rattle.integers.proofs.Circles.{turn_rotates, turn_swaps}
use Rattle.bounds_model.specs.Plane.{PlanePoint, turn}
use Rattle.kernel_laws.specs.declared.signs.Sign.{Sign}
use Rattle.kernel_laws.specs.declared.signs.Sign.TheVariants.{Minus, Plus}
use Rattle.kernel_laws.specs.Signs.{sign_of, opposite}

-- ---- what a sign says

-- a number with the sign `Plus` is above 0
pub plus_says : (z : ℤ) → sign_of z ≡ Plus → pos 0 <ℤ z
plus_says (pos zero) e = absurd (cc)
plus_says (pos (suc n)) e = omega (arith, ints)
plus_says (negsuc n) e = absurd (cc)

-- ---- and back

-- a number above 0 has the sign `Plus`
pub sign_is_plus : (z : ℤ) → pos 0 <ℤ z → sign_of z ≡ Plus
sign_is_plus (pos zero) h = absurd (omega (arith, ints))
sign_is_plus (pos (suc n)) h = refl
sign_is_plus (negsuc n) h = absurd (omega (arith, ints))

-- one below 0 has the sign `Minus`
pub sign_is_minus : (z : ℤ) → z <ℤ pos 0 → sign_of z ≡ Minus
sign_is_minus (pos n) h = absurd (omega (arith, ints))
sign_is_minus (negsuc n) h = refl

-- ---- laws

-- the negative of a number has the other sign
pub sign_of-negative : (z : ℤ) → sign_of (pos 0 -ℤ z) ≡ opposite (sign_of z)
sign_of-negative (pos zero) = refl
sign_of-negative (pos (suc n)) = sign_is_minus (pos 0 -ℤ pos (suc n)) (omega (arith, ints))
sign_of-negative (negsuc n) = sign_is_plus (pos 0 -ℤ negsuc n) (omega (arith, ints))

-- a turn can begin at any corner
pub sign_of-turn_rotated : (a b c : PlanePoint) → sign_of (turn b c a) ≡ sign_of (turn a b c)
sign_of-turn_rotated a b c = ap sign_of (sym (turn_rotates a.x a.y b.x b.y c.x c.y))

-- two corners exchanged turn the other way
pub sign_of-turn_swapped : (a b c : PlanePoint) → sign_of (turn a c b) ≡ opposite (sign_of (turn a b c))
sign_of-turn_swapped a b c = ap sign_of (turn_swaps a.x a.y b.x b.y c.x c.y) ∙ sign_of-negative (turn a b c)

-- ---- of code

-- the sign of a number that code computed
pub sign_by : {s : Sign} {a b : ℤ} → s ≡ sign_of a → a ≡ b → s ≡ sign_of b
sign_by h e = h ∙ ap sign_of e

-- the same by a number between
pub sign_of_middle : {s : Sign} {a b : ℤ} → s ≡ sign_of a → (m : ℤ) → a ≡ m → m ≡ b → s ≡ sign_of b
sign_of_middle h m e f = h ∙ ap sign_of (e ∙ f)
