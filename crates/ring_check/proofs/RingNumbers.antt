-- Machine numbers of the checkers of annuli and shells, and what they mean.
use Rattle.std.proofs.Common.{◌≡◌, ◌↔◌, sym, subst, ap, ap₂, ◌∙◌, inl, inr, ℕ, ◌+◌, ◌*◌, ◌≤◌, ◌^◌, ℤ, pos, ◌+ℤ◌, ◌-ℤ◌, ◌*ℤ◌, ◌≤ℤ◌, nat_abs, arith, Bool, false, not, IsTrue, to_z, of_z, to_z-of_z, SFits}
use Rattle.std.specs.Int.{int_max, int_min}
use Rattle.std.specs.Int.Signed.{lt_z, lt_z_no, yes_non_neg, pos-nat_abs}
use Rattle.std.proofs.lemmas.Float.{T_from_true}
use Rattle.std.proofs.lemmas.Int.{ints, to_z_pos}
use mir.Syntax.{w128}
use Rattle.integers.specs.Size.{Size}
use Rattle.integers.proofs.Sizes.{size_add, size_mul, size_sub, size_between, size_unsigned, wrap_is}
use Rattle.integers.proofs.MaxMin.{pick_max, pick_min}
use Rattle.bounds_model.specs.Space.{SpacePoint, SpaceRatio}
use Rattle.bounds_model.specs.Fractions.{Fraction, SameValue}
use Rattle.bounds_model.specs.Ranges.{IsFraction}
use Rattle.bounds_model.specs.ShellAnswer.{power, squared_radius_at}
use Rattle.kernel_laws.specs.Limits.{IsVectorWithin}
use Rattle.ring_check.specs.Rings.{IsWithinLimits, IsCentre, HasLevelSize, HasValue, square_limit, pair_limit}

-- ---- sizes

-- a squared length
pub square_size : {z : ℤ} → pos 0 ≤ℤ z → z ≤ℤ pos square_limit → Size square_limit z
square_size h k = record { abs = omega (arith, ints) }

-- and the difference of two
pub squares_apart : {y z : ℤ} → pos 0 ≤ℤ y → y ≤ℤ pos square_limit → pos 0 ≤ℤ z → z ≤ℤ pos square_limit → Size square_limit (y -ℤ z)
squares_apart h k l m = record { abs = omega (arith, ints) }

-- the difference of two coordinates
pub coordinates_apart : {y z : ℤ} → Size 200000 y → Size 200000 z → Size square_limit (y -ℤ z)
coordinates_apart h k = let d = size_sub h k in record { abs = omega (arith, d.abs) }

-- a sum over pairs, with one pair more
pub sum_size : (i w : ℕ) {s d : ℤ} → Size (i * pair_limit) s → w ≤ 2 ^ 50 → Size square_limit d → Size ((i + 1) * pair_limit) (s +ℤ pos w *ℤ d)
sum_size i w h k l = let a = size_add h (size_mul (size_unsigned w k) l) in record { abs = omega (arith, a.abs) }

-- the greater of two
pub size_max : {n : ℕ} {a b : ℤ} → Size n a → Size n b → Size n (int_max a b)
size_max {n} {a} {b} h k = elim (pick_max a b) [ inl e ↦ subst (Size n) (sym e) h | inr e ↦ subst (Size n) (sym e) k ]

-- the smaller of two
pub size_min : {n : ℕ} {a b : ℤ} → Size n a → Size n b → Size n (int_min a b)
size_min {n} {a} {b} h k = elim (pick_min a b) [ inl e ↦ subst (Size n) (sym e) h | inr e ↦ subst (Size n) (sym e) k ]

-- the level of a point
pub level_size : (c : SpaceRatio) (p : SpacePoint) → IsVectorWithin 200000 p → HasLevelSize c (power c p)
level_size c p point limit centre =
    let square = size_mul centre.w (size_add (size_add (size_mul point.x point.x) (size_mul point.y point.y)) (size_mul point.z point.z)) in
    let across = size_add (size_add (size_mul centre.x point.x) (size_mul centre.y point.y)) (size_mul centre.z point.z) in
    let all = size_sub square (size_mul (size_unsigned 2 two) across) in
    record { abs = within limit all.abs }
  where
    two : 2 ≤ 2
    two = omega arith

    within : {n : ℕ} (l : ℕ) → n ≤ l * (200000 * 200000 + 200000 * 200000 + 200000 * 200000) + 2 * (l * 2 ^ 16 * 200000 + l * 2 ^ 16 * 200000 + l * 2 ^ 16 * 200000) → n ≤ l * 2 ^ 38
    within l h = omega arith

-- a centre within the limits of shells
pub space_centre : (c : SpaceRatio) → pos 1 ≤ℤ c.w → IsWithinLimits (2 ^ 50) (2 ^ 66) c → IsCentre (2 ^ 50) c
space_centre c some h = record { x = size_between h.x.low h.x.high; y = size_between h.y.low h.y.high; z = size_between h.z.low h.z.high; w = size_between h.w.low h.w.high; some = some }

-- within those of annuli
pub plane_centre : (c : SpaceRatio) → pos 1 ≤ℤ c.w → IsWithinLimits (2 ^ 42) (2 ^ 58) c → IsCentre (2 ^ 42) c
plane_centre c some h = record { x = size_between h.x.low h.x.high; y = size_between h.y.low h.y.high; z = size_between h.z.low h.z.high; w = size_between h.w.low h.w.high; some = some }

-- which are within those of shells
pub wider_centre : (c : SpaceRatio) → IsCentre (2 ^ 42) c → IsCentre (2 ^ 50) c
wider_centre c h = record { x = more h.x; y = more h.y; z = more h.z; w = more_w h.w; some = h.some }
  where
    more : {z : ℤ} → Size (2 ^ 42 * 2 ^ 16) z → Size (2 ^ 50 * 2 ^ 16) z
    more h = record { abs = omega (arith, h.abs) }

    more_w : {z : ℤ} → Size (2 ^ 42) z → Size (2 ^ 50) z
    more_w h = record { abs = omega (arith, h.abs) }

-- ---- what the machine has

-- as numbers come back from their bits
abbrev pub back128 : ℤ → ℤ
back128 z = to_z w128 (of_z w128 z)

-- a number that is not below 0, as an unsigned one
pub unsigned_is : {z : ℤ} → Size (2 ^ 126) z → pos 0 ≤ℤ z → pos (nat_abs (back128 z)) ≡ z
unsigned_is {z} h some = ap (λ v. pos (nat_abs v)) (wrap_is h tt) ∙ pos-nat_abs z (yes_non_neg some)

-- a test that denies that it is below 0
pub not_below : {z : ℤ} → Size (2 ^ 126) z → lt_z (back128 z) (pos 0) ≡ false → pos 0 ≤ℤ z
not_below {z} h e = subst (λ v. pos 0 ≤ℤ v) (wrap_is h tt) (lt_z_no (T_from_true (not (lt_z (back128 z) (pos 0))) (ap not e)))

-- a number without bits
pub zero_of_bits : {z : ℤ} → back128 z ≡ z → of_z w128 z ≡ 0 → z ≡ pos 0
zero_of_bits h e = sym h ∙ ap (to_z w128) e ∙ to_z_pos w128 0 (omega arith)

-- a level by its bits
pub level_of_bits : {v z : ℤ} → SFits w128 v → Size (2 ^ 90) z → of_z w128 v ≡ of_z w128 z → v ≡ z
level_of_bits fits size e = sym (to_z-of_z fits) ∙ ap (to_z w128) e ∙ wrap_is size tt

-- ---- tests of values

-- for numbers that are the same
pub same_test : {yes : Bool} {n d m e : ℤ} (f : Fraction) → n ≡ m → d ≡ e → (IsTrue yes ↔ (IsFraction f × SameValue f (record { n = n; d = d }))) → IsTrue yes ↔ (IsFraction f × SameValue f (record { n = m; d = e }))
same_test {yes} {n} {d} {m} {e} f h k test =
    subst (λ z. IsTrue yes ↔ (IsFraction f × SameValue f (record { n = m; d = z }))) k (subst (λ z. IsTrue yes ↔ (IsFraction f × SameValue f (record { n = z; d = d }))) h test)

-- the range of the levels over the centre's denominator
pub size_test : {yes : Bool} (f : Fraction) (g l w : ℤ) → Size (2 ^ 90) g → Size (2 ^ 90) l → Size (2 ^ 50) w
    → (IsTrue yes ↔ (IsFraction f × SameValue f (record { n = back128 (back128 g -ℤ back128 l); d = back128 w }))) → IsTrue yes ↔ HasValue f (record { n = g -ℤ l; d = w })
size_test f g l w hg hl hw =
    same_test f (ap₂ (λ a b. back128 (a -ℤ b)) (wrap_is hg tt) (wrap_is hl tt) ∙ wrap_is (size_sub hg hl) tt) (wrap_is hw tt)

-- the pairs' weighted sum over their weight
pub mean_test : {yes : Bool} (f : Fraction) (s : ℤ) (weight : ℕ) → back128 s ≡ s → weight ≤ 4 * 2 ^ 50
    → (IsTrue yes ↔ (IsFraction f × SameValue f (record { n = back128 s; d = to_z w128 weight }))) → IsTrue yes ↔ HasValue f (record { n = s; d = pos weight })
mean_test f s weight hs light = same_test f hs (to_z_pos w128 weight (omega arith))

-- the squared radius at a level, around the same centre
pub radius_test : {yes : Bool} (f : Fraction) (ratio c : SpaceRatio) (level : ℤ) → ratio ≡ c → back128 level ≡ level → (IsTrue yes ↔ HasValue f (squared_radius_at ratio (back128 level))) → IsTrue yes ↔ HasValue f (squared_radius_at c level)
radius_test {yes} f ratio c level is value test =
    subst (λ r. IsTrue yes ↔ HasValue f (squared_radius_at r level)) is (subst (λ z. IsTrue yes ↔ HasValue f (squared_radius_at ratio z)) value test)
