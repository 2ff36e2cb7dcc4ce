-- From covers with any denominators to whole sides: a cover that is smaller than the size gives each point the colour of a centre, and points of one
-- colour are within the next smaller whole side.
use Rattle.std.proofs.Common.{◌≡◌, inl, inr, ◌⊎◌, refl, sym, ◌∙◌, ap, subst, ℕ, zero, suc, ◌*◌, ◌/◌, ◌<◌, ℤ, pos, negsuc, nat_abs, ◌+ℤ◌, ◌-ℤ◌, ◌*ℤ◌, neg_ℤ, ◌≤ℤ◌, ◌<ℤ◌, List, [], ◌∷◌, length, arith}
use Rattle.std.specs.Prelude.{Any, Contains, slice_index_or}
use Rattle.std.proofs.lemmas.Int.{ints, by_lt_z}
use Rattle.std.proofs.lemmas.List.{get_or_default}
use Rattle.std.proofs.lemmas.List.Elements.{All-contains}
use Rattle.integers.proofs.Identities.{den-ring, read, polys, lits}
use Rattle.integers.proofs.Order.{nonneg_mul, nonneg_add, positive_mul, positive_from_one, le_by, le_of_mul_le, nonneg_difference, positive_difference, combine1, nonneg_from_one}
use Rattle.integers.proofs.Magnitudes.{le_magnitude, neg_le_magnitude}
use Rattle.bounds_model.specs.Plane.{PlanePoint}
use Rattle.bounds_model.specs.Fractions.{Fraction, IsNotNegative, IsAtMost}
use Rattle.bounds_model.specs.Centres.{Cover, IsNear, FitsCentres, centres_size}
use Rattle.bounds_model.specs.CentresAnswer.{side}
use Rattle.optimality.proofs.Colours.{Colouring, IsColoured}

-- ---- from a rational side to a whole one

-- two ranges at most n/d away from c/w are at most twice as far from each other
near_one_centre : (w c p q n d : ℤ) → pos 1 ≤ℤ w → pos 0 ≤ℤ d → (pos (nat_abs (w *ℤ p -ℤ c)) *ℤ d) ≤ℤ (n *ℤ w) → (pos (nat_abs (w *ℤ q -ℤ c)) *ℤ d) ≤ℤ (n *ℤ w) → (d *ℤ (p -ℤ q)) ≤ℤ (pos 2 *ℤ n)
near_one_centre w c p q n d pw pd h k = plain (pos (nat_abs (w *ℤ p -ℤ c))) (pos (nat_abs (w *ℤ q -ℤ c))) (le_magnitude (w *ℤ p -ℤ c)) (neg_le_magnitude (w *ℤ q -ℤ c)) h k
  where
    plain : (a b : ℤ) → (w *ℤ p -ℤ c) ≤ℤ a → neg_ℤ (w *ℤ q -ℤ c) ≤ℤ b → (a *ℤ d) ≤ℤ (n *ℤ w) → (b *ℤ d) ≤ℤ (n *ℤ w) → (d *ℤ (p -ℤ q)) ≤ℤ (pos 2 *ℤ n)
    plain a b ha hb h k =
        le_of_mul_le w (positive_from_one pw)
        (le_by (nonneg_add (nonneg_add (nonneg_mul pd (nonneg_difference ha)) (nonneg_mul pd (nonneg_difference hb))) (nonneg_add (nonneg_difference h) (nonneg_difference k)))
        (read (w ∷ c ∷ p ∷ q ∷ n ∷ d ∷ a ∷ b ∷ []) (λ xs a b c d e f g h. simp (a, b, c, d, e, f, g, h, polys, lits xs) (den-ring xs _ _ tt))))

-- a whole number that is at most 2 n/d, with n/d less than N/D and t + 1 the double of N/D, is at most t
below_whole_side : (n d N D : ℤ) (t : ℕ) (z : ℤ) → pos 1 ≤ℤ D → pos 1 ≤ℤ d → (n *ℤ D) <ℤ (N *ℤ d) → pos (suc t) *ℤ D ≡ pos 2 *ℤ N → (d *ℤ z) ≤ℤ (pos 2 *ℤ n) → z ≤ℤ pos t
below_whole_side n d N D t z pD pd less twice within = by_lt_z (pos t) z (λ above. absurd (none (pos (suc t)) twice (next above))) (λ at_most. at_most)
  where
    next : pos t <ℤ z → pos (suc t) ≤ℤ z
    next h = omega (arith, ints)

    no_sum : (a b c : ℤ) → pos 0 ≤ℤ a → pos 0 <ℤ b → pos 0 ≤ℤ c → a +ℤ b +ℤ c ≡ pos 0 → ⊥
    no_sum a b c p q r e = omega (arith, ints)

    two : pos 0 <ℤ pos 2
    two = omega (arith, ints)

    none : (s : ℤ) → s *ℤ D ≡ pos 2 *ℤ N → s ≤ℤ z → ⊥
    none s e above =
        no_sum (D *ℤ (d *ℤ (z -ℤ s))) (pos 2 *ℤ (N *ℤ d -ℤ n *ℤ D)) (D *ℤ (pos 2 *ℤ n -ℤ d *ℤ z)) (nonneg_mul (nonneg_from_one pD) (nonneg_mul (nonneg_from_one pd) (nonneg_difference above))) (positive_mul two (positive_difference less)) (nonneg_mul (nonneg_from_one pD) (nonneg_difference within))
        (combine1 (neg_ℤ d) e (read (n ∷ D ∷ N ∷ d ∷ s ∷ z ∷ []) (λ xs a b c d e f. simp (a, b, c, d, e, f, polys, lits xs) (den-ring xs _ _ tt))))

-- the side is twice the size, where that has the denominator 1 or 2
side_is_twice : (size : Fraction) → pos 0 ≤ℤ size.n → (size.d ≡ pos 1) ⊎ (size.d ≡ pos 2) → pos (side size) *ℤ size.d ≡ pos 2 *ℤ size.n
side_is_twice size h halves = elim halves [ inl e ↦ subst (Twice size.n) (sym e) (by_one size.n h) | inr e ↦ subst (Twice size.n) (sym e) (by_two size.n h) ]
  where
    Twice : ℤ → ℤ → Type 0
    Twice N D = pos (2 * nat_abs N / nat_abs D) *ℤ D ≡ pos 2 *ℤ N

    by_one : (N : ℤ) → pos 0 ≤ℤ N → pos (2 * nat_abs N / 1) *ℤ pos 1 ≡ pos 2 *ℤ N
    by_one (pos k) h = ap pos (let e : 2 * k / 1 * 1 ≡ 2 * k = omega arith in e)
    by_one (negsuc k) h = absurd (omega (arith, ints))

    by_two : (N : ℤ) → pos 0 ≤ℤ N → pos (2 * nat_abs N / 2) *ℤ pos 2 ≡ pos 2 *ℤ N
    by_two (pos k) h = ap pos (let e : 2 * k / 2 * 2 ≡ 2 * k = omega arith in e)
    by_two (negsuc k) h = absurd (omega (arith, ints))

-- ---- a cover gives each point the colour of a centre near it

-- the centre that covers a point
covered : (count : ℕ) (points : List PlanePoint) (other : Cover) → FitsCentres count points other → (p : PlanePoint) → Contains points p → Any (IsNear other.radius p) other.centres
covered count points other fits p m = All-contains (λ p. Any (IsNear other.radius p) other.centres) points p fits.near m

-- reads at one index of a list are the same
same_read : {X : Type 0} (xs : List X) (i j : ℕ) (x y : X) → i ≡ j → i < length xs → slice_index_or xs i x ≡ x → slice_index_or xs j y ≡ y → x ≡ y
same_read xs i j x y e l hx hy = sym hx ∙ get_or_default xs i x y l ∙ subst (λ k. slice_index_or xs k y ≡ y) (sym e) hy

-- points near one centre of a smaller cover are within the next smaller whole side
cover_colours : (count : ℕ) (points : List PlanePoint) (size : Fraction) (t : ℕ) → pos 1 ≤ℤ size.d → pos (suc t) *ℤ size.d ≡ pos 2 *ℤ size.n
    → (other : Cover) (fits : FitsCentres count points other) → (other.radius.n *ℤ size.d) <ℤ (size.n *ℤ other.radius.d) → IsColoured t count points (λ p m. (covered count points other fits p m).0)
cover_colours count points size t pD twice other fits less = record {
  below = λ p m. subst (λ k. (covered count points other fits p m).0 < k) fits.as_many (covered count points other fits p m).2;
  near = λ p q m n same.
      let of_p = covered count points other fits p m in
      let of_q = covered count points other fits q n in
      let c = of_p.1 in
      let near_q : IsNear other.radius q c = subst (IsNear other.radius q) (same_read other.centres of_q.0 of_p.0 of_q.1 c (sym same) of_q.2 of_q.3 of_p.3) of_q.4 in
      let w : pos 1 ≤ℤ c.w = subst (λ c. pos 1 ≤ℤ c.w) of_p.3 (fits.denominators of_p.0 c of_p.2) in
      let within = λ (v : ℤ) (h : (other.radius.d *ℤ v) ≤ℤ (pos 2 *ℤ other.radius.n)). below_whole_side other.radius.n other.radius.d size.n size.d t v pD fits.radius.denominator less twice h in
      record {
        in_x = within (p.x -ℤ q.x) (near_one_centre c.w c.x p.x q.x other.radius.n other.radius.d w (nonneg_from_one fits.radius.denominator) of_p.4.in_x near_q.in_x);
        in_y = within (p.y -ℤ q.y) (near_one_centre c.w c.y p.y q.y other.radius.n other.radius.d w (nonneg_from_one fits.radius.denominator) of_p.4.in_y near_q.in_y);
      };
}

-- ---- so no cover is smaller where colours are refused

-- where the points have no such colours within a side less by 1, no cover is smaller than the size
pub none_smaller : (count : ℕ) (points : List PlanePoint) (size : Fraction) → IsNotNegative size → (size.d ≡ pos 1) ⊎ (size.d ≡ pos 2)
    → ((t : ℕ) → side size ≡ suc t → (colour : Colouring points) → ¬ IsColoured t count points colour) → (other : Cover) → FitsCentres count points other → IsAtMost size (centres_size other)
none_smaller count points size h halves refuse other fits =
    by_lt_z (other.radius.n *ℤ size.d) (size.n *ℤ other.radius.d) (λ less. absurd (refused (side size) refl (side_is_twice size h.numerator halves) less)) (λ at_most. at_most)
  where
    no_size : (N D n d : ℤ) → pos 0 *ℤ D ≡ pos 2 *ℤ N → pos 0 ≤ℤ (n *ℤ D) → (n *ℤ D) <ℤ (N *ℤ d) → ⊥
    no_size N D n d e h less = negative (n *ℤ D) h (subst (λ N. (n *ℤ D) <ℤ (N *ℤ d)) (zero_is N D e) less)
      where
        zero_is : (N D : ℤ) → pos 0 *ℤ D ≡ pos 2 *ℤ N → N ≡ pos 0
        zero_is N D e = omega (arith, ints)

        negative : (x : ℤ) → pos 0 ≤ℤ x → x <ℤ (pos 0 *ℤ d) → ⊥
        negative x h l = omega (arith, ints)

    refused : (s : ℕ) → side size ≡ s → pos s *ℤ size.d ≡ pos 2 *ℤ size.n → (other.radius.n *ℤ size.d) <ℤ (size.n *ℤ other.radius.d) → ⊥
    refused zero is twice less = no_size size.n size.d other.radius.n other.radius.d twice (nonneg_mul fits.radius.numerator (nonneg_from_one h.denominator)) less
    refused (suc t) is twice less = refuse t is (λ p m. (covered count points other fits p m).0) (cover_colours count points size t h.denominator twice other fits less)
