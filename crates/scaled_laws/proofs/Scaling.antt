-- How best objects follow an object when it is grown, whatever the kind.
use Rattle.std.proofs.Common.{◌≡◌, ℤ, pos, neg_ℤ, ◌-ℤ◌, ◌*ℤ◌, ◌<ℤ◌, [], ◌∷◌}
use Rattle.integers.proofs.Identities.{den-ring, read, polys}
use Rattle.integers.proofs.Order.{positive_mul, nonneg_mul, nonneg_difference, le_by, le_from_lt, le_of_mul_le, same_of_mul, combine2, positive_from_one}
use Rattle.integers.proofs.Fractions.{fraction_same_trans}
use Rattle.bounds_model.specs.Fractions.{Fraction, IsAtMost}
use Rattle.bounds_model.specs.Best.{IsSmallest, IsGreatest, IsPrintedSize}
use Rattle.bounds_model.specs.Reports.{FitsGrown, IsSmallestGrown, IsGreatestGrown}

-- a is k times b
abbrev pub IsTimes : ℤ → Fraction → Fraction → Type 0
IsTimes k a b = a.n *ℤ b.d ≡ k *ℤ b.n *ℤ a.d

-- ---- over plain numbers

-- the difference of two cross products, from those of numbers k times as large
grown_difference : (k n d n' d' m e m' e' : ℤ) → n *ℤ d' ≡ k *ℤ n' *ℤ d → m' *ℤ e ≡ k *ℤ m *ℤ e'
    → k *ℤ (d *ℤ e') *ℤ (m *ℤ d') -ℤ k *ℤ (d *ℤ e') *ℤ (n' *ℤ e) ≡ d' *ℤ e *ℤ (m' *ℤ d -ℤ n *ℤ e')
grown_difference k n d n' d' m e m' e' h g =
    combine2 (e *ℤ e') (neg_ℤ (d *ℤ d')) h g
    (read (k ∷ n ∷ d ∷ n' ∷ d' ∷ m ∷ e ∷ m' ∷ e' ∷ []) (λ xs a b c f j p q r s. simp (a, b, c, f, j, p, q, r, s, polys) (den-ring xs _ _ tt)))

-- the same, turned round
turned_difference : (k n d n' d' m e m' e' : ℤ) → n *ℤ d' ≡ k *ℤ n' *ℤ d → m' *ℤ e ≡ k *ℤ m *ℤ e'
    → k *ℤ (d *ℤ e') *ℤ (n' *ℤ e) -ℤ k *ℤ (d *ℤ e') *ℤ (m *ℤ d') ≡ d' *ℤ e *ℤ (n *ℤ e' -ℤ m' *ℤ d)
turned_difference k n d n' d' m e m' e' h g =
    combine2 (neg_ℤ (e *ℤ e')) (d *ℤ d') h g
    (read (k ∷ n ∷ d ∷ n' ∷ d' ∷ m ∷ e ∷ m' ∷ e' ∷ []) (λ xs a b c f j p q r s. simp (a, b, c, f, j, p, q, r, s, polys) (den-ring xs _ _ tt)))

-- a is k times a', and b' is k times b: where a is at most b', a' is at most b
pub order_back : (k : ℤ) (a a' b b' : Fraction) → pos 0 <ℤ k → pos 0 <ℤ a.d → pos 0 <ℤ a'.d → pos 0 <ℤ b.d → pos 0 <ℤ b'.d
    → IsTimes k a a' → IsTimes k b' b → IsAtMost a b' → IsAtMost a' b
order_back k a a' b b' k+ da da' db db' h g most =
    le_of_mul_le (k *ℤ (a.d *ℤ b'.d)) (positive_mul k+ (positive_mul da db'))
    (le_by (nonneg_mul (le_from_lt (positive_mul da' db)) (nonneg_difference most)) (grown_difference k a.n a.d a'.n a'.d b.n b.d b'.n b'.d h g))

-- and where b' is at most a, b is at most a'
pub order_back_down : (k : ℤ) (a a' b b' : Fraction) → pos 0 <ℤ k → pos 0 <ℤ a.d → pos 0 <ℤ a'.d → pos 0 <ℤ b.d → pos 0 <ℤ b'.d
    → IsTimes k a a' → IsTimes k b' b → IsAtMost b' a → IsAtMost b a'
order_back_down k a a' b b' k+ da da' db db' h g most =
    le_of_mul_le (k *ℤ (a.d *ℤ b'.d)) (positive_mul k+ (positive_mul da db'))
    (le_by (nonneg_mul (le_from_lt (positive_mul da' db)) (nonneg_difference most)) (turned_difference k a.n a.d a'.n a'.d b.n b.d b'.n b'.d h g))

-- what prints a number prints, over k, the k-th part of it
over_times : (k pn pd n d n' d' : ℤ) → pn *ℤ d ≡ n *ℤ pd → n *ℤ d' ≡ k *ℤ n' *ℤ d → d *ℤ (pn *ℤ d') ≡ d *ℤ (n' *ℤ (pd *ℤ k))
over_times k pn pd n d n' d' h g =
    combine2 d' pd h g (read (k ∷ pn ∷ pd ∷ n ∷ d ∷ n' ∷ d' ∷ []) (λ xs a b c f j p q. simp (a, b, c, f, j, p, q, polys) (den-ring xs _ _ tt)))

pub printed_back : (k : ℤ) (a a' printed full : Fraction) → pos 0 <ℤ k → pos 0 <ℤ a.d → IsTimes k a a' → IsPrintedSize a printed
    → IsPrintedSize (record { n = printed.n; d = printed.d *ℤ k }) full → IsPrintedSize a' full
printed_back k a a' printed full k+ da h p q = record {
  lowest = q.lowest;
  same = fraction_same_trans full.n full.d printed.n (printed.d *ℤ k) a'.n a'.d (positive_mul (positive_from_one p.lowest.not_negative.denominator) k+) q.same
      (same_of_mul a.d da (over_times k printed.n printed.d a.n a.d a'.n a'.d p.same h));
}

-- ---- over objects

-- growing multiplies sizes by k, and each object that fits is grown from a smaller one
pub record Grows {Object : Type 0} (Fits : Object → Type 0) (Same : Object → Object → Type 0) (size : Object → Fraction) (grown shrunk : Object → Object) (k : ℤ) : Type 0 where
  pub factor : pos 0 <ℤ k
  pub same : (o : Object) → Same (grown (shrunk o)) o
  pub fits : (o : Object) → Fits o → Fits (grown (shrunk o))
  pub denominator : (o : Object) → Fits o → pos 0 <ℤ (size o).d
  pub shrunk_denominator : (o : Object) → Fits o → pos 0 <ℤ (size (shrunk o)).d
  pub grown_denominator : (o : Object) → Fits (grown o) → pos 0 <ℤ (size o).d
  pub shrunk_size : (o : Object) → IsTimes k (size o) (size (shrunk o))
  pub grown_size : (o : Object) → IsTimes k (size (grown o)) (size o)

module _ {Object : Type 0} (Fits : Object → Type 0) (Same : Object → Object → Type 0) (size : Object → Fraction) (grown shrunk : Object → Object) (k : ℤ) (g : Grows Fits Same size grown shrunk k) where
  -- the smallest object is grown from the smallest of those that grow into objects that fit
  pub smallest_grown : (o : Object) → IsSmallest Fits size o → IsSmallestGrown Fits Same size grown o
  smallest_grown o h = (
    shrunk o,
    g.same o,
    record {
      fits = g.fits o h.fits;
      smallest = λ other f. order_back k (size o) (size (shrunk o)) (size other) (size (grown other)) g.factor (g.denominator o h.fits) (g.shrunk_denominator o h.fits) (g.grown_denominator other f) (g.denominator (grown other) f)
          (g.shrunk_size o) (g.grown_size other) (h.smallest (grown other) f);
    },
  )

  -- and the greatest from the greatest
  pub greatest_grown : (o : Object) → IsGreatest Fits size o → IsGreatestGrown Fits Same size grown o
  greatest_grown o h = (
    shrunk o,
    g.same o,
    record {
      fits = g.fits o h.fits;
      greatest = λ other f. order_back_down k (size o) (size (shrunk o)) (size other) (size (grown other)) g.factor (g.denominator o h.fits) (g.shrunk_denominator o h.fits) (g.grown_denominator other f) (g.denominator (grown other) f)
          (g.shrunk_size o) (g.grown_size other) (h.greatest (grown other) f);
    },
  )

  -- an object that fits is grown from one whose size is printed over k
  pub fits_grown : (o : Object) (printed full : Fraction) → Fits o → IsPrintedSize (size o) printed → IsPrintedSize (record { n = printed.n; d = printed.d *ℤ k }) full → FitsGrown Fits Same size grown o full
  fits_grown o printed full f p q = (
    shrunk o,
    record { same = g.same o; fits = g.fits o f; printed = printed_back k (size o) (size (shrunk o)) printed full g.factor (g.denominator o f) (g.shrunk_size o) p q },
  )
