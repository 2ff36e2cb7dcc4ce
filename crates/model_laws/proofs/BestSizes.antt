-- Two best objects print one size, where each object that fits one side has an object of the same size on the other.
use Prim.Native.Nat.{◌∣◌}
use Rattle.std.proofs.Common.{◌≡◌, refl, sym, subst, ℕ, ℤ, pos, ◌<ℤ◌, [], ◌∷◌, nat_abs}
use Rattle.std.specs.Int.{IsGcd}
use Rattle.std.proofs.lemmas.List.Elements.{All-nil, All-cons}
use Rattle.integers.proofs.Order.{positive_from_one, le_antisymm_ℤ}
use Rattle.integers.proofs.Divisors.{IsGcd-one}
use Rattle.integers.proofs.LowestTerms.{lowest_unique_ℤ}
use Rattle.integers.proofs.Fractions.{fraction_same_trans}
use Rattle.bounds_model.specs.Fractions.{Fraction, SameValue, IsAtMost, IsLowest}
use Rattle.bounds_model.specs.Best.{IsSmallest, IsGreatest, IsPrintedSize}

-- the greatest common divisor of numerator and denominator is 1
only_one_divides : (a : Fraction) → IsLowest a → IsGcd (nat_abs a.n) (nat_abs a.d) 1
only_one_divides a h =
    let divides = λ (k : ℕ) (e : ℤ). k ∣ nat_abs e in
    IsGcd-one (nat_abs a.n) (nat_abs a.d) (λ k l m. h.lowest k (All-cons (divides k) a.n (a.d ∷ []) l (All-cons (divides k) a.d [] m (All-nil (divides k)))))

-- a value has one form in lowest terms
pub same_lowest : (a b : Fraction) → IsLowest a → IsLowest b → SameValue a b → a ≡ b
same_lowest a b h k e =
    let parts = lowest_unique_ℤ a.n a.d b.n b.d (positive_from_one h.not_negative.denominator) (positive_from_one k.not_negative.denominator) (only_one_divides a h) (only_one_divides b k) e in
    λ i. record { n = parts.0 i; d = parts.1 i }

-- sizes of which neither is greater print as one
pub same_printed : (s t p q : Fraction) → pos 0 <ℤ s.d → pos 0 <ℤ t.d → IsAtMost s t → IsAtMost t s → IsPrintedSize s p → IsPrintedSize t q → p ≡ q
same_printed s t p q ds dt h k hp hq =
    let values : SameValue s t = le_antisymm_ℤ h k in
    let to_t : SameValue p t = fraction_same_trans p.n p.d s.n s.d t.n t.d ds hp.same values in
    same_lowest p q hp.lowest hq.lowest (fraction_same_trans p.n p.d t.n t.d q.n q.d dt to_t (sym hq.same))

-- each object that fits on the first side has an object of the same size on the second
abbrev pub Reaches : {X : Type 0} → (X → Type 0) → (X → Fraction) → (X → Type 0) → (X → Fraction) → Type 0
Reaches {X} Fits size Fits' size' = (o : X) → Fits o → (o' : X) × Fits' o' × (size' o' ≡ size o)

-- so two smallest objects print one size
pub same_smallest : {X : Type 0} (Fits Fits' : X → Type 0) (size size' : X → Fraction) → Reaches Fits size Fits' size' → Reaches Fits' size' Fits size
    → (a b : X) (p q : Fraction) → pos 0 <ℤ (size a).d → pos 0 <ℤ (size' b).d → IsSmallest Fits size a → IsSmallest Fits' size' b → IsPrintedSize (size a) p → IsPrintedSize (size' b) q → p ≡ q
same_smallest Fits Fits' size size' there back a b p q da db h k hp hq =
    let of_b = back b k.fits in
    let of_a = there a h.fits in
    same_printed (size a) (size' b) p q da db (subst (IsAtMost (size a)) of_b.2 (h.smallest of_b.0 of_b.1)) (subst (IsAtMost (size' b)) of_a.2 (k.smallest of_a.0 of_a.1)) hp hq

-- and two greatest
pub same_greatest : {X : Type 0} (Fits Fits' : X → Type 0) (size size' : X → Fraction) → Reaches Fits size Fits' size' → Reaches Fits' size' Fits size
    → (a b : X) (p q : Fraction) → pos 0 <ℤ (size a).d → pos 0 <ℤ (size' b).d → IsGreatest Fits size a → IsGreatest Fits' size' b → IsPrintedSize (size a) p → IsPrintedSize (size' b) q → p ≡ q
same_greatest Fits Fits' size size' there back a b p q da db h k hp hq =
    let of_b = back b k.fits in
    let of_a = there a h.fits in
    same_printed (size a) (size' b) p q da db (subst (λ s. IsAtMost s (size' b)) of_a.2 (k.greatest of_a.0 of_a.1)) (subst (λ s. IsAtMost s (size a)) of_b.2 (h.greatest of_b.0 of_b.1)) hp hq

-- where the same objects fit
pub kept : {X : Type 0} (Fits Fits' : X → Type 0) (size : X → Fraction) → ((o : X) → Fits o → Fits' o) → Reaches Fits size Fits' size
kept Fits Fits' size f o h = (o, f o h, refl)
