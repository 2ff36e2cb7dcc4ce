-- Numbers below a bound, of which each has a hole of its own, are not more than the holes.
use Rattle.std.proofs.Common.{◌≡◌, sym, subst, ℕ, zero, suc, ◌<◌, ◌≤◌, arith}
use mathlib.Core.Logic.{inl, inr}
use Rattle.std.specs.Prelude.{◌⊎◌, ◌==◌, if◌then◌else◌}
use Rattle.std.proofs.lemmas.Bool.Decides.{nat_tests}

-- the hole a in hole of the last one, and else the same
abbrev moved : ℕ → ℕ → ℕ → ℕ
moved last a x = if x == last then a else x

-- a hole is the last one or before it
split : (x last : ℕ) → x < suc last → (x < last) ⊎ (x ≡ last)
split x last h = grind arith

moved_last : (last a x : ℕ) → x ≡ last → moved last a x ≡ a
moved_last last a x e = grind (arith, nat_tests)

moved_other : (last a x : ℕ) → x < last → moved last a x ≡ x
moved_other last a x h = grind (arith, nat_tests)

-- where a is another hole than x, the hole after the move is before the last
moved_below : (last a x : ℕ) → a < suc last → x < suc last → (x ≡ a → ⊥) → moved last a x < last
moved_below last a x la lx n =
    elim (split x last lx) [
      | inl l ↦ subst (λ z. z < last) (sym (moved_other last a x l)) l
      | inr e ↦ subst (λ z. z < last) (sym (moved_last last a x e)) (before last a x la e n)
    ]
  where
    before : (last a x : ℕ) → a < suc last → x ≡ last → (x ≡ a → ⊥) → a < last
    before last a x la e n = grind arith

-- and two other holes stay apart
moved_apart : (last a x y : ℕ) → x < suc last → y < suc last → (x ≡ a → ⊥) → (y ≡ a → ⊥) → (x ≡ y → ⊥) → moved last a x ≡ moved last a y → ⊥
moved_apart last a x y lx ly nx ny n e = grind (arith, nat_tests)

-- each number has a hole, and no two have one
pub pigeonhole : (n m : ℕ) (hole : (i : ℕ) → i < n → ℕ) → ((i : ℕ) (l : i < n) → hole i l < m)
    → ((i k : ℕ) (l : i < n) (l' : k < n) → i < k → hole i l ≡ hole k l' → ⊥) → n ≤ m
pigeonhole zero m hole below apart = omega arith
pigeonhole (suc n) zero hole below apart = absurd (no_less (hole 0 (first n)) (below 0 (first n)))
  where
    first : (n : ℕ) → 0 < suc n
    first n = omega arith

    no_less : (k : ℕ) → k < 0 → ⊥
    no_less k h = omega arith
pigeonhole (suc n) (suc m) hole below apart = more n m (pigeonhole n m (λ i l. moved m at_last (hole i (up i n l)))
    (λ i l. moved_below m at_last (hole i (up i n l)) (below n (end n)) (below i (up i n l)) (apart i n (up i n l) (end n) l))
    (λ i k l l' h.
    moved_apart m at_last (hole i (up i n l)) (hole k (up k n l')) (below i (up i n l)) (below k (up k n l'))
    (apart i n (up i n l) (end n) l) (apart k n (up k n l') (end n) l') (apart i k (up i n l) (up k n l') h)))
  where
    end : (n : ℕ) → n < suc n
    end n = omega arith

    up : (i n : ℕ) → i < n → i < suc n
    up i n l = omega arith

    more : (n m : ℕ) → n ≤ m → suc n ≤ suc m
    more n m h = omega arith

    at_last : ℕ
    at_last = hole n (end n)
