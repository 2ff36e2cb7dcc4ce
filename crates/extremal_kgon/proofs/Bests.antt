-- The greatest number of a row, number by number.
use Rattle.std.proofs.Common.{◌≡◌, refl, sym, subst, ◌⊎◌, inl, inr, ℕ, ◌+◌, ◌^◌, ◌<◌, ◌≤◌, arith, ℤ, pos, ◌≤ℤ◌, ◌<ℤ◌, List, length}
use Rattle.std.proofs.lemmas.Int.{ints}
use Rattle.std.proofs.lemmas.List.Elements.{All-from_get_or}
use Rattle.integers.specs.Size.{Size}
use Rattle.integers.proofs.Lists.{below_or_at}
use Rattle.extremal_kgon.specs.declared.table.Best.{Best}
use Rattle.extremal_kgon.specs.Rows.{at}
use Rattle.extremal_kgon.specs.Tables.{IsFoundAt, TakesBest}

-- the greatest of the first numbers of a row, or none is greater than that before
pub record TakesSoFar (old : Best) (row : List ℤ) (first layer i : ℕ) (new : Best) : Type 0 where
  pub not_negative : pos 0 ≤ℤ new.area
  pub small : Size (2 ^ 43) new.area
  pub rises : old.area ≤ℤ new.area
  pub above : (k : ℕ) → k < i → at row k ≤ℤ new.area
  pub one : (new ≡ old) ⊎ ((k : ℕ) × IsFoundAt row first layer new k × (old.area <ℤ new.area))

pub takes-none : (old : Best) (row : List ℤ) (first layer : ℕ) → pos 0 ≤ℤ old.area → Size (2 ^ 43) old.area → TakesSoFar old row first layer 0 old
takes-none old row first layer h s = record { not_negative = h; small = s; rises = omega (arith, ints); above = λ k low. absurd (omega arith); one = inl refl }

-- a greater one is taken
pub takes-more : (old : Best) (row : List ℤ) (first layer i : ℕ) (best new : Best) → TakesSoFar old row first layer i best → i < length row → Size (2 ^ 43) new.area → best.area <ℤ new.area → new.area ≡ at row i → new.first ≡ first → new.layer ≡ layer → new.last ≡ first + 1 + i → TakesSoFar old row first layer (i + 1) new
takes-more old row first layer i best new t below small more area from in_layer to = record {
  not_negative = above_zero t.not_negative more;
  small = small;
  rises = below_it t.rises more;
  above = λ k low. elim (below_or_at k i low) [ inl less ↦ below_it (t.above k less) more | inr same ↦ subst (λ n. at row n ≤ℤ new.area) (sym same) (subst (λ z. z ≤ℤ new.area) area (least new.area)) ];
  one = inr (i, record { below = below; positive = positive t.not_negative more; area = area; from = from; in_layer = in_layer; to = to }, above_it t.rises more);
}
  where
    above_zero : {y z : ℤ} → pos 0 ≤ℤ y → y <ℤ z → pos 0 ≤ℤ z
    above_zero h k = omega (arith, ints)

    below_it : {x y z : ℤ} → x ≤ℤ y → y <ℤ z → x ≤ℤ z
    below_it h k = omega (arith, ints)

    above_it : {x y z : ℤ} → x ≤ℤ y → y <ℤ z → x <ℤ z
    above_it h k = omega (arith, ints)

    positive : {y z : ℤ} → pos 0 ≤ℤ y → y <ℤ z → pos 0 <ℤ z
    positive h k = omega (arith, ints)

    least : (z : ℤ) → z ≤ℤ z
    least z = omega (arith, ints)

-- one that is not greater is passed
pub takes-same : (old : Best) (row : List ℤ) (first layer i : ℕ) (best : Best) → TakesSoFar old row first layer i best → at row i ≤ℤ best.area → TakesSoFar old row first layer (i + 1) best
takes-same old row first layer i best t less = record {
  not_negative = t.not_negative;
  small = t.small;
  rises = t.rises;
  above = λ k low. elim (below_or_at k i low) [ inl before ↦ t.above k before | inr same ↦ subst (λ n. at row n ≤ℤ best.area) (sym same) less ];
  one = t.one;
}

-- the greatest of the whole row
pub takes_all : (old : Best) (row : List ℤ) (first layer i : ℕ) (best : Best) → TakesSoFar old row first layer i best → length row ≤ i → TakesBest old row first layer best
takes_all old row first layer i best t all = record { small = t.small; rises = t.rises; above = All-from_get_or (λ u. u ≤ℤ best.area) row (pos 0) (λ k low. t.above k (omega arith)); one = t.one }
