-- The greatest potential is what so many corners after the first one add at most.
use Rattle.std.proofs.Common.{◌≡◌, sym, subst, inl, inr, ℕ, zero, suc, ◌+◌, ◌-◌, ◌<◌, ◌≤◌, arith, ℤ, pos, ◌+ℤ◌, ◌≤ℤ◌, List, length}
use Rattle.std.proofs.lemmas.Int.{ints}
use Rattle.integers.proofs.Order.{le_trans_ℤ, le_antisymm_ℤ}
use Rattle.bounds_model.specs.Plane.{PlanePoint, point_at, turn}
use Rattle.bounds_model.specs.Kgon.{most_added}
use Rattle.model_laws.proofs.MostAdded.{turn_same, with_next, greatest_at, most_added-nonneg, most_added-above, most_added-grows}
use Rattle.extremal_kgon.specs.declared.table.Best.{Best}
use Rattle.extremal_kgon.specs.Tables.{index, potential_or_zero, IsTable}
use Rattle.extremal_kgon.specs.Choices.{IsReached}
use Rattle.extremal_kgon.proofs.PotentialIndices.{potential_or_zero-next}
use Rattle.extremal_kgon.proofs.TableSteps.{read_at_most}

-- what is added with more corners is no less
added-longer : (corners : List PlanePoint) (first more extra last : ℕ) → most_added corners first more last ≤ℤ most_added corners first (extra + more) last
added-longer corners first more zero last = subst (λ n. most_added corners first more last ≤ℤ most_added corners first n last) (from_zero more) (itself (most_added corners first more last))
  where
    from_zero : (n : ℕ) → n ≡ 0 + n
    from_zero n = omega arith

    itself : (z : ℤ) → z ≤ℤ z
    itself z = omega (arith, ints)
added-longer corners first more (suc extra) last =
    subst (λ n. most_added corners first more last ≤ℤ most_added corners first n last) (up extra more) (le_trans_ℤ (added-longer corners first more extra last) (most_added-grows corners first (extra + more) last))
  where
    up : (e m : ℕ) → suc (e + m) ≡ suc e + m
    up e m = omega arith

-- from the first corner itself, what follows a later one can be added
from_first : (corners : List PlanePoint) (first more last : ℕ) → first < last → last < length corners → most_added corners first more last ≤ℤ most_added corners first (suc more) first
from_first corners first more last h l = subst (λ z. z ≤ℤ most_added corners first (suc more) first) (nothing (most_added corners first more last) (turn_same (point_at corners first) (point_at corners last))) (most_added-above corners first more first last h l)
  where
    nothing : {t : ℤ} (m : ℤ) → t ≡ pos 0 → t +ℤ m ≡ m
    nothing m e = omega (arith, ints)

-- ---- no polygon of the table is left out

-- a potential and what follows its last corner is no more than what follows the first one
potential_below : (corners : List PlanePoint) (layers : ℕ) (us : List ℤ) (best : Best) → IsTable corners layers (length corners) us best → (first layer more last : ℕ) → first < length corners → layer ≤ layers → first < last → last < length corners
    → (potential_or_zero (length corners) layers us first layer last +ℤ most_added corners first more last) ≤ℤ most_added corners first (layer + more + 1) first
potential_below corners layers us best t first zero more last f l h k =
    subst (λ n. (pos 0 +ℤ most_added corners first more last) ≤ℤ most_added corners first n first) (up more) (from_zero (from_first corners first more last h k))
  where
    up : (m : ℕ) → suc m ≡ 0 + m + 1
    up m = omega arith

    from_zero : {a b : ℤ} → a ≤ℤ b → (pos 0 +ℤ a) ≤ℤ b
    from_zero h = omega (arith, ints)
potential_below corners layers us best t first (suc layer) more last f l h k =
    subst (λ m. (potential_or_zero (length corners) layers us first m last +ℤ most_added corners first more last) ≤ℤ most_added corners first (m + more + 1) first) (one_up layer)
    (elim (t.potentials first layer last f (omega (arith, l)) h k).reached [
      | inl none ↦ subst (λ z. (z +ℤ most_added corners first more last) ≤ℤ most_added corners first (layer + 1 + more + 1) first) (sym none)
          (from_zero (le_trans_ℤ (from_first corners first more last h k) (subst (λ n. most_added corners first (suc more) first ≤ℤ most_added corners first n first) (longer layer more) (added-longer corners first (suc more) (layer + 1) first))))
      | inr some ↦ subst (λ z. (z +ℤ most_added corners first more last) ≤ℤ most_added corners first (layer + 1 + more + 1) first) (sym some.1.sum)
          (moved (potential_or_zero (length corners) layers us first layer some.0) (turn (point_at corners first) (point_at corners some.0) (point_at corners last)) (most_added corners first more last)
          (most_added-above corners first more some.0 last some.1.before k)
          (subst (λ n. (potential_or_zero (length corners) layers us first layer some.0 +ℤ most_added corners first (suc more) some.0) ≤ℤ most_added corners first n first) (shifted layer more) (potential_below corners layers us best t first layer (suc more) some.0 f (omega (arith, l)) some.1.after (omega (arith, some.1.before, k)))))
    ])
  where
    one_up : (n : ℕ) → n + 1 ≡ suc n
    one_up n = omega arith

    longer : (l m : ℕ) → l + 1 + suc m ≡ l + 1 + m + 1
    longer l m = omega arith

    shifted : (l m : ℕ) → l + suc m + 1 ≡ l + 1 + m + 1
    shifted l m = omega arith

    from_zero : {a b : ℤ} → a ≤ℤ b → (pos 0 +ℤ a) ≤ℤ b
    from_zero h = omega (arith, ints)

    moved : (u t m : ℤ) {v w : ℤ} → (t +ℤ m) ≤ℤ v → (u +ℤ v) ≤ℤ w → (u +ℤ t +ℤ m) ≤ℤ w
    moved u t m h k = omega (arith, ints)

-- ---- none reaches more than the greatest potential

-- a potential is at most the greatest
at_most_best : (corners : List PlanePoint) (layers : ℕ) (us : List ℤ) (best : Best) → IsTable corners layers (length corners) us best → (first layer last : ℕ) → potential_or_zero (length corners) layers us first layer last ≤ℤ best.area
at_most_best corners layers us best t first zero last = t.greatest.not_negative
at_most_best corners layers us best t first (suc layer) last =
    subst (λ m. potential_or_zero (length corners) layers us first m last ≤ℤ best.area) (one_up layer)
    (subst (λ z. z ≤ℤ best.area) (sym (potential_or_zero-next (length corners) layers us first layer last)) (read_at_most us (index (length corners) layers first layer last) best.area t.greatest.not_negative t.greatest.above))
  where
    one_up : (n : ℕ) → n + 1 ≡ suc n
    one_up n = omega arith

-- nor with what so many corners after it add
added_below_best : (corners : List PlanePoint) (layers : ℕ) (us : List ℤ) (best : Best) → IsTable corners layers (length corners) us best → (first layer more last : ℕ) → first < length corners → layer + more ≤ layers → first < last → last < length corners
    → (potential_or_zero (length corners) layers us first layer last +ℤ most_added corners first more last) ≤ℤ best.area
added_below_best corners layers us best t first layer zero last f l h k = and_nothing (at_most_best corners layers us best t first layer last)
  where
    and_nothing : {a b : ℤ} → a ≤ℤ b → (a +ℤ pos 0) ≤ℤ b
    and_nothing h = omega (arith, ints)
added_below_best corners layers us best t first layer (suc more) last f l h k = elim (greatest_at (with_next corners first more last) (last + 1) (length corners - (last + 1))) [
  | inl none ↦ subst (λ z. (potential_or_zero (length corners) layers us first layer last +ℤ z) ≤ℤ best.area) (sym none) (and_nothing (at_most_best corners layers us best t first layer last))
  | inr some ↦
      let inside = below_end some.0 some.1.below k in
      subst (λ z. (potential_or_zero (length corners) layers us first layer last +ℤ z) ≤ℤ best.area) (sym some.1.is)
      (moved (potential_or_zero (length corners) layers us first layer last) (turn (point_at corners first) (point_at corners last) (point_at corners some.0)) (most_added corners first more some.0)
      ((t.potentials first layer some.0 f (omega (arith, l)) (omega (arith, h, some.1.from)) inside).grows last h (omega (arith, some.1.from)))
      (added_below_best corners layers us best t first (layer + 1) more some.0 f (omega (arith, l)) (omega (arith, h, some.1.from)) inside))
]
  where
    and_nothing : {a b : ℤ} → a ≤ℤ b → (a +ℤ pos 0) ≤ℤ b
    and_nothing h = omega (arith, ints)

    below_end : (i : ℕ) {n : ℕ} → i < last + 1 + (n - (last + 1)) → last < n → i < n
    below_end i h k = omega arith

    moved : (u t m : ℤ) {v w : ℤ} → (u +ℤ t) ≤ℤ v → (v +ℤ m) ≤ℤ w → (u +ℤ (t +ℤ m)) ≤ℤ w
    moved u t m h k = omega (arith, ints)

-- from the first corner so many reach at most the greatest potential
first_below_best : (corners : List PlanePoint) (layers : ℕ) (us : List ℤ) (best : Best) → IsTable corners layers (length corners) us best → (first : ℕ) → first < length corners → most_added corners first (suc layers) first ≤ℤ best.area
first_below_best corners layers us best t first f = elim (greatest_at (with_next corners first layers first) (first + 1) (length corners - (first + 1))) [
  | inl none ↦ subst (λ z. z ≤ℤ best.area) (sym none) t.greatest.not_negative
  | inr some ↦ subst (λ z. z ≤ℤ best.area) (sym some.1.is)
      (nothing (most_added corners first layers some.0) (turn_same (point_at corners first) (point_at corners some.0))
      (added_below_best corners layers us best t first 0 layers some.0 f (itself layers) (omega (arith, some.1.from)) (below_end some.0 some.1.below f)))
]
  where
    itself : (n : ℕ) → 0 + n ≤ n
    itself n = omega arith

    below_end : (i : ℕ) {n : ℕ} → i < first + 1 + (n - (first + 1)) → first < n → i < n
    below_end i h k = omega arith

    nothing : {t : ℤ} (m : ℤ) {b : ℤ} → t ≡ pos 0 → (pos 0 +ℤ m) ≤ℤ b → (t +ℤ m) ≤ℤ b
    nothing m e h = omega (arith, ints)

-- ---- the greatest potential is reached from its first corner

pub is_reached : (corners : List PlanePoint) (layers : ℕ) (us : List ℤ) (best : Best) → 0 < length corners → IsTable corners layers (length corners) us best → IsReached corners layers best
is_reached corners layers us best some t = elim t.greatest.stands [
  | inl none ↦ record {
    first = subst (λ n. n < length corners) (sym (t.none none)) some;
    not_negative = t.greatest.not_negative;
    small = t.greatest.small;
    alone = λ _. none;
    reached = subst (λ n. most_added corners best.first n best.first ≡ best.area) (one_up layers)
        (le_antisymm_ℤ (first_below_best corners layers us best t best.first (subst (λ n. n < length corners) (sym (t.none none)) some)) (subst (λ z. z ≤ℤ most_added corners best.first (suc layers) best.first) (sym none) (most_added-nonneg corners best.first (suc layers) best.first)));
  }
  | inr stands ↦
      let first : best.first < length corners = omega (arith, stands.first, stands.last) in
      record {
        first = first;
        not_negative = t.greatest.not_negative;
        small = t.greatest.small;
        alone = λ none. absurd (no_layer stands.some stands.layer none);
        reached = subst (λ n. most_added corners best.first n best.first ≡ best.area) (one_up layers)
            (le_antisymm_ℤ (first_below_best corners layers us best t best.first first)
            (le_trans_ℤ (and_nothing (subst (λ z. best.area ≤ℤ z) (sym stands.is) (itself best.area)))
            (le_trans_ℤ (potential_below corners layers us best t best.first best.layer 0 best.last first stands.layer stands.first stands.last)
            (subst (λ n. most_added corners best.first (best.layer + 0 + 1) best.first ≤ℤ most_added corners best.first n best.first) (as_many best.layer layers stands.layer) (added-longer corners best.first (best.layer + 0 + 1) (layers - best.layer) best.first)))));
      }
]
  where
    one_up : (n : ℕ) → suc n ≡ n + 1
    one_up n = omega arith

    no_layer : {l n : ℕ} → 1 ≤ l → l ≤ n → n ≡ 0 → ⊥
    no_layer h k e = omega arith

    itself : (z : ℤ) → z ≤ℤ z
    itself z = omega (arith, ints)

    and_nothing : {a b : ℤ} → a ≤ℤ b → a ≤ℤ (b +ℤ pos 0)
    and_nothing h = omega (arith, ints)

    as_many : (l n : ℕ) → l ≤ n → n - l + (l + 0 + 1) ≡ suc n
    as_many l n h = omega arith
