-- Strides that are halved.
use Rattle.std.proofs.Common.{◌≡◌, ◌≢◌, subst, sym, ap, ap₂, ◌∙◌, inl, inr, ℕ, zero, suc, ◌+◌, ◌*◌, ◌-◌, ◌^◌, ◌<◌, ◌≤◌, ◌/◌, ◌%◌, arith, List, length, set, ℤ, ◌≤ℤ◌, ◌<ℤ◌}
use Rattle.std.proofs.Math.Nat.{mod-eq_of_lt, mod-lt, add-mod_right, mul-le-mul_left}
use Rattle.std.proofs.Math.Pow.{pow_mono}
use Rattle.std.proofs.lemmas.List.{get_or-set_same, get_or-set_other, length-set}
use Rattle.integers.proofs.Lists.{before_or_after}
use Rattle.bounds_model.specs.Plane.{PlanePoint, squared_distance}
use Rattle.bounds_model.specs.Hull.{around, AreCorners}
use Rattle.bounds_model.specs.Furthest.{positions_after, IsFurthest}
use Rattle.furthest_laws.specs.Rows.{IsFirstGreatest, IsRowGreatest, distances}
use Rattle.furthest_laws.proofs.Rounds.{around_again, is_after}
use Rattle.furthest_laws.proofs.Named.{furthest_of_row, only_furthest}
use Rattle.furthest.specs.Columns.{HasColumns, IsLogarithm, NamesFurthest, column_at}
use Rattle.furthest.proofs.Strides.{IsRight, twice_power}

-- ---- the first row

-- a round later the row is the same
round_later : (corners : List PlanePoint) (x : ℕ) → IsRowGreatest (distances corners) (length corners) 0 x → IsRowGreatest (distances corners) (length corners) (length corners) (x + length corners)
round_later corners x r = record {
  from_first = omega (arith, r.from_first);
  to_last = omega (arith, r.to_last);
  before = λ k low high.
      let e = back k (length corners) low in
      subst (λ n. value n <ℤ value (x + length corners)) (sym e.1) (subst (λ z. value (e.0 + length corners) <ℤ z) (sym (same x))
      (subst (λ z. z <ℤ distances corners 0 x) (sym (same e.0)) (r.before e.0 (omega (arith, e.1, low)) (omega (arith, e.1, high)))));
  after = λ k low high.
      let e = back k (length corners) (omega (arith, low, r.from_first)) in
      subst (λ n. value n ≤ℤ value (x + length corners)) (sym e.1) (subst (λ z. value (e.0 + length corners) ≤ℤ z) (sym (same x))
      (subst (λ z. z ≤ℤ distances corners 0 x) (sym (same e.0)) (r.after e.0 (omega (arith, e.1, low)) (omega (arith, e.1, high)))));
}
  where
    value : ℕ → ℤ
    value k = squared_distance (around corners (length corners)) (around corners k)

    same : (k : ℕ) → squared_distance (around corners (length corners)) (around corners (k + length corners)) ≡ distances corners 0 k
    same k = ap₂ squared_distance (ap (around corners) (let e : length corners ≡ 0 + length corners = omega arith in e) ∙ around_again corners 0) (around_again corners k)

    back : (k h : ℕ) → h + 1 ≤ k → (n : ℕ) × (k ≡ n + h)
    back k h low = (k - h, omega (arith, low))

-- the columns with those of the first row and of the next round's first
pub first_columns : (corners : List PlanePoint) (columns : List ℕ) (first stride : ℕ) → 2 ≤ length corners → length columns ≡ length corners + 1
    → IsFirstGreatest (distances corners 0) 1 (length corners) first → length corners ≤ stride
    → HasColumns corners stride (set (set columns 0 first) (length corners) (first + length corners))
first_columns corners columns first stride two as_many found wide = record {
  as_many = length-set (set columns 0 first) (length corners) (first + length corners) ∙ length-set columns 0 first ∙ as_many;
  last = subst (IsRowGreatest (distances corners) (length corners) (length corners))
      (sym (get_or-set_same (set columns 0 first) (length corners) (first + length corners) 0 (subst (λ n. length corners < n) (sym (length-set columns 0 first ∙ as_many)) (omega arith))))
      (round_later corners first row);
  each = λ t low. subst (IsRight corners (set (set columns 0 first) (length corners) (first + length corners))) (sym (none t stride (length corners) low wide)) here;
}
  where
    row : IsRowGreatest (distances corners) (length corners) 0 first
    row = subst (λ n. IsFirstGreatest (distances corners 0) 1 n first) (let e : length corners ≡ 0 + length corners = omega arith in e) found

    other : 0 ≢ length corners
    other e = absurd (omega (arith, two, e))

    here : IsRight corners (set (set columns 0 first) (length corners) (first + length corners)) 0
    here = subst (IsRowGreatest (distances corners) (length corners) 0) (sym (get_or-set_other (set columns 0 first) (length corners) 0 (first + length corners) 0 other
        ∙ get_or-set_same columns 0 first 0 (omega (arith, as_many)))) row

    none : (t s h : ℕ) → t * s < h → h ≤ s → t * s ≡ 0
    none zero s h l w = omega arith
    none (suc t) s h l w = absurd (let e : suc t * s ≡ t * s + s = omega arith in omega (arith, e, l, w))

-- ---- halving

-- the columns of the multiples of a stride that is a power of two, with the steps
pub record IsHalving (corners : List PlanePoint) (stride : ℕ) (columns : List ℕ) (base steps : ℕ) : Type 0 where
  pub has : HasColumns corners stride columns
  pub power : (m : ℕ) × (stride ≡ 2 ^ m)
  pub small : stride < 2 * length corners
  pub cost : (b m : ℕ) → IsLogarithm (2 * length corners + 1) b → stride ≡ 2 ^ m → steps + 5 * length corners * m ≤ base + length corners + 5 * length corners * b

pub halving_start : (corners : List PlanePoint) (columns : List ℕ) (first stride base steps : ℕ) → 2 ≤ length corners → length columns ≡ length corners + 1
    → IsFirstGreatest (distances corners 0) 1 (length corners) first → (m : ℕ) × (stride ≡ 2 ^ m) → length corners ≤ stride → stride < 2 * length corners
    → steps + 1 ≡ base + length corners + 1 → IsHalving corners stride (set (set columns 0 first) (length corners) (first + length corners)) base steps
halving_start corners columns first stride base steps two as_many found power wide small cost = record {
  has = first_columns corners columns first stride two as_many found wide;
  power = power;
  small = small;
  cost = λ b m log is. enough (length corners) m b base steps (most m b (few (2 ^ m) (length corners) (2 ^ (b + 1)) (subst (λ n. n < 2 * length corners) is small) log.greatest)) cost;
}
  where
    few : (p h q : ℕ) → p < 2 * h → 2 * h + 1 < q → p < q
    few p h q l k = omega (arith, l, k)

    most : (m b : ℕ) → 2 ^ m < 2 ^ (b + 1) → m ≤ b
    most m b l = elim (before_or_after b m) [
      | inl more ↦ absurd (clash (2 ^ m) (2 ^ (b + 1)) l (pow_mono (let e : b + 1 ≤ m = omega (arith, more) in e)))
      | inr not_more ↦ not_more
    ]
      where
        clash : (a b : ℕ) → a < b → b ≤ a → ⊥
        clash a b h k = omega (arith, h, k)

    enough : (h m b base steps : ℕ) → m ≤ b → steps + 1 ≡ base + h + 1 → steps + 5 * h * m ≤ base + h + 5 * h * b
    enough h m b base steps l e = plain (5 * h * m) (5 * h * b) (times (5 * h) m b l)
      where
        times : (k m b : ℕ) → m ≤ b → k * m ≤ k * b
        times k m b l = mul-le-mul_left k l

        plain : (x y : ℕ) → x ≤ y → steps + x ≤ base + h + y
        plain x y l = omega (arith, l, e)

-- half of a power of two that is more than 1
pub half_of : (stride : ℕ) → (m : ℕ) × (stride ≡ 2 ^ m) → 1 < stride → (k : ℕ) × (stride ≡ 2 * (stride / 2)) × (stride / 2 ≡ 2 ^ k)
half_of stride power more = by_power power.0 power.1
  where
    by_power : (m : ℕ) → stride ≡ 2 ^ m → (k : ℕ) × (stride ≡ 2 * (stride / 2)) × (stride / 2 ≡ 2 ^ k)
    by_power zero e = absurd (omega (arith, more, e))
    by_power (suc k) e =
        let twice : stride ≡ 2 ^ k * 2 = e ∙ ap (λ n. 2 ^ n) (let f : suc k ≡ k + 1 = omega arith in f) ∙ twice_power k in
        (k, plain stride (2 ^ k) twice, half stride (2 ^ k) twice)
      where
        plain : (s p : ℕ) → s ≡ p * 2 → s ≡ 2 * (s / 2)
        plain s p e = omega (arith, e)

        half : (s p : ℕ) → s ≡ p * 2 → s / 2 ≡ p
        half s p e = omega (arith, e)

-- what filling asks
pub half_asks : (corners : List PlanePoint) (stride base steps : ℕ) (columns : List ℕ) → 1 < stride → IsHalving corners stride columns base steps
    → HasColumns corners (2 * (stride / 2)) columns × (1 ≤ stride / 2) × (stride / 2 < length corners)
half_asks corners stride base steps columns more h =
    let half = half_of stride h.power more in
    (subst (λ s. HasColumns corners s columns) half.1 h.has, omega (arith, more), omega (arith, h.small))

pub halving_more : (corners : List PlanePoint) (stride base steps later : ℕ) (columns new : List ℕ) → 1 < stride → IsHalving corners stride columns base steps
    → HasColumns corners (stride / 2) new → later ≤ steps + 5 * length corners → IsHalving corners (stride / 2) new base later
halving_more corners stride base steps later columns new more h has cost =
    let half = half_of stride h.power more in
    record {
      has = has;
      power = (half.0, half.2);
      small = omega (arith, h.small);
      cost = λ b m log is. one_less (length corners) m (base + length corners + 5 * length corners * b) cost (h.cost b (m + 1) log (half.1 ∙ ap (λ n. 2 * n) is ∙ twice (2 ^ m) ∙ sym (twice_power m)));
    }
  where
    twice : (p : ℕ) → 2 * p ≡ p * 2
    twice p = omega arith

    one_less : (h m most : ℕ) → later ≤ steps + 5 * h → steps + 5 * h * (m + 1) ≤ most → later + 5 * h * m ≤ most
    one_less h m most few l = omega (arith, l, few)

pub halving_end : (corners : List PlanePoint) (stride base steps : ℕ) (columns : List ℕ) → stride ≤ 1 → IsHalving corners stride columns base steps
    → HasColumns corners 1 columns × ((b : ℕ) → IsLogarithm (2 * length corners + 1) b → steps ≤ base + length corners + 5 * length corners * b)
halving_end corners stride base steps columns few h =
    let one : stride ≡ 1 = only stride h.power few in
    (subst (λ s. HasColumns corners s columns) one h.has, λ b log. plain (length corners) b (h.cost b 0 log one))
  where
    only : (s : ℕ) → (m : ℕ) × (s ≡ 2 ^ m) → s ≤ 1 → s ≡ 1
    only s power l = at_least (2 ^ power.0) power.1 (pow_mono (let e : 0 ≤ power.0 = omega arith in e))
      where
        at_least : (p : ℕ) → s ≡ p → 1 ≤ p → s ≡ 1
        at_least p e k = omega (arith, e, k, l)

    plain : (h b : ℕ) → steps + 5 * h * 0 ≤ base + h + 5 * h * b → steps ≤ base + h + 5 * h * b
    plain h b l = omega (arith, l)

-- ---- the positions that columns name

-- a column less than a round on, as it is counted from its row
column_back : (h i x : ℕ) → i < h → i < x → x < i + h → i + positions_after h i (x % h) ≡ x
column_back h i x low after below = elim (before_or_after x h) [
  | inl first ↦
      let e : x % h ≡ x = mod-eq_of_lt first in
      ap (λ n. i + positions_after h i n) e ∙ elim (is_after h i x low first) [ inl next ↦ next.1 | inr before ↦ absurd (omega (arith, before.0, after)) ]
  | inr second ↦
      let low' : x - h < h = omega (arith, second, below, low) in
      let e : x % h ≡ x - h = ap (λ n. n % h) (let f : x ≡ x - h + h = omega (arith, second) in f) ∙ add-mod_right (x - h) h ∙ mod-eq_of_lt low' in
      ap (λ n. i + positions_after h i n) e ∙ elim (is_after h i (x - h) low low')
      [ inl next ↦ absurd (omega (arith, next.0, below, second)) | inr before ↦ back (positions_after h i (x - h)) second before.1 ]
]
  where
    back : (s : ℕ) → h ≤ x → i + s ≡ x - h + h → i + s ≡ x
    back s l e = omega (arith, e, l)

pub columns_name : (points corners : List PlanePoint) (columns : List ℕ) → AreCorners points corners → 2 ≤ length corners → HasColumns corners 1 columns → NamesFurthest corners columns
columns_name points corners columns hull two h = record {
  enough = omega (arith, h.as_many);
  within = λ i low. omega (arith, low, (row i low).to_last);
  furthest = λ i low. furthest_of_row points corners i (column_at columns i % length corners) hull two low (mod-lt (column_at columns i) (omega (arith, two)))
      (subst (IsRowGreatest (distances corners) (length corners) i) (sym (column_back (length corners) i (column_at columns i) low (omega (arith, (row i low).from_first))
      (row i low).to_last)) (row i low));
}
  where
    row : (i : ℕ) → i < length corners → IsRowGreatest (distances corners) (length corners) i (column_at columns i)
    row i low = let e : i * 1 ≡ i = omega arith in subst (IsRight corners columns) e (h.each i (subst (λ n. n < length corners) (sym e) low))

-- one corner is its own
pub one_names : (corners : List PlanePoint) (columns : List ℕ) → length corners ≡ 1 → length columns ≡ 2 → column_at columns 0 ≡ 0 → NamesFurthest corners columns
one_names corners columns one two zero_there = record {
  enough = omega (arith, one, two);
  within = λ i low. subst (λ n. column_at columns n < 2 * length corners) (only i low) (omega (arith, zero_there, one));
  furthest = λ i low. subst (λ n. IsFurthest corners n (column_at columns n % length corners)) (only i low) (subst (λ n. IsFurthest corners 0 n) (sym here) (only_furthest corners one));
}
  where
    only : (i : ℕ) → i < length corners → 0 ≡ i
    only i low = omega (arith, low, one)

    here : column_at columns 0 % length corners ≡ 0
    here = ap (λ n. n % length corners) zero_there ∙ mod-eq_of_lt (let l : 0 < length corners = omega (arith, one) in l)
