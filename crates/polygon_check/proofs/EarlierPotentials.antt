-- The potentials that stand before those of a first corner are those of the first corners before it.
use Rattle.std.proofs.Common.{◌≡◌, sym, subst, ap, ◌∙◌, ◌↔◌, inl, inr, ℕ, zero, suc, ◌+◌, ◌-◌, ◌*◌, ◌/◌, ◌%◌, ◌<◌, ◌≤◌, arith, rules, true, ℤ, pos, ◌<ℤ◌, List, length, map, take, get_or}
use Rattle.std.specs.Prelude.{All, nat_lt, if◌then◌else◌}
use Rattle.std.proofs.Math.Nat.{mod-lt}
use Rattle.std.proofs.lemmas.Nat.{div-add-mod'}
use Rattle.std.proofs.lemmas.Int.{ints}
use Rattle.std.proofs.lemmas.List.{get_or-map, get_or-take, length-take-le}
use native.Mathlib.Nat.{mul-le-mul_left, mul-le-mul_right}
use Rattle.integers.proofs.Lists.{before_or_after}
use Rattle.bounds_model.specs.Numbers.{EachBelow}
use Rattle.bounds_model.specs.KgonAnswer.{KgonAnswer, pairs_before, potential}
use Rattle.model_laws.proofs.PairCounts.{pairs-next}
use Rattle.polygon_check.specs.PotentialRows.{at}
use Rattle.polygon_check.specs.FirstTests.{AreSmaller}
use Rattle.polygon_check.proofs.ReadPotentials.{pairs-up}

-- where a potential stands
abbrev pub place_of : KgonAnswer → ℕ → ℕ → ℕ → ℕ
place_of a first layer last = a.layers * pairs_before (length a.corners) first + layer * (length a.corners - 1 - first) + (last - first - 1)

read : (a : KgonAnswer) (first layer last : ℕ) → potential a first (layer + 1) last ≡ at a.potentials (place_of a first layer last)
read a first layer last =
    ap (λ yes. if yes then at a.potentials (a.layers * pairs_before (length a.corners) first + (layer + 1 - 1) * (length a.corners - 1 - first) + (last - first - 1)) else pos 0) (positive layer)
    ∙ ap (λ l. at a.potentials (a.layers * pairs_before (length a.corners) first + l * (length a.corners - 1 - first) + (last - first - 1))) (back layer)
  where
    positive : (k : ℕ) → nat_lt 0 (k + 1) ≡ true
    positive k = first_of (search rules, grind arith)

    back : (k : ℕ) → k + 1 - 1 ≡ k
    back k = omega arith

-- the potentials of the next first corner begin behind those of this one
next_begins : (layers count first : ℕ) → first < count → layers * pairs_before count (first + 1) ≡ layers * pairs_before count first + layers * (count - 1 - first)
next_begins layers count first below = ap (λ n. layers * n) (pairs-next count first below) ∙ spread layers (pairs_before count first) (count - 1 - first)
  where
    spread : (l x n : ℕ) → l * (x + n) ≡ l * x + l * n
    spread l x n = omega arith

-- each potential of an earlier first corner stands before
stands_before : (a : KgonAnswer) (first earlier layer last : ℕ) → first ≤ length a.corners → earlier < first → last < length a.corners → earlier < last → layer < a.layers
    → place_of a earlier layer last < a.layers * pairs_before (length a.corners) first
stands_before a first earlier layer last limit before below after low =
    under (a.layers * pairs_before (length a.corners) earlier) (layer * (length a.corners - 1 - earlier)) (one_row layer (length a.corners - 1 - earlier) (mul-le-mul_right (length a.corners - 1 - earlier) (up low))) (in_row after below)
    (next_begins a.layers (length a.corners) earlier (through before limit)) (mul-le-mul_left a.layers (pairs-up (length a.corners) (earlier + 1) first (up before) limit))
  where
    up : {m n : ℕ} → m < n → m + 1 ≤ n
    up h = omega arith

    through : {m n k : ℕ} → m < n → n ≤ k → m < k
    through h k = omega arith

    in_row : {m n : ℕ} → earlier < m → m < n → m - earlier - 1 < n - 1 - earlier
    in_row h k = omega arith

    one_row : (l w : ℕ) {n : ℕ} → (l + 1) * w ≤ n → l * w + w ≤ n
    one_row l w h = omega arith

    under : (p r : ℕ) {w j n q e : ℕ} → r + w ≤ n → j < w → q ≡ p + n → q ≤ e → p + r + j < e
    under p r h k f g = omega arith

-- and each that stands before is one of them
is_earlier : (a : KgonAnswer) (limit : ℤ) (first : ℕ) → first ≤ length a.corners → EachBelow first (AreSmaller a limit) → (i : ℕ) → i < a.layers * pairs_before (length a.corners) first → at a.potentials i <ℤ limit
is_earlier a limit zero inside all i low = absurd (none low (ap (λ n. a.layers * n) (no_pairs (length a.corners))))
  where
    no_pairs : (n : ℕ) → pairs_before n 0 ≡ 0
    no_pairs n = omega arith

    none : {e : ℕ} → i < e → e ≡ a.layers * 0 → ⊥
    none h e = omega arith
is_earlier a limit (suc first) inside all i low = elim (before_or_after i (a.layers * pairs_before (length a.corners) first)) [
  | inl before ↦ is_earlier a limit first (less inside) (λ earlier h. all earlier (more h)) i before
  | inr after ↦
      let width = length a.corners - 1 - first in
      let r = i - a.layers * pairs_before (length a.corners) first in
      let ends = ap (λ m. a.layers * pairs_before (length a.corners) m) (one_up first) ∙ next_begins a.layers (length a.corners) first (up inside) in
      let in_rows : r < a.layers * width = behind after low ends in
      let wide : 0 < width = some_width a.layers width in_rows in
      let layer_low : r / width < a.layers = by_rows a.layers width (r / width) (r % width) (div-add-mod' r width) in_rows in
      let j_low : r % width < width = mod-lt r wide in
      subst (λ k. at a.potentials k <ℤ limit) (there first (a.layers * pairs_before (length a.corners) first) (r / width * width) (r % width) after (div-add-mod' r width))
      (subst (λ z. z <ℤ limit) (read a first (r / width) (first + 1 + r % width)) (all first (itself first) (first + 1 + r % width) (in_list j_low) (later first (r % width)) (r / width) layer_low))
]
  where
    one_up : (n : ℕ) → suc n ≡ n + 1
    one_up n = omega arith

    up : {m n : ℕ} → suc m ≤ n → m < n
    up h = omega arith

    less : {m n : ℕ} → suc m ≤ n → m ≤ n
    less h = omega arith

    more : {k m : ℕ} → k < m → k < suc m
    more h = omega arith

    itself : (n : ℕ) → n < suc n
    itself n = omega arith

    behind : {s e n : ℕ} → s ≤ i → i < e → e ≡ s + n → i - s < n
    behind h k f = omega arith

    some_width : (l w : ℕ) {r : ℕ} → r < l * w → 0 < w
    some_width l zero h = absurd (none l h)
      where
        none : (l : ℕ) {r : ℕ} → r < l * 0 → ⊥
        none l h = omega arith
    some_width l (suc w) h = omega arith

    by_rows : (l w q j : ℕ) {r : ℕ} → q * w + j ≡ r → r < l * w → q < l
    by_rows l w q j e h = elim (before_or_after q l) [ inl low ↦ low | inr high ↦ absurd (too_far (l * w) (q * w) (mul-le-mul_right w high) e h) ]
      where
        too_far : (x y : ℕ) {r : ℕ} → x ≤ y → y + j ≡ r → r < x → ⊥
        too_far x y h e k = omega arith

    in_list : {j : ℕ} → j < length a.corners - 1 - first → first + 1 + j < length a.corners
    in_list h = omega arith

    later : (f j : ℕ) → f < f + 1 + j
    later f j = omega arith

    there : (f s q j : ℕ) → s ≤ i → q + j ≡ i - s → s + q + (f + 1 + j - f - 1) ≡ i
    there f s q j h e = omega arith

-- they are within the list
pub earlier_within : (layers count first total : ℕ) → total ≡ layers * pairs_before count count → first ≤ count → layers * pairs_before count first ≤ total
earlier_within layers count first total is inside = subst (λ n. layers * pairs_before count first ≤ n) (sym is) (mul-le-mul_left layers (pairs-up count first count inside (itself count)))
  where
    itself : (n : ℕ) → n ≤ n
    itself n = omega arith

-- so those that stand before are all below a number where the earlier ones are
pub earlier_smaller : (a : KgonAnswer) (us : List ℕ) (limit : ℤ) (m first : ℕ) → a.potentials ≡ map pos us → limit ≡ pos m → length us ≡ a.layers * pairs_before (length a.corners) (length a.corners) → first ≤ length a.corners
    → All (λ u. u < m) (take (a.layers * pairs_before (length a.corners) first) us) ↔ EachBelow first (AreSmaller a limit)
earlier_smaller a us limit m first same is as_many inside =
    by_end (a.layers * pairs_before (length a.corners) first) (earlier_within a.layers (length a.corners) first (length us) as_many inside)
    (λ earlier before last below after layer low. stands_before a first earlier layer last inside before below after low) (λ h i low. is_earlier a limit first inside h i low)
  where
    by_end : (end : ℕ) → end ≤ length us
        → ((earlier : ℕ) → earlier < first → (last : ℕ) → last < length a.corners → earlier < last → (layer : ℕ) → layer < a.layers → place_of a earlier layer last < end)
        → (EachBelow first (AreSmaller a limit) → (i : ℕ) → i < end → at a.potentials i <ℤ limit)
        → All (λ u. u < m) (take end us) ↔ EachBelow first (AreSmaller a limit)
    by_end end fits stands found = (
      λ h earlier before last below after layer low.
          let there = stands earlier before last below after layer low in
          subst (λ z. z <ℤ limit) (sym (read a earlier layer last ∙ number (place_of a earlier layer last) 0 there)) (up is (h (place_of a earlier layer last) 0 (subst (λ n. place_of a earlier layer last < n) (sym taken) there))),
      λ h i d low. let there = subst (λ n. i < n) taken low in down is (subst (λ z. z <ℤ limit) (number i d there) (found h i there)),
    )
      where
        taken : length (take end us) ≡ end
        taken = length-take-le end us fits

        through : {i n : ℕ} → i < end → end ≤ n → i < n
        through h k = omega arith

        number : (i d : ℕ) → i < end → at a.potentials i ≡ pos (get_or (take end us) i d)
        number i d h = ap (λ xs. at xs i) same ∙ get_or-map pos us i d (pos 0) (through h fits) ∙ ap pos (sym (get_or-take end us i d h))

        up : {u : ℕ} → limit ≡ pos m → u < m → pos u <ℤ limit
        up e h = omega (arith, ints)

        down : {u : ℕ} → limit ≡ pos m → pos u <ℤ limit → u < m
        down e h = omega (arith, ints)
