-- Sums over weighted pairs, one pair after another, and pairs within the limits.
use Rattle.std.proofs.Common.{◌≡◌, ◌↔◌, sym, subst, ap, ap₂, ◌∙◌, ℕ, zero, suc, ◌+◌, ◌<◌, ◌≤◌, ◌^◌, ℤ, pos, ◌+ℤ◌, ◌-ℤ◌, ◌*ℤ◌, ◌≤ℤ◌, ◌<ℤ◌, List, [], ◌∷◌, length, map, take, get_or, arith}
use Rattle.std.specs.Prelude.{All}
use Rattle.std.proofs.lemmas.Int.{ints}
use Rattle.std.proofs.lemmas.List.{map_more, length-map}
use Rattle.std.proofs.lemmas.List.Elements.{All-head, All-tail, All-map, All-weaker}
use Rattle.integers.specs.Total.{total}
use Rattle.integers.proofs.Sums.{total-one_more, total_nonneg_all, total_positive}
use Rattle.integers.proofs.Lists.{All-unmap}
use Rattle.bounds_model.specs.Space.{SpacePoint, point_at, squared_length}
use Rattle.bounds_model.specs.Fractions.{Fraction, SameValue}
use Rattle.bounds_model.specs.AnnulusAnswer as model
use Rattle.bounds_model.specs.Ranges.{number_limit, point_limit}
use Rattle.bounds_model.specs.AnnulusAnswer.{IsPairInRange, pair_sum}
use Rattle.bounds_model.specs.ShellAnswer.{weighted_differences}
use Rattle.answers.specs.declared.pairs.WeightedPair.{WeightedPair}
use Rattle.answers.specs.Answers.{pair_of}
use Rattle.ring_check.specs.declared.pairs.PairSums.{PairSums}
use Rattle.ring_check.specs.Rings.{IsSmallPair, AddsPair, AreSmallSums, ArePairSums, HavePairLimits, ShowSize, SumsShowSize}

-- ---- sums

-- a sum with one pair more
one_more : (f : model.WeightedPair → ℤ) (pairs : List WeightedPair) (i : ℕ) (none : WeightedPair) → i < length pairs
    → total f (map pair_of (take (i + 1) pairs)) ≡ total f (map pair_of (take i pairs)) +ℤ f (pair_of (get_or pairs i none))
one_more f pairs i none below = ap (total f) (map_more pair_of pairs i none below) ∙ total-one_more f (map pair_of (take i pairs)) (pair_of (get_or pairs i none))

-- the sums with one pair more, of these points
pub sums_more : (points : List SpacePoint) (pairs : List WeightedPair) (i : ℕ) (none : WeightedPair) (p q : SpacePoint) (old new : PairSums) → i < length pairs
    → point_at points (get_or pairs i none).first ≡ p → point_at points (get_or pairs i none).second ≡ q
    → ArePairSums points (map pair_of (take i pairs)) old → AddsPair (get_or pairs i none).weight p q old new → ArePairSums points (map pair_of (take (i + 1) pairs)) new
sums_more points pairs i none p q old new below p_is q_is sums adds = record {
  weight = ap pos adds.weight ∙ plain_weight old.weight w ∙ ap (λ z. z +ℤ pos w) sums.weight ∙ sym (one_more (λ pair. pair.weight) pairs i none below);
  x = adds.x ∙ differences (λ p. p.x) sums.x;
  y = adds.y ∙ differences (λ p. p.y) sums.y;
  z = adds.z ∙ differences (λ p. p.z) sums.z;
  squared_length = adds.squared_length ∙ differences squared_length sums.squared_length;
}
  where
    w : ℕ
    w = (get_or pairs i none).weight

    plain_weight : (m n : ℕ) → pos (m + n) ≡ pos m +ℤ pos n
    plain_weight m n = omega (arith, ints)

    differences : {s : ℤ} (f : SpacePoint → ℤ) → s ≡ weighted_differences points f (map pair_of (take i pairs)) → s +ℤ pos w *ℤ (f p -ℤ f q) ≡ weighted_differences points f (map pair_of (take (i + 1) pairs))
    differences {s} f e =
        ap₂ (λ z d. z +ℤ pos w *ℤ d) e (ap₂ (λ a b. f a -ℤ f b) (sym p_is) (sym q_is))
        ∙ sym (one_more (λ pair. pair.weight *ℤ (f (point_at points pair.first) -ℤ f (point_at points pair.second))) pairs i none below)

-- sums over few pairs are sums over more
pub more_room : {i n : ℕ} {s : PairSums} → i ≤ n → AreSmallSums i s → AreSmallSums n s
more_room {i} {n} {s} few h = record {
  weight = let a = h.weight in omega arith;
  x = let a = h.x.abs in record { abs = omega arith };
  y = let a = h.y.abs in record { abs = omega arith };
  z = let a = h.z.abs in record { abs = omega arith };
  squared_length = let a = h.squared_length.abs in record { abs = omega arith };
}

-- ---- weights

not_negative : (pairs : List model.WeightedPair) → All (λ pair. pos 1 ≤ℤ pair.weight) pairs → pos 0 ≤ℤ pair_sum pairs
not_negative pairs h = total_nonneg_all (λ pair. pair.weight) pairs (λ k d l. let one = h k d l in omega (arith, ints))

-- no weight is above the sum of all
no_more_than_all : (pairs : List model.WeightedPair) → All (λ pair. pos 1 ≤ℤ pair.weight) pairs → All (λ pair. pair.weight ≤ℤ pair_sum pairs) pairs
no_more_than_all [] h k d l = absurd (omega arith)
no_more_than_all (pair ∷ pairs) h zero d l = let rest = not_negative pairs (All-tail (λ (pair : model.WeightedPair). pos 1 ≤ℤ pair.weight) pair pairs h) in omega (arith, ints)
no_more_than_all (pair ∷ pairs) h (suc k) d l =
    let first = All-head (λ (pair : model.WeightedPair). pos 1 ≤ℤ pair.weight) pair pairs h in
    let below = no_more_than_all pairs (All-tail (λ (pair : model.WeightedPair). pos 1 ≤ℤ pair.weight) pair pairs h) k d (omega arith) in
    omega (arith, ints)

-- pairs within the limits are small
pub small_pairs : (limit count : ℕ) (pairs : List WeightedPair) → HavePairLimits limit count (map pair_of pairs) → All (IsSmallPair limit count) pairs
small_pairs limit count pairs h k d below =
    let named = All-unmap (λ pair. (pair.first < count) × (pair.second < count)) pair_of pairs h.numbers k d below in
    let some = All-unmap (λ pair. pos 1 ≤ℤ pair.weight) pair_of pairs h.weights k d below in
    let most = All-unmap (λ pair. pair.weight ≤ℤ pair_sum (map pair_of pairs)) pair_of pairs (no_more_than_all (map pair_of pairs) h.weights) k d below in
    (named.0, named.1, at_least _ some, within _ _ most h.weight_limit)
  where
    at_least : (n : ℕ) → pos 1 ≤ℤ pos n → 1 ≤ n
    at_least n h = omega (arith, ints)

    within : (n : ℕ) (all : ℤ) → pos n ≤ℤ all → all ≤ℤ pos limit → n ≤ limit
    within n all h k = omega (arith, ints)

-- and small ones with this sum are within the limits
pub pair_limits : (limit count weight : ℕ) (pairs : List WeightedPair) → 1 ≤ length pairs → All (IsSmallPair limit count) pairs → pos weight ≡ pair_sum (map pair_of pairs) → weight ≤ limit → HavePairLimits limit count (map pair_of pairs)
pair_limits limit count weight pairs some small sum light = record {
  some = subst (λ n. 1 ≤ n) (sym (length-map pairs pair_of)) some;
  numbers = All-map (λ pair. (pair.first < count) × (pair.second < count)) pair_of pairs
      (All-weaker (IsSmallPair limit count) (λ (pair : WeightedPair). (pair.first < count) × (pair.second < count)) (λ pair small. (small.0, small.1)) pairs small);
  weights = small_weights limit count pairs small;
  weight_limit = subst (λ z. z ≤ℤ pos limit) sum (natural light);
}
  where
    natural : {n m : ℕ} → n ≤ m → pos n ≤ℤ pos m
    natural h = omega (arith, ints)

    small_weights : (limit count : ℕ) (pairs : List WeightedPair) → All (IsSmallPair limit count) pairs → All (λ pair. pos 1 ≤ℤ pair.weight) (map pair_of pairs)
    small_weights limit count pairs small =
        All-map (λ pair. pos 1 ≤ℤ pair.weight) pair_of pairs (All-weaker (IsSmallPair limit count) (λ (pair : WeightedPair). pos 1 ≤ℤ pos pair.weight) (λ pair small. at_least small.2) pairs small)
      where
        at_least : {n : ℕ} → 1 ≤ n → pos 1 ≤ℤ pos n
        at_least h = omega (arith, ints)

-- the weights of pairs have a sum of at least 1
pub some_weight : (limit count n : ℕ) (pairs : List WeightedPair) → 1 ≤ length pairs → All (IsSmallPair limit count) pairs → pos n ≡ pair_sum (map pair_of pairs) → 1 ≤ n
some_weight limit count n pairs some small e =
    conclude n (subst (λ m. pos 0 <ℤ m) (sym e) (total_positive (λ (pair : model.WeightedPair). pair.weight) (map pair_of pairs) (subst (λ n. 0 < n) (sym (length-map pairs pair_of)) (omega arith))
    (All-map (λ (pair : model.WeightedPair). pos 0 <ℤ pair.weight) pair_of pairs (All-weaker (IsSmallPair limit count) (λ (pair : WeightedPair). pos 0 <ℤ pos pair.weight) (λ pair small. above small.2) pairs small))))
  where
    above : {n : ℕ} → 1 ≤ n → pos 0 <ℤ pos n
    above h = omega (arith, ints)

    conclude : (n : ℕ) → pos 0 <ℤ pos n → 1 ≤ n
    conclude n h = omega (arith, ints)

-- pairs with a lower limit are pairs with a higher one
pub wider_pairs : (limit count : ℕ) (pairs : List WeightedPair) → limit ≤ 2 ^ 50 → All (IsSmallPair limit count) pairs → All (IsSmallPair (2 ^ 50) count) pairs
wider_pairs limit count pairs few small = All-weaker (IsSmallPair limit count) (IsSmallPair (2 ^ 50) count) (λ pair h. (h.0, h.1, h.2, more h.3 few)) pairs small
  where
    more : {n m : ℕ} → n ≤ m → m ≤ 2 ^ 50 → n ≤ 2 ^ 50
    more h k = omega arith

-- pairs within the limits have numbers in their ranges
pub pairs_in_range : (limit count : ℕ) (pairs : List WeightedPair) → limit ≤ 2 ^ 50 → count ≤ 10000 → HavePairLimits limit count (map pair_of pairs) → All IsPairInRange (map pair_of pairs)
pairs_in_range limit count pairs light few limits =
    All-map IsPairInRange pair_of pairs (All-weaker (IsSmallPair limit count) (λ pair. IsPairInRange (pair_of pair)) (λ pair small. (number few small.0, number few small.1, record { low = low pair.weight; high = high small.3 light })) pairs
    (small_pairs limit count pairs limits))
  where
    number : {i n : ℕ} → n ≤ 10000 → i < n → i ≤ point_limit
    number h k = omega arith

    low : (n : ℕ) → pos 0 ≤ℤ pos n
    low n = omega (arith, ints)

    high : {n m : ℕ} → n ≤ m → m ≤ 2 ^ 50 → pos n ≤ℤ pos number_limit
    high h k = omega (arith, ints)

-- ---- what decides

-- the pairs show the size exactly where the sums do
pub sums_decide : (points : List SpacePoint) (size : Fraction) (pairs : List model.WeightedPair) (limit : ℕ) (s : PairSums) → HavePairLimits limit (length points) pairs → ArePairSums points pairs s → SumsShowSize size s ↔ ShowSize limit points size pairs
sums_decide points size pairs limit s limits sums = (
  λ h. record {
    limits = limits;
    balanced_x = sym sums.x ∙ h.balanced_x;
    balanced_y = sym sums.y ∙ h.balanced_y;
    balanced_z = sym sums.z ∙ h.balanced_z;
    mean = (h.mean.0, subst (λ z. SameValue size (record { n = weighted_differences points squared_length pairs; d = z })) sums.weight (subst (λ z. SameValue size (record { n = z; d = pos s.weight })) sums.squared_length h.mean.1));
  },
  λ h. record {
    balanced_x = sums.x ∙ h.balanced_x;
    balanced_y = sums.y ∙ h.balanced_y;
    balanced_z = sums.z ∙ h.balanced_z;
    mean = (h.mean.0, subst (λ z. SameValue size (record { n = s.squared_length; d = z })) (sym sums.weight) (subst (λ z. SameValue size (record { n = z; d = pair_sum pairs })) (sym sums.squared_length) h.mean.1));
  },
)
