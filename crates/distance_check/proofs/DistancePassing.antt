-- What pairs within their limits show, by their sums and the points of the first pair.
use Rattle.std.proofs.Common.{◌≡◌, sym, subst, ap, ◌∙◌, ℕ, ◌<◌, ◌≤◌, ℤ, pos, ◌+ℤ◌, ◌-ℤ◌, ◌*ℤ◌, ◌≤ℤ◌, List, [], ◌∷◌, length, map, get_or, Bool, false, IsTrue, ◌↔◌, arith}
use Rattle.std.specs.Prelude.{All, slice_get, Some}
use Rattle.std.proofs.lemmas.Int.{ints}
use Rattle.std.proofs.lemmas.List.{get_or-map}
use Rattle.std.proofs.lemmas.List.Elements.{All-map}
use Rattle.integers.proofs.Identities.{den-ring, read, polys}
use Rattle.integers.proofs.Order.{nonneg_add, nonneg_difference, le_by}
use Rattle.bounds_model.specs.Space.{SpacePoint, point_at, vector, dot, SamePlace}
use Rattle.bounds_model.specs.Fractions.{SameValue}
use Rattle.bounds_model.specs.Ranges.{IsFraction, IsSpaceRatio}
use Rattle.bounds_model.specs.AnnulusAnswer as model
use Rattle.bounds_model.specs.AnnulusAnswer.{pair_sum}
use Rattle.bounds_model.specs.DistanceAnswer.{DistanceAnswer, difference, pull, first_product, IsDirectionOf, PassesDistance}
use Rattle.answers.specs.declared.pairs.WeightedPair.{WeightedPair}
use Rattle.answers.specs.Answers.{pair_of}
use Rattle.pair_sums.specs.declared.sums.PairSums.{PairSums}
use Rattle.pair_sums.specs.Sums.{AreSums, pull_of}
use Rattle.pair_sums.specs.Means.{mean_of, product_ratio}
use Rattle.pair_sums.proofs.PairWeights.{in_ranges}
use Rattle.pair_sums.proofs.Products.{pull_is, first_product_is, product_ratio_is, product_nonneg}
use Rattle.pair_sums.proofs.WeightedMeans.{first_mean_is, second_mean_is}
use Rattle.distance_check.specs.DeterminedDistances.{HasPairLimits, ArePairSums, IsShown, AreNumbers}
use Rattle.distance_check.proofs.PairLimits.{no_pair, some_pairs, at_number}
use Rattle.integers.proofs.Lists.{All-unmap, at_point, clash}

-- ---- the points on the two sides

-- from q to p it is as far as from the second point to the first, and what both are beyond them
parts : (v first second p q : SpacePoint) → dot v (vector q p) -ℤ dot v (vector second first) ≡ dot v (vector first p) +ℤ dot v (vector q second)
parts v first second p q = plain v.x v.y v.z first.x first.y first.z second.x second.y second.z p.x p.y p.z q.x q.y q.z
  where
    plain : (a b c d e f g h i j k l m n o : ℤ)
        → a *ℤ (j -ℤ m) +ℤ b *ℤ (k -ℤ n) +ℤ c *ℤ (l -ℤ o) -ℤ (a *ℤ (d -ℤ g) +ℤ b *ℤ (e -ℤ h) +ℤ c *ℤ (f -ℤ i)) ≡ a *ℤ (j -ℤ d) +ℤ b *ℤ (k -ℤ e) +ℤ c *ℤ (l -ℤ f) +ℤ (a *ℤ (g -ℤ m) +ℤ b *ℤ (h -ℤ n) +ℤ c *ℤ (i -ℤ o))
    plain a b c d e f g h i j k l m n o =
        read (a ∷ b ∷ c ∷ d ∷ e ∷ f ∷ g ∷ h ∷ i ∷ j ∷ k ∷ l ∷ m ∷ n ∷ o ∷ [])
        (λ xs p q r s t u v w x y z aa bb ee dd. simp (p, q, r, s, t, u, v, w, x, y, z, aa, bb, ee, dd, polys) (den-ring xs _ _ tt))

-- where no point of the one set is before the first, and none of the other beyond the second, no difference has a smaller product
pub no_smaller_by : (ps qs : List SpacePoint) (v first second : SpacePoint) → All (λ p. pos 0 ≤ℤ dot v (vector first p)) ps → All (λ q. pos 0 ≤ℤ dot v (vector q second)) qs
    → All (λ p. All (λ q. dot v (vector second first) ≤ℤ dot v (vector q p)) qs) ps
no_smaller_by ps qs v first second before beyond i d l j e m = le_by (nonneg_add (before i d l) (beyond j e m)) (parts v first second (get_or ps i d) (get_or qs j e))

-- and back, where the two are points of the sets
pub none_before_by : (ps qs : List SpacePoint) (v first second : SpacePoint) (j : ℕ) → slice_get qs j ≡ Some second → All (λ p. All (λ q. dot v (vector second first) ≤ℤ dot v (vector q p)) qs) ps
    → All (λ p. pos 0 ≤ℤ dot v (vector first p)) ps
none_before_by ps qs v first second j at none i d l =
    let p = get_or ps i d in
    subst (λ z. pos 0 ≤ℤ z) (alone v.x v.y v.z first.x first.y first.z second.x second.y second.z p.x p.y p.z) (nonneg_difference (at_point (λ q. dot v (vector second first) ≤ℤ dot v (vector q p)) qs j second at (none i d l)))
  where
    alone : (a b c d e f g h i j k l : ℤ) → a *ℤ (j -ℤ g) +ℤ b *ℤ (k -ℤ h) +ℤ c *ℤ (l -ℤ i) -ℤ (a *ℤ (d -ℤ g) +ℤ b *ℤ (e -ℤ h) +ℤ c *ℤ (f -ℤ i)) ≡ a *ℤ (j -ℤ d) +ℤ b *ℤ (k -ℤ e) +ℤ c *ℤ (l -ℤ f)
    alone a b c d e f g h i j k l = read (a ∷ b ∷ c ∷ d ∷ e ∷ f ∷ g ∷ h ∷ i ∷ j ∷ k ∷ l ∷ []) (λ xs p q r s t u v w x y z aa. simp (p, q, r, s, t, u, v, w, x, y, z, aa, polys) (den-ring xs _ _ tt))

pub none_beyond_by : (ps qs : List SpacePoint) (v first second : SpacePoint) (i : ℕ) → slice_get ps i ≡ Some first → All (λ p. All (λ q. dot v (vector second first) ≤ℤ dot v (vector q p)) qs) ps
    → All (λ q. pos 0 ≤ℤ dot v (vector q second)) qs
none_beyond_by ps qs v first second i at none j e m =
    let q = get_or qs j e in
    subst (λ z. pos 0 ≤ℤ z) (alone v.x v.y v.z first.x first.y first.z second.x second.y second.z q.x q.y q.z)
    (nonneg_difference (at_point (λ p. All (λ q. dot v (vector second first) ≤ℤ dot v (vector q p)) qs) ps i first at none j e m))
  where
    alone : (a b c d e f g h i j k l : ℤ) → a *ℤ (d -ℤ j) +ℤ b *ℤ (e -ℤ k) +ℤ c *ℤ (f -ℤ l) -ℤ (a *ℤ (d -ℤ g) +ℤ b *ℤ (e -ℤ h) +ℤ c *ℤ (f -ℤ i)) ≡ a *ℤ (g -ℤ j) +ℤ b *ℤ (h -ℤ k) +ℤ c *ℤ (i -ℤ l)
    alone a b c d e f g h i j k l = read (a ∷ b ∷ c ∷ d ∷ e ∷ f ∷ g ∷ h ∷ i ∷ j ∷ k ∷ l ∷ []) (λ xs p q r s t u v w x y z aa. simp (p, q, r, s, t, u, v, w, x, y, z, aa, polys) (den-ring xs _ _ tt))

-- ---- the sums and the first pair

-- these are the sums over the pairs, and these the points of the first pair
pub record AreFirst (ps qs : List SpacePoint) (pairs : List WeightedPair) (s : PairSums) (first second : SpacePoint) : Type 0 where
  pub sums : AreSums ps qs (map pair_of pairs) s
  pub some : 1 ≤ length (map pair_of pairs)
  pub there : 0 < length pairs
  pub names_first : slice_get ps (get_or pairs 0 no_pair).first ≡ Some first
  pub names_second : slice_get qs (get_or pairs 0 no_pair).second ≡ Some second

-- what is left to ask, by them
pub record IsShownBy (ps qs : List SpacePoint) (pairs : List WeightedPair) (a : DistanceAnswer) (s : PairSums) (first second : SpacePoint) : Type 0 where
  pub level : All (λ pair. dot (pull_of s) (difference ps qs (pair_of pair)) ≡ dot (pull_of s) (vector second first)) pairs
  pub size : IsFraction a.size × SameValue a.size (product_ratio s first second)
  pub from : IsSpaceRatio a.from × SamePlace a.from (mean_of s.weight s.first)
  pub to : IsSpaceRatio a.to × SamePlace a.to (mean_of s.weight s.second)
  pub direction : AreNumbers a.direction × IsDirectionOf (pull_of s) a.direction
  pub before : All (λ p. pos 0 ≤ℤ dot (pull_of s) (vector first p)) ps
  pub beyond : All (λ q. pos 0 ≤ℤ dot (pull_of s) (vector q second)) qs

-- the first pair, as it is listed
first_listed : {ps qs : List SpacePoint} {pairs : List WeightedPair} {s : PairSums} {first second : SpacePoint} → AreFirst ps qs pairs s first second → get_or (map pair_of pairs) 0 (pair_of no_pair) ≡ pair_of (get_or pairs 0 no_pair)
first_listed {pairs = pairs} c = get_or-map pair_of pairs 0 no_pair (pair_of no_pair) c.there

first_point : {ps qs : List SpacePoint} {pairs : List WeightedPair} {s : PairSums} {first second : SpacePoint} → AreFirst ps qs pairs s first second → point_at ps (get_or (map pair_of pairs) 0 (pair_of no_pair)).first ≡ first
first_point {ps} {qs} {pairs} {s} {first} {second} c = ap (λ pair. point_at ps pair.first) (first_listed c) ∙ at_number ps (get_or pairs 0 no_pair).first first c.names_first

second_point : {ps qs : List SpacePoint} {pairs : List WeightedPair} {s : PairSums} {first second : SpacePoint} → AreFirst ps qs pairs s first second → point_at qs (get_or (map pair_of pairs) 0 (pair_of no_pair)).second ≡ second
second_point {ps} {qs} {pairs} {s} {first} {second} c = ap (λ pair. point_at qs pair.second) (first_listed c) ∙ at_number qs (get_or pairs 0 no_pair).second second c.names_second

-- the product of the first difference
pub product_is : {ps qs : List SpacePoint} {pairs : List WeightedPair} {s : PairSums} {first second : SpacePoint} → AreFirst ps qs pairs s first second
    → first_product ps qs (map pair_of pairs) ≡ dot (pull ps qs (map pair_of pairs)) (vector second first)
product_is {ps} {qs} {pairs} {s} {first} {second} c = first_product_is ps qs (map pair_of pairs) (pair_of no_pair) first second c.some (first_point c) (second_point c)

ratio_is : {ps qs : List SpacePoint} {pairs : List WeightedPair} {s : PairSums} {first second : SpacePoint} → AreFirst ps qs pairs s first second
    → product_ratio s first second ≡ record { n = first_product ps qs (map pair_of pairs); d = pair_sum (map pair_of pairs) }
ratio_is {first = first} {second = second} c = product_ratio_is (pair_of no_pair) first second c.sums c.some (first_point c) (second_point c)

-- equal products in both words
pub same_products_by : {ps qs : List SpacePoint} {pairs : List WeightedPair} {s : PairSums} {first second : SpacePoint} → AreFirst ps qs pairs s first second
    → All (λ pair. dot (pull_of s) (difference ps qs (pair_of pair)) ≡ dot (pull_of s) (vector second first)) pairs
    → All (λ pair. dot (pull ps qs (map pair_of pairs)) (difference ps qs pair) ≡ first_product ps qs (map pair_of pairs)) (map pair_of pairs)
same_products_by {ps} {qs} {pairs} {s} {first} {second} c h =
    subst (λ e. All (λ pair. dot (pull ps qs (map pair_of pairs)) (difference ps qs pair) ≡ e) (map pair_of pairs)) (sym (product_is c))
    (All-map (λ (pair : model.WeightedPair). dot (pull ps qs (map pair_of pairs)) (difference ps qs pair) ≡ dot (pull ps qs (map pair_of pairs)) (vector second first)) pair_of pairs
    (subst (λ v. All (λ pair. dot v (difference ps qs (pair_of pair)) ≡ dot v (vector second first)) pairs) (pull_is c.sums) h))

level_by : {ps qs : List SpacePoint} {pairs : List WeightedPair} {s : PairSums} {first second : SpacePoint} → AreFirst ps qs pairs s first second
    → All (λ pair. dot (pull ps qs (map pair_of pairs)) (difference ps qs pair) ≡ first_product ps qs (map pair_of pairs)) (map pair_of pairs)
    → All (λ pair. dot (pull_of s) (difference ps qs (pair_of pair)) ≡ dot (pull_of s) (vector second first)) pairs
level_by {ps} {qs} {pairs} {s} {first} {second} c h =
    subst (λ v. All (λ pair. dot v (difference ps qs (pair_of pair)) ≡ dot v (vector second first)) pairs) (sym (pull_is c.sums))
    (All-unmap (λ (pair : model.WeightedPair). dot (pull ps qs (map pair_of pairs)) (difference ps qs pair) ≡ dot (pull ps qs (map pair_of pairs)) (vector second first)) pair_of pairs
    (subst (λ e. All (λ pair. dot (pull ps qs (map pair_of pairs)) (difference ps qs pair) ≡ e) (map pair_of pairs)) (product_is c) h))

-- what is left to ask, in both words
pub shown_by : {ps qs : List SpacePoint} {pairs : List WeightedPair} {s : PairSums} {first second : SpacePoint} (a : DistanceAnswer) → a.pairs ≡ map pair_of pairs → AreFirst ps qs pairs s first second
    → IsShownBy ps qs pairs a s first second ↔ IsShown ps qs a
shown_by {ps} {qs} {pairs} {s} {first} {second} a is c =
    let v = pull ps qs (map pair_of pairs) in
    let all = subst (λ ps1. IsShownBy ps qs pairs a s first second ↔ IsShown ps qs (record { size = a.size; from = a.from; to = a.to; direction = a.direction; pairs = ps1 })) (sym is) (
      λ h. record {
        same_products = same_products_by c h.level;
        size_in_range = h.size.0;
        size = subst (SameValue a.size) (ratio_is c) h.size.1;
        from_in_range = h.from.0;
        from = subst (SamePlace a.from) (first_mean_is c.sums) h.from.1;
        to_in_range = h.to.0;
        to = subst (SamePlace a.to) (second_mean_is c.sums) h.to.1;
        direction_in_range = h.direction.0;
        direction = subst (λ v. IsDirectionOf v a.direction) (pull_is c.sums) h.direction.1;
        no_smaller = subst (λ e. All (λ p. All (λ q. e ≤ℤ dot v (vector q p)) qs) ps) (sym (product_is c))
            (no_smaller_by ps qs v first second (subst (λ v. All (λ p. pos 0 ≤ℤ dot v (vector first p)) ps) (pull_is c.sums) h.before) (subst (λ v. All (λ q. pos 0 ≤ℤ dot v (vector q second)) qs) (pull_is c.sums) h.beyond));
      },
      λ h.
          let none = subst (λ e. All (λ p. All (λ q. e ≤ℤ dot v (vector q p)) qs) ps) (product_is c) h.no_smaller in
          record {
            level = level_by c h.same_products;
            size = (h.size_in_range, subst (SameValue a.size) (sym (ratio_is c)) h.size);
            from = (h.from_in_range, subst (SamePlace a.from) (sym (first_mean_is c.sums)) h.from);
            to = (h.to_in_range, subst (SamePlace a.to) (sym (second_mean_is c.sums)) h.to);
            direction = (h.direction_in_range, subst (λ v. IsDirectionOf v a.direction) (sym (pull_is c.sums)) h.direction);
            before = subst (λ v. All (λ p. pos 0 ≤ℤ dot v (vector first p)) ps) (sym (pull_is c.sums)) (none_before_by ps qs v first second (get_or pairs 0 no_pair).second c.names_second none);
            beyond = subst (λ v. All (λ q. pos 0 ≤ℤ dot v (vector q second)) qs) (sym (pull_is c.sums)) (none_beyond_by ps qs v first second (get_or pairs 0 no_pair).first c.names_first none);
          },
    ) in
    all

-- ---- the answer

-- an answer that passes has pairs within their limits
pub distance_limits : (ps qs : List SpacePoint) (a : DistanceAnswer) → PassesDistance ps qs a → HasPairLimits (length ps) (length qs) a.pairs
distance_limits ps qs a p = record { some = p.ranges.count.at_least; numbers = p.numbers; weights = p.weights; weight_limit = p.weight_limit }

-- and where they are, what they show decides
pub distance_decided : {yes : Bool} (ps qs : List SpacePoint) (a : DistanceAnswer) → length ps ≤ 10000 → length qs ≤ 10000 → length a.pairs ≤ 4 → HasPairLimits (length ps) (length qs) a.pairs
    → (IsTrue yes ↔ IsShown ps qs a) → IsTrue yes ↔ PassesDistance ps qs a
distance_decided ps qs a few_first few_second four limits test = (
  λ t. let shown = test.0 t in record {
    ranges = record {
      size = shown.size_in_range;
      from = shown.from_in_range;
      to = shown.to_in_range;
      direction_x = shown.direction_in_range.x;
      direction_y = shown.direction_in_range.y;
      direction_z = shown.direction_in_range.z;
      count = record { at_least = limits.some; at_most = four };
      pairs = in_ranges (length ps) (length qs) a.pairs few_first few_second limits.numbers limits.weights limits.weight_limit;
    };
    numbers = limits.numbers;
    weights = limits.weights;
    weight_limit = limits.weight_limit;
    same_products = shown.same_products;
    no_smaller = shown.no_smaller;
    size = shown.size;
    from = shown.from;
    to = shown.to;
    direction = shown.direction;
  },
  λ p. test.1 (record {
    same_products = p.same_products;
    size_in_range = p.ranges.size;
    size = p.size;
    from_in_range = p.ranges.from;
    from = p.from;
    to_in_range = p.ranges.to;
    to = p.to;
    direction_in_range = record { x = p.ranges.direction_x; y = p.ranges.direction_y; z = p.ranges.direction_z };
    direction = p.direction;
    no_smaller = p.no_smaller;
  }),
)

-- ---- steps of the checker

-- the sums of pairs within their limits, and the points that the first of them names
pub first_by : {m n : ℕ} {ps qs : List SpacePoint} {pairs : List WeightedPair} {s : PairSums} {first second : SpacePoint} → HasPairLimits m n (map pair_of pairs) → ArePairSums ps qs (map pair_of pairs) s
    → slice_get ps (get_or pairs 0 no_pair).first ≡ Some first → slice_get qs (get_or pairs 0 no_pair).second ≡ Some second → AreFirst ps qs pairs s first second
first_by {pairs = pairs} limits totals first second = record { sums = totals.sums; some = limits.some; there = some_pairs pairs limits.some; names_first = first; names_second = second }

-- where all differences have one product, it is not below 0
pub level_nonneg : {ps qs : List SpacePoint} {pairs : List WeightedPair} {s : PairSums} {first second : SpacePoint} → 1 ≤ s.weight → AreFirst ps qs pairs s first second
    → All (λ pair. dot (pull_of s) (difference ps qs (pair_of pair)) ≡ dot (pull_of s) (vector second first)) pairs → pos 0 ≤ℤ dot (pull_of s) (vector second first)
level_nonneg {ps} {qs} {pairs} {s} {first} {second} some c h =
    subst (λ v. pos 0 ≤ℤ dot v (vector second first)) (sym (pull_is c.sums))
    (subst (λ z. pos 0 ≤ℤ z) (product_is c) (product_nonneg ps qs (map pair_of pairs) _ (subst (λ w. pos 1 ≤ℤ w) c.sums.weight (above some)) (same_products_by c h)))
  where
    above : {t : ℕ} → 1 ≤ t → pos 1 ≤ℤ pos t
    above h = omega (arith, ints)

-- where a test fails that an answer would pass, the answer does not pass
pub refuted : {b : Bool} {A : Type 0} → (A → IsTrue b) → b ≡ false → IsTrue false ↔ A
refuted test failed = (λ no. absurd (cc no), λ a. absurd (clash (test a) failed))
