-- The cycle of two chains over keys in order is the hull.
use Rattle.std.proofs.Common.{◌≡◌, ◌≢◌, inl, inr, ℕ, zero, suc, ◌+◌, ◌-◌, ◌%◌, ◌<◌, ◌≤◌, ℤ, pos, ◌≤ℤ◌, ◌<ℤ◌, List, [], ◌∷◌, ◌++◌, take, reverse, length, get_or, refl, sym, ap, subst, ◌∙◌, arith}
use Rattle.std.specs.Prelude.{All, EachIndex, Contains, map}
use Rattle.std.proofs.lemmas.Int.{ints}
use Rattle.std.proofs.lemmas.Bool.{cases_order}
use Rattle.std.proofs.lemmas.List.{length-map, length-append, length-take-le, length-reverse, get_or_append_left, get_or-append_right, get_or-take, get_or-reverse}
use Rattle.std.proofs.lemmas.List.Elements.{All-from_get_or, All-contains, All-take, All-append, All-map, Contains-get_or}
use Rattle.std.proofs.lemmas.List.Sorted.{Contains-permutation, IsPermutation-map, IsPermutation-reverse, IsPermutation-sym}
use Rattle.integers.proofs.Order.{le_of_same}
use Rattle.bounds_model.specs.Plane.{PlanePoint, point_at, origin, dot, turn, IsInPlane, IsBefore}
use Rattle.bounds_model.specs.Hull.{around}
use Rattle.hull_calipers.specs.Keys.{number_in, placed, rightward, AreOrdered}
use Rattle.hull_calipers.specs.Chains.{AreAlong, IsMonotoneChain, numbered}
use Rattle.hull_calipers.specs.Hulls.{IsFirst, IsLast, IsHull}
use Rattle.hull_calipers.proofs.Turns.{turn-itself}
use Rattle.hull_calipers.proofs.Orders.{before_from_along}
use Rattle.hull_calipers.proofs.Retreats.{numbered_at}
use Rattle.hull_calipers.proofs.Cycles.{TwoMonotoneChains, IsCycle, opposite, opposite-dot, cycle_turns, cycle_left, cycle_distinct, climb}
use Rattle.model_laws.proofs.CornerLaw.{around-below}

-- ---- the first and the last point

abbrev AreInPlane : List PlanePoint → Type 0
AreInPlane points = EachIndex points (λ i. IsInPlane (point_at points i))

in_plane : (points : List PlanePoint) (a : PlanePoint) → AreInPlane points → Contains points a → IsInPlane a
in_plane points a h listed = All-contains IsInPlane points a (All-from_get_or IsInPlane points origin h) listed

to_left : (a b : PlanePoint) → IsBefore a b → a.x ≤ℤ b.x
to_left a b (inl h) = omega (arith, ints)
to_left a b (inr h) = le_of_same h.0

to_below : (a b : PlanePoint) → IsBefore a b → a.x ≡ b.x → a.y ≤ℤ b.y
to_below a b (inl h) e = absurd (omega (arith, ints))
to_below a b (inr h) e = h.1

first_from : (points : List PlanePoint) (a : PlanePoint) → AreInPlane points → Contains points a → All (λ p. dot rightward a ≤ℤ dot rightward p) points → IsFirst points a
first_from points a inside listed from = record {
  left = All-from_get_or (λ p. a.x ≤ℤ p.x) points origin (λ i h. to_left a (point_at points i) (before i h));
  below = All-from_get_or (λ p. a.x ≡ p.x → a.y ≤ℤ p.y) points origin (λ i h. to_below a (point_at points i) (before i h));
}
  where
    before : (i : ℕ) → i < length points → IsBefore a (point_at points i)
    before i h = before_from_along a (point_at points i) (in_plane points a inside listed) (inside i h) (from i origin h)

last_from : (points : List PlanePoint) (a : PlanePoint) → AreInPlane points → Contains points a → All (λ p. dot rightward p ≤ℤ dot rightward a) points → IsLast points a
last_from points a inside listed upto = record {
  right = All-from_get_or (λ p. p.x ≤ℤ a.x) points origin (λ i h. to_left (point_at points i) a (before i h));
  above = All-from_get_or (λ p. p.x ≡ a.x → p.y ≤ℤ a.y) points origin (λ i h. to_below (point_at points i) a (before i h));
}
  where
    before : (i : ℕ) → i < length points → IsBefore (point_at points i) a
    before i h = before_from_along (point_at points i) a (inside i h) (in_plane points a inside listed) (upto i origin h)

-- what holds of all placed points holds of all points
pub everywhere : (points : List PlanePoint) (keys : List ℕ) (P : PlanePoint → Type 0) → AreOrdered points keys → All P (placed points keys) → All P points
everywhere points keys P order h = All-from_get_or P points origin (λ i l. All-contains P (placed points keys) (point_at points i) h (order.every i origin l))

-- numbers in keys have what all numbers in keys have
from_keys : (P : ℕ → Type 0) (keys numbers : List ℕ) → All (λ k. P (number_in k)) keys → All (Contains (map number_in keys)) numbers → All P numbers
from_keys P keys numbers h listed = λ i d l. All-contains P (map number_in keys) (get_or numbers i d) (All-map P number_in keys h) (listed i d l)

listed_at : (points : List PlanePoint) (numbers : List ℕ) (i : ℕ) → All (λ n. n < length points) numbers → i < length numbers → Contains points (point_at (numbered points numbers) i)
listed_at points numbers i below h = subst (Contains points) (sym (numbered_at points numbers i h 0)) (Contains-get_or points (get_or numbers i 0) origin (below i 0 h))

-- ---- one corner

pub hull_of_one : (points : List PlanePoint) (keys numbers : List ℕ) → AreOrdered points keys → All (Contains (map number_in keys)) numbers → IsMonotoneChain rightward (placed points keys) (numbered points numbers) → length numbers ≡ 1 → IsHull points numbers
hull_of_one points keys numbers order listed chain one = record {
  least_numbers = record { listed = below; least = from_keys (λ n. EachIndex points (λ j. point_at points j ≡ point_at points n → n ≤ j)) keys numbers order.least listed };
  around = record {
    some = chain.some;
    from_first = subst (IsFirst points) (sym at_first) (first_from points (point_at (numbered points numbers) 0) order.in_plane (listed_at points numbers 0 below (omega arith)) (everywhere points keys (λ p. dot rightward (point_at (numbered points numbers) 0) ≤ℤ dot rightward p) order chain.from));
    distinct = λ i j d less h. absurd (omega (arith, count));
    left = λ i h j p l.
        let none : i ≡ 0 = omega (arith, count) in
        le_of_same (sym (turn-itself (around (numbered points numbers) i) (around (numbered points numbers) (i + 1)) (get_or points j p) (same_corner i none)));
    turns = λ three. absurd (omega (arith, count));
    to_last = λ two. absurd (omega (arith, count));
    alone = λ _ i p l.
        let same : get_or points i p ≡ point_at (numbered points numbers) 0 = everywhere points keys (λ p. p ≡ point_at (numbered points numbers) 0) order (chain.alone count) i p l in
        (ap (λ v. v.x) (same ∙ sym at_first), ap (λ v. v.y) (same ∙ sym at_first));
  };
}
  where
    below : All (λ n. n < length points) numbers
    below = from_keys (λ n. n < length points) keys numbers order.numbers listed

    count : length (numbered points numbers) ≡ 1
    count = length-map numbers (point_at points) ∙ one

    at_first : around (numbered points numbers) 0 ≡ point_at (numbered points numbers) 0
    at_first = around-below (numbered points numbers) 0 (omega arith)

    same_corner : (i : ℕ) → i ≡ 0 → around (numbered points numbers) i ≡ around (numbered points numbers) (i + 1)
    same_corner i none = ap (point_at (numbered points numbers)) (ap (λ n. i % n) count ∙ (let e : i % 1 ≡ (i + 1) % 1 = omega arith in e) ∙ ap (λ n. (i + 1) % n) (sym count))

-- ---- two chains

reversed_at : (points : List PlanePoint) (keys : List ℕ) (i : ℕ) → i < length keys → point_at (placed points (reverse keys)) i ≡ point_at (placed points keys) (length keys - 1 - i)
reversed_at points keys i h =
    let count : length (reverse keys) ≡ length keys = length-reverse keys in
    placed_at (reverse keys) i (omega arith) ∙ ap (λ k. point_at points (number_in k)) (get_or-reverse keys i 0 h) ∙ sym (placed_at keys (length keys - 1 - i) (omega arith))
  where
    placed_at : (keys : List ℕ) (i : ℕ) → i < length keys → point_at (placed points keys) i ≡ point_at points (number_in (get_or keys i 0))
    placed_at [] i h = absurd (omega arith)
    placed_at (k ∷ keys) zero h = refl
    placed_at (k ∷ keys) (suc i) h = placed_at keys i (omega arith)

length_placed : (points : List PlanePoint) (keys : List ℕ) → length (placed points keys) ≡ length keys
length_placed points keys = length-map keys (λ k. point_at points (number_in k))

-- the keys the other way round are along the opposite direction
pub back_order : (points : List PlanePoint) (keys : List ℕ) → AreAlong rightward (placed points keys) → AreAlong (opposite rightward) (placed points (reverse keys))
back_order points keys along i h =
    let count : length (placed points (reverse keys)) ≡ length keys = length_placed points (reverse keys) ∙ length-reverse keys in
    let count' : length (placed points keys) ≡ length keys = length_placed points keys in
    let here : point_at (placed points (reverse keys)) i ≡ point_at (placed points keys) (length keys - 2 - i + 1) = reversed_at points keys i (omega arith) ∙ ap (point_at (placed points keys)) (omega arith) in
    let next : point_at (placed points (reverse keys)) (i + 1) ≡ point_at (placed points keys) (length keys - 2 - i) = reversed_at points keys (i + 1) (omega arith) ∙ ap (point_at (placed points keys)) (omega arith) in
    let up : dot rightward (point_at (placed points keys) (length keys - 2 - i)) <ℤ dot rightward (point_at (placed points keys) (length keys - 2 - i + 1)) = along (length keys - 2 - i) (omega arith) in
    turned (point_at (placed points keys) (length keys - 2 - i + 1)) (point_at (placed points keys) (length keys - 2 - i)) (point_at (placed points (reverse keys)) i) (point_at (placed points (reverse keys)) (i + 1)) here next up
  where
    turned : (a b a' b' : PlanePoint) → a' ≡ a → b' ≡ b → dot rightward b <ℤ dot rightward a → dot (opposite rightward) a' <ℤ dot (opposite rightward) b'
    turned a b a' b' p q h =
        let forth : dot rightward b' <ℤ dot rightward a' = subst (λ v. dot rightward v <ℤ dot rightward a') (sym q) (subst (λ v. dot rightward b <ℤ dot rightward v) (sym p) h) in
        let x = opposite-dot rightward a' in
        let y = opposite-dot rightward b' in
        omega (arith, ints, x, y, forth)

record Halves (points : List PlanePoint) (keys lower upper : List ℕ) : Type 0 where
  order : AreOrdered points keys
  low_numbers : All (Contains (map number_in keys)) lower
  up_numbers : All (Contains (map number_in (reverse keys))) upper
  low : IsMonotoneChain rightward (placed points keys) (numbered points lower)
  up : IsMonotoneChain (opposite rightward) (placed points (reverse keys)) (numbered points upper)
  more : 2 ≤ length lower

upper_below : (points : List PlanePoint) (keys lower upper : List ℕ) → Halves points keys lower upper → (P : ℕ → Type 0) → All (λ k. P (number_in k)) keys → All P upper
upper_below points keys lower upper h P all = λ i d l.
    All-contains P (map number_in keys) (get_or upper i d) (All-map P number_in keys all)
    (Contains-permutation (map number_in (reverse keys)) (map number_in keys) (get_or upper i d) (IsPermutation-sym (map number_in keys) (map number_in (reverse keys)) (IsPermutation-map number_in keys (reverse keys) (IsPermutation-reverse keys))) (h.up_numbers i d l))

meets_at : (points : List PlanePoint) (keys lower upper : List ℕ) → Halves points keys lower upper → point_at (numbered points lower) (length lower - 1) ≡ point_at (numbered points upper) 0
meets_at points keys lower upper h =
    let count : length (numbered points lower) ≡ length lower = length-map lower (point_at points) in
    let some : 1 ≤ length (placed points keys) = h.low.of_some in
    let count' : length (placed points keys) ≡ length keys = length_placed points keys in
    ap (λ n. point_at (numbered points lower) (n - 1)) (sym count) ∙ h.low.ends ∙ ap (point_at (placed points keys)) (let e : length (placed points keys) - 1 ≡ length keys - 1 - 0 = omega arith in e) ∙ sym (reversed_at points keys 0 (omega arith)) ∙ sym h.up.begins

closes_at : (points : List PlanePoint) (keys lower upper : List ℕ) → Halves points keys lower upper → point_at (numbered points upper) (length upper - 1) ≡ point_at (numbered points lower) 0
closes_at points keys lower upper h =
    let count : length (numbered points upper) ≡ length upper = length-map upper (point_at points) in
    let some : 1 ≤ length (placed points keys) = h.low.of_some in
    let count' : length (placed points keys) ≡ length keys = length_placed points keys in
    let count'' : length (placed points (reverse keys)) ≡ length keys = length_placed points (reverse keys) ∙ length-reverse keys in
    ap (λ n. point_at (numbered points upper) (n - 1)) (sym count) ∙ h.up.ends ∙ reversed_at points keys (length (placed points (reverse keys)) - 1) (omega arith) ∙ ap (point_at (placed points keys)) (omega arith) ∙ sym h.low.begins

two_chains : (points : List PlanePoint) (keys lower upper : List ℕ) → Halves points keys lower upper → TwoMonotoneChains points rightward (point_at (numbered points lower)) (point_at (numbered points upper)) (length lower - 1) (length upper - 1)
two_chains points keys lower upper h = record {
  low_some = omega (arith, h.more);
  up_some = elim (cases_order (length upper) 1) [
    | inl one ↦
        let same : point_at (numbered points lower) 0 ≡ point_at (numbered points lower) (length lower - 1)
        = sym (closes_at points keys lower upper h) ∙ ap (point_at (numbered points upper)) (omega arith) ∙ sym (meets_at points keys lower upper h) in
        let up : dot rightward (point_at (numbered points lower) 0) <ℤ dot rightward (point_at (numbered points lower) (length lower - 1))
        = climb rightward (point_at (numbered points lower)) (length lower - 1) low_along 0 (length lower - 1) (omega (arith, h.more)) (omega arith) in
        absurd (not_same (ap (dot rightward) same) up)
    | inr rest ↦ elim rest [ inl none ↦ absurd (omega (arith, h.up.some, up_count)) | inr more ↦ omega arith ]
  ];
  low_along = low_along;
  up_along = λ i l. let f = h.up.along i (omega (arith, up_count)) in let x = opposite-dot rightward (point_at (numbered points upper) i) in let y = opposite-dot rightward (point_at (numbered points upper) (i + 1)) in omega (arith, ints, f, x, y);
  low_turns = λ i l. h.low.turns i (omega (arith, low_count));
  up_turns = λ i l. h.up.turns i (omega (arith, up_count));
  low_left = λ i l. everywhere points keys (λ p. pos 0 ≤ℤ turn (point_at (numbered points lower) i) (point_at (numbered points lower) (i + 1)) p) h.order (h.low.left i (omega (arith, low_count)));
  up_left = λ i l. All-from_get_or (λ p. pos 0 ≤ℤ turn (point_at (numbered points upper) i) (point_at (numbered points upper) (i + 1)) p) points origin
      (λ j in_j. All-contains (λ p. pos 0 ≤ℤ turn (point_at (numbered points upper) i) (point_at (numbered points upper) (i + 1)) p) (placed points (reverse keys)) (point_at points j) (h.up.left i (omega (arith, up_count)))
      (Contains-permutation (placed points keys) (placed points (reverse keys)) (point_at points j) (IsPermutation-map (λ k. point_at points (number_in k)) keys (reverse keys) (IsPermutation-reverse keys)) (h.order.every j origin in_j)));
  low_listed = λ i l. listed_at points lower i (from_keys (λ n. n < length points) keys lower h.order.numbers h.low_numbers) (omega (arith, h.more));
  up_listed = λ i l. listed_at points upper i (upper_below points keys lower upper h (λ n. n < length points) h.order.numbers) (omega (arith, h.up.some, up_count));
  meets = meets_at points keys lower upper h;
  closes = closes_at points keys lower upper h;
}
  where
    low_count : length (numbered points lower) ≡ length lower
    low_count = length-map lower (point_at points)

    up_count : length (numbered points upper) ≡ length upper
    up_count = length-map upper (point_at points)

    low_along : (i : ℕ) → i < length lower - 1 → dot rightward (point_at (numbered points lower) i) <ℤ dot rightward (point_at (numbered points lower) (i + 1))
    low_along i l = h.low.along i (omega (arith, low_count))

    not_same : {x y : ℤ} → x ≡ y → x <ℤ y → ⊥
    not_same e l = omega (arith, ints)

is_cycle : (points : List PlanePoint) (lower upper : List ℕ) (m k : ℕ) → m ≤ length lower → k ≤ length upper → IsCycle (numbered points (take m lower ++ take k upper)) (point_at (numbered points lower)) (point_at (numbered points upper)) m k
is_cycle points lower upper m k in_m in_k = record {
  count = length-map (take m lower ++ take k upper) (point_at points) ∙ count;
  low = λ i l. numbered_at points (take m lower ++ take k upper) i (omega (arith, count)) 0 ∙ ap (point_at points) (get_or_append_left (take m lower) (take k upper) 0 i (omega (arith, low)) ∙ get_or-take m lower i 0 l) ∙ sym (numbered_at points lower i (omega arith) 0);
  up = λ i l. numbered_at points (take m lower ++ take k upper) (m + i) (omega (arith, count)) 0
      ∙ ap (point_at points) (get_or-append_right (take m lower) (take k upper) m (m + i) 0 low (omega arith) ∙ ap (λ n. get_or (take k upper) n 0) (let e : m + i - m ≡ i = omega arith in e) ∙ get_or-take k upper i 0 l)
      ∙ sym (numbered_at points upper i (omega arith) 0);
}
  where
    low : length (take m lower) ≡ m
    low = length-take-le m lower in_m

    up : length (take k upper) ≡ k
    up = length-take-le k upper in_k

    count : length (take m lower ++ take k upper) ≡ m + k
    count = length-append (take m lower) (take k upper) ∙ omega (arith, low, up)

hull_of_halves : (points : List PlanePoint) (keys lower upper : List ℕ) → Halves points keys lower upper → IsHull points (take (length lower - 1) lower ++ take (length upper - 1) upper)
hull_of_halves points keys lower upper h = record {
  least_numbers = record {
    listed = both (λ n. n < length points) (from_keys (λ n. n < length points) keys lower h.order.numbers h.low_numbers) (upper_below points keys lower upper h (λ n. n < length points) h.order.numbers);
    least = both (λ n. EachIndex points (λ j. point_at points j ≡ point_at points n → n ≤ j)) (from_keys (λ n. EachIndex points (λ j. point_at points j ≡ point_at points n → n ≤ j)) keys lower h.order.least h.low_numbers)
        (upper_below points keys lower upper h (λ n. EachIndex points (λ j. point_at points j ≡ point_at points n → n ≤ j)) h.order.least);
  };
  around = record {
    some = omega (arith, cycle.count, two.low_some);
    from_first = subst (IsFirst points) (sym at_first) (first_from points (point_at (numbered points lower) 0) h.order.in_plane (two.low_listed 0 (omega arith)) (everywhere points keys (λ p. dot rightward (point_at (numbered points lower) 0) ≤ℤ dot rightward p) h.order h.low.from));
    distinct = cycle_distinct points corners rightward (point_at (numbered points lower)) (point_at (numbered points upper)) (length lower - 1) (length upper - 1) two cycle;
    left = cycle_left points corners rightward (point_at (numbered points lower)) (point_at (numbered points upper)) (length lower - 1) (length upper - 1) two cycle;
    turns = cycle_turns points corners rightward (point_at (numbered points lower)) (point_at (numbered points upper)) (length lower - 1) (length upper - 1) two cycle;
    to_last = λ e. subst (IsLast points) (sym (at_last e)) (last_from points (point_at (numbered points lower) (length lower - 1)) h.order.in_plane (two.low_listed (length lower - 1) (omega arith))
        (everywhere points keys (λ p. dot rightward p ≤ℤ dot rightward (point_at (numbered points lower) (length lower - 1))) h.order
        (subst (λ n. All (λ p. dot rightward p ≤ℤ dot rightward (point_at (numbered points lower) (n - 1))) (placed points keys)) (length-map lower (point_at points)) h.low.upto)));
    alone = λ e. absurd (omega (arith, cycle.count, two.low_some, two.up_some, e));
  };
}
  where
    corners : List PlanePoint
    corners = numbered points (take (length lower - 1) lower ++ take (length upper - 1) upper)

    two : TwoMonotoneChains points rightward (point_at (numbered points lower)) (point_at (numbered points upper)) (length lower - 1) (length upper - 1)
    two = two_chains points keys lower upper h

    cycle : IsCycle (numbered points (take (length lower - 1) lower ++ take (length upper - 1) upper)) (point_at (numbered points lower)) (point_at (numbered points upper)) (length lower - 1) (length upper - 1)
    cycle = is_cycle points lower upper (length lower - 1) (length upper - 1) (omega arith) (omega arith)

    at_first : around (numbered points (take (length lower - 1) lower ++ take (length upper - 1) upper)) 0 ≡ point_at (numbered points lower) 0
    at_first = around-below (numbered points (take (length lower - 1) lower ++ take (length upper - 1) upper)) 0 (omega (arith, cycle.count, two.low_some)) ∙ cycle.low 0 (omega (arith, two.low_some))

    at_last : length (numbered points (take (length lower - 1) lower ++ take (length upper - 1) upper)) ≡ 2 → around (numbered points (take (length lower - 1) lower ++ take (length upper - 1) upper)) 1 ≡ point_at (numbered points lower) (length lower - 1)
    at_last e =
        let one : length lower - 1 ≡ 1 = omega (arith, cycle.count, two.low_some, two.up_some, e) in
        around-below (numbered points (take (length lower - 1) lower ++ take (length upper - 1) upper)) 1 (omega (arith, e)) ∙ ap (point_at (numbered points (take (length lower - 1) lower ++ take (length upper - 1) upper))) (let e' : 1 ≡ length lower - 1 + 0 = omega arith in e')
        ∙ cycle.up 0 (omega (arith, two.up_some)) ∙ sym two.meets

    both : (P : ℕ → Type 0) → All P lower → All P upper → All P (take (length lower - 1) lower ++ take (length upper - 1) upper)
    both P low up = All-append P (take (length lower - 1) lower) (take (length upper - 1) upper) (All-take P (length lower - 1) lower low) (All-take P (length upper - 1) upper up)

pub hull_of_two : (points : List PlanePoint) (keys back lower upper : List ℕ) → AreOrdered points keys → back ≡ reverse keys → All (Contains (map number_in keys)) lower → All (Contains (map number_in back)) upper
    → IsMonotoneChain rightward (placed points keys) (numbered points lower) → IsMonotoneChain (opposite rightward) (placed points back) (numbered points upper) → length lower ≢ 1
    → IsHull points (take (length lower - 1) lower ++ take (length upper - 1) upper)
hull_of_two points keys back lower upper order is low_numbers up_numbers low up more =
    let some = low.some in
    let count : length (numbered points lower) ≡ length lower = length-map lower (point_at points) in
    hull_of_halves points keys lower upper (record {
      order = order;
      low_numbers = low_numbers;
      up_numbers = subst (λ l. All (Contains (map number_in l)) upper) is up_numbers;
      low = low;
      up = subst (λ l. IsMonotoneChain (opposite rightward) (placed points l) (numbered points upper)) is up;
      more = omega (arith, some, count, more);
    })

-- there is a key
pub some_keys : (points : List PlanePoint) (keys : List ℕ) → 1 ≤ length points → AreOrdered points keys → 0 < length keys
some_keys points keys some order = from_one (order.every 0 origin some)
  where
    from_one : Contains (placed points keys) (get_or points 0 origin) → 0 < length keys
    from_one (k, below, is) = let count : length (placed points keys) ≡ length keys = length_placed points keys in omega arith
