-- The leaves are listed height by height.
use Rattle.std.proofs.Common.{◌≡◌, inl, inr, refl, sym, subst, ap, ◌∙◌, ℕ, suc, ◌+◌, ◌-◌, ◌*◌, ◌/◌, ◌%◌, ◌^◌, ◌<◌, ◌≤◌, ℤ, pos, neg_ℤ, ◌+ℤ◌, ◌-ℤ◌, ◌≤ℤ◌, ◌<ℤ◌, List, [], ◌∷◌, ◌++◌, length, drop, map, arith}
use Rattle.std.specs.Prelude.{slice_index_or}
use Rattle.std.proofs.lemmas.Int.{ints, by_lt_z}
use Rattle.std.proofs.lemmas.List.{length-append, get_or_append_left, get_or-append_right, get_or-drop, length-drop, map-append}
use Rattle.std.proofs.lemmas.List.Elements.{All-nil, All-append}
use Rattle.integers.proofs.Lists.{before_or_after}
use Rattle.bounds_model.specs.Plane.{PlanePoint}
use Rattle.bounds_model.specs.CentresAnswer as model
use Rattle.bounds_model.specs.CentresAnswer.{outside, IsLeafBelow}
use Rattle.answers.specs.declared.centres.Leaf.{Leaf}
use Rattle.answers.specs.Answers.{leaf_of}
use Rattle.corner_squares.specs.declared.square.Square.{Square}
use Rattle.corner_squares.specs.Squares.{square_of}
use Rattle.corner_squares.specs.Trees.{NamesPoints, AreLeavesAt}
use Rattle.bounds_model.specs.FourAnswer.{first_square, IsHeight, AreHeights}
use Rattle.corner_squares.specs.declared.least.Least.{Least}
use Rattle.corner_squares.specs.Covers.{IsPlaced, IsCover, AreMore}
use Rattle.corner_squares.specs.LeastPoints.{point_of, IsLeastAt}
use Rattle.four_centres.specs.Heights.{AreHeightsUpTo, IsBeyond, CanFollow, IsDone}
use Rattle.four_centres.specs.Search.{IsAtMost, IsFirstReaching, AreLeavesFrom, AreFourLeavesOf}
use Rattle.four_centres.proofs.Following.{follows_by_cover}

-- ---- the first square

-- it reaches into the bounds of points
pub first_is_placed : (points : List PlanePoint) (least : Least) (height : ℤ) (side : ℕ) (s : Square) → IsLeastAt points least → IsAtMost least height → s ≡ record { left = least.x; bottom = height; side = side } → IsPlaced s.side s
first_is_placed points least height side s at_least at_most is = subst (λ s. IsPlaced s.side s) (sym is) (record {
  wide = refl;
  left = at_least.x.high;
  right = up least.x at_least.x.low;
  bottom = at_most.plane.high;
  top = up height at_most.plane.low;
})
  where
    up : (v : ℤ) → neg_ℤ (pos 200000) ≤ℤ v → neg_ℤ (pos 200000) ≤ℤ (v +ℤ pos side)
    up v h = omega (arith, ints, h)

-- squares that cover the points with a first one at a height let three others follow it
pub cover_follows : (points : List PlanePoint) (least : Least) (height : ℤ) (side : ℕ) (s : Square) (squares : List Square) → s ≡ record { left = least.x; bottom = height; side = side } → IsCover points s.side 4 squares → AreMore (s ∷ []) squares
    → CanFollow points (first_square side (point_of least) height)
cover_follows points least height side s squares is cover more =
    follows_by_cover points (record { left = least.x; bottom = height; side = side }) squares (subst (λ s. IsCover points s.side 4 squares) is cover) (subst (λ s. AreMore (s ∷ []) squares) is more)

-- which contradicts that the height is done
pub not_done : (points : List PlanePoint) (least : Least) (height : ℤ) (side : ℕ) → IsDone points least height (side + 1) → ¬ IsBeyond least height side → ¬ CanFollow points (first_square side (point_of least) height)
not_done points least height side done reaches follow = refuted (subst (IsDone points least height) next done)
  where
    next : side + 1 ≡ suc side
    next = omega arith

    refuted : IsDone points least height (suc side) → ⊥
    refuted (inl beyond) = reaches beyond
    refuted (inr none) = none follow

-- ---- height by height

pub no_leaves_yet : (side : ℕ) (points : List PlanePoint) (least : Least) (heights : List ℤ) (from count : ℕ) (leaves : List Leaf) → count ≡ 0 → leaves ≡ [] → AreLeavesFrom side points least heights from count (map leaf_of leaves)
no_leaves_yet side points least heights from count leaves none is = subst (λ ls. AreLeavesFrom side points least heights from count (map leaf_of ls)) (sym is) (record {
  as_many = omega (arith, none);
  names = All-nil (NamesPoints points);
  each = λ n d below. absurd (omega (arith, below));
})

-- sixteen more
more_leaves : (side : ℕ) (points : List PlanePoint) (least : Least) (heights : List ℤ) (from count : ℕ) (leaves own : List model.Leaf) (height : ℤ) → AreLeavesFrom side points least heights from count leaves
    → AreLeavesAt side 2 points (outside (first_square side (point_of least) height) points) own → slice_index_or heights (from + count) (pos 0) ≡ height → AreLeavesFrom side points least heights from (count + 1) (leaves ++ own)
more_leaves side points least heights from count leaves own height h new is = record {
  as_many = length-append leaves own ∙ total (length leaves) (length own) h.as_many (new.as_many ∙ sixteen);
  names = All-append (NamesPoints points) leaves own h.names (λ k d below. (new.each k d below).names);
  each = λ n d below. elim (before_or_after n (length leaves)) [
    | inl early ↦ subst (IsAt n) (sym (get_or_append_left leaves own d n early)) (h.each n d early)
    | inr late ↦
        let j = n - length leaves in
        let small : j < length own = index_small n (subst (λ k. n < k) (length-append leaves own) below) late in
        let leaf = new.each j d small in
        let quotient : n / 16 ≡ count = (let s = small in at_count n late (subst (λ k. j < k) (new.as_many ∙ sixteen) s)) in
        let digit : n % 16 ≡ j = (let s = small in at_digit n late (subst (λ k. j < k) (new.as_many ∙ sixteen) s)) in
        subst (IsAt n) (sym (get_or-append_right leaves own (length leaves) n d refl late))
        (subst (λ k. IsLeafBelow side 2 points (outside (first_square side (point_of least) (slice_index_or heights (from + k) (pos 0))) points) (n % 16) (slice_index_or own j d)) (sym quotient)
        (subst (λ y. IsLeafBelow side 2 points (outside (first_square side (point_of least) y) points) (n % 16) (slice_index_or own j d)) (sym is)
        (subst (λ k. IsLeafBelow side 2 points (outside (first_square side (point_of least) height) points) k (slice_index_or own j d)) (sym digit)
        leaf.below)))
  ];
}
  where
    IsAt : ℕ → model.Leaf → Type 0
    IsAt n leaf = IsLeafBelow side 2 points (outside (first_square side (point_of least) (slice_index_or heights (from + n / 16) (pos 0))) points) (n % 16) leaf

    sixteen : 4 ^ 2 ≡ 16
    sixteen = omega arith

    total : (a b : ℕ) → a ≡ 16 * count → b ≡ 16 → a + b ≡ 16 * (count + 1)
    total a b e f = omega (arith, e, f)

    index_small : (n : ℕ) → n < length leaves + length own → length leaves ≤ n → n - length leaves < length own
    index_small n below late = omega (arith, below, late)

    at_count : (n : ℕ) → length leaves ≤ n → n - length leaves < 16 → n / 16 ≡ count
    at_count n late small = let e = h.as_many in omega (arith, late, small, e)

    at_digit : (n : ℕ) → length leaves ≤ n → n - length leaves < 16 → n % 16 ≡ n - length leaves
    at_digit n late small = let e = h.as_many in omega (arith, late, small, e)

pub leaves_appended : (side : ℕ) (points : List PlanePoint) (least : Least) (heights : List ℤ) (from i : ℕ) (leaves appended own : List Leaf) (s : Square) → from ≤ i → AreLeavesFrom side points least heights from (i - from) (map leaf_of leaves)
    → s ≡ record { left = least.x; bottom = slice_index_or heights i (pos 0); side = side } → AreLeavesAt s.side 2 points (outside (square_of s) points) (map leaf_of own) → appended ≡ leaves ++ own
    → AreLeavesFrom side points least heights from (i + 1 - from) (map leaf_of appended)
leaves_appended side points least heights from i leaves appended own s reached h is new appended_is =
    subst (λ n. AreLeavesFrom side points least heights from n (map leaf_of appended)) (one_more reached)
    (subst (AreLeavesFrom side points least heights from (i - from + 1)) (sym (ap (map leaf_of) appended_is ∙ map-append leaf_of leaves own))
    (more_leaves side points least heights from (i - from) (map leaf_of leaves) (map leaf_of own) (slice_index_or heights i (pos 0)) h (subst (λ s. AreLeavesAt s.side 2 points (outside (square_of s) points) (map leaf_of own)) is new)
    (ap (λ k. slice_index_or heights k (pos 0)) (back reached))))
  where
    one_more : from ≤ i → i - from + 1 ≡ i + 1 - from
    one_more l = omega (arith, l)

    back : from ≤ i → from + (i - from) ≡ i
    back l = omega (arith, l)

-- ---- the heights that reach the least point

-- where a height reaches it, later ones do
pub later_reach : (points : List PlanePoint) (least : Least) (heights : List ℤ) (side from : ℕ) → AreHeightsUpTo least.y points heights → IsFirstReaching least heights side from
    → (k : ℕ) (d : ℤ) → from ≤ k → k < length heights → ¬ IsBeyond least (slice_index_or heights k d) side
later_reach points least heights side from are first k d late below beyond = elim (before_or_after from k) [
  | inl sooner ↦ first.reaches d (omega (arith, sooner, below)) (lower (slice_index_or heights from d) (slice_index_or heights k d) (are.ascending from k d sooner below) beyond)
  | inr same ↦ first.reaches d (omega (arith, late, below)) (subst (λ j. IsBeyond least (slice_index_or heights j d) side) (is same) beyond)
]
  where
    lower : (a b : ℤ) → a <ℤ b → b <ℤ (least.y -ℤ pos side) → a <ℤ (least.y -ℤ pos side)
    lower a b h l = omega (arith, ints, h, l)

    is : k ≤ from → k ≡ from
    is l = omega (arith, l, late)

-- they are the model's heights
heights_from : (points : List PlanePoint) (least : Least) (heights : List ℤ) (side from : ℕ) → AreHeightsUpTo least.y points heights → IsFirstReaching least heights side from → AreHeights side (point_of least) points (drop from heights)
heights_from points least heights side from are first = record {
  each = λ k d below.
      let j_below : from + k < length heights = further k below in
      let height = are.each (from + k) d j_below in
      subst (IsHeight side (point_of least) points) (sym (get_or-drop from heights k d)) (record {
        from = not_beyond (slice_index_or heights (from + k) d) (later_reach points least heights side from are first (from + k) d (omega arith) j_below);
        to = height.to;
        meets = height.meets;
      });
  all = λ y height.
      let listed = are.all y (record { to = height.to; meets = height.meets }) in
      let late : from ≤ listed.0 = elim (before_or_after listed.0 from) [
        | inl sooner ↦ absurd (contradicts y height.from (subst (λ v. IsBeyond least v side) listed.2 (first.before listed.0 y sooner)))
        | inr late ↦ late
      ] in
      (listed.0 - from, shorter listed.0 late listed.1, get_or-drop from heights (listed.0 - from) y ∙ ap (λ n. slice_index_or heights n y) (back listed.0 late) ∙ listed.2);
  ascending = λ j k d less below.
      both (sym (get_or-drop from heights j d)) (sym (get_or-drop from heights k d)) (are.ascending (from + j) (from + k) d (omega (arith, less)) (further k below));
}
  where
    further : (k : ℕ) → k < length (drop from heights) → from + k < length heights
    further k below = let e = length-drop from heights in omega (arith, below, e)

    shorter : (k : ℕ) → from ≤ k → k < length heights → k - from < length (drop from heights)
    shorter k late below = let e = length-drop from heights in omega (arith, late, below, e)

    back : (k : ℕ) → from ≤ k → from + (k - from) ≡ k
    back k late = omega (arith, late)

    not_beyond : (v : ℤ) → ¬ (v <ℤ (least.y -ℤ pos side)) → (least.y -ℤ pos side) ≤ℤ v
    not_beyond v n = by_lt_z v (least.y -ℤ pos side) (λ less. absurd (n less)) (λ more. more)

    contradicts : (y : ℤ) → (least.y -ℤ pos side) ≤ℤ y → y <ℤ (least.y -ℤ pos side) → ⊥
    contradicts y h l = omega (arith, ints, h, l)

    both : {a b c d : ℤ} → a ≡ b → c ≡ d → a <ℤ c → b <ℤ d
    both {a} {b} {c} {d} e f l = subst (λ x. x <ℤ d) e (subst (λ y. a <ℤ y) f l)

-- so the leaves are all that are asked for
pub all_leaves : (points : List PlanePoint) (least : Least) (heights : List ℤ) (side from : ℕ) (leaves : List model.Leaf) → length points ≤ 1000 → IsLeastAt points least → AreHeightsUpTo least.y points heights → IsFirstReaching least heights side from
    → AreLeavesFrom side points least heights from (length heights - from) leaves → AreFourLeavesOf (suc side) points leaves
all_leaves points least heights side from leaves few at_least are first h = record {
  refute = record {
    least = point_of least;
    is_least = at_least.is_least;
    heights = drop from heights;
    are_heights = heights_from points least heights side from are first;
    as_many = h.as_many ∙ ap (λ n. 16 * n) (sym (length-drop from heights));
    each = λ n d below. subst (λ y. IsLeafBelow side 2 points (outside (first_square side (point_of least) y) points) (n % 16) (slice_index_or leaves n d)) (sym (get_or-drop from heights (n / 16) (pos 0))) (h.each n d below);
  };
  names = h.names;
  few = (let e = h.as_many in let f = are.few in omega (arith, e, f, few));
}

-- none where the side is 0
pub no_leaves : (points : List PlanePoint) (leaves : List Leaf) → leaves ≡ [] → AreFourLeavesOf 0 points (map leaf_of leaves)
no_leaves points leaves is = subst (λ ls. AreFourLeavesOf 0 points (map leaf_of ls)) (sym is) (record { refute = refl; names = All-nil (NamesPoints points); few = omega arith })
