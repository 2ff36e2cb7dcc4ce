-- The walk over the heights: each is the next one of the model's list, and in the end none is left.
use Rattle.std.proofs.Common.{◌≡◌, ◌⊎◌, inl, inr, refl, sym, subst, ap, ◌∙◌, ℕ, ◌+◌, ◌-◌, ◌*◌, ◌/◌, ◌%◌, ◌^◌, ◌<◌, ◌≤◌, ℤ, pos, ◌+ℤ◌, ◌-ℤ◌, ◌≤ℤ◌, ◌<ℤ◌, List, [], ◌∷◌, ◌++◌, length, map, take, drop, All, Contains, arith}
use Rattle.std.specs.Prelude.{slice_index_or}
use Rattle.std.proofs.lemmas.Int.{ints, by_lt_z}
use Rattle.std.proofs.lemmas.List.{length_push, get_or_append_left, get_or_push, get_or_default, get_or-take, get_or-drop, length-take-le, length-drop, take-map, drop-map}
use Rattle.std.proofs.lemmas.List.Elements.{All-nil, All-push, All-take, All-drop, All-weaker}
use Rattle.integers.proofs.Lists.{before_or_after, below_or_at}
use Rattle.bounds_model.specs.Plane.{PlanePoint, point_at, origin, IsLeastPoint}
use Rattle.bounds_model.specs.CentresAnswer as model
use Rattle.bounds_model.specs.CentresAnswer.{outside, IsLeafBelow}
use Rattle.corner_squares.specs.Trees.{NamesPoints, IsLeafAt, AreLeavesAt}
use Rattle.bounds_model.specs.FourAnswer.{first_square, IsHeight, AreHeights, AreLeavesByHeight}
use Rattle.centres_check.specs.Heights.{IsBetween, IsLowestOf, sixteen_from}
use Rattle.answers.specs.declared.centres.Leaf.{Leaf}
use Rattle.answers.specs.Answers.{leaf_of}
use Rattle.centres_check.specs.CentresLimits as limits
use Rattle.model_laws.proofs.CornersUnique.{same_least}

-- ---- the heights that were found

-- the leaf of this number holds below the first square at its height
abbrev pub IsAt : ℕ → PlanePoint → List PlanePoint → List ℤ → ℕ → model.Leaf → Type 0
IsAt side least points heights n leaf = IsLeafBelow side 2 points (outside (first_square side least (slice_index_or heights (n / 16) (pos 0))) points) (n % 16) leaf

-- the first k heights are those below a value, and their leaves hold
pub record AreFound (side : ℕ) (least : PlanePoint) (points : List PlanePoint) (leaves : List model.Leaf) (k : ℕ) (from : ℤ) : Type 0 where
  pub heights : List ℤ
  pub as_many : length heights ≡ k
  pub each : All (IsHeight side least points) heights
  pub all : (y : ℤ) → IsHeight side least points y → y <ℤ from → Contains heights y
  pub lower : (j : ℕ) (d : ℤ) → j < k → slice_index_or heights j d <ℤ from
  pub ascending : (i j : ℕ) (d : ℤ) → i < j → j < k → slice_index_or heights i d <ℤ slice_index_or heights j d
  pub judged : (n : ℕ) (d : model.Leaf) → n < 16 * k → IsAt side least points heights n (slice_index_or leaves n d)

-- of any list of the heights, the first k are below the value, and no later one is
pub record IsAtPlace (heights : List ℤ) (k : ℕ) (from : ℤ) : Type 0 where
  pub within : k ≤ length heights
  pub before : (j : ℕ) (d : ℤ) → j < k → slice_index_or heights j d <ℤ from
  pub after : (j : ℕ) (d : ℤ) → k ≤ j → j < length heights → from ≤ℤ slice_index_or heights j d

-- ---- at the start

first_value : (side : ℕ) (least : PlanePoint) (points : List PlanePoint) (y : ℤ) → IsHeight side least points y → ¬ (y <ℤ (least.y -ℤ pos side))
first_value side least points y h less = let f = h.from in omega (arith, ints, f, less)

pub none_found : (side : ℕ) (least : PlanePoint) (points : List PlanePoint) (leaves : List model.Leaf) (from : ℤ) → from ≡ (least.y -ℤ pos side) → AreFound side least points leaves 0 from
none_found side least points leaves from is = subst (AreFound side least points leaves 0) (sym is) (record {
  heights = [];
  as_many = refl;
  each = All-nil (IsHeight side least points);
  all = λ y h less. absurd (first_value side least points y h less);
  lower = λ j d l. absurd (omega (arith, l));
  ascending = λ i j d l b. absurd (omega (arith, b));
  judged = λ n d l. absurd (omega (arith, l));
})

pub first_place : (side : ℕ) (least : PlanePoint) (points : List PlanePoint) (from : ℤ) → from ≡ (least.y -ℤ pos side) → (heights : List ℤ) → AreHeights side least points heights → IsAtPlace heights 0 from
first_place side least points from is heights h = subst (IsAtPlace heights 0) (sym is) (record {
  within = omega arith;
  before = λ j d l. absurd (omega (arith, l));
  after = λ j d late below. (h.each j d below).from;
})

-- ---- one height more

-- the lowest height from a value on is a height
pub lowest_is_height : (side : ℕ) (least : PlanePoint) (points : List PlanePoint) (from height : ℤ) → (least.y -ℤ pos side) ≤ℤ from → IsLowestOf points (length points) from least.y height → IsHeight side least points height
lowest_is_height side least points from height start low = record {
  from = (let f = low.between.from_below in omega (arith, ints, start, f));
  to = low.between.to_above;
  meets = (low.number, point_at points low.number, low.below, get_or_default points low.number (point_at points low.number) origin low.below, low.meets);
}

-- and no height is between the value and it
none_lower : (side : ℕ) (least : PlanePoint) (points : List PlanePoint) (from height y : ℤ) → IsLowestOf points (length points) from least.y height → IsHeight side least points y → from ≤ℤ y → height ≤ℤ y
none_lower side least points from height y low h late =
    let is : (point_at points h.meets.0).y ≡ y = ap (λ p. p.y) (get_or_default points h.meets.0 origin h.meets.1 h.meets.2 ∙ h.meets.3) ∙ h.meets.4 in
    subst (λ v. height ≤ℤ v) is (low.least h.meets.0 h.meets.2 (subst (IsBetween from least.y) (sym is) (record { from_below = late; to_above = h.to })))

below_or_from : (a b : ℤ) → (a <ℤ b) ⊎ (b ≤ℤ a)
below_or_from a b = by_lt_z a b inl inr

contains_more : (xs : List ℤ) (y x : ℤ) → Contains xs x → Contains (xs ++ y ∷ []) x
contains_more xs y x h = (h.0, longer h.1, get_or_append_left xs (y ∷ []) x h.0 h.1 ∙ h.2)
  where
    longer : {k : ℕ} → k < length xs → k < length (xs ++ y ∷ [])
    longer l = let e = length_push xs y in omega (arith, l, e)

contains_last : (xs : List ℤ) (y : ℤ) → Contains (xs ++ y ∷ []) y
contains_last xs y = (length xs, inside, get_or_push xs y y (length xs) refl)
  where
    inside : length xs < length (xs ++ y ∷ [])
    inside = let e = length_push xs y in omega (arith, e)

-- one of the sixteen leaves of a height, by its number among all
leaf_of_sixteen : (side : ℕ) (points rest : List PlanePoint) (leaves : List model.Leaf) (k n : ℕ) (d : model.Leaf) → 16 * k ≤ n → n < 16 * k + 16 → 16 * k + 16 ≤ length leaves → AreLeavesAt side 2 points rest (sixteen_from k leaves) → IsLeafBelow side 2 points rest (n % 16) (slice_index_or leaves n d)
leaf_of_sixteen side points rest leaves k n d late early enough new =
    subst (IsLeafBelow side 2 points rest (n % 16)) is (subst (λ j. IsLeafBelow side 2 points rest j (slice_index_or (sixteen_from k leaves) (n - 16 * k) d)) (digit late early) leaf.below)
  where
    small : n - 16 * k < 16
    small = omega (arith, late, early)

    leaf : IsLeafAt side 2 points rest (n - 16 * k) (slice_index_or (sixteen_from k leaves) (n - 16 * k) d)
    leaf = new.each (n - 16 * k) d (subst (λ m. n - 16 * k < m) (sym (new.as_many ∙ sixteen)) small)
      where
        sixteen : 4 ^ 2 ≡ 16
        sixteen = omega arith

    back : 16 * k + (n - 16 * k) ≡ n
    back = omega (arith, late)

    is : slice_index_or (sixteen_from k leaves) (n - 16 * k) d ≡ slice_index_or leaves n d
    is = get_or-take 16 (drop (16 * k) leaves) (n - 16 * k) d small ∙ get_or-drop (16 * k) leaves (n - 16 * k) d ∙ ap (λ m. slice_index_or leaves m d) back

    digit : 16 * k ≤ n → n < 16 * k + 16 → n - 16 * k ≡ n % 16
    digit l m = omega (arith, l, m)

pub found_more : (side : ℕ) (least : PlanePoint) (points : List PlanePoint) (leaves : List model.Leaf) (k : ℕ) (from height next : ℤ) → (least.y -ℤ pos side) ≤ℤ from → (h : AreFound side least points leaves k from) → IsLowestOf points (length points) from least.y height → next ≡ (height +ℤ pos 1)
    → 16 * k + 16 ≤ length leaves → AreLeavesAt side 2 points (outside (first_square side least height) points) (sixteen_from k leaves) → AreFound side least points leaves (k + 1) next
found_more side least points leaves k from height next start h low is enough new = subst (AreFound side least points leaves (k + 1)) (sym is) (record {
  heights = h.heights ++ height ∷ [];
  as_many = length_push h.heights height ∙ ap (λ n. n + 1) h.as_many;
  each = All-push (IsHeight side least points) h.heights height h.each (lowest_is_height side least points from height start low);
  all = λ y is_height less. elim (below_or_from y from) [
    | inl earlier ↦ contains_more h.heights height y (h.all y is_height earlier)
    | inr later ↦ subst (Contains (h.heights ++ height ∷ [])) (equal y less (none_lower side least points from height y low is_height later)) (contains_last h.heights height)
  ];
  lower = λ j d l. elim (below_or_at j k l) [
    | inl sooner ↦ subst (λ v. v <ℤ (height +ℤ pos 1)) (sym (old j d sooner)) (under (slice_index_or h.heights j d) (h.lower j d sooner))
    | inr now ↦ subst (λ v. v <ℤ (height +ℤ pos 1)) (sym (last j d now)) (itself height)
  ];
  ascending = λ i j d less l. elim (below_or_at j k l) [
    | inl sooner ↦ both (sym (old i d (omega (arith, less, sooner)))) (sym (old j d sooner)) (h.ascending i j d less sooner)
    | inr now ↦
        let i_in : i < k = omega (arith, less, now) in
        both (sym (old i d i_in)) (sym (last j d now)) (before (slice_index_or h.heights i d) (h.lower i d i_in))
  ];
  judged = λ n d l. elim (before_or_after n (16 * k)) [
    | inl early ↦ subst (λ y. IsLeafBelow side 2 points (outside (first_square side least y) points) (n % 16) (slice_index_or leaves n d)) (sym (old (n / 16) (pos 0) (omega (arith, early)))) (h.judged n d early)
    | inr late ↦ subst (λ y. IsLeafBelow side 2 points (outside (first_square side least y) points) (n % 16) (slice_index_or leaves n d)) (sym (last (n / 16) (pos 0) (omega (arith, late, l)))) (leaf_of_sixteen side points (outside (first_square side least height) points) leaves k n d late (omega (arith, l)) enough new)
  ];
})
  where
    old : (j : ℕ) (d : ℤ) → j < k → slice_index_or (h.heights ++ height ∷ []) j d ≡ slice_index_or h.heights j d
    old j d l = get_or_append_left h.heights (height ∷ []) d j (let e = h.as_many in omega (arith, l, e))

    last : (j : ℕ) (d : ℤ) → j ≡ k → slice_index_or (h.heights ++ height ∷ []) j d ≡ height
    last j d e = get_or_push h.heights height d j (h.as_many ∙ sym e)

    equal : (y : ℤ) → y <ℤ (height +ℤ pos 1) → height ≤ℤ y → height ≡ y
    equal y l m = omega (arith, ints, l, m)

    itself : (v : ℤ) → v <ℤ (v +ℤ pos 1)
    itself v = omega (arith, ints)

    before : (v : ℤ) → v <ℤ from → v <ℤ height
    before v l = let f = low.between.from_below in omega (arith, ints, l, f)

    under : (v : ℤ) → v <ℤ from → v <ℤ (height +ℤ pos 1)
    under v l = let f = low.between.from_below in omega (arith, ints, l, f)

    both : {a b c d : ℤ} → a ≡ b → c ≡ d → a <ℤ c → b <ℤ d
    both {a} {b} {c} {d} e f l = subst (λ x. x <ℤ d) e (subst (λ y. a <ℤ y) f l)

-- the next height of any list of them is the lowest one from the value on
pub place_has : (side : ℕ) (least : PlanePoint) (points : List PlanePoint) (k : ℕ) (from height : ℤ) (heights : List ℤ) → (least.y -ℤ pos side) ≤ℤ from → AreHeights side least points heights → IsAtPlace heights k from
    → IsLowestOf points (length points) from least.y height → (k < length heights) × ((d : ℤ) → slice_index_or heights k d ≡ height)
place_has side least points k from height heights start are at low = (
  k_below,
  λ d. elim (before_or_after k listed.0) [
    | inl later ↦ absurd (contradicts (slice_index_or heights k d) (less later d) (none_lower side least points from height (slice_index_or heights k d) low (are.each k d k_below) (at.after k d (omega arith) k_below)))
    | inr here ↦ ap (λ n. slice_index_or heights n d) (same here) ∙ get_or_default heights listed.0 d height listed.1 ∙ listed.2
  ],
)
  where
    listed : Contains heights height
    listed = are.all height (lowest_is_height side least points from height start low)

    contradicts : (v : ℤ) → v <ℤ height → height ≤ℤ v → ⊥
    contradicts v l m = omega (arith, ints, l, m)

    not_before : ¬ (listed.0 < k)
    not_before l = contradicts_from (subst (λ v. v <ℤ from) (listed.2) (at.before listed.0 height l))
      where
        contradicts_from : height <ℤ from → ⊥
        contradicts_from l = let f = low.between.from_below in omega (arith, ints, l, f)

    k_below : k < length heights
    k_below = elim (before_or_after listed.0 k) [ inl l ↦ absurd (not_before l) | inr l ↦ (let b = listed.1 in omega (arith, l, b)) ]

    same : listed.0 ≤ k → k ≡ listed.0
    same l = elim (before_or_after listed.0 k) [ inl s ↦ absurd (not_before s) | inr m ↦ omega (arith, l, m) ]

    less : k < listed.0 → (d : ℤ) → slice_index_or heights k d <ℤ height
    less l d = subst (λ v. slice_index_or heights k d <ℤ v) (get_or_default heights listed.0 d height listed.1 ∙ listed.2) (are.ascending k listed.0 d l listed.1)

pub place_more : (side : ℕ) (least : PlanePoint) (points : List PlanePoint) (k : ℕ) (from height next : ℤ) (heights : List ℤ) → (least.y -ℤ pos side) ≤ℤ from → AreHeights side least points heights → IsAtPlace heights k from
    → IsLowestOf points (length points) from least.y height → next ≡ (height +ℤ pos 1) → IsAtPlace heights (k + 1) next
place_more side least points k from height next heights start are at low is = subst (IsAtPlace heights (k + 1)) (sym is) (record {
  within = (let b = has.0 in omega (arith, b));
  before = λ j d l. elim (below_or_at j k l) [
    | inl sooner ↦ under (slice_index_or heights j d) (at.before j d sooner)
    | inr now ↦ subst (λ v. v <ℤ (height +ℤ pos 1)) (sym (ap (λ n. slice_index_or heights n d) now ∙ has.1 d)) (itself height)
  ];
  after = λ j d late below. over (slice_index_or heights j d) (subst (λ v. v <ℤ slice_index_or heights j d) (has.1 d) (are.ascending k j d (omega (arith, late)) below));
})
  where
    has : (k < length heights) × ((d : ℤ) → slice_index_or heights k d ≡ height)
    has = place_has side least points k from height heights start are at low

    itself : (v : ℤ) → v <ℤ (v +ℤ pos 1)
    itself v = omega (arith, ints)

    under : (v : ℤ) → v <ℤ from → v <ℤ (height +ℤ pos 1)
    under v l = let f = low.between.from_below in omega (arith, ints, l, f)

    over : (v : ℤ) → height <ℤ v → (height +ℤ pos 1) ≤ℤ v
    over v l = omega (arith, ints, l)

-- ---- at the end

-- where no point is in the range, no height is
no_height : (side : ℕ) (least : PlanePoint) (points : List PlanePoint) (from y : ℤ) → ((k : ℕ) → k < length points → ¬ IsBetween from least.y (point_at points k).y) → IsHeight side least points y → ¬ (from ≤ℤ y)
no_height side least points from y none h late =
    let is : (point_at points h.meets.0).y ≡ y = ap (λ p. p.y) (get_or_default points h.meets.0 origin h.meets.1 h.meets.2 ∙ h.meets.3) ∙ h.meets.4 in
    none h.meets.0 h.meets.2 (subst (IsBetween from least.y) (sym is) (record { from_below = late; to_above = h.to }))

-- all were found
pub found_all : (side : ℕ) (least : PlanePoint) (points : List PlanePoint) (leaves : List model.Leaf) (k : ℕ) (from : ℤ) → (h : AreFound side least points leaves k from) → ((k : ℕ) → k < length points → ¬ IsBetween from least.y (point_at points k).y) → AreHeights side least points h.heights
found_all side least points leaves k from h none = record {
  each = h.each;
  all = λ y is_height. elim (below_or_from y from) [ inl less ↦ h.all y is_height less | inr late ↦ absurd (no_height side least points from y none is_height late) ];
  ascending = λ i j d less below. h.ascending i j d less (subst (λ n. j < n) h.as_many below);
}

-- so is any list of them
pub place_is_last : (side : ℕ) (least : PlanePoint) (points : List PlanePoint) (k : ℕ) (from : ℤ) (heights : List ℤ) → AreHeights side least points heights → IsAtPlace heights k from → ((k : ℕ) → k < length points → ¬ IsBetween from least.y (point_at points k).y) → length heights ≡ k
place_is_last side least points k from heights are at none = elim (before_or_after k (length heights)) [
  | inl more ↦ absurd (no_height side least points from (slice_index_or heights k (pos 0)) none (are.each k (pos 0) more) (at.after k (pos 0) (omega arith) more))
  | inr all ↦ (let w = at.within in omega (arith, all, w))
]

-- ---- the leaves

-- the leaves that hold below each height hold below this one
pub sixteen_hold : (side : ℕ) (least : PlanePoint) (points : List PlanePoint) (leaves : List model.Leaf) (k : ℕ) (height : ℤ) (heights : List ℤ) → All (NamesPoints points) leaves → 16 * k + 16 ≤ length leaves → ((d : ℤ) → slice_index_or heights k d ≡ height)
    → ((n : ℕ) (d : model.Leaf) → n < length leaves → IsAt side least points heights n (slice_index_or leaves n d)) → AreLeavesAt side 2 points (outside (first_square side least height) points) (sixteen_from k leaves)
sixteen_hold side least points leaves k height heights names enough is each = record {
  as_many = as_many;
  each = λ n d below.
      let small : n < 16 = subst (λ m. n < m) (as_many ∙ sixteen) below in
      let at : slice_index_or (sixteen_from k leaves) n d ≡ slice_index_or leaves (16 * k + n) d = get_or-take 16 (drop (16 * k) leaves) n d small ∙ get_or-drop (16 * k) leaves n d in
      let inside : 16 * k + n < length leaves = omega (arith, small, enough) in
      let held : IsLeafBelow side 2 points (outside (first_square side least height) points) n (slice_index_or leaves (16 * k + n) d) =
      subst (λ j. IsLeafBelow side 2 points (outside (first_square side least height) points) j (slice_index_or leaves (16 * k + n) d)) (digit n small)
      (subst (λ y. IsLeafBelow side 2 points (outside (first_square side least y) points) ((16 * k + n) % 16) (slice_index_or leaves (16 * k + n) d)) (ap (λ m. slice_index_or heights m (pos 0)) (quotient n small) ∙ is (pos 0)) (each (16 * k + n) d inside)) in
      subst (IsLeafAt side 2 points (outside (first_square side least height) points) n) (sym at) (record { names = names (16 * k + n) d inside; below = held });
}
  where
    sixteen : 4 ^ 2 ≡ 16
    sixteen = omega arith

    as_many : length (sixteen_from k leaves) ≡ 4 ^ 2
    as_many = length-take-le 16 (drop (16 * k) leaves) (let e = length-drop (16 * k) leaves in omega (arith, e, enough)) ∙ sym sixteen

    digit : (n : ℕ) → n < 16 → (16 * k + n) % 16 ≡ n
    digit n small = omega (arith, small)

    quotient : (n : ℕ) → n < 16 → (16 * k + n) / 16 ≡ k
    quotient n small = omega (arith, small)

-- so many leaves, sixteen for each height
pub leaves_of_heights : (side : ℕ) (least : PlanePoint) (points : List PlanePoint) (leaves : List model.Leaf) (k : ℕ) (from : ℤ) → IsLeastPoint points least → (h : AreFound side least points leaves k from) → length leaves ≡ 16 * k
    → ((k : ℕ) → k < length points → ¬ IsBetween from least.y (point_at points k).y) → AreLeavesByHeight side points leaves
leaves_of_heights side least points leaves k from is_least h as_many none = record {
  least = least;
  is_least = is_least;
  heights = h.heights;
  are_heights = found_all side least points leaves k from h none;
  as_many = as_many ∙ ap (λ n. 16 * n) (sym h.as_many);
  each = λ n d below. h.judged n d (subst (λ m. n < m) as_many below);
}

-- a list of heights of the answer is one of this least point
pub heights_of : (side : ℕ) (least : PlanePoint) (points : List PlanePoint) (leaves : List model.Leaf) → IsLeastPoint points least → (l : AreLeavesByHeight side points leaves) → AreHeights side least points l.heights
heights_of side least points leaves is_least l = subst (λ p. AreHeights side p points l.heights) (same_least points l.least least l.is_least is_least) l.are_heights

pub each_of : (side : ℕ) (least : PlanePoint) (points : List PlanePoint) (leaves : List model.Leaf) → IsLeastPoint points least → (l : AreLeavesByHeight side points leaves)
    → (n : ℕ) (d : model.Leaf) → n < length leaves → IsAt side least points l.heights n (slice_index_or leaves n d)
each_of side least points leaves is_least l = subst (λ p. (n : ℕ) (d : model.Leaf) → n < length leaves → IsAt side p points l.heights n (slice_index_or leaves n d)) (same_least points l.least least l.is_least is_least) l.each

-- ---- slices

length_is : (k : ℕ) → 16 * k + 16 - 16 * k ≡ 16
length_is k = omega arith

-- the slice of sixteen leaves in the model's words
pub sixteen_are : (k : ℕ) (leaves : List Leaf) → map leaf_of (take (16 * k + 16 - 16 * k) (drop (16 * k) leaves)) ≡ sixteen_from k (map leaf_of leaves)
sixteen_are k leaves = ap (λ n. map leaf_of (take n (drop (16 * k) leaves))) (length_is k) ∙ sym (take-map leaf_of 16 (drop (16 * k) leaves)) ∙ ap (take 16) (sym (drop-map leaf_of (16 * k) leaves))

-- its leaves name points
pub sixteen_names : (points : List PlanePoint) (leaves : List Leaf) (k : ℕ) → All (limits.NamesPoints (length points)) (map leaf_of leaves) → All (limits.NamesPoints (length points)) (map leaf_of (take (16 * k + 16 - 16 * k) (drop (16 * k) leaves)))
sixteen_names points leaves k names = subst (All (limits.NamesPoints (length points))) (sym (sixteen_are k leaves)) (All-take (limits.NamesPoints (length points)) 16 (drop (16 * k) (map leaf_of leaves)) (All-drop (limits.NamesPoints (length points)) (16 * k) (map leaf_of leaves) names))

-- numbers below the count name points
pub names_points : (points : List PlanePoint) (leaves : List model.Leaf) → All (limits.NamesPoints (length points)) leaves → All (NamesPoints points) leaves
names_points points leaves names = All-weaker (limits.NamesPoints (length points)) (NamesPoints points) (λ leaf h. record { first = h.0; second = h.1 }) leaves names
