-- The leaves that are kept while the heights are searched, and those of the earlier heights before them.
use Rattle.std.proofs.Common.{◌≡◌, inl, inr, refl, sym, subst, ◌∙◌, ℕ, zero, suc, ◌+◌, ◌-◌, ◌*◌, ◌/◌, ◌%◌, ◌<◌, ◌≤◌, ◌≢◌, max, ℤ, pos, ◌-ℤ◌, ◌<ℤ◌, List, [], ◌++◌, length, map, All, arith}
use Rattle.std.specs.Prelude.{slice_index_or}
use Rattle.std.proofs.lemmas.Int.{ints}
use Rattle.std.proofs.lemmas.List.{length-append, get_or_default, get_or_append_left, get_or-append_right, map-append}
use Rattle.std.proofs.lemmas.List.Elements.{All-append}
use Rattle.integers.proofs.Lists.{before_or_after, below_or_at}
use Rattle.bounds_model.specs.Plane.{PlanePoint}
use Rattle.bounds_model.specs.CentresAnswer as model
use Rattle.bounds_model.specs.CentresAnswer.{outside, IsLeafBelow}
use Rattle.bounds_model.specs.FourAnswer.{first_square}
use Rattle.answers.specs.declared.centres.Leaf.{Leaf}
use Rattle.answers.specs.Answers.{leaf_of}
use Rattle.corner_squares.specs.declared.square.Square.{Square}
use Rattle.corner_squares.specs.declared.least.Least.{Least}
use Rattle.corner_squares.specs.Squares.{square_of}
use Rattle.corner_squares.specs.LeastPoints.{point_of}
use Rattle.corner_squares.specs.Trees.{NamesPoints, AreLeavesAt}
use Rattle.four_centres.specs.Heights.{AreHeightsUpTo, IsBeyond}
use Rattle.four_centres.specs.Search.{IsAtMost, IsFirstReaching, AreLeavesFrom, AreLeavesSince, AreKept}
use Rattle.four_centres.proofs.LeafLists.{no_leaves_yet, leaves_appended, later_reach}

-- the heights are in bounds, and not above the least point
pub heights_at_most : (points : List PlanePoint) (least : Least) (heights : List ℤ) → AreHeightsUpTo least.y points heights → All (IsAtMost least) heights
heights_at_most points least heights are = λ k d below. record { plane = are.plane k d below; to = (are.each k d below).to }

-- ---- after an improvement, and height by height

-- none yet
none_since : (side : ℕ) (points : List PlanePoint) (least : Least) (heights : List ℤ) (i : ℕ) (leaves : List Leaf) → leaves ≡ [] → AreLeavesSince side points least heights i i (map leaf_of leaves)
none_since side points least heights i leaves is = record {
  from = i;
  since_from = omega arith;
  to_i = omega arith;
  before = λ k d late early. absurd (omega (arith, late, early));
  reach = λ k d late early. absurd (omega (arith, late, early));
  are = no_leaves_yet side points least heights i (i - i) leaves (omega arith) is;
}

pub kept_none : (side : ℕ) (points : List PlanePoint) (least : Least) (heights : List ℤ) (i : ℕ) (leaves : List Leaf) → leaves ≡ [] → AreKept side points least heights i i (map leaf_of leaves)
kept_none zero points least heights i leaves is = tt
kept_none (suc side) points least heights i leaves is = none_since side points least heights i leaves is

-- a height that is beyond the least point, as those before it are
beyond_since : (side : ℕ) (points : List PlanePoint) (least : Least) (heights : List ℤ) (since i : ℕ) (leaves : List model.Leaf) → AreHeightsUpTo least.y points heights → i < length heights → IsBeyond least (slice_index_or heights i (pos 0)) side
    → AreLeavesSince side points least heights since i leaves → AreLeavesSince side points least heights since (i + 1) leaves
beyond_since side points least heights since i leaves are below beyond h = record {
  from = i + 1;
  since_from = (let a = h.since_from in let b = h.to_i in omega (arith, a, b));
  to_i = omega arith;
  before = λ k d late early. elim (below_or_at k i early) [
    | inl sooner ↦ h.before k d late (subst (λ n. k < n) (sym all) sooner)
    | inr now ↦ subst (λ j. IsBeyond least (slice_index_or heights j d) side) (sym now) (subst (λ v. IsBeyond least v side) (get_or_default heights i (pos 0) d below) beyond)
  ];
  reach = λ k d late early. absurd (omega (arith, late, early));
  are = record {
    as_many = (let e = h.are.as_many in omega (arith, e, all));
    names = h.are.names;
    each = λ n d inside. absurd (let e = h.are.as_many in omega (arith, e, all, inside));
  };
}
  where
    lower : (a b : ℤ) → a <ℤ b → b <ℤ (least.y -ℤ pos side) → a <ℤ (least.y -ℤ pos side)
    lower a b h l = omega (arith, ints, h, l)

    all : h.from ≡ i
    all = elim (before_or_after h.from i) [
      | inl sooner ↦ absurd (h.reach h.from (pos 0) (omega arith) sooner (lower (slice_index_or heights h.from (pos 0)) (slice_index_or heights i (pos 0)) (are.ascending h.from i (pos 0) sooner below) beyond))
      | inr late ↦ (let t = h.to_i in omega (arith, late, t))
    ]

pub kept_beyond : (side : ℕ) (points : List PlanePoint) (least : Least) (heights : List ℤ) (since i : ℕ) (leaves : List model.Leaf) → AreHeightsUpTo least.y points heights → i < length heights → IsBeyond least (slice_index_or heights i (pos 0)) (side - 1)
    → AreKept side points least heights since i leaves → AreKept side points least heights since (i + 1) leaves
kept_beyond zero points least heights since i leaves are below beyond h = tt
kept_beyond (suc side) points least heights since i leaves are below beyond h =
    beyond_since side points least heights since i leaves are below (subst (IsBeyond least (slice_index_or heights i (pos 0))) less beyond) h
  where
    less : suc side - 1 ≡ side
    less = omega arith

-- sixteen leaves more
more_since : (side : ℕ) (points : List PlanePoint) (least : Least) (heights : List ℤ) (since i : ℕ) (leaves appended own : List Leaf) (s : Square) → i < length heights → ¬ IsBeyond least (slice_index_or heights i (pos 0)) side
    → AreLeavesSince side points least heights since i (map leaf_of leaves) → s ≡ record { left = least.x; bottom = slice_index_or heights i (pos 0); side = side } → AreLeavesAt s.side 2 points (outside (square_of s) points) (map leaf_of own)
    → appended ≡ leaves ++ own → AreLeavesSince side points least heights since (i + 1) (map leaf_of appended)
more_since side points least heights since i leaves appended own s below reaches h is new appended_is = record {
  from = h.from;
  since_from = h.since_from;
  to_i = (let t = h.to_i in omega (arith, t));
  before = h.before;
  reach = λ k d late early. elim (below_or_at k i early) [
    | inl sooner ↦ h.reach k d late sooner
    | inr now ↦ λ beyond. reaches (subst (λ v. IsBeyond least v side) (sym (get_or_default heights i (pos 0) d below)) (subst (λ j. IsBeyond least (slice_index_or heights j d) side) now beyond))
  ];
  are = leaves_appended side points least heights h.from i leaves appended own s h.to_i h.are is new appended_is;
}

pub kept_more : (side : ℕ) (points : List PlanePoint) (least : Least) (heights : List ℤ) (since i : ℕ) (leaves appended own : List Leaf) (s : Square) → i < length heights → ¬ IsBeyond least (slice_index_or heights i (pos 0)) (side - 1)
    → AreKept side points least heights since i (map leaf_of leaves) → s ≡ record { left = least.x; bottom = slice_index_or heights i (pos 0); side = side - 1 } → AreLeavesAt s.side 2 points (outside (square_of s) points) (map leaf_of own)
    → appended ≡ leaves ++ own → AreKept side points least heights since (i + 1) (map leaf_of appended)
kept_more zero points least heights since i leaves appended own s below reaches h is new appended_is = tt
kept_more (suc side) points least heights since i leaves appended own s below reaches h is new appended_is =
    more_since side points least heights since i leaves appended own s below (λ beyond. reaches (subst (IsBeyond least (slice_index_or heights i (pos 0))) (sym less) beyond)) h
    (subst (λ k. s ≡ record { left = least.x; bottom = slice_index_or heights i (pos 0); side = k }) less is) new appended_is
  where
    less : suc side - 1 ≡ side
    less = omega arith

-- at most sixteen for each height
pub kept_few : (side : ℕ) (points : List PlanePoint) (least : Least) (heights : List ℤ) (since i : ℕ) (leaves : List model.Leaf) → side ≢ 0 → AreKept side points least heights since i leaves → length leaves ≤ 16 * i
kept_few zero points least heights since i leaves some h = absurd (some refl)
kept_few (suc side) points least heights since i leaves some h = (let e = h.are.as_many in omega (arith, e))

-- ---- those of the earlier heights before them

join_leaves : (side : ℕ) (points : List PlanePoint) (least : Least) (heights : List ℤ) (from a b : ℕ) (xs ys : List model.Leaf) → AreLeavesFrom side points least heights from a xs → AreLeavesFrom side points least heights (from + a) b ys
    → AreLeavesFrom side points least heights from (a + b) (xs ++ ys)
join_leaves side points least heights from a b xs ys h k = record {
  as_many = length-append xs ys ∙ total (length xs) (length ys) h.as_many k.as_many;
  names = All-append (NamesPoints points) xs ys h.names k.names;
  each = λ n d below. elim (before_or_after n (length xs)) [
    | inl early ↦ subst (IsAt n) (sym (get_or_append_left xs ys d n early)) (h.each n d early)
    | inr late ↦
        let j = n - length xs in
        let small : j < length ys = inside n (subst (λ m. n < m) (length-append xs ys) below) late in
        let at = back n late in
        subst (IsAt n) (sym (get_or-append_right xs ys (length xs) n d refl late))
        (subst (λ m. IsLeafBelow side 2 points (outside (first_square side (point_of least) (slice_index_or heights m (pos 0))) points) (n % 16) (slice_index_or ys j d)) (quotient n j at)
        (subst (λ m. IsLeafBelow side 2 points (outside (first_square side (point_of least) (slice_index_or heights (from + a + j / 16) (pos 0))) points) m (slice_index_or ys j d)) (digit n j at) (k.each j d small)))
  ];
}
  where
    IsAt : ℕ → model.Leaf → Type 0
    IsAt n leaf = IsLeafBelow side 2 points (outside (first_square side (point_of least) (slice_index_or heights (from + n / 16) (pos 0))) points) (n % 16) leaf

    total : (m n : ℕ) → m ≡ 16 * a → n ≡ 16 * b → m + n ≡ 16 * (a + b)
    total m n e f = omega (arith, e, f)

    inside : (n : ℕ) → n < length xs + length ys → length xs ≤ n → n - length xs < length ys
    inside n below late = omega (arith, below, late)

    back : (n : ℕ) → length xs ≤ n → n ≡ 16 * a + (n - length xs)
    back n late = let e = h.as_many in omega (arith, late, e)

    quotient : (n j : ℕ) → n ≡ 16 * a + j → from + a + j / 16 ≡ from + n / 16
    quotient n j e = omega (arith, e)

    digit : (n j : ℕ) → n ≡ 16 * a + j → j % 16 ≡ n % 16
    digit n j e = omega (arith, e)

-- the kept leaves begin at the first height that reaches the least point, or where the best side was found
kept_from : (side : ℕ) (points : List PlanePoint) (least : Least) (heights : List ℤ) (first since : ℕ) (leaves : List model.Leaf) → AreHeightsUpTo least.y points heights → IsFirstReaching least heights side first
    → (h : AreLeavesSince side points least heights since (length heights) leaves) → h.from ≡ max first since
kept_from side points least heights first since leaves are is_first h = elim (before_or_after h.from (max first since)) [
  | inl sooner ↦ elim (before_or_after h.from first) [
    | inl early ↦ absurd (h.reach h.from (pos 0) (omega arith) (let w = is_first.within in omega (arith, early, w)) (is_first.before h.from (pos 0) early))
    | inr late ↦ absurd (let s = h.since_from in omega (arith, sooner, late, s))
  ]
  | inr late ↦ elim (before_or_after (max first since) h.from) [
    | inl more ↦ absurd (later_reach points least heights side first are is_first (max first since) (pos 0) (omega arith) (let t = h.to_i in omega (arith, more, t)) (h.before (max first since) (pos 0) (omega arith) more))
    | inr same ↦ omega (arith, late, same)
  ]
]

-- so with those of the heights between, all are there
pub with_kept : (side : ℕ) (points : List PlanePoint) (least : Least) (heights : List ℤ) (first since : ℕ) (earlier kept all : List Leaf) → AreHeightsUpTo least.y points heights → IsFirstReaching least heights side first
    → AreLeavesFrom side points least heights first (max first since - first) (map leaf_of earlier) → AreLeavesSince side points least heights since (length heights) (map leaf_of kept) → all ≡ earlier ++ kept
    → AreLeavesFrom side points least heights first (length heights - first) (map leaf_of all)
with_kept side points least heights first since earlier kept all are is_first before h is =
    subst (λ ls. AreLeavesFrom side points least heights first (length heights - first) (map leaf_of ls)) (sym is)
    (subst (AreLeavesFrom side points least heights first (length heights - first)) (sym (map-append leaf_of earlier kept))
    (subst (λ n. AreLeavesFrom side points least heights first n (map leaf_of earlier ++ map leaf_of kept)) total
    (join_leaves side points least heights first (max first since - first) (length heights - h.from) (map leaf_of earlier) (map leaf_of kept) before (subst (λ n. AreLeavesFrom side points least heights n (length heights - h.from) (map leaf_of kept)) start h.are))))
  where
    begin : h.from ≡ max first since
    begin = kept_from side points least heights first since (map leaf_of kept) are is_first h

    start : h.from ≡ first + (max first since - first)
    start = omega (arith, begin)

    total : max first since - first + (length heights - h.from) ≡ length heights - first
    total = let t = h.to_i in let w = is_first.within in omega (arith, begin, t, w)
