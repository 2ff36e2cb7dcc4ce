-- The leaves of a tree of corners, from those below each corner and back.
use Rattle.std.proofs.Common.{◌≡◌, inl, inr, refl, sym, subst, ap, ap₂, ◌∙◌, ℕ, zero, suc, ◌+◌, ◌-◌, ◌*◌, ◌/◌, ◌%◌, ◌^◌, ◌<◌, ◌≤◌, List, [], ◌∷◌, ◌++◌, length, get_or, take, drop, Contains, arith}
use Rattle.std.proofs.lemmas.List.{length-append, get_or_append_left, get_or-append_right, get_or-take, get_or-drop, length-take-le, length-drop}
use Rattle.integers.proofs.Lists.{before_or_after}
use Rattle.bounds_model.specs.Numbers.{AllNumbered}
use Rattle.bounds_model.specs.Plane.{PlanePoint, point_at}
use Rattle.bounds_model.specs.CentresAnswer.{Leaf, digits, IsLeftOver, AreFar, AreLeaves, outside, corner_square}
use Rattle.corner_squares.specs.Trees.{NamesPoints, IsLeafAt, AreLeavesAt}

-- ---- digits

-- the first digit of a leaf's number is its corner, and the others are those of its number below that corner
digits_below : (depth corner j : ℕ) → depth ≤ 1 → corner < 4 → j < 4 ^ depth → digits (suc depth) (corner * 4 ^ depth + j) ≡ corner ∷ digits depth j
digits_below zero corner j few four below = ap (λ d. d ∷ []) first
  where
    first : (corner * 4 ^ 0 + j) / 4 ^ 0 % 4 ≡ corner
    first = omega arith
digits_below (suc zero) corner j few four below = ap₂ (λ d e. d ∷ (e ∷ [])) first second
  where
    first : (corner * 4 ^ 1 + j) / 4 ^ 1 % 4 ≡ corner
    first = omega arith

    second : (corner * 4 ^ 1 + j) / 4 ^ 0 % 4 ≡ j / 4 ^ 0 % 4
    second = omega arith
digits_below (suc (suc depth)) corner j few four below = absurd (omega (arith, few))

-- a leaf below a corner is a leaf of the node
leaf_up : (side depth corner j : ℕ) (points rest : List PlanePoint) (leaf : Leaf) → depth ≤ 1 → corner < 4 → j < 4 ^ depth
    → IsLeafAt side depth points (outside (corner_square side corner rest) rest) j leaf → IsLeafAt side (suc depth) points rest (corner * 4 ^ depth + j) leaf
leaf_up side depth corner j points rest leaf few four below h =
    let same = digits_below depth corner j few four below in
    record {
      names = h.names;
      below = record {
        first = subst (λ ds. IsLeftOver side ds rest (point_at points leaf.first)) (sym same) h.below.first;
        second = subst (λ ds. IsLeftOver side ds rest (point_at points leaf.second)) (sym same) h.below.second;
        far = h.below.far;
      };
    }

-- and back
leaf_down : (side depth corner j : ℕ) (points rest : List PlanePoint) (leaf : Leaf) → depth ≤ 1 → corner < 4 → j < 4 ^ depth
    → IsLeafAt side (suc depth) points rest (corner * 4 ^ depth + j) leaf → IsLeafAt side depth points (outside (corner_square side corner rest) rest) j leaf
leaf_down side depth corner j points rest leaf few four below h =
    let same = digits_below depth corner j few four below in
    record {
      names = h.names;
      below = record {
        first = subst (λ ds. IsLeftOver side ds rest (point_at points leaf.first)) same h.below.first;
        second = subst (λ ds. IsLeftOver side ds rest (point_at points leaf.second)) same h.below.second;
        far = h.below.far;
      };
    }

-- ---- one leaf

-- what contains of the first index and the one element contains of each index
only : {X : Type 0} (P : ℕ → X → Type 0) (x : X) → P 0 x → AllNumbered P (x ∷ [])
only P x h zero d below = h
only P x h (suc k) d below = absurd (omega arith)

-- the leaf of a node without corners
pub one_leaf : (side : ℕ) (points rest : List PlanePoint) (leaf : Leaf) → NamesPoints points leaf → Contains rest (point_at points leaf.first) → Contains rest (point_at points leaf.second)
    → AreFar side (point_at points leaf.first) (point_at points leaf.second) → AreLeavesAt side 0 points rest (leaf ∷ [])
one_leaf side points rest leaf names first second far = record { as_many = refl; each = only (IsLeafAt side 0 points rest) leaf (record { names = names; below = record { first = first; second = second; far = far } }) }

-- ---- corner by corner

-- the leaves below the first corners of a node
pub record AreBelowFirst (side depth corner : ℕ) (points rest : List PlanePoint) (leaves : List Leaf) : Type 0 where
  pub as_many : length leaves ≡ corner * 4 ^ depth
  pub each : AllNumbered (IsLeafAt side (suc depth) points rest) leaves

pub none_below : (side depth : ℕ) (points rest : List PlanePoint) → AreBelowFirst side depth 0 points rest []
none_below side depth points rest = record { as_many = omega arith; each = λ k d below. absurd (omega arith) }

-- and those below one corner more
pub more_below : (side depth corner : ℕ) (points rest : List PlanePoint) (leaves own : List Leaf) → depth ≤ 1 → corner < 4 → AreBelowFirst side depth corner points rest leaves
    → AreLeavesAt side depth points (outside (corner_square side corner rest) rest) own → AreBelowFirst side depth (corner + 1) points rest (leaves ++ own)
more_below side depth corner points rest leaves own few four before new = record {
  as_many = length-append leaves own ∙ count (length leaves) (length own) (4 ^ depth) before.as_many new.as_many;
  each = λ k d below. elim (before_or_after k (length leaves)) [
    | inl early ↦ subst (IsLeafAt side (suc depth) points rest k) (sym (get_or_append_left leaves own d k early)) (before.each k d early)
    | inr late ↦
        let j = k - length leaves in
        let is : k ≡ corner * 4 ^ depth + j = index k late in
        let small : j < length own = small_index k (subst (λ n. k < n) (length-append leaves own) below) late in
        let leaf = new.each j d small in
        subst (IsLeafAt side (suc depth) points rest k) (sym (get_or-append_right leaves own (length leaves) k d refl late))
        (subst (λ n. IsLeafAt side (suc depth) points rest n (get_or own j d)) (sym is) (leaf_up side depth corner j points rest (get_or own j d) few four (subst (λ n. j < n) new.as_many small) leaf))
  ];
}
  where
    count : (a b n : ℕ) → a ≡ corner * n → b ≡ n → a + b ≡ (corner + 1) * n
    count a b n e f = omega (arith, e, f)

    index : (k : ℕ) → length leaves ≤ k → k ≡ corner * 4 ^ depth + (k - length leaves)
    index k late = at (length leaves) (corner * 4 ^ depth) before.as_many late
      where
        at : (n m : ℕ) → n ≡ m → n ≤ k → k ≡ m + (k - n)
        at n m e l = omega (arith, e, l)

    small_index : (k : ℕ) → k < length leaves + length own → length leaves ≤ k → k - length leaves < length own
    small_index k below late = omega (arith, below, late)

-- all of them
pub all_below : (side depth : ℕ) (points rest : List PlanePoint) (leaves : List Leaf) → AreBelowFirst side depth 4 points rest leaves → AreLeavesAt side (suc depth) points rest leaves
all_below side depth points rest leaves h = record { as_many = h.as_many ∙ power; each = h.each }
  where
    power : 4 * 4 ^ depth ≡ 4 ^ suc depth
    power = omega arith

-- the leaves below one corner are a part of them
pub part_below : (side depth corner : ℕ) (points rest : List PlanePoint) (leaves : List Leaf) → depth ≤ 1 → corner < 4 → AreLeavesAt side (suc depth) points rest leaves
    → AreLeavesAt side depth points (outside (corner_square side corner rest) rest) (take (4 ^ depth) (drop (corner * 4 ^ depth) leaves))
part_below side depth corner points rest leaves few four h = record {
  as_many = enough;
  each = λ k d below.
      let small : k < 4 ^ depth = subst (λ n. k < n) enough below in
      let is = get_or-take (4 ^ depth) (drop (corner * 4 ^ depth) leaves) k d small ∙ get_or-drop (corner * 4 ^ depth) leaves k d in
      leaf_down side depth corner k points rest (get_or (take (4 ^ depth) (drop (corner * 4 ^ depth) leaves)) k d) few four small
      (subst (IsLeafAt side (suc depth) points rest (corner * 4 ^ depth + k)) (sym is) (h.each (corner * 4 ^ depth + k) d (inside (4 ^ depth) k (length leaves) power small)));
}
  where
    power : length leaves ≡ 4 * 4 ^ depth
    power = let e : 4 ^ suc depth ≡ 4 * 4 ^ depth = omega arith in h.as_many ∙ e

    room : (n m : ℕ) → m ≡ 4 * n → n ≤ m - corner * n
    room n m e = grind (arith, four, e)

    inside : (n k m : ℕ) → m ≡ 4 * n → k < n → corner * n + k < m
    inside n k m e l = grind (arith, four, e, l)

    enough : length (take (4 ^ depth) (drop (corner * 4 ^ depth) leaves)) ≡ 4 ^ depth
    enough = length-take-le (4 ^ depth) (drop (corner * 4 ^ depth) leaves) (subst (λ n. 4 ^ depth ≤ n) (sym (length-drop (corner * 4 ^ depth) leaves)) (room (4 ^ depth) (length leaves) power))

-- ---- nothing left

nothing_left : (side : ℕ) (corners : List ℕ) (p : PlanePoint) → ¬ IsLeftOver side corners [] p
nothing_left side [] p m = let l = m.1 in omega arith
nothing_left side (corner ∷ rest) p m = nothing_left side rest p m

some_leaf : (depth : ℕ) → 0 < 4 ^ depth
some_leaf zero = omega arith
some_leaf (suc depth) = let l = some_leaf depth in let e : 4 ^ suc depth ≡ 4 * 4 ^ depth = omega arith in subst (λ n. 0 < n) (sym e) (omega (arith, l))

-- where no point is left over, there are no leaves
pub no_leaves : (side depth : ℕ) (points : List PlanePoint) (leaves : List Leaf) → ¬ AreLeavesAt side depth points [] leaves
no_leaves side depth points leaves h =
    nothing_left side (digits depth 0) _ (h.each 0 (record { first = 0; second = 0 }) (subst (λ n. 0 < n) (sym h.as_many) (some_leaf depth))).below.first

-- ---- the whole tree

-- the leaves of the tree over all points are what a checker asks
pub tree_leaves : (side count : ℕ) (points : List PlanePoint) (leaves : List Leaf) → AreLeavesAt side (count - 1) points points leaves → AreLeaves (suc side) count points leaves
tree_leaves side count points leaves h = (h.as_many, λ k d below. (h.each k d below).below)
