-- Squares that are placed one after another cover the points, or leaves below each corner show that they do not.
use Rattle.std.proofs.Common.{◌≡◌, inl, inr, refl, sym, subst, ap, ◌∙◌, ℕ, zero, suc, ◌+◌, ◌-◌, ◌*◌, ◌/◌, ◌%◌, ◌^◌, ◌<◌, ◌≤◌, ◌≢◌, ℤ, pos, ◌+ℤ◌, ◌-ℤ◌, ◌≤ℤ◌, neg_ℤ, Bool, true, false, List, [], ◌∷◌, ◌++◌, length, map, All, IsTrue, arith}
use Rattle.std.specs.Prelude.{if◌then◌else◌, ◌==◌}
use Rattle.std.proofs.lemmas.Int.{ints}
use Rattle.std.proofs.lemmas.List.{append-nil, get_or_default, get_or_append_left, get_or_push, length_push, length-append, length-map, append_assoc, map-append}
use Rattle.std.proofs.lemmas.List.Elements.{All-push, Contains-get_or}
use Rattle.bounds_model.specs.Plane.{PlanePoint, point_at, origin}
use Rattle.bounds_model.specs.CentresAnswer as model
use Rattle.answers.specs.declared.centres.Leaf.{Leaf}
use Rattle.answers.specs.Answers.{leaf_of}
use Rattle.corner_squares.specs.declared.square.Square.{Square}
use Rattle.corner_squares.specs.declared.extent.Extent.{Extent}
use Rattle.corner_squares.specs.declared.bounds.Bounds.{Bounds}
use Rattle.corner_squares.specs.Squares.{square_of, IsCovered, left_over}
use Rattle.corner_squares.specs.Extents.{IsPlaneExtent, IsRestBox, IsNoLonger}
use Rattle.corner_squares.specs.Trees.{AreLeavesAt}
use Rattle.corner_squares.specs.Covers.{IsPlaced, IsCover, IsFarPair, IsRefuted}
use Rattle.corner_squares.proofs.Covering.{between_sides}
use Rattle.corner_squares.proofs.LeftOver.{Contains-left_over}
use Rattle.corner_squares.proofs.RestBoxes.{left_over_corner}
use Rattle.corner_squares.proofs.Trees.{AreBelowFirst, one_leaf, none_below, more_below, all_below}

-- ---- squares

-- what some squares contain, more squares contain
pub covered_by_more : (squares more : List Square) (p : PlanePoint) → IsCovered squares p → IsCovered (squares ++ more) p
covered_by_more squares more p h = (h.0, h.1, longer h.2, get_or_append_left squares more h.1 h.0 h.2 ∙ h.3, h.4)
  where
    longer : {k : ℕ} → k < length squares → k < length (squares ++ more)
    longer l = let e = length-append squares more in omega (arith, l, e)

pub covered_by_last : (squares : List Square) (s : Square) (p : PlanePoint) → IsTrue (model.contains (square_of s) p) → IsCovered (squares ++ s ∷ []) p
covered_by_last squares s p h = (length squares, s, inside, get_or_push squares s s (length squares) refl, h)
  where
    inside : length squares < length (squares ++ s ∷ [])
    inside = let e = length_push squares s in omega (arith, e)

-- the square is in this corner of the box
pub record IsCorner (side corner : ℕ) (b : Bounds) (s : Square) : Type 0 where
  pub left : s.left ≡ (if corner % 2 == 0 then b.across.low else (b.across.high -ℤ pos side))
  pub bottom : s.bottom ≡ (if corner / 2 == 0 then b.up.low else (b.up.high -ℤ pos side))
  pub wide : s.side ≡ side

-- so it reaches into the bounds of points
reaches : (low : Bool) (side : ℕ) (e : Extent) (v : ℤ) → IsPlaneExtent e → v ≡ (if low then e.low else (e.high -ℤ pos side)) → (v ≤ℤ pos 200000) × (pos 0 ≤ℤ ((v +ℤ pos side) +ℤ pos 200000))
reaches true side e v h is = let a = h.low.low in let b = h.high.high in let o = h.order in (omega (arith, ints, is, b, o), omega (arith, ints, is, a))
reaches false side e v h is = let a = h.low.low in let b = h.high.high in let o = h.order in (omega (arith, ints, is, b), omega (arith, ints, is, a, o))

is_placed : (side corner : ℕ) (b : Bounds) (s : Square) → IsPlaneExtent b.across → IsPlaneExtent b.up → IsCorner side corner b s → IsPlaced side s
is_placed side corner b s across up h =
    let in_x = reaches (corner % 2 == 0) side b.across s.left across h.left in
    let in_y = reaches (corner / 2 == 0) side b.up s.bottom up h.bottom in
    record { wide = h.wide; left = in_x.0; right = up_from s.left in_x.1; bottom = in_y.0; top = up_from s.bottom in_y.1 }
  where
    up_from : (v : ℤ) → pos 0 ≤ℤ ((v +ℤ pos side) +ℤ pos 200000) → neg_ℤ (pos 200000) ≤ℤ (v +ℤ pos side)
    up_from v h = omega (arith, ints, h)

-- and the placed squares with it are in their ranges
pub placed_more : (points : List PlanePoint) (side corner : ℕ) (squares placed_on pushed : List Square) (b : Bounds) (s : Square) → All (IsPlaced side) squares → IsRestBox points placed_on b → IsCorner side corner b s
    → pushed ≡ squares ++ s ∷ [] → All (IsPlaced side) pushed
placed_more points side corner squares placed_on pushed b s placed box h is =
    subst (All (IsPlaced side)) (sym is) (All-push (IsPlaced side) squares s placed (is_placed side corner b s box.across.plane box.up.plane h))

-- ---- a cover

pub cover_now : (points : List PlanePoint) (side most : ℕ) (squares seen : List Square) → seen ≡ squares → length squares ≤ most → All (IsPlaced side) squares → All (IsCovered seen) points → IsCover points side most squares
cover_now points side most squares seen is few placed covered = record { few = few; placed = placed; covered = subst (λ ss. All (IsCovered ss) points) is covered }

pub cover_by_more : (points : List PlanePoint) (side m n : ℕ) (squares : List Square) → m ≤ n → IsCover points side m squares → IsCover points side n squares
cover_by_more points side m n squares more h = record { few = (let f = h.few in omega (arith, f, more)); placed = h.placed; covered = h.covered }

-- a square as wide as the box holds what is in it
within : (low high v : ℤ) (side : ℕ) → high ≤ℤ (low +ℤ pos side) → (low ≤ℤ v) × (v ≤ℤ high) → (low ≤ℤ v) × (v ≤ℤ (low +ℤ pos side))
within low high v side wide inside = let a = inside.1 in (inside.0, omega (arith, ints, wide, a))

pub cover_with_one_more : (points : List PlanePoint) (side : ℕ) (squares pushed : List Square) (b : Bounds) (s : Square) → All (IsPlaced side) squares → IsRestBox points squares b × IsNoLonger side b → IsCorner side 0 b s
    → pushed ≡ squares ++ s ∷ [] → IsCover points side (length squares + 1) pushed
cover_with_one_more points side squares pushed b s placed box h is = subst (IsCover points side (length squares + 1)) (sym is) (record {
  few = (let e = length_push squares s in omega (arith, e));
  placed = placed_more points side 0 squares squares (squares ++ s ∷ []) b s placed box.0 h refl;
  covered = λ k d below. subst (IsCovered (squares ++ s ∷ [])) (get_or_default points k origin d below) (elim (box.0.across.inside k below) [
    | inl covered ↦ covered_by_more squares (s ∷ []) (point_at points k) covered
    | inr in_x ↦ elim (box.0.up.inside k below) [
      | inl covered ↦ covered_by_more squares (s ∷ []) (point_at points k) covered
      | inr in_y ↦ covered_by_last squares s (point_at points k) (in_square (point_at points k)
          (within b.across.low b.across.high (point_at points k).x side box.1.in_x in_x) (within b.up.low b.up.high (point_at points k).y side box.1.in_y in_y))
    ]
  ]);
})
  where
    between : (v low high : ℤ) (wide : ℕ) → v ≡ low → wide ≡ side → (p : ℤ) → (low ≤ℤ p) × (p ≤ℤ (low +ℤ pos side)) → (v ≤ℤ p) × (p ≤ℤ (v +ℤ pos wide))
    between v low high wide e f p inside = let a = inside.0 in let b = inside.1 in (omega (arith, ints, e, a), omega (arith, ints, e, f, b))

    in_square : (p : PlanePoint) → (b.across.low ≤ℤ p.x) × (p.x ≤ℤ (b.across.low +ℤ pos side)) → (b.up.low ≤ℤ p.y) × (p.y ≤ℤ (b.up.low +ℤ pos side)) → IsTrue (model.contains (square_of s) p)
    in_square p in_x in_y = (between_sides (square_of s) p).1 (between s.left b.across.low b.across.low s.side h.left h.wide p.x in_x, between s.bottom b.up.low b.up.low s.side h.bottom h.wide p.y in_y)

-- ---- leaves

-- two points that are left over and far apart are a leaf
pub refuted_by_pair : (points : List PlanePoint) (side : ℕ) (placed : List Square) (leaves leaves_then : List Leaf) (leaf : Leaf) → IsFarPair points placed side leaf → leaves_then ≡ leaves ++ leaf ∷ []
    → IsRefuted points side 0 placed placed leaves leaves_then
refuted_by_pair points side placed leaves leaves_then leaf far is = record {
  stays = refl;
  own = leaf ∷ [];
  appended = is;
  refuted = one_leaf side points (left_over placed points) (leaf_of leaf) (record { first = far.first; second = far.second })
      (Contains-left_over placed points (point_at points leaf.first) (Contains-get_or points leaf.first origin far.first) far.first_free)
      (Contains-left_over placed points (point_at points leaf.second) (Contains-get_or points leaf.second origin far.second) far.second_free)
      far.far;
}

-- the leaves below the first corners are appended
abbrev pub BelowFirst : ℕ → ℕ → ℕ → List PlanePoint → List PlanePoint → List Leaf → List Leaf → Type 0
BelowFirst side depth corner points rest leaves leaves_then = (own : List Leaf) × (leaves_then ≡ leaves ++ own) × AreBelowFirst side depth corner points rest (map leaf_of own)

pub no_corner : (side depth : ℕ) (points rest : List PlanePoint) (leaves : List Leaf) → BelowFirst side depth 0 points rest leaves leaves
no_corner side depth points rest leaves = ([], sym (append-nil leaves), none_below side depth points rest)

-- one corner more
pub corner_more : (side depth corner : ℕ) (points : List PlanePoint) (placed pushed pushed_then : List Square) (b : Bounds) (s : Square) (leaves before after : List Leaf)
    → depth ≤ 1 → corner < 4 → IsRestBox points placed b → IsCorner side corner b s → pushed ≡ placed ++ s ∷ [] → BelowFirst side depth corner points (left_over placed points) leaves before
    → IsRefuted points side depth pushed pushed_then before after → BelowFirst side depth (corner + 1) points (left_over placed points) leaves after
corner_more side depth corner points placed pushed pushed_then b s leaves before after few four box h is below new = (
  below.0 ++ new.own,
  new.appended ∙ ap (λ ls. ls ++ new.own) below.1 ∙ append_assoc leaves below.0 new.own,
  subst (AreBelowFirst side depth (corner + 1) points (left_over placed points)) (sym (map-append leaf_of below.0 new.own))
      (more_below side depth corner points (left_over placed points) (map leaf_of below.0) (map leaf_of new.own) few four below.2 (subst (λ rest. AreLeavesAt side depth points rest (map leaf_of new.own)) rest_is new.refuted)),
)
  where
    rest_is : left_over pushed points ≡ model.outside (model.corner_square side corner (left_over placed points)) (left_over placed points)
    rest_is = left_over_corner points placed pushed b s corner side box h.left h.bottom h.wide is

-- all corners
pub all_corners : (side depth corner : ℕ) (points : List PlanePoint) (placed placed_then : List Square) (leaves leaves_then : List Leaf) → depth ≢ 0 → corner ≡ 4 → placed_then ≡ placed
    → BelowFirst side (depth - 1) corner points (left_over placed points) leaves leaves_then → IsRefuted points side depth placed placed_then leaves leaves_then
all_corners side zero corner points placed placed_then leaves leaves_then some four stays below = absurd (some refl)
all_corners side (suc depth) corner points placed placed_then leaves leaves_then some four stays below = record {
  stays = stays;
  own = below.0;
  appended = below.1;
  refuted = all_below side depth points (left_over placed points) (map leaf_of below.0) (subst (λ c. AreBelowFirst side c 4 points (left_over placed points) (map leaf_of below.0)) one_less (subst (λ c. AreBelowFirst side (suc depth - 1) c points (left_over placed points) (map leaf_of below.0)) four below.2));
}
  where
    one_less : suc depth - 1 ≡ depth
    one_less = omega arith

-- there is room for the leaves below one corner more
pub room_for_leaves : (side depth corner : ℕ) (points rest : List PlanePoint) (leaves leaves_then : List Leaf) → depth ≢ 0 → corner < 4 → length leaves + 4 ^ depth ≤ 16
    → BelowFirst side (depth - 1) corner points rest leaves leaves_then → length leaves_then + 4 ^ (depth - 1) ≤ 16
room_for_leaves side zero corner points rest leaves leaves_then some four room below = absurd (some refl)
room_for_leaves side (suc depth) corner points rest leaves leaves_then some four room below =
    let power : 4 ^ suc depth ≡ 4 * 4 ^ depth = omega arith in
    let less : suc depth - 1 ≡ depth = omega arith in
    let as_many : length below.0 ≡ corner * 4 ^ (suc depth - 1) = sym (length-map below.0 leaf_of) ∙ below.2.as_many in
    let many : length leaves_then ≡ length leaves + length below.0 = ap length below.1 ∙ length-append leaves below.0 in
    subst (λ d. length leaves_then + 4 ^ d ≤ 16) (sym less)
    (enough (length leaves_then) (length leaves) (length below.0) (4 ^ depth) many (as_many ∙ ap (λ d. corner * 4 ^ d) less) (subst (λ n. length leaves + n ≤ 16) power room))
  where
    enough : (now was own n : ℕ) → now ≡ was + own → own ≡ corner * n → was + 4 * n ≤ 16 → now + n ≤ 16
    enough now was own n e f h = grind (arith, four, e, f, h)
