-- The leaves below a node of the tree, corner by corner.
use Rattle.std.proofs.Common.{◌≡◌, ◌≢◌, refl, sym, subst, ap, ap₂, ◌∙◌, ◌↔◌, ℕ, zero, suc, ◌+◌, ◌-◌, ◌*◌, ◌/◌, ◌^◌, ◌<◌, ◌≤◌, Bool, List, [], ◌∷◌, ◌++◌, length, map, take, drop, All, IsTrue, get_or, arith}
use Rattle.std.specs.Prelude.{Option, None}
use Rattle.std.proofs.lemmas.List.{take-map, drop-map, take-append-drop, take-take, drop-take, take_all, length-take-le, length-drop}
use Rattle.std.proofs.lemmas.List.Elements.{All-take, All-drop, Contains-get_or}
use Rattle.bounds_model.specs.Plane.{PlanePoint, point_at, origin}
use Rattle.bounds_model.specs.CentresAnswer as model
use Rattle.answers.specs.Answers.{leaf_of}
use Rattle.answers.specs.declared.centres.Leaf.{Leaf}
use Rattle.corner_squares.specs.declared.square.Square.{Square}
use Rattle.corner_squares.specs.declared.bounds.Bounds.{Bounds}
use Rattle.corner_squares.specs.Squares.{left_over}
use Rattle.corner_squares.specs.Extents.{IsFound}
use Rattle.corner_squares.specs.Trees.{AreLeavesAt}
use Rattle.corner_squares.proofs.LeftOver.{Contains-left_over, free_of_left_over}
use Rattle.corner_squares.proofs.Boxes.{nothing_free}
use Rattle.corner_squares.proofs.Trees.{AreBelowFirst, one_leaf, more_below, all_below, part_below, no_leaves}
use Rattle.centres_check.specs.CentresLimits.{NamesPoints, IsFreePair}

-- ---- one leaf

single : {X : Type 0} (xs : List X) (d : X) → length xs ≡ 1 → xs ≡ get_or xs 0 d ∷ []
single [] d one = absurd (omega (arith, one))
single (x ∷ []) d one = refl
single (x ∷ (y ∷ rest)) d one = absurd (omega (arith, one))

-- points that are free and far apart are the leaf of a node without corners
free_pair : (side : ℕ) (points : List PlanePoint) (squares : List Square) (leaf : model.Leaf) → NamesPoints (length points) leaf
    → IsFreePair side squares (point_at points leaf.first) (point_at points leaf.second) ↔ AreLeavesAt side 0 points (left_over squares points) (leaf ∷ [])
free_pair side points squares leaf names = (
  λ free. one_leaf side points (left_over squares points) leaf (record { first = names.0; second = names.1 })
      (Contains-left_over squares points (point_at points leaf.first) (Contains-get_or points leaf.first origin names.0) free.first)
      (Contains-left_over squares points (point_at points leaf.second) (Contains-get_or points leaf.second origin names.1) free.second) free.far,
  λ h. let at = h.each 0 leaf (omega arith) in
      record { first = free_of_left_over squares points (point_at points leaf.first) at.below.first; second = free_of_left_over squares points (point_at points leaf.second) at.below.second; far = at.below.far },
)

pub leaf_alone : {yes : Bool} (side depth : ℕ) (points : List PlanePoint) (squares seen : List Square) (leaves : List Leaf) (d : Leaf) → depth ≡ 0 → seen ≡ squares → length leaves ≡ 4 ^ depth → NamesPoints (length points) (leaf_of (get_or leaves 0 d))
    → (IsTrue yes ↔ IsFreePair side seen (point_at points (get_or leaves 0 d).first) (point_at points (get_or leaves 0 d).second)) → IsTrue yes ↔ AreLeavesAt side depth points (left_over squares points) (map leaf_of leaves)
leaf_alone {yes} side depth points squares seen leaves d none same count names h =
    let one : length leaves ≡ 1 = count ∙ ap (λ k. 4 ^ k) none in
    let is : map leaf_of leaves ≡ leaf_of (get_or leaves 0 d) ∷ [] = ap (map leaf_of) (single leaves d one) in
    let pair = free_pair side points squares (leaf_of (get_or leaves 0 d)) names in
    let free : IsTrue yes ↔ IsFreePair side squares (point_at points (get_or leaves 0 d).first) (point_at points (get_or leaves 0 d).second) =
    subst (λ ss. IsTrue yes ↔ IsFreePair side ss (point_at points (get_or leaves 0 d).first) (point_at points (get_or leaves 0 d).second)) same h in
    subst (λ k. IsTrue yes ↔ AreLeavesAt side k points (left_over squares points) (map leaf_of leaves)) (sym none)
    (subst (λ ls. IsTrue yes ↔ AreLeavesAt side 0 points (left_over squares points) ls) (sym is) (λ t. pair.0 (free.0 t), λ ls. free.1 (pair.1 ls)))

-- ---- corner by corner

-- a quarter of the leaves is below each corner
pub part_is : (depth n : ℕ) → depth ≢ 0 → n ≡ 4 ^ depth → n / 4 ≡ 4 ^ (depth - 1)
part_is zero n some e = absurd (some refl)
part_is (suc depth) n some e =
    let less : suc depth - 1 ≡ depth = omega arith in
    let power : 4 ^ suc depth ≡ 4 * 4 ^ depth = omega arith in
    subst (λ k. n / 4 ≡ 4 ^ k) (sym less) (quarter n (4 ^ depth) (e ∙ power))
  where
    quarter : (n m : ℕ) → n ≡ 4 * m → n / 4 ≡ m
    quarter n m e = omega (arith, e)

-- the leaves that the code takes
pub slice_is : (leaves : List Leaf) (from corner part : ℕ) → from ≡ corner → map leaf_of (take (from * part + part - from * part) (drop (from * part) leaves)) ≡ take part (drop (corner * part) (map leaf_of leaves))
slice_is leaves from corner part is =
    ap₂ (λ n m. map leaf_of (take n (drop m leaves))) (less (from * part) part) (ap (λ k. k * part) is)
    ∙ sym (take-map leaf_of part (drop (corner * part) leaves)) ∙ ap (take part) (sym (drop-map leaf_of (corner * part) leaves))
  where
    less : (m n : ℕ) → m + n - m ≡ n
    less m n = omega arith

-- there are as many
pub slice_count : (leaves : List Leaf) (depth from corner : ℕ) → depth ≢ 0 → length leaves ≡ 4 ^ depth → from ≡ corner → corner < 4
    → length (take (from * (length leaves / 4) + length leaves / 4 - from * (length leaves / 4)) (drop (from * (length leaves / 4)) leaves)) ≡ 4 ^ (depth - 1)
slice_count leaves depth from corner some count is four =
    let part = part_is depth (length leaves) some count in
    ap (λ n. length (take n (drop (from * (length leaves / 4)) leaves))) (less (from * (length leaves / 4)) (length leaves / 4))
    ∙ length-take-le (length leaves / 4) (drop (from * (length leaves / 4)) leaves) (subst (λ n. length leaves / 4 ≤ n) (sym (length-drop (from * (length leaves / 4)) leaves)) (room (length leaves) (length leaves / 4) (four_parts depth some count)))
    ∙ part
  where
    less : (m n : ℕ) → m + n - m ≡ n
    less m n = omega arith

    four_parts : (depth : ℕ) → depth ≢ 0 → length leaves ≡ 4 ^ depth → length leaves ≡ 4 * (length leaves / 4)
    four_parts zero some e = absurd (some refl)
    four_parts (suc depth) some e = let power : 4 ^ suc depth ≡ 4 * 4 ^ depth = omega arith in whole (length leaves) (4 ^ depth) (e ∙ power)
      where
        whole : (n m : ℕ) → n ≡ 4 * m → n ≡ 4 * (n / 4)
        whole n m e = omega (arith, e)

    room : (n m : ℕ) → n ≡ 4 * m → m ≤ n - from * m
    room n m e = grind (arith, is, four, e)

-- and they name points
pub slice_names : (points : List PlanePoint) (leaves : List Leaf) (from corner part : ℕ) → from ≡ corner → All (NamesPoints (length points)) (map leaf_of leaves)
    → All (NamesPoints (length points)) (map leaf_of (take (from * part + part - from * part) (drop (from * part) leaves)))
slice_names points leaves from corner part is names =
    subst (All (NamesPoints (length points))) (sym (slice_is leaves from corner part is))
    (All-take (NamesPoints (length points)) part (drop (corner * part) (map leaf_of leaves)) (All-drop (NamesPoints (length points)) (corner * part) (map leaf_of leaves) names))

-- first so many, and then so many more
take_two : {X : Type 0} (m n : ℕ) (xs : List X) → take (m + n) xs ≡ take m xs ++ take n (drop m xs)
take_two m n xs = sym (take-append-drop m (take (m + n) xs)) ∙ ap₂ (λ a b. a ++ b) (take-take m (m + n) xs (omega arith)) (drop-take m n xs)

-- the leaves below one corner more
pub below_more : (side depth corner part : ℕ) (points rest below : List PlanePoint) (leaves : List model.Leaf) → depth ≤ 1 → corner < 4 → part ≡ 4 ^ depth
    → below ≡ model.outside (model.corner_square side corner rest) rest → AreBelowFirst side depth corner points rest (take (corner * part) leaves) → AreLeavesAt side depth points below (take part (drop (corner * part) leaves))
    → AreBelowFirst side depth (corner + 1) points rest (take ((corner + 1) * part) leaves)
below_more side depth corner part points rest below leaves few four is rest_is before new =
    subst (AreBelowFirst side depth (corner + 1) points rest) (sym (ap (λ n. take n leaves) (next corner part) ∙ take_two (corner * part) part leaves))
    (more_below side depth corner points rest (take (corner * part) leaves) (take part (drop (corner * part) leaves)) few four before
    (subst (λ ps. AreLeavesAt side depth points ps (take part (drop (corner * part) leaves))) rest_is new))
  where
    next : (c n : ℕ) → (c + 1) * n ≡ c * n + n
    next c n = omega arith

-- all of them
pub below_all : (side depth corner : ℕ) (points rest : List PlanePoint) (leaves : List model.Leaf) → depth ≢ 0 → corner ≡ 4 → length leaves ≡ 4 ^ depth
    → AreBelowFirst side (depth - 1) corner points rest (take (corner * (length leaves / 4)) leaves) → AreLeavesAt side depth points rest leaves
below_all side zero corner points rest leaves some four count h = absurd (some refl)
below_all side (suc depth) corner points rest leaves some four count h =
    let less : suc depth - 1 ≡ depth = omega arith in
    let power : 4 ^ suc depth ≡ 4 * 4 ^ depth = omega arith in
    let all : take (4 * (length leaves / 4)) leaves ≡ leaves = take_all (4 * (length leaves / 4)) leaves (enough (length leaves) (4 ^ depth) (count ∙ power)) in
    all_below side depth points rest leaves
    (subst (AreBelowFirst side depth 4 points rest) all (subst (λ d. AreBelowFirst side d 4 points rest (take (4 * (length leaves / 4)) leaves)) less
    (subst (λ c. AreBelowFirst side (suc depth - 1) c points rest (take (c * (length leaves / 4)) leaves)) four h)))
  where
    enough : (n m : ℕ) → n ≡ 4 * m → n ≤ 4 * (n / 4)
    enough n m e = omega (arith, e)

-- and each part of them is below its corner
pub below_one : (side depth corner part : ℕ) (points rest below : List PlanePoint) (leaves : List model.Leaf) → depth ≢ 0 → depth ≤ 2 → corner < 4 → part ≡ 4 ^ (depth - 1)
    → below ≡ model.outside (model.corner_square side corner rest) rest → AreLeavesAt side depth points rest leaves → AreLeavesAt side (depth - 1) points below (take part (drop (corner * part) leaves))
below_one side zero corner part points rest below leaves some few four is rest_is h = absurd (some refl)
below_one side (suc depth) corner part points rest below leaves some few four is rest_is h =
    let less : suc depth - 1 ≡ depth = omega arith in
    let size : part ≡ 4 ^ depth = is ∙ ap (λ d. 4 ^ d) less in
    subst (λ d. AreLeavesAt side d points below (take part (drop (corner * part) leaves))) (sym less)
    (subst (λ n. AreLeavesAt side depth points below (take n (drop (corner * n) leaves))) (sym size)
    (subst (λ ps. AreLeavesAt side depth points ps (take (4 ^ depth) (drop (corner * 4 ^ depth) leaves))) (sym rest_is) (part_below side depth corner points rest leaves (omega (arith, few)) four h)))

-- where nothing is left over there are none
pub none_found : (side depth : ℕ) (points : List PlanePoint) (squares seen : List Square) (found : Option Bounds) (leaves : List model.Leaf) → seen ≡ squares → found ≡ None → IsFound points seen (length points) found
    → ¬ AreLeavesAt side depth points (left_over squares points) leaves
none_found side depth points squares seen found leaves same none h leaves_there =
    let covered = subst (IsFound points seen (length points)) none h in
    let empty : left_over squares points ≡ [] = subst (λ ss. left_over ss points ≡ []) same (nothing_free points seen (length points) (itself (length points)) covered) in
    no_leaves side depth points leaves (subst (λ ps. AreLeavesAt side depth points ps leaves) empty leaves_there)
  where
    itself : (n : ℕ) → n ≤ n
    itself n = omega arith
