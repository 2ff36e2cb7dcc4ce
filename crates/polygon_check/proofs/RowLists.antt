-- The potentials of one first corner, and areas, one after another in a list.
use Rattle.std.proofs.Common.{◌≡◌, sym, subst, ap, ap₂, ◌∙◌, ◌↔◌, inl, inr, ℕ, zero, suc, ◌+◌, ◌-◌, ◌*◌, ◌<◌, ◌≤◌, ◌^◌, arith, rules, true, Bool, IsTrue, ℤ, pos, ◌+ℤ◌, ◌≤ℤ◌, List, [], ◌∷◌, ◌++◌, length, map}
use Rattle.std.specs.Prelude.{nat_lt, if◌then◌else◌, All}
use Rattle.std.proofs.lemmas.List.{get_or_append_left, get_or_push, length_push}
use Rattle.std.proofs.lemmas.List.Elements.{All-nil, All-push, All-same}
use native.Mathlib.Nat.{mul-le-mul_right}
use Rattle.integers.specs.Size.{Size}
use Rattle.integers.proofs.Lists.{below_or_at}
use Rattle.bounds_model.specs.Plane.{PlanePoint, point_at, cross}
use Rattle.bounds_model.specs.KgonAnswer.{KgonAnswer, potential, pairs_before}
use Rattle.added_areas.specs.declared.vectors.PlaneVector.{PlaneVector}
use Rattle.added_areas.specs.PlaneVectors.{vector_of, AreVectorsFrom}
use Rattle.added_areas.proofs.AddedNumbers.{turn_is}
use Rattle.polygon_check.specs.PolygonLimits.{RaisesTo, RaisesBetween}
use Rattle.polygon_check.specs.PotentialRows.{at, Adds, AreRows, AreAreas, AreRaised}

-- one number more
pub adds-more : (size : ℕ) (value : ℕ → ℤ) (j : ℕ) (old new pushed : List ℤ) (u : ℤ) → Adds size value j old new → pushed ≡ new ++ u ∷ [] → u ≡ value j → Size size u → Adds size value (j + 1) old pushed
adds-more size value j old new pushed u h is here within = subst (Adds size value (j + 1) old) (sym is) (record {
  as_many = length_push new u ∙ ap (λ n. n + 1) h.as_many ∙ together (length old) j;
  same = λ k low. get_or_append_left new (u ∷ []) (pos 0) k (before low h.as_many) ∙ h.same k low;
  each = λ k low. elim (below_or_at k j low) [
    | inl less ↦ get_or_append_left new (u ∷ []) (pos 0) (length old + k) (inside (length old) less h.as_many) ∙ h.each k less
    | inr same ↦ subst (λ m. at (new ++ u ∷ []) (length old + m) ≡ value m) (sym same) (get_or_push new u (pos 0) (length old + j) h.as_many ∙ here)
  ];
  small = λ all. All-push (Size size) new u (h.small all) within;
})
  where
    together : (n j : ℕ) → n + j + 1 ≡ n + (j + 1)
    together n j = omega arith

    before : {k m n : ℕ} → k < m → n ≡ m + j → k < n
    before h e = omega arith

    inside : (m : ℕ) {k n : ℕ} → k < j → n ≡ m + j → m + k < n
    inside m h e = omega arith

-- none of no numbers is large
pub small-none : (size : ℕ) (xs : List ℤ) → xs ≡ [] → All (Size size) xs
small-none size xs is = All-same (Size size) xs [] is (All-nil (Size size))

-- zeros, and behind them the potentials of a first corner
pub rows-are : (a : KgonAnswer) (us : List ℤ) (first count start : ℕ) (none zeros rows : List ℤ) → none ≡ [] → us ≡ a.potentials → count ≡ length a.corners → start ≡ a.layers * pairs_before (length a.corners) first
    → Adds (2 ^ 43) (λ j. pos 0) (count - 1 - first) none zeros → Adds (2 ^ 43) (λ j. at us (start + j)) (a.layers * (count - 1 - first)) zeros rows → AreRows a first rows
rows-are a us first count start none zeros rows empty potentials is begins low high = record {
  as_many = subst (λ n. length rows ≡ (a.layers + 1) * (n - 1 - first)) is (high.as_many ∙ ap (λ n. n + a.layers * (count - 1 - first)) wide ∙ one_more a.layers (count - 1 - first));
  each = λ layer j some below. subst (λ n. at rows (layer * (n - 1 - first) + j) ≡ potential a first layer (first + 1 + j)) is (in_layer layer j some (subst (λ n. j < n - 1 - first) (sym is) below));
  small = high.small (low.small (small-none (2 ^ 43) none empty));
}
  where
    behind_none : (n j : ℕ) → n ≡ 0 → j ≡ n + j
    behind_none n j e = omega (arith, e)

    wide : length zeros ≡ count - 1 - first
    wide = low.as_many ∙ sym (behind_none (length none) (count - 1 - first) (ap length empty))

    one_more : (l w : ℕ) → w + l * w ≡ (l + 1) * w
    one_more l w = omega arith

    no_rows : (w j : ℕ) → 0 * w + j ≡ j
    no_rows w j = omega arith

    behind : (l w j : ℕ) → suc l * w + j ≡ w + (l * w + j)
    behind l w j = omega arith

    within : (l w j n : ℕ) → j < w → suc l * w ≤ n → l * w + j < n
    within l w j n h k = omega arith

    positive : (k : ℕ) → nat_lt 0 (suc k) ≡ true
    positive k = first_of (search rules, grind arith)

    index : (p q l w j : ℕ) → p ≡ q → p + (l * w + j) ≡ q + (suc l - 1) * w + (first + 1 + j - first - 1)
    index p q l w j e = ap (λ n. n + (l * w + j)) e ∙ apart q (l * w) j ∙ ap₂ (λ m n. q + m * w + n) (back l) (step j)
      where
        apart : (x y z : ℕ) → x + (y + z) ≡ x + y + z
        apart x y z = omega arith

        back : (l : ℕ) → l ≡ suc l - 1
        back l = omega arith

        step : (j : ℕ) → j ≡ first + 1 + j - first - 1
        step j = omega arith

    in_layer : (layer j : ℕ) → layer ≤ a.layers → j < count - 1 - first → at rows (layer * (count - 1 - first) + j) ≡ potential a first layer (first + 1 + j)
    in_layer zero j some below =
        ap (at rows) (no_rows (count - 1 - first) j) ∙ high.same j (subst (λ n. j < n) (sym wide) below) ∙ ap (at zeros) (behind_none (length none) j (ap length empty)) ∙ low.each j below
    in_layer (suc l) j some below =
        ap (at rows) (behind l (count - 1 - first) j ∙ ap (λ n. n + (l * (count - 1 - first) + j)) (sym wide))
        ∙ high.each (l * (count - 1 - first) + j) (within l (count - 1 - first) j (a.layers * (count - 1 - first)) below (mul-le-mul_right (count - 1 - first) some))
        ∙ ap₂ at potentials (index start (a.layers * pairs_before (length a.corners) first) l (count - 1 - first) j begins)
        ∙ ap (λ n. at a.potentials (a.layers * pairs_before (length a.corners) first + (suc l - 1) * (n - 1 - first) + (first + 1 + j - first - 1))) is
        ∙ sym (ap (λ yes. if yes then at a.potentials (a.layers * pairs_before (length a.corners) first + (suc l - 1) * (length a.corners - 1 - first) + (first + 1 + j - first - 1)) else pos 0) (positive l))

-- a sum of the same numbers
le_as : {x y z p q r : ℤ} → x ≡ p → y ≡ q → z ≡ r → (x +ℤ y) ≤ℤ z → (p +ℤ q) ≤ℤ r
le_as {x} {y} {z} {p} {q} {r} e f g h = subst (λ t. (p +ℤ q) ≤ℤ t) g (subst (λ t. (p +ℤ t) ≤ℤ z) f (subst (λ t. (t +ℤ y) ≤ℤ z) e h))

-- what the lists show of the triangles with this first and this last corner
pub raised_to : (vectors : List PlanePoint) (a : KgonAnswer) (first last : ℕ) (rows areas : List ℤ) → AreRows a first rows → AreAreas vectors first last areas → first < last → last < length a.corners
    → AreRaised areas rows a.layers (length a.corners - 1 - first) ↔ RaisesTo vectors a first last
raised_to vectors a first last rows areas r t rising below = (
  λ h middle low after layer in_layers.
      subst (λ m. (potential a first layer m +ℤ cross (point_at vectors m) (point_at vectors last)) ≤ℤ potential a first (layer + 1) last) (again after)
      (le_as (before layer (middle - first - 1) in_layers (in_areas after low)) (t.each (middle - first - 1) (in_areas after low)) (above layer in_layers) (h layer in_layers (middle - first - 1) (in_areas after low))),
  λ all layer in_layers j low.
      le_as (sym (before layer j in_layers low)) (sym (t.each j low)) (sym (above layer in_layers)) (all (first + 1 + j) (between low) (later j) layer in_layers),
)
  where
    in_areas : {m : ℕ} → first < m → m < last → m - first - 1 < length areas
    in_areas h k = omega (arith, t.as_many, h, k)

    again : {m : ℕ} → first < m → first + 1 + (m - first - 1) ≡ m
    again h = omega arith

    between : {j : ℕ} → j < length areas → first + 1 + j < last
    between h = omega (arith, t.as_many, h)

    later : (j : ℕ) → first < first + 1 + j
    later j = omega arith

    at_most : {k n : ℕ} → k < n → k ≤ n
    at_most h = omega arith

    next : {k n : ℕ} → k < n → k + 1 ≤ n
    next h = omega arith

    in_row : {j : ℕ} → j < length areas → j < length a.corners - 1 - first
    in_row h = omega (arith, t.as_many, h, below)

    at_end : length areas < length a.corners - 1 - first
    at_end = omega (arith, t.as_many, rising, below)

    the_last : first + 1 + length areas ≡ last
    the_last = omega (arith, t.as_many, rising)

    before : (layer j : ℕ) → layer < a.layers → j < length areas → at rows (layer * (length a.corners - 1 - first) + j) ≡ potential a first layer (first + 1 + j)
    before layer j h k = r.each layer j (at_most h) (in_row k)

    above : (layer : ℕ) → layer < a.layers → at rows ((layer + 1) * (length a.corners - 1 - first) + length areas) ≡ potential a first (layer + 1) last
    above layer h = r.each (layer + 1) (length areas) (next h) at_end ∙ ap (potential a first (layer + 1)) the_last

-- the same, of lists and a count that are the same
pub raised_as : {yes : Bool} (vectors : List PlanePoint) (a : KgonAnswer) (first last : ℕ) (rows areas listed : List ℤ) (count : ℕ) → count ≡ length a.corners → listed ≡ areas → AreRows a first rows → AreAreas vectors first last areas → first < last → last < length a.corners
    → (IsTrue yes ↔ AreRaised listed rows a.layers (count - 1 - first)) → IsTrue yes ↔ RaisesTo vectors a first last
raised_as {yes} vectors a first last rows areas listed count is same r t rising below h =
    let law = raised_to vectors a first last rows areas r t rising below in
    let here = subst (λ n. IsTrue yes ↔ AreRaised areas rows a.layers (n - 1 - first)) is
    (subst (λ xs. IsTrue yes ↔ AreRaised xs rows a.layers (count - 1 - first)) same h) in
    (λ y. law.0 (here.0 y), λ all. here.1 (law.1 all))

-- a index in the layer above one of the layers
pub index_above : {layer layers width n total : ℕ} → layer < layers → n < width → total ≡ (layers + 1) * width → (layer + 1) * width + n < total
index_above {layer} {layers} {width} {n} {total} low in_row is = under ((layer + 1) * width) (next layer width) (mul-le-mul_right width (up low)) is in_row
  where
    up : layer < layers → layer + 2 ≤ layers + 1
    up h = omega arith

    next : (l w : ℕ) → (l + 2) * w ≡ (l + 1) * w + w
    next l w = omega arith

    under : (x : ℕ) {y w m n t : ℕ} → y ≡ x + w → y ≤ m → t ≡ m → n < w → x + n < t
    under x e h f k = omega arith

-- what is raised seen from the first corner, is raised over the corners
pub seen_from : (corners : List PlanePoint) (a : KgonAnswer) (first last : ℕ) (vectors : List PlaneVector) → AreVectorsFrom corners first vectors → last < length corners → RaisesTo (map vector_of vectors) a first last ↔ RaisesBetween corners a first last
seen_from corners a first last vectors w below = (
  λ h middle before after layer low. subst (λ t. (potential a first layer middle +ℤ t) ≤ℤ potential a first (layer + 1) last) (turn_is corners first vectors w middle last (through before below) below) (h middle before after layer low),
  λ h middle before after layer low. subst (λ t. (potential a first layer middle +ℤ t) ≤ℤ potential a first (layer + 1) last) (sym (turn_is corners first vectors w middle last (through before below) below)) (h middle before after layer low),
)
  where
    through : {i j n : ℕ} → i < j → j < n → i < n
    through h k = omega arith
