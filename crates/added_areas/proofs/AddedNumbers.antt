-- How much further corners add: over vectors from the first corner, and in rows of machine numbers.
use Rattle.std.proofs.Common.{◌≡◌, refl, sym, subst, ap, ap₂, ◌∙◌, ◌⊎◌, inl, inr, ℕ, zero, suc, ◌+◌, ◌-◌, ◌*◌, ◌<◌, ◌≤◌, ◌^◌, arith, ℤ, pos, ◌+ℤ◌, ◌≤ℤ◌, ◌<ℤ◌, List, [], ◌∷◌, ◌++◌, length, map}
use Rattle.std.specs.Prelude.{All, slice_index_or}
use Rattle.std.specs.Int.{int_max}
use Rattle.std.proofs.Common.{int_cmp, cond, Ordering}
use Rattle.std.specs.declared.cmp.Ordering.TheVariants.{Less, Equal, Greater}
use Rattle.std.specs.Ordering.{ord_max, is_lt, MatchOrdering}
use Rattle.std.specs.Cmp.{int_ranks}
use Rattle.std.proofs.lemmas.Int.{ints}
use Rattle.std.proofs.lemmas.List.{length-map, length_push, get_or-map, get_or_append_left, get_or_push}
use native.Mathlib.Nat.{mul-le-mul_right}
use Rattle.integers.specs.Size.{Size}
use Rattle.integers.proofs.Lists.{below_or_at}
use Rattle.integers.proofs.Sizes.{size_sub, size_mul, below_size}
use Rattle.integers.proofs.Order.{le_antisymm_ℤ}
use Rattle.integers.proofs.MaxMin.{left-le-max, right-le-max, pick_max}
use Rattle.bounds_model.specs.Plane.{PlanePoint, origin, point_at, vector, cross, turn}
use Rattle.bounds_model.specs.Kgon.{greatest_from, most_added}
use Rattle.model_laws.proofs.MostAdded.{greatest_nonneg, greatest_at}
use Rattle.added_areas.specs.declared.vectors.PlaneVector.{PlaneVector}
use Rattle.added_areas.specs.PlaneVectors.{vector_of, IsShort, AreVectorsFrom}
use Rattle.added_areas.specs.AddedRows.{at, most_after, AreAdded}

-- ---- the greatest of some numbers

-- of the same numbers
pub greatest_same : (f g : ℕ → ℤ) (start count : ℕ) → ((i : ℕ) → start ≤ i → i < start + count → f i ≡ g i) → greatest_from f start count ≡ greatest_from g start count
greatest_same f g start zero h = refl
greatest_same f g start (suc count) h = ap₂ int_max (h start (itself start) (omega arith)) (greatest_same f g (start + 1) count (λ i l m. h i (omega (arith, l)) (omega (arith, m))))
  where
    itself : (n : ℕ) → n ≤ n
    itself n = omega arith

-- one more, before the others
pub greatest_more : (f : ℕ → ℤ) (count passed : ℕ) (most r : ℤ) → passed < count → most ≡ greatest_from f (count - passed) passed → r ≡ int_max (f (count - 1 - passed)) most → r ≡ greatest_from f (count - (passed + 1)) (passed + 1)
greatest_more f count passed most r l is max =
    max ∙ ap (int_max (f (count - 1 - passed))) is
    ∙ ap₂ (λ i j. int_max (f i) (greatest_from f j passed)) here after
    ∙ ap (greatest_from f (count - (passed + 1))) (one_up passed)
  where
    here : count - 1 - passed ≡ count - (passed + 1)
    here = omega arith

    after : count - passed ≡ count - (passed + 1) + 1
    after = omega (arith, l)

    one_up : (n : ℕ) → suc n ≡ n + 1
    one_up n = omega arith

-- ---- the greater of two machine numbers

record IsGreater (x y r : ℤ) : Type 0 where
  above_first : x ≤ℤ r
  above_second : y ≤ℤ r
  one : (r ≡ x) ⊎ (r ≡ y)

greater : (o : Ordering) (x y : ℤ) → MatchOrdering o (y <ℤ x) (y ≡ x) (x <ℤ y) → IsGreater x y (cond (is_lt o) x y)
greater Less x y h = record { above_first = omega (arith, ints); above_second = omega (arith, ints); one = inl refl }
greater Equal x y h = record { above_first = omega (arith, ints); above_second = omega (arith, ints); one = inr refl }
greater Greater x y h = record { above_first = omega (arith, ints); above_second = omega (arith, ints); one = inr refl }

-- what `max` gives is the greater one
pub max_is : (u v r : ℤ) → r ≡ ord_max int_cmp u v → r ≡ int_max v u
max_is u v r is =
    let g : IsGreater u v r = subst (IsGreater u v) (sym is) (greater (int_cmp v u) u v (int_ranks v u)) in
    le_antisymm_ℤ
    (elim g.one [ inl e ↦ subst (λ z. z ≤ℤ int_max v u) (sym e) (right-le-max v u) | inr e ↦ subst (λ z. z ≤ℤ int_max v u) (sym e) (left-le-max v u) ])
    (elim (pick_max v u) [ inl e ↦ subst (λ z. z ≤ℤ r) (sym e) g.above_second | inr e ↦ subst (λ z. z ≤ℤ r) (sym e) g.above_first ])

-- ---- what is added is not below 0, and not large

pub most_after-nonneg : (vectors : List PlanePoint) (more last : ℕ) → pos 0 ≤ℤ most_after vectors more last
most_after-nonneg vectors zero last = omega (arith, ints)
most_after-nonneg vectors (suc more) last = greatest_nonneg (λ next. cross (point_at vectors last) (point_at vectors next) +ℤ most_after vectors more next) (last + 1) (length vectors - (last + 1))

-- a vector that is seen by the view, read anywhere
pub read_vector : (vectors : List PlaneVector) (i : ℕ) → i < length vectors → point_at (map vector_of vectors) i ≡ vector_of (slice_index_or vectors i (record { x = pos 0; y = pos 0 }))
read_vector vectors i l = get_or-map vector_of vectors i (record { x = pos 0; y = pos 0 }) origin l

-- the triangle over two of the vectors is not large
pub area_limit : (vectors : List PlaneVector) → All IsShort vectors → (i j : ℕ) → i < length vectors → j < length vectors → cross (point_at (map vector_of vectors) i) (point_at (map vector_of vectors) j) ≤ℤ pos 549755813888
area_limit vectors short i j l m =
    let a = short i (record { x = pos 0; y = pos 0 }) l in
    let b = short j (record { x = pos 0; y = pos 0 }) m in
    subst (λ z. z ≤ℤ pos 549755813888) (sym (ap₂ cross (read_vector vectors i l) (read_vector vectors j m)))
    (loose (below_size (size_sub (size_mul a.x b.y) (size_mul a.y b.x))))
  where
    loose : {z : ℤ} → z ≤ℤ pos 320000000000 → z ≤ℤ pos 549755813888
    loose h = omega (arith, ints)

pub most_after-high : (vectors : List PlaneVector) → All IsShort vectors → (more last : ℕ) → last < length vectors → most_after (map vector_of vectors) more last ≤ℤ pos (more * 549755813888)
most_after-high vectors short zero last l = omega (arith, ints)
most_after-high vectors short (suc more) last l = elim (greatest_at (λ next. cross (point_at (map vector_of vectors) last) (point_at (map vector_of vectors) next) +ℤ most_after (map vector_of vectors) more next) (last + 1) (length (map vector_of vectors) - (last + 1))) [
  | inl none ↦ subst (λ z. z ≤ℤ pos (suc more * 549755813888)) (sym none) (omega (arith, ints))
  | inr some ↦ subst (λ z. z ≤ℤ pos (suc more * 549755813888)) (sym some.1.is) (sum (area_limit vectors short last some.0 l (inside some.0 some.1.below (length-map vectors vector_of) l)) (most_after-high vectors short more some.0 (inside some.0 some.1.below (length-map vectors vector_of) l)))
]
  where
    inside : (i : ℕ) {m n : ℕ} → i < last + 1 + (m - (last + 1)) → m ≡ n → last < n → i < n
    inside i h e k = omega arith

    sum : {x y : ℤ} → x ≤ℤ pos 549755813888 → y ≤ℤ pos (more * 549755813888) → (x +ℤ y) ≤ℤ pos (suc more * 549755813888)
    sum {x} {y} h k = omega (arith, ints)

-- so are the numbers of the rows
pub row_size : (vectors : List PlaneVector) (layers layer last : ℕ) (rows : List ℤ) → All IsShort vectors → AreAdded (map vector_of vectors) layers rows → layers ≤ 10 → layer ≤ layers → last < length vectors → Size (2 ^ 43) (at rows (layer * length vectors + last))
row_size vectors layers layer last rows short h few low l =
    subst (Size (2 ^ 43)) (sym (subst (λ n. at rows (layer * n + last) ≡ most_after (map vector_of vectors) layer last) (length-map vectors vector_of) (h.each layer last low (subst (λ n. last < n) (sym (length-map vectors vector_of)) l))))
    (small (most_after (map vector_of vectors) layer last) (most_after-nonneg (map vector_of vectors) layer last) (most_after-high vectors short layer last l))
  where
    small : (u : ℤ) → pos 0 ≤ℤ u → u ≤ℤ pos (layer * 549755813888) → Size (2 ^ 43) u
    small u h k = record { abs = omega (arith, ints) }

-- ---- over vectors from a corner it is what further corners add

-- a vector leads from the first corner to the one at its position
vector_to : (corners : List PlanePoint) (first : ℕ) (vectors : List PlaneVector) → AreVectorsFrom corners first vectors → (i : ℕ) → i < length corners
    → point_at (map vector_of vectors) i ≡ vector (point_at corners first) (point_at corners i)
vector_to corners first vectors w i h =
    let m : i < length vectors = subst (λ n. i < n) (sym w.as_many) h in
    read_vector vectors i m ∙ w.each i (record { x = pos 0; y = pos 0 }) m

-- so the triangle over two of them is the triangle with the first corner
pub turn_is : (corners : List PlanePoint) (first : ℕ) (vectors : List PlaneVector) → AreVectorsFrom corners first vectors → (i j : ℕ) → i < length corners → j < length corners
    → cross (point_at (map vector_of vectors) i) (point_at (map vector_of vectors) j) ≡ turn (point_at corners first) (point_at corners i) (point_at corners j)
turn_is corners first vectors w i j l m = ap₂ cross (vector_to corners first vectors w i l) (vector_to corners first vectors w j m)

-- what a next corner and more after it add, over vectors and over corners
abbrev over : List PlaneVector → ℕ → ℕ → ℕ → ℤ
over vectors more last next = cross (point_at (map vector_of vectors) last) (point_at (map vector_of vectors) next) +ℤ most_after (map vector_of vectors) more next

abbrev added : List PlanePoint → ℕ → ℕ → ℕ → ℕ → ℤ
added corners first more last next = turn (point_at corners first) (point_at corners last) (point_at corners next) +ℤ most_added corners first more next

pub most_after-added : (corners : List PlanePoint) (first : ℕ) (vectors : List PlaneVector) → AreVectorsFrom corners first vectors → (more last : ℕ) → last < length corners
    → most_after (map vector_of vectors) more last ≡ most_added corners first more last
most_after-added corners first vectors w zero last l = refl
most_after-added corners first vectors w (suc more) last l =
    ap (greatest_from (over vectors more last) (last + 1)) (ap (λ n. n - (last + 1)) (length-map vectors vector_of ∙ w.as_many))
    ∙ greatest_same (over vectors more last) (added corners first more last) (last + 1) (length corners - (last + 1))
    (λ next _ below. ap₂ (λ x y. x +ℤ y) (turn_is corners first vectors w last next l (omega (arith, below, l))) (most_after-added corners first vectors w more next (omega (arith, below, l))))

-- ---- the rows, number by number

-- the numbers so far of a row for one corner more
pub record IsRowSoFar (vectors : List PlanePoint) (layer last : ℕ) (rows : List ℤ) : Type 0 where
  pub as_many : length rows ≡ (layer + 1) * length vectors + last
  pub below : AreAdded vectors layer rows
  pub here : (k : ℕ) → k < last → at rows ((layer + 1) * length vectors + k) ≡ most_after vectors (layer + 1) k

-- before it
pub row-none : (vectors : List PlanePoint) (layer : ℕ) (rows : List ℤ) → length rows ≡ (layer + 1) * length vectors → AreAdded vectors layer rows → IsRowSoFar vectors layer 0 rows
row-none vectors layer rows as_many h = record { as_many = as_many ∙ no_more ((layer + 1) * length vectors); below = h; here = λ k l. absurd (omega (arith, l)) }
  where
    no_more : (n : ℕ) → n ≡ n + 0
    no_more n = omega arith

-- one number more
pub row-more : (vectors : List PlanePoint) (layer last : ℕ) (rows pushed : List ℤ) (u : ℤ) → IsRowSoFar vectors layer last rows → pushed ≡ rows ++ u ∷ [] → u ≡ most_after vectors (layer + 1) last → IsRowSoFar vectors layer (last + 1) pushed
row-more vectors layer last rows pushed u r is value = subst (IsRowSoFar vectors layer (last + 1)) (sym is) (record {
  as_many = length_push rows u ∙ ap (λ n. n + 1) r.as_many ∙ together ((layer + 1) * length vectors) last;
  below = record {
    within = subst (λ n. (layer + 1) * length vectors ≤ n) (sym (length_push rows u)) (longer ((layer + 1) * length vectors) (length rows) r.below.within);
    each = λ l k low b. get_or_append_left rows (u ∷ []) (pos 0) (l * length vectors + k) (inside l k low b) ∙ r.below.each l k low b;
  };
  here = λ k l. elim (below_or_at k last l) [
    | inl less ↦ get_or_append_left rows (u ∷ []) (pos 0) ((layer + 1) * length vectors + k) (in_row ((layer + 1) * length vectors) less r.as_many) ∙ r.here k less
    | inr same ↦ subst (λ m. at (rows ++ u ∷ []) ((layer + 1) * length vectors + m) ≡ most_after vectors (layer + 1) m) (sym same) (get_or_push rows u (pos 0) ((layer + 1) * length vectors + last) r.as_many ∙ value)
  ];
})
  where
    together : (n j : ℕ) → n + j + 1 ≡ n + (j + 1)
    together n j = omega arith

    longer : (p n : ℕ) → p ≤ n → p ≤ n + 1
    longer p n h = omega arith

    in_row : (p : ℕ) {k n : ℕ} → k < last → n ≡ p + last → p + k < n
    in_row p h e = omega arith

    inside : (l k : ℕ) → l ≤ layer → k < length vectors → l * length vectors + k < length rows
    inside l k low b = under (l * length vectors) ((layer + 1) * length vectors) (next_row l (length vectors) (mul-le-mul_right (length vectors) (up low))) b r.below.within
      where
        up : l ≤ layer → l + 1 ≤ layer + 1
        up h = omega arith

        next_row : (l w : ℕ) {m : ℕ} → (l + 1) * w ≤ m → l * w + w ≤ m
        next_row l w h = omega arith

        under : (p q : ℕ) {w n : ℕ} → p + w ≤ q → k < w → q ≤ n → p + k < n
        under p q h g e = omega arith

-- the whole row
pub row-whole : (vectors : List PlanePoint) (layer last : ℕ) (rows : List ℤ) → IsRowSoFar vectors layer last rows → last ≡ length vectors → (length rows ≡ (layer + 2) * length vectors) × AreAdded vectors (layer + 1) rows
row-whole vectors layer last rows r all = (
  as_many,
  record {
    within = subst (λ n. (layer + 1 + 1) * length vectors ≤ n) (sym as_many) (same layer (length vectors));
    each = λ l k low b. elim (last_or_before l low) [
      | inl less ↦ r.below.each l k less b
      | inr e ↦ subst (λ m. at rows (m * length vectors + k) ≡ most_after vectors m k) (sym e) (r.here k (subst (λ n. k < n) (sym all) b))
    ];
  },
)
  where
    as_many : length rows ≡ (layer + 2) * length vectors
    as_many = r.as_many ∙ ap (λ n. (layer + 1) * length vectors + n) all ∙ two layer (length vectors)
      where
        two : (l w : ℕ) → (l + 1) * w + w ≡ (l + 2) * w
        two l w = omega arith

    same : (l w : ℕ) → (l + 1 + 1) * w ≤ (l + 2) * w
    same l w = omega arith

    last_or_before : (l : ℕ) → l ≤ layer + 1 → (l ≤ layer) ⊎ (l ≡ layer + 1)
    last_or_before l h = grind arith

-- ---- the row for no corner more

pub record AreZeros (count : ℕ) (rows : List ℤ) : Type 0 where
  pub as_many : length rows ≡ count
  pub each : (k : ℕ) → k < count → at rows k ≡ pos 0

pub zeros-more : (count : ℕ) (rows pushed : List ℤ) → AreZeros count rows → pushed ≡ rows ++ pos 0 ∷ [] → AreZeros (count + 1) pushed
zeros-more count rows pushed z is = subst (AreZeros (count + 1)) (sym is) (record {
  as_many = length_push rows (pos 0) ∙ ap (λ n. n + 1) z.as_many;
  each = λ k l. elim (below_or_at k count l) [
    | inl less ↦ get_or_append_left rows (pos 0 ∷ []) (pos 0) k (subst (λ n. k < n) (sym z.as_many) less) ∙ z.each k less
    | inr same ↦ subst (λ m. at (rows ++ pos 0 ∷ []) m ≡ pos 0) (sym same) (get_or_push rows (pos 0) (pos 0) count z.as_many)
  ];
})

pub zeros-added : (vectors : List PlanePoint) (count : ℕ) (rows : List ℤ) → AreZeros count rows → count ≡ length vectors → (length rows ≡ (0 + 1) * length vectors) × AreAdded vectors 0 rows
zeros-added vectors count rows z all = (
  as_many,
  record {
    within = subst (λ n. (0 + 1) * length vectors ≤ n) (sym as_many) (itself ((0 + 1) * length vectors));
    each = λ l k low b. by_layer l k low b;
  },
)
  where
    itself : (n : ℕ) → n ≤ n
    itself n = omega arith

    once : (w : ℕ) → w ≡ (0 + 1) * w
    once w = omega arith

    as_many : length rows ≡ (0 + 1) * length vectors
    as_many = z.as_many ∙ all ∙ once (length vectors)

    first_row : (w k : ℕ) → k ≡ 0 * w + k
    first_row w k = omega arith

    by_layer : (l k : ℕ) → l ≤ 0 → k < length vectors → at rows (l * length vectors + k) ≡ most_after vectors l k
    by_layer zero k low b = subst (λ i. at rows i ≡ pos 0) (first_row (length vectors) k) (z.each k (subst (λ n. k < n) (sym all) b))
    by_layer (suc l) k low b = absurd (omega (arith, low))
