-- The first position that still reaches the size.
use Rattle.std.proofs.Common.{◌≡◌, sym, subst, ap, ap₂, ◌∙◌, ◌⊎◌, inl, inr, ℕ, suc, ◌+◌, ◌-◌, ◌*◌, ◌<◌, ◌≤◌, ◌^◌, arith, ℤ, pos, ◌+ℤ◌, ◌≤ℤ◌, ◌<ℤ◌, List, [], ◌∷◌, length, map, w64, to_z, of_z}
use Rattle.std.specs.Prelude.{slice_index_or, All}
use Rattle.std.proofs.lemmas.Int.{ints}
use Rattle.std.proofs.lemmas.List.{length-map}
use Rattle.integers.specs.Size.{Size}
use Rattle.integers.proofs.Sizes.{wrap_is_in}
use Rattle.integers.proofs.MachineArithmetic.{given, with_inputs, codes, computes}
use Rattle.integers.proofs.Order.{le_antisymm_ℤ}
use Rattle.bounds_model.specs.Plane.{PlanePoint, point_at, cross}
use Rattle.model_laws.proofs.MostAdded.{greatest_above, greatest_at}
use Rattle.added_areas.specs.declared.vectors.PlaneVector.{PlaneVector}
use Rattle.added_areas.specs.PlaneVectors.{vector_of, IsShort}
use Rattle.added_areas.specs.AddedRows.{at, most_after, AreAdded}
use Rattle.added_areas.proofs.AddedNumbers.{read_vector, row_size}
use Rattle.extremal_kgon.specs.Choices.{IsNext}

-- what a next corner and so many after it add
abbrev added_with : List PlanePoint → ℕ → ℕ → ℕ → ℤ
added_with vectors last more next = cross (point_at vectors last) (point_at vectors next) +ℤ most_after vectors more next

-- no position before this one reaches the size
pub record NoneBefore (vectors : List PlanePoint) (last more : ℕ) (covered size : ℤ) (next : ℕ) : Type 0 where
  pub short : (other : ℕ) → last < other → other < next → (covered +ℤ cross (point_at vectors last) (point_at vectors other) +ℤ most_after vectors more other) <ℤ size

pub none-before : (vectors : List PlanePoint) (last more : ℕ) (covered size : ℤ) → NoneBefore vectors last more covered size (last + 1)
none-before vectors last more covered size = record { short = λ other h k. absurd (none h k) }
  where
    none : {o l : ℕ} → l < o → o < l + 1 → ⊥
    none h k = omega arith

pub none-more : (vectors : List PlanePoint) (last more : ℕ) (covered size : ℤ) (next : ℕ) → NoneBefore vectors last more covered size next → (covered +ℤ cross (point_at vectors last) (point_at vectors next) +ℤ most_after vectors more next) <ℤ size → NoneBefore vectors last more covered size (next + 1)
none-more vectors last more covered size next h here = record {
  short = λ other after before. elim (split other next before) [
    | inl less ↦ h.short other after less
    | inr same ↦ subst (λ i. (covered +ℤ cross (point_at vectors last) (point_at vectors i) +ℤ most_after vectors more i) <ℤ size) (sym same) here
  ];
}
  where
    split : (o n : ℕ) → o < n + 1 → (o < n) ⊎ (o ≡ n)
    split o n h = grind arith

-- the first that reaches it is the next one
pub next-found : (vectors : List PlanePoint) (last more : ℕ) (covered size : ℤ) (next : ℕ) → NoneBefore vectors last more covered size next → last < next → next < length vectors → covered +ℤ most_after vectors (more + 1) last ≡ size
    → size ≤ℤ (covered +ℤ cross (point_at vectors last) (point_at vectors next) +ℤ most_after vectors more next) → IsNext vectors last more covered size next
next-found vectors last more covered size next h after below reaches here = record {
  after = after;
  below = below;
  reaches = le_antisymm_ℤ (at_most covered (cross (point_at vectors last) (point_at vectors next)) (most_after vectors more next) (greatest_above (added_with vectors last more) (last + 1) (length vectors - (last + 1)) next (omega (arith, after)) (omega (arith, after, below))) (ap (λ m. covered +ℤ most_after vectors m last) (one_up more) ∙ reaches)) here;
  first = h.short;
}
  where
    one_up : (n : ℕ) → suc n ≡ n + 1
    one_up n = omega arith

    at_most : (c t m : ℤ) {v s : ℤ} → (t +ℤ m) ≤ℤ v → c +ℤ v ≡ s → (c +ℤ t +ℤ m) ≤ℤ s
    at_most c t m h e = omega (arith, ints)

-- and some does
pub next-some : (vectors : List PlanePoint) (last more : ℕ) (covered size : ℤ) (next : ℕ) → NoneBefore vectors last more covered size next → last < length vectors → length vectors ≤ next → covered <ℤ size → covered +ℤ most_after vectors (more + 1) last ≡ size → ⊥
next-some vectors last more covered size next h low all short reaches = elim (greatest_at (added_with vectors last more) (last + 1) (length vectors - (last + 1))) [
  | inl none ↦ no_more none (ap (λ m. covered +ℤ most_after vectors m last) (one_up more) ∙ reaches) short
  | inr some ↦ not_short covered (cross (point_at vectors last) (point_at vectors some.0)) (most_after vectors more some.0) some.1.is (ap (λ m. covered +ℤ most_after vectors m last) (one_up more) ∙ reaches) (h.short some.0 (omega (arith, some.1.from)) (inside some.0 some.1.below low all))
]
  where
    one_up : (n : ℕ) → suc n ≡ n + 1
    one_up n = omega arith

    inside : (i : ℕ) {n m : ℕ} → i < last + 1 + (n - (last + 1)) → last < n → n ≤ m → i < m
    inside i h k e = omega arith

    no_more : {c v s : ℤ} → v ≡ pos 0 → c +ℤ v ≡ s → c <ℤ s → ⊥
    no_more e f h = omega (arith, ints)

    not_short : (c t m : ℤ) {v s : ℤ} → v ≡ t +ℤ m → c +ℤ v ≡ s → (c +ℤ t +ℤ m) <ℤ s → ⊥
    not_short c t m e f h = omega (arith, ints)

-- ---- the sum that the machine has

pub number_size : (vectors : List PlaneVector) (more next : ℕ) (rows : List ℤ) → All IsShort vectors → AreAdded (map vector_of vectors) more rows → more ≤ 10 → next < length vectors → Size (2 ^ 43) (at rows (more * length vectors + next))
number_size vectors more next rows short h few l = row_size vectors more more next rows short h few (itself more) l
  where
    itself : (n : ℕ) → n ≤ n
    itself n = omega arith

pub sum_is : (vectors : List PlaneVector) (last more next : ℕ) (rows : List ℤ) (covered area : ℤ) → All IsShort vectors → AreAdded (map vector_of vectors) more rows → more ≤ 10 → last < length vectors → next < length vectors → Size (2 ^ 44) covered → Size (2 ^ 39) area
    → area ≡ cross (vector_of (slice_index_or vectors last (record { x = pos 0; y = pos 0 }))) (vector_of (slice_index_or vectors next (record { x = pos 0; y = pos 0 })))
    → to_z w64 (of_z w64 (to_z w64 (of_z w64 (to_z w64 (of_z w64 covered) +ℤ to_z w64 (of_z w64 area))) +ℤ to_z w64 (of_z w64 (slice_index_or rows (more * length vectors + next) (pos 0)))))
    ≡ covered +ℤ cross (point_at (map vector_of vectors) last) (point_at (map vector_of vectors) next) +ℤ most_after (map vector_of vectors) more next
sum_is vectors last more next rows covered area short h few l m small small_area is =
    machine small small_area (number_size vectors more next rows short h few m)
    ∙ ap₂ (λ t u. covered +ℤ t +ℤ u) (is ∙ ap₂ cross (sym (read_vector vectors last l)) (sym (read_vector vectors next m)))
    (subst (λ n. at rows (more * n + next) ≡ most_after (map vector_of vectors) more next) (length-map vectors vector_of) (h.each more next (itself more) (subst (λ n. next < n) (sym (length-map vectors vector_of)) m)))
  where
    itself : (n : ℕ) → n ≤ n
    itself n = omega arith

    machine : {c t u : ℤ} → Size (2 ^ 44) c → Size (2 ^ 39) t → Size (2 ^ 43) u → to_z w64 (of_z w64 (to_z w64 (of_z w64 (to_z w64 (of_z w64 c) +ℤ to_z w64 (of_z w64 t))) +ℤ to_z w64 (of_z w64 u))) ≡ c +ℤ t +ℤ u
    machine h k l = with_inputs (given h ∷ given k ∷ given l ∷ []) (λ xs s a b d. simp (a, b, d, codes) (computes xs s _ _ tt tt))

-- ---- numbers that the machine keeps

pub as_kept : (vectors : List PlanePoint) (last more next : ℕ) (covered size : ℤ) → Size (2 ^ 44) covered → Size (2 ^ 43) size → NoneBefore vectors last more covered size next → NoneBefore vectors last more (to_z w64 (of_z w64 covered)) (to_z w64 (of_z w64 size)) next
as_kept vectors last more next covered size h k n = subst (λ c. NoneBefore vectors last more c (to_z w64 (of_z w64 size)) next) (sym (wrap_is_in w64 h tt)) (subst (λ s. NoneBefore vectors last more covered s next) (sym (wrap_is_in w64 k tt)) n)

pub from_kept : (vectors : List PlanePoint) (last more next : ℕ) (covered size : ℤ) → Size (2 ^ 44) covered → Size (2 ^ 43) size → NoneBefore vectors last more (to_z w64 (of_z w64 covered)) (to_z w64 (of_z w64 size)) next → NoneBefore vectors last more covered size next
from_kept vectors last more next covered size h k n = subst (λ c. NoneBefore vectors last more c size next) (wrap_is_in w64 h tt) (subst (λ s. NoneBefore vectors last more (to_z w64 (of_z w64 covered)) s next) (wrap_is_in w64 k tt) n)
