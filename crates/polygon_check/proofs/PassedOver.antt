-- Corners that were passed over: what they and later ones add, over vectors from the first chosen corner.
use Rattle.std.proofs.Common.{◌≡◌, refl, sym, subst, ap, ap₂, ◌∙◌, ◌↔◌, Bool, IsTrue, ℕ, ◌+◌, ◌-◌, ◌*◌, ◌<◌, ◌≤◌, ◌^◌, arith, w64, to_z, of_z, ℤ, pos, ◌+ℤ◌, ◌-ℤ◌, ◌<ℤ◌, List, [], ◌∷◌, ◌++◌, length, map, take}
use Rattle.std.specs.Prelude.{All, slice_index_or}
use Rattle.std.proofs.lemmas.Int.{ints}
use Rattle.std.proofs.lemmas.List.{length-map, take_more}
use native.Mathlib.Nat.{mul-le-mul_right}
use Rattle.integers.specs.Size.{Size}
use Rattle.integers.proofs.Sizes.{wrap_is_in, size_sub}
use Rattle.integers.proofs.MachineArithmetic.{given, with_inputs, codes, computes}
use Rattle.bounds_model.specs.Plane.{PlanePoint, point_at, cross}
use Rattle.bounds_model.specs.Kgon.{twice_area, most_added}
use Rattle.model_laws.proofs.MostAdded.{area-take}
use Rattle.added_areas.specs.declared.vectors.PlaneVector.{PlaneVector}
use Rattle.added_areas.specs.PlaneVectors.{vector_of, IsShort, AreVectorsFrom}
use Rattle.added_areas.specs.AddedRows.{at, most_after, AreAdded}
use Rattle.added_areas.proofs.AddedNumbers.{read_vector, row_size, turn_is, most_after-added}
use Rattle.polygon_check.proofs.Areas.{size_under}
use Rattle.polygon_check.specs.FirstTests.{StayBelow, most_with_other, PassesOverNone}

-- ---- the sum that the machine has

pub number_size : (vectors : List PlaneVector) (more other : ℕ) (rows : List ℤ) → All IsShort vectors → AreAdded (map vector_of vectors) more rows → more ≤ 10 → other < length vectors → Size (2 ^ 43) (at rows (more * length vectors + other))
number_size vectors more other rows short h few l = row_size vectors more more other rows short h few (itself more) l
  where
    itself : (n : ℕ) → n ≤ n
    itself n = omega arith

pub sum_is : (vectors : List PlaneVector) (last more other : ℕ) (rows : List ℤ) (area : ℤ) → All IsShort vectors → AreAdded (map vector_of vectors) more rows → more ≤ 10 → last < length vectors → other < length vectors → Size (2 ^ 39) area
    → area ≡ cross (vector_of (slice_index_or vectors last (record { x = pos 0; y = pos 0 }))) (vector_of (slice_index_or vectors other (record { x = pos 0; y = pos 0 })))
    → to_z w64 (of_z w64 (to_z w64 (of_z w64 area) +ℤ to_z w64 (of_z w64 (at rows (more * length vectors + other)))))
    ≡ cross (point_at (map vector_of vectors) last) (point_at (map vector_of vectors) other) +ℤ most_after (map vector_of vectors) more other
sum_is vectors last more other rows area short h few l m small is =
    machine small (number_size vectors more other rows short h few m)
    ∙ ap₂ (λ t u. t +ℤ u) (is ∙ ap₂ cross (sym (read_vector vectors last l)) (sym (read_vector vectors other m)))
    (subst (λ n. at rows (more * n + other) ≡ most_after (map vector_of vectors) more other) (length-map vectors vector_of) (h.each more other (itself more) (subst (λ n. other < n) (sym (length-map vectors vector_of)) m)))
  where
    itself : (n : ℕ) → n ≤ n
    itself n = omega arith

    machine : {t u : ℤ} → Size (2 ^ 39) t → Size (2 ^ 43) u → to_z w64 (of_z w64 (to_z w64 (of_z w64 t) +ℤ to_z w64 (of_z w64 u))) ≡ t +ℤ u
    machine h k = with_inputs (given h ∷ given k ∷ []) (λ xs s a b. simp (a, b, codes) (computes xs s _ _ tt tt))

-- ---- what the chosen corners up to a place cover

-- the first one alone covers nothing
pub covers_none : (f : ℕ → PlanePoint) (chosen : List ℕ) → 1 ≤ length chosen → pos 0 ≡ twice_area (map f (take (0 + 1) chosen))
covers_none f [] some = absurd (omega (arith, some))
covers_none f (a ∷ rest) some = refl

-- with another one behind the one at this place
area_with : (corners : List PlanePoint) (vectors : List PlaneVector) (chosen : List ℕ) (place other : ℕ) (covered : ℤ) → AreVectorsFrom corners (slice_index_or chosen 0 0) vectors → All (λ i. i < length corners) chosen → place < length chosen → other < length corners
    → covered ≡ twice_area (map (point_at corners) (take (place + 1) chosen))
    → twice_area (map (point_at corners) (take (place + 1) chosen ++ other ∷ [])) ≡ covered +ℤ cross (point_at (map vector_of vectors) (slice_index_or chosen place 0)) (point_at (map vector_of vectors) other)
area_with corners vectors [] place other covered w inside low below covers = absurd (omega (arith, low))
area_with corners vectors (a ∷ rest) place other covered w inside low below covers =
    area-take (point_at corners) a rest place other low ∙ ap₂ (λ z t. z +ℤ t) (sym covers) (sym (turn_is corners a vectors w (slice_index_or (a ∷ rest) place 0) other (inside place 0 low) below))

-- one chosen corner more
pub covers_more : (corners : List PlanePoint) (vectors : List PlaneVector) (chosen : List ℕ) (place : ℕ) (covered more : ℤ) → AreVectorsFrom corners (slice_index_or chosen 0 0) vectors → All (λ i. i < length corners) chosen → place + 1 < length chosen
    → covered ≡ twice_area (map (point_at corners) (take (place + 1) chosen))
    → more ≡ covered +ℤ cross (point_at (map vector_of vectors) (slice_index_or chosen place 0)) (point_at (map vector_of vectors) (slice_index_or chosen (place + 1) 0))
    → more ≡ twice_area (map (point_at corners) (take (place + 1 + 1) chosen))
covers_more corners vectors chosen place covered more w inside low covers is =
    is ∙ sym (area_with corners vectors chosen place (slice_index_or chosen (place + 1) 0) covered w inside (before low) (inside (place + 1) 0 low) covers)
    ∙ ap (λ xs. twice_area (map (point_at corners) xs)) (sym (take_more chosen (place + 1) 0 low))
  where
    before : {i n : ℕ} → i + 1 < n → i < n
    before h = omega arith

-- ---- what is left for a corner that was passed over

-- the triangle over the corner at a place and another one, and what later ones add
abbrev triangle : List PlaneVector → List ℕ → ℕ → ℕ → ℤ
triangle vectors chosen place other = cross (point_at (map vector_of vectors) (slice_index_or chosen place 0)) (point_at (map vector_of vectors) other)

abbrev later : List PlaneVector → ℕ → ℕ → ℤ
later vectors more other = most_after (map vector_of vectors) more other

pub over_none : (corners : List PlanePoint) (vectors : List PlaneVector) (chosen : List ℕ) (layers place : ℕ) (covered left size : ℤ) → AreVectorsFrom corners (slice_index_or chosen 0 0) vectors → All (λ i. i < length corners) chosen → place + 1 < length chosen
    → covered ≡ twice_area (map (point_at corners) (take (place + 1) chosen)) → left ≡ size -ℤ covered
    → StayBelow (map vector_of vectors) (slice_index_or chosen place 0) (slice_index_or chosen (place + 1) 0) (layers - place) left ↔ PassesOverNone corners chosen layers size place
over_none corners vectors chosen layers place covered left size w inside low covers rest = (
  λ h other before after. subst (λ z. z <ℤ size) (sym (sum other before)) (up (triangle vectors chosen place other) (later vectors (layers - place) other) rest (h other before after)),
  λ h other before after. down (triangle vectors chosen place other) (later vectors (layers - place) other) rest (subst (λ z. z <ℤ size) (sum other before) (h other before after)),
)
  where
    one_less : (l p : ℕ) → l + 1 - (p + 1) ≡ l - p
    one_less l p = omega arith

    earlier : {i n : ℕ} → i + 1 < n → i < n
    earlier h = omega arith

    through : {i j n : ℕ} → i < j → j < n → i < n
    through h k = omega arith

    sum : (other : ℕ) → other < slice_index_or chosen (place + 1) 0 → most_with_other corners chosen layers (place + 1) other ≡ covered +ℤ triangle vectors chosen place other +ℤ later vectors (layers - place) other
    sum other before =
        let below : other < length corners = through before (inside (place + 1) 0 low) in
        ap₂ (λ z u. z +ℤ u) (area_with corners vectors chosen place other covered w inside (earlier low) below covers)
        (ap (λ m. most_added corners (slice_index_or chosen 0 0) m other) (one_less layers place) ∙ sym (most_after-added corners (slice_index_or chosen 0 0) vectors w (layers - place) other below))

    up : (t m : ℤ) → left ≡ size -ℤ covered → (t +ℤ m) <ℤ left → (covered +ℤ t +ℤ m) <ℤ size
    up t m e h = omega (arith, ints)

    down : (t m : ℤ) → left ≡ size -ℤ covered → (covered +ℤ t +ℤ m) <ℤ size → (t +ℤ m) <ℤ left
    down t m e h = omega (arith, ints)

-- the same of vectors that are read from another list
pub over_as : {yes : Bool} {left : ℤ} (corners : List PlanePoint) (vectors listed : List PlaneVector) (chosen : List ℕ) (layers place : ℕ) (covered size : ℤ) → AreVectorsFrom corners (slice_index_or chosen 0 0) vectors → listed ≡ vectors → All (λ i. i < length corners) chosen
    → place + 1 < length chosen → covered ≡ twice_area (map (point_at corners) (take (place + 1) chosen)) → left ≡ size -ℤ covered
    → (IsTrue yes ↔ StayBelow (map vector_of listed) (slice_index_or chosen place 0) (slice_index_or chosen (place + 1) 0) (layers - place) left) → IsTrue yes ↔ PassesOverNone corners chosen layers size place
over_as {yes} {left} corners vectors listed chosen layers place covered size w same inside low covers rest t =
    let law = over_none corners vectors chosen layers place covered left size w inside low covers rest in
    let here = subst (λ vs. IsTrue yes ↔ StayBelow (map vector_of vs) (slice_index_or chosen place 0) (slice_index_or chosen (place + 1) 0) (layers - place) left) same t in
    (λ y. law.0 (here.0 y), λ h. here.1 (law.1 h))

-- rows for as many corners more are rows for fewer
pub fewer_rows : (vectors : List PlanePoint) (layers more : ℕ) (rows : List ℤ) → more ≤ layers → AreAdded vectors layers rows → AreAdded vectors more rows
fewer_rows vectors layers more rows few h = record {
  within = through (mul-le-mul_right (length vectors) (up few)) h.within;
  each = λ layer last low below. h.each layer last (through low few) below;
}
  where
    up : {m n : ℕ} → m ≤ n → m + 1 ≤ n + 1
    up h = omega arith

    through : {i j n : ℕ} → i ≤ j → j ≤ n → i ≤ n
    through h k = omega arith

-- what is left to reach
pub left_is : {s c : ℤ} {place : ℕ} → Size (2 ^ 43) s → Size (place * 2 ^ 39) c → place ≤ 11 → to_z w64 (of_z w64 (to_z w64 (of_z w64 s) -ℤ c)) ≡ s -ℤ c
left_is {s} {c} {place} h k few =
    ap (λ z. to_z w64 (of_z w64 (z -ℤ c))) (wrap_is_in w64 h tt) ∙ wrap_is_in w64 (size_sub h (size_under (eleven few) k)) tt
  where
    eleven : place ≤ 11 → place * 549755813888 ≤ 11 * 549755813888
    eleven h = omega arith
