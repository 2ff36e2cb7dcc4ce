use Rattle.std.proofs.Common.{◌≡◌, refl, sym, subst, ap, ap₂, ◌∙◌, suc, ◌+◌, ◌-◌, ◌*◌, ◌<◌, ◌≤◌, ◌^◌, length, map, ℕ, List, [], ◌∷◌, ℤ, ◌+ℤ◌, w64, to_z, of_z, arith}
use Rattle.std.specs.Prelude.{All}
use Rattle.std.specs.Int.{int_max}
use Rattle.std.proofs.lemmas.List.{length-map}
use Rattle.integers.specs.Size.{Size}
use Rattle.integers.proofs.MachineArithmetic.{given, with_inputs, codes, computes, fits}
use Rattle.integers.proofs.Narrowing.{kept64}
use Rattle.bounds_model.specs.Plane.{point_at, cross}
use Rattle.bounds_model.specs.Kgon.{greatest_from}
use Rattle.added_areas.specs.declared.vectors.PlaneVector.{PlaneVector}
use Rattle.added_areas.specs.PlaneVectors.{vector_of, IsShort}
use Rattle.added_areas.specs.AddedRows.{at, most_after, AreAdded}
use Rattle.added_areas.proofs.AddedNumbers.{greatest_more, max_is, read_vector, row_size}
use Rattle.added_areas.proofs.rows.most_from.Goals as goal

pub later-init : goal.later-init
later-init c = refl

-- the number of a next corner
inside : (count last passed : ℕ) → passed < count - last - 1 → count - 1 - passed < count
inside count last passed h = omega arith

-- the number that stands there is small
there : (vectors : List PlaneVector) (layer last passed : ℕ) (rows : List ℤ) → All IsShort vectors → AreAdded (map vector_of vectors) layer rows → layer < 10 → passed < length vectors - last - 1 → Size (2 ^ 43) (at rows (layer * length vectors + (length vectors - 1 - passed)))
there vectors layer last passed rows short h few l = row_size vectors layer layer (length vectors - 1 - passed) rows short h (omega arith) (itself layer) (inside (length vectors) last passed l)
  where
    itself : (n : ℕ) → n ≤ n
    itself n = omega arith

pub overflow_add-area : goal.overflow_add-area
overflow_add-area c = with_inputs (given c.area.ensures.small ∷ given (there c.args.vectors.now c.args.layer c.args.last c.later.passed c.args.rows.now c.requires.short c.requires.rows c.requires.layer c.later-test.true) ∷ []) (λ xs h a b. simp (a, b, codes) (fits xs h w64 _ tt))

-- the sum that the machine has
machine_sum : {u v : ℤ} → Size (2 ^ 39) u → Size (2 ^ 43) v → to_z w64 (of_z w64 (to_z w64 (of_z w64 u) +ℤ to_z w64 (of_z w64 v))) ≡ u +ℤ v
machine_sum h k = with_inputs (given h ∷ given k ∷ []) (λ xs s a b. simp (a, b, codes) (computes xs s _ _ tt tt))

pub later-preserved : goal.later-preserved
later-preserved c =
    let vectors = c.args.vectors.now in
    let next = length vectors - 1 - c.later.passed in
    let here = inside (length vectors) c.args.last c.later.passed c.later-test.true in
    let sum = machine_sum c.area.ensures.small (there vectors c.args.layer c.args.last c.later.passed c.args.rows.now c.requires.short c.requires.rows c.requires.layer c.later-test.true) in
    let triangle = c.area.ensures.value ∙ ap₂ cross (sym (read_vector vectors c.args.last c.requires.last)) (sym (read_vector vectors next here)) in
    let row = subst (λ n. at c.args.rows.now (c.args.layer * n + next) ≡ most_after (map vector_of vectors) c.args.layer next) (length-map vectors vector_of) (c.requires.rows.each c.args.layer next (itself c.args.layer) (subst (λ n. next < n) (sym (length-map vectors vector_of)) here)) in
    greatest_more (λ next. cross (point_at (map vector_of vectors) c.args.last) (point_at (map vector_of vectors) next) +ℤ most_after (map vector_of vectors) c.args.layer next) (length vectors) c.later.passed (to_z w64 c.later.most-bits) (to_z w64 (of_z w64 c.max-most.result))
    (below (length vectors) c.args.last c.later.passed c.later-test.true) c.later.invariant
    (kept64 {z = c.max-most.result} c.max-most.type_inv ∙ max_is (to_z w64 c.later.most-bits) _ c.max-most.result c.max-most.ensures ∙ ap (λ z. int_max z (to_z w64 c.later.most-bits)) (sum ∙ ap₂ (λ x y. x +ℤ y) triangle row))
  where
    itself : (n : ℕ) → n ≤ n
    itself n = omega arith

    below : (count last passed : ℕ) → passed < count - last - 1 → passed < count
    below count last passed h = omega arith

pub returns : goal.returns
returns c =
    let vectors = c.args.vectors.now in
    let all : c.later.passed ≡ length vectors - (c.args.last + 1) = omega (arith, c.later-test.false, c.later.auto.passed-end) in
    let start : length vectors - c.later.passed ≡ c.args.last + 1 = omega (arith, all, c.requires.last) in
    subst (λ m. to_z w64 c.later.most-bits ≡ most_after (map vector_of vectors) m c.args.last) (one_up c.args.layer)
    (c.later.invariant ∙ ap₂ (greatest_from (λ next. cross (point_at (map vector_of vectors) c.args.last) (point_at (map vector_of vectors) next) +ℤ most_after (map vector_of vectors) c.args.layer next)) start (all ∙ ap (λ n. n - (c.args.last + 1)) (sym (length-map vectors vector_of))))
  where
    one_up : (n : ℕ) → suc n ≡ n + 1
    one_up n = omega arith
