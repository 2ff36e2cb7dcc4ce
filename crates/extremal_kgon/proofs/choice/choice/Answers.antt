use Rattle.std.proofs.Common.{◌≡◌, sym, subst, ap, ap₂, ◌∙◌, ◌+◌, ◌-◌, ◌<◌, ◌≤◌, ◌^◌, length, map, ℕ, suc, List, [], ◌∷◌, true, false, ℤ, pos, ◌+ℤ◌, ◌≤ℤ◌, ◌<ℤ◌, w64, to_z, of_z, arith}
use lib.Signed.{lt_z}
use Rattle.std.specs.Prelude.{slice_index_or}
use Rattle.std.proofs.Common.{FitsSigned}
use Rattle.std.proofs.lemmas.Int.{ints}
use Rattle.std.proofs.lemmas.List.{length-map}
use Rattle.integers.specs.Size.{Size}
use Rattle.integers.proofs.Sizes.{wrap_is_in}
use Rattle.integers.proofs.MachineArithmetic.{given, with_inputs, codes, computes, fits}
use Rattle.bounds_model.specs.Plane.{cross}
use Rattle.added_areas.specs.declared.vectors.PlaneVector.{PlaneVector}
use Rattle.added_areas.specs.PlaneVectors.{vector_of}
use Rattle.added_areas.specs.AddedRows.{most_after}
use Rattle.added_areas.proofs.AddedNumbers.{read_vector}
use Rattle.extremal_kgon.specs.Choices.{IsNext}
use Rattle.extremal_kgon.proofs.Walks.{IsWalk, walk-more, walk-ends, goes_on, walk_size, next_is}
use Rattle.extremal_kgon.proofs.choice.choice.Goals as goal

-- tests of numbers that the machine keeps
short : {x y a : ℤ} → lt_z x y ≡ true → y ≡ a → x <ℤ a
short {x} {y} {a} h e = grind (arith, ints)

reached : {x y a : ℤ} → lt_z x y ≡ false → y ≡ a → a ≤ℤ x
reached {x} {y} {a} h e = grind (arith, ints)

again : {n : ℕ} → 1 ≤ n → n - 1 + 1 ≡ n
again h = omega arith

again_suc : {n : ℕ} → 1 ≤ n → n ≡ suc (n - 1)
again_suc h = omega arith

pub next_position-next-requires-clause-covered : goal.next_position-next-requires-clause-covered
next_position-next-requires-clause-covered c =
    walk_size c.args.corners.now c.args.layers c.args.best.now.first c.args.best.now.area c.vectors_from-vectors.result.items c.corners.chosen.items c.corners.last c.corners.more (to_z w64 c.corners.covered-bits) c.vectors_from-vectors.ensures c.corners.invariant c.requires.layers c.requires.reached.not_negative c.requires.reached.small

pub next_position-next-requires-clause-reaches : goal.next_position-next-requires-clause-reaches
next_position-next-requires-clause-reaches c =
    let on = goes_on c.args.corners.now c.args.layers c.args.best.now.first c.args.best.now c.corners.chosen.items c.corners.last c.corners.more (to_z w64 c.corners.covered-bits) c.requires.reached c.corners.invariant (short c.corners-test.true (wrap_is_in w64 c.requires.reached.small tt)) in
    subst (λ xs. to_z w64 c.corners.covered-bits +ℤ most_after (map vector_of xs) (c.corners.more - 1 + 1) c.corners.last ≡ to_z w64 (of_z w64 c.args.best.now.area)) (sym c.as_slice-in-corners.ensures.value)
    (ap (λ m. to_z w64 c.corners.covered-bits +ℤ most_after (map vector_of c.vectors_from-vectors.result.items) m c.corners.last) (again on.0)
    ∙ next_is c.args.corners.now c.args.layers c.args.best.now.first c.args.best.now.area c.vectors_from-vectors.result.items c.corners.chosen.items c.corners.last c.corners.more (to_z w64 c.corners.covered-bits) c.vectors_from-vectors.ensures c.corners.invariant
    ∙ sym (wrap_is_in w64 c.requires.reached.small tt))

pub overflow_add-covered : goal.overflow_add-covered
overflow_add-covered c =
    let size = walk_size c.args.corners.now c.args.layers c.args.best.now.first c.args.best.now.area c.vectors_from-vectors.result.items c.corners.chosen.items c.corners.last c.corners.more (to_z w64 c.corners.covered-bits) c.vectors_from-vectors.ensures c.corners.invariant c.requires.layers c.requires.reached.not_negative c.requires.reached.small in
    fits_sum size c.area-covered.ensures.small
  where
    fits_sum : {w t : ℤ} → Size (2 ^ 44) w → Size (2 ^ 39) t → FitsSigned w64 (w +ℤ to_z w64 (of_z w64 t))
    fits_sum {w} {t} h k = subst (λ z. FitsSigned w64 (z +ℤ to_z w64 (of_z w64 t))) (wrap_is_in w64 h tt) (with_inputs (given h ∷ given k ∷ []) (λ xs s a b. simp (a, b, codes) (fits xs s w64 _ tt)))

pub push-requires-in-corners : goal.push-requires-in-corners
push-requires-in-corners c =
    let on = goes_on c.args.corners.now c.args.layers c.args.best.now.first c.args.best.now c.corners.chosen.items c.corners.last c.corners.more (to_z w64 c.corners.covered-bits) c.requires.reached c.corners.invariant (short c.corners-test.true (wrap_is_in w64 c.requires.reached.small tt)) in
    let room : length c.corners.chosen.items < 12 = fewer (ap length c.corners.invariant.begins) c.corners.invariant.count on.0 c.requires.layers in
    (omega arith, room)
  where
    fewer : {n r more layers : ℕ} → n ≡ suc r → r + more ≡ layers + 1 → 1 ≤ more → layers ≤ 10 → n < 12
    fewer e f h k = omega arith

pub corners-smaller : goal.corners-smaller
corners-smaller c =
    let on = goes_on c.args.corners.now c.args.layers c.args.best.now.first c.args.best.now c.corners.chosen.items c.corners.last c.corners.more (to_z w64 c.corners.covered-bits) c.requires.reached c.corners.invariant (short c.corners-test.true (wrap_is_in w64 c.requires.reached.small tt)) in
    less on.0
  where
    less : {n : ℕ} → 1 ≤ n → n - 1 < n
    less h = omega arith

pub corners-preserved : goal.corners-preserved
corners-preserved c =
    let corners = c.args.corners.now in
    let best = c.args.best.now in
    let vectors = c.vectors_from-vectors.result.items in
    let covered = to_z w64 c.corners.covered-bits in
    let kept = wrap_is_in w64 c.requires.reached.small tt in
    let on = goes_on corners c.args.layers best.first best c.corners.chosen.items c.corners.last c.corners.more covered c.requires.reached c.corners.invariant (short c.corners-test.true kept) in
    let size = walk_size corners c.args.layers best.first best.area vectors c.corners.chosen.items c.corners.last c.corners.more covered c.vectors_from-vectors.ensures c.corners.invariant c.requires.layers c.requires.reached.not_negative c.requires.reached.small in
    let next : IsNext (map vector_of vectors) c.corners.last (c.corners.more - 1) covered best.area c.next_position-next.result =
    subst (λ s. IsNext (map vector_of vectors) c.corners.last (c.corners.more - 1) covered s c.next_position-next.result) kept
    (subst (λ xs. IsNext (map vector_of xs) c.corners.last (c.corners.more - 1) covered (to_z w64 (of_z w64 best.area)) c.next_position-next.result) c.as_slice-in-corners.ensures.value c.next_position-next.ensures) in
    walk-more corners c.args.layers best.first best.area vectors c.corners.chosen.items c.push-in-corners.new.self.items c.corners.last (c.corners.more - 1) c.next_position-next.result covered _ c.vectors_from-vectors.ensures
    (subst (λ m. IsWalk corners c.args.layers best.first best.area c.corners.chosen.items c.corners.last m covered) (again_suc on.0) c.corners.invariant) on.1 next c.push-in-corners.ensures.items
    (sum size c.area-covered.ensures.small ∙ ap (λ z. covered +ℤ z) (c.area-covered.ensures.value ∙ ap₂ cross
    (ap (λ xs. vector_of (slice_index_or xs c.corners.last (record { x = pos 0; y = pos 0 }))) c.deref.ensures.0 ∙ sym (read_vector vectors c.corners.last (subst (λ n. c.corners.last < n) (sym c.vectors_from-vectors.ensures.as_many) c.corners.invariant.below)))
    (ap (λ xs. vector_of (slice_index_or xs c.next_position-next.result (record { x = pos 0; y = pos 0 }))) c.deref-in-corners.ensures.0 ∙ sym (read_vector vectors c.next_position-next.result (in_vectors vectors next.below)))))
  where
    sum : {w t : ℤ} → Size (2 ^ 44) w → Size (2 ^ 39) t → to_z w64 (of_z w64 (w +ℤ to_z w64 (of_z w64 t))) ≡ w +ℤ t
    sum {w} {t} h k = subst (λ z. to_z w64 (of_z w64 (z +ℤ to_z w64 (of_z w64 t))) ≡ w +ℤ t) (wrap_is_in w64 h tt) (with_inputs (given h ∷ given k ∷ []) (λ xs s a b. simp (a, b, codes) (computes xs s _ _ tt tt)))

    in_vectors : (vectors : List PlaneVector) {i : ℕ} → i < length (map vector_of vectors) → i < length vectors
    in_vectors vectors {i} h = subst (λ n. i < n) (length-map vectors vector_of) h

pub returns : goal.returns
returns c =
    walk-ends c.args.corners.now c.args.layers c.args.best.now.first c.args.best.now.area c.corners.chosen.items c.corners.last c.corners.more (to_z w64 c.corners.covered-bits) c.corners.invariant (reached c.corners-test.false (wrap_is_in w64 c.requires.reached.small tt))
