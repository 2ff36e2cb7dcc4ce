use Rattle.std.proofs.Common.{◌≡◌, sym, subst, ap, ap₂, ◌∙◌, ◌+◌, ◌-◌, ◌*◌, ◌<◌, ◌≤◌, ◌^◌, length, map, ℕ, List, pos, ◌+ℤ◌, w64, to_z, of_z, arith, below_more}
use Rattle.std.specs.Prelude.{slice_index_or}
use Rattle.integers.specs.Size.{Size}
use Rattle.integers.proofs.Sizes.{size_add, wrap_is_in}
use Rattle.bounds_model.specs.Plane.{point_at, cross}
use Rattle.added_areas.specs.declared.vectors.PlaneVector.{PlaneVector}
use Rattle.added_areas.specs.PlaneVectors.{vector_of}
use Rattle.added_areas.proofs.AddedNumbers.{read_vector}
use Rattle.polygon_check.specs.FirstTests.{PassesOverNone}
use Rattle.polygon_check.proofs.Areas.{size_under, machine_sum}
use Rattle.polygon_check.proofs.PassedOver.{covers_more, over_as, left_is}
use Rattle.polygon_check.proofs.firsts.passes_over_none.Goals as goal

-- there are few places
few_places : {place n layers : ℕ} → place + 1 < n → n ≤ layers + 2 → layers ≤ 10 → place ≤ 11
few_places h k l = omega arith

next_low : {place n : ℕ} → place < n - 1 → place + 1 < n
next_low h = omega arith

sum_small : {place : ℕ} → place ≤ 11 → place * 549755813888 ≤ 2 ^ 43
sum_small h = omega arith

one_row : (i : ℕ) → i * 549755813888 + 549755813888 ≤ (i + 1) * 549755813888
one_row i = omega arith

read_listed : (listed vectors : List PlaneVector) (i : ℕ) → listed ≡ vectors → i < length vectors → vector_of (slice_index_or listed i (record { x = pos 0; y = pos 0 })) ≡ point_at (map vector_of vectors) i
read_listed listed vectors i same low = ap (λ xs. vector_of (slice_index_or xs i (record { x = pos 0; y = pos 0 }))) same ∙ sym (read_vector vectors i low)

pub returns-then-not-stay_below : goal.returns-then-not-stay_below
returns-then-not-stay_below c =
    let low = next_low c.places-test.true in
    let few = few_places low c.requires.few c.requires.layers in
    let law = over_as c.args.corners.now c.vectors_from-vectors.result.items c.as_slice-in-places.result.now c.args.chosen.now c.args.layers c.places.place (to_z w64 c.places.covered-bits) c.args.size c.vectors_from-vectors.ensures c.as_slice-in-places.ensures.value c.requires.chosen
    low c.places.invariant.covers (left_is c.requires.size c.places.invariant.small few) c.stay_below.ensures in
    (λ yes. absurd (cc yes), λ all. let yes = law.1 (all c.places.place c.places-test.true) in absurd (cc yes))

pub places-preserved : goal.places-preserved
places-preserved c =
    let corners = c.args.corners.now in
    let vectors = c.vectors_from-vectors.result.items in
    let chosen = c.args.chosen.now in
    let place = c.places.place in
    let covered = to_z w64 c.places.covered-bits in
    let low = next_low c.places-test.true in
    let few = few_places low c.requires.few c.requires.layers in
    let kept = wrap_is_in w64 c.requires.size tt in
    let law = over_as corners vectors c.as_slice-in-places.result.now chosen c.args.layers place covered c.args.size c.vectors_from-vectors.ensures c.as_slice-in-places.ensures.value c.requires.chosen
    low c.places.invariant.covers (left_is c.requires.size c.places.invariant.small few) c.stay_below.ensures in
    let sum = machine_sum (size_under (sum_small few) c.places.invariant.small) c.area-covered.ensures.small in
    let last_low : slice_index_or chosen place 0 < length vectors = subst (λ n. slice_index_or chosen place 0 < n) (sym c.vectors_from-vectors.ensures.as_many) (c.requires.chosen place 0 (omega (arith, low))) in
    let other_low : slice_index_or chosen (place + 1) 0 < length vectors = subst (λ n. slice_index_or chosen (place + 1) 0 < n) (sym c.vectors_from-vectors.ensures.as_many) (c.requires.chosen (place + 1) 0 low) in
    let triangle = c.area-covered.ensures.value ∙ ap₂ cross (read_listed c.deref.result.now vectors (slice_index_or chosen place 0) c.deref.ensures.0 last_low) (read_listed c.deref-in-places.result.now vectors (slice_index_or chosen (place + 1) 0) c.deref-in-places.ensures.0 other_low) in
    record {
      covers = covers_more corners vectors chosen place covered _ c.vectors_from-vectors.ensures c.requires.chosen low c.places.invariant.covers (sum ∙ ap (λ z. covered +ℤ z) triangle);
      small = subst (Size ((place + 1) * 2 ^ 39)) (sym sum) (size_under (one_row place) (size_add c.places.invariant.small c.area-covered.ensures.small));
      each = below_more (PassesOverNone corners chosen c.args.layers (to_z w64 (of_z w64 c.args.size))) place c.places.invariant.each
          (subst (λ s. PassesOverNone corners chosen c.args.layers s place) (sym kept) (law.0 c.if-not-stay_below.false));
    }
