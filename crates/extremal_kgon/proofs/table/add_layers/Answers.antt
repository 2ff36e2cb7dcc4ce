use Rattle.std.proofs.Common.{◌≡◌, sym, subst, ap, ◌∙◌, ◌+◌, ◌≤◌, ◌^◌, ◌++◌, length, map, All, arith, ℤ, pos}
use Rattle.std.proofs.Common.{List}
use Rattle.std.specs.Prelude.{nat_abs}
use Rattle.added_areas.specs.declared.vectors.PlaneVector.{PlaneVector}
use Rattle.integers.specs.Size.{Size}
use Rattle.added_areas.specs.PlaneVectors.{vector_of}
use Rattle.extremal_kgon.specs.Rows.{AreAreas, IsNextRow}
use Rattle.extremal_kgon.specs.Tables.{TakesBest}
use Rattle.extremal_kgon.proofs.TableSteps.{IsPartTable, small_row, first-begins, first-ends, next_small, next_room, next_added}
use Rattle.extremal_kgon.proofs.table.add_layers.Goals as goal

pub layers-init : goal.layers-init
layers-init c =
    first-begins c.args.corners.now c.args.layers c.args.first (map pos c.args.potentials.now) c.zero_row-before.result.items c.args.best c.requires.table
    (omega (arith, c.zero_row-before.ensures.as_many, c.len.ensures.value, c.vectors_after-vectors.ensures.as_many)) c.zero_row-before.ensures.zero

pub next_row-row-requires-clause-as_many : goal.next_row-row-requires-clause-as_many
next_row-row-requires-clause-as_many c = omega (arith, ap length c.as_slice-in-layers.ensures.value, ap length c.as_slice-in-layers-3.ensures.value, c.layers.invariant.row_length, c.vectors_after-vectors.ensures.as_many)

pub next_row-row-requires-clause-before : goal.next_row-row-requires-clause-before
next_row-row-requires-clause-before c = subst (All (Size (2 ^ 43))) (sym c.as_slice-in-layers-3.ensures.value) (small_row c.layers.layer c.layers.before.items (omega (arith, c.requires.layers)) c.layers.invariant.low c.layers.invariant.high)

-- the next row, as the lists have it
of_lists : {vectors vectors' : List PlaneVector} {before before' row : List ℤ} → vectors' ≡ vectors → before' ≡ before → IsNextRow (map vector_of vectors') before' row → IsNextRow (map vector_of vectors) before row
of_lists {vectors} {vectors'} {before} {before'} {row} e f h = subst (λ bs. IsNextRow (map vector_of vectors) bs row) f (subst (λ ws. IsNextRow (map vector_of ws) before' row) e h)

-- the areas, as the lists have them
areas_of_lists : {vectors vectors' : List PlaneVector} {areas areas' : List ℤ} → vectors ≡ vectors' → areas' ≡ areas → AreAreas (map vector_of vectors) (length vectors) areas → AreAreas (map vector_of vectors') (length vectors') areas'
areas_of_lists {vectors} {vectors'} {areas} {areas'} e f h = subst (AreAreas (map vector_of vectors') (length vectors')) (sym f) (subst (λ ws. AreAreas (map vector_of ws) (length ws) areas) e h)

pub next_row-row-requires-clause-areas : goal.next_row-row-requires-clause-areas
next_row-row-requires-clause-areas c = areas_of_lists (c.as_slice.ensures.value ∙ sym c.as_slice-in-layers.ensures.value) c.as_slice-in-layers-2.ensures.value c.set_areas.ensures

pub with_row-best-requires : goal.with_row-best-requires
with_row-best-requires c =
    let next = of_lists c.as_slice-in-layers.ensures.value c.as_slice-in-layers-3.ensures.value c.next_row-row.ensures in
    let sizes = next_small c.args.corners.now c.args.layers c.args.first c.layers.layer (map pos c.layers.potentials) c.layers.before.items c.next_row-row.result.items c.layers.best c.vectors_after-vectors.result.items c.requires.layers c.layers-test.true c.vectors_after-vectors.ensures c.layers.invariant next in
    record {
      index = omega (arith, c.requires.few, c.requires.first, c.requires.layers, c.layers-test.true, c.as_slice-in-layers-4.ensures.fits);
      not_negative = c.layers.invariant.greatest.not_negative;
      small = c.layers.invariant.greatest.small;
      sizes = subst (All (Size (2 ^ 43))) (sym c.as_slice-in-layers-4.ensures.value) sizes;
    }

pub push_row-requires : goal.push_row-requires
push_row-requires c =
    let next = of_lists c.as_slice-in-layers.ensures.value c.as_slice-in-layers-3.ensures.value c.next_row-row.ensures in
    let sizes = next_small c.args.corners.now c.args.layers c.args.first c.layers.layer (map pos c.layers.potentials) c.layers.before.items c.next_row-row.result.items c.layers.best c.vectors_after-vectors.result.items c.requires.layers c.layers-test.true c.vectors_after-vectors.ensures c.layers.invariant next in
    let room = next_room c.args.corners.now c.args.layers c.args.first c.layers.layer c.layers.potentials c.layers.before.items c.next_row-row.result.items c.layers.best c.vectors_after-vectors.result.items c.requires.few c.requires.first c.requires.layers c.layers-test.true c.vectors_after-vectors.ensures c.layers.invariant next in
    record {
      room = subst (λ xs. length c.layers.potentials + length xs ≤ 1000000) (sym c.as_slice-in-layers-5.ensures.value) room;
      sizes = subst (All (Size (2 ^ 43))) (sym c.as_slice-in-layers-5.ensures.value) sizes;
    }

pub layers-preserved : goal.layers-preserved
layers-preserved c =
    let next = of_lists c.as_slice-in-layers.ensures.value c.as_slice-in-layers-3.ensures.value c.next_row-row.ensures in
    next_added c.args.corners.now c.args.layers c.args.first c.layers.layer c.layers.potentials c.push_row.new.potentials c.layers.before.items c.next_row-row.result.items c.layers.best c.with_row-best.result c.vectors_after-vectors.result.items c.requires.first c.layers-test.true c.vectors_after-vectors.ensures c.layers.invariant next
    (subst (λ xs. TakesBest c.layers.best xs c.args.first (c.layers.layer + 1) c.with_row-best.result) c.as_slice-in-layers-4.ensures.value c.with_row-best.ensures)
    (c.in_ok-push_row.ensures ∙ ap (λ xs. c.layers.potentials ++ map nat_abs xs) c.as_slice-in-layers-5.ensures.value)

pub returns : goal.returns
returns c = first-ends c.args.corners.now c.args.layers c.args.first (map pos c.layers.potentials) c.layers.before.items c.layers.best c.requires.first (subst (λ l. IsPartTable c.args.corners.now c.args.layers c.args.first l (map pos c.layers.potentials) c.layers.before.items c.layers.best) (let all : c.layers.layer ≡ c.args.layers = omega arith in all) c.layers.invariant)
