use Rattle.std.proofs.Common.{◌≡◌, sym, subst, ap, ◌∙◌, ℕ, ◌+◌, ◌-◌, ◌*◌, ◌<◌, ◌≤◌, ◌^◌, arith, ◌+ℤ◌, to_z, w64, length, map, List}
use Rattle.std.specs.Prelude.{drop, slice_index_or}
use Rattle.std.proofs.lemmas.List.{get_or-map, get_or_read, length-map}
use Rattle.integers.specs.Size.{Size}
use Rattle.integers.proofs.Sizes.{size_add, size_unsigned}
use Rattle.bounds_model.specs.Plane.{PlanePoint, origin, point_at}
use Rattle.bounds_model.specs.Kgon.{triangulated_area, twice_area}
use Rattle.polygon_check.proofs.Areas.{begins, one_more, ends, size_under, turn_of, machine_sum}
use Rattle.polygon_check.proofs.polygons.chosen_area.Goals as goal

-- the sums of so many triangles are small
within : {i n : ℕ} → i < n → n ≤ 12 → i * 549755813888 ≤ 2 ^ 43
within h k = omega arith

one_row : (i : ℕ) → i * 549755813888 + 549755813888 ≤ (i + 1) * 549755813888
one_row i = omega arith

-- the chosen corner that is read
chosen_corner : (corners : List PlanePoint) (chosen : List ℕ) (i : ℕ) (p : PlanePoint) → i < length chosen → slice_index_or chosen i 0 < length corners → p ≡ slice_index_or corners (slice_index_or chosen i 0) p → p ≡ point_at (map (point_at corners) chosen) i
chosen_corner corners chosen i p low inside is = get_or_read corners (slice_index_or chosen i 0) p inside is origin ∙ sym (get_or-map (point_at corners) chosen i 0 origin low)

pub chosen-init : goal.chosen-init
chosen-init c =
    let ps = map (point_at c.args.corners.now) c.args.chosen.now in
    (omega arith, size_unsigned 0 (omega arith), begins ps (omega (arith, c.requires.some, length-map c.args.chosen.now (point_at c.args.corners.now))))

pub chosen-preserved : goal.chosen-preserved
chosen-preserved c =
    let corners = c.args.corners.now in
    let chosen = c.args.chosen.now in
    let ps = map (point_at corners) chosen in
    let i = c.chosen.i in
    let inv = c.chosen.invariant in
    let below : i < length chosen = omega (arith, c.chosen-test.true) in
    let before : i - 1 < length chosen = omega (arith, below) in
    let some : 0 < length chosen = omega (arith, c.requires.some) in
    let area = turn_of c.twice_area-area.ensures.area (chosen_corner corners chosen 0 c.index-corners-chosen.result some (c.requires.chosen 0 0 some) c.index-corners-chosen.is)
    (chosen_corner corners chosen (i - 1) c.index-corners-chosen-in-chosen.result before (c.requires.chosen (i - 1) 0 before) c.index-corners-chosen-in-chosen.is)
    (chosen_corner corners chosen i c.index-corners-chosen-in-chosen-2.result below (c.requires.chosen i 0 below) c.index-corners-chosen-in-chosen-2.is) in
    let small = size_under (within below c.requires.few) inv.1 in
    let sum = machine_sum small c.twice_area-area.ensures.small in (
      omega arith,
      subst (Size ((i + 1) * 2 ^ 39)) (sym sum) (size_under (one_row i) (size_add inv.1 c.twice_area-area.ensures.small)),
      λ k e. subst (λ z. (z +ℤ triangulated_area (point_at ps 0) (drop k ps)) ≡ twice_area ps) (sym (sum ∙ ap (λ z. to_z w64 c.chosen.area-bits +ℤ z) area))
          (one_more (point_at ps 0) ps i (to_z w64 c.chosen.area-bits) (twice_area ps) inv.0 (omega (arith, below, length-map chosen (point_at corners))) inv.2 k e),
    )

pub returns-clause-area : goal.returns-clause-area
returns-clause-area c =
    let corners = c.args.corners.now in
    let ps = map (point_at corners) c.args.chosen.now in
    ends (point_at ps 0) ps c.chosen.i (to_z w64 c.chosen.area-bits) (twice_area ps) c.chosen.invariant.0 (omega (arith, c.chosen-test.false, length-map c.args.chosen.now (point_at corners))) c.chosen.invariant.2
