use Rattle.std.proofs.Common.{◌≡◌, ap, ◌∙◌, ◌+◌, ◌-◌, map, length, to_z, of_z, w64}
use Rattle.integers.proofs.Sizes.{wrap_is_in}
use Rattle.bounds_model.specs.Plane.{point_at}
use Rattle.bounded_coords.specs.Clouds.{points_of}
use Rattle.furthest_laws.specs.Rows.{distances}
use Rattle.furthest_check.proofs.PassingRows.{row_test, row_no_farther}
use Rattle.furthest_check.proofs.rows.is_row.Goals as goal

pub returns : goal.returns
returns c =
    let corners = map (point_at (points_of c.args.cloud)) c.args.numbers.now in
    let most : to_z w64 (of_z w64 c.distance_on-most.result) ≡ distances corners c.args.row (c.args.row + c.args.here) = wrap_is_in w64 c.distance_on-most.ensures.small tt
    ∙ c.distance_on-most.ensures.value in
    let from = ap (λ n. n - 1) c.max.ensures in (
      λ yes. row_test (distances corners) (length c.args.numbers.now) c.args.before c.args.here c.args.after c.args.row (c.max.result - 1) c.min.result
          (to_z w64 (of_z w64 c.distance_on-most.result)) most c.if-here-lt1.false c.if-before-here.false from c.min.ensures
          (c.are_nearer.ensures.0 c.if-not-are_nearer.false) (c.are_no_farther.ensures.0 yes),
      λ t. c.are_no_farther.ensures.1 (row_no_farther (distances corners) (length c.args.numbers.now) c.args.before c.args.here c.args.after c.args.row c.min.result
          (to_z w64 (of_z w64 c.distance_on-most.result)) most c.min.ensures t),
    )
