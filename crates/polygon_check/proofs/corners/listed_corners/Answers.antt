use Rattle.std.proofs.Common.{◌≡◌, sym, subst, ◌∙◌, ◌<◌, ◌≤◌, length, map, take, arith}
use Rattle.std.proofs.lemmas.List.{ext_get_or, get_or-take, get_or-map, length-map, length-take-le}
use Rattle.bounds_model.specs.Plane.{point_at, origin}
use Rattle.bounded_coords.specs.Clouds.{points_of}
use Rattle.polygon_check.proofs.corners.listed_corners.Goals as goal

pub returns : goal.returns
returns c =
    let corners = c.numbers.corners in
    let numbers = c.args.numbers.now in
    let at_most : length numbers ≤ length corners = omega (arith, c.requires.as_many.at_most, c.numbers.invariant.as_many) in
    let taken : length (take (length numbers) corners) ≡ length numbers = length-take-le (length numbers) corners at_most in
    ext_get_or origin (take (length numbers) corners) (map (point_at (points_of c.args.cloud)) numbers) (taken ∙ sym (length-map numbers (point_at (points_of c.args.cloud))))
    (λ i low.
    let below : i < length numbers = subst (λ n. i < n) taken low in
    get_or-take (length numbers) corners i origin below ∙ c.numbers.invariant.each i (omega (arith, below, c.numbers-test.false)) ∙ sym (get_or-map (point_at (points_of c.args.cloud)) numbers i 0 origin below))
