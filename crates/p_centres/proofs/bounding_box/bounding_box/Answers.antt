use Rattle.std.proofs.Common.{rules, SFits, w32}
use Rattle.std.proofs.lemmas.Int.{to_z-of_z}
use Rattle.bounded_coords.specs.Clouds.{counted_points}
use Rattle.p_centres.proofs.Ends.{extent_of_ends}
use Rattle.p_centres.proofs.bounding_box.bounding_box.Goals as goal

pub returns-clause-bounds : goal.returns-clause-bounds
returns-clause-bounds g c =
    let points = counted_points c.args.cloud in
    let fits_left : SFits w32 c.x.result = search rules in
    let fits_right : SFits w32 c.x-2.result = search rules in
    let fits_lowest : SFits w32 c.y.result = search rules in
    let fits_highest : SFits w32 c.y-2.result = search rules in
    simp to_z-of_z (record {
      across = extent_of_ends (λ p. p.x) points (record { low = c.x.result; high = c.x-2.result; low_at = c.first_least-left.result; high_at = c.first_greatest-right.result }) c.point.result.now c.point-2.result.now
          c.first_least-left.ensures.found c.first_greatest-right.ensures.found c.point.ensures.point c.point-2.ensures.point c.x.ensures.value c.x-2.ensures.value c.x.ensures.bounds c.x-2.ensures.bounds;
      up = extent_of_ends (λ p. p.y) points (record { low = c.y.result; high = c.y-2.result; low_at = c.first_least-lowest.result; high_at = c.first_greatest-highest.result }) c.point-3.result.now c.point-4.result.now
          c.first_least-lowest.ensures.found c.first_greatest-highest.ensures.found c.point-3.ensures.point c.point-4.ensures.point c.y.ensures.value c.y-2.ensures.value c.y.ensures.bounds c.y-2.ensures.bounds;
    })
