use Rattle.std.proofs.Common.{◌≡◌, ◌∙◌, ap, subst, ◌↔◌, IsTrue, pos, ◌≤ℤ◌, FitsSigned, w64, to_z-of_z, rules}
use lib.Signed.{le_z}
use Rattle.integers.proofs.Sizes.{size_fits_in}
use Rattle.answers.specs.Answers.{vector_of, half_fan_of}
use Rattle.parallelogram_strip.specs.FullTurn.{cone_at}
use Rattle.parallelogram_strip.specs.Crossings.{reach_of}
use Rattle.bounded_coords.specs.Clouds.{points_of}
use Rattle.parallelogram_strip.proofs.ConesRead.{around_named}
use Rattle.parallelogram_strip.proofs.crossing.is_behind.Goals as goal

pub reach-requires-clause-hi : goal.reach-requires-clause-hi
reach-requires-clause-hi c = (around_named (points_of c.args.cloud) c.args.fan.now c.args.i c.cone_at-cone.result c.requires.fan c.requires.listed c.cone_at-cone.ensures).0

pub reach-requires-clause-lo : goal.reach-requires-clause-lo
reach-requires-clause-lo c = (around_named (points_of c.args.cloud) c.args.fan.now c.args.i c.cone_at-cone.result c.requires.fan c.requires.listed c.cone_at-cone.ensures).1

pub returns : goal.returns
returns c =
    let points = points_of c.args.cloud in
    let fits : FitsSigned w64 c.reach.result = size_fits_in w64 c.reach.ensures.size tt in
    let is : c.reach.result ≡ reach_of points (vector_of c.args.d) (cone_at (half_fan_of c.args.fan.now) c.args.i) = c.reach.ensures.value ∙ ap (λ cone. reach_of points (vector_of c.args.d) cone) c.cone_at-cone.ensures in
    let test : IsTrue (le_z c.reach.result (pos 0)) ↔ (c.reach.result ≤ℤ pos 0) = search rules in
    simp to_z-of_z (subst (λ z. IsTrue (le_z c.reach.result (pos 0)) ↔ (z ≤ℤ pos 0)) is test)
