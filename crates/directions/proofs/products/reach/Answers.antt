use Rattle.std.proofs.Common.{◌≡◌, ◌-ℤ◌, [], ◌∷◌}
use Rattle.bounds_model.specs.Fans.{reach}
use Rattle.bounded_coords.specs.Clouds.{points_of}
use Rattle.answers.specs.Answers.{vector_of}
use Rattle.integers.proofs.MachineArithmetic.{given, with_inputs, codes, computes}
use Rattle.directions.proofs.Reading.{reach_is}
use Rattle.directions.proofs.products.reach.Goals as goal

pub returns-clause-value : goal.returns-clause-value
returns-clause-value c =
    let points = points_of c.args.cloud in
    let value : c.along.result -ℤ c.along-2.result ≡ reach points (vector_of c.args.d) c.args.hi c.args.lo =
    reach_is points (vector_of c.args.d) c.args.hi c.args.lo c.at.result.now c.at-2.result.now c.along.result c.along-2.result c.at.ensures c.at-2.ensures c.along.ensures.value c.along-2.ensures.value in
    rw (← value) (with_inputs (given c.along.ensures.size ∷ given c.along-2.ensures.size ∷ []) (λ xs h a b. simp (a, b, codes) (computes xs h _ _ tt tt)))
