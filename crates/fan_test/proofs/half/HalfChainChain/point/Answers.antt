use Rattle.std.proofs.Common.{sym, ◌∙◌}
use Rattle.std.proofs.lemmas.Option.{get_or_from_slice_get}
use Rattle.bounds_model.specs.Plane.{origin}
use Rattle.bounded_coords.specs.Clouds.{points_of}
use Rattle.fan_test.proofs.half.HalfChainChain.point.Goals as goal

pub returns : goal.returns
returns c = sym (get_or_from_slice_get (points_of c.args.self.now.cloud) c.number.result c.at.result.now origin c.at.ensures) ∙ c.number.ensures.point
