use Rattle.std.proofs.Common.{rules, ◌≡◌, sym, ap, ◌∙◌, map, [], ◌∷◌, ◌++◌, arith}
use Rattle.std.proofs.lemmas.List.{take_all}
use Rattle.std.proofs.lemmas.Option.{get_or_from_slice_get}
use Rattle.bounds_model.specs.Plane.{point_at, origin}
use Rattle.bounded_coords.specs.Clouds.{points_of}
use Rattle.extremal_kgon.proofs.Reading.{taken-more}
use Rattle.extremal_kgon.proofs.polygon.points.Goals as goal

pub numbers-init : goal.numbers-init
numbers-init c = c.new-points.ensures.items

pub numbers-preserved : goal.numbers-preserved
numbers-preserved c =
    let pushed : c.push.new.self.items ≡ c.numbers.points.items ++ c.at.result.now ∷ [] = search rules in
    taken-more (point_at (points_of c.args.cloud)) c.args.numbers.now c.numbers.points.items c.push.new.self.items c.numbers.i 0 c.at.result.now c.numbers.invariant pushed (sym (get_or_from_slice_get (points_of c.args.cloud) _ c.at.result.now origin c.at.ensures)) c.numbers-test.true

pub returns : goal.returns
returns c = c.numbers.invariant ∙ ap (map (point_at (points_of c.args.cloud))) (take_all c.numbers.i c.args.numbers.now (omega arith))
