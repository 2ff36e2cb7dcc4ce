use Rattle.std.proofs.Common.{◌∙◌, ap, ap₂}
use Rattle.bounds_model.specs.Plane.{dot}
use Rattle.fan_test.proofs.Comparisons.{tests_le}
use Rattle.fan_test.proofs.chain.is_within.Goals as goal

pub returns : goal.returns
returns g c =
    tests_le c.dot.type_inv c.dot-2.type_inv
    (c.dot.ensures.value ∙ ap (λ d. dot d c.args.p) c.direction-direction.ensures.value)
    (c.dot-2.ensures.value ∙ ap₂ dot c.direction-direction.ensures.value c.point.ensures)
