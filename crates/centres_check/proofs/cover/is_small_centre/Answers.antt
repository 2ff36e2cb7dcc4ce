use Rattle.std.proofs.Common.{◌↔◌, IsTrue, rules, leb}
use Rattle.bounds_model.specs.CentresAnswer.{IsCentreWithinLimits}
use Rattle.centres_check.proofs.cover.is_small_centre.Goals as goal

pub returns-then-unsigned_abs-le-LIMIT : goal.returns-then-unsigned_abs-le-LIMIT
returns-then-unsigned_abs-le-LIMIT c =
    let near : IsTrue (leb c.unsigned_abs-then-unsigned_abs-le-LIMIT.result 1000000) ↔ IsCentreWithinLimits c.args.c.now = search rules in
    (λ yes. record { range = c.w.ensures.lowest; near = near.0 yes }, λ small. near.1 small.near)
