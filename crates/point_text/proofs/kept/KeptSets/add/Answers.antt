use Rattle.std.proofs.Common.{◌≡◌, ◌∙◌, ap, [], ◌∷◌, ◌≤◌, length, length-append, ◌+◌, arith}
use Rattle.bounds_model.specs.PointText.{last_set}
use Rattle.point_text.specs.Kept.{with_point}
use Rattle.point_text.proofs.SetLaws.{length-with_point, last_set-with_point, set_at-with_point}
use Rattle.point_text.proofs.kept.KeptSets.add.Goals as goal

pub returns-in_default-2-clause-sets : goal.returns-in_default-2-clause-sets
returns-in_default-2-clause-sets g c sets keeps =
    let p = c.args.p in
    let third : 3 ≤ c.args.self.now.count = omega arith in
    let many : 3 ≤ length sets = omega (arith, third, keeps.count) in
    let last : length (last_set (with_point p sets)) ≡ c.args.self.now.later + 1 =
    ap length (last_set-with_point p sets (omega (arith, many))) ∙ (length-append (last_set sets) (p ∷ []) ∙ ap (λ n. n + 1) (keeps.later third)) in
    record {
      first = set_at-with_point p sets 0 (omega (arith, many)) ∙ keeps.first;
      second = set_at-with_point p sets 1 (omega (arith, many)) ∙ keeps.second;
      count = length-with_point p sets ∙ keeps.count;
      later = λ more. last;
      room = omega (arith, last, c.args.self.now.limited, c.if-self-eq-MOST_POINTS.false);
    }
