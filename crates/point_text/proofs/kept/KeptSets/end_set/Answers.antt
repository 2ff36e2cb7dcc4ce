use Rattle.std.proofs.Common.{◌∙◌, ap, [], ◌∷◌, length, length-append, ◌+◌, arith}
use Rattle.point_text.proofs.SetLaws.{set_at-end, last_set-end}
use Rattle.point_text.proofs.kept.KeptSets.end_set.Goals as goal

pub returns-clause-sets : goal.returns-clause-sets
returns-clause-sets g c sets keeps =
    let empty = ap length (last_set-end sets) in
    record {
      first = set_at-end sets 0 ∙ keeps.first;
      second = set_at-end sets 1 ∙ keeps.second;
      count = length-append sets ([] ∷ []) ∙ ap (λ n. n + 1) keeps.count;
      later = λ third. empty;
      room = omega (arith, empty);
    }
