use Rattle.std.proofs.Common.{append_assoc, rules}
use Rattle.std.proofs.lemmas.List.{length-map}
use Rattle.std.proofs.lemmas.List.Folds.{flat_map-map}
use Rattle.answer_lines.proofs.line_printing.push_counted.Goals as goal

pub returns : goal.returns
returns g c = simp (flat_map-map, length-map) (search (rules, append_assoc))
