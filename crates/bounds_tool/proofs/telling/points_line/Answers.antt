use Rattle.std.proofs.Common.{◌∙◌, ◌++◌, ap, sym, codes, List, ℕ}
use Rattle.bounds_tool.proofs.Lines as lines
use Rattle.bounds_tool.proofs.telling.points_line.Goals as goal

pub returns-in_default : goal.returns-in_default
returns-in_default c =
    c.joined.ensures
    ∙ (ap (λ (text : List ℕ). codes "bounds: points: " ++ (text ++ codes "\n")) (c.as_str.ensures.value ∙ c.points_message.ensures.text)
    ∙ sym (lines.points_line c.args.fault c.in_default.not-OutOfMemory))
