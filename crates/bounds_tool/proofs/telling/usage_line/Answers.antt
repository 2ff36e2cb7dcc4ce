use Rattle.std.proofs.Common.{◌∙◌, ◌++◌, ap, sym, codes, List, ℕ}
use Rattle.bounds_tool.proofs.Lines as lines
use Rattle.bounds_tool.proofs.telling.usage_line.Goals as goal

pub returns-in_default : goal.returns-in_default
returns-in_default c =
    c.joined.ensures
    ∙ (ap (λ (text : List ℕ). codes "bounds: usage: " ++ (text ++ codes "\n")) (c.as_str.ensures.value ∙ c.message.ensures.text)
    ∙ sym (lines.usage_line c.args.fault c.in_default.not-OutOfMemory))
