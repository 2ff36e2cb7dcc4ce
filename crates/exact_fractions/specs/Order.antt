-- The strict order of fractions.
use Rattle.std.specs.Prelude.{◌*ℤ◌, ◌<ℤ◌}
use Rattle.bounds_model.specs.Fractions.{Fraction}

-- the value of a is below that of b
abbrev pub IsBelow : Fraction → Fraction → Type 0
IsBelow a b = (a.n *ℤ b.d) <ℤ (b.n *ℤ a.d)
