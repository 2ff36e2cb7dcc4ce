-- The point file whose points these are, in its units.
use Rattle.std.specs.Prelude.{ℕ}
use Rattle.bounds_model.specs.Asks.{PointFile}
use Rattle.bounded_coords.specs.Asked.{lent}
use Rattle.bounded_coords.specs.declared.ask.Sets.{Sets}

-- the points at this scale
abbrev pub file_of : ℕ → Sets → PointFile
file_of scale sets = record { scale = scale; sets = lent sets }
