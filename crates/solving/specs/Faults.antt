-- The faults of solvers as those of every question.
use Rattle.extremal_kgon.specs.declared.polygon.KgonFault as kgon
use Rattle.four_centres.specs.declared.squares.FourFault as four
use Rattle.solving.specs.declared.fault.SolveFault.{SolveFault}
use Rattle.solving.specs.declared.fault.SolveFault.TheVariants.{TooManyCorners, TooManyPoints, OutOfMemory}

-- why a polygon is not found
abbrev pub unsolved_kgon : kgon.KgonFault → SolveFault
unsolved_kgon (kgon.TheVariants.TooManyCorners count) = TooManyCorners count
unsolved_kgon kgon.TheVariants.OutOfMemory = OutOfMemory

-- why four centres are not found
abbrev pub unsolved_four : four.FourFault → SolveFault
unsolved_four (four.TheVariants.TooManyPoints count) = TooManyPoints count
unsolved_four four.TheVariants.OutOfMemory = OutOfMemory
