use Rattle.std.proofs.Common.{◌≡◌, nat_abs, FitsSigned, to_z-of_z}
use mir.Syntax.{w128}
use Rattle.integers.proofs.Sizes.{size_fits_in}
use Rattle.fan_checks.proofs.Widths.{square_within}
use Rattle.fan_checks.proofs.strips.has_size.Goals as goal

pub returns-clause-numerator : goal.returns-clause-numerator
returns-clause-numerator c same =
    let fits : FitsSigned w128 c.extent.result = size_fits_in w128 c.extent.ensures.size tt in
    let is : c.unsigned_abs-width.result ≡ nat_abs c.extent.result = simp to_z-of_z at c.unsigned_abs-width.ensures.value in
    square_within c.extent.result is c.extent.ensures.size.abs (c.is_ratio.ensures.within same).0
