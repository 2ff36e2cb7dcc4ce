use Rattle.std.proofs.Common.{◌≡◌, ◌≤◌, ◌^◌, nat_abs, FitsSigned, w64, to_z-of_z, [], ◌∷◌}
use mir.Syntax.{w128}
use Rattle.integers.proofs.Sizes.{size_fits_in}
use Rattle.integers.proofs.UnsignedArithmetic.{limited, with_limited, amounts, amount_fits}
use Rattle.fan_checks.proofs.Widths.{read_within, stands_within}
use Rattle.fan_checks.proofs.strips.is_wider.Goals as goal

pub overflow_mul-result-3 : goal.overflow_mul-result-3
overflow_mul-result-3 c =
    let fits : FitsSigned w64 c.reach.result = size_fits_in w64 c.reach.ensures.size tt in
    let is : c.unsigned_abs.result ≡ nat_abs c.reach.result = simp to_z-of_z at c.unsigned_abs.ensures.value in
    let width : c.from-width.result ≤ 320000000000 = read_within c.reach.result c.from-width.ensures is c.reach.ensures.size.abs in
    let den : c.den.result ≤ 2 ^ 39 = stands_within c.den.ensures.value c.requires.denominator in
    with_limited (limited _ _ width ∷ limited _ _ den ∷ []) (λ xs h a b. simp (a, b, amounts) (amount_fits xs h w128 _ tt))
