use Rattle.std.proofs.Common.{◌≡◌, ◌≤◌, ◌^◌, drop, take, pos, length}
use Rattle.kernel_laws.proofs.Levels.{scaled}
use Rattle.kernel_laws.proofs.Lowering.{gcd_along}
use Rattle.kernel_laws.proofs.lists.lowest.Given as goal

-- with the entries that are left, the divisor is that of all
abbrev pub invariant-divide : goal.invariant-divide
invariant-divide l = record { divisor_is : gcd_along l.divisor (drop l.n-index l.whole) ≡ gcd_along 0 l.whole; small : l.divisor ≤ 2 ^ 124 }

-- the parts are the entries so far over the divisor
abbrev pub invariant-fill : goal.invariant-fill
invariant-fill l = record { parts_are : scaled (pos l.divisor) l.parts.items ≡ take l.n-index l.whole; many : length l.parts.items ≡ l.n-index }
