use Rattle.std.proofs.Common.{◌≡◌, take}
use Rattle.hull_calipers.specs.CornerLists.{numbers_in}
use Rattle.extremal_kgon.proofs.polygon.numbers.Given as goal

abbrev pub invariant-corners : goal.invariant-corners
invariant-corners l = l.numbers ≡ take l.i (numbers_in l.hull)
