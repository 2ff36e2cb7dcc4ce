use Rattle.std.proofs.Common.{◌≡◌, map, take}
use Rattle.witness_format.proofs.kgon.numbers_of.Given as goal

abbrev pub invariant-loop-position : goal.invariant-loop-position
invariant-loop-position l = l.numbers.items ≡ map (λ p. p.number) (take l.position-index l.position-items)
