use Rattle.integers.proofs.Cramer.{cramer2_x, cramer2_y}
use Rattle.integers.proofs.laws.cramer_of_two.Goals as goal

pub returns : goal.returns
returns c = λ a b c d x y p q h k. (cramer2_x a b c d x y p q h k, cramer2_y a b c d x y p q h k)
