use Rattle.integers.proofs.Order.{le_of_square_le}
use Rattle.integers.proofs.laws.squares_in_order.Goals as goal

pub returns : goal.returns
returns c = λ a b. le_of_square_le {a = a} {b = b}
