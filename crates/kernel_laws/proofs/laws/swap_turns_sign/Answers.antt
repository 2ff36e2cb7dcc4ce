use Rattle.kernel_laws.proofs.Signed.{sign_of-turn_swapped}
use Rattle.kernel_laws.proofs.laws.swap_turns_sign.Goals as goal

pub returns : goal.returns
returns c = sign_of-turn_swapped
