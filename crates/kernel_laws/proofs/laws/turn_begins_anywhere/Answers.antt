use Rattle.kernel_laws.proofs.Signed.{sign_of-turn_rotated}
use Rattle.kernel_laws.proofs.laws.turn_begins_anywhere.Goals as goal

pub returns : goal.returns
returns c = sign_of-turn_rotated
