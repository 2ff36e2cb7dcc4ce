-- What a test says.
use Rattle.std.proofs.Common.{◌≡◌, Bool, true, false}

-- it has one outcome
pub one_outcome : {b : Bool} → b ≡ false → b ≡ true → ⊥
one_outcome e f = cc
