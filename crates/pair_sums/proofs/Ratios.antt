-- The entries of a weighted mean, as the machine has them.
use Rattle.std.proofs.Common.{◌≡◌, ℕ, ◌≤◌, ◌^◌, pos, to_z, arith}
use Rattle.std.proofs.lemmas.Int.{to_z_pos}
use mir.Syntax.{w128}

-- the denominator
pub denominator : {t : ℕ} → t ≤ 2 ^ 66 → to_z w128 t ≡ pos t
denominator {t} h = to_z_pos w128 t (omega arith)
