-- Signs, and the quantities that have them.
use Rattle.std.specs.Prelude.{ℕ, zero, suc, ℤ, pos, negsuc, ◌-ℤ◌, ◌*ℤ◌}
use Rattle.integers.specs.Determinants.{det3}
use Rattle.bounds_model.specs.Space.{SpacePoint, dot, squared_length, vector}
use Rattle.kernel_laws.specs.declared.signs.Sign.{Sign}
use Rattle.kernel_laws.specs.declared.signs.Sign.TheVariants.{Minus, Zero, Plus}

-- the sign of a number
abbrev pub sign_of : ℤ → Sign
sign_of (pos zero) = Zero
sign_of (pos (suc n)) = Plus
sign_of (negsuc n) = Minus

-- the other sign
abbrev pub opposite : Sign → Sign
opposite Minus = Plus
opposite Zero = Zero
opposite Plus = Minus

-- the determinant of three vectors
abbrev pub determinant : SpacePoint → SpacePoint → SpacePoint → ℤ
determinant u v w = det3 u.x u.y u.z v.x v.y v.z w.x w.y w.z

-- six times the volume of the tetrahedron a, b, c, d, with the sign of its orientation
abbrev pub volume : SpacePoint → SpacePoint → SpacePoint → SpacePoint → ℤ
volume a b c d = determinant (vector a b) (vector a c) (vector a d)

-- the slack of x under items with this weighted sum and this sum of weights, one of them the origin: above 0 inside their ball, 0 on it
abbrev pub slack_from_origin : SpacePoint → ℕ → SpacePoint → ℤ
slack_from_origin sum weight x = pos 2 *ℤ dot x sum -ℤ pos weight *ℤ squared_length x
