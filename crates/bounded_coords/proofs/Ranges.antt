-- Numbers within a bound are within a greater one.
use Rattle.std.proofs.Common.{ℕ, ℤ, T, leb, leb→le, arith}
use Rattle.std.proofs.lemmas.Int.{ints}
use Rattle.bounds_model.specs.Numbers.{IsWithin}
use Rattle.bounds_model.specs.Plane.{PlanePoint}
use Rattle.bounds_model.specs.Ranges.{IsDirection}
use Rattle.bounds_model.specs.Fans.{IsShort}

-- a range holds a smaller one
pub within_more : {m n : ℕ} {z : ℤ} → IsWithin m z → T (leb m n) → IsWithin n z
within_more {m} {n} h t = let l = leb→le m n t in record { low = omega (arith, ints, h.low); high = omega (arith, ints, h.high) }

-- a short direction
pub direction_of_short : (d : PlanePoint) → IsShort d → IsDirection d
direction_of_short d h = record { x = within_more h.x tt; y = within_more h.y tt }
