-- The laws of the walk to the best annulus.
use Rattle.std.specs.Prelude.{◌≡◌, ◌⊎◌, ◌<◌, pos, ◌≤ℤ◌, ◌<ℤ◌}
use Rattle.min_annulus.specs.declared.difference_vectors.DifferenceVector.{DifferenceVector}
use Rattle.min_annulus.specs.LinearForms.{rise, form_through}
use Rattle.min_annulus.specs.DifferenceVectors.{IsDifference, IsAround, side, cross, measure}

-- a line through two differences that meets the target goes through one alone
abbrev pub IsInGeneralPosition : Type 0
IsInGeneralPosition = (a b : DifferenceVector) → IsDifference a → IsDifference b → side a b ≡ pos 0 → (a.x ≡ b.x) × (a.y ≡ b.y)

-- a triangle around the target has the origin inside or on its border
abbrev pub HasOrigin : Type 0
HasOrigin = (a b : DifferenceVector) → IsDifference a → IsDifference b → pos 0 <ℤ side a b → pos 0 ≤ℤ cross a b

-- a difference joins the triangle around the target instead of one vertex
abbrev pub SomeVertexLeaves : Type 0
SomeVertexLeaves =
    (a b c d : DifferenceVector) → IsDifference a → IsDifference b → IsDifference c → IsDifference d → IsAround a b c
    → IsAround a b d ⊎ (IsAround d b c ⊎ IsAround a d c)

-- where it is above the triangle's plane, and c leaves, the measure falls
abbrev pub MeasureFalls : Type 0
MeasureFalls =
    (a b c d : DifferenceVector) → IsDifference a → IsDifference b → IsDifference c → IsDifference d → IsAround a b c → IsAround a b d
    → rise (form_through a b c) a <ℤ rise (form_through a b c) d → measure a b d < measure a b c
